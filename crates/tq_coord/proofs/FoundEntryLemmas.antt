-- The site for which one device stands, entry by entry of its table.
use Rattle.std.proofs.Common.{◌≡◌, ℕ, suc, ◌+◌, List, [], ◌∷◌, refl, sym, ◌∙◌, ap, subst, arith, Option, Some, None, Bool, true, length, get_or, map}
use Rattle.std.specs.Prelude.{is_some, option_map, ◌&&◌, ◌*◌}
use Rattle.tq_host.specs.View.{Images}
use Rattle.tq_extent.specs.Clusters.{clusters_of}
use Rattle.tq_extent.proofs.BytesLemmas.{bytes_of-owned}
use Rattle.tq_model.specs.DeviceForm.{Journal}
use Rattle.tq_model.specs.Moves.{IndexedSpace, space_of}
use Rattle.tq_model.specs.Site.{Site, SpaceOnDevice}
use Rattle.tq_model.specs.Reading.{NamedSpace, site_found, placed_as, space_in}
use Rattle.tq_model.specs.Reading as reads
use Rattle.tq_model.proofs.Images.{has_pages, each_space_holds, found_spaces}
use Rattle.tq_devtab.specs.Volume.{TablePart, HasTable}
use Rattle.tq_site.specs.Journal.{HasEpoch}
use Rattle.tq_spacefile.specs.declared.file.SpaceFile.{SpaceFile}
use Rattle.tq_spacefile.specs.File.{HasSpace}
use Rattle.tq_coord.specs.Manager.{IsFileAt, placed_in}
use Rattle.tq_coord.specs.Together.{place_of}
use Rattle.tq_coord.specs.Frame.{device_count}
use Rattle.tq_coord.proofs.FoundLemmas.{with_journal, part_stands, pages_by, entry_pages, entry_placed}

-- what stands in the place of an entry, and that its pages have a reading where it is used
pub record IsPlacedAt (t : TablePart) (epoch : ℕ) (image : List ℕ) (named : Option NamedSpace) (placed : Option SpaceOnDevice) : Type 0 where
  pub is : reads.placed_in 0 (with_journal t epoch) image named ≡ placed
  pub pages : (n : NamedSpace) → named ≡ Some n → has_pages (with_journal t epoch) n image ≡ true

-- a space as its device has it
abbrev pub space_placed : NamedSpace → IndexedSpace → ℕ → SpaceOnDevice
space_placed n held logged = record { name = n.name; pages = n.pages; extents = n.extents; logged = logged; space = space_of held }

-- the site of a device alone
abbrev pub site_by : TablePart → ℕ → List (Option SpaceOnDevice) → Site
site_by t epoch placed = record {
  identity = Some (record { site = t.site; epoch = epoch });
  next = 0;
  clock = 0;
  devices = Some (record { clusters = t.clusters; next_space = t.next_space; entries = placed }) ∷ [];
}

mapped_as : {X Y : Type 0} (f : Option X → Option Y) (xs : List (Option X)) (ys : List (Option Y)) → length xs ≡ length ys
    → ((i : ℕ) → f (get_or xs i None) ≡ get_or ys i None) → map f xs ≡ ys
mapped_as f [] [] same each = refl
mapped_as f [] (y ∷ ys) same each = absurd (omega (arith, same))
mapped_as f (x ∷ xs) [] same each = absurd (omega (arith, same))
mapped_as f (x ∷ xs) (y ∷ ys) same each =
    let first = each 0 in
    let rest = mapped_as f xs ys (omega (arith, same)) (λ i. each (suc i)) in
    λ i. first i ∷ rest i

module _ (t : TablePart) (epoch : ℕ) where
  -- a space that an image has
  pub placed_by : (n : NamedSpace) (held : IndexedSpace) (logged : ℕ) (image : List ℕ)
      → HasSpace (place_of 0 t n) (clusters_of n.extents) epoch held logged image
      → IsPlacedAt t epoch image (Some n) (Some (space_placed n held logged))
  placed_by n held logged image has = record {
    is =
        ap (λ (b : List ℕ). option_map (placed_as n) (space_in t.site (8 * n.ordinal + 0) epoch n.pages b)) (bytes_of-owned n.extents image)
        ∙ ap (option_map (placed_as n)) has.reads
        ∙ ap (λ (k : ℕ). Some (space_placed n held k)) (sym has.ends);
    pages = λ m same. ap (λ o. pages_of_option o) (sym same) ∙ pages_by t epoch image n ∙ (λ i. has.page i && is_some (has.reads i));
  }
    where
      pages_of_option : Option NamedSpace → Bool
      pages_of_option None = true
      pages_of_option (Some m) = has_pages (with_journal t epoch) m image

  -- and one that is in memory
  pub placed_file : (named : Option NamedSpace) (file : Option SpaceFile) (image : List ℕ) → IsFileAt t epoch named file image
      → IsPlacedAt t epoch image named (placed_in named file)
  placed_file named file image is = record { is = entry_placed t epoch image named file is; pages = λ n same. entry_pages t epoch image named file n is same }

  pub entries_found : (placed : List (Option SpaceOnDevice)) (images : Images) → HasTable 0 t (images 0) → HasEpoch epoch (images 0)
      → length t.entries ≡ length placed
      → ((i : ℕ) → IsPlacedAt t epoch (images 0) (get_or t.entries i None) (get_or placed i None))
      → site_found device_count images ≡ Some (site_by t epoch placed)
  entries_found placed images table journal same each =
      let d = with_journal t epoch in
      let j : Journal = record { epoch = epoch; decision = None } in
      found_spaces d j images (part_stands t epoch (images 0) table journal) refl (each_space_holds d (images 0) t.entries (λ i n at. (each i).pages n at))
      ∙ ap (λ (entries : List (Option SpaceOnDevice)). Some (site_by t epoch entries))
      (mapped_as (reads.placed_in 0 d (images 0)) t.entries placed same (λ i. (each i).is))

-- a table of the same site tells of the same places
pub other_table : (t u : TablePart) (epoch : ℕ) (image : List ℕ) (named : Option NamedSpace) (placed : Option SpaceOnDevice) → u.site ≡ t.site
    → IsPlacedAt t epoch image named placed
    → IsPlacedAt u epoch image named placed
other_table t u epoch image None placed same is = record { is = is.is; pages = λ n e. absurd (cc) }
other_table t u epoch image (Some m) placed same is = record {
  is = subst (λ k. reads.placed_in 0 (with_journal (record t { site = k }) epoch) image (Some m) ≡ placed) (sym same) is.is;
  pages = λ n e. subst (λ k. has_pages (with_journal (record t { site = k }) epoch) n image ≡ true) (sym same) (is.pages n e);
}
