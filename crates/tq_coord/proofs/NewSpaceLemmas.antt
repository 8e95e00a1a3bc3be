-- While a new space gets its place: what stays on the device, and the pages of the space once they are there.
use Rattle.std.proofs.Common.{◌≡◌, ◌⊎◌, inl, inr, ⊎_elim, ◌<◌, ◌≤◌, ℕ, List, length, get_or, true, refl, sym, ◌∙◌, ap, subst, arith}
use Rattle.std.proofs.lemmas.Bool.{cases_lt}
use Rattle.tq_host.specs.View.{Told, View, IsLawful, IsSettled}
use Rattle.tq_host.specs.Within.{Within}
use Rattle.tq_host.proofs.Steps.{IsSteps}
use Rattle.tq_host.proofs.Within.{wider, weaker, in_a_row}
use Rattle.tq_extent.specs.Bytes.{owned_bytes, reaches, AllReach, IsAny}
use Rattle.tq_extent.specs.Clusters.{clusters_of}
use Rattle.tq_extent.proofs.BytesLemmas.{header_byte_at, behind_header, others_kept, reaches_same}
use Rattle.tq_gate.specs.Log.{IsSameBeside}
use Rattle.tq_model.specs.DeviceForm.{header_bytes, first_page}
use Rattle.tq_model.specs.Reading.{NamedSpace, hold_all, page_tests, payloads_in}
use Rattle.tq_model.specs.Site.{header_clusters, numbers_from}
use Rattle.tq_model.specs.SpaceForm.{raw_space, shape_of}
use Rattle.tq_model.specs.declared.space.Shape.{Shape}
use Rattle.tq_devtab.specs.Device.{IsLonger}
use Rattle.tq_devtab.specs.declared.table.DeviceTable.{DeviceTable}
use Rattle.tq_devtab.specs.InMemory.{IsTableOf, AreTableOf, dev_of, part_of, place_of}
use Rattle.tq_devtab.specs.Volume.{HasTable, IsReserved, IsSameButTable, IsTableOrNext, table_layout, with_new}
use Rattle.tq_devtab.proofs.KeptLemmas.{table_of_kept, keeps_elsewhere, keeps_longer}
use Rattle.tq_devtab.proofs.OwnerLemmas.{reserved_beside_header}
use Rattle.tq_spacefile.specs.File.{IsFormatted, IsSameButSpace, IsAnyStep}
use Rattle.tq_coord.specs.Spaces.{HasNewPages, IsOfTable, IsLaidOut, IsWithoutOrWith}
use Rattle.tq_coord.proofs.SettledLemmas.{settled_images}

-- pages that are formatted stay so where the bytes of their clusters do
pub formatted_kept : (shape : Shape) (clusters old new : List ℕ) → owned_bytes clusters new ≡ owned_bytes clusters old
    → IsFormatted shape clusters old → IsFormatted shape clusters new
formatted_kept shape clusters old new same is = record {
  page = ap (λ (b : List ℕ). hold_all (page_tests shape.pages (raw_space (first_page b)))) same ∙ is.page;
  shape_is = ap (λ (b : List ℕ). shape_of shape.pages (raw_space (first_page b))) same ∙ is.shape_is;
  empty = ap (payloads_in shape.pages) same ∙ is.empty;
}

-- a byte of the header that is neither the table's nor its selector stays where the table is written, and so does each behind it
pub beside_table_kept : (old new : List ℕ) → IsSameButTable 0 old new → (i : ℕ) → (IsOfTable i → ⊥) → get_or new i 0 ≡ get_or old i 0
beside_table_kept old new step i other = elim (cases_lt i header_bytes) [
  | inl before ↦
      sym (header_byte_at i new before) ∙ step.bytes.outside i (outside (cases_lt i 1024) (cases_lt i 82944)) (λ selects. other (inl (sym selects)))
      ∙ header_byte_at i old before
  | inr behind ↦ step.elsewhere i (behind_header i behind)
]
  where
    outside : (i < 1024) ⊎ (1024 ≤ i) → (i < 82944) ⊎ (82944 ≤ i) → (i < 1024) ⊎ (82944 ≤ i)
    outside (inl before) any = inl before
    outside (inr from) (inr past) = inr past
    outside (inr from) (inl within) = absurd (other (inr (from, within)))

module _ (t : DeviceTable) (dev : dev_of t ≡ 0) (place : place_of t ≡ 0) (n : NamedSpace) (shape : Shape) (is : IsReserved (part_of t) n) where
  abbrev own : List ℕ
  own = clusters_of n.extents

  abbrev header : List ℕ
  header = numbers_from 0 header_clusters

  -- what an image may have at each moment
  abbrev Is : List ℕ → Type 0
  Is image = IsWithoutOrWith (part_of t) n shape image

  laid_steps : IsSteps (IsLaidOut n)
  laid_steps = record {
    none = λ c. record { longer = omega arith; bytes = λ i lt free other. refl };
    both = λ a b c first second. record {
      longer = omega (arith, first.longer, second.longer);
      bytes = λ i lt free other. second.bytes i (omega (arith, lt, first.longer)) free other ∙ first.bytes i lt free other;
    };
  }

  -- the device gets its length, and then the space its pages
  grown : (size : ℕ) (b c : List ℕ) → IsLonger size b c → IsTableOf t b → IsTableOf t c
  grown size b c step has = table_of_kept t b c (keeps_longer size b c has.has.size step) has

  paged : (b c : List ℕ) → IsSameButSpace own b c → IsTableOf t b → IsTableOf t c
  paged b c step has = table_of_kept t b c (keeps_elsewhere own IsAnyStep b c (reserved_beside_header (part_of t) n is) step) has

  -- its pages stay where the table is written
  pages_kept : (b c : List ℕ) → IsSameButTable 0 b c → HasNewPages n shape b → HasNewPages n shape c
  pages_kept b c step has = record {
    formatted =
        let apart = reserved_beside_header (part_of t) n is in
        formatted_kept shape own b c (others_kept header own (IsSameBeside (table_layout 0)) b c step apart) has.formatted;
    reach = reaches_same own b c step.size ∙ has.reach;
  }

  -- without the space still
  still_without : (a b : View) → Within 0 (IsLaidOut n) (IsTableOf t) a b → Within 0 (IsLaidOut n) Is a b
  still_without a b within =
      weaker 0 (IsLaidOut n) laid_steps (IsTableOf t) Is a b (λ i c was has. inl (subst (λ (k : ℕ). HasTable k (part_of t) c) place has.has)) within

  module _ (end : ℕ) (a b : View) where
    growth : AreTableOf t a → Within 0 (IsLonger end) IsAny a b → Within 0 (IsLaidOut n) (IsTableOf t) a b
    growth have first =
        wider 0 (IsLonger end) (IsLaidOut n) IsAny (IsTableOf t) a b
        (λ i c was step any. (
          record { longer = step.longer; bytes = λ at lt free other. step.bytes at lt },
          grown end i c step (have i (subst (λ d. a.may_leave d i) (sym dev) was)),
        )) first

    pub stop_grown : AreTableOf t a → Within 0 (IsLonger end) IsAny a b → Within 0 (IsLaidOut n) Is a b
    stop_grown have first = still_without a b (growth have first)

    -- the length reaches to the end of the clusters on which the space is formatted
    module _ (tells : Told) (map : List ℕ) (mapped : map ≡ own) (reach : (image : List ℕ) → end ≤ length image → reaches own image ≡ true)
        (done : tells.reads → IsLonger end (a.reads 0) (b.reads 0) × (end ≤ length (b.reads 0))) (e : View) where
      pub map_reached : tells.reads → reaches map (b.reads 0) ≡ true
      map_reached told = subst (λ (l : List ℕ). reaches l (b.reads 0) ≡ true) (sym mapped) (reach (b.reads 0) (done told).1)

      module _ (kept : tells.reads → IsSameButSpace map (b.reads 0) (e.reads 0)) (made : tells.reads → IsFormatted shape map (e.reads 0)) where
        pub new_pages : tells.reads → HasNewPages n shape (e.reads 0)
        new_pages told = record {
          formatted = subst (λ (l : List ℕ). IsFormatted shape l (e.reads 0)) mapped (made told);
          reach = reaches_same own (b.reads 0) (e.reads 0) (kept told).size ∙ reach (b.reads 0) (done told).1;
        }

        pub table_there : tells.reads → IsTableOf t (a.reads 0) → IsTableOf t (e.reads 0)
        table_there told has =
            paged (b.reads 0) (e.reads 0) (subst (λ (l : List ℕ). IsSameButSpace l (b.reads 0) (e.reads 0)) mapped (kept told))
            (grown end (a.reads 0) (b.reads 0) (done told).0 has)

        pub pages_stay : (f : View) → IsSameButTable (dev_of t) (e.reads (dev_of t)) (f.reads (dev_of t)) → tells.reads → HasNewPages n shape (f.reads 0)
        pages_stay f step told = pages_kept (e.reads 0) (f.reads 0) (subst (λ d. IsSameButTable d (e.reads d) (f.reads d)) dev step) (new_pages told)

      module _ (lawful : IsLawful tells b) (settled : IsSettled 0 b) (have : AreTableOf t a) (first : Within 0 (IsLonger end) IsAny a b)
          (second : AllReach 0 map b → Within 0 (IsSameButSpace map) IsAny b e) where
        preparation : Within 0 (IsLaidOut n) (IsTableOf t) a e
        preparation =
            let all = settled_images 0 (λ image. reaches map image ≡ true) b lawful settled map_reached in
            let step = subst (λ (l : List ℕ). Within 0 (IsSameButSpace l) IsAny b e) mapped (second all) in
            in_a_row 0 (IsLaidOut n) laid_steps (IsTableOf t) a b e (growth have first)
            (wider 0 (IsSameButSpace own) (IsLaidOut n) IsAny (IsTableOf t) b e
            (λ i c was step any. (
              record { longer = omega (arith, step.size); bytes = λ at lt free other. step.elsewhere at free },
              paged i c step ((growth have first).own i was).now,
            )) step)

        pub stop_paged : Within 0 (IsLaidOut n) Is a e
        stop_paged = still_without a e preparation

        -- the space comes into the table
        abbrev IsEntry : ℕ → ℕ → View → Type 0
        IsEntry d k f = Within d (IsSameButTable d) (IsTableOrNext d k (part_of t) (with_new n (part_of t)) (e.reads d)) e f

        pub stop_entered : (f : View) → IsLawful tells e → IsSettled 0 e → (tells.reads → HasNewPages n shape (e.reads 0))
            → (AreTableOf t e → ((image : List ℕ) → e.may_leave (dev_of t) image → reaches own image ≡ true) → IsEntry (dev_of t) (place_of t) f)
            → Within 0 (IsLaidOut n) Is a f
        stop_entered f lawful_e settled_e pages third =
            let on : (image : List ℕ) → e.may_leave (dev_of t) image → e.may_leave 0 image = λ image may. subst (λ d. e.may_leave d image) dev may in
            let all = settled_images 0 (HasNewPages n shape) e lawful_e settled_e pages in
            let within = third (λ image may. (preparation.own image (on image may)).now) (λ image may. (all image (on image may)).reach) in
            let here = subst (λ k. IsEntry 0 k f) place (subst (λ d. IsEntry d (place_of t) f) dev within) in
            in_a_row 0 (IsLaidOut n) laid_steps Is a e f stop_paged
            (wider 0 (IsSameButTable 0) (IsLaidOut n) (IsTableOrNext 0 0 (part_of t) (with_new n (part_of t)) (e.reads 0)) Is e f
            (λ i c was step now. (
              record { longer = omega (arith, step.size); bytes = λ at lt free other. beside_table_kept i c step at other },
              ⊎_elim (λ old. inl old) (λ new. inr (new.0, pages_kept (e.reads 0) c new.1 (pages (lawful_e.reads_told (lawful_e.stops_told 0 i was))))) now,
            )) here)
