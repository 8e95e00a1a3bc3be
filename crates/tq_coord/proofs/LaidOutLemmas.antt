-- What stays on a device while a new space is laid out there: its journal, and the spaces of its table.
use Rattle.std.proofs.Common.{◌≡◌, ◌<◌, ◌≤◌, ⊎_elim, ℕ, true, List, length, get_or, Option, Some, None, sym, ◌∙◌, subst, arith}
use Rattle.std.specs.Prelude.{◌/◌}
use Rattle.std.proofs.lemmas.Bool.{true≢false}
use Rattle.std.proofs.lemmas.List.{ext_get_or}
use Rattle.tq_extent.specs.Bytes.{is_owned, owned_bytes, reaches, byte_address, byte_count}
use Rattle.tq_extent.specs.Clusters.{clusters_of}
use Rattle.tq_extent.proofs.BytesLemmas.{length-owned, get_or-owned, address_owned, address_reached, reaches_longer, header_byte}
use Rattle.tq_extent.proofs.OwnerLemmas.{shared_alike}
use Rattle.tq_model.specs.DeviceForm.{cluster_bytes, header_bytes}
use Rattle.tq_model.specs.Reading.{NamedSpace}
use Rattle.tq_model.specs.Site.{header_clusters, numbers_from}
use Rattle.tq_devtab.specs.Volume.{TablePart, HasTable, IsReserved}
use Rattle.tq_devtab.proofs.KeptLemmas.{table_has, table_reaches}
use Rattle.tq_devtab.proofs.OwnerLemmas.{entry_beside_header, reserved_beside_header, reserved_shares_none}
use Rattle.tq_site.proofs.KeptLemmas.{KeepsJournal}
use Rattle.tq_spacefile.specs.declared.file.SpaceFile.{SpaceFile}
use Rattle.tq_spacefile.proofs.Files.{file_kept}
use Rattle.tq_coord.specs.Manager.{HasFile, HasFileOf}
use Rattle.tq_coord.specs.Spaces.{IsOfTable, IsLaidOut}

-- the bytes of an owner stay where each of them does
pub owned_kept : (clusters b c : List ℕ) → reaches clusters b ≡ true → length b ≤ length c
    → ((at : ℕ) → at < length b → is_owned clusters at ≡ true → get_or c at 0 ≡ get_or b at 0) → owned_bytes clusters c ≡ owned_bytes clusters b
owned_kept clusters b c reach longer same =
    let still = reaches_longer clusters b c longer reach in
    let size = length-owned clusters c still in
    ext_get_or 0 (owned_bytes clusters c) (owned_bytes clusters b) (size ∙ sym (length-owned clusters b reach))
    (λ k below.
    let lt : k < byte_count clusters = omega (arith, below, size) in
    get_or-owned clusters c k 0 still lt ∙ same (byte_address clusters k) (address_reached clusters b k reach lt) (address_owned clusters k lt)
    ∙ sym (get_or-owned clusters b k 0 reach lt))

module _ (t : TablePart) (n : NamedSpace) (reserved : IsReserved t n) (b c : List ℕ) (step : IsLaidOut n b c) (long : header_bytes ≤ length b) where
  header_kept : (at : ℕ) → at < header_bytes → (IsOfTable at → ⊥) → get_or c at 0 ≡ get_or b at 0
  header_kept at lt other =
      let apart = shared_alike (clusters_of n.extents) (numbers_from 0 header_clusters) (reserved_beside_header t n reserved) in
      step.bytes at (omega (arith, lt, long)) (apart (at / cluster_bytes) (header_byte at lt)) other

  pub journal_laid : KeepsJournal b c
  journal_laid = record {
    size = long;
    long = omega (arith, long, step.longer);
    areas = λ at from to. header_kept at (omega arith) (λ of. ⊎_elim (λ is. omega arith) (λ within. omega (arith, within.1)) of);
    selector = header_kept 513 (omega arith) (λ of. ⊎_elim (λ is. omega arith) (λ within. omega (arith, within.0)) of);
  }

  module _ (least : header_clusters ≤ t.clusters) (has : HasTable 0 t b) (i : ℕ) (m : NamedSpace) (at : get_or t.entries i None ≡ Some m) where
    entry_reaches : reaches (clusters_of m.extents) b ≡ true
    entry_reaches = table_reaches 0 t b has i m at

    entry_laid : owned_bytes (clusters_of m.extents) c ≡ owned_bytes (clusters_of m.extents) b
    entry_laid =
        let own = clusters_of m.extents in
        let apart = shared_alike (clusters_of n.extents) own (reserved_shares_none t n reserved i m at) in
        let beside = entry_beside_header t.next_space t.clusters (length b) t.entries (table_has 0 t b has) least i m at in
        owned_kept own b c entry_reaches step.longer (λ place lt mine.
        step.bytes place lt (apart (place / cluster_bytes) mine)
        (λ of. true≢false (sym (header_byte place (⊎_elim (λ is. omega arith) (λ within. omega (arith, within.1)) of)) ∙ beside (place / cluster_bytes) mine)))

    file_laid : (epoch next : ℕ) (f : SpaceFile) → HasFile t epoch next m f b → HasFile t epoch next m f c
    file_laid epoch next f is =
        let own = clusters_of m.extents in
        let still = reaches_longer own b c step.longer entry_reaches in
        record {
          place = is.place;
          file = file_kept f epoch b c (subst (λ (l : List ℕ). owned_bytes l c ≡ owned_bytes l b) (sym is.place.clusters) entry_laid)
              (subst (λ (l : List ℕ). reaches l c ≡ true) (sym is.place.clusters) still) is.file;
          newer = is.newer;
        }

  -- each entry's space stays
  pub file_of_laid : header_clusters ≤ t.clusters → HasTable 0 t b → (i epoch next : ℕ) (named : Option NamedSpace) (file : Option SpaceFile)
      → get_or t.entries i None ≡ named
      → HasFileOf t epoch next named file b → HasFileOf t epoch next named file c
  file_of_laid least has i epoch next None None at is = tt
  file_of_laid least has i epoch next None (Some f) at is = absurd is
  file_of_laid least has i epoch next (Some m) None at is = absurd is
  file_of_laid least has i epoch next (Some m) (Some f) at is = file_laid least has i m at epoch next f is
