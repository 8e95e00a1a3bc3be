-- What stands where nothing refuses a space on its device.
use Rattle.std.proofs.Common.{◌≡◌, ◌<◌, ◌≤◌, ℕ, Bool, true, false, cond, List, length, Option, Some, None, refl, arith, ltb-false, leb-false}
use Rattle.std.specs.Prelude.{nat_le, nat_lt, ◌||◌, if◌then◌else◌}
use Rattle.tq_model.specs.declared.request.SpaceCreation.{SpaceCreation}
use Rattle.tq_model.specs.Space.{overhead_pages}
use Rattle.tq_model.specs.Site.{Volume, spaces_on, clusters_for, free_clusters, table_entries, last_space}
use Rattle.tq_model.specs.Step.{shape_asked, is_table_full, placing_refusal, pages_refusal}

not-refused : {X : Type 0} (b : Bool) (x : X) (o : Option X) → (if b then Some x else o) ≡ None → (b ≡ false) × (o ≡ None)
not-refused true x o none = absurd (cc)
not-refused false x o none = (refl, none)

neither : (b c : Bool) → (b || c) ≡ false → (b ≡ false) × (c ≡ false)
neither true c none = absurd (cc)
neither false c none = (refl, none)

-- A space that its device does not refuse is larger than its overhead, and has an entry, an ordinal and its clusters.
pub record IsGranted (c : SpaceCreation) (v : Volume) : Type 0 where
  pub large : overhead_pages (shape_asked c) < c.pages
  pub room : length (spaces_on v) < table_entries
  pub ordinal : v.next_space < last_space
  pub enough : clusters_for c.pages ≤ free_clusters v

pub granted : (c : SpaceCreation) (v : Volume) → pages_refusal c v ≡ None → IsGranted c v
granted c v none =
    let large = not-refused (nat_le c.pages (overhead_pages (shape_asked c))) _ (placing_refusal c v) none in
    let full = not-refused (is_table_full v) _ _ large.1 in
    let places = neither (nat_le table_entries (length (spaces_on v))) (nat_le last_space v.next_space) full.0 in
    let lack = not-refused (nat_lt (free_clusters v) (clusters_for c.pages)) _ None full.1 in
    record {
      large = leb-false c.pages (overhead_pages (shape_asked c)) large.0;
      room = leb-false table_entries (length (spaces_on v)) places.0;
      ordinal = leb-false last_space v.next_space places.1;
      enough = ltb-false (free_clusters v) (clusters_for c.pages) lack.0;
    }
