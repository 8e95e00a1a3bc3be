-- A table where a space has more pages, and what the images of its device have.
use Rattle.std.proofs.Common.{◌≡◌, inl, inr, ⊎_elim, ◌≤◌, ℕ, ◌+◌, ◌*◌, true, List, length, set, Option, Some, refl, sym, ap, ◌∙◌, subst, arith}
use Rattle.std.specs.Prelude.{nat_le, nat_lt}
use Rattle.std.proofs.lemmas.Bool.{le-leb, ltb-true}
use Rattle.tq_host.specs.View.{Told, View, Streams, IsLawful, IsSettled}
use Rattle.tq_host.specs.Within.{Came, Within}
use Rattle.tq_host.proofs.Within.{wider}
use Rattle.tq_model.specs.Site.{most_pages}
use Rattle.tq_model.specs.DeviceForm.{cluster_bytes}
use Rattle.tq_model.specs.Reading.{NamedSpace, is_extent}
use Rattle.tq_extent.specs.Clusters.{clusters_of, new_clusters}
use Rattle.tq_extent.proofs.ClusterLemmas.{all-free-within, length-with_mark, lowest-free}
use Rattle.tq_extent.proofs.CountLemmas.{length-new}
use Rattle.tq_extent.proofs.ExtentLemmas.{clusters_of-as_extents}
use Rattle.tq_model.specs.declared.answer.Extent.{Extent}
use Rattle.tq_devtab.specs.declared.table.DeviceTable.{DeviceTable}
use Rattle.tq_devtab.specs.declared.entry.TableEntry.{TableEntry}
use Rattle.tq_devtab.specs.Device.{IsAny, IsLonger}
use Rattle.tq_devtab.specs.InMemory.{IsTableOf, AreTableOf, dev_of, part_of, place_of}
use Rattle.tq_devtab.specs.Table.{AreReached, IsTable, changed_entry, entries_view, entry_of, extents_of, longer_space, owned_by, entry_view}
use Rattle.tq_devtab.specs.Volume.{TablePart, IsLongerButTable, IsSameButTable, IsTableOrLonger, IsTableOrNext, free_of, further_extents, further_for, lowest_of, with_longer}
use Rattle.tq_devtab.proofs.EntryLemmas.{entry_holds, entry_parts, table_parts}
use Rattle.tq_devtab.proofs.FreeLemmas.{ends_by}
use Rattle.tq_devtab.proofs.KeptLemmas.{keeps_longer, table_of_kept}
use Rattle.tq_devtab.proofs.ListLemmas.{all-weaker}
use Rattle.tq_devtab.proofs.OwnerLemmas.{entry_place, free_count}
use Rattle.tq_devtab.proofs.ReservedLemmas.{ReachIn, ends-reached}
use Rattle.tq_devtab.proofs.StoreLemmas.{least, table_images, table_in, view-set, views}
use Rattle.tq_devtab.proofs.TableLemmas.{all-present, as_extents-some, extent-reached, find-space, taken_free, with_longer_space}

-- a device reaches to the end of a space of its table
pub space_reached : (next clusters size ordinal : ℕ) (entries : List (Option NamedSpace)) (n : NamedSpace) → IsTable next clusters size entries
    → entry_of ordinal entries ≡ Some n → AreReached size n.extents
space_reached next clusters size ordinal entries n table found =
    let at = entry_place ordinal entries n found in
    let holds = all-present (entry_holds next clusters size) entries at.index n (table_parts next clusters size entries table).each at.at in
    all-weaker (is_extent clusters size) (ends_by size) n.extents (extent-reached clusters size) (entry_parts next clusters size n holds).extents

module _ (t : DeviceTable) (ordinal pages : ℕ) (n : NamedSpace) (found : entry_of ordinal (views t) ≡ Some n) where
  abbrev d : TablePart
  d = part_of t

  abbrev more : List Extent
  more = further_extents pages n d

  abbrev longer : NamedSpace → Option NamedSpace
  longer m = Some (longer_space (m.pages + pages) (further_extents pages m d) m)

  -- the further clusters are of the device
  pub further_reached : AreReached (cluster_bytes * t.clusters) more
  further_reached =
      let size = cluster_bytes * t.clusters in
      let owned = owned_by t.clusters (views t) in
      let lowest = lowest_of (further_for pages n) d in
      let long : length owned ≡ t.clusters = length-with_mark true (clusters_of (extents_of (views t))) (new_clusters t.clusters) ∙ length-new t.clusters (least t) in
      let within = all-free-within lowest owned (lowest-free (further_for pages n) owned) in
      let reach : ReachIn size lowest =
      all-weaker (λ (k : ℕ). nat_lt k (length owned)) (λ (k : ℕ). nat_le (cluster_bytes * (k + 1)) size) lowest
      (λ k below. let lt = ltb-true k (length owned) below in le-leb (cluster_bytes * (k + 1)) size (omega (arith, lt, long))) within in
      ends-reached size more (as_extents-some lowest) (subst (ReachIn size) (sym (clusters_of-as_extents lowest)) reach)

  pub longer_table : (size : ℕ) → n.pages + pages ≤ most_pages → further_for pages n ≤ free_of d → IsTable t.next t.clusters size (views t)
      → AreReached size more → IsTable t.next t.clusters size (with_longer ordinal pages d).entries
  longer_table size most enough table reached =
      let need = further_for pages n in
      let count = free_count t.next size d (least t) table in
      let free = taken_free t.clusters size need (views t) more (omega (arith, count.0, enough)) refl (clusters_of-as_extents (lowest_of need d)) reached in
      let at = find-space ordinal (views t) n found in
      subst (IsTable t.next t.clusters size) (at.changed (λ m. Some (longer_space (n.pages + pages) more m)) ∙ sym (at.changed longer))
      (with_longer_space t.next t.clusters size ordinal (n.pages + pages) (views t) n more (least t) t.most table found (omega arith) most free).0

  -- an image that has the table and reaches to the end of the further clusters may have the longer one
  pub longer_in : (end : ℕ) (image : List ℕ) → n.pages + pages ≤ most_pages → further_for pages n ≤ free_of d → ((size : ℕ) → end ≤ size → AreReached size more)
      → IsTableOf t image × (end ≤ length image) → IsTable t.next t.clusters (length image) (with_longer ordinal pages d).entries
  longer_in end image most enough reach is = longer_table (length image) most enough (table_in t image is.0) (reach (length image) is.1)

  -- the entries in memory
  pub longer_entries : (e : TableEntry) (i : ℕ) (entries : List (Option TableEntry)) → entries ≡ t.entries.items
      → entry_view e ≡ longer_space (n.pages + pages) more n
      → ((change : NamedSpace → Option NamedSpace) (m : NamedSpace) → entry_of ordinal (entries_view entries) ≡ Some m
      → changed_entry ordinal change (entries_view entries) ≡ set (entries_view entries) i (change m))
      → entries_view (set t.entries.items i (Some e)) ≡ (with_longer ordinal pages d).entries
  longer_entries e i entries are is change =
      let there = ap (λ (l : List (Option TableEntry)). entry_of ordinal (entries_view l)) are ∙ found in
      view-set t.entries.items i (Some e) ∙ ap (λ (k : NamedSpace). set (views t) i (Some k)) is
      ∙ ap (λ (l : List (Option TableEntry)). set (entries_view l) i (longer n)) (sym are) ∙ sym (change longer n there)
      ∙ ap (λ (l : List (Option TableEntry)). changed_entry ordinal longer (entries_view l)) are

-- ---- a device that is made longer, and then has a table stored

-- two calls, of which the second goes on from what the first left
pub two_calls : (dev : ℕ) (S R T : List ℕ → List ℕ → Type 0) (P O Q : List ℕ → Type 0) (start mid now : View)
    → ((a b : List ℕ) → start.may_leave dev a → S a b → P b → T a b × Q b)
    → ((a b c : List ℕ) → start.may_leave dev a → S a b → R b c → O c → T a c × Q c)
    → Within dev S P start mid → Within dev R O mid now → Within dev T Q start now
two_calls dev S R T P O Q start mid now alone both first second =
    let early : (c : List ℕ) → Came dev S P start c → Came dev T Q start c = λ c a.
    let to = alone a.image c a.was a.step a.now in
    record { image = a.image; was = a.was; step = to.0; now = to.1 } in
    let late : (c : List ℕ) → Came dev R O mid c → Came dev T Q start c = λ c a.
    let from = first.own a.image a.was in
    let to = both from.image a.image c from.was from.step a.step a.now in
    record { image = from.image; was = from.was; step = to.0; now = to.1 } in
    record {
      later = omega (arith, first.later, second.later);
      own = λ c may. late c (second.own c may);
      others = λ d c ne may. first.others d c ne (second.others d c ne may);
      others_read = λ d ne. second.others_read d ne ∙ first.others_read d ne;
      streams = second.streams ∙ first.streams;
      pictures = λ t p le left. ⊎_elim (λ was. ⊎_elim (λ old. inl old) (λ a. inr (record { own = early (p.images dev) a.own; others = a.others; output = a.output })) (first.pictures t p le was))
          (λ a. inr (record {
            own = late (p.images dev) a.own;
            others = λ d ne. first.others d (p.images d) ne (a.others d ne);
            output = a.output ∙ ap (λ (s : Streams). s.output) first.streams;
          })) (second.pictures t p (omega (arith, le, first.later)) left);
    }

further_long : (end size : ℕ) (old new : List ℕ) → end ≤ size → IsLonger end old new → IsLonger size old new
further_long end size old new le step = let most = step.most in record { longer = step.longer; most = omega (arith, most, le); bytes = step.bytes }

-- what is longer alone is the same in the table too
pub longer_alone : (dev end size : ℕ) (old new : List ℕ) → end ≤ size → IsLonger end old new → IsLongerButTable dev size old new
longer_alone dev end size old new le step = record {
  between = new;
  longer = further_long end size old new le step;
  outside = record { size = refl; elsewhere = λ at other. refl; bytes = record { outside = λ i beside other. refl; size = refl } };
}

pub longer_then : (dev end size : ℕ) (old mid new : List ℕ) → end ≤ size → IsLonger end old mid → IsSameButTable dev mid new → IsLongerButTable dev size old new
longer_then dev end size old mid new le step same = record { between = mid; longer = further_long end size old mid le step; outside = same }

-- nothing is changed
pub longer_none : (dev size : ℕ) (c : List ℕ) → IsLongerButTable dev size c c
longer_none dev size c = longer_alone dev 0 size c c (omega arith) (record { longer = omega arith; most = omega arith; bytes = λ i lt. refl })

-- no call at all
pub stop_none : (t : DeviceTable) (next : TablePart) (v : View) → AreTableOf t v
    → Within (dev_of t) (IsLongerButTable (dev_of t) (cluster_bytes * t.clusters))
    (IsTableOrLonger (dev_of t) (place_of t) (part_of t) next (v.reads (dev_of t))) v v
stop_none t next v are = record {
  later = omega arith;
  own = λ c may. record { image = c; was = may; step = longer_none (dev_of t) (cluster_bytes * t.clusters) c; now = inl (are c may).has };
  others = λ d c ne may. may;
  others_read = λ d ne. refl;
  streams = refl;
  pictures = λ t p le left. inl left;
}

module _ (t : DeviceTable) (next : TablePart) (end : ℕ) (le : end ≤ cluster_bytes * t.clusters) where
  pub table_of_longer : (old new : List ℕ) → IsLonger end old new → IsTableOf t old → IsTableOf t new
  table_of_longer old new step is = table_of_kept t old new (keeps_longer end old new is.has.size step) is

  -- each image after it
  pub images_grown : {tells : Told} (old mid : View) → IsLawful tells old → IsLawful tells mid → IsSettled (dev_of t) mid
      → (tells.reads → IsLonger end (old.reads (dev_of t)) (mid.reads (dev_of t)) × (end ≤ length (mid.reads (dev_of t)))) → AreTableOf t old
      → (image : List ℕ) → mid.may_leave (dev_of t) image → IsTableOf t image × (end ≤ length image)
  images_grown old mid lawful_old lawful_mid settled grown are image may =
      let told = lawful_mid.reads_told (lawful_mid.stops_told (dev_of t) image may) in (
        table_images t t old mid lawful_old lawful_mid refl settled
            (λ told is. table_of_longer (old.reads (dev_of t)) (mid.reads (dev_of t)) (grown told).0 is) are image may,
        subst (λ (i : List ℕ). end ≤ length i) (sym (settled image may)) (grown told).1,
      )

  module _ (start mid : View) (are : AreTableOf t start) (grown : Within (dev_of t) (IsLonger end) IsAny start mid) where
    abbrev size : ℕ
    size = cluster_bytes * t.clusters

    abbrev Stops : List ℕ → Type 0
    Stops = IsTableOrLonger (dev_of t) (place_of t) (part_of t) next (start.reads (dev_of t))

    alone : (a b : List ℕ) → start.may_leave (dev_of t) a → IsLonger end a b → IsAny b → IsLongerButTable (dev_of t) size a b × Stops b
    alone a b may step any = (longer_alone (dev_of t) end size a b le step, inl (table_of_longer a b step (are a may)).has)

    -- a stop before the table is stored
    pub stop_grown : Within (dev_of t) (IsLongerButTable (dev_of t) size) Stops start mid
    stop_grown = wider (dev_of t) (IsLonger end) (IsLongerButTable (dev_of t) size) IsAny Stops start mid alone grown

    -- one after it
    pub stop_stored : {tells : Told} (new : View) → IsLawful tells start → (tells.reads → IsLonger end (start.reads (dev_of t)) (mid.reads (dev_of t)))
        → Within (dev_of t) (IsSameButTable (dev_of t)) (IsTableOrNext (dev_of t) (place_of t) (part_of t) next (mid.reads (dev_of t))) mid new
        → Within (dev_of t) (IsLongerButTable (dev_of t) size) Stops start new
    stop_stored new lawful reads stored =
        two_calls (dev_of t) (IsLonger end) (IsSameButTable (dev_of t)) (IsLongerButTable (dev_of t) size) IsAny
        (IsTableOrNext (dev_of t) (place_of t) (part_of t) next (mid.reads (dev_of t))) Stops start mid new alone
        (λ a b c may step same now. (
          longer_then (dev_of t) end size a b c le step same,
          elim now [
            | inl old ↦ inl old
            | inr has ↦
                let told = lawful.reads_told (lawful.stops_told (dev_of t) a may) in
                inr (has.0, longer_then (dev_of t) end size (start.reads (dev_of t)) (mid.reads (dev_of t)) c le (reads told) has.1)
          ],
        )) grown stored
