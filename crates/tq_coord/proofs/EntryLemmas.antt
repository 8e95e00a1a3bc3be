-- An entry of a table in memory.
use Rattle.std.proofs.Common.{◌≡◌, ◌<◌, ◌≤◌, inl, inr, ℕ, ◌+◌, List, [], ◌∷◌, ◌++◌, length, get_or, Option, Some, None, true, sym, ap, ◌∙◌, subst, arith}
use Rattle.std.specs.Prelude.{option_map}
use Rattle.std.proofs.lemmas.Bool.{cases_lt}
use Rattle.std.proofs.lemmas.List.{get_or_append_left, get_or_push, get_or_past}
use Rattle.tq_extent.specs.Bytes.{reaches}
use Rattle.tq_extent.specs.Clusters.{clusters_of}
use Rattle.tq_extent.specs.Pages.{page_count, AreMappable}
use Rattle.tq_model.specs.Reading.{NamedSpace}
use Rattle.tq_model.specs.Site.{last_space, table_entries}
use Rattle.tq_devtab.specs.declared.entry.TableEntry.{TableEntry}
use Rattle.tq_devtab.specs.declared.table.DeviceTable.{DeviceTable}
use Rattle.tq_devtab.specs.InMemory.{part_of, IsTableOf}
use Rattle.tq_devtab.specs.Table.{entry_view, entries_view}
use Rattle.tq_devtab.specs.Volume.{most_bytes}
use Rattle.tq_devtab.proofs.EntryLemmas.{IsEntry, Holds, entry_holds, entry_parts, table_parts}
use Rattle.tq_devtab.proofs.KeptLemmas.{table_reaches}
use Rattle.tq_devtab.proofs.ReserveLemmas.{space_mappable, space_enough}
use Rattle.tq_devtab.proofs.SpellingLemmas.{view-of, length-views}
use Rattle.tq_devtab.proofs.TableLemmas.{all-present}
use Rattle.tq_spacefile.specs.declared.file.SpaceFile.{SpaceFile}

-- the space of an entry that is read
pub entry_at : (shown : List (Option TableEntry)) (entries : List (Option NamedSpace)) (i : ℕ) (o : Option TableEntry) (e : TableEntry) → entries_view shown ≡ entries
    → i < length entries → o ≡ get_or shown i o → o ≡ Some e → get_or entries i None ≡ Some (entry_view e)
entry_at shown entries i o e same lt is found =
    let long = length-views shown in
    let size = ap (λ (l : List (Option NamedSpace)). length l) same in
    ap (λ (l : List (Option NamedSpace)). get_or l i None) (sym same) ∙ sym (view-of shown i o (omega arith) is) ∙ ap (option_map entry_view) found

module _ (t : DeviceTable) (i : ℕ) (n : NamedSpace) (at : get_or (part_of t).entries i None ≡ Some n) where
  abbrev entries : List (Option NamedSpace)
  entries = entries_view t.entries.items

  holds : Holds t.next t.clusters most_bytes entries
  holds = table_parts t.next t.clusters most_bytes entries t.table

  pub entry_is : IsEntry t.next t.clusters most_bytes n
  entry_is = entry_parts t.next t.clusters most_bytes n (all-present (entry_holds t.next t.clusters most_bytes) entries i n holds.each at)

  pub ordinal_most : n.ordinal ≤ last_space
  ordinal_most = let below = entry_is.ordinal_below in let most = holds.next_most in omega arith

  pub entry_mappable : AreMappable n.extents
  entry_mappable = let least = t.least in space_mappable t.next t.clusters most_bytes entries i n t.table at (omega arith) t.most

  pub entry_enough : n.pages ≤ page_count (clusters_of n.extents)
  entry_enough = space_enough t.next t.clusters most_bytes entries i n t.table at

  pub entry_reached : (image : List ℕ) → IsTableOf t image → reaches (clusters_of n.extents) image ≡ true
  entry_reached image is = table_reaches t.place (part_of t) image is.has i n at

-- ---- the spaces of the entries, one by one

-- what holds of each of so many, and of the next one
pub each_more : (P : ℕ → Option SpaceFile → Type 0) (files : List (Option SpaceFile)) (n : ℕ) (file : Option SpaceFile) → length files ≡ n
    → ((i : ℕ) → i < n → P i (get_or files i None)) → P n file → (i : ℕ) → i < n + 1 → P i (get_or (files ++ file ∷ []) i None)
each_more P files n file size each here i lt = elim (cases_lt i n) [
  | inl before ↦ subst (P i) (sym (get_or_append_left files (file ∷ []) None i (omega (arith, size)))) (each i before)
  | inr from ↦
      let last : n ≡ i = omega arith in
      subst (λ k. P k (get_or (files ++ file ∷ []) k None)) last (subst (P n) (sym (get_or_push files file None n size)) here)
]

-- behind the entries nothing is said
pub each_entry : (P : Option NamedSpace → Option SpaceFile → Type 0) (t : DeviceTable) (files : List (Option SpaceFile)) (n : ℕ) → P None None → length files ≡ n
    → table_entries ≤ n → ((i : ℕ) → i < n → P (get_or (part_of t).entries i None) (get_or files i None)) → (i : ℕ) → P (get_or (part_of t).entries i None) (get_or files i None)
each_entry P t files n none size all each i = elim (cases_lt i n) [
  | inl before ↦ each i before
  | inr from ↦
      let entries = (part_of t).entries in
      let count = t.table.count in
      subst (λ (o : Option NamedSpace). P o (get_or files i None)) (sym (get_or_past entries i None (omega arith)))
      (subst (P None) (sym (get_or_past files i None (omega (arith, size)))) none)
]
