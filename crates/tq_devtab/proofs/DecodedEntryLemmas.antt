-- The entries of a table, read and judged one after another.
use Rattle.std.proofs.Common.{◌≡◌, ◌≢◌, ◌<◌, ◌≤◌, ℕ, ◌+◌, ◌*◌, true, false, cond, ◌&&◌, List, [], ◌∷◌, ◌++◌, get_or, Option, Some, None, refl, sym, ap, ◌∙◌, arith, append_assoc}
use Rattle.std.specs.Prelude.{◌==◌, nat_le, map, filter, if◌then◌else◌}
use Rattle.std.specs.List.{list_all, sum_by}
use Rattle.std.proofs.lemmas.Bool.{and_parts, leb-true}
use Rattle.std.proofs.lemmas.List.{append-nil}
use Rattle.tq_field.specs.Places.{number_at}
use Rattle.tq_model.specs.DeviceForm.{RawEntry, raw_entry, raw_table, extent_count, table_bytes}
use Rattle.tq_model.specs.Reading.{NamedSpace, named_in, is_used, used_entries}
use Rattle.tq_devtab.specs.Table.{entry_view, entries_view}
use Rattle.tq_devtab.specs.TableParts.{entry_holds, each_holds}
use Rattle.tq_devtab.specs.declared.entry.TableEntry.{TableEntry}
use Rattle.tq_devtab.proofs.TableReadLemmas.{entries_from, entries_from-next, entries_from-none, is_sound, count_in, sound-more, counts-more}

-- The entries up to this one are read, and are those of spaces within these limits; the others begin with this one, and their
-- extents at that place.
pub record AreRead (next clusters size i extents : ℕ) (read : List (Option NamedSpace)) (base : List ℕ) : Type 0 where
  pub named : read ++ map named_in (entries_from i extents base) ≡ map named_in (raw_table 0 base).entries
  pub held : each_holds next clusters size (filter is_used (entries_from i extents base)) ≡ each_holds next clusters size (used_entries (raw_table 0 base))
  pub sound : list_all is_sound (entries_from i extents base) ≡ true
  pub within : extents + 4 * sum_by count_in (entries_from i extents base) ≤ table_bytes

-- ---- the next entry

no-extents : (at : ℕ) (base : List ℕ) → get_or base at 0 ≡ 0 → extent_count at base ≡ 0
no-extents at base unused = ap (λ u. if u == 0 then 0 else number_at (at + 140) 4 base) unused

pub entry-used : {next clusters size i extents : ℕ} {read : List (Option NamedSpace)} {base : List ℕ} → AreRead next clusters size i extents read base → i < 16
    → get_or base (32 + 160 * i) 0 ≢ 0 → get_or base (32 + 160 * i) 0 ≡ 1
entry-used {i = i} {extents = extents} {base = base} left lt some =
    let at = 32 + 160 * i in
    let rest = list_all is_sound (entries_from (i + 1) (extents + 4 * extent_count at base) base) in
    let sound = and_parts (nat_le (get_or base at 0) 1) rest (sym (sound-more i extents (extents + 4 * extent_count at base) base lt refl) ∙ left.sound) in
    let most = leb-true (get_or base at 0) 1 sound.0 in
    omega arith

pub extents-fit : {next clusters size i extents : ℕ} {read : List (Option NamedSpace)} {base : List ℕ} → AreRead next clusters size i extents read base → i < 16
    → extents + 4 * extent_count (32 + 160 * i) base ≤ table_bytes
extents-fit {i = i} {extents = extents} {base = base} left lt =
    let counts = counts-more i extents (extents + 4 * extent_count (32 + 160 * i) base) base lt refl in
    let within = left.within in
    omega arith

-- it is this one, and the tests of the used entries that are left are those of the entries after it
read-more : {next clusters size i extents : ℕ} {read : List (Option NamedSpace)} {base : List ℕ} (end : ℕ) (now : List (Option NamedSpace)) (e : Option NamedSpace)
    → AreRead next clusters size i extents read base → i < 16 → end ≡ extents + 4 * extent_count (32 + 160 * i) base → now ≡ read ++ e ∷ []
    → map named_in (entries_from i extents base) ≡ e ∷ map named_in (entries_from (i + 1) end base)
    → each_holds next clusters size (filter is_used (entries_from (i + 1) end base))
    ≡ each_holds next clusters size (filter is_used (entries_from i extents base))
    → AreRead next clusters size (i + 1) end now base
read-more {i = i} {extents = extents} {read = read} {base = base} end now e left lt is_end is_now named held =
    let rest = entries_from (i + 1) end base in
    let sound = and_parts (nat_le (get_or base (32 + 160 * i) 0) 1) (list_all is_sound rest) (sym (sound-more i extents end base lt is_end) ∙ left.sound) in
    let counts = counts-more i extents end base lt is_end in
    let within = left.within in
    record {
      named =
          ap (λ (l : List (Option NamedSpace)). l ++ map named_in rest) is_now ∙ append_assoc read (e ∷ []) (map named_in rest)
          ∙ ap (λ (l : List (Option NamedSpace)). read ++ l) (sym named) ∙ left.named;
      held = held ∙ left.held;
      sound = sound.1;
      within = omega arith;
    }

-- it is no space
pub read-unused : {next clusters size i extents : ℕ} {read : List (Option NamedSpace)} {base : List ℕ} (end : ℕ) (now : List (Option NamedSpace))
    → AreRead next clusters size i extents read base → i < 16 → get_or base (32 + 160 * i) 0 ≡ 0 → end ≡ extents → now ≡ read ++ None ∷ []
    → AreRead next clusters size (i + 1) end now base
read-unused {next = next} {clusters = clusters} {size = size} {i = i} {extents = extents} {base = base} end now left lt unused is_end is_now =
    let e = raw_entry (32 + 160 * i) extents base in
    let rest = entries_from (i + 1) end base in
    let none = no-extents (32 + 160 * i) base unused in
    let place : end ≡ extents + 4 * extent_count (32 + 160 * i) base = omega arith in
    let more = entries_from-next i extents end base lt place in
    let space : NamedSpace = record { name = e.name; ordinal = e.ordinal; pages = e.pages; extents = e.extents } in
    let named : map named_in (entries_from i extents base) ≡ None ∷ map named_in rest =
    ap (λ (l : List RawEntry). map named_in l) more ∙ ap (λ u. (if u == 1 then Some space else None) ∷ map named_in rest) unused in
    let used : filter is_used (entries_from i extents base) ≡ filter is_used rest =
    ap (λ (l : List RawEntry). filter is_used l) more ∙ ap (λ u. cond (u == 1) (e ∷ filter is_used rest) (filter is_used rest)) unused in
    read-more end now None left lt place is_now named
    (ap (λ (l : List RawEntry). each_holds next clusters size l) (sym used))

-- the used entries that are left begin with a used one
used-more : (i extents end : ℕ) (base : List ℕ) → i < 16 → get_or base (32 + 160 * i) 0 ≡ 1 → end ≡ extents + 4 * extent_count (32 + 160 * i) base
    → filter is_used (entries_from i extents base) ≡ raw_entry (32 + 160 * i) extents base ∷ filter is_used (entries_from (i + 1) end base)
used-more i extents end base lt used is_end =
    let e = raw_entry (32 + 160 * i) extents base in
    let rest = entries_from (i + 1) end base in
    ap (λ (l : List RawEntry). filter is_used l) (entries_from-next i extents end base lt is_end)
    ∙ ap (λ u. cond (u == 1) (e ∷ filter is_used rest) (filter is_used rest)) used

-- it is this space
pub read-used : {next clusters size i extents : ℕ} {read : List (Option NamedSpace)} {base : List ℕ} (end : ℕ) (now : List (Option NamedSpace)) (space : NamedSpace)
    → AreRead next clusters size i extents read base → i < 16 → get_or base (32 + 160 * i) 0 ≢ 0 → end ≡ extents + 4 * extent_count (32 + 160 * i) base
    → now ≡ read ++ Some space ∷ [] → named_in (raw_entry (32 + 160 * i) extents base) ≡ Some space
    → entry_holds next clusters size (raw_entry (32 + 160 * i) extents base) ≡ true → AreRead next clusters size (i + 1) end now base
read-used {next = next} {clusters = clusters} {size = size} {i = i} {extents = extents} {base = base} end now space left lt some is_end is_now is_space holds =
    let rest = entries_from (i + 1) end base in
    let used = entry-used left lt some in
    let named : map named_in (entries_from i extents base) ≡ Some space ∷ map named_in rest =
    ap (λ (l : List RawEntry). map named_in l) (entries_from-next i extents end base lt is_end)
    ∙ ap (λ (o : Option NamedSpace). o ∷ map named_in rest) is_space in
    read-more end now (Some space) left lt is_end is_now named
    (sym (ap (λ b. b && each_holds next clusters size (filter is_used rest)) holds)
    ∙ sym (ap (λ (l : List RawEntry). each_holds next clusters size l) (used-more i extents end base lt used is_end)))

-- it is none of a space within the limits
pub read-broken : {next clusters size i extents : ℕ} {read : List (Option NamedSpace)} {base : List ℕ} → AreRead next clusters size i extents read base → i < 16
    → get_or base (32 + 160 * i) 0 ≢ 0 → entry_holds next clusters size (raw_entry (32 + 160 * i) extents base) ≡ false
    → each_holds next clusters size (used_entries (raw_table 0 base)) ≡ false
read-broken {next = next} {clusters = clusters} {size = size} {i = i} {extents = extents} {base = base} left lt some broken =
    let used = entry-used left lt some in
    let end = extents + 4 * extent_count (32 + 160 * i) base in
    sym left.held ∙ ap (λ (l : List RawEntry). each_holds next clusters size l) (used-more i extents end base lt used refl)
    ∙ ap (λ b. b && each_holds next clusters size (filter is_used (entries_from (i + 1) end base))) broken

-- ---- all are read

pub all-hold : {next clusters size i extents : ℕ} {read : List (Option NamedSpace)} {base : List ℕ} → AreRead next clusters size i extents read base → 16 ≤ i
    → each_holds next clusters size (used_entries (raw_table 0 base)) ≡ true
all-hold {next = next} {clusters = clusters} {size = size} {i = i} {extents = extents} {base = base} left past =
    sym left.held ∙ ap (λ (l : List RawEntry). each_holds next clusters size (filter is_used l)) (entries_from-none i extents base past)

pub all-named : {next clusters size i extents : ℕ} {read : List (Option NamedSpace)} {base : List ℕ} → AreRead next clusters size i extents read base → 16 ≤ i
    → map named_in (raw_table 0 base).entries ≡ read
all-named {i = i} {extents = extents} {read = read} {base = base} left past =
    sym left.named ∙ ap (λ (l : List RawEntry). read ++ map named_in l) (entries_from-none i extents base past) ∙ append-nil read

-- ---- what was read

pub view-more : (entries : List (Option TableEntry)) (e : Option TableEntry) → entries_view (entries ++ e ∷ []) ≡ entries_view entries ++ entries_view (e ∷ [])
view-more [] e = refl
view-more (None ∷ entries) e = ap (λ (l : List (Option NamedSpace)). None ∷ l) (view-more entries e)
view-more (Some x ∷ entries) e = ap (λ (l : List (Option NamedSpace)). Some (entry_view x) ∷ l) (view-more entries e)
