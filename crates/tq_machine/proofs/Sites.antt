-- The spaces of all devices, by their names.
use Rattle.std.proofs.Common.{◌≡◌, ℕ, zero, suc, ◌+◌, ◌<◌, ◌≤◌, Bool, true, false, cond, List, [], ◌∷◌, map, take, drop, set, get_or, length, replicate, refl, sym, ap, subst, ◌∙◌, ⊎_elim, arith, Option, Some, None, option_map, append-nil, length-append, length-set}
use Rattle.std.specs.Prelude.{option_to_list, IsSome}
use Rattle.std.specs.Option.{option_or}
use Rattle.std.specs.List.{find, flat_map, sum_by, count_by}
use Rattle.std.specs.Str.{bytes_eq}
use Rattle.std.proofs.lemmas.Bool.{cases_lt}
use Rattle.std.proofs.lemmas.Slice.Eq.{bytes_eq-Decides}
use Rattle.std.proofs.lemmas.List.{at_drop_more, get_or_past, length-map, length-replicate, set_past}
use Rattle.std.proofs.lemmas.List.Concat.{flat_map-append}
use Rattle.std.proofs.lemmas.List.Folds.{find-append}
use Rattle.std.proofs.lemmas.List.Sums.{sum_by-cons, sum_by-append, sum_by-set, get_or-le-sum_by}
use Rattle.tq_model.specs.Site.{SpaceOnDevice, Volume, table_entries, no_entries, present, has_name, spaces_on, on_spaces, changed_if, entry_beside, entries_with}
use Rattle.tq_machine.specs.Tables.{AreSound, device_spaces, entry_of, entry_changed, without_named}
use Rattle.tq_machine.proofs.Limits.{sum-map-most}
use Rattle.tq_machine.proofs.Tables.{present-more}

-- Counts

-- how often a name stands on a device, and in an entry
abbrev on_device : List ℕ → Option Volume → ℕ
on_device name d = count_by (has_name name) (device_spaces d)

abbrev in_entry : List ℕ → Option SpaceOnDevice → ℕ
in_entry name o = count_by (has_name name) (option_to_list o)

count-devices : (name : List ℕ) (ds : List (Option Volume)) → count_by (has_name name) (flat_map spaces_on (present ds)) ≡ sum_by (on_device name) ds
count-devices name [] = refl
count-devices name (None ∷ ds) =
    let rest = count-devices name ds in
    omega (arith, sum_by-cons (on_device name) None ds)
count-devices name (Some v ∷ ds) =
    let rest = count-devices name ds in
    omega (arith, sum_by-append (λ p. cond (has_name name p) 1 0) (spaces_on v) (flat_map spaces_on (present ds)), sum_by-cons (on_device name) (Some v) ds)

count-entries : (name : List ℕ) (xs : List (Option SpaceOnDevice)) → count_by (has_name name) (present xs) ≡ sum_by (in_entry name) xs
count-entries name [] = refl
count-entries name (None ∷ xs) =
    let rest = count-entries name xs in
    omega (arith, sum_by-cons (in_entry name) None xs)
count-entries name (Some p ∷ xs) =
    let rest = count-entries name xs in
    omega (arith, sum_by-cons (λ q. cond (has_name name q) 1 0) p (present xs), sum_by-cons (in_entry name) (Some p) xs)

-- nothing is found: none is counted
none-counted : {X : Type 0} (test : X → Bool) (xs : List X) → find test xs ≡ None → count_by test xs ≡ 0
none-counted test [] h = refl
none-counted test (x ∷ xs) h =
    sum_by-cons (λ y. cond (test y) 1 0) x xs
    ∙ elim (test x) as (λ b. cond b (Some x) (find test xs) ≡ None → cond b 1 0 + count_by test xs ≡ 0) [
      | true ↦ λ k. cc
      | false ↦ λ k. omega (arith, none-counted test xs k)
    ] h

pub find-passes : {X : Type 0} (test : X → Bool) (xs : List X) (x : X) → find test xs ≡ Some x → test x ≡ true
find-passes test [] x h = cc
find-passes test (y ∷ ys) x h =
    elim (test y) as (λ b. test y ≡ b → cond b (Some y) (find test ys) ≡ Some x → test x ≡ true) [
      | true ↦ λ is k. let same : y ≡ x = cc in subst (λ z. test z ≡ true) same is
      | false ↦ λ is k. find-passes test ys x k
    ] refl h

-- A change of each is a change of one, where one alone has weight

changed-none : {X : Type 0} (f : X → X) (w : X → ℕ) → ((x : X) → w x ≡ 0 → f x ≡ x) → (xs : List X) → sum_by w xs ≡ 0 → map f xs ≡ xs
changed-none f w fixed [] h = refl
changed-none f w fixed (x ∷ xs) h =
    let sum = sum_by-cons w x xs in
    (λ i. fixed x (omega arith) i ∷ changed-none f w fixed xs (omega arith) i)

changed-one : {X : Type 0} (f : X → X) (w : X → ℕ) → ((x : X) → w x ≡ 0 → f x ≡ x) → (xs : List X) (at : ℕ) (d : X) → at < length xs → 1 ≤ w (get_or xs at d) → sum_by w xs ≤ 1
    → map f xs ≡ set xs at (f (get_or xs at d))
changed-one f w fixed [] at d within some most = absurd (omega arith)
changed-one f w fixed (x ∷ xs) zero d within some most =
    let sum = sum_by-cons w x xs in
    ap (λ l. f x ∷ l) (changed-none f w fixed xs (omega arith))
changed-one f w fixed (x ∷ xs) (suc at) d within some most =
    let sum = sum_by-cons w x xs in
    let here = get_or-le-sum_by w xs at d (omega arith) in
    (λ i. fixed x (omega arith) i ∷ changed-one f w fixed xs at d (omega arith) some (omega arith) i)

-- A space is changed

unnamed : (name : List ℕ) (p : SpaceOnDevice) → in_entry name (Some p) ≡ 0 → has_name name p ≡ false
unnamed name p = elim (has_name name p) as (λ b. 0 + cond b 1 0 ≡ 0 → b ≡ false) [ true ↦ λ h. absurd (omega arith) | false ↦ λ h. refl ]

entry-kept : (name : List ℕ) (change : SpaceOnDevice → SpaceOnDevice) (o : Option SpaceOnDevice) → in_entry name o ≡ 0 → option_map (changed_if name change) o ≡ o
entry-kept name change None h = refl
entry-kept name change (Some p) h = ap (λ b. Some (cond b (change p) p)) (unnamed name p h)

device-kept : (name : List ℕ) (change : SpaceOnDevice → SpaceOnDevice) (d : Option Volume) → on_device name d ≡ 0 → option_map (on_spaces (changed_if name change)) d ≡ d
device-kept name change None h = refl
device-kept name change (Some v) h =
    let same = changed-none (option_map (changed_if name change)) (in_entry name) (entry-kept name change) v.entries (sym (count-entries name v.entries) ∙ h) in
    ap (λ (l : List (Option SpaceOnDevice)). let w : Volume = record v { entries = l } in Some w) same

within-some : {X : Type 0} (xs : List (Option X)) (at : ℕ) (x : X) → get_or xs at None ≡ Some x → at < length xs
within-some xs at x is = ⊎_elim (λ within. within) (λ past. let clash = sym (get_or_past xs at None past) ∙ is in cc) (cases_lt at (length xs))

counted-one : (name : List ℕ) (o : Option SpaceOnDevice) (p : SpaceOnDevice) → o ≡ Some p → has_name name p ≡ true → 1 ≤ in_entry name o
counted-one name o p is named = subst (λ (q : Option SpaceOnDevice). 1 ≤ in_entry name q) (sym is) (omega (arith, ap (λ b. 0 + cond b 1 0) named))

-- the space of that name stands in this entry of the device
volume-changed : (name : List ℕ) (change : SpaceOnDevice → SpaceOnDevice) (v : Volume) (entry : ℕ) (p : SpaceOnDevice) → get_or v.entries entry None ≡ Some p → has_name name p ≡ true
    → on_device name (Some v) ≤ 1 → on_spaces (changed_if name change) v ≡ entry_changed entry change v
volume-changed name change v entry p is named most =
    let within = within-some v.entries entry p is in
    let one = counted-one name (get_or v.entries entry None) p is named in
    let count = count-entries name v.entries in
    let same = changed-one (option_map (changed_if name change)) (in_entry name) (entry-kept name change) v.entries entry None within one (omega arith) in
    let there : option_map (changed_if name change) (get_or v.entries entry None) ≡ option_map change (get_or v.entries entry None) =
    ap (option_map (changed_if name change)) is ∙ ap (λ b. Some (cond b (change p) p)) named ∙ sym (ap (option_map change) is) in
    ap (λ (l : List (Option SpaceOnDevice)). let w : Volume = record v { entries = l } in w) (same ∙ ap (set v.entries entry) there)

device-changed : (name : List ℕ) (change : SpaceOnDevice → SpaceOnDevice) (d : Option Volume) (entry : ℕ) (p : SpaceOnDevice) → entry_of d entry ≡ Some p → has_name name p ≡ true
    → on_device name d ≤ 1 → option_map (on_spaces (changed_if name change)) d ≡ option_map (entry_changed entry change) d
device-changed name change None entry p is named most = refl
device-changed name change (Some v) entry p is named most = ap Some (volume-changed name change v entry p is named most)

counted-device : (name : List ℕ) (d : Option Volume) (entry : ℕ) (p : SpaceOnDevice) → entry_of d entry ≡ Some p → has_name name p ≡ true → 1 ≤ on_device name d
counted-device name None entry p is named = cc
counted-device name (Some v) entry p is named =
    let within = within-some v.entries entry p is in
    let one = counted-one name (get_or v.entries entry None) p is named in
    let sum = get_or-le-sum_by (in_entry name) v.entries entry None within in
    omega (arith, count-entries name v.entries)

pub within-devices : (ds : List (Option Volume)) (dev entry : ℕ) (p : SpaceOnDevice) → entry_of (get_or ds dev None) entry ≡ Some p → dev < length ds
within-devices ds dev entry p is =
    ⊎_elim (λ within. within) (λ past. let clash = sym (ap (λ (d : Option Volume). entry_of d entry) (get_or_past ds dev None past)) ∙ is in cc) (cases_lt dev (length ds))

pub devices-changed : (name : List ℕ) (change : SpaceOnDevice → SpaceOnDevice) (ds : List (Option Volume)) (dev entry : ℕ) (p : SpaceOnDevice) → AreSound ds
    → entry_of (get_or ds dev None) entry ≡ Some p → has_name name p ≡ true
    → set ds dev (option_map (entry_changed entry change) (get_or ds dev None)) ≡ map (option_map (on_spaces (changed_if name change))) ds
devices-changed name change ds dev entry p sound is named =
    let within = within-devices ds dev entry p is in
    let count = count-devices name ds in
    let names = sound.names name in
    let one = counted-device name (get_or ds dev None) entry p is named in
    let here = get_or-le-sum_by (on_device name) ds dev None within in
    let same = changed-one (option_map (on_spaces (changed_if name change))) (on_device name) (device-kept name change) ds dev None within one (omega arith) in
    sym (same ∙ ap (set ds dev) (device-changed name change (get_or ds dev None) entry p is named (omega arith)))

-- two changes that agree on the space that is there
pub changed-alike : (f g : SpaceOnDevice → SpaceOnDevice) (ds : List (Option Volume)) (dev entry : ℕ) (p : SpaceOnDevice) → entry_of (get_or ds dev None) entry ≡ Some p → f p ≡ g p
    → option_map (entry_changed entry f) (get_or ds dev None) ≡ option_map (entry_changed entry g) (get_or ds dev None)
changed-alike f g ds dev entry p is same = alike (get_or ds dev None) is
  where
    alike : (d : Option Volume) → entry_of d entry ≡ Some p → option_map (entry_changed entry f) d ≡ option_map (entry_changed entry g) d
    alike None h = refl
    alike (Some v) h =
        ap (λ (o : Option SpaceOnDevice). let w : Volume = record v { entries = set v.entries entry o } in Some w)
        (ap (option_map f) h ∙ ap Some same ∙ sym (ap (option_map g) h))

-- What stays sound

present-mapped : {X : Type 0} (f : X → X) (xs : List (Option X)) → present (map (option_map f) xs) ≡ map f (present xs)
present-mapped f [] = refl
present-mapped f (None ∷ xs) = present-mapped f xs
present-mapped f (Some x ∷ xs) = ap (λ l. f x ∷ l) (present-mapped f xs)

same-count : (name : List ℕ) (f : SpaceOnDevice → SpaceOnDevice) → ((p : SpaceOnDevice) → (f p).name ≡ p.name) → (ps : List SpaceOnDevice) → count_by (has_name name) (map f ps) ≡ count_by (has_name name) ps
same-count name f named [] = refl
same-count name f named (p ∷ ps) =
    sum_by-cons (λ q. cond (has_name name q) 1 0) (f p) (map f ps)
    ∙ (λ i. cond (bytes_eq (named p i) name) 1 0 + same-count name f named ps i)
    ∙ sym (sum_by-cons (λ q. cond (has_name name q) 1 0) p ps)

device-count : (name : List ℕ) (f : SpaceOnDevice → SpaceOnDevice) → ((p : SpaceOnDevice) → (f p).name ≡ p.name) → (d : Option Volume) → on_device name (option_map (on_spaces f) d) ≤ on_device name d
device-count name f named None = omega arith
device-count name f named (Some v) =
    omega (arith, ap (count_by (has_name name)) (present-mapped f v.entries), same-count name f named (present v.entries))

pub sound-mapped : (f : SpaceOnDevice → SpaceOnDevice) → ((p : SpaceOnDevice) → (f p).name ≡ p.name) → (ds : List (Option Volume)) → AreSound ds → AreSound (map (option_map (on_spaces f)) ds)
sound-mapped f named ds sound =
    record {
      few = omega (arith, length-map ds (option_map (on_spaces f)), sound.few);
      names = λ name.
          let most = sum-map-most (on_device name) (option_map (on_spaces f)) (device-count name f named) ds in
          let before = sound.names name in
          omega (arith, count-devices name (map (option_map (on_spaces f)) ds), count-devices name ds);
    }

changed-name : (name : List ℕ) (change : SpaceOnDevice → SpaceOnDevice) → ((p : SpaceOnDevice) → (change p).name ≡ p.name) → (p : SpaceOnDevice) → (changed_if name change p).name ≡ p.name
changed-name name change named p = elim (has_name name p) as (λ b. (cond b (change p) p).name ≡ p.name) [ true ↦ named p | false ↦ refl ]

pub sound-changed : (name : List ℕ) (change : SpaceOnDevice → SpaceOnDevice) → ((p : SpaceOnDevice) → (change p).name ≡ p.name) → (ds : List (Option Volume)) → AreSound ds
    → AreSound (map (option_map (on_spaces (changed_if name change))) ds)
sound-changed name change named ds sound = sound-mapped (changed_if name change) (changed-name name change named) ds sound

set-count : (name : List ℕ) (ds : List (Option Volume)) (dev : ℕ) (d : Option Volume) → dev < length ds
    → count_by (has_name name) (flat_map spaces_on (present (set ds dev d))) + on_device name (get_or ds dev None) ≡ count_by (has_name name) (flat_map spaces_on (present ds)) + on_device name d
set-count name ds dev d within = omega (arith, count-devices name (set ds dev d), count-devices name ds, sum_by-set (on_device name) ds dev d None within)

-- a write past the end changes nothing
sound-set : (ds : List (Option Volume)) (dev : ℕ) (d : Option Volume) → AreSound ds → (dev < length ds → AreSound (set ds dev d)) → AreSound (set ds dev d)
sound-set ds dev d sound inside = ⊎_elim inside (λ past. subst AreSound (sym (set_past ds dev d past)) sound) (cases_lt dev (length ds))

blank-none : {X : Type 0} (n : ℕ) → present (replicate n (let o : Option X = None in o)) ≡ []
blank-none zero = refl
blank-none (suc n) = blank-none n

made-within : (clusters ordinal : ℕ) (ds : List (Option Volume)) (dev : ℕ) → AreSound ds → dev < length ds
    → AreSound (set ds dev (Some (record { clusters = clusters; next_space = ordinal; entries = no_entries })))
made-within clusters ordinal ds dev sound within =
    let d : Option Volume = Some (record { clusters = clusters; next_space = ordinal; entries = no_entries }) in
    record {
      few = omega (arith, length-set ds dev d, sound.few);
      names = λ name.
          let before = sound.names name in
          let none : on_device name d ≡ 0 = ap (λ (ps : List SpaceOnDevice). count_by (has_name name) ps) (blank-none table_entries) in
          omega (arith, set-count name ds dev d within);
    }

-- a device without spaces in place of another
pub sound-made : (clusters ordinal : ℕ) (ds : List (Option Volume)) (dev : ℕ) → AreSound ds
    → AreSound (set ds dev (Some (record { clusters = clusters; next_space = ordinal; entries = no_entries })))
sound-made clusters ordinal ds dev sound = sound-set ds dev _ sound (made-within clusters ordinal ds dev sound)

-- a blank device in place of another
pub sound-erased : (ds : List (Option Volume)) (dev : ℕ) → AreSound ds → AreSound (set ds dev None)
sound-erased ds dev sound =
    sound-set ds dev None sound (λ within. record {
      few = omega (arith, length-set ds dev (let d : Option Volume = None in d), sound.few);
      names = λ name. let before = sound.names name in omega (arith, set-count name ds dev None within);
    })

-- a space more is counted once
abbrev once : List ℕ → SpaceOnDevice → ℕ
once name p = cond (has_name name p) 1 0

entered-count : (name : List ℕ) (p : SpaceOnDevice) (xs : List (Option SpaceOnDevice))
    → count_by (has_name name) (present (entries_with p xs)) ≤ count_by (has_name name) (present xs) + once name p
entered-count name p [] = omega arith
entered-count name p (None ∷ xs) = omega (arith, sum_by-cons (λ q. cond (has_name name q) 1 0) p (present xs))
entered-count name p (Some q ∷ xs) =
    let rest = entered-count name p xs in
    omega (arith, sum_by-cons (λ r. cond (has_name name r) 1 0) q (present xs), sum_by-cons (λ r. cond (has_name name r) 1 0) q (present (entries_with p xs)))

placed-within : (v : Volume) (ordinal : ℕ) (p : SpaceOnDevice) (ds : List (Option Volume)) (dev : ℕ) → get_or ds dev None ≡ Some v
    → find (has_name p.name) (flat_map spaces_on (present ds)) ≡ None → AreSound ds → dev < length ds
    → AreSound (set ds dev (Some (record v { next_space = ordinal; entries = entries_with p v.entries })))
placed-within v ordinal p ds dev is new sound within =
    let d : Option Volume = Some (record v { next_space = ordinal; entries = entries_with p v.entries }) in
    record {
      few = omega (arith, length-set ds dev d, sound.few);
      names = λ name.
          let before = sound.names name in
          let all = set-count name ds dev d within in
          let here : on_device name (get_or ds dev None) ≡ count_by (has_name name) (present v.entries) = ap (on_device name) is in
          let more : on_device name d ≤ count_by (has_name name) (present v.entries) + once name p = entered-count name p v.entries in
          elim (bytes_eq p.name name) as (λ b. bytes_eq p.name name ≡ b → count_by (has_name name) (flat_map spaces_on (present (set ds dev d))) ≤ 1) [
            | true ↦ λ same_name.
                let same : p.name ≡ name = (bytes_eq-Decides p.name name).0 same_name in
                let none : count_by (has_name name) (flat_map spaces_on (present ds)) ≡ 0 = subst (λ (n : List ℕ). count_by (has_name n) (flat_map spaces_on (present ds)) ≡ 0) same (none-counted (has_name p.name) (flat_map spaces_on (present ds)) new) in
                let one : once name p ≡ 1 = ap (λ b. cond b 1 0) same_name in
                omega arith
            | false ↦ λ other.
                let none : once name p ≡ 0 = ap (λ b. cond b 1 0) other in
                omega arith
          ] refl;
    }

-- a space of a new name on a device
pub sound-placed : (v : Volume) (ordinal : ℕ) (p : SpaceOnDevice) (ds : List (Option Volume)) (dev : ℕ) → get_or ds dev None ≡ Some v
    → find (has_name p.name) (flat_map spaces_on (present ds)) ≡ None → AreSound ds
    → AreSound (set ds dev (Some (record v { next_space = ordinal; entries = entries_with p v.entries })))
sound-placed v ordinal p ds dev is new sound = sound-set ds dev _ sound (placed-within v ordinal p ds dev is new sound)

-- the spaces of a name are taken out
beside-count : (name other : List ℕ) (xs : List (Option SpaceOnDevice)) → count_by (has_name name) (present (map (entry_beside other) xs)) ≤ count_by (has_name name) (present xs)
beside-count name other [] = omega arith
beside-count name other (None ∷ xs) = beside-count name other xs
beside-count name other (Some q ∷ xs) =
    let rest = beside-count name other xs in
    let before = sum_by-cons (λ r. cond (has_name name r) 1 0) q (present xs) in
    elim (has_name other q) as (λ b. count_by (has_name name) (present (cond b None (Some q) ∷ map (entry_beside other) xs)) ≤ count_by (has_name name) (present (Some q ∷ xs))) [
      | true ↦ omega arith
      | false ↦ omega (arith, sum_by-cons (λ r. cond (has_name name r) 1 0) q (present (map (entry_beside other) xs)))
    ]

without-count : (name other : List ℕ) (d : Option Volume) → on_device name (option_map (without_named other) d) ≤ on_device name d
without-count name other None = omega arith
without-count name other (Some v) = beside-count name other v.entries

pub sound-without : (other : List ℕ) (ds : List (Option Volume)) → AreSound ds → AreSound (map (option_map (without_named other)) ds)
sound-without other ds sound =
    record {
      few = omega (arith, length-map ds (option_map (without_named other)), sound.few);
      names = λ name.
          let most = sum-map-most (on_device name) (option_map (without_named other)) (without-count name other) ds in
          let before = sound.names name in
          omega (arith, count-devices name (map (option_map (without_named other)) ds), count-devices name ds);
    }

pub sound-blank : (n : ℕ) → n ≤ 8 → AreSound (replicate n None)
sound-blank n few =
    record {
      few = omega (arith, length-replicate n (let d : Option Volume = None in d), few);
      names = λ name. omega (arith, ap (λ (vs : List Volume). count_by (has_name name) (flat_map spaces_on vs)) (blank-none n));
    }

-- Reads

spaces-single : (d : Option Volume) → flat_map spaces_on (option_to_list d) ≡ device_spaces d
spaces-single None = refl
spaces-single (Some v) = append-nil (spaces_on v)

pub spaces-more : (ds : List (Option Volume)) (at : ℕ) (d : Option Volume) → at < length ds
    → length (flat_map spaces_on (present (take (at + 1) ds))) ≡ length (flat_map spaces_on (present (take at ds))) + length (device_spaces (get_or ds at d))
spaces-more ds at d within =
    ap (λ vs. length (flat_map spaces_on vs)) (present-more ds at d within)
    ∙ ap length (flat_map-append spaces_on (present (take at ds)) (option_to_list (get_or ds at d)))
    ∙ length-append (flat_map spaces_on (present (take at ds))) (flat_map spaces_on (option_to_list (get_or ds at d)))
    ∙ ap (λ ps. length (flat_map spaces_on (present (take at ds))) + length ps) (spaces-single (get_or ds at d))

-- a name is sought on one device after another
pub find-further : (name : List ℕ) (d : Option Volume) (ds : List (Option Volume))
    → find (has_name name) (flat_map spaces_on (present (d ∷ ds))) ≡ option_or (find (has_name name) (device_spaces d)) (find (has_name name) (flat_map spaces_on (present ds)))
find-further name None ds = refl
find-further name (Some v) ds = find-append (has_name name) (spaces_on v) (flat_map spaces_on (present ds))

module _ (name : List ℕ) (ds : List (Option Volume)) (dev : ℕ) (d : Option Volume) (within : dev < length ds) where
  found_from : find (has_name name) (flat_map spaces_on (present (drop dev ds)))
      ≡ option_or (find (has_name name) (device_spaces (get_or ds dev d))) (find (has_name name) (flat_map spaces_on (present (drop (dev + 1) ds))))
  found_from =
      at_drop_more (λ (l : List (Option Volume)). find (has_name name) (flat_map spaces_on (present l))) ds dev d within
      ∙ find-further name (get_or ds dev d) (drop (dev + 1) ds)

  pub sought-further : find (has_name name) (device_spaces (get_or ds dev d)) ≡ None
      → find (has_name name) (flat_map spaces_on (present (drop dev ds))) ≡ find (has_name name) (flat_map spaces_on (present (drop (dev + 1) ds)))
  sought-further none = found_from ∙ ap (λ o. option_or o (find (has_name name) (flat_map spaces_on (present (drop (dev + 1) ds))))) none

  pub sought-here : (o : Option SpaceOnDevice) → find (has_name name) (device_spaces (get_or ds dev d)) ≡ o → IsSome o → find (has_name name) (flat_map spaces_on (present (drop dev ds))) ≡ o
  sought-here o is some = found_from ∙ ap (λ q. option_or q (find (has_name name) (flat_map spaces_on (present (drop (dev + 1) ds))))) is ∙ first o some
    where
      first : (q : Option SpaceOnDevice) → IsSome q → option_or q (find (has_name name) (flat_map spaces_on (present (drop (dev + 1) ds)))) ≡ q
      first None h = cc
      first (Some p) h = refl
