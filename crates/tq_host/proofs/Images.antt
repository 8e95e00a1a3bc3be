-- What a write, a change of the length and a sync do to the images that a stop may leave.
use Rattle.std.proofs.Common.{◌≡◌, ◌⊎◌, inl, inr, ⊎_elim, ◌<◌, ◌≤◌, ℕ, zero, suc, ◌+◌, ◌-◌, min, max, List, [], ◌∷◌, ◌++◌, length, get_or, take, drop, refl, sym, ◌∙◌, ap, arith, length-append, length-drop}
use Rattle.std.specs.Prelude.{replicate, if◌then◌else◌, leb, ltb, ◌&&◌}
use Rattle.std.proofs.lemmas.List.{get_or_append_left, get_or-append_right, get_or-take, get_or-drop, length-take, length-take-le}
use Rattle.std.proofs.lemmas.Grind.{common_steps}
use Rattle.std.proofs.lemmas.Bool.Decides.{nat_tests}
use Rattle.tq_host.specs.Calls.{IsWritten, IsTorn, IsResized, IsPulled}
use Rattle.tq_host.specs.Disk.{Disk, Pending, IsTried, IsImage, settled, overwrite, resize, try_write, try_resize, written, tried_write, resized, tried_resize}
use Rattle.tq_host.proofs.Bytes.{before_or_after, same_bytes}

-- the first n values of a function
build : (ℕ → ℕ) → ℕ → List ℕ
build f zero = []
build f (suc n) = f 0 ∷ build (λ i. f (suc i)) n

length-build : (f : ℕ → ℕ) (n : ℕ) → length (build f n) ≡ n
unfolding build
length-build f zero = refl
length-build f (suc n) = ap suc (length-build (λ i. f (suc i)) n)

get-build : (f : ℕ → ℕ) (n i : ℕ) → i < n → get_or (build f n) i 0 ≡ f i
unfolding build
get-build f zero i lt = absurd (omega arith)
get-build f (suc n) zero lt = refl
get-build f (suc n) (suc i) lt = get-build (λ k. f (suc k)) n i (omega arith)

past : (l : List ℕ) (i : ℕ) → length l ≤ i → get_or l i 0 ≡ 0
past [] i le = refl
past (x ∷ l) zero le = absurd (omega arith)
past (x ∷ l) (suc i) le = past l i (omega arith)

module _ (at : ℕ) (bytes old : List ℕ) (begin : at ≤ length old) where
  head_long : length (take at old) ≡ at
  head_long = length-take-le at old begin

  front_long : length (take at old ++ bytes) ≡ at + length bytes
  front_long = length-append (take at old) bytes ∙ ap (λ k. k + length bytes) head_long

  before : (i : ℕ) → i < at → get_or (overwrite at bytes old) i 0 ≡ get_or old i 0
  before i lt =
      get_or_append_left (take at old ++ bytes) (drop (at + length bytes) old) 0 i (omega (arith, front_long))
      ∙ get_or_append_left (take at old) bytes 0 i (omega (arith, head_long)) ∙ get_or-take at old i 0 lt

  after : (i : ℕ) → at + length bytes ≤ i → get_or (overwrite at bytes old) i 0 ≡ get_or old i 0
  after i le =
      get_or-append_right (take at old ++ bytes) (drop (at + length bytes) old) (at + length bytes) i 0 front_long le
      ∙ get_or-drop (at + length bytes) old (i - (at + length bytes)) 0 ∙ ap (λ k. get_or old k 0) (let e : at + length bytes + (i - (at + length bytes)) ≡ i = omega arith in e)

  pub is_overwritten : IsWritten at bytes old (overwrite at bytes old)
  is_overwritten = record {
    stands = λ i lt. grind (arith, common_steps, head_long);
    outside = λ i out. ⊎_elim (before i) (after i) out;
    size = omega (arith, front_long, length-append (take at old ++ bytes) (drop (at + length bytes) old), length-drop (at + length bytes) old);
  }

get-zeros : (n i : ℕ) → get_or (replicate {A = ℕ} n 0) i 0 ≡ 0
get-zeros zero i = refl
get-zeros (suc n) zero = refl
get-zeros (suc n) (suc i) = get-zeros n i

length-zeros : (n : ℕ) → length (replicate {A = ℕ} n 0) ≡ n
length-zeros zero = refl
length-zeros (suc n) = ap suc (length-zeros n)

pub is_resized : (n : ℕ) (old : List ℕ) → IsResized n old (resize n old)
is_resized n old = record {
  front = λ i lt. get_or_append_left (take n old) (replicate (n - length old) 0) 0 i (omega (arith, length-take n old)) ∙ get_or-take n old i 0 (omega arith);
  size = omega (arith, length-append (take n old) (replicate (n - length old) 0), length-take n old, length-zeros (n - length old));
}

-- the image before a write of n bytes: the synced bytes in its range
unmixed : ℕ → ℕ → List ℕ → List ℕ → ℕ → ℕ
unmixed at n synced c i = if leb at i && ltb i (at + n) then get_or synced i 0 else get_or c i 0

unmixed_out : (at n : ℕ) (synced c : List ℕ) (i : ℕ) → (i < at) ⊎ (at + n ≤ i) → unmixed at n synced c i ≡ get_or c i 0
unfolding unmixed
unmixed_out at n synced c i out = grind (arith, nat_tests)

unmixed_in : (at n : ℕ) (synced c : List ℕ) (i : ℕ) → at ≤ i → i < at + n → unmixed at n synced c i ≡ get_or synced i 0
unfolding unmixed
unmixed_in at n synced c i le lt = grind (arith, nat_tests)

-- the bytes before a write of n bytes that ends in this image, where what is read is an image and reaches that far
pub write_image : (at n : ℕ) (pending : Pending) (seen : List ℕ) → IsImage pending seen → at ≤ length seen → (c : List ℕ) → IsImage (try_write at n pending) c
    → (b : List ℕ) × IsImage pending b × IsTorn at n b c
write_image at n pending seen fine begin c image =
    let m = min (length c) pending.high in
    let f = unmixed at n pending.synced c in
    let b = build f m in
    let long : length b ≡ m = length-build f m in
    let low : pending.low ≤ pending.high = omega (arith, fine.no_shorter, fine.no_longer) in (
      b,
      record {
        no_shorter = omega (arith, long, image.no_shorter, low);
        no_longer = omega (arith, long);
        bytes = λ i lt free. get-build f m i (omega (arith, image.no_shorter, low)) ∙ inner i lt free;
      },
      record {
        outside = λ i out. elim (before_or_after i m) [
          | inl inside ↦ sym (get-build f m i inside ∙ unmixed_out at n pending.synced c i out)
          | inr beyond ↦ past c i (short i out beyond) ∙ sym (past b i (omega (arith, long)))
        ];
        no_shorter = omega (arith, long);
        no_longer = omega (arith, long, image.no_longer, begin, fine.no_longer);
      },
    )
  where
    inner : (i : ℕ) → i < pending.low → (IsTried pending.ranges i → ⊥) → unmixed at n pending.synced c i ≡ get_or pending.synced i 0
    inner i lt free = elim (before_or_after i at) [
      | inl before ↦ unmixed_out at n pending.synced c i (inl before) ∙ image.bytes i lt (⊎_elim (λ r. absurd (omega (arith, r.0, before))) free)
      | inr le ↦ elim (before_or_after i (at + n)) [
        | inl inside ↦ unmixed_in at n pending.synced c i le inside
        | inr after ↦ unmixed_out at n pending.synced c i (inr after) ∙ image.bytes i lt (⊎_elim (λ r. absurd (omega (arith, r.1, after))) free)
      ]
    ]

    short : (i : ℕ) → (i < at) ⊎ (at + n ≤ i) → min (length c) pending.high ≤ i → length c ≤ i
    short i (inl before) beyond = omega (arith, image.no_longer, fine.no_longer)
    short i (inr after) beyond = omega (arith, image.no_longer, fine.no_longer)

-- the same before a change of the length
pub resize_image : (n : ℕ) (pending : Pending) (seen : List ℕ) → IsImage pending seen → (c : List ℕ) → IsImage (try_resize n pending) c → (b : List ℕ) × IsImage pending b × IsPulled n b c
resize_image n pending seen fine c image =
    let m = max pending.low (min (length c) pending.high) in
    let f = unmixed n (length c + pending.high + pending.low) pending.synced c in
    let b = build f m in
    let long : length b ≡ m = length-build f m in (
      b,
      record {
        no_shorter = omega (arith, long);
        no_longer = omega (arith, long, fine.no_shorter, fine.no_longer);
        bytes = λ i lt free. get-build f m i (omega arith) ∙ inner i lt free;
      },
      record {
        front = λ i lt. sym (get-build f m i (omega (arith, long)) ∙ unmixed_out n (length c + pending.high + pending.low) pending.synced c i (inl (omega arith)));
        no_shorter = omega (arith, long, image.no_shorter);
        no_longer = omega (arith, long, image.no_longer);
      },
    )
  where
    inner : (i : ℕ) → i < pending.low → (IsTried pending.ranges i → ⊥) → unmixed n (length c + pending.high + pending.low) pending.synced c i ≡ get_or pending.synced i 0
    inner i lt free = elim (before_or_after i n) [
      | inl before ↦ unmixed_out n (length c + pending.high + pending.low) pending.synced c i (inl before) ∙ image.bytes i (omega arith) free
      | inr after ↦ unmixed_in n (length c + pending.high + pending.low) pending.synced c i after (omega arith)
    ]

-- a settled disk has one image
pub settled_image : (bytes c : List ℕ) → IsImage (settled bytes).pending c → c ≡ bytes
settled_image bytes c image = same_bytes c bytes (omega (arith, image.no_shorter, image.no_longer)) (λ i lt. image.bytes i lt (λ none. none))

-- what is read is an image afterwards too
pub settled_fine : (bytes : List ℕ) → IsImage (settled bytes).pending bytes
settled_fine bytes = record { no_shorter = omega arith; no_longer = omega arith; bytes = λ i lt free. refl }

pub written_fine : (at : ℕ) (bytes : List ℕ) (disk : Disk) → IsImage disk.pending disk.seen → at ≤ length disk.seen → IsImage (written at bytes disk).pending (overwrite at bytes disk.seen)
written_fine at bytes disk fine begin =
    let w = is_overwritten at bytes disk.seen begin in
    record {
      no_shorter = omega (arith, w.size, fine.no_shorter);
      no_longer = omega (arith, w.size, fine.no_longer);
      bytes = λ i lt free. w.outside i (out i (λ r. free (inl r))) ∙ fine.bytes i lt (λ tried. free (inr tried));
    }
  where
    out : (i : ℕ) → ((at ≤ i) × (i < at + length bytes) → ⊥) → (i < at) ⊎ (at + length bytes ≤ i)
    out i free = elim (before_or_after i at) [
      | inl before ↦ inl before
      | inr le ↦ elim (before_or_after i (at + length bytes)) [ inl inside ↦ absurd (free (le, inside)) | inr after ↦ inr after ]
    ]

pub tried_write_fine : (at n : ℕ) (disk : Disk) → IsImage disk.pending disk.seen → IsImage (tried_write at n disk).pending disk.seen
tried_write_fine at n disk fine = record { no_shorter = fine.no_shorter; no_longer = omega (arith, fine.no_longer); bytes = λ i lt free. fine.bytes i lt (λ tried. free (inr tried)) }

pub resized_fine : (n : ℕ) (disk : Disk) → IsImage disk.pending disk.seen → IsImage (resized n disk).pending (resize n disk.seen)
resized_fine n disk fine =
    let r = is_resized n disk.seen in
    record {
      no_shorter = omega (arith, r.size, fine.no_shorter);
      no_longer = omega (arith, r.size, fine.no_longer);
      bytes = λ i lt free. r.front i (omega (arith, fine.no_shorter)) ∙ fine.bytes i (omega arith) free;
    }

pub tried_resize_fine : (n : ℕ) (disk : Disk) → IsImage disk.pending disk.seen → IsImage (tried_resize n disk).pending disk.seen
tried_resize_fine n disk fine = record { no_shorter = omega (arith, fine.no_shorter); no_longer = omega (arith, fine.no_longer); bytes = λ i lt free. fine.bytes i (omega arith) free }
