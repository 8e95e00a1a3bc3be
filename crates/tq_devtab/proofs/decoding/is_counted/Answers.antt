use Rattle.std.proofs.Common.{◌≡◌, ◌∙◌, ◌+◌, ◌*◌, ◌&&◌, List, true, false, get_or, refl, sym, ap, arith, le-leb}
use Rattle.std.specs.Prelude.{nat_le}
use Rattle.std.specs.List.{list_all, sum_by}
use Rattle.std.proofs.lemmas.Bool.{lt-leb}
use Rattle.tq_model.specs.DeviceForm.{RawEntry, extents_start, table_bytes, extent_count}
use Rattle.tq_devtab.proofs.TableReadLemmas.{entries_from, is_sound, count_in, sound-more, counts-more, entries_from-none}
use Rattle.tq_devtab.proofs.decoding.is_counted.Goals as goal

pub returns-then-base-at-gt1 : goal.returns-then-base-at-gt1
returns-then-base-at-gt1 c =
    let i = c.loop-index.index in
    let base = c.args.base.now in
    let end = c.loop-index.end + 4 * extent_count (32 + 160 * i) base in
    let broken : list_all is_sound (entries_from 0 extents_start base) ≡ false =
    sym c.loop-index.invariant.sound ∙ sound-more i c.loop-index.end end base c.loop-index-test.true refl
    ∙ ap (λ b. b && list_all is_sound (entries_from (i + 1) end base)) (lt-leb (get_or base (32 + 160 * i) 0) 1 c.if-base-at-gt1.true) in
    sym (ap (λ b. b && nat_le (extents_start + 4 * sum_by count_in (entries_from 0 extents_start base)) table_bytes) broken)

pub loop-index-preserved : goal.loop-index-preserved
loop-index-preserved c =
    let i = c.loop-index.index in
    let base = c.args.base.now in
    let end = c.loop-index.end + 4 * c.extent_count.result in
    let is_end = ap (λ n. c.loop-index.end + 4 * n) c.extent_count.ensures in
    record {
      sound =
          sym (sound-more i c.loop-index.end end base c.loop-index-test.true is_end
          ∙ ap (λ b. b && list_all is_sound (entries_from (i + 1) end base)) (le-leb (get_or base (32 + 160 * i) 0) 1 c.if-base-at-gt1.false))
          ∙ c.loop-index.invariant.sound;
      counted = sym (counts-more i c.loop-index.end end base c.loop-index-test.true is_end) ∙ c.loop-index.invariant.counted;
      small = omega arith;
    }

pub returns : goal.returns
returns c =
    let base = c.args.base.now in
    let none = entries_from-none c.loop-index.index c.loop-index.end base c.loop-index-test.false in
    let sound : list_all is_sound (entries_from 0 extents_start base) ≡ true =
    sym c.loop-index.invariant.sound ∙ ap (λ (l : List RawEntry). list_all is_sound l) none in
    let left : sum_by count_in (entries_from c.loop-index.index c.loop-index.end base) ≡ 0 = ap (λ (l : List RawEntry). sum_by count_in l) none in
    let end : extents_start + 4 * sum_by count_in (entries_from 0 extents_start base) ≡ c.loop-index.end = omega (arith, c.loop-index.invariant.counted) in
    sym (λ j. sound j && nat_le (end j) (sym c.requires j))
