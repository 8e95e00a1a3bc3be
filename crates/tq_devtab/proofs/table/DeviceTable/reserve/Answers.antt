use Rattle.std.proofs.Common.{◌∙◌, refl, sym, ap, subst}
use Rattle.std.specs.Prelude.{nat_le}
use Rattle.std.specs.List.{list_all}
use Rattle.tq_model.specs.declared.answer.Extent.{Extent}
use Rattle.tq_model.specs.Site.{as_extents}
use Rattle.tq_model.proofs.NameTests.{is_name-name}
use Rattle.tq_devtab.specs.Errors.{IsRefusal}
use Rattle.tq_devtab.specs.InMemory.{part_of}
use Rattle.tq_devtab.specs.Volume.{lowest_of}
use Rattle.tq_devtab.specs.declared.error.ReserveError.TheVariants as errors
use Rattle.tq_devtab.proofs.FreeLemmas.{ends-most}
use Rattle.tq_devtab.proofs.ReserveLemmas.{given_err, has_place, lacks_memory}
use Rattle.tq_devtab.proofs.TableLemmas.{as_extents-some}
use Rattle.tq_devtab.proofs.table.DeviceTable.reserve.Goals as goal

pub returns-in_err-extents-clause-refused : goal.returns-in_err-extents-clause-refused
returns-in_err-extents-clause-refused c =
    let t = c.args.self.now in
    let place = has_place t c.args.name c.as_bytes.result.now c.args.pages c.clusters_for-need.result c.from-free.result c.as_slice-entries.result.now
    c.has_named.result c.has_unused.result c.as_slice-entries.ensures.value c.as_bytes.ensures.bytes c.has_named.ensures c.if-has_named.false
    c.has_unused.ensures c.if-not-has_unused.false c.if-self-ge-LAST_SPACE.false c.clusters_for-need.ensures (c.from-free.ensures ∙ c.free.ensures)
    c.if-free-need.false in
    given_err c.from_residual.result c.in_err-extents.field-0.0 (IsRefusal (part_of t) c.args.name c.args.pages) c.from_residual.ensures.1
    (subst (IsRefusal (part_of t) c.args.name c.args.pages) (sym c.in_err-extents.ensures.cause) (lacks_memory (part_of t) c.args.name c.args.pages place))

pub returns-in_err-map-clause-refused : goal.returns-in_err-map-clause-refused
returns-in_err-map-clause-refused c =
    let t = c.args.self.now in
    let place = has_place t c.args.name c.as_bytes.result.now c.args.pages c.clusters_for-need.result c.from-free.result c.as_slice-entries.result.now
    c.has_named.result c.has_unused.result c.as_slice-entries.ensures.value c.as_bytes.ensures.bytes c.has_named.ensures c.if-has_named.false
    c.has_unused.ensures c.if-not-has_unused.false c.if-self-ge-LAST_SPACE.false c.clusters_for-need.ensures (c.from-free.ensures ∙ c.free.ensures)
    c.if-free-need.false in
    given_err c.from_residual-in_err-map.result errors.NoMemory (IsRefusal (part_of t) c.args.name c.args.pages) c.from_residual-in_err-map.ensures.1
    (lacks_memory (part_of t) c.args.name c.args.pages place)

pub invariant_of-result-clause-within : goal.invariant_of-result-clause-within
invariant_of-result-clause-within c =
    let is = c.in_ok-extents.ensures in
    ends-most c.in_ok-extents.extents
    (ap (list_all (λ (e : Extent). nat_le 1 e.count)) is.extents ∙ as_extents-some (lowest_of c.clusters_for-need.result (part_of c.args.self.now)))
    is.mappable.within

pub returns-clause-reserved : goal.returns-clause-reserved
returns-clause-reserved c =
    let t = c.args.self.now in
    let place = has_place t c.args.name c.as_bytes.result.now c.args.pages c.clusters_for-need.result c.from-free.result c.as_slice-entries.result.now
    c.has_named.result c.has_unused.result c.as_slice-entries.ensures.value c.as_bytes.ensures.bytes c.has_named.ensures c.if-has_named.false
    c.has_unused.ensures c.if-not-has_unused.false c.if-self-ge-LAST_SPACE.false c.clusters_for-need.ensures (c.from-free.ensures ∙ c.free.ensures)
    c.if-free-need.false in
    record {
      name = is_name-name c.args.name c.as_bytes.ensures.name;
      alone = place.alone;
      room = place.room.0;
      ordinal = refl;
      last = place.room.1;
      least = c.requires.least;
      most = c.requires.most;
      enough = place.enough;
      extents = c.in_ok-extents.ensures.extents ∙ ap (λ n. as_extents (lowest_of n (part_of t))) c.clusters_for-need.ensures;
    }
