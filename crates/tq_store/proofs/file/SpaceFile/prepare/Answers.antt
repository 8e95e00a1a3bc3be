use Rattle.std.proofs.Common.{◌≡◌, refl, sym, ap, subst, ◌∙◌}
use Rattle.tq_gate.specs.Frame.{payload_in}
use Rattle.tq_model.specs.Moves.{IndexedSpace, moved}
use Rattle.tq_space.specs.Applied.{plan_applied}
use Rattle.tq_store.specs.Change.{IsChange, changed}
use Rattle.tq_store.specs.Commit.{CanCommit}
use Rattle.tq_store.specs.Drafted.{IsReady}
use Rattle.tq_store.specs.File.{FileState, IsSound}
use Rattle.tq_store.specs.FileView.{file_view}
use Rattle.tq_store.proofs.ReadyLemmas.{move_applied, move_can}
use Rattle.tq_store.proofs.file.SpaceFile.prepare.Goals as goal

pub make_change-requires : goal.make_change-requires
make_change-requires c =
    let f = file_view c.self.inside in
    let can = subst (λ (x : FileState). CanCommit c.args.plan x.space) (sym c.self.view_is) c.requires.can in (
      f,
      record {
        sound = c.self.invariant;
        shape_is = refl;
        log_is = refl;
        raw_is = refl;
        store_is = refl;
        can = move_can c.args.plan f.space c.as_slice.result.now c.index-as_slice-0.result can c.requires.some c.as_slice.ensures c.index-as_slice-0.is;
      },
    )

pub invariant_of-self-2 : goal.invariant_of-self-2
invariant_of-self-2 c =
    let f = file_view c.self.inside in
    let item = c.index-as_slice-0.result in
    let can = subst (λ (x : FileState). CanCommit c.args.plan x.space) (sym c.self.view_is) c.requires.can in
    let own = move_can c.args.plan f.space c.as_slice.result.now item can c.requires.some c.as_slice.ensures c.index-as_slice-0.is in
    let change = c.in_ok-change.ensures.change f (record { sound = c.self.invariant; shape_is = refl; log_is = refl; raw_is = refl; store_is = refl; can = own }) in
    let held : c.apply.new.self.held ≡ moved item f.space =
    c.apply.ensures.held ∙ ap (plan_applied c.args.plan) c.in_ok-reserve.ensures.held
    ∙ move_applied c.args.plan f.space c.as_slice.result.now item can c.requires.some c.as_slice.ensures c.index-as_slice-0.is in
    subst (λ (s : IndexedSpace). IsSound (changed f s c.make_change.new.table c.make_change.new.store)) (sym held) change.new

pub returns-clause-ready : goal.returns-clause-ready
returns-clause-ready c =
    let f = file_view c.self.inside in
    let item = c.index-as_slice-0.result in
    let x = c.in_ok-change.change in
    let can = subst (λ (y : FileState). CanCommit c.args.plan y.space) (sym c.self.view_is) c.requires.can in
    let own = move_can c.args.plan f.space c.as_slice.result.now item can c.requires.some c.as_slice.ensures c.index-as_slice-0.is in
    let change = c.in_ok-change.ensures.change f (record { sound = c.self.invariant; shape_is = refl; log_is = refl; raw_is = refl; store_is = refl; can = own }) in
    let done = c.apply.ensures.held ∙ ap (plan_applied c.args.plan) c.in_ok-reserve.ensures.held in
    let held : c.apply.new.self.held ≡ moved item f.space =
    done ∙ move_applied c.args.plan f.space c.as_slice.result.now item can c.requires.some c.as_slice.ensures c.index-as_slice-0.is in
    subst (λ (old : FileState). IsReady old (changed f c.apply.new.self.held c.make_change.new.table c.make_change.new.store) c.args.plan x) c.self.view_is
    (record {
      done = record { space = done; place = refl; shape = refl; clusters = change.clusters };
      log = refl;
      change = subst (λ (s : IndexedSpace). IsChange f s c.make_change.new.table c.make_change.new.store x.first x.message.items (payload_in x.frame.items))
          (sym held) change;
      written = c.in_ok-change.ensures.written;
    })
