use Rattle.std.proofs.Common.{ℕ, ◌∙◌, sym, ap, arith}
use Rattle.tq_model.specs.Site.{capacity_of}
use Rattle.tq_model.specs.Step.{Outcome}
use Rattle.tq_model.specs.declared.answer.Capacity.{Capacity}
use Rattle.tq_model.specs.declared.answer.Answer.TheVariants as answers
use Rattle.tq_model.specs.declared.answer.DeviceAnswer.TheVariants as device_answers
use Rattle.tq_devtab.specs.InMemory.{part_of}
use Rattle.tq_devtab.proofs.PictureLemmas.{settled_has}
use Rattle.tq_coord.proofs.ForCallers.{stays}
use Rattle.tq_coord.proofs.DeviceCreationLemmas.{HasNoFiles, creating, first_journal_of, made_outcome, new_disk_has, new_site, new_site_is, new_together, new_volume_is}
use Rattle.tq_coord.proofs.site.Manager.create_device.Goals as goal

pub returns-in-Some-clause-stop : goal.returns-in-Some-clause-stop
returns-in-Some-clause-stop g c = stays _ _ _ c.requires.on

pub returns-in_err-table-clause-stop : goal.returns-in_err-table-clause-stop
returns-in_err-table-clause-stop g c =
    let none = c.in_default.ensures in
    let site = c.site_number-site in
    creating c.args.creation.now c.args.self.now none.blank none.device (sym none.refused) site.result _ _ site.ensures c.requires.on
    c.create.ensures.rest c.create.ensures.stop

pub returns-clause-stop : goal.returns-clause-stop
returns-clause-stop g c =
    let none = c.in_default.ensures in
    let site = c.site_number-site in
    creating c.args.creation.now c.args.self.now none.blank none.device (sym none.refused) site.result _ _ site.ensures c.requires.on
    c.create.ensures.rest c.create.ensures.stop

pub invariant_of-disk : goal.invariant_of-disk
invariant_of-disk g c =
    let made = c.in_ok-table.ensures in
    let files = c.in_ok-files.ensures in
    record {
      table_dev = made.dev;
      number = made.place;
      journal_dev = c.in_ok-journal.ensures.dev;
      fit = new_together c.site_number-site.result c.args.creation.now.clusters (part_of c.in_ok-table.table) c.in_ok-files.files.items
          (record { part = made.part; count = files.count; none = files.none });
    }

pub returns-clause-served : goal.returns-clause-served
returns-clause-served g c =
    let none = c.in_default.ensures in
    let site = c.site_number-site.result in
    let clusters = c.args.creation.now.clusters in
    let made = c.in_ok-table.ensures in
    let files = c.in_ok-files.ensures in
    let journal = c.in_ok-journal.ensures in
    let t = part_of c.in_ok-table.table in
    let bare : HasNoFiles site clusters t c.in_ok-files.files.items = record { part = made.part; count = files.count; none = files.none } in
    let outcome = made_outcome c.args.creation.now c.args.self.now none.blank none.device (sym none.refused) in
    record {
      answer = ap (λ (k : Capacity). answers.Device (device_answers.Created k))
          (c.capacity-capacity.ensures ∙ ap capacity_of (new_volume_is site clusters t c.in_ok-files.files.items bare))
          ∙ sym (ap (λ (o : Outcome). o.answer) outcome);
      site = new_site_is site clusters t c.in_ok-files.files.items c.in_ok-journal.journal.epoch bare journal.epoch
          ∙ ap (λ (n : ℕ). new_site n clusters) c.site_number-site.ensures ∙ sym (ap (λ (o : Outcome). o.site) outcome);
      next = omega arith;
      images = settled_has _ 0 _ (g.met.H.Host.lawful c.create.new.host) made.settled
          (λ told.
          let first = first_journal_of site clusters _ (made.done told) (made.first told) in
          new_disk_has _ site clusters 0 _ bare (made.table told) (journal.on _ first));
    }
