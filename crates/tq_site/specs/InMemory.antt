-- The journal of a site in memory.
use Rattle.std.specs.Prelude.{ℕ, List}
use Rattle.tq_host.specs.View.{View}
use Rattle.tq_gate.specs.Reading.{Content}
use Rattle.tq_gate.specs.Log.{IsLog, layout_of}
use Rattle.tq_site.specs.declared.journal.SiteJournal.{SiteJournal}
use Rattle.tq_site.specs.Journal.{HasEpoch}

abbrev pub dev_of : SiteJournal → ℕ
dev_of j = (layout_of j.log).dev

-- an image has the journal, and the log in memory is that of the image
pub record IsJournalOf (j : SiteJournal) (image : List ℕ) : Type 0 where
  pub has : HasEpoch j.epoch image
  pub holds : Content
  pub log : IsLog j.log holds image

-- so has each image that a stop may leave
abbrev pub AreJournalOf : SiteJournal → View → Type 0
AreJournalOf j v = (image : List ℕ) → v.may_leave (dev_of j) image → IsJournalOf j image
