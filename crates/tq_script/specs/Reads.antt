-- What is read of the words behind a verb.
use Rattle.std.specs.Prelude.{◌≡◌, List, ◌++◌, Result, Ok, Err}
use Rattle.tq_model.specs.declared.grammar.Value.{Value}
use Rattle.tq_model.specs.Grammar as grammar
use Rattle.tq_model.specs.Grammar.{Scan, Misfit, Missing, Spelt}
use Rattle.tq_script.specs.declared.unread.Unread.{Unread}
use Rattle.tq_script.specs.declared.unread.Unread.TheVariants as unread

-- the scan ended as r says; want of memory says nothing of it
abbrev pub ReadsAs : {X : Type 0} → Result X Unread → Scan → (X → Scan) → Type 0
ReadsAs (Ok x) scan then = scan ≡ then x
ReadsAs (Err (unread.Misfit column)) scan then = scan ≡ Misfit column
ReadsAs (Err unread.Missing) scan then = scan ≡ Missing
ReadsAs (Err unread.Memory) scan then = Unit {0}

-- the scan with these values and keyed values in front
abbrev pub with_read : List Value → List grammar.Given → Scan → Scan
with_read values given (Misfit column) = Misfit column
with_read values given Missing = Missing
with_read values given (Spelt later_values later_given) = Spelt (values ++ later_values) (given ++ later_given)
