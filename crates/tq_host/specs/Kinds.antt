-- The kinds of calls, numbered.
use Rattle.std.specs.Prelude.{ℕ}
use Rattle.tq_host.specs.declared.kind.CallKind.{CallKind}
use Rattle.tq_host.specs.declared.kind.CallKind.TheVariants.{Attach, Length, SetLength, Read, Write, Sync, Take, Give}

abbrev pub number_of : CallKind → ℕ
number_of Attach = 0
number_of Length = 1
number_of SetLength = 2
number_of Read = 3
number_of Write = 4
number_of Sync = 5
number_of Take = 6
number_of Give = 7
