-- What a contract sees of a space on its device and in memory.
use Rattle.tq_store.specs.declared.file.SpaceFile.TheInside.{Inside}
use Rattle.tq_store.specs.File.{FileState, IsSound}

abbrev pub file_view : Inside → FileState
file_view f = record { place = f.place; shape = f.shape; space = f.space.held; raw = f.table; store = f.store; log = f.log }

abbrev pub IsSoundFile : Inside → Type 0
IsSoundFile f = IsSound (file_view f)
