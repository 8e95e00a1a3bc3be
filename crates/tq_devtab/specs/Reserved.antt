-- A space that is to be entered.
use Rattle.tq_model.specs.Reading.{NamedSpace}
use Rattle.tq_devtab.specs.declared.reserved.Reserved.{Reserved}
use Rattle.tq_devtab.specs.Table.{entry_view}

abbrev pub space_of : Reserved → NamedSpace
space_of r = entry_view r.entry
