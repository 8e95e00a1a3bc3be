use Rattle.tq_model.specs.Grammar as grammar
use Rattle.tq_script.specs.declared.cutting.Place.{Place}
use Rattle.tq_script.specs.declared.cutting.Place.TheVariants.{Plain, Quoted, Escaped}

-- the place of the grammar
abbrev pub place_of : Place → grammar.Place
place_of Plain = grammar.Plain
place_of Quoted = grammar.Quoted
place_of Escaped = grammar.Escaped
