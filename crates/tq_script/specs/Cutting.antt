-- The words of a line, from a byte on.
use Rattle.std.specs.Prelude.{ℕ, List, length}
use Rattle.tq_model.specs.Grammar.{Word, words_from}

abbrev pub word_at : ℕ → List ℕ → Word
word_at column bytes = record { column = column; bytes = bytes }

-- the words of bytes of which the first has that column
abbrev pub words_of : ℕ → List ℕ → List Word
words_of column bytes = words_from (length bytes) column bytes
