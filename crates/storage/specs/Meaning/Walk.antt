-- The walk of a range: the lists of its cells, in range order and then in list order. Assumes nothing.
use Rattle.std.specs.Prelude.{◌∷◌, ◌++◌}
use Rattle.basics.specs.Words.{ℕ, List, []}
use Rattle.cells.specs.declared.Cell.{Cell}
use Rattle.cells.specs.Meaning.Range.{range_cells}
use Rattle.cells.specs.Meaning.Key.{key_of}
use Rattle.storage.specs.Meaning.Keyed.{under}

module _ {A : Type 0} (key : A → ℕ) where
  abbrev pub lists_of : List Cell → List A → List A
  lists_of [] pool = []
  lists_of (c ∷ cs) pool = under key (key_of c) pool ++ lists_of cs pool

  -- from the cell a of the lower left to the cell b of the upper right
  unfoldable pub walked : Cell → Cell → List A → List A
  walked a b pool = lists_of (range_cells a b) pool
