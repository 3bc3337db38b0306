-- The boxes that a block meets: what the box `query` finds, asked with the block's four corners. Assumes nothing.
use Rattle.basics.specs.Words.{ℕ, Bool}
use Rattle.box_tables.specs.Meaning.Tables.{Tables}
use Rattle.box_search.specs.Meaning.Search.{narrow}
use Rattle.encoder_blocks.specs.Meaning.Blocks.{block_box}
use Rattle.encoder_blocks.specs.Meaning.Some.{some}

unfoldable pub boxed : Tables → ℕ → ℕ → Bool
unfolding narrow
boxed b i j = some (narrow b (block_box i j))
