-- What the proofs of point_tables share. Assumes nothing.
use Rattle.basics.specs.Words.{◌≡◌, Bool}
use Rattle.basics.specs.Meaning.Says.{Says}
use Rattle.basics.proofs.laws.Says.{says_same}
use Rattle.point_tables.specs.Meaning.Tables.{Tables}
use Rattle.point_tables.specs.Meaning.Holds.{Holds}
use Rattle.point_tables.specs.Meaning.Decide.{holds, holds_says}

-- what says that tables hold a grid is `holds`
pub said-holds : (t : Tables) (b : Bool) → Says b (Holds t) → b ≡ holds t
said-holds t b s = says_same b (holds t) s (holds_says t)
