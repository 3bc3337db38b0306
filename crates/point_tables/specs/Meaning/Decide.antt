-- Whether tables hold a grid can be decided: `holds`. It is never computed: the check says the same. Assumes nothing.
use Rattle.basics.specs.Words.{Bool}
use Rattle.basics.specs.Meaning.Says.{Says, said}
use Rattle.basics.proofs.laws.Says.{said_says}
use Rattle.point_tables.specs.Meaning.Tables.{Tables, Sized}
use Rattle.point_tables.specs.Meaning.Holds.{Holds}
use Rattle.point_tables.specs.Inner.Decide.{d_holds, d_sized}

pub sized : Tables → Bool
sized t = said (d_sized t)

pub sized_says : (t : Tables) → Says (sized t) (Sized t)
unfolding sized
sized_says t = said_says (d_sized t)

pub holds : Tables → Bool
holds t = said (d_holds t)

pub holds_says : (t : Tables) → Says (holds t) (Holds t)
unfolding holds
holds_says t = said_says (d_holds t)
