-- `geometry::overlaps` meets its contract. Assumes nothing.
use Rattle.basics.specs.Words.{ap, rules}
use lib.Ieee.{Float, binary32, le, add, sub}
use Rattle.geometry.specs.Meaning.Intersects.{overlaps}
use Rattle.geometry.proofs.overlaps.Statement.{statement}
use Rattle.geometry.proofs.overlaps.Tie as tie

returns : tie.Need-returns
unfolding overlaps
returns c =
    let s = c.before.args in
    ap (λ (z : Float). le z (sub binary32 (add binary32 (sub binary32 s.hi s.lo) s.bhi) s.blo)) c.absolute.ensures

pub overlaps_spec : {M : Type 1} → statement M
overlaps_spec = tie.close (tie.spec (λ c κs. search rules) returns)
