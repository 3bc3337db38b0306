-- `point_rings::rings::gap` meets its contract. Assumes nothing.
use Rattle.basics.specs.Words.{rules}
use Rattle.point_rings.proofs.laws.GapLaws.{column_near, line_near, gap_is}
use Rattle.point_rings.proofs.rings.gap.Statement.{statement}
use Rattle.point_rings.proofs.rings.gap.Tie as tie

axis-gap-requires : tie.Need-axis_gap-x-requires
axis-gap-requires c κs =
    let s = c in
    (s.requires.0, column_near s.args.size s.requires.0 s.args.centre s.requires.1 s.args.mid s.requires.2, s.requires.3)

axis-gap-requires-2 : tie.Need-axis_gap-y-requires
axis-gap-requires-2 c κs =
    let s = c in
    (s.requires.0, line_near s.args.size s.requires.0 s.args.centre s.requires.1 s.args.mid s.requires.2, s.requires.3)

returns : tie.Need-returns
returns c =
    let y = c in
    let x = y in
    let s = x in
    gap_is s.args.size s.requires.0 s.args.centre s.requires.1 s.args.mid s.requires.2 s.args.d _ _ _ c.lesser.ensures x.axis_gap-x.ensures y.axis_gap-y.ensures

pub gap_spec : {M : Type 1} → statement M
gap_spec = tie.close (tie.spec axis-gap-requires axis-gap-requires-2 (λ c κs. search rules) returns)
