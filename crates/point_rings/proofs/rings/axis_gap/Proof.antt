-- `point_rings::rings::axis_gap` meets its contract. Assumes nothing.
use Rattle.basics.specs.Words.{rules}
use Rattle.point_rings.proofs.laws.GapLaws.{above-fits, above_exact, down_fits, below-fits, below_exact, axis_is}
use Rattle.point_rings.proofs.rings.axis_gap.Statement.{statement}
use Rattle.point_rings.proofs.rings.axis_gap.Tie as tie

add-edge : tie.Need-overflow_add-k
add-edge c = above-fits c.args.size c.requires.0 c.args.k c.requires.1 c.args.d c.requires.2

edge-requires : tie.Need-edge-requires
edge-requires c κs = above_exact c.args.size c.requires.0 c.args.k c.requires.1 c.args.d c.requires.2

sub-edge : tie.Need-overflow_sub-k
sub-edge c =
    let s = c in
    down_fits s.args.size s.requires.0 s.args.k s.requires.1 s.args.d s.requires.2

add-edge-2 : tie.Need-overflow_add-k-2
add-edge-2 c =
    let s = c in
    below-fits s.args.size s.requires.0 s.args.k s.requires.1 s.args.d s.requires.2

edge-requires-2 : tie.Need-edge-requires-2
edge-requires-2 c κs =
    let s = c in
    below_exact s.args.size s.requires.0 s.args.k s.requires.1 s.args.d s.requires.2

returns : tie.Need-returns
returns c =
    let s = c in
    axis_is s.args.size s.requires.0 s.args.k s.requires.1 s.args.d s.requires.2 _ _ _ _ c.lesser.ensures c.edge.ensures c.edge-2.ensures

pub axis_gap_spec : {M : Type 1} → statement M
axis_gap_spec =
    tie.close
    (tie.spec (λ c. search rules) add-edge edge-requires (λ c. search rules) sub-edge add-edge-2 edge-requires-2 (λ c κs. search rules) returns)
