-- `cells::stands` meets its contract. Assumes nothing.
use Rattle.basics.specs.Words.{ℕ, ◌+◌, ◌*◌, ◌≤◌, ◌<◌, ◌≡◌, ap, ◌∙◌, subst, pos, rules}
use lib.Signed.{mag}
use lib.Ieee.{binary32, of_int}
use Rattle.basics.proofs.laws.Says.{says_no}
use Rattle.cells.proofs.laws.EdgeRule.{none-past}
use Rattle.cells.proofs.Edges.{near_is, near_fits, read_sign, over_edges, under_edges}
use Rattle.cells.proofs.stands.Statement.{statement}
use Rattle.cells.proofs.stands.Tie as tie

-- the edges next to zero and beyond
near : (c : tie.After-steps) → c.steps.result * c.before.args.size ≡ mag c.before.args.c * c.before.args.size
near c = near_is c.before.args.c c.before.ranges.c _ c.before.args.size c.steps.ensures

reached : (c : tie.Else-near-gt1048576) → mag c.before.before.args.c * c.before.before.args.size ≤ 1048576
reached c = subst (λ (n : ℕ). n ≤ 1048576) (near c.before) c.if-near-gt1048576.false

low : (c : tie.After-exactly-low) → let a = c.before.before.before.args in c.exactly-low.result ≡ of_int binary32 (pos (mag a.c * a.size))
low c = c.exactly-low.ensures ∙ ap (λ (n : ℕ). of_int binary32 (pos n)) (near c.before.before)

high : (c : tie.After-exactly-high) → let a = c.before.before.before.before.args in c.exactly-high.result ≡ of_int binary32 (pos (mag a.c * a.size + a.size))
high c = c.exactly-high.ensures ∙ ap (λ (n : ℕ). of_int binary32 (pos (n + c.before.before.before.before.args.size))) (near c.before.before.before)

returns : tie.Need-returns-then-near-gt1048576
returns c = let s = c.before.before in says_no (none-past s.args.size s.requires.0 s.args.x s.requires.1 s.args.c (subst (λ (n : ℕ). 1048576 < n) (near c.before) c.if-near-gt1048576.true))

returns-2 : tie.Need-returns-then-c-lt0
returns-2 c =
    let s = c.before.before.before.before.before in
    under_edges s.args.size s.requires.0 s.args.x s.requires.1 s.args.c _ _ (reached c.before.before.before) (low c.before.before) (high c.before) (read_sign s.args.c _ s.ranges.c c.if-c-lt0.true)

returns-3 : tie.Need-returns
returns-3 c =
    let s = c.before.before.before.before.before in
    over_edges s.args.size s.requires.0 s.args.x s.requires.1 s.args.c _ _ (reached c.before.before.before) (low c.before.before) (high c.before) (read_sign s.args.c _ s.ranges.c c.if-c-lt0.false)

pub stands_spec : {M : Type 1} → statement M
stands_spec = tie.close (tie.spec (λ c κs. search rules) (λ c. near_fits c.before.args.c c.before.ranges.c _ _ c.steps.ensures c.before.requires.0.1) returns (λ c κs. search rules) (λ c. search rules) (λ c κs. search rules) returns-2 returns-3)
