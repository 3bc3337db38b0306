-- `cells::span_of` meets its contract. Assumes nothing.
use Rattle.basics.specs.Words.{ℕ, suc, ◌+◌, ◌*◌, ◌≤◌, ◌<◌, ◌≡◌, sym, ap, ◌∙◌, subst, ℤ, pos, suc-mul, rules}
use lib.Signed.{mag}
use lib.Ieee.{neg, of_int, binary32}
use Rattle.cells.specs.Inner.Span.{Spans, LastBelow, FirstFrom}
use Rattle.cells.proofs.laws.SpanLaws.{no_span, over_span, under_span}
use Rattle.cells.proofs.Signs.{is_under, is_over}
use Rattle.cells.proofs.Edges.{near_is, near_fits, read_sign}
use Rattle.cells.proofs.span_of.Statement.{statement}
use Rattle.cells.proofs.span_of.Tie as tie

-- the edges next to zero and beyond
near : (c : tie.After-steps) → c.steps.result * c.before.args.size ≡ mag c.before.args.c * c.before.args.size
near c = near_is c.before.args.c c.before.ranges.c _ c.before.args.size c.steps.ensures

reached : (c : tie.Else-near-gt1048576) → mag c.before.before.args.c * c.before.before.args.size ≤ 1048576
reached c = subst (λ (n : ℕ). n ≤ 1048576) (near c.before) c.if-near-gt1048576.false

last : (c : tie.After-last_below-last) → let a = c.before.before.before.args in LastBelow (suc (mag a.c) * a.size) c.last_below-last.result
last c =
    let a = c.before.before.before.args in
    subst (λ (n : ℕ). LastBelow n c.last_below-last.result) (ap (λ (n : ℕ). n + a.size) (near c.before.before) ∙ sym (suc-mul (mag a.c) a.size)) c.last_below-last.ensures

returns : tie.Need-returns-then-near-gt1048576
returns c = let s = c.before.before in no_span s.args.size s.requires s.args.c (subst (λ (n : ℕ). 1048576 < n) (near c.before) c.if-near-gt1048576.true)

returns-2 : tie.Need-returns-then-c-lt0
returns-2 c =
    let d = c.before.before in
    let e = d.before.before in
    let s = e.before in
    subst (λ (k : ℤ). Spans s.args.size k (neg d.last_below-last.result) (neg c.first_from-first.result)) (sym (is_under s.args.c (read_sign s.args.c _ s.ranges.c c.before.if-c-lt0.true)))
    (under_span s.args.size s.requires (mag s.args.c) (reached d.before) c.first_from-first.result d.last_below-last.result (last d)
    (subst (λ (n : ℕ). FirstFrom n c.first_from-first.result) (near e) c.first_from-first.ensures))

returns-3 : tie.Need-returns
returns-3 c =
    let d = c.before.before in
    let e = d.before.before in
    let s = e.before in
    subst (λ (k : ℤ). Spans s.args.size k c.exactly-first.result d.last_below-last.result) (sym (is_over s.args.c (read_sign s.args.c _ s.ranges.c c.before.if-c-lt0.false)))
    (over_span s.args.size s.requires (mag s.args.c) (reached d.before) c.exactly-first.result d.last_below-last.result (last d) (c.exactly-first.ensures ∙ ap (λ (n : ℕ). of_int binary32 (pos n)) (near e)))

pub span_of_spec : {M : Type 1} → statement M
span_of_spec =
    tie.close
    (tie.spec
    (λ c κs. search rules)
    (λ c. near_fits c.before.args.c c.before.ranges.c _ _ c.steps.ensures c.before.requires.1)
    returns
    (λ c. search rules)
    (λ c κs. search rules)
    (λ c κs. search rules)
    returns-2
    (λ c κs. search rules)
    returns-3)
