-- `cells::edge` meets its contract: the edge of a negative cell is the mirrored one of a positive. Assumes nothing.
use Rattle.basics.specs.Words.{ℕ, zero, suc, ◌+◌, ◌-◌, ◌*◌, ◌/◌, ◌%◌, ◌^◌, ◌<◌, ◌≡◌, refl, sym, ap, ◌∙◌, Bool, true, false, cond, ltb, ℤ, pos, neg_ℤ, suc-mul, arith, rules}
use lib.Signed.{mag, lt_z}
use Prim.Native.Nat.{compare}
use lib.Ieee.{Float, inf, binary32, prec, emax, low, neg, size, nearest, odd, units, round, of_int}
use Rattle.cells.specs.Inner.Edge.{edge}
use Rattle.cells.proofs.Edges.{near_is, read_sign}
use Rattle.cells.proofs.Signs.{is_under, is_over}
use Rattle.cells.proofs.edge.Statement.{statement}
use Rattle.cells.proofs.edge.Tie as tie

-- ---- a sign goes through rounding
neg-odd : (d q k l : ℕ) → neg (odd d false q k l) ≡ odd d true q k l
unfolding odd neg
neg-odd d zero k l = refl
neg-odd d (suc q) k l = refl

neg-either : (b : Bool) (x y : Float) (s t : Float) → neg x ≡ s → neg y ≡ t → neg (cond b x y) ≡ cond b s t
neg-either true x y s t e g = e
neg-either false x y s t e g = g

neg-inf : neg (inf false) ≡ inf true
unfolding neg
neg-inf = refl

neg-units : (q k : ℕ) → neg (units binary32 false q k) ≡ units binary32 true q k
unfolding units
neg-units q k =
    let d = suc (prec binary32) in
    let l = low binary32 in
    neg-either (ltb (q * 2 ^ k) (2 ^ (l + suc (emax binary32)))) (odd d false q k l) (inf false) (odd d true q k l) (inf true) (neg-odd d q k l) neg-inf

neg-round : (n : ℕ) → neg (round binary32 false n 1) ≡ round binary32 true n 1
unfolding round
neg-round n =
    let m = n * 2 ^ low binary32 in
    let k = size (m / 1) - prec binary32 in
    let u = 1 * 2 ^ k in
    neg-units (nearest (m / u) (compare (m % u * 2) u)) k

neg-whole : (n : ℕ) → 0 < n → neg (of_int binary32 (pos n)) ≡ of_int binary32 (neg_ℤ (pos n))
unfolding of_int
neg-whole zero h = absurd (omega arith)
neg-whole (suc n) h = neg-round (suc n)

near : (c : tie.After-steps) → c.steps.result * c.before.args.size ≡ mag c.before.args.c * c.before.args.size
near c = near_is c.before.args.c c.before.ranges.c _ c.before.args.size c.steps.ensures

-- the edges of a cell that is not below zero, and of one that is
over_edge : (s : ℕ) (c : ℤ) → lt_z c (pos 0) ≡ false → of_int binary32 (pos (mag c * s)) ≡ edge s c
over_edge s c z = sym (ap (edge s) (is_over c z))

under-edge : (s : ℕ) (c : ℤ) → 0 < s → lt_z c (pos 0) ≡ true → neg (of_int binary32 (pos (mag c * s + s))) ≡ edge s c
under-edge s c h z =
    neg-whole (mag c * s + s) (omega arith) ∙ ap (λ (n : ℕ). of_int binary32 (neg_ℤ (pos n))) (sym (suc-mul (mag c) s)) ∙ sym (ap (edge s) (is_under c z))

mul-near : tie.Need-overflow_mul-near
mul-near c = omega (arith, near c, c.before.requires.1)

add-exactly : tie.Need-overflow_add-near
add-exactly c = omega (arith, near c.before, c.before.before.requires.1)

exactly-requires : tie.Need-exactly-requires
exactly-requires c κs = omega (arith, near c.before, c.before.before.requires.1)

returns : tie.Need-returns-then-c-lt0
returns c =
    let k = c.before.before in
    let s = k.before in
    let a = s.args in
    ap neg (c.exactly.ensures ∙ ap (λ (n : ℕ). of_int binary32 (pos (n + a.size))) (near k)) ∙ under-edge a.size a.c s.requires.0 (read_sign a.c _ s.ranges.c c.before.if-c-lt0.true)

exactly-requires-2 : tie.Need-exactly-requires-2
exactly-requires-2 c κs = omega (arith, near c.before, c.before.before.requires.1)

returns-2 : tie.Need-returns
returns-2 c =
    let k = c.before.before in
    let s = k.before in
    let a = s.args in
    c.exactly-2.ensures ∙ ap (λ (n : ℕ). of_int binary32 (pos n)) (near k) ∙ over_edge a.size a.c (read_sign a.c _ s.ranges.c c.before.if-c-lt0.false)

pub edge_spec : {M : Type 1} → statement M
edge_spec = tie.close (tie.spec (λ c κs. search rules) mul-near add-exactly exactly-requires returns exactly-requires-2 returns-2)
