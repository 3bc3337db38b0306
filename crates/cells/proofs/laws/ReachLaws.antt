-- What `cell_at` asks of a position holds in the domain and at the corners of a circle's range. Assumes nothing.
use Rattle.basics.specs.Words.{◌*◌, sym, true, false, ◌&&◌, T, eqb, eqb→eq, pos, arith}
use lib.Ieee.{Float, nan, inf, fin, up, down, lt, eq, le}
use lib.Ieee.Fits.{and_i, and_l, and_r}
use Rattle.geometry.specs.declared.Position.{Position}
use Rattle.geometry.specs.Meaning.Domain.{within, in_domain, position_in_domain, radius_in_domain}
use Rattle.geometry.proofs.laws.Back.{le_ff, le_tt, le_tf}
use Rattle.geometry.proofs.laws.DomainLaws.{domain_within, position_parts, radius_in_domain_lem, low-within, high-within}
use Rattle.geometry.specs.Meaning.Circle.{corner_below, corner_above}
use Rattle.cells.specs.Inner.CellRule.{Reached}
use Rattle.cells.proofs.laws.CellRuleLaws.{le_of_tests}

within_wider : (x : Float) → T (within 20 x) → T (within 21 x)
unfolding le lt eq
within_wider nan h = absurd h
within_wider (inf true) h = absurd h
within_wider (inf false) h = absurd h
within_wider (fin false m e) h =
    let a = m * up e * 1 in
    let b = 1 * 1048576 * down e in
    let l = le_of_tests a b (eqb a b && true) (λ t. eqb→eq a b (and_l (eqb a b) true t))
    (and_r (le (fin true 1 (pos 20)) (fin false m e)) (le (fin false m e) (fin false 1 (pos 20))) h) in
    and_i (le (fin true 1 (pos 21)) (fin false m e)) (le (fin false m e) (fin false 1 (pos 21)))
    (le_tf (1 * 2097152 * down e) a) (le_ff a (1 * 2097152 * down e) (omega arith))
within_wider (fin true m e) h =
    let a = 1 * 1048576 * down e in
    let b = m * up e * 1 in
    let l = le_of_tests b a (eqb a b && true) (λ t. sym (eqb→eq a b (and_l (eqb a b) true t)))
    (and_l (le (fin true 1 (pos 20)) (fin true m e)) (le (fin true m e) (fin false 1 (pos 20))) h) in
    and_i (le (fin true 1 (pos 21)) (fin true m e)) (le (fin true m e) (fin false 1 (pos 21)))
    (le_tt (1 * 2097152 * down e) b (omega arith)) (le_tf b (1 * 2097152 * down e))

pub domain_reached : (x : Float) → T (in_domain x) → T (within 21 x)
domain_reached x h = within_wider x (domain_within x h)

pub position_reached : (p : Position) → T (position_in_domain p) → Reached p
position_reached p h = let (x, y) = position_parts p h in (domain_reached p.x x, domain_reached p.y y)

module _ (c : Position) (r : Float) (hc : T (position_in_domain c)) (hr : T (radius_in_domain r)) where
  pub low_reached : Reached (corner_below c r)
  low_reached =
      let (x, y) = position_parts c hc in
      let d = radius_in_domain_lem r hr in
      (low-within c.x r x d, low-within c.y r y d)

  pub high_reached : Reached (corner_above c r)
  high_reached =
      let (x, y) = position_parts c hc in
      let d = radius_in_domain_lem r hr in
      (high-within c.x r x d, high-within c.y r y d)
