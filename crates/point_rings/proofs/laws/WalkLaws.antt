-- The walk, as its code makes it: the first ring at which the rule stops, and what is known where it does. Assumes nothing.
use Rattle.basics.specs.Words.{ℕ, suc, ◌+◌, ◌-◌, ◌<◌, ◌≤◌, ◌≡◌, sym, ap, ◌∙◌, Bool, true, false, List, arith}
use lib.Ieee.{Float}
use Rattle.geometry.specs.declared.Position.{Position}
use Rattle.geometry.specs.Meaning.Circle.{corner_below, corner_above}
use Rattle.cells.specs.declared.Cell.{Cell}
use Rattle.cells.specs.Meaning.CellRule.{cell_at}
use Rattle.cells.specs.Meaning.Key.{upward, key_of}
use Rattle.point_rings.specs.declared.Best.{Best}
use Rattle.point_rings.specs.Inner.Look.{no_best, looked, best_of, every, window_places}
use Rattle.point_rings.specs.Inner.Rings.{most_rings, within, last_ring, stops_by, stops_at, first_from, key_at, ring_places, Walkable}
use Rattle.point_rings.proofs.laws.LookLaws.{picked, not_picked}
use Rattle.point_rings.proofs.laws.RingLaws.{ring_first, ring_step, ring_rest, ring_stop}

-- ---- the first of some numbers at which a test passes
module _ (test : ℕ → Bool) (d m : ℕ) (below : d < m) where
  more : m - d ≡ suc (m - (d + 1))
  more = omega arith

  next : suc d ≡ d + 1
  next = omega arith

  open_up : first_from test d (m - d) ≡ first_from test d (suc (m - (d + 1)))
  open_up = ap (first_from test d) more

  pub first-here : test d ≡ true → first_from test d (m - d) ≡ d
  first-here e = open_up ∙ picked (test d) d (first_from test (suc d) (m - (d + 1))) e

  pub first_on : test d ≡ false → first_from test d (m - d) ≡ first_from test (d + 1) (m - (d + 1))
  first_on e = open_up ∙ not_picked (test d) d (first_from test (suc d) (m - (d + 1))) e ∙ ap (λ (n : ℕ). first_from test n (m - (d + 1))) next

-- ---- cells and numbers that code has worked out: mid, the corners of the range, and its last ring
module _ (size : ℕ) (c : Position) (r : Float) (pool : List (List ℕ)) (spots : List (List Float)) (used : ℕ) (w : Walkable size c r pool spots used)
    (m a b : Cell) (em : m ≡ cell_at size c) (ea : a ≡ cell_at size (corner_below c r)) (eb : b ≡ cell_at size (corner_above c r)) where
  abbrev best-below : ℕ → Best
  best-below d = best_of c r pool spots used (within (cell_at size c) pool d)

  -- what `stops` answers is the rule
  module _ (last : ℕ) (el : last ≡ last_ring m a b) (d : ℕ) (best : Best) (e : best ≡ best-below d) (s : Bool) (es : s ≡ stops_by size c last d best) where
    pub asked : s ≡ stops_at size c r pool spots used d
    asked = es ∙ (λ z. stops_by size c ((el ∙ (λ i. last_ring (em i) (ea i) (eb i))) z) d (e z))

    pub stopped : 1 ≤ d → d ≤ most_rings → s ≡ true → best ≡ best_of c r pool spots used every
    stopped some most t = e ∙ ring_stop size c r pool spots used w d some most (sym asked ∙ t)

  -- the middle cell, one ring more, and the rest
  pub walked-first : (x y : ℕ) (start best : Best) → x ≡ upward m.x → y ≡ upward m.y → start ≡ no_best r
      → best ≡ looked c pool spots (window_places (key_at x y) (key_at x y) pool used) start → best ≡ best-below 1
  walked-first x y start best ex ey e g =
      g
      ∙ (λ z. looked c pool spots (window_places (key_at ((ex ∙ ap (λ (n : Cell). upward n.x) em) z) ((ey ∙ ap (λ (n : Cell). upward n.y) em) z)) (key_at ((ex ∙ ap (λ (n : Cell). upward n.x) em) z) ((ey ∙ ap (λ (n : Cell). upward n.y) em) z)) pool used) (e z))
      ∙ ring_first size c r pool spots used w

  pub walked_ring : (x y d : ℕ) (best next : Best) → x ≡ upward m.x → y ≡ upward m.y → 1 ≤ d → d < most_rings → best ≡ best-below d
      → next ≡ looked c pool spots (ring_places x y d pool used) best → next ≡ best-below (d + 1)
  walked_ring x y d best next ex ey some most e g =
      let z : suc d ≡ d + 1 = omega arith in
      g
      ∙ (λ i. looked c pool spots (ring_places ((ex ∙ ap (λ (n : Cell). upward n.x) em) i) ((ey ∙ ap (λ (n : Cell). upward n.y) em) i) d pool used) (e i))
      ∙ ring_step size c r pool spots used w d some most
      ∙ ap best-below z

  pub walked-rest : (low high d : ℕ) (best last : Best) → low ≡ key_of a → high ≡ key_of b → best ≡ best-below d
      → last ≡ looked c pool spots (window_places low high pool used) best → last ≡ best_of c r pool spots used every
  walked-rest low high d best last el eh e g =
      g
      ∙ (λ i. looked c pool spots (window_places ((el ∙ ap key_of ea) i) ((eh ∙ ap key_of eb) i) pool used) (e i))
      ∙ ring_rest size c r pool spots used w d
