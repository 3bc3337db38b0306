-- The refusals of `fill_map`, and what is known where none applies. Assumes nothing.
use Rattle.basics.specs.Words.{ℕ, ◌≡◌, refl, Bool, true, false, ◌&&◌, List, [], ◌∷◌, length, eqb, leb, arith, eqb-true}
use Rattle.basics.specs.Words.{ne_eqb}
use lib.Ieee.{Float}
use Rattle.basics.specs.Meaning.Refusals.{unless, first_of}
use Rattle.basics.proofs.laws.Says.{both_true, leb_says}
use Rattle.point_tables.specs.Meaning.Tables as Points
use Rattle.point_tables.specs.Meaning.Decide as PointsDecide
use Rattle.box_tables.specs.Meaning.Tables as Boxes
use Rattle.box_tables.specs.Meaning.Decide as BoxesDecide
use Rattle.encoder_blocks.specs.Meaning.Blocks.{side, blocks}
use Rattle.encoder_points.specs.Meaning.Points.{most_circles}
use Rattle.encoder.specs.Meaning.Map.{map_of}
use Rattle.encoder.specs.Meaning.FillMap.{every, circle_in_domain, circle_in_range, grids_right, lengths_right, fill_map_tests, map_filled, fill_map_of}
use Rattle.encoder.specs.Inner.Drawn.{Drawable}

module _ (t : Points.Tables) (b : Boxes.Tables) (circles : List (List Float)) (bytes : List ℕ) where
  abbrev pub answered : ℕ
  answered = first_of (fill_map_tests t b circles bytes)

  -- ---- where none applies
  none-applies : (p q r : Bool) → 0 ≡ first_of (unless p 3 ∷ unless q 6 ∷ unless r 7 ∷ []) → (p ≡ true) × (q ≡ true)
  none-applies true true r e = (refl, refl)
  none-applies true false r e = absurd (omega (arith, e))
  none-applies false q r e = absurd (omega (arith, e))

  module _ (e : 0 ≡ answered) where
    passed : ((lengths_right circles bytes && grids_right t b) ≡ true) × (every circle_in_domain circles ≡ true)
    passed = none-applies (lengths_right circles bytes && grids_right t b) (every circle_in_domain circles) (every circle_in_range circles) e

    parts : (lengths_right circles bytes ≡ true) × (grids_right t b ≡ true)
    parts = both_true (lengths_right circles bytes) (grids_right t b) passed.0

    lengths : (leb (length circles) most_circles ≡ true) × (eqb (length bytes) blocks ≡ true)
    lengths = both_true (leb (length circles) most_circles) (eqb (length bytes) blocks) parts.0

    pub length-passed : length bytes ≡ blocks
    length-passed = eqb-true (length bytes) blocks lengths.1

    pub drawable : Drawable t b circles
    drawable =
        let (p, q) = both_true (PointsDecide.holds t && eqb (Points.size_of t) side) (BoxesDecide.holds b && eqb (Boxes.size_of b) side) parts.1 in
        let (hp, sp) = both_true (PointsDecide.holds t) (eqb (Points.size_of t) side) p in
        let (hb, sb) = both_true (BoxesDecide.holds b) (eqb (Boxes.size_of b) side) q in
        record {
          points = (PointsDecide.holds_says t).yes hp;
          points-size = eqb-true (Points.size_of t) side sp;
          boxes = (BoxesDecide.holds_says b).yes hb;
          boxes-size = eqb-true (Boxes.size_of b) side sb;
          few = (leb_says (length circles) most_circles).yes lengths.0;
          within_domain = passed.1;
        }

    pub fill_done : map_filled 0 (map_of t b circles) ≡ fill_map_of t b circles bytes
    unfolding fill_map_of
    fill_done = rw (← e)

  pub fill_refused : (w : ℕ) → w ≡ answered → (w ≡ 0 → ⊥) → map_filled w bytes ≡ fill_map_of t b circles bytes
  unfolding fill_map_of
  fill_refused w e n = rw (← e, ne_eqb w 0 n)
