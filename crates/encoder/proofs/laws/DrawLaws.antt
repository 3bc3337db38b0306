-- The map that is drawn is the map that is defined: byte by byte. Assumes nothing.
use Rattle.basics.specs.Words.{ℕ, ◌/◌, ◌%◌, ◌<◌, ◌≡◌, refl, sym, ◌∙◌, Bool, true, false, List, [], ◌∷◌, map, get_or, ext_get_or, arith}
use lib.Ieee.{Float}
use Rattle.basics.specs.Meaning.Refusals.{pick}
use Rattle.basics.proofs.laws.Says.{both_true, says_t}
use Rattle.geometry.specs.Meaning.Domain.{position_in_domain, radius_in_domain}
use Rattle.storage.specs.Meaning.Keyed.{All}
use Rattle.point_tables.specs.Meaning.Tables as Points
use Rattle.box_tables.specs.Meaning.Tables as Boxes
use Rattle.encoder_blocks.specs.Meaning.Blocks.{columns, blocks}
use Rattle.encoder_points.specs.Meaning.Points.{centre_of, radius_of, circled, recorded}
use Rattle.encoder_points.specs.Inner.Marks.{point_byte, Marked}
use Rattle.encoder_points.specs.Inner.Near.{Fine}
use Rattle.encoder_boxes.specs.Meaning.Boxes.{boxed}
use Rattle.encoder_boxes.specs.Inner.Windows.{box_byte, Overlaid}
use Rattle.encoder_points.proofs.laws.PointLaws.{recorded_is, circled_is}
use Rattle.encoder_boxes.proofs.laws.NarrowLaws.{boxed_is}
use Rattle.encoder.specs.Meaning.Map.{byte_of, numbers, map_of}
use Rattle.encoder.specs.Meaning.FillMap.{every, circle_in_domain}
use Rattle.encoder.specs.Inner.Drawn.{Drawable}
use Rattle.encoder.proofs.laws.MapLaws.{numbers-length, numbers_at}

-- ---- one byte: the boxes over the points
overlaid : (c m r : Bool) → box_byte m (point_byte c r) ≡ pick c 3 (pick m 2 (pick r 1 0))
overlaid true m r = refl
overlaid false true true = refl
overlaid false true false = refl
overlaid false false true = refl
overlaid false false false = refl

-- ---- circles in the domain, each
pub fine : (c : List Float) → circle_in_domain c ≡ true → Fine c
fine c e =
    let (p, r) = both_true (position_in_domain (centre_of c)) (radius_in_domain (radius_of c)) e in
    ((says_t (position_in_domain (centre_of c))).yes p, (says_t (radius_in_domain (radius_of c))).yes r)

pub all_in_domain : (cs : List (List Float)) → every circle_in_domain cs ≡ true → All Fine cs
all_in_domain [] e = tt
all_in_domain (c ∷ cs) e =
    let (h, l) = both_true (circle_in_domain c) (every circle_in_domain cs) e in
    (fine c h, all_in_domain cs l)

-- ---- the whole map
module _ (t : Points.Tables) (b : Boxes.Tables) (circles : List (List Float)) (d : Drawable t b circles) (mid new : List ℕ)
    (marked : Marked t.pool t.spots circles (Points.used_of t) mid) (laid : Overlaid b.reals (Boxes.entries_in b) blocks mid new) where
  abbrev byte_at : ℕ → ℕ
  byte_at k = byte_of t b circles (k % columns) (k / columns)

  byte_drawn : (k : ℕ) → k < blocks → get_or new k 0 ≡ byte_at k
  byte_drawn k h =
      laid.each k h
      ∙ (λ z. box_byte (boxed_is b d.boxes d.boxes-size k h z)
      ((marked.each k h ∙ (λ y. point_byte (circled_is t d.points d.points-size k h circles (all_in_domain circles d.within_domain) y) (recorded_is t d.points d.points-size k h y))) z))
      ∙ overlaid (circled t circles (k % columns) (k / columns)) (boxed b (k % columns) (k / columns)) (recorded t (k % columns) (k / columns))

  pub map_drawn : new ≡ map_of t b circles
  unfolding map_of
  map_drawn =
      ext_get_or 0 new (map byte_at (numbers blocks)) (laid.size ∙ sym (numbers-length byte_at blocks))
      (λ k h. let l : k < blocks = omega (arith, laid.size) in byte_drawn k l ∙ sym (numbers_at byte_at blocks k l))
