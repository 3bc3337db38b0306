-- What a call that fills the encoder's map reads of a point grid: the cell size and the list entries. Tables that are the same in these give the same map
-- and answer, if both hold a grid or neither does. Assumes nothing.
use Rattle.basics.specs.Words.{ℕ, ◌<◌, ◌≡◌, refl, sym, ap, ◌∙◌, List, [], ◌∷◌, ◌++◌, map, ⊎_elim, ext_get_or, arith}
use lib.Ieee.{Float}
use Rattle.basics.specs.Meaning.Refusals.{pick}
use Rattle.basics.proofs.laws.Says.{d_eq}
use Rattle.storage.specs.Meaning.Keyed.{filter}
use Rattle.storage.specs.Meaning.Entries.{Entry}
use Rattle.point_tables.specs.Meaning.Tables as Points
use Rattle.point_tables.specs.Meaning.Decide.{holds}
use Rattle.point_search.specs.Meaning.Searches.{position_of, found}
use Rattle.point_query.specs.Meaning.Queries.{around_finds}
use Rattle.box_tables.specs.Meaning.Tables as Boxes
use Rattle.encoder_blocks.specs.Meaning.Blocks.{blocks, in_block}
use Rattle.encoder_blocks.specs.Meaning.Some.{some}
use Rattle.encoder_blocks.specs.Inner.Places.{column_at, line_at}
use Rattle.encoder_points.specs.Meaning.Points.{centre_of, radius_of, found_by, circled, recorded}
use Rattle.encoder_points.specs.Inner.Marks.{stands_at, some_below}
use Rattle.encoder_points.proofs.laws.PointLaws.{recorded_is}
use Rattle.encoder_boxes.specs.Meaning.Boxes.{boxed}
use Rattle.encoder.specs.Meaning.Map.{byte_of, numbers, map_of}
use Rattle.encoder.specs.Meaning.FillMap.{map_filled, fill_map_of}
use Rattle.encoder.specs.Inner.Drawn.{Drawable}
use Rattle.encoder.proofs.laws.MapLaws.{numbers-length, numbers_at}
use Rattle.encoder.proofs.laws.AnswerLaws.{answered, drawable, fill_done, fill_refused}

-- the tables without their records and without the marks of the cells
abbrev pub lists_of : Points.Tables → Points.Tables
lists_of t = Points.tables [] [] [] t.map t.pool t.spots []

module _ (t u : Points.Tables) (e : lists_of t ≡ lists_of u) where
  -- ---- the points of a block
  found-same : (cs : List (List Float)) → found_by t cs ≡ found_by u cs
  unfolding found
  found-same [] = refl
  found-same (c ∷ cs) = λ z. around_finds (e z) (centre_of c) (radius_of c) ++ found-same cs z

  circled-same : (cs : List (List Float)) (i j : ℕ) → circled t cs i j ≡ circled u cs i j
  unfolding circled
  circled-same cs i j = ap (λ (l : List Entry). some (filter (λ x. in_block i j (position_of x)) l)) (found-same cs)

  module _ (b : Boxes.Tables) (circles : List (List Float)) where
    abbrev byte_at : Points.Tables → ℕ → ℕ
    byte_at w k = byte_of w b circles (column_at k) (line_at k)

    -- ---- the map, byte by byte
    module _ (d : Drawable t b circles) (f : Drawable u b circles) where
      -- a recorded point lies where its entry stands
      recorded-same : (k : ℕ) → k < blocks → recorded t (column_at k) (line_at k) ≡ recorded u (column_at k) (line_at k)
      recorded-same k l =
          sym (recorded_is t d.points d.points-size k l)
          ∙ ap (λ (w : Points.Tables). some_below (stands_at w.pool k) (Points.used_of w)) e
          ∙ recorded_is u f.points f.points-size k l

      byte_same : (k : ℕ) → k < blocks → byte_at t k ≡ byte_at u k
      byte_same k l =
          λ z. pick (circled-same circles (column_at k) (line_at k) z) 3 (pick (boxed b (column_at k) (line_at k)) 2 (pick (recorded-same k l z) 1 0))

      map_same : map_of t b circles ≡ map_of u b circles
      unfolding map_of
      map_same =
          let n = numbers-length (byte_at t) blocks in
          ext_get_or 0 (map (byte_at t) (numbers blocks)) (map (byte_at u) (numbers blocks)) (n ∙ sym (numbers-length (byte_at u) blocks))
          (λ k h.
          let l : k < blocks = omega arith in
          numbers_at (byte_at t) blocks k l ∙ byte_same k l ∙ sym (numbers_at (byte_at u) blocks k l))

    -- ---- the call
    module _ (bytes : List ℕ) (h : holds t ≡ holds u) where
      answer-same : answered t b circles bytes ≡ answered u b circles bytes
      answer-same = rw (h, ap Points.size_of e)

      pub fill_same : fill_map_of t b circles bytes ≡ fill_map_of u b circles bytes
      fill_same =
          let a = answered t b circles bytes in
          ⊎_elim
          (λ z.
          let p = sym z in
          let q = p ∙ answer-same in
          sym (fill_done t b circles bytes p)
          ∙ ap (map_filled 0) (map_same (drawable t b circles bytes p) (drawable u b circles bytes q))
          ∙ fill_done u b circles bytes q)
          (λ n. sym (fill_refused t b circles bytes a refl n) ∙ fill_refused u b circles bytes a answer-same n)
          (d_eq a 0)
