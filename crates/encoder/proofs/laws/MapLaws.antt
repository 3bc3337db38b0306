-- The map by places: it has 3,600 bytes, and byte j * 80 + i is block (i, j). Assumes nothing.
use Rattle.basics.specs.Words.{ℕ, zero, suc, ◌+◌, ◌/◌, ◌%◌, ◌*◌, ◌<◌, ◌≡◌, refl, sym, ap, ◌∙◌, List, [], ◌∷◌, map, map-append, inl, inr, length, get_or}
use Rattle.basics.specs.Words.{length-append, get_or-append, get_or_at, arith}
use lib.Ieee.{Float}
use Rattle.basics.proofs.laws.Says.{d_lt}
use Rattle.point_tables.specs.Meaning.Tables as Points
use Rattle.box_tables.specs.Meaning.Tables as Boxes
use Rattle.encoder_blocks.specs.Meaning.Blocks.{columns, lines, blocks}
use Rattle.encoder_blocks.proofs.laws.PlaceLaws.{place_column, place_line, place_in}
use Rattle.encoder.specs.Meaning.Map.{byte_of, numbers, map_of}

-- ---- what is made of the numbers below n, by places
module _ (f : ℕ → ℕ) where
  pub numbers-length : (n : ℕ) → length (map f (numbers n)) ≡ n
  unfolding numbers
  numbers-length zero = refl
  numbers-length (suc n) = ap length (map-append f (numbers n) (n ∷ [])) ∙ length-append (map f (numbers n)) (f n ∷ []) ∙ omega (arith, numbers-length n)

  pub numbers_at : (n k : ℕ) → k < n → get_or (map f (numbers n)) k 0 ≡ f k
  unfolding numbers
  numbers_at zero k h = absurd (omega arith)
  numbers_at (suc n) k h =
      ap (λ (l : List ℕ). get_or l k 0) (map-append f (numbers n) (n ∷ []))
      ∙ elim (d_lt k n) [
        | inl l ↦ get_or-append (map f (numbers n)) (f n ∷ []) 0 k (omega (arith, numbers-length n)) ∙ numbers_at n k l
        | inr l ↦ let e : k ≡ n = omega arith in get_or_at (map f (numbers n)) (f n) [] 0 k (numbers-length n ∙ sym e) ∙ ap f (sym e)
      ]

module _ (t : Points.Tables) (b : Boxes.Tables) (circles : List (List Float)) where
  pub map-length : length (map_of t b circles) ≡ blocks
  unfolding map_of
  map-length = numbers-length (λ k. byte_of t b circles (k % columns) (k / columns)) blocks

  pub map_at : (i j : ℕ) → i < columns → j < lines → get_or (map_of t b circles) (j * columns + i) 0 ≡ byte_of t b circles i j
  unfolding map_of
  map_at i j hi hj =
      numbers_at (λ k. byte_of t b circles (k % columns) (k / columns)) blocks (j * columns + i) (place_in i j hi hj)
      ∙ (λ z. byte_of t b circles (place_column i j hi z) (place_line i j hi z))
