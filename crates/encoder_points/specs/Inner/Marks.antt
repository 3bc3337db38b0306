-- What one pass over the entries makes of the map, by places: an entry marks the block of its cell. Assumes nothing.
use Rattle.std.specs.Prelude.{◌<◌, ◌≡◌, ◌&&◌, ◌||◌, Float}
use Rattle.basics.specs.Words.{ℕ, zero, suc, Bool, false, List, length, get_or, eqb}
use Rattle.basics.specs.Meaning.Refusals.{pick}
use Rattle.geometry.specs.declared.Position.{Position}
use Rattle.geometry.specs.Meaning.Circle.{in_circle}
use Rattle.storage.specs.Meaning.Packed.{first}
use Rattle.storage.proofs.laws.TakeOutLaws.{has}
use Rattle.point_records.specs.Inner.Listed.{spot_at}
use Rattle.encoder_blocks.specs.Meaning.Blocks.{blocks}
use Rattle.encoder_blocks.specs.Inner.Places.{block_of}
use Rattle.encoder_points.specs.Meaning.Points.{centre_of, radius_of}

-- some circle holds a position
abbrev pub in_some : List (List Float) → Position → Bool
in_some circles p = has (λ c. in_circle p (centre_of c) (radius_of c)) circles

-- the cell of the entry at place n is the block at place k
abbrev pub stands_at : List (List ℕ) → ℕ → ℕ → Bool
stands_at pool k n = eqb (block_of (first pool n)) k

-- and some circle holds its position
abbrev pub circled_at : List (List ℕ) → List (List Float) → List (List Float) → ℕ → ℕ → Bool
circled_at pool spots circles k n = stands_at pool k n && in_some circles (spot_at spots n)

-- one of the first n places passes
unfoldable pub some_below : (ℕ → Bool) → ℕ → Bool
some_below test zero = false
some_below test (suc n) = some_below test n || test n

-- a block's byte, of the points alone
abbrev pub point_byte : Bool → Bool → ℕ
point_byte circled there = pick circled 3 (pick there 1 0)

-- a byte once one more point is in the block: 3 stays
abbrev pub raised_by : Bool → ℕ → ℕ
raised_by circled byte = pick (eqb byte 3) 3 (pick circled 3 1)

-- the map after the first n entries
pub record Marked (pool : List (List ℕ)) (spots circles : List (List Float)) (n : ℕ) (bytes : List ℕ) : Type 0 where
  pub size : length bytes ≡ blocks
  pub each : (k : ℕ) → k < blocks → get_or bytes k 0 ≡ point_byte (some_below (circled_at pool spots circles k) n) (some_below (stands_at pool k) n)
