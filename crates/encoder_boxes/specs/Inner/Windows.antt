-- What one pass over the blocks makes of the map: a block looks at the entries of its window, the four cells that its box covers. Assumes nothing.
use Rattle.std.specs.Prelude.{◌/◌, ◌<◌, ◌≤◌, ◌≡◌, ◌&&◌, Float}
use Rattle.basics.specs.Words.{ℕ, suc, Bool, List, length, get_or, take, drop, eqb, leb}
use Rattle.basics.specs.Meaning.Refusals.{pick}
use Rattle.geometry.specs.declared.Aabb.{Aabb}
use Rattle.geometry.specs.Meaning.Intersects.{intersects}
use Rattle.storage.specs.Inner.Keyed.{Sorted}
use Rattle.storage.specs.Inner.Window.{window_of}
use Rattle.storage.specs.Meaning.Entries.{row_key}
use Rattle.storage.specs.Meaning.Packed.{second}
use Rattle.storage.proofs.laws.TakeOutLaws.{has}
use Rattle.box_tables.specs.Meaning.Tables.{aabb_at, slot_of}
use Rattle.encoder_blocks.specs.Meaning.Blocks.{blocks, block_box}
use Rattle.encoder_blocks.specs.Inner.Places.{cell, column_at, line_at}

-- what the pass asks of the columns: the first `used` rows of the pool are sorted, and each names a box
pub record Stocked (reals : List (List Float)) (pool : List (List ℕ)) (used : ℕ) : Type 0 where
  pub in_pool : used ≤ length pool
  pub sorted : Sorted row_key (take used pool)
  pub named : (j : ℕ) → j < used → second pool j / 2 < length reals

-- q intersects the box of an entry
abbrev pub crosses : List (List Float) → Aabb → List ℕ → Bool
crosses reals q row = intersects q (aabb_at reals (slot_of row))

-- from place p on, one of the entries up to the key `last` has a box that q intersects
abbrev pub met_from : List (List Float) → List (List ℕ) → ℕ → ℕ → ℕ → Aabb → Bool
met_from reals pool used p last q = has (λ row. leb (row_key row) last && crosses reals q row) (drop p (take used pool))

-- an entry of the four cells of block (i, j) has a box that the block's box intersects
unfoldable pub met : List (List Float) → List (List ℕ) → ℕ → ℕ → Bool
met reals rows i j = has (λ row. window_of (cell i j) (cell (suc i) (suc j)) (row_key row) && crosses reals (block_box i j) row) rows

-- a block's byte, the boxes over the points: 3 stays
abbrev pub box_byte : Bool → ℕ → ℕ
box_byte met byte = pick (eqb byte 3) 3 (pick met 2 byte)

-- the map after the blocks below n
pub record Overlaid (reals : List (List Float)) (rows : List (List ℕ)) (n : ℕ) (old new : List ℕ) : Type 0 where
  pub size : length new ≡ blocks
  pub each : (k : ℕ) → k < n → get_or new k 0 ≡ box_byte (met reals rows (column_at k) (line_at k)) (get_or old k 0)
  pub rest : (k : ℕ) → n ≤ k → get_or new k 0 ≡ get_or old k 0
