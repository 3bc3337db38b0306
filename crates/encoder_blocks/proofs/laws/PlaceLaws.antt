-- The place of a block in the map: a point of the domain is in the block at place k exactly when the key of its cell says k. Assumes nothing.
use Rattle.basics.specs.Words.{ℕ, ◌+◌, ◌-◌, ◌≤◌, ◌<◌, ◌≡◌, sym, ap, ◌∙◌, Bool, true, false, ◌&&◌, leb, ltb, eqb, T, pos, arith, leb-true, ltb-true, le-leb}
use Rattle.basics.specs.Words.{lt-ltb}
use Rattle.basics.specs.Meaning.Says.{Says}
use Rattle.basics.specs.Meaning.Refusals.{pick}
use Rattle.basics.proofs.laws.Says.{both_true, and_true, says_same, says_via, eqb_says}
use Rattle.geometry.specs.declared.Position.{Position}
use Rattle.geometry.specs.Meaning.Domain.{position_in_domain}
use Rattle.cells.specs.declared.Cell.{Cell}
use Rattle.cells.specs.Meaning.CellRule.{cell_at}
use Rattle.cells.specs.Meaning.Key.{upward, key_of}
use Rattle.cells.proofs.laws.CellRuleLaws.{cell-near}
use Rattle.cells.proofs.laws.KeyLaws.{upward_injective, key_column, key_row}
use Rattle.cells.proofs.laws.Numbers.{cell_ext, Fits, near_fits}
use Rattle.cells.proofs.laws.ReachLaws.{position_reached}
use Rattle.encoder_blocks.specs.Meaning.Blocks.{side, columns, lines, blocks, in_block}
use Rattle.encoder_blocks.specs.Inner.Places.{place_of, column_at, line_at, cell, nought, among, block_of}
use Rattle.encoder_blocks.proofs.laws.BlockLaws.{block_cell}

-- ---- every place below 3,600 is that of one block
pub column_in : (k : ℕ) → column_at k < columns
column_in k = omega arith

pub line_in : (k : ℕ) → k < blocks → line_at k < lines
line_in k h = omega arith

pub place_column : (i j : ℕ) → i < columns → column_at (place_of i j) ≡ i
place_column i j h = omega arith

pub place_line : (i j : ℕ) → i < columns → line_at (place_of i j) ≡ j
place_line i j h = omega arith

pub place_in : (i j : ℕ) → i < columns → j < lines → place_of i j < blocks
place_in i j h g = omega arith

-- ---- a key's block
pub among_from : (n x : ℕ) → among n x ≡ true → (nought ≤ x) × (x < nought + n)
among_from n x e = let (a, b) = both_true (leb nought x) (ltb x (nought + n)) e in (leb-true nought x a, ltb-true x (nought + n) b)

among_of : (n i : ℕ) → i < n → among n (i + nought) ≡ true
among_of n i h = and_true (le-leb nought (i + nought) (omega arith)) (lt-ltb (i + nought) (nought + n) (omega arith))

module _ (c : Cell) (f : Fits c) (k : ℕ) (h : k < blocks) where
  abbrev u : ℕ
  u = upward c.x

  abbrev v : ℕ
  v = upward c.y

  -- in the numbers of the cell
  own : block_of (key_of c) ≡ pick (among columns u && among lines v) (place_of (u - nought) (v - nought)) blocks
  unfolding block_of
  own = rw (key_column c f, key_row c f)

  block_is : block_of (key_of c) ≡ k → c ≡ cell (column_at k) (line_at k)
  block_is e = go (among columns u && among lines v) (λ q. q) (sym own ∙ e)
    where
      go : (b : Bool) → (b ≡ true → (among columns u && among lines v) ≡ true) → pick b (place_of (u - nought) (v - nought)) blocks ≡ k → c ≡ cell (column_at k) (line_at k)
      go false g q = absurd (omega arith)
      go true g q =
          let (a, b) = both_true (among columns u) (among lines v) (g (λ z. true)) in
          let (al, ah) = among_from columns u a in
          let (bl, bh) = among_from lines v b in
          cell_ext
          (upward_injective c.x (pos (column_at k)) f.x (omega arith) (omega arith))
          (upward_injective c.y (pos (line_at k)) f.y (omega arith) (omega arith))

  is_block : c ≡ cell (column_at k) (line_at k) → block_of (key_of c) ≡ k
  is_block e =
      own
      ∙ ap (λ (d : Cell). pick (among columns (upward d.x) && among lines (upward d.y)) (place_of (upward d.x - nought) (upward d.y - nought)) blocks) e
      ∙ ap (λ (b : Bool). pick b (place_of (column_at k + nought - nought) (line_at k + nought - nought)) blocks)
      (and_true (among_of columns (column_at k) (column_in k)) (among_of lines (line_at k) (line_in k h)))
      ∙ omega arith

  block_says : Says (eqb (block_of (key_of c)) k) (c ≡ cell (column_at k) (line_at k))
  block_says = says_via block_is is_block (eqb_says (block_of (key_of c)) k)

-- ---- a point in the block at place k
pub point_place : (k : ℕ) → k < blocks → (p : Position) → T (position_in_domain p) → eqb (block_of (key_of (cell_at side p))) k ≡ in_block (column_at k) (line_at k) p
point_place k h p d =
    says_same (eqb (block_of (key_of (cell_at side p))) k) (in_block (column_at k) (line_at k) p)
    (block_says (cell_at side p) (near_fits (cell_at side p) (cell-near side p (position_reached p d))) k h)
    (block_cell (column_at k) (line_at k) (omega (arith, column_in k)) (omega (arith, line_in k h)) p d)
