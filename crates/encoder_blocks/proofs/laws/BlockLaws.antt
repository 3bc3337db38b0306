-- At size 16 a point is in block (i, j) exactly when its cell is (i, j). Assumes nothing.
use Rattle.basics.specs.Words.{ℕ, suc, ◌≤◌, ◌≡◌, ap, ◌&&◌, T, pos, arith}
use lib.Ieee.{Float, lt, le}
use Rattle.basics.specs.Meaning.Says.{Says}
use Rattle.basics.proofs.laws.Says.{says_via, says_and}
use Rattle.geometry.specs.declared.Position.{Position}
use Rattle.geometry.specs.Meaning.Domain.{in_domain, position_in_domain}
use Rattle.geometry.proofs.laws.DomainLaws.{position_parts}
use Rattle.cells.specs.Meaning.Size.{SizeInDomain}
use Rattle.cells.specs.Meaning.CellRule.{cell_of, cell_at}
use Rattle.cells.proofs.laws.Numbers.{cell_ext}
use Rattle.cells.proofs.laws.EdgeRule.{stands_says}
use Rattle.encoder_blocks.specs.Meaning.Blocks.{side, columns, begins, in_block}
use Rattle.encoder_blocks.specs.Inner.Places.{cell}

side_in_domain : SizeInDomain side
side_in_domain = (omega arith, omega arith)

-- one axis: from where a column begins on, and below where the next one does
pub axis : (n : ℕ) → n ≤ columns → (x : Float) → T (in_domain x) → Says (le (begins n) x && lt x (begins (suc n))) (cell_of (pos side) x ≡ pos n)
axis n h x d = stands_says side side_in_domain x d (pos n) (omega arith)

pub block_cell : (i j : ℕ) → i ≤ columns → j ≤ columns → (p : Position) → T (position_in_domain p) → Says (in_block i j p) (cell_at side p ≡ cell i j)
unfolding in_block
block_cell i j hi hj p d =
    let (dx, dy) = position_parts p d in
    says_via (λ q. cell_ext q.0 q.1) (λ e. (ap (λ c. c.x) e, ap (λ c. c.y) e))
    (says_and (le (begins i) p.x && lt p.x (begins (suc i))) (le (begins j) p.y && lt p.y (begins (suc j))) (axis i hi p.x dx) (axis j hj p.y dy))
