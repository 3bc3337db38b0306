-- A box of the domain: its corner cells are near, and they are not reversed; and the item of a slot tells the slot. Assumes nothing.
use Rattle.basics.specs.Words.{ℕ, ◌/◌, ◌≤◌, ◌≡◌, Bool, true, false, ◌&&◌, T, arith}
use lib.Signed.{le_z}
use lib.Ieee.{le}
use lib.Ieee.Fits.{and_l, and_r}
use Rattle.basics.specs.Meaning.Refusals.{pick}
use Rattle.geometry.specs.declared.Aabb.{Aabb}
use Rattle.geometry.specs.Meaning.Domain.{position_in_domain, aabb_in_domain}
use Rattle.cells.specs.Inner.CellRule.{Reached}
use Rattle.cells.proofs.laws.CellRuleLaws.{cell-near, mono}
use Rattle.cells.proofs.laws.ReachLaws.{position_reached}
use Rattle.cells.specs.Inner.Numbers.{Near}
use Rattle.box_tables.specs.Meaning.Tables.{low_cell, high_cell, item_of}

module _ (b : Aabb) (h : T (aabb_in_domain b)) where
  corners : T (position_in_domain b.ll && position_in_domain b.ur)
  corners = and_l (position_in_domain b.ll && position_in_domain b.ur) (le b.ll.x b.ur.x && le b.ll.y b.ur.y) h

  pub low-inside : T (position_in_domain b.ll)
  low-inside = and_l (position_in_domain b.ll) (position_in_domain b.ur) corners

  pub high-inside : T (position_in_domain b.ur)
  high-inside = and_r (position_in_domain b.ll) (position_in_domain b.ur) corners

  pub low_reached : Reached b.ll
  low_reached = position_reached b.ll low-inside

  pub high_reached : Reached b.ur
  high_reached = position_reached b.ur high-inside

  upright : T (le b.ll.x b.ur.x && le b.ll.y b.ur.y)
  upright = and_r (position_in_domain b.ll && position_in_domain b.ur) (le b.ll.x b.ur.x && le b.ll.y b.ur.y) h

  module _ (size : ℕ) where
    pub low_near : Near (low_cell size b)
    low_near = cell-near size b.ll low_reached

    pub high-near : Near (high_cell size b)
    high-near = cell-near size b.ur high_reached

    -- the corner cells are not reversed
    pub corners-x : 1 ≤ size → T (le_z (low_cell size b).x (high_cell size b).x)
    corners-x s = mono size s b.ll.x b.ur.x (and_l (le b.ll.x b.ur.x) (le b.ll.y b.ur.y) upright)

    pub corners-y : 1 ≤ size → T (le_z (low_cell size b).y (high_cell size b).y)
    corners-y s = mono size s b.ll.y b.ur.y (and_r (le b.ll.x b.ur.x) (le b.ll.y b.ur.y) upright)

-- ---- the item of a slot, with either mark
mark-most : (m : Bool) → pick m 1 0 ≤ 1
mark-most true = omega arith
mark-most false = omega arith

pub item-slot : (s : ℕ) (m : Bool) → item_of s m / 2 ≡ s
item-slot s m = omega (arith, mark-most m)

pub item-same : (s k : ℕ) (m n : Bool) → item_of s m ≡ item_of k n → s ≡ k
item-same s k m n e = omega (arith, mark-most m, mark-most n)
