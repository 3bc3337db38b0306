-- What the proofs of objects share. Assumes nothing.
use Rattle.basics.specs.Words.{◌<◌, ◌^◌, ◌≡◌, ap, ◌&&◌, ℤ, sfits_of}
use lib.Signed.{mag}
use mir.Syntax.{w32}
use mir.Val.{to_z, of_z, hbits}
use mir.Facts.{to_z-of_z}
use Rattle.std.specs.Ordering.{int_eq}
use Rattle.std.proofs.lemmas.Bool.Decides.{Decides-int_eq}
use Rattle.basics.specs.Meaning.Says.{Says}
use Rattle.basics.proofs.laws.Says.{says_via, says_and}
use Rattle.cells.specs.declared.Cell.{Cell}
use Rattle.cells.proofs.laws.Numbers.{cell_ext}

-- a signed number that was read is what it was
pub back : {z : ℤ} → mag z < 2 ^ hbits w32 → to_z w32 (of_z w32 z) ≡ z
back p = to_z-of_z {w = w32} (sfits_of p)

-- what `==` says of two cells
pub same_says : (a b : Cell) → Says (int_eq a.x b.x && int_eq a.y b.y) (a ≡ b)
same_says a b = says_via (λ p. cell_ext p.0 p.1) (λ e. (ap (λ (c : Cell). c.x) e, ap (λ (c : Cell). c.y) e)) (says_and _ _ (by a.x b.x) (by a.y b.y))
  where
    by : (x y : ℤ) → Says (int_eq x y) (x ≡ y)
    by x y = let d = Decides-int_eq x y in record { yes = d.0; no = d.1 }
