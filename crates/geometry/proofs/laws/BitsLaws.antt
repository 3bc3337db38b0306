-- Two binary32 numbers with the same bits are the same number, and a position is what its coordinates are. Assumes nothing.
use Rattle.basics.specs.Words.{◌≡◌, refl, sym, ap, ◌∙◌, subst, true, false, T}
use lib.Ieee.{Float, nan, inf, fin, ne, is_nan, fits, binary32, of_bits, to_bits}
use lib.Ieee.Compare.{differs_from_itself, nan_differs}
use lib.Ieee.Bits.{of_bits-to_bits}
use Rattle.basics.proofs.laws.Says.{apart}
use Rattle.geometry.specs.declared.Position.{Position}

pub same_by_bits : (a b : Float) → T (fits binary32 a) → T (fits binary32 b) → to_bits binary32 a ≡ to_bits binary32 b → a ≡ b
same_by_bits a b fa fb e = sym (of_bits-to_bits binary32 a fa) ∙ ap (of_bits binary32) e ∙ of_bits-to_bits binary32 b fb

pub same_by_axes : (p q : Position) → p.x ≡ q.x → p.y ≡ q.y → p ≡ q
same_by_axes p q e g = ap (λ (z : Float). at z p.y) e ∙ ap (at q.x) g
  where
    at : Float → Float → Position
    at x y = record { x = x; y = y }

-- a NaN differs from itself, and nothing else does
pub nan_if_unlike : (a : Float) → ne a a ≡ true → is_nan a ≡ false → ⊥
unfolding is_nan
nan_if_unlike a e q = apart (sym q ∙ ap is_nan (differs_from_itself a (subst T (sym e) tt)))

pub number_if_alike : (a : Float) → ne a a ≡ false → is_nan a ≡ false
unfolding is_nan
number_if_alike nan e = absurd (apart (sym e ∙ nan_differs))
number_if_alike (inf s) e = refl
number_if_alike (fin s m x) e = refl
