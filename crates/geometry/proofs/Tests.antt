-- Tests that code joins, and numbers as code writes them. Assumes nothing.
use Rattle.basics.specs.Words.{◌≡◌, refl, Bool, true, false, ◌&&◌, pos}
use lib.Ieee.{fin, binary32, of_bits, neg}
use Rattle.geometry.specs.Meaning.Domain.{reach}

pub both : {a b p q : Bool} → a ≡ p → b ≡ q → (a && b) ≡ (p && q)
both e g = cc

pub least : neg (of_bits binary32 0x49800000) ≡ fin true 1 (pos reach)
unfolding of_bits neg
least = refl

pub most : of_bits binary32 0x49800000 ≡ fin false 1 (pos reach)
unfolding of_bits
most = refl

pub nought : of_bits binary32 0 ≡ fin false 0 (pos 0)
unfolding of_bits
nought = refl
