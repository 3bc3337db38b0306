-- A table that is filled place by place from a list: a turn of the loop, and its end. Assumes nothing.
use Rattle.basics.specs.Words.{ℕ, ◌+◌, ◌<◌, ◌≤◌, ◌≡◌, refl, List, [], ◌∷◌, ◌++◌, append-nil, length, get_or, set, take, drop, drop_of_length-le, paste, paste-suc}
use Rattle.basics.specs.Words.{take_all, add-one, arith}

module _ {A : Type 0} (d : List A) (at : ℕ) (s : List A) where
  pub fill_step : (z v : A) (m : List A) (i j : ℕ) → i ≡ at + j → v ≡ get_or s j z → i < length d → j < length s → m ≡ paste d at s j → set m i v ≡ paste d at s (j + 1)
  fill_step z v m i j e f hd hs g = rw (g, e, f, add-one j) (paste-suc d at s j z (omega arith) hs)

  pub fill_end : (m : List A) (j : ℕ) → at + length s ≡ length d → length s ≤ j → m ≡ paste d at s j → m ≡ take at d ++ s
  fill_end m j e h g = rw (g, take_all j s h, drop_of_length-le d {i = at + j} (omega arith)) (append-nil (take at d ++ s))

-- the three head words of a map
pub heads : (m : List ℕ) (a b c : ℕ) → 3 ≤ length m → set (set (set m 0 a) 1 b) 2 c ≡ a ∷ b ∷ c ∷ drop 3 m
heads [] a b c h = absurd (omega arith)
heads (x ∷ []) a b c h = absurd (omega arith)
heads (x ∷ y ∷ []) a b c h = absurd (omega arith)
heads (x ∷ y ∷ z ∷ m) a b c h = refl
