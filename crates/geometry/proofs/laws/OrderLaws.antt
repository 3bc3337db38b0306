-- The order of finite floats: each is at most itself, and of two one is at most the other. Assumes nothing.
use Rattle.basics.specs.Words.{ℕ, ◌*◌, ◌≤◌, ◌≡◌, refl, subst, Bool, true, false, inl, inr, T, le_of_eq, arith}
use lib.Ieee.{Float, nan, inf, fin, up, down, lt, eq, le}
use lib.Ieee.Scale.{finite}
use Rattle.basics.proofs.laws.Says.{d_le}
use Rattle.geometry.proofs.laws.Back.{le_ff, le_tt, le_tf}

pub le_refl : (x : Float) → T (finite x) → T (le x x)
unfolding le lt eq
le_refl nan h = h
le_refl (inf s) h = absurd h
le_refl (fin false m e) h = le_ff (m * up e * down e) (m * up e * down e) (le_of_eq refl)
le_refl (fin true m e) h = le_tt (m * up e * down e) (m * up e * down e) (le_of_eq refl)

-- the one way or the other
either_way : (a b : ℕ) {P : Type 0} → (a ≤ b → P) → (b ≤ a → P) → P
either_way a b f g = elim (d_le a b) [ inl i ↦ f i | inr i ↦ g (omega arith) ]

not_both : (b : Bool) → b ≡ false → T b → ⊥
not_both b e t = subst T e t

pub le_total : (x y : Float) → T (finite x) → T (finite y) → le x y ≡ false → T (le y x)
unfolding le lt eq
le_total nan y g h i = absurd g
le_total (inf s) y g h i = absurd g
le_total (fin s m e) nan g h i = absurd h
le_total (fin s m e) (inf t) g h i = absurd h
le_total (fin false m e) (fin false n d) g h i =
    let a = m * up e * down d in
    let b = n * up d * down e in
    either_way a b (λ k. absurd (not_both _ i (le_ff a b k))) (λ k. le_ff b a k)
le_total (fin true m e) (fin true n d) g h i =
    let a = m * up e * down d in
    let b = n * up d * down e in
    either_way b a (λ k. absurd (not_both _ i (le_tt a b k))) (λ k. le_tt b a k)
le_total (fin true m e) (fin false n d) g h i = absurd (not_both _ i (le_tf (m * up e * down d) (n * up d * down e)))
le_total (fin false m e) (fin true n d) g h i = le_tf (n * up d * down e) (m * up e * down d)
