-- A copy within a list opens a gap, and closes one, for any type of elements. Assumes nothing.
use Rattle.basics.specs.Words.{ℕ, ◌+◌, ◌-◌, ◌<◌, ◌≤◌, ◌≡◌, List, ◌∷◌, ◌++◌, append_assoc, length, get_or, set, take, drop}
use Rattle.basics.specs.Words.{slice, set_at, take-suc, length-take-le, add-one, arith}
use Rattle.std.specs.List.{copy_within}
use Rattle.std.proofs.lemmas.Slice.{between_is}
use Rattle.storage.specs.Inner.Places.{opened, closed}

module _ {A : Type 0} (s : List A) (p k : ℕ) where
  -- the element at p stands twice, and v takes its place
  pub open_up : (v : A) → p ≤ k → k < length s → set (copy_within s p k (p + 1)) p v ≡ opened s p k v
  open_up v h l =
      let e : p + 1 + (k - p) ≡ k + 1 = omega arith in
      let c : copy_within s p k (p + 1) ≡ take p s ++ get_or s p v ∷ (slice p k s ++ drop (k + 1) s) = rw (e, between_is s p k, add-one p, take-suc s p v (omega arith)) (simp append_assoc) in
      rw c (set_at (take p s) (get_or s p v) (slice p k s ++ drop (k + 1) s) v p (length-take-le p s (omega arith)))

  pub close_up : p < k → copy_within s (p + 1) k p ≡ closed s p k
  close_up h = let e : p + (k - (p + 1)) ≡ k - 1 = omega arith in rw (e, between_is s (p + 1) k) (simp append_assoc)
