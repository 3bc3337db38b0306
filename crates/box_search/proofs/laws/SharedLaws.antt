-- Two boxes share a cell exactly when, on both axes, neither range of cells ends before the other begins. Assumes nothing.
use Rattle.basics.specs.Words.{ℕ, suc, ◌+◌, ◌<◌, ◌≤◌, ◌≡◌, sym, ap, ◌∙◌, Bool, true, false, ◌&&◌, Memᴰ, inl, inr, T, ℤ, pos, ◌+ℤ◌}
use lib.Signed.{le_z}
use Rattle.basics.proofs.laws.Says.{apart, both_true, and_true, says_t}
use Rattle.geometry.specs.declared.Aabb.{Aabb}
use Rattle.geometry.specs.Meaning.Domain.{aabb_in_domain}
use Rattle.cells.specs.declared.Cell.{Cell}
use Rattle.cells.proofs.laws.Range.{in_range}
use Rattle.cells.proofs.laws.StepLaws.{Compared, compare, add-steps, le_step, reached}
use Rattle.storage.proofs.laws.FilterLaws.{by_test}
use Rattle.slots.specs.Meaning.Slot.{live, phase_at}
use Rattle.box_tables.specs.Meaning.Tables.{Tables, size_of, slots_of, aabb_on, low_cell, high_cell}
use Rattle.box_tables.specs.Meaning.Holds.{Holds}
use Rattle.box_tables.proofs.laws.BoxLaws.{corners-x, corners-y}
use Rattle.box_search.proofs.laws.Shared.{Shared, ranged}
use Rattle.box_search.specs.Meaning.Search.{broad}
use Rattle.box_search.proofs.laws.BroadLaws.{broad-met, met-broad}

-- ---- the order of whole numbers
le_trans : (a b c : ℤ) → le_z a b ≡ true → le_z b c ≡ true → le_z a c ≡ true
le_trans a b c h k =
    let (i, p) = reached a b h in
    let (j, q) = reached b c k in
    ap (le_z a) (q ∙ ap (λ (z : ℤ). z +ℤ pos j) p ∙ add-steps a i j) ∙ le_step a (i + j)

le_other : (a b : ℤ) → le_z a b ≡ false → le_z b a ≡ true
le_other a b h = go (compare a b)
  where
    go : Compared a b → le_z b a ≡ true
    go (inl (k, e)) = absurd (apart (sym h ∙ ap (le_z a) e ∙ le_step a k))
    go (inr (k, e)) = ap (le_z b) e ∙ le_step b (suc k)

le_same : (a : ℤ) → le_z a a ≡ true
le_same a = by_test (le_z a a) (λ e. e) (λ e. le_other a a e)

-- ---- one axis: the numbers from a to b, and those from c to d
abbrev within : ℤ → ℤ → ℤ → Bool
within a b x = le_z a x && le_z x b

axis_of : (a b c d x : ℤ) → within a b x ≡ true → within c d x ≡ true → (le_z a d && le_z c b) ≡ true
axis_of a b c d x h k =
    let (p, q) = both_true (le_z a x) (le_z x b) h in
    let (r, s) = both_true (le_z c x) (le_z x d) k in
    and_true (le_trans a x d p s) (le_trans c x b r q)

-- the higher of the two starts is in both
of_axis : (a b c d : ℤ) → le_z a b ≡ true → le_z c d ≡ true → (le_z a d && le_z c b) ≡ true → (x : ℤ) × (within a b x ≡ true) × (within c d x ≡ true)
of_axis a b c d p q h =
    let (ad, cb) = both_true (le_z a d) (le_z c b) h in
    by_test (le_z a c)
    (λ e. (c, and_true e cb, and_true (le_same c) q))
    (λ e. (a, and_true (le_same a) p, and_true (le_other a c e) ad))

-- ---- both axes
module _ (size : ℕ) (p q : Aabb) where
  abbrev a : Cell
  a = low_cell size p

  abbrev b : Cell
  b = high_cell size p

  abbrev c : Cell
  c = low_cell size q

  abbrev d : Cell
  d = high_cell size q

  pub shared_ranged : Shared size p q → ranged size p q ≡ true
  unfolding in_range
  shared_ranged s =
      let e = s.cell in
      let (px, py) = both_true (within a.x b.x e.x) (within a.y b.y e.y) s.of_first in
      let (qx, qy) = both_true (within c.x d.x e.x) (within c.y d.y e.y) s.of_second in
      and_true (axis_of a.x b.x c.x d.x e.x px qx) (axis_of a.y b.y c.y d.y e.y py qy)

  pub ranged_shared : 1 ≤ size → T (aabb_in_domain p) → T (aabb_in_domain q) → ranged size p q ≡ true → Shared size p q
  unfolding in_range
  ranged_shared n dp dq h =
      let (hx, hy) = both_true (le_z a.x d.x && le_z c.x b.x) (le_z a.y d.y && le_z c.y b.y) h in
      let (x, px, qx) = of_axis a.x b.x c.x d.x ((says_t (le_z a.x b.x)).no (corners-x p dp size n)) ((says_t (le_z c.x d.x)).no (corners-x q dq size n)) hx in
      let (y, py, qy) = of_axis a.y b.y c.y d.y ((says_t (le_z a.y b.y)).no (corners-y p dp size n)) ((says_t (le_z c.y d.y)).no (corners-y q dq size n)) hy in
      record { cell = record { x = x; y = y }; of_first = and_true px py; of_second = and_true qx qy }

-- ---- found exactly when, by numbers
module _ (t : Tables) (h : Holds t) (q : Aabb) (dq : T (aabb_in_domain q)) (s : ℕ) where
  pub broad_ranged : Memᴰ s (broad t q) → ranged (size_of t) q (aabb_on t s) ≡ true
  broad_ranged m = shared_ranged (size_of t) q (aabb_on t s) (broad-met t h q dq s m).shared

  pub ranged_broad : s < slots_of t → phase_at t.nums s ≡ live → ranged (size_of t) q (aabb_on t s) ≡ true → Memᴰ s (broad t q)
  ranged_broad l o e =
      met-broad t h q dq s (record { inside = l; occupied = o; shared = ranged_shared (size_of t) q (aabb_on t s) h.counted.size.0 dq (h.boxes s l o).within_domain e })
