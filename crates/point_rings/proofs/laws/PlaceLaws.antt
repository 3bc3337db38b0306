-- Which places pass a test, which lie in a window, and which in a ring: its four windows. Assumes nothing.
use Rattle.basics.specs.Words.{ℕ, zero, suc, ◌+◌, ◌-◌, ◌<◌, ◌≤◌, max, ◌≡◌, sym, ap, ◌∙◌, subst, Bool, true, ◌&&◌, List, [], ◌∷◌, ◌++◌, Memᴰ}
use Rattle.basics.specs.Words.{Memᴰ-head, Memᴰ-cases_cons, Memᴰ-not_nil, Memᴰ-append_cases, Memᴰ-append_left, Memᴰ-append_right, ◌⊎◌, inl}
use Rattle.basics.specs.Words.{inr, ⊎_elim, leb, ltb, arith, leb-true, ltb-true, lt-ltb}
use Rattle.basics.proofs.laws.Says.{d_eq, d_le, both_true}
use Rattle.cells.specs.Inner.Key.{column_of, line_of}
use Rattle.storage.specs.Meaning.Packed.{first}
use Rattle.storage.specs.Inner.Window.{in_window, in_range}
use Rattle.storage.proofs.laws.FilterLaws.{by_test}
use Rattle.storage.proofs.laws.RunLaws.{inside}
use Rattle.point_search.specs.Inner.Places.{places_in}
use Rattle.point_search.proofs.laws.PlacesLaws.{place-taken, place-passed}
use Rattle.point_rings.specs.Inner.Look.{window_places}
use Rattle.point_rings.specs.Inner.Rings.{apart, key_at, ring_places}

-- ---- the places below n that pass
pub place_in : (test : ℕ → Bool) (n k : ℕ) → Memᴰ k (places_in test 0 n) → (k < n) × (test k ≡ true)
unfolding places_in
place_in test zero k m = absurd (Memᴰ-not_nil m)
place_in test (suc n) k m =
    by_test (test (0 + n))
    (λ t.
    ⊎_elim
    (λ x. let (l, e) = place_in test n k x in (omega arith, e))
    (λ x. ⊎_elim (λ e. (omega (arith, e), ap test e ∙ t)) (λ y. absurd (Memᴰ-not_nil y)) (Memᴰ-cases_cons x))
    (Memᴰ-append_cases (places_in test 0 n) (subst (Memᴰ k) (place-taken test 0 n t) m)))
    (λ t. let (l, e) = place_in test n k (subst (Memᴰ k) (place-passed test 0 n t) m) in (omega arith, e))

pub in_places : (test : ℕ → Bool) (n k : ℕ) → k < n → test k ≡ true → Memᴰ k (places_in test 0 n)
in_places test zero k l e = absurd (omega arith)
in_places test (suc n) k l e =
    let z : 0 + n ≡ n = omega arith in
    ⊎_elim
    (λ q.
    let t : test (0 + n) ≡ true = ap test (z ∙ sym q) ∙ e in
    subst (Memᴰ k) (sym (place-taken test 0 n t)) (Memᴰ-append_right (places_in test 0 n) (Memᴰ-head (q ∙ sym z))))
    (λ q.
    let m = in_places test n k (omega (arith, q)) e in
    by_test (test (0 + n))
    (λ t. subst (Memᴰ k) (sym (place-taken test 0 n t)) (Memᴰ-append_left ((0 + n) ∷ []) m))
    (λ t. subst (Memᴰ k) (sym (place-passed test 0 n t)) m))
    (d_eq k n)

-- ---- a key in a window
abbrev pub InWindow : ℕ → ℕ → ℕ → ℕ → ℕ → Type 0
InWindow x0 y0 x1 y1 key = (x0 ≤ column_of key) × (column_of key ≤ x1) × (y0 ≤ line_of key) × (line_of key ≤ y1)

pub window_parts : (x0 y0 x1 y1 key : ℕ) → in_window x0 y0 x1 y1 key ≡ true → InWindow x0 y0 x1 y1 key
unfolding in_window
window_parts x0 y0 x1 y1 key e =
    let (p, q) = both_true (leb x0 (column_of key) && leb (column_of key) x1) (leb y0 (line_of key) && leb (line_of key) y1) e in
    let (a, b) = both_true (leb x0 (column_of key)) (leb (column_of key) x1) p in
    let (c, d) = both_true (leb y0 (line_of key)) (leb (line_of key) y1) q in
    (leb-true x0 (column_of key) a, leb-true (column_of key) x1 b, leb-true y0 (line_of key) c, leb-true (line_of key) y1 d)

pub in_window_of : (low high : ℕ) (pool : List (List ℕ)) (used k : ℕ) → k < used → in_range low high (first pool k) ≡ true → Memᴰ k (window_places low high pool used)
unfolding window_places
in_window_of low high pool used k l e = in_places (λ j. in_range low high (first pool j)) used k l e

module _ (x0 y0 x1 y1 : ℕ) (h0 : x0 < 4294967296) (h1 : x1 < 4294967296) where
  corners : (key : ℕ) → in_range (key_at x0 y0) (key_at x1 y1) key ≡ in_window x0 y0 x1 y1 key
  corners key =
      let a : column_of (key_at x0 y0) ≡ x0 = omega arith in
      let b : line_of (key_at x0 y0) ≡ y0 = omega arith in
      let c : column_of (key_at x1 y1) ≡ x1 = omega arith in
      let d : line_of (key_at x1 y1) ≡ y1 = omega arith in
      λ z. in_window (a z) (b z) (c z) (d z) key

  module _ (pool : List (List ℕ)) (used k : ℕ) where
    pub window_in : Memᴰ k (window_places (key_at x0 y0) (key_at x1 y1) pool used) → (k < used) × InWindow x0 y0 x1 y1 (first pool k)
    unfolding window_places
    window_in m =
        let (l, e) = place_in (λ j. in_range (key_at x0 y0) (key_at x1 y1) (first pool j)) used k m in
        (l, window_parts x0 y0 x1 y1 (first pool k) (sym (corners (first pool k)) ∙ e))

    pub in_window_lem : k < used → InWindow x0 y0 x1 y1 (first pool k) → Memᴰ k (window_places (key_at x0 y0) (key_at x1 y1) pool used)
    unfolding window_places
    in_window_lem l w =
        in_places (λ j. in_range (key_at x0 y0) (key_at x1 y1) (first pool j)) used k l
        (corners (first pool k) ∙ inside x0 y0 x1 y1 (first pool k) w.0 w.1 w.2 w.3)

-- ---- the cells nearer than n to (x, y) in columns and in rows
abbrev pub Square : ℕ → ℕ → ℕ → ℕ → ℕ → Type 0
Square x y n a b = (x < a + n) × (a < x + n) × (y < b + n) × (b < y + n)

near_apart : (m n k : ℕ) → apart m n < k → (m < n + k) × (n < m + k)
near_apart m n k h = (omega arith, omega arith)

apart-near : (m n k : ℕ) → m < n + k → n < m + k → apart m n < k
apart-near m n k h g = omega arith

both_below : (m n k : ℕ) → max m n < k → (m < k) × (n < k)
both_below m n k h = (omega arith, omega arith)

below_both : (m n k : ℕ) → m < k → n < k → max m n < k
below_both m n k h g = omega arith

module _ (x y n a b : ℕ) where
  pub ring_square : ltb (max (apart x a) (apart y b)) n ≡ true → Square x y n a b
  ring_square e =
      let (h, g) = both_below (apart x a) (apart y b) n (ltb-true (max (apart x a) (apart y b)) n e) in
      let (p, q) = near_apart x a n h in
      let (r, s) = near_apart y b n g in
      (p, q, r, s)

  pub square_ring : Square x y n a b → ltb (max (apart x a) (apart y b)) n ≡ true
  square_ring w = lt-ltb (max (apart x a) (apart y b)) n (below_both (apart x a) (apart y b) n (apart-near x a n w.0 w.1) (apart-near y b n w.2 w.3))

-- ---- ring d as four windows, of numbers: x0 and y0 are d below x and y, y1 is one below y + d
module _ (x y d x0 y0 y1 a b : ℕ) (some : 1 ≤ d) (ex : x0 + d ≡ x) (ey : y0 + d ≡ y) (ez : y1 + 1 ≡ y + d) where
  abbrev Part : ℕ → ℕ → ℕ → ℕ → Type 0
  Part u v w z = (u ≤ a) × (a ≤ w) × (v ≤ b) × (b ≤ z)

  abbrev Parts : Type 0
  Parts = Part x0 y0 (x + d) y0 ⊎ (Part x0 (y0 + 1) x0 y1 ⊎ (Part (x + d) (y0 + 1) (x + d) y1 ⊎ Part x0 (y + d) (x + d) (y + d)))

  pub ring_parts : Square x y (suc d) a b → Square x y d a b ⊎ Parts
  ring_parts w =
      let (p, q, r, s) = w in
      elim (d_le b y0) [
        | inl g ↦ inr (inl (omega arith, omega arith, omega arith, omega arith))
        | inr g ↦ elim (d_le (y + d) b) [
          | inl h ↦ inr (inr (inr (inr (omega arith, omega arith, omega arith, omega arith))))
          | inr h ↦ elim (d_le a x0) [
            | inl i ↦ inr (inr (inl (omega arith, omega arith, omega (arith, g), omega (arith, h))))
            | inr i ↦ elim (d_le (x + d) a) [
              | inl j ↦ inr (inr (inr (inl (omega arith, omega arith, omega (arith, g), omega (arith, h)))))
              | inr j ↦ inl (omega (arith, i), omega (arith, j), omega (arith, g), omega (arith, h))
            ]
          ]
        ]
      ]

  pub parts_ring : Parts → Square x y (suc d) a b
  parts_ring p =
      ⊎_elim
      (λ (q : Part x0 y0 (x + d) y0). (omega arith, omega arith, omega arith, omega arith))
      (λ q.
      ⊎_elim
      (λ (r : Part x0 (y0 + 1) x0 y1). (omega arith, omega arith, omega arith, omega arith))
      (λ r.
      ⊎_elim
      (λ (s : Part (x + d) (y0 + 1) (x + d) y1). (omega arith, omega arith, omega arith, omega arith))
      (λ (s : Part x0 (y + d) (x + d) (y + d)). (omega arith, omega arith, omega arith, omega arith))
      r)
      q)
      p

-- ---- the places of ring d are those nearer than d + 1 that are not nearer than d
module _ (x y d : ℕ) (some : 1 ≤ d) (hx : d ≤ x) (hy : d ≤ y) (top : x + d < 4294967296) (pool : List (List ℕ)) (used k : ℕ) where
  abbrev column : ℕ
  column = column_of (first pool k)

  abbrev line : ℕ
  line = line_of (first pool k)

  left : x - d + d ≡ x
  left = omega arith

  low : y - d + d ≡ y
  low = omega arith

  high : y + d - 1 + 1 ≡ y + d
  high = omega arith

  under : x - d < 4294967296
  under = omega arith

  -- its four windows
  abbrev lowest : List ℕ
  lowest = window_places (key_at (x - d) (y - d)) (key_at (x + d) (y - d)) pool used

  abbrev leftmost : List ℕ
  leftmost = window_places (key_at (x - d) (y - d + 1)) (key_at (x - d) (y + d - 1)) pool used

  abbrev rightmost : List ℕ
  rightmost = window_places (key_at (x + d) (y - d + 1)) (key_at (x + d) (y + d - 1)) pool used

  abbrev highest : List ℕ
  highest = window_places (key_at (x - d) (y + d)) (key_at (x + d) (y + d)) pool used

  pub ring_in : Memᴰ k (ring_places x y d pool used) → (k < used) × Square x y (suc d) column line
  unfolding ring_places
  ring_in m =
      let back = parts_ring x y d (x - d) (y - d) (y + d - 1) column line some left low high in
      ⊎_elim
      (λ p. let (l, w) = window_in (x - d) (y - d) (x + d) (y - d) under top pool used k p in (l, back (inl w)))
      (λ p.
      ⊎_elim
      (λ q. let (l, w) = window_in (x - d) (y - d + 1) (x - d) (y + d - 1) under under pool used k q in (l, back (inr (inl w))))
      (λ q.
      ⊎_elim
      (λ r. let (l, w) = window_in (x + d) (y - d + 1) (x + d) (y + d - 1) top top pool used k r in (l, back (inr (inr (inl w)))))
      (λ r. let (l, w) = window_in (x - d) (y + d) (x + d) (y + d) under top pool used k r in (l, back (inr (inr (inr w)))))
      (Memᴰ-append_cases rightmost q))
      (Memᴰ-append_cases leftmost p))
      (Memᴰ-append_cases lowest m)

  pub in_ring : k < used → Square x y (suc d) column line → Square x y d column line ⊎ Memᴰ k (ring_places x y d pool used)
  unfolding ring_places
  in_ring l w =
      ⊎_elim
      (λ s. inl s)
      (λ p.
      inr
      (⊎_elim
      (λ q. Memᴰ-append_left (leftmost ++ (rightmost ++ highest)) (in_window_lem (x - d) (y - d) (x + d) (y - d) under top pool used k l q))
      (λ q.
      Memᴰ-append_right lowest
      (⊎_elim
      (λ r. Memᴰ-append_left (rightmost ++ highest) (in_window_lem (x - d) (y - d + 1) (x - d) (y + d - 1) under under pool used k l r))
      (λ r.
      Memᴰ-append_right leftmost
      (⊎_elim
      (λ s. Memᴰ-append_left highest (in_window_lem (x + d) (y - d + 1) (x + d) (y + d - 1) top top pool used k l s))
      (λ s. Memᴰ-append_right rightmost (in_window_lem (x - d) (y + d) (x + d) (y + d) under top pool used k l s))
      r))
      q))
      p))
      (ring_parts x y d (x - d) (y - d) (y + d - 1) column line some left low high w)
