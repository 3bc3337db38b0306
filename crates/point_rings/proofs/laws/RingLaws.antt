-- Ring by ring the best of the rings below is kept; where the rule stops, and after the rest of the range, it is the best of all entries. Assumes nothing.
use Rattle.basics.specs.Words.{ℕ, suc, ◌+◌, ◌-◌, ◌<◌, ◌≤◌, max, ◌≡◌, refl, sym, ap, ◌∙◌, subst, Bool, true, false, ◌||◌, List, [], ◌++◌, Memᴰ, ◌⊎◌, inl}
use Rattle.basics.specs.Words.{inr, ⊎_elim, ltb, ℤ, pos, negsuc, arith, ltb-true, ltb-false}
use lib.Signed.{mag}
use lib.Ieee.{Float, binary32, lt, mul}
use Rattle.basics.proofs.laws.Says.{d_lt, d_le, apart as never}
use Rattle.geometry.specs.declared.Position.{Position}
use Rattle.geometry.specs.Meaning.Circle.{in_circle, corner_below, corner_above}
use Rattle.cells.specs.declared.Cell.{Cell}
use Rattle.cells.specs.Meaning.CellRule.{cell_at}
use Rattle.cells.proofs.laws.CellRuleLaws.{cell-near}
use Rattle.cells.proofs.laws.ReachLaws.{position_reached, low_reached, high_reached}
use Rattle.cells.proofs.laws.Numbers.{Fits, near_fits}
use Rattle.cells.proofs.laws.Cover.{circle_cover}
use Rattle.cells.specs.Meaning.Key.{upward, key_of}
use Rattle.cells.proofs.laws.KeyLaws.{key_column, key_row}
use Rattle.cells.specs.Inner.Key.{column_of, line_of}
use Rattle.storage.specs.Meaning.Keyed.{All}
use Rattle.storage.specs.Meaning.Packed.{first, second}
use Rattle.storage.specs.Inner.Window.{window_of, in_range}
use Rattle.storage.proofs.laws.FilterLaws.{by_test, all_map, all_append}
use Rattle.storage.proofs.laws.RunStepLaws.{key_windows}
use Rattle.storage.proofs.laws.WindowLaws.{window_cell}
use Rattle.point_records.specs.Inner.Listed.{spot_at}
use Rattle.point_search.specs.Inner.Places.{places_in}
use Rattle.point_search.proofs.laws.PlacesLaws.{places-inside, places-none}
use Rattle.point_rings.specs.declared.Best.{Best}
use Rattle.point_rings.specs.Inner.Look.{distance_at, no_best, closer, looked, best_of, every, window_places}
use Rattle.point_rings.specs.Inner.Rings.{most_rings, apart, ring_of, ring_of_key, within, last_ring, gap_of, settled, stops_by, key_at, ring_places, Walkable}
use Rattle.point_rings.proofs.laws.FarLaws.{Ground, ground_distance, ground_radius, ground_gap, ring_far}
use Rattle.point_rings.proofs.laws.LookLaws.{looked-none}
use Rattle.point_rings.proofs.laws.LeastLaws.{Least, least_start, least-wider, least-looked, least-one, none-better, not_in_circle, not_nearer}
use Rattle.point_rings.proofs.laws.PlaceLaws.{place_in, in_places, in_window_of, window_parts, window_in, in_window_lem, Square, ring_square, square_ring}
use Rattle.point_rings.proofs.laws.PlaceLaws.{ring_in, in_ring}

-- ---- numbers
upward-room : (z : ℤ) → mag z ≤ 4194304 → (8 ≤ upward z) × (upward z + 8 < 4294967296)
upward-room (pos n) h = (omega arith, omega arith)
upward-room (negsuc n) h = (omega arith, omega arith)

-- a number between two others is not farther than the farther of them
not_farther : (x a m b : ℕ) → a ≤ m → m ≤ b → (apart x m ≤ apart x a) ⊎ (apart x m ≤ apart x b)
not_farther x a m b h g = elim (d_le m x) [ inl i ↦ inl (omega arith) | inr i ↦ inr (omega (arith, i)) ]

larger_l : (m n k : ℕ) → k ≤ m → k ≤ max m n
larger_l m n k h = omega arith

larger_r : (m n k : ℕ) → k ≤ n → k ≤ max m n
larger_r m n k h = omega arith

both_most : (m n k : ℕ) → m ≤ k → n ≤ k → max m n ≤ k
both_most m n k h g = omega arith

-- a cell between two is in no ring behind the farther of them
ring_between : (x y a b c d u v : ℕ) → a ≤ u → u ≤ c → b ≤ v → v ≤ d
    → max (apart x u) (apart y v) ≤ max (max (apart x a) (apart y b)) (max (apart x c) (apart y d))
ring_between x y a b c d u v h g i j =
    let low = max (apart x a) (apart y b) in
    let high = max (apart x c) (apart y d) in
    both_most (apart x u) (apart y v) (max low high)
    (⊎_elim (λ e. larger_l low high (apart x u) (larger_l (apart x a) (apart y b) (apart x u) e)) (λ e. larger_r low high (apart x u) (larger_l (apart x c) (apart y d) (apart x u) e)) (not_farther x a u c h g))
    (⊎_elim (λ e. larger_l low high (apart y v) (larger_r (apart x a) (apart y b) (apart y v) e)) (λ e. larger_r low high (apart y v) (larger_r (apart x c) (apart y d) (apart y v) e)) (not_farther y b v d i j))

module _ (size : ℕ) (c : Position) (r : Float) (pool : List (List ℕ)) (spots : List (List Float)) (used : ℕ) (w : Walkable size c r pool spots used) where
  abbrev mid : Cell
  mid = cell_at size c

  abbrev x : ℕ
  x = upward mid.x

  abbrev y : ℕ
  y = upward mid.y

  abbrev a : Cell
  a = cell_at size (corner_below c r)

  abbrev b : Cell
  b = cell_at size (corner_above c r)

  pub x-room : (8 ≤ x) × (x + 8 < 4294967296)
  x-room = upward-room mid.x (cell-near size c (position_reached c w.centred)).x

  pub y-room : (8 ≤ y) × (y + 8 < 4294967296)
  y-room = upward-room mid.y (cell-near size c (position_reached c w.centred)).y

  -- ---- the squared distances by their numbers
  number : (j : ℕ) → (j < used) ⊎ (j < used → ⊥) → ℕ
  number j (inl l) = (ground_distance (spot_at spots j) c (w.placed j l) w.centred).0
  number j (inr n) = 0

  v : ℕ → ℕ
  v j = number j (d_lt j used)

  ground : (j : ℕ) → j < used → Ground (distance_at c spots j) (v j)
  unfolding v number
  ground j l = go (d_lt j used)
    where
      go : (d : (j < used) ⊎ (j < used → ⊥)) → Ground (distance_at c spots j) (number j d)
      go (inl m) = (ground_distance (spot_at spots j) c (w.placed j m) w.centred).1
      go (inr n) = absurd (n l)

  R : ℕ
  R = (ground_radius r w.round).0

  ground_r : Ground (mul binary32 r r) R
  unfolding R
  ground_r = (ground_radius r w.round).1

  abbrev L : (ℕ → Type 0) → Best → Type 0
  L S d = Least c r pool spots used v R w.few w.once ground ground_r S d

  abbrev closer_at : ℕ → Best → Bool
  closer_at k d = closer (distance_at c spots k) (second pool k) d

  -- places that pass a test
  below-used : (test : ℕ → Bool) → All (λ j. j < used) (places_in test 0 used)
  below-used test = all_map (λ j. j < 0 + used) (λ j. j < used) (λ j l. omega arith) (places_in test 0 used) (places-inside test 0 used)

  least_of : (test : ℕ → Bool) → L (λ k. test k ≡ true) (best_of c r pool spots used test)
  least_of test =
      least-wider c r pool spots used v R w.few w.once ground ground_r (λ k. ⊥ ⊎ Memᴰ k (places_in test 0 used)) (λ k. test k ≡ true) (best_of c r pool spots used test)
      (least-looked c r pool spots used v R w.few w.once ground ground_r (λ k. ⊥) (places_in test 0 used) (no_best r) (below-used test) (least_start c r pool spots used v R w.few w.once ground ground_r))
      (λ k l s. ⊎_elim (λ z. absurd z) (λ m. (place_in test used k m).1) s)
      (λ k l e. inl (inr (in_places test used k l e)))

  -- what is the best of some places, and no other is better, is the best of all
  all_best : (S : ℕ → Type 0) (d : Best) → L S d → ((k : ℕ) → k < used → S k ⊎ (closer_at k d ≡ false)) → d ≡ best_of c r pool spots used every
  all_best S d h g =
      least-one c r pool spots used v R w.few w.once ground ground_r (λ k. true ≡ true) d (best_of c r pool spots used every)
      (least-wider c r pool spots used v R w.few w.once ground ground_r S (λ k. true ≡ true) d h (λ k l s. refl) (λ k l e. g k l)) (least_of every)

  -- no entry is better than the best of all
  pub best-least : (k : ℕ) → k < used → closer_at k (best_of c r pool spots used every) ≡ false
  best-least k l = none-better c r pool spots used v R w.few w.once ground ground_r (λ k. true ≡ true) (best_of c r pool spots used every) (least_of every) k l refl

  -- after a list of places: the best of a test, if the list has just what the test has more
  more-best : (test next : ℕ → Bool) (js : List ℕ) → All (λ j. j < used) js
      → ((k : ℕ) → k < used → (test k ≡ true) ⊎ Memᴰ k js → next k ≡ true) → ((k : ℕ) → k < used → next k ≡ true → (test k ≡ true) ⊎ Memᴰ k js)
      → looked c pool spots js (best_of c r pool spots used test) ≡ best_of c r pool spots used next
  more-best test next js h f g =
      least-one c r pool spots used v R w.few w.once ground ground_r (λ k. next k ≡ true) (looked c pool spots js (best_of c r pool spots used test)) (best_of c r pool spots used next)
      (least-wider c r pool spots used v R w.few w.once ground ground_r (λ k. (test k ≡ true) ⊎ Memᴰ k js) (λ k. next k ≡ true) (looked c pool spots js (best_of c r pool spots used test))
      (least-looked c r pool spots used v R w.few w.once ground ground_r (λ k. test k ≡ true) js (best_of c r pool spots used test) h (least_of test)) f (λ k l e. inl (g k l e)))
      (least_of next)

  -- ---- the rings: at first the middle cell alone, then one ring more
  window_used : (low high : ℕ) → All (λ j. j < used) (window_places low high pool used)
  unfolding window_places
  window_used low high = below-used (λ j. in_range low high (first pool j))

  no_places : (js : List ℕ) → looked c pool spots js (no_best r) ≡ looked c pool spots js (best_of c r pool spots used (λ j. false))
  no_places js = ap (looked c pool spots js) (sym (nothing ∙ looked-none c pool spots (no_best r)))
    where
      nothing : best_of c r pool spots used (λ j. false) ≡ looked c pool spots [] (no_best r)
      nothing = ap (λ (l : List ℕ). looked c pool spots l (no_best r)) (places-none (λ j. false) 0 used (λ j p q. refl))

  pub ring_first : looked c pool spots (window_places (key_at x y) (key_at x y) pool used) (no_best r) ≡ best_of c r pool spots used (within mid pool 1)
  ring_first =
      let top : x < 4294967296 = omega (arith, x-room.1) in
      no_places (window_places (key_at x y) (key_at x y) pool used)
      ∙ more-best (λ j. false) (within mid pool 1) (window_places (key_at x y) (key_at x y) pool used) (window_used (key_at x y) (key_at x y))
      (λ k l s.
      ⊎_elim (λ e. absurd (never e))
      (λ m. let (i, p) = window_in x y x y top top pool used k m in square_ring x y 1 (column_of (first pool k)) (line_of (first pool k)) (omega (arith, p.1), omega (arith, p.0), omega (arith, p.3), omega (arith, p.2)))
      s)
      (λ k l e.
      let (p, q, s, t) = ring_square x y 1 (column_of (first pool k)) (line_of (first pool k)) e in
      inr (in_window_lem x y x y top top pool used k l (omega (arith, p), omega (arith, q), omega (arith, s), omega (arith, t))))

  ring_used : (d : ℕ) → All (λ j. j < used) (ring_places x y d pool used)
  unfolding ring_places
  ring_used d =
      let p = window_places (key_at (x - d) (y - d)) (key_at (x + d) (y - d)) pool used in
      let q = window_places (key_at (x - d) (y - d + 1)) (key_at (x - d) (y + d - 1)) pool used in
      let s = window_places (key_at (x + d) (y - d + 1)) (key_at (x + d) (y + d - 1)) pool used in
      let t = window_places (key_at (x - d) (y + d)) (key_at (x + d) (y + d)) pool used in
      all_append (λ j. j < used) p (q ++ (s ++ t)) (window_used _ _) (all_append (λ j. j < used) q (s ++ t) (window_used _ _) (all_append (λ j. j < used) s t (window_used _ _) (window_used _ _)))

  wider : (d u z : ℕ) → Square x y d u z → Square x y (suc d) u z
  wider d u z s = (omega (arith, s.0), omega (arith, s.1), omega (arith, s.2), omega (arith, s.3))

  pub ring_step : (d : ℕ) → 1 ≤ d → d < most_rings → looked c pool spots (ring_places x y d pool used) (best_of c r pool spots used (within mid pool d)) ≡ best_of c r pool spots used (within mid pool (suc d))
  ring_step d some most =
      let hx : d ≤ x = omega (arith, x-room.0) in
      let hy : d ≤ y = omega (arith, y-room.0) in
      let top : x + d < 4294967296 = omega (arith, x-room.1) in
      more-best (within mid pool d) (within mid pool (suc d)) (ring_places x y d pool used) (ring_used d)
      (λ k l s.
      let u = column_of (first pool k) in
      let z = line_of (first pool k) in
      square_ring x y (suc d) u z (⊎_elim (λ e. wider d u z (ring_square x y d u z e)) (λ m. (ring_in x y d some hx hy top pool used k m).1) s))
      (λ k l e.
      let u = column_of (first pool k) in
      let z = line_of (first pool k) in
      ⊎_elim (λ s. inl (square_ring x y d u z s)) (λ m. inr m) (in_ring x y d some hx hy top pool used k l (ring_square x y (suc d) u z e)))

  -- ---- what the circle has lies in its range, and in no ring behind the last
  a_fits : Fits a
  a_fits = near_fits a (cell-near size (corner_below c r) (low_reached c r w.centred w.round))

  b_fits : Fits b
  b_fits = near_fits b (cell-near size (corner_above c r) (high_reached c r w.centred w.round))

  abbrev own : ℕ → Cell
  own k = cell_at size (spot_at spots k)

  own-fits : (k : ℕ) → k < used → Fits (own k)
  own-fits k l = near_fits (cell_at size (spot_at spots k)) (cell-near size (spot_at spots k) (position_reached (spot_at spots k) (w.placed k l)))

  in_range_lem : (k : ℕ) → k < used → lt (distance_at c spots k) (mul binary32 r r) ≡ true → window_of a b (first pool k) ≡ true
  unfolding in_circle
  in_range_lem k l e =
      ap (window_of a b) (w.listed k l)
      ∙ window_cell a b a_fits b_fits (own k) (own-fits k l)
      ∙ circle_cover size w.sized.0 (spot_at spots k) c r (w.placed k l) w.centred w.round e

  -- nothing outside the range is better
  out_of_range : (S : ℕ → Type 0) (d : Best) → L S d → (k : ℕ) → k < used → (window_of a b (first pool k) ≡ true → ⊥) → closer_at k d ≡ false
  out_of_range S d h k l n =
      by_test (lt (distance_at c spots k) (mul binary32 r r))
      (λ e. absurd (n (in_range_lem k l e)))
      (λ e. not_in_circle c r pool spots used v R w.few w.once ground ground_r S d h k l e)

  -- ---- the rest of the range in one pass
  pub ring_rest : (d : ℕ) → looked c pool spots (window_places (key_of a) (key_of b) pool used) (best_of c r pool spots used (within mid pool d)) ≡ best_of c r pool spots used every
  ring_rest d =
      let js = window_places (key_of a) (key_of b) pool used in
      let S : ℕ → Type 0 = λ k. (within mid pool d k ≡ true) ⊎ Memᴰ k js in
      let h = least-looked c r pool spots used v R w.few w.once ground ground_r (λ k. within mid pool d k ≡ true) js (best_of c r pool spots used (within mid pool d)) (window_used (key_of a) (key_of b)) (least_of (within mid pool d)) in
      all_best S _ h
      (λ k l.
      by_test (window_of a b (first pool k))
      (λ e. inl (inr (listed_in k l e)))
      (λ e. inr (out_of_range S _ h k l (λ f. never (sym e ∙ f)))))
    where
      listed_in : (k : ℕ) → k < used → window_of a b (first pool k) ≡ true → Memᴰ k (window_places (key_of a) (key_of b) pool used)
      listed_in k l e = in_window_of (key_of a) (key_of b) pool used k l (key_windows a b a_fits b_fits (first pool k) ∙ e)

  -- ---- where the rule stops, no ring from d on has a better one
  ring_own : (k : ℕ) → k < used → ring_of_key mid (first pool k) ≡ ring_of mid (own k)
  ring_own k l =
      ap (ring_of_key mid) (w.listed k l)
      ∙ (λ z. max (apart x (key_column (own k) (own-fits k l) z)) (apart y (key_row (own k) (own-fits k l) z)))

  past-last : (k d : ℕ) → k < used → last_ring mid a b < d → d ≤ ring_of_key mid (first pool k) → window_of a b (first pool k) ≡ true → ⊥
  past-last k d l h g e =
      let p = window_parts (upward a.x) (upward a.y) (upward b.x) (upward b.y) (first pool k) e in
      clash (last_ring mid a b) d (ring_of_key mid (first pool k)) h g
      (ring_between x y (upward a.x) (upward a.y) (upward b.x) (upward b.y) (column_of (first pool k)) (line_of (first pool k)) p.0 p.1 p.2 p.3)
    where
      clash : (m n o : ℕ) → m < n → n ≤ o → o ≤ m → ⊥
      clash m n o h g i = omega arith

  pub ring_stop : (d : ℕ) → 1 ≤ d → d ≤ most_rings → stops_by size c (last_ring mid a b) d (best_of c r pool spots used (within mid pool d)) ≡ true
      → best_of c r pool spots used (within mid pool d) ≡ best_of c r pool spots used every
  ring_stop d some most e =
      let best = best_of c r pool spots used (within mid pool d) in
      let S : ℕ → Type 0 = λ k. within mid pool d k ≡ true in
      let h = least_of (within mid pool d) in
      let g = gap_of size c d in
      let (n, gn) = ground_gap size w.sized c w.centred d some most in
      all_best S best h
      (λ k l.
      by_test (within mid pool d k)
      (λ q. inl q)
      (λ q.
      let behind : d ≤ ring_of_key mid (first pool k) = ltb-false (ring_of_key mid (first pool k)) d q in
      inr
      (by_test (ltb (last_ring mid a b) d)
      (λ f. out_of_range S best h k l (past-last k d l (ltb-true (last_ring mid a b) d f) behind))
      (λ f.
      not_nearer c r pool spots used v R w.few w.once ground ground_r S best h (mul binary32 g g) n gn (right_of (ltb (last_ring mid a b) d) (settled best (mul binary32 g g)) f e) k l
      (far k l behind)))))
    where
      right_of : (p q : Bool) → p ≡ false → (p || q) ≡ true → q ≡ true
      right_of true q f e = absurd (never (sym f))
      right_of false q f e = e

      far : (k : ℕ) → k < used → d ≤ ring_of_key mid (first pool k) → lt (distance_at c spots k) (mul binary32 (gap_of size c d) (gap_of size c d)) ≡ false
      far k l g = ring_far size w.sized c w.centred d some most (spot_at spots k) (w.placed k l) (subst (λ n. d ≤ n) (ring_own k l) g)
