-- The windows of the blocks: their keys rise from block to block, the keys of a block's four cells are two stretches, and where a stretch begins in a
-- sorted list. Assumes nothing.
use Rattle.basics.specs.Words.{ℕ, suc, ◌+◌, ◌≤◌, ◌<◌, ◌≡◌, refl, sym, ap, Bool, true, ◌&&◌, ◌||◌, List, [], ◌∷◌, inl, inr, ⊎_elim, length, drop, leb, ltb}
use Rattle.basics.specs.Words.{arith, ltb-true, ltb-false, lt-ltb, le-leb, lt-leb}
use Rattle.basics.proofs.laws.Says.{says_same, says_via, says_and, says_or, leb_says, d_le}
use Rattle.cells.specs.Meaning.Key.{key_of}
use Rattle.cells.specs.Inner.Key.{column_of, line_of}
use Rattle.storage.specs.Meaning.Keyed.{All, filter, below}
use Rattle.storage.specs.Inner.Keyed.{Sorted}
use Rattle.storage.specs.Inner.Window.{in_window, window_of}
use Rattle.storage.proofs.laws.FilterLaws.{by_test, all_map, filter-whole}
use Rattle.storage.proofs.laws.KeyedLaws.{none_below}
use Rattle.encoder_blocks.specs.Meaning.Blocks.{columns}
use Rattle.encoder_blocks.specs.Inner.Places.{cell, column_at, line_at, nought}

-- ---- where the keys from k on begin
module _ {A : Type 0} (key : A → ℕ) where
  pub drop-below : (k : ℕ) (l : List A) → Sorted key l → drop (length (below key k l)) l ≡ filter (λ x. leb k (key x)) l
  drop-below k [] s = refl
  drop-below k (x ∷ l) s =
      by_test (ltb (key x) k)
      (λ e. rw (e, lt-leb k (key x) (ltb-true (key x) k e)) (drop-below k l s.1))
      (λ e.
      let h : k ≤ key x = ltb-false (key x) k e in
      let up : All (λ y. k ≤ key y) l = all_map (λ y. key x ≤ key y) (λ y. k ≤ key y) (λ y q. omega arith) l s.0 in
      rw (e, none_below key k l up, le-leb k (key x) h)
      (ap (λ m. x ∷ m) (sym (filter-whole (λ y. leb k (key y)) l (all_map (λ y. k ≤ key y) (λ y. leb k (key y) ≡ true) (λ y q. le-leb k (key y) q) l up)))))

  -- not earlier for a greater key
  pub below_grows : (j k : ℕ) → j ≤ k → (l : List A) → length (below key j l) ≤ length (below key k l)
  below_grows j k h [] = omega arith
  below_grows j k h (x ∷ l) =
      by_test (ltb (key x) j)
      (λ e. rw (e, lt-ltb (key x) k (omega (arith, ltb-true (key x) j e))) (omega (arith, below_grows j k h l)))
      (λ e. rw e (by_test (ltb (key x) k) (λ q. rw q (omega (arith, below_grows j k h l))) (λ q. rw q (below_grows j k h l))))

-- ---- the keys of the blocks, place by place: of their lower left cells, and of those one row on
pub key_rises : (k : ℕ) → key_of (cell (column_at k) (line_at k)) ≤ key_of (cell (column_at (k + 1)) (line_at (k + 1)))
unfolding key_of
key_rises k = omega arith

pub next_rises : (k : ℕ) → key_of (cell (column_at k) (suc (line_at k))) ≤ key_of (cell (column_at (k + 1)) (suc (line_at (k + 1))))
unfolding key_of
next_rises k = omega arith

-- ---- a block's window is a stretch of each of its two rows of cells
module _ (i j : ℕ) (hi : i < columns) (key : ℕ) where
  abbrev up_to : ℕ → Bool
  up_to n = leb (key_of (cell i n)) key && leb key (key_of (cell (suc i) n))

  abbrev Inside : Type 0
  Inside = ((i + nought ≤ column_of key) × (column_of key ≤ suc i + nought)) × ((j + nought ≤ line_of key) × (line_of key ≤ suc j + nought))

  pub window_rows : (up_to j || up_to (suc j)) ≡ window_of (cell i j) (cell (suc i) (suc j)) key
  unfolding key_of in_window
  window_rows =
      says_same _ _
      (says_via {Q = Inside}
      (⊎_elim (λ w. ((omega arith, omega arith), (omega arith, omega arith))) (λ w. ((omega arith, omega arith), (omega arith, omega arith))))
      (λ w. elim (d_le (line_of key) (j + nought)) [ inl h ↦ inl (omega arith, omega arith) | inr h ↦ inr (omega arith, omega arith) ])
      (says_or _ _ (says_and _ _ (leb_says _ key) (leb_says key _)) (says_and _ _ (leb_says _ key) (leb_says key _))))
      (says_and _ _ (says_and _ _ (leb_says _ (column_of key)) (leb_says (column_of key) _)) (says_and _ _ (leb_says _ (line_of key)) (leb_says (line_of key) _)))
