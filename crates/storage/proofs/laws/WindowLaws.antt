-- A key is that of a cell of a range exactly if it lies in the range's window. Assumes nothing.
-- Here: the laws.
use Rattle.basics.specs.Words.{ℕ, ◌<◌, ◌≡◌, refl, sym, ◌∙◌, ap, Bool, true, ◌&&◌, List, [], ◌∷◌, Memᴰ, Memᴰ-head, Memᴰ-tail}
use Rattle.basics.specs.Words.{Memᴰ-cases_cons, Memᴰ-not_nil, ⊎_elim, eqb, ℤ, pos, negsuc, arith, leb-true, eqb-true, eq-eqb}
use lib.Signed.{mag, le_z}
use Rattle.basics.specs.Meaning.Says.{Says}
use Rattle.basics.proofs.laws.Says.{says_same, apart, both_true}
use Rattle.cells.specs.declared.Cell.{Cell}
use Rattle.cells.proofs.laws.Numbers.{Fits}
use Rattle.cells.proofs.laws.Range.{in_range}
use Rattle.cells.specs.Meaning.Range.{range_cells}
use Rattle.cells.proofs.laws.RangeLaws.{in_cells, cells_in_lem}
use Rattle.cells.specs.Inner.Key.{cell_of_key}
use Rattle.cells.specs.Meaning.Key.{key_of}
use Rattle.cells.proofs.laws.KeyLaws.{key-cell, cell-key-fits}
use Rattle.cells.proofs.laws.RangeKeyLaws.{range_window}
use Rattle.storage.specs.Inner.Window.{in_window}
use Rattle.storage.proofs.laws.TakeOutLaws.{has}
use Rattle.storage.proofs.laws.FilterLaws.{by_test}
use Rattle.storage.specs.Inner.Window.{window_of}

-- ---- whether a list has an element that passes, by its members
module _ {A : Type 0} (test : A → Bool) where
  pub has_member : (x : A) (l : List A) → Memᴰ x l → test x ≡ true → has test l ≡ true
  has_member x [] m e = absurd (Memᴰ-not_nil m)
  has_member x (y ∷ l) m e =
      by_test (test y)
      (λ q. rw q)
      (λ q. rw q (⊎_elim (λ i. absurd (apart (sym q ∙ ap test (sym i) ∙ e))) (λ i. has_member x l i e) (Memᴰ-cases_cons m)))

  pub member_has : (l : List A) → has test l ≡ true → (x : A) × Memᴰ x l × (test x ≡ true)
  member_has [] h = absurd (apart h)
  member_has (y ∷ l) h =
      by_test (test y)
      (λ q. (y, Memᴰ-head refl, q))
      (λ q. let m = member_has l (rw q at h) in (m.0, Memᴰ-tail m.1, m.2))

-- ---- a cell between two that fit 32 bits fits
between : (a c b : ℤ) → le_z a c ≡ true → le_z c b ≡ true → mag a < 2147483648 → mag b < 2147483648 → mag c < 2147483648
between a (pos c) (pos b) p q ha hb = omega (arith, leb-true c b q)
between a (pos c) (negsuc b) p q ha hb = absurd (apart q)
between (pos a) (negsuc c) b p q ha hb = absurd (apart p)
between (negsuc a) (negsuc c) b p q ha hb = omega (arith, leb-true c a p)

-- the key of a cell of the range
abbrev pub key_in : Cell → Cell → ℕ → Bool
key_in a b k = has (λ c. eqb (key_of c) k) (range_cells a b)

module _ (a b : Cell) (fa : Fits a) (fb : Fits b) where
  pub range_fits : (c : Cell) → in_range a b c ≡ true → Fits c
  unfolding in_range
  range_fits c h =
      let p = both_true (le_z a.x c.x && le_z c.x b.x) (le_z a.y c.y && le_z c.y b.y) h in
      let x = both_true (le_z a.x c.x) (le_z c.x b.x) p.0 in
      let y = both_true (le_z a.y c.y) (le_z c.y b.y) p.1 in
      record { x = between a.x c.x b.x x.0 x.1 fa.x fb.x; y = between a.y c.y b.y y.0 y.1 fa.y fb.y }

  pub window_cell : (c : Cell) → Fits c → window_of a b (key_of c) ≡ in_range a b c
  unfolding in_window
  window_cell c fc = sym (range_window a b c fa fb fc)

  -- a key below 2 ^ 64 is that of a cell
  pub window_key : (k : ℕ) → k < 18446744073709551616 → window_of a b k ≡ in_range a b (cell_of_key k)
  window_key k h = ap (window_of a b) (sym (key-cell k)) ∙ window_cell (cell_of_key k) (cell-key-fits k h)

  pub key_window : (k : ℕ) → k < 18446744073709551616 → key_in a b k ≡ window_of a b k
  key_window k h = says_same (key_in a b k) (window_of a b k) says_key says_window
    where
      says_window : Says (window_of a b k) (window_of a b k ≡ true)
      says_window = record { yes = λ e. e; no = λ e. e }

      says_key : Says (key_in a b k) (window_of a b k ≡ true)
      says_key = record {
        yes = λ e.
            let m = member_has (λ c. eqb (key_of c) k) (range_cells a b) e in
            let i : in_range a b m.0 ≡ true = cells_in_lem a b m.0 m.1 in
            ap (window_of a b) (sym (eqb-true (key_of m.0) k m.2)) ∙ window_cell m.0 (range_fits m.0 i) ∙ i;
        no = λ e. has_member (λ c. eqb (key_of c) k) (cell_of_key k) (range_cells a b) (in_cells a b (cell_of_key k) (sym (window_key k h) ∙ e)) (eq-eqb (key_of (cell_of_key k)) k (key-cell k));
      }
