-- The keys of a range: in a row one after the other, from row to row 2 ^ 32 further, so that key order is range order; and whether a
-- cell lies in a range, told from its key. Assumes nothing.
use Rattle.basics.specs.Words.{ℕ, zero, suc, ◌+◌, ◌-◌, ◌*◌, ◌≤◌, ◌<◌, ◌≡◌, refl, sym, ap, ap₂, ◌∙◌, subst, ◌&&◌, ◌∷◌, ◌++◌, map, map-append, inl, inr, leb, ℤ}
use Rattle.basics.specs.Words.{pos, negsuc, ◌+ℤ◌, +ℤ_idr, mul-le-mul, arith, lt-ltb, le-ltb, le-leb, lt-leb}
use lib.Signed.{mag, le_z}
use Rattle.basics.proofs.laws.Says.{says_same, says_via, leb_says, d_le, d_lt}
use Rattle.cells.specs.declared.Cell.{Cell}
use Rattle.cells.proofs.laws.Numbers.{Fits}
use Rattle.cells.specs.Inner.Numbers.{Near}
use Rattle.cells.specs.Meaning.Range.{count_from, cells_in, row, rows, range_cells}
use Rattle.cells.proofs.laws.Range.{in_range}
use Rattle.cells.specs.Meaning.Key.{upward, key_of}
use Rattle.cells.specs.Inner.Key.{column_of, line_of}
use Rattle.cells.proofs.laws.KeyLaws.{upward_lt, key_column, key_row}
use Rattle.cells.proofs.laws.StepLaws.{Compared, compare, add-steps, count_step, count_past}
use Rattle.cells.specs.Inner.Rising.{Rising}
use Rattle.cells.proofs.laws.Rising.{run, runs, runs_rising}

pub upward_step : (z : ℤ) (i : ℕ) → mag z < 2147483648 → upward (z +ℤ pos i) ≡ upward z + i
upward_step (pos n) i h = omega arith
upward_step (negsuc n) i h = elim (d_lt i (suc n)) [ inl g ↦ rw (lt-ltb i (suc n) g) (omega arith) | inr g ↦ rw (le-ltb i (suc n) (omega arith)) (omega arith) ]

-- ---- the keys of a row, and of rows
one_more : (z : ℤ) (i : ℕ) → z +ℤ pos i +ℤ pos 1 ≡ z +ℤ pos (i + 1)
one_more z i = add-steps z i 1

key_right : (x y : ℤ) (i : ℕ) → mag x < 2147483648 → key_of (record { x = x +ℤ pos i; y = y }) ≡ key_of (record { x = x; y = y }) + i
unfolding key_of
key_right x y i h = omega (arith, upward_step x i h)

key-up : (x y : ℤ) (j : ℕ) → mag y < 2147483648 → key_of (record { x = x; y = y +ℤ pos j }) ≡ key_of (record { x = x; y = y }) + j * 4294967296
unfolding key_of
key-up x y j h = omega (arith, upward_step y j h)

row_from : (x y : ℤ) → mag x < 2147483648 → (i n : ℕ) → map key_of (row y (x +ℤ pos i) n) ≡ run (key_of (record { x = x; y = y }) + i) n
row_from x y h i zero = refl
row_from x y h i (suc n) =
    ap₂ ◌∷◌ (key_right x y i h)
    (ap (λ (z : ℤ). map key_of (row y z n)) (one_more x i) ∙ row_from x y h (i + 1) n ∙ ap (λ (k : ℕ). run k n) (omega arith))

pub row_keys : (x y : ℤ) (n : ℕ) → mag x < 2147483648 → map key_of (row y x n) ≡ run (key_of (record { x = x; y = y })) n
row_keys x y n h =
    ap (λ (z : ℤ). map key_of (row y z n)) (sym (+ℤ_idr x)) ∙ row_from x y h 0 n ∙ ap (λ (k : ℕ). run k n) (omega arith)

rows_from : (x y : ℤ) → mag x < 2147483648 → mag y < 2147483648 → (j n m : ℕ) → map key_of (rows x (y +ℤ pos j) n m) ≡ runs (key_of (record { x = x; y = y }) + j * 4294967296) n m
rows_from x y h k j n zero = refl
rows_from x y h k j n (suc m) =
    map-append key_of (row (y +ℤ pos j) x n) (rows x (y +ℤ pos j +ℤ pos 1) n m)
    ∙ ap₂ ◌++◌ (row_keys x (y +ℤ pos j) n h ∙ ap (λ (l : ℕ). run l n) (key-up x y j k))
    (ap (λ (z : ℤ). map key_of (rows x z n m)) (one_more y j) ∙ rows_from x y h k (j + 1) n m
    ∙ ap (λ (l : ℕ). runs l n m) (omega arith))

pub range_keys : (a b : Cell) → Fits a → map key_of (range_cells a b) ≡ runs (key_of a) (count_from a.x b.x) (count_from a.y b.y)
unfolding range_cells
range_keys a b f =
    let n = count_from a.x b.x in
    let m = count_from a.y b.y in
    ap (λ (z : ℤ). map key_of (rows a.x z n m)) (sym (+ℤ_idr a.y)) ∙ rows_from a.x a.y f.x f.y 0 n m
    ∙ ap (λ (k : ℕ). runs k n m) (omega arith)

-- ---- how many numbers there are from one to another
module _ (a b : ℤ) (ha : mag a < 2147483648) (hb : mag b < 2147483648) where
  pub count-up : upward a ≤ upward b → count_from a b ≡ upward b - upward a + 1
  count-up h =
      elim (compare a b) [
        | inl (k, e) ↦ omega (arith, ap (count_from a) e ∙ count_step a k, ap upward e ∙ upward_step a k ha)
        | inr (k, e) ↦ absurd (omega (arith, ap upward e ∙ upward_step b (suc k) hb))
      ]

  pub count_none : upward b < upward a → count_from a b ≡ 0
  count_none h = go (compare a b)
    where
      go : Compared a b → count_from a b ≡ 0
      go (inl (k, e)) = absurd (omega (arith, ap upward e ∙ upward_step a k ha))
      go (inr (k, e)) = ap (λ (z : ℤ). count_from z b) e ∙ count_past b k

  pub count_most : count_from a b ≤ 4294967296
  count_most = elim (d_le (upward a) (upward b)) [ inl h ↦ omega (arith, count-up h, upward_lt b hb) | inr h ↦ omega (arith, count_none (omega (arith, h))) ]

pub near-below : (z : ℤ) → mag z ≤ 4194304 → upward z ≤ 2151677952
near-below (pos n) h = omega arith
near-below (negsuc n) h = omega arith

pub near-count : (a b : ℤ) → mag a ≤ 4194304 → mag b ≤ 4194304 → count_from a b ≤ 8388610
near-count a b ha hb =
    elim (d_le (upward a) (upward b)) [
      | inl h ↦ omega (arith, count-up a b (omega arith) (omega arith) h, near-above a ha, near-below b hb)
      | inr h ↦ omega (arith, count_none a b (omega arith) (omega arith) (omega (arith, h)))
    ]
  where
    near-above : (z : ℤ) → mag z ≤ 4194304 → 2143289343 ≤ upward z
    near-above (pos n) h = omega arith
    near-above (negsuc n) h = omega arith

pub near-cells : (a b : Cell) → Near a → Near b → cells_in a b ≤ 70368777732100
unfolding cells_in
near-cells a b na nb = mul-le-mul (near-count a.x b.x na.x nb.x) (near-count a.y b.y na.y nb.y)

-- ---- they rise
-- key order is range order, and no cell of a range comes twice
pub range_rising : (a b : Cell) → Fits a → Fits b → Rising (map key_of (range_cells a b))
range_rising a b fa fb =
    subst Rising (sym (range_keys a b fa))
    (runs_rising (key_of a) (count_from a.x b.x) (count_from a.y b.y) (count_most a.x b.x fa.x fb.x))

-- ---- in a range, by keys
pub upward-order : (a b : ℤ) → mag a < 2147483648 → mag b < 2147483648 → le_z a b ≡ leb (upward a) (upward b)
upward-order (pos a) (pos b) ha hb = says_same (leb a b) (leb (a + 2147483648) (b + 2147483648)) (leb_says a b) (says_via (λ h. omega arith) (λ h. omega arith) (leb_says (a + 2147483648) (b + 2147483648)))
upward-order (pos a) (negsuc b) ha hb = sym (lt-leb (a + 2147483648) (2147483647 - b) (omega arith))
upward-order (negsuc a) (pos b) ha hb = sym (le-leb (2147483647 - a) (b + 2147483648) (omega arith))
upward-order (negsuc a) (negsuc b) ha hb = says_same (leb b a) (leb (2147483647 - a) (2147483647 - b)) (leb_says b a) (says_via (λ h. omega arith) (λ h. omega arith) (leb_says (2147483647 - a) (2147483647 - b)))

pub range_window : (a b c : Cell) → Fits a → Fits b → Fits c → in_range a b c ≡
    ((leb (upward a.x) (column_of (key_of c)) && leb (column_of (key_of c)) (upward b.x))
    && (leb (upward a.y) (line_of (key_of c)) && leb (line_of (key_of c)) (upward b.y)))
unfolding in_range
range_window a b c fa fb fc =
    rw (
      key_column c fc,
      key_row c fc,
      upward-order a.x c.x fa.x fc.x,
      upward-order c.x b.x fc.x fb.x,
      upward-order a.y c.y fa.y fc.y,
      upward-order c.y b.y fc.y fb.y,
    ) refl
