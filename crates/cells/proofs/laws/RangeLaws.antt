-- The cells of a range: as many as `cells_in` says, exactly those that lie in it, and none if it is reversed. Assumes nothing.
use Rattle.basics.specs.Words.{ℕ, zero, suc, ◌+◌, ◌*◌, ◌<◌, ◌≡◌, refl, sym, ap, ◌∙◌, subst, true, false, ◌&&◌, [], Memᴰ, Memᴰ-head, Memᴰ-tail}
use Rattle.basics.specs.Words.{Memᴰ-cases_cons, Memᴰ-append_cases, Memᴰ-not_nil, Memᴰ-cast, Memᴰ-append_left, Memᴰ-append_right, inl, inr}
use Rattle.basics.specs.Words.{length, length-append, ℤ, pos, ◌+ℤ◌, +ℤ_idr, mul-zero, mul-suc, arith}
use lib.Signed.{le_z}
use Rattle.basics.proofs.laws.Says.{both_true, and_true}
use Rattle.cells.specs.declared.Cell.{Cell}
use Rattle.cells.proofs.laws.Numbers.{cell_ext}
use Rattle.cells.specs.Meaning.Range.{count_from, cells_in, row, rows, range_cells}
use Rattle.cells.proofs.laws.Range.{in_range}
use Rattle.cells.proofs.laws.StepLaws.{add-steps, step_of, of_step, reversed}

-- ---- how many
row-length : (y x : ℤ) (n : ℕ) → length (row y x n) ≡ n
row-length y x zero = refl
row-length y x (suc n) = ap suc (row-length y (x +ℤ pos 1) n)

rows-length : (x y : ℤ) (n m : ℕ) → length (rows x y n m) ≡ n * m
rows-length x y n zero = sym (mul-zero n)
rows-length x y n (suc m) =
    length-append (row y x n) (rows x (y +ℤ pos 1) n m) ∙ ap (λ (k : ℕ). k + length (rows x (y +ℤ pos 1) n m)) (row-length y x n)
    ∙ ap (λ (k : ℕ). n + k) (rows-length x (y +ℤ pos 1) n m) ∙ (omega arith) ∙ sym (mul-suc n m)

pub range_length : (a b : Cell) → length (range_cells a b) ≡ cells_in a b
unfolding range_cells cells_in
range_length a b = rows-length a.x a.y (count_from a.x b.x) (count_from a.y b.y)

-- ---- which
-- the cell i steps right of x and j steps above y
abbrev at : ℤ → ℤ → ℕ → ℕ → Cell
at x y i j = record { x = x +ℤ pos i; y = y +ℤ pos j }

right-one : (x : ℤ) (i : ℕ) → x +ℤ pos 1 +ℤ pos i ≡ x +ℤ pos (suc i)
right-one x i = add-steps x 1 i ∙ ap (λ (n : ℕ). x +ℤ pos n) (omega arith)

row_of : (c : Cell) (y x : ℤ) (n : ℕ) → Memᴰ c (row y x n) → (i : ℕ) × (i < n) × (c ≡ record { x = x +ℤ pos i; y = y })
row_of c y x zero m = absurd (Memᴰ-not_nil m)
row_of c y x (suc n) m =
    elim (Memᴰ-cases_cons m) [
      | inl e ↦ (0, omega arith, e ∙ cell_ext (sym (+ℤ_idr x)) refl)
      | inr k ↦ let (i, h, e) = row_of c y (x +ℤ pos 1) n k in (suc i, omega arith, e ∙ cell_ext (right-one x i) refl)
    ]

row_has : (y x : ℤ) (n i : ℕ) → i < n → Memᴰ (record { x = x +ℤ pos i; y = y }) (row y x n)
row_has y x zero i h = absurd (omega arith)
row_has y x (suc n) zero h = Memᴰ-head (cell_ext (+ℤ_idr x) refl)
row_has y x (suc n) (suc i) h =
    Memᴰ-tail (subst (λ (z : ℤ). Memᴰ (record { x = z; y = y }) (row y (x +ℤ pos 1) n)) (right-one x i) (row_has y (x +ℤ pos 1) n i (omega arith)))

abbrev Placed : ℤ → ℤ → ℕ → ℕ → Cell → Type 0
Placed x y n m c = (i : ℕ) × (j : ℕ) × (i < n) × (j < m) × (c ≡ at x y i j)

rows_of : (c : Cell) (x y : ℤ) (n m : ℕ) → Memᴰ c (rows x y n m) → Placed x y n m c
rows_of c x y n zero k = absurd (Memᴰ-not_nil k)
rows_of c x y n (suc m) k =
    elim (Memᴰ-append_cases (row y x n) k) [
      | inl k ↦ let (i, h, e) = row_of c y x n k in (i, 0, h, omega arith, e ∙ cell_ext refl (sym (+ℤ_idr y)))
      | inr k ↦ let (i, j, h, l, e) = rows_of c x (y +ℤ pos 1) n m k in (i, suc j, h, omega arith, e ∙ cell_ext refl (right-one y j))
    ]

rows_have : (x y : ℤ) (n m i j : ℕ) → i < n → j < m → Memᴰ (at x y i j) (rows x y n m)
rows_have x y n zero i j h l = absurd (omega arith)
rows_have x y n (suc m) i zero h l =
    Memᴰ-append_left (rows x (y +ℤ pos 1) n m) (subst (λ (z : ℤ). Memᴰ (record { x = x +ℤ pos i; y = z }) (row y x n)) (sym (+ℤ_idr y)) (row_has y x n i h))
rows_have x y n (suc m) i (suc j) h l =
    Memᴰ-append_right (row y x n)
    (subst (λ (z : ℤ). Memᴰ (record { x = x +ℤ pos i; y = z }) (rows x (y +ℤ pos 1) n m)) (right-one y j) (rows_have x (y +ℤ pos 1) n m i j h (omega arith)))

-- ---- in the range exactly when among its cells
pub in_cells : (a b c : Cell) → in_range a b c ≡ true → Memᴰ c (range_cells a b)
unfolding in_range range_cells
in_cells a b c h =
    let (px, py) = both_true (le_z a.x c.x && le_z c.x b.x) (le_z a.y c.y && le_z c.y b.y) h in
    let (lx, ux) = both_true (le_z a.x c.x) (le_z c.x b.x) px in
    let (ly, uy) = both_true (le_z a.y c.y) (le_z c.y b.y) py in
    let (i, hi, ex) = step_of a.x b.x c.x lx ux in
    let (j, hj, ey) = step_of a.y b.y c.y ly uy in
    Memᴰ-cast (cell_ext ex ey) (rows_have a.x a.y (count_from a.x b.x) (count_from a.y b.y) i j hi hj)

pub cells_in_lem : (a b c : Cell) → Memᴰ c (range_cells a b) → in_range a b c ≡ true
unfolding in_range range_cells
cells_in_lem a b c m =
    let (i, j, hi, hj, e) = rows_of c a.x a.y (count_from a.x b.x) (count_from a.y b.y) m in
    let x = of_step a.x b.x c.x (i, hi, ap (λ (d : Cell). d.x) e) in
    let y = of_step a.y b.y c.y (j, hj, ap (λ (d : Cell). d.y) e) in
    and_true (and_true x.0 x.1) (and_true y.0 y.1)

-- ---- reversed on either axis: no cell
rows_none : (x y : ℤ) (m : ℕ) → rows x y 0 m ≡ []
rows_none x y zero = refl
rows_none x y (suc m) = rows_none x (y +ℤ pos 1) m

pub reversed_x : (a b : Cell) → le_z a.x b.x ≡ false → range_cells a b ≡ []
unfolding range_cells
reversed_x a b h =
    ap (λ (n : ℕ). rows a.x a.y n (count_from a.y b.y)) (reversed a.x b.x h) ∙ rows_none a.x a.y (count_from a.y b.y)

pub reversed_y : (a b : Cell) → le_z a.y b.y ≡ false → range_cells a b ≡ []
unfolding range_cells
reversed_y a b h = ap (rows a.x a.y (count_from a.x b.x)) (reversed a.y b.y h)
