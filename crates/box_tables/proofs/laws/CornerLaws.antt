-- The corners of a box: their coordinates are in the domain, their cells are not reversed; how many cells there are between two corners by their
-- keys; and the way of a box of one cell. Assumes nothing.
use Rattle.basics.specs.Words.{ℕ, ◌+◌, ◌-◌, ◌*◌, ◌≤◌, ◌<◌, ◌≡◌, sym, ap, ap₂, ◌∙◌, subst, true, T, eqb, ℤ, arith, eq-eqb}
use lib.Signed.{mag}
use Rattle.geometry.specs.declared.Aabb.{Aabb}
use Rattle.geometry.specs.Meaning.Domain.{aabb_in_domain}
use Rattle.cells.specs.declared.Cell.{Cell}
use Rattle.cells.specs.Inner.Numbers.{Near}
use Rattle.cells.proofs.laws.Numbers.{Fits, near_fits}
use Rattle.cells.specs.Meaning.Range.{count_from, cells_in}
use Rattle.cells.specs.Meaning.Key.{upward, key_of}
use Rattle.cells.specs.Inner.Key.{column_of, line_of}
use Rattle.cells.proofs.laws.KeyLaws.{upward_lt, key_column, key_row}
use Rattle.cells.proofs.laws.RangeKeyLaws.{count-up, near-cells}
use Rattle.box_tables.specs.Meaning.Tables.{low_cell, high_cell, covers, item_of}
use Rattle.box_tables.specs.Inner.Way.{span_of, span_by, Upright, way_of}
use Rattle.box_tables.proofs.laws.BoxLaws.{low_near, high-near}
use Rattle.box_tables.proofs.laws.WayLaws.{rises_x, rises_y}

-- ---- a box of the domain
module _ (b : Aabb) (h : T (aabb_in_domain b)) where
  pub corners_upright : (size : ℕ) → 1 ≤ size → Upright (low_cell size b) (high_cell size b)
  corners_upright size s = record { low = low_near b h size; high = high-near b h size; x = rises_x size s b h; y = rises_y size s b h }

-- ---- corners known by equations
module _ (a b c d : Cell) (e : a ≡ c) (f : b ≡ d) where
  pub upright_by : Upright c d → Upright a b
  upright_by u = subst (λ (k : Cell). Upright k b) (sym e) (subst (λ (k : Cell). Upright c k) (sym f) u)

-- ---- the cells between two corners, where their keys, columns and lines are known by equations
column_is : (c : Cell) {k x : ℕ} → Fits c → k ≡ key_of c → x ≡ column_of k → x ≡ upward c.x
column_is c f e g = g ∙ ap column_of e ∙ key_column c f

line_is : (c : Cell) {k y : ℕ} → Fits c → k ≡ key_of c → y ≡ line_of k → y ≡ upward c.y
line_is c f e g = g ∙ ap line_of e ∙ key_row c f

pub wide_some : {a b : Cell} {l h ch cl : ℕ} → Upright a b → l ≡ key_of a → h ≡ key_of b → ch ≡ column_of h → cl ≡ column_of l → cl ≤ ch
wide_some {a} {b} u el eh ech ecl = omega (arith, column_is a (near_fits a u.low) el ecl, column_is b (near_fits b u.high) eh ech, u.x)

pub record Between (a b : Cell) (l h ch cl rh rl : ℕ) : Type 0 where
  pub upright : Upright a b
  pub low-key : l ≡ key_of a
  pub high-key : h ≡ key_of b
  pub high_column : ch ≡ column_of h
  pub low_column : cl ≡ column_of l
  pub high_line : rh ≡ line_of h
  pub low_line : rl ≡ line_of l

module _ {a b : Cell} {l h ch cl rh rl : ℕ} (k : Between a b l h ch cl rh rl) where
  abbrev u : Upright a b
  u = k.upright

  fa : Fits a
  fa = near_fits a u.low

  fb : Fits b
  fb = near_fits b u.high

  column_low : cl ≡ upward a.x
  column_low = column_is a fa k.low-key k.low_column

  column_high : ch ≡ upward b.x
  column_high = column_is b fb k.high-key k.high_column

  row_low : rl ≡ upward a.y
  row_low = line_is a fa k.low-key k.low_line

  row-high : rh ≡ upward b.y
  row-high = line_is b fb k.high-key k.high_line

  pub tall_some : rl ≤ rh
  tall_some = omega (arith, row_low, row-high, u.y)

  columns : ch - cl + 1 ≡ count_from a.x b.x
  columns = omega (arith, column_low, column_high, count-up a.x b.x fa.x fb.x u.x)

  rows : rh - rl + 1 ≡ count_from a.y b.y
  rows = omega (arith, row_low, row-high, count-up a.y b.y fa.y fb.y u.y)

  pub many : (ch - cl + 1) * (rh - rl + 1) ≡ cells_in a b
  unfolding cells_in
  many = ap₂ ◌*◌ columns rows

  pub many-most : (ch - cl + 1) * (rh - rl + 1) ≤ 70368777732100
  many-most = subst (λ (n : ℕ). n ≤ 70368777732100) (sym many) (near-cells a b u.low u.high)

  jump_is : 4294967296 - (ch - cl) ≡ 4294967296 + column_of (key_of a) - column_of (key_of b)
  jump_is = omega (arith, column_low, column_high, key_column a fa, key_column b fb, u.x, upward_lt b.x fb.x)

  pub way_by : (s i : ℕ) → i ≡ item_of s (eqb ((ch - cl + 1) * (rh - rl + 1)) 1) → record { first = l; last = h; jump = 4294967296 - (ch - cl); item = i } ≡ way_of s (span_by a b)
  way_by s i ei =
      let item = ei ∙ ap (λ (n : ℕ). item_of s (eqb n 1)) many in
      λ z. record { first = k.low-key z; last = k.high-key z; jump = jump_is z; item = item z }

-- ---- a box of one cell
count-one : (z : ℤ) → mag z < 2147483648 → count_from z z ≡ 1
count-one z h = omega (arith, count-up z z h h (omega arith))

one_in : (c : Cell) → Fits c → cells_in c c ≡ 1
unfolding cells_in
one_in c f = ap₂ ◌*◌ (count-one c.x f.x) (count-one c.y f.y)

module _ (size : ℕ) (b : Aabb) (h : T (aabb_in_domain b)) (v : Cell) (l : low_cell size b ≡ v) (g : high_cell size b ≡ v) where
  pub one_covers : covers size b ≡ 1
  one_covers = ap₂ cells_in l g ∙ one_in v (near_fits v (subst Near l (low_near b h size)))

  one_jump : 4294967296 ≡ 4294967296 + column_of (key_of (low_cell size b)) - column_of (key_of (high_cell size b))
  one_jump = omega (arith, ap (λ (c : Cell). column_of (key_of c)) (l ∙ sym g))

  pub one_way : (s k i : ℕ) → k ≡ key_of v → i ≡ item_of s true → record { first = k; last = k; jump = 4294967296; item = i } ≡ way_of s (span_of size b)
  one_way s k i ek ei =
      let low = ek ∙ ap key_of (sym l) in
      let high = ek ∙ ap key_of (sym g) in
      let item = ei ∙ ap (item_of s) (sym (eq-eqb (covers size b) 1 one_covers)) in
      λ z. record { first = low z; last = high z; jump = one_jump z; item = item z }
