-- Laws of spans that are kept: at first the same at each place, then one more; and the numbers of a cell's column and line lead back to the cell. Assumes nothing.
use Rattle.basics.specs.Words.{ℕ, ◌<◌, ◌%◌, ◌≡◌, sym, ap, ◌∙◌, subst, List, [], inl, inr, get_or, set, replicate, length-set, length-replicate}
use Rattle.basics.specs.Words.{get_or-replicate, get_or-set_same, get_or-set_other, ℤ, arith}
use lib.Signed.{mag}
use lib.Ieee.{Float, nan, binary32, of_bits}
use mir.Syntax.{w32}
use mir.Val.{to_z, of_z, SFits}
use mir.Facts.{to_z-of_z}
use Rattle.basics.specs.Meaning.Says.{Decided}
use Rattle.basics.proofs.laws.Says.{d_eq}
use Rattle.cells.specs.Meaning.Size.{SizeInDomain}
use Rattle.cells.specs.Meaning.Key.{upward}
use Rattle.cells.specs.Inner.Key.{downward, column_of, line_of, cell_of_key}
use Rattle.cells.specs.Inner.Span.{Spans}
use Rattle.cells.proofs.laws.KeyLaws.{upward_lt, downward-upward}
use Rattle.cells.proofs.laws.SpanLaws.{no_span}
use Rattle.point_records.specs.Inner.Kept.{Kept}

-- ---- the span of a number
module _ (size : ℕ) where
  -- the ends e are those of the span of number n
  abbrev At : ℕ → List Float → Type 0
  At n e = Spans size (cell_of_key n).x (get_or e 0 nan) (get_or e 1 nan)

  pub kept_same : (n : ℕ) (e : List Float) → At n e → Kept size (replicate 128 n) (replicate 128 e)
  kept_same n e h = record { of_known = length-replicate 128 n; of_ends = length-replicate 128 e; each = λ i l. rw (get_or-replicate 128 i n 0 l, get_or-replicate 128 i e [] l) h }

  pub kept_more : (known : List ℕ) (ends : List (List Float)) (i n : ℕ) (e : List Float) → i < 128 → At n e → Kept size known ends → Kept size (set known i n) (set ends i e)
  kept_more known ends i n e l h k = record { of_known = length-set known i n ∙ k.of_known; of_ends = length-set ends i e ∙ k.of_ends; each = λ j m. go j m (d_eq j i) }
    where
      go : (j : ℕ) → j < 128 → Decided (j ≡ i) → At (get_or (set known i n) j 0) (get_or (set ends i e) j [])
      go j m (inl q) = subst (λ (a : ℕ). At (get_or (set known i n) a 0) (get_or (set ends i e) a [])) (sym q) (rw (get_or-set_same known i n 0 (omega (arith, k.of_known)), get_or-set_same ends i e [] (omega (arith, k.of_ends))) h)
      go j m (inr q) = rw (get_or-set_other known i j n 0 q, get_or-set_other ends i j e [] q) (k.each j m)

-- ---- no coordinate stands in the column of number 0, nor on its line
pub first-column : (size : ℕ) → SizeInDomain size → Spans size (cell_of_key 0).x (of_bits binary32 0x3f800000) (of_bits binary32 0)
unfolding cell_of_key
first-column size h = no_span size h (cell_of_key 0).x (omega (arith, h))

pub first-line : (size : ℕ) → SizeInDomain size → Spans size (cell_of_key 0).y (of_bits binary32 0x3f800000) (of_bits binary32 0)
unfolding cell_of_key
first-line size h = no_span size h (cell_of_key 0).y (omega (arith, h))

-- ---- the numbers of a cell
of_column : (z : ℤ) → mag z < 2147483648 → (cell_of_key (upward z)).x ≡ z
unfolding cell_of_key
of_column z h = ap downward (small (upward z) (upward_lt z h)) ∙ downward-upward z h
  where
    small : (n : ℕ) → n < 4294967296 → n % 4294967296 ≡ n
    small n l = omega arith

-- a number that was read and counted from the least
pub counted : {z : ℤ} {n : ℕ} → SFits w32 z → n ≡ upward (to_z w32 (of_z w32 z)) → (cell_of_key n).x ≡ z
counted {z} g e = ap (λ m. (cell_of_key m).x) (e ∙ ap upward (to_z-of_z {w = w32} g)) ∙ of_column z g.sfits

pub column_of_lem : (key : ℕ) → (cell_of_key (column_of key)).x ≡ (cell_of_key key).x
unfolding cell_of_key
column_of_lem key = ap downward (twice key)
  where
    twice : (n : ℕ) → n % 4294967296 % 4294967296 ≡ n % 4294967296
    twice n = omega arith

pub same_line : (a b : ℕ) → line_of a ≡ line_of b → (cell_of_key a).y ≡ (cell_of_key b).y
unfolding cell_of_key
same_line a b e = ap downward e
