-- Looking for a box that a block meets: place by place along a stretch, and by two stretches for the whole window. Assumes nothing.
use Rattle.basics.specs.Words.{ℕ, suc, ◌+◌, ◌≤◌, ◌<◌, ◌≡◌, ap, ap₂, ◌∙◌, Bool, true, false, ◌&&◌, ◌||◌, List, [], length, get_or, take, drop, leb}
use Rattle.basics.specs.Words.{arith, length-take-le, length-drop, get_or-drop, get_or-take, le-leb, lt-leb}
use mathlib.Core.Bool.{and_assoc, and-false, and-or_distrib_right}
use lib.Ieee.{Float}
use Rattle.basics.specs.Meaning.Refusals.{pick}
use Rattle.geometry.specs.declared.Aabb.{Aabb}
use Rattle.cells.specs.Meaning.Key.{key_of}
use Rattle.storage.specs.Meaning.Keyed.{below}
use Rattle.storage.specs.Meaning.Entries.{row_key}
use Rattle.storage.specs.Meaning.Packed.{first}
use Rattle.storage.specs.Inner.Window.{window_of}
use Rattle.storage.proofs.laws.FilterLaws.{all_of, all_any}
use Rattle.storage.proofs.laws.PackedLaws.{sorted-ordered}
use Rattle.storage.proofs.laws.TakeOutLaws.{has, has_none}
use Rattle.encoder_blocks.specs.Meaning.Blocks.{columns, block_box}
use Rattle.encoder_blocks.specs.Inner.Places.{cell}
use Rattle.encoder_boxes.specs.Inner.Windows.{Stocked, crosses, met_from, met}
use Rattle.encoder_blocks.proofs.laws.HasLaws.{has_from, has_same, has_both, has_or}
use Rattle.encoder_boxes.proofs.laws.WindowLaws.{drop-below, window_rows}

-- block (i, j)'s box intersects the box of an entry of cell (i, n) or (i + 1, n)
abbrev pub met_row : List (List Float) → List (List ℕ) → ℕ → ℕ → ℕ → ℕ → Bool
met_row reals pool used i j n = met_from reals pool used (length (below row_key (key_of (cell i n)) (take used pool))) (key_of (cell (suc i) n)) (block_box i j)

module _ {reals : List (List Float)} {pool : List (List ℕ)} {used : ℕ} (s : Stocked reals pool used) where
  abbrev rows : List (List ℕ)
  rows = take used pool

  size : length rows ≡ used
  size = length-take-le used pool s.in_pool

  -- ---- along a stretch
  module _ (last : ℕ) (q : Aabb) where
    abbrev wanted : List ℕ → Bool
    wanted row = leb (row_key row) last && crosses reals q row

    met-here : (p : ℕ) → p < used → met_from reals pool used p last q ≡ pick (wanted (get_or pool p [])) true (met_from reals pool used (p + 1) last q)
    met-here p h = has_from wanted rows p [] (rw size h) ∙ rw (get_or-take used pool p [] h)

    pub met-found : (p : ℕ) → p < used → first pool p ≤ last → crosses reals q (get_or pool p []) ≡ true → met_from reals pool used p last q ≡ true
    met-found p h l e = met-here p h ∙ rw (le-leb (first pool p) last l, e)

    pub met_next : (p : ℕ) → p < used → crosses reals q (get_or pool p []) ≡ false → met_from reals pool used p last q ≡ met_from reals pool used (p + 1) last q
    met_next p h e = met-here p h ∙ rw (e, and-false (leb (first pool p) last))

    -- behind a key past the last there is none
    pub met-past : (p : ℕ) → p < used → last < first pool p → met_from reals pool used p last q ≡ false
    met-past p h l =
        has_none wanted (drop p rows)
        (all_of (λ row. wanted row ≡ false) [] (drop p rows)
        (λ n g.
        let g' : p + n < used = omega (arith, length-drop p rows, size) in
        let up = sorted-ordered used pool s.in_pool s.sorted p (p + n) g' (omega arith) in
        rw (get_or-drop p rows n [], get_or-take used pool (p + n) [] g', lt-leb (first pool (p + n)) last (omega arith))))

    -- from the first place whose key is not below k
    met_keys : (k : ℕ) → met_from reals pool used (length (below row_key k rows)) last q ≡ has (λ row. leb k (row_key row) && wanted row) rows
    met_keys k = ap (has wanted) (drop-below row_key k rows s.sorted) ∙ has_both wanted (λ row. leb k (row_key row)) rows

  -- ---- the window of a block
  module _ (i j : ℕ) (hi : i < columns) where
    abbrev in_row : ℕ → List ℕ → Bool
    in_row n row = leb (key_of (cell i n)) (row_key row) && (leb (row_key row) (key_of (cell (suc i) n)) && crosses reals (block_box i j) row)

    abbrev inside : List ℕ → Bool
    inside row = window_of (cell i j) (cell (suc i) (suc j)) (row_key row) && crosses reals (block_box i j) row

    either : (row : List ℕ) → (in_row j row || in_row (suc j) row) ≡ inside row
    either row = simp (← and_assoc, ← and-or_distrib_right, window_rows i j hi (row_key row))

    pub met-rows : (met_row reals pool used i j j || met_row reals pool used i j (suc j)) ≡ met reals rows i j
    unfolding met
    met-rows =
        ap₂ ◌||◌ (met_keys _ (block_box i j) (key_of (cell i j))) (met_keys _ (block_box i j) (key_of (cell i (suc j))))
        ∙ has_or (in_row j) (in_row (suc j)) rows
        ∙ has_same (λ row. in_row j row || in_row (suc j) row) inside rows (all_any (λ row. (in_row j row || in_row (suc j) row) ≡ inside row) either rows)
