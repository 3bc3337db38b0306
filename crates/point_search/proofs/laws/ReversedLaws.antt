-- A reversed range has no cells and nothing is found in it. Assumes nothing.
use Rattle.basics.specs.Words.{◌≡◌, refl, sym, ap, ◌∙◌, true, false, List, [], ◌⊎◌, ⊎_elim, length, arith}
use lib.Signed.{le_z}
use Rattle.geometry.specs.declared.Position.{Position}
use Rattle.cells.specs.declared.Cell.{Cell}
use Rattle.cells.specs.Meaning.CellRule.{cell_at}
use Rattle.cells.specs.Meaning.Range.{cells_in, range_cells}
use Rattle.cells.proofs.laws.RangeLaws.{range_length, reversed_x, reversed_y}
use Rattle.storage.specs.Meaning.Keyed.{filter}
use Rattle.storage.specs.Meaning.Entries.{Entry, entry_key}
use Rattle.storage.specs.Meaning.Walk.{lists_of, walked}
use Rattle.point_tables.specs.Meaning.Tables.{Tables, size_of, entries_in}
use Rattle.point_tables.specs.Meaning.Decide.{holds}
use Rattle.point_search.specs.declared.Test.{Test}
use Rattle.point_search.specs.Meaning.Searches.{passes, position_of, found, finding_on, Outputs, findings, report_of, search_of}
use Rattle.point_search.proofs.laws.FindLaws.{search_0}
use Rattle.replies.specs.Meaning.Replies.{count}

-- the range of two cells is reversed on an axis
abbrev pub Reversed : Cell → Cell → Type 0
Reversed a b = (le_z a.x b.x ≡ false) ⊎ (le_z a.y b.y ≡ false)

no_cells : (a b : Cell) → Reversed a b → range_cells a b ≡ []
no_cells a b r = ⊎_elim (λ e. reversed_x a b e) (λ e. reversed_y a b e) r

pub reversed_cells : (a b : Cell) → Reversed a b → cells_in a b ≡ 0
reversed_cells a b r = sym (range_length a b) ∙ ap length (no_cells a b r)

module _ (t : Tables) (ll ur : Position) (r : Reversed (cell_at (size_of t) ll) (cell_at (size_of t) ur)) (test : Test) where
  pub reversed_found : found t ll ur test ≡ []
  unfolding found walked
  reversed_found = ap (λ (cs : List Cell). filter (λ e. passes test (position_of e)) (lists_of entry_key cs (entries_in t))) (no_cells (cell_at (size_of t) ll) (cell_at (size_of t) ur) r)

  -- done, with nothing found and nothing written
  pub reversed_search : (o : Outputs) → holds t ≡ true → findings (count 0 0) o ≡ search_of t true ll ur test o
  reversed_search o h =
      let n = reversed_cells (cell_at (size_of t) ll) (cell_at (size_of t) ur) r in
      ap (λ (es : List Entry). report_of (finding_on t) es o) (sym reversed_found)
      ∙ search_0 t true ll ur test o h refl (omega arith) (omega (arith, ap length reversed_found))
