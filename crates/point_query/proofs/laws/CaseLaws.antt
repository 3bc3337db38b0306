-- What `query` makes of document 01's case at cell size 1, whatever the grid holds: a range of 4,096 cells is accepted, and one of 4,160
-- gets answer 7. Assumes nothing.
use Rattle.basics.specs.Words.{ℕ, ◌≤◌, ◌≡◌, refl, sym, ap, ◌∙◌, true, ◌⊎◌, inl, inr, length, leb, arith, leb-true, leb-false}
use lib.Ieee.{of_bits, lt, le, eq, fits}
use Rattle.basics.specs.Meaning.Limits.{most_cells}
use Rattle.geometry.specs.declared.Position.{Position}
use Rattle.geometry.specs.Meaning.Domain.{position_in_domain}
use Rattle.cells.specs.Meaning.CellRule.{cell_of, cell_at}
use Rattle.cells.specs.Meaning.Range.{cells_in}
use Rattle.storage.proofs.laws.FilterLaws.{by_test}
use Rattle.point_tables.specs.Meaning.Tables.{Tables, size_of}
use Rattle.point_tables.specs.Meaning.Decide.{holds}
use Rattle.point_search.specs.declared.Test.TheVariants.{Any}
use Rattle.point_search.specs.Meaning.Searches.{found, Outputs, room, Findings, findings, search_of}
use Rattle.point_query.specs.Meaning.Queries.{query_of}
use Rattle.point_query.specs.Inner.Cases.{origin, square, wider}
use Rattle.point_search.proofs.laws.FindLaws.{search_7, search_9, search_0}
use Rattle.point_query.proofs.laws.CornerLaws.{query_is}
use Rattle.replies.specs.Meaning.Replies.{count}

-- the cells from (0, 0) to a corner, at a cell size
abbrev cells_to : ℕ → Position → ℕ
cells_to size ur = cells_in (cell_at size origin) (cell_at size ur)

origin-fits : true ≡ position_in_domain origin
unfolding of_bits le lt eq fits
origin-fits = refl

square-fits : true ≡ position_in_domain square
unfolding of_bits le lt eq fits
square-fits = refl

wider-fits : true ≡ position_in_domain wider
unfolding of_bits le lt eq fits
wider-fits = refl

square-cells : cells_to 1 square ≡ 4096
unfolding of_bits cell_of cells_in
square-cells = refl

wider-cells : cells_to 1 wider ≡ 4160
unfolding of_bits cell_of cells_in
wider-cells = refl

module _ (t : Tables) (h : holds t ≡ true) (one : size_of t ≡ 1) (o : Outputs) where
  abbrev number : ℕ
  number = length (found t origin square Any)

  abbrev places_there : ℕ
  places_there = room o

  square-most : cells_to (size_of t) square ≤ most_cells
  square-most = omega (arith, ap (λ (n : ℕ). cells_to n square) one ∙ square-cells)

  -- what a search from (0, 0) came to is what the query comes to
  asked : (ur : Position) (r : Findings) → true ≡ position_in_domain ur
      → r ≡ search_of t true origin ur Any o → r ≡ query_of t origin ur o
  asked ur r f e = query_is true true t o r origin ur origin-fits f e

  answered : (r : Findings) → r ≡ search_of t true origin square Any o
      → (query_of t origin square o).returned.answer ≡ r.returned.answer
  answered r e = ap (λ (f : Findings). f.returned.answer) (sym (asked square r square-fits e))

  -- neither 3, nor 6, nor 7: done, or an output is too short for what is found
  pub square-accepted : ((query_of t origin square o).returned.answer ≡ 0) ⊎ ((query_of t origin square o).returned.answer ≡ 9)
  square-accepted =
      by_test (leb number places_there)
      (λ q. inl (answered _ (search_0 t true origin square Any o h refl square-most (leb-true number places_there q))))
      (λ q. inr (answered _ (search_9 t true origin square Any o h refl square-most (leb-false number places_there q))))

  pub query_too_wide : findings (count 7 0) o ≡ query_of t origin wider o
  query_too_wide =
      asked wider _ wider-fits
      (search_7 t true origin wider Any o h refl (omega (arith, ap (λ (n : ℕ). cells_to n wider) one ∙ wider-cells)))
