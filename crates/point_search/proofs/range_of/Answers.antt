-- Assumes nothing.
use Rattle.basics.specs.Words.{sym, ◌∙◌, subst, arith}
use Rattle.cells.specs.Inner.Numbers.{Near}
use Rattle.cells.proofs.laws.CellRuleLaws.{cell-near}
use Rattle.point_tables.specs.Meaning.Tables.{tables, size_of}
use Rattle.point_tables.specs.Meaning.Decide.{holds_says}
use Rattle.point_search.proofs.range_of.Goals as goal

pub bounds-map-0 : goal.bounds-map-0
bounds-map-0 c =
    let a = c.args in
    let h = (holds_says (tables a.nums.now a.reals.now a.ints.now a.map.now a.pool.now a.spots.now a.cells.now)).yes (sym c.check.ensures ∙ c.if-not-check.false) in
    omega (arith, h.sized.of_map)

pub cell_at-a-requires-clause-size_in_domain : goal.cell_at-a-requires-clause-size_in_domain
cell_at-a-requires-clause-size_in_domain c = ((holds_says _).yes (sym c.check.ensures ∙ c.if-not-check.false)).counted.size

pub cell_at-b-requires-clause-size_in_domain : goal.cell_at-b-requires-clause-size_in_domain
cell_at-b-requires-clause-size_in_domain c = ((holds_says _).yes (sym c.check.ensures ∙ c.if-not-check.false)).counted.size

pub cells_in-requires : goal.cells_in-requires
cells_in-requires c =
    let a = c.args in
    let size = size_of (tables a.nums.now a.reals.now a.ints.now a.map.now a.pool.now a.spots.now a.cells.now) in
    let reached = c.requires c.if-not-ok.false in
    (subst Near (sym c.cell_at-a.ensures) (cell-near size a.ll reached.0), subst Near (sym c.cell_at-b.ensures) (cell-near size a.ur reached.1))
