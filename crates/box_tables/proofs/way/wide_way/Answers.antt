-- Assumes nothing.
use Rattle.basics.specs.Words.{◌∙◌}
use mir.Syntax.{w32}
use mir.Facts.{to_z-of_z}
use Rattle.cells.proofs.laws.Numbers.{cell_ext}
use Rattle.box_tables.specs.Meaning.Tables.{low_cell, high_cell}
use Rattle.box_tables.proofs.laws.CornerLaws.{corners_upright, upright_by}
use Rattle.box_tables.proofs.way.wide_way.Goals as goal

pub way_of-requires : goal.way_of-requires
way_of-requires c =
    let a = c.args in (
      c.requires.0,
      upright_by _ _ (low_cell a.size a.b) (high_cell a.size a.b)
          (cell_ext (to_z-of_z {w = w32} (record { sfits = c.near_cell.type_inv }) ∙ c.near_cell.ensures) (to_z-of_z {w = w32} (record { sfits = c.near_cell-2.type_inv }) ∙ c.near_cell-2.ensures))
          (cell_ext (to_z-of_z {w = w32} (record { sfits = c.near_cell-3.type_inv }) ∙ c.near_cell-3.ensures) (to_z-of_z {w = w32} (record { sfits = c.near_cell-4.type_inv }) ∙ c.near_cell-4.ensures))
          (corners_upright a.b c.requires.2 a.size c.requires.1.0),
    )
