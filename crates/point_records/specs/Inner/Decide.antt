-- Whether an occupied record holds can be decided. Assumes nothing.
-- Here: what only inner contracts cite.
use Rattle.std.specs.Prelude.{◌≡◌}
use Rattle.basics.specs.Words.{ap}
use Rattle.basics.specs.Meaning.Says.{Decided}
use Rattle.basics.proofs.laws.Says.{d_via, d_and, d_eqz}
use Rattle.cells.specs.declared.Cell.{Cell}
use Rattle.cells.proofs.laws.Numbers.{cell_ext}

pub d_cell : (a b : Cell) → Decided (a ≡ b)
d_cell a b =
    d_via (λ p. cell_ext p.0 p.1) (λ e. (ap (λ (c : Cell). c.x) e, ap (λ (c : Cell). c.y) e))
    (d_and (d_eqz a.x b.x) (d_eqz a.y b.y))
