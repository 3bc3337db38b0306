-- The window of a block is a stretch of each of its two rows of cells. Assumes nothing.
use Rattle.basics.specs.Words.{suc, ◌≡◌, sym, ap, ◌∙◌, ◌||◌, add-one}
use Rattle.cells.specs.Meaning.Key.{key_of}
use Rattle.encoder_blocks.specs.Inner.Places.{cell}
use Rattle.encoder_boxes.proofs.laws.MetLaws.{met_row, met-rows}
use Rattle.encoder_boxes.proofs.met.Goals as goal
use Rattle.encoder_boxes.proofs.met.Goals.{After-met_from}

-- what the first stretch gives
first-row : (c : After-met_from) → let a = c.args in c.met_from.result ≡ met_row a.reals.now a.pool.now a.used a.i a.j a.j
first-row c =
    let a = c.args in
    let last : c.cell_key.result ≡ key_of (cell (suc a.i) a.j) = c.cell_key.ensures ∙ rw (add-one a.i) in
    rw (c.met_from.ensures, c.requires.here_value.0, last, c.block_box-b.ensures)

pub returns-then-met_from : goal.returns-then-met_from
returns-then-met_from c =
    let a = c.args in
    let f = first-row (goal.at.returns-then-met_from c).After-met_from in
    c.if-met_from.true
    ∙ sym (ap (λ b. b || met_row a.reals.now a.pool.now a.used a.i a.j (suc a.j)) (sym f ∙ c.if-met_from.true))
    ∙ met-rows c.requires.stocked.0 a.i a.j c.requires.stocked.1

pub returns-else-met_from : goal.returns-else-met_from
returns-else-met_from c =
    let a = c.args in
    let f = first-row (goal.at.returns-else-met_from c).After-met_from in
    let last : c.cell_key-else-met_from.result ≡ key_of (cell (suc a.i) (suc a.j)) = c.cell_key-else-met_from.ensures ∙ rw (add-one a.i, add-one a.j) in
    let next : c.met_from-else-met_from.result ≡ met_row a.reals.now a.pool.now a.used a.i a.j (suc a.j) = rw (c.met_from-else-met_from.ensures, c.requires.here_value.1, last, c.block_box-b.ensures) in
    next
    ∙ sym (ap (λ b. b || met_row a.reals.now a.pool.now a.used a.i a.j (suc a.j)) (sym f ∙ c.if-met_from.false))
    ∙ met-rows c.requires.stocked.0 a.i a.j c.requires.stocked.1
