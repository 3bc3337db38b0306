-- Keys of one line have one span, and the number of a line leads to its span. Assumes nothing.
use Rattle.basics.specs.Words.{sym, ◌∙◌, rules}
use Rattle.point_records.proofs.laws.KeptLaws.{counted, same_line}
use Rattle.point_pool.proofs.line_span.Goals as goal

pub returns-then-row_of-clause-span : goal.returns-then-row_of-clause-span
returns-then-row_of-clause-span c =
    rw (c.requires.0, same_line c.args.key c.args.last (sym c.row_of.ensures ∙ c.if-row_of.true ∙ c.row_of-2.ensures)) c.requires.1

pub returns-else-row_of-clause-span : goal.returns-else-row_of-clause-span
returns-else-row_of-clause-span c = rw (counted {z = c.args.c.y} (search rules) c.up_from_least.ensures) at c.at.ensures.span
