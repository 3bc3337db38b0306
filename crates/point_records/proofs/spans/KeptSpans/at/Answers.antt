-- One span more is kept. Assumes nothing.
use Rattle.basics.specs.Words.{rules, arith}
use Rattle.std.proofs.Common.{SFits, w32}
use Rattle.std.proofs.lemmas.Int.{to_z-of_z}
use Rattle.point_records.proofs.laws.KeptLaws.{kept_more}
use Rattle.point_records.proofs.spans.KeptSpans.at.Goals as goal

pub invariant_of-self-clause-kept : goal.invariant_of-self-clause-kept
invariant_of-self-clause-kept c =
    let s = c.args.self.now in
    let x : SFits w32 c.cell_of_key.result.x = search rules in
    kept_more s.size s.known s.ends _ c.args.n _ (omega arith) (rw c.cell_of_key.ensures at (simp to_z-of_z at c.span_of-s.ensures)) s.kept
