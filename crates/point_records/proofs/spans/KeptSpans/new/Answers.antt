-- No column has been asked for: each place has the span of number 0. Assumes nothing.
use Rattle.point_records.proofs.laws.KeptLaws.{first-column, kept_same}
use Rattle.point_records.proofs.spans.KeptSpans.new.Goals as goal

pub invariant_of-result-clause-kept : goal.invariant_of-result-clause-kept
invariant_of-result-clause-kept c = kept_same c.args.size 0 _ (first-column c.args.size c.requires)
