-- Assumes nothing.
use Rattle.basics.specs.Words.{◌≡◌, sym, subst}
use Rattle.basics.specs.Meaning.Answers.{answer_of}
use Rattle.point_records.specs.Meaning.Columns.{record_at}
use Rattle.point_deferred.specs.declared.Ask.{Ask}
use Rattle.point_deferred.specs.Inner.Ask.{call_for}
use Rattle.point_deferred.specs.Inner.Held.{remove_refusal, refusal_of}
use Rattle.point_deferred.proofs.call.check.Goals as goal

pub returns-in-Remove : goal.returns-in-Remove
unfolding remove_refusal
returns-in-Remove c =
    let a = c.args in
    subst (λ (k : Ask). answer_of c.check_own.result ≡ refusal_of a.nums.now (record_at a.nums.now a.reals.now a.ints.now a.h.slot).state (call_for k a.h a.tracker)) (sym c.in-Remove.is) c.check_own.ensures
