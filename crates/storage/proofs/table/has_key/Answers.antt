-- Assumes nothing.
use Rattle.storage.proofs.laws.FilterLaws.{by_test}
use Rattle.storage.proofs.laws.TableMoveLaws.{key-filled, filled-key}
use Rattle.storage.proofs.Tests.{denied}
use Rattle.storage.proofs.table.has_key.Goals as goal

pub returns : goal.returns
returns c =
    let a = c.args in
    let l = c.lower_bound in
    let q = c.is_key.ensures in
    record {
      yes = λ t. key-filled a.rows.now a.k c.requires.0 c.requires.1 a.key l.result l.ensures (q.yes t).0 (q.yes t).1;
      no = λ f. by_test c.is_key.result (λ t. t) (λ n. absurd (filled-key a.rows.now a.k c.requires.0 c.requires.1 a.key l.result l.ensures f (λ h i. denied q n (h, i))));
    }
