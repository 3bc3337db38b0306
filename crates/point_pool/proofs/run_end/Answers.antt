-- The test of entry j says whether it is right in the list, and its mark whether an entry before it names its slot. Assumes nothing.
use Rattle.basics.specs.Words.{ap, sym, ◌∙◌, length-set, arith}
use Rattle.basics.proofs.laws.Says.{apart}
use borrow.Author.Count.{below_more}
use Rattle.point_records.specs.declared.Entry.{Entry}
use Rattle.point_records.proofs.laws.KeptLaws.{column_of_lem}
use Rattle.point_pool.proofs.laws.MarkLaws.{named_more, named_new}
use Rattle.point_pool.proofs.run_end.Goals as goal
use Rattle.point_pool.proofs.run_end.Goals.{then-not-entry_ok-via-then-not-entry_ok, then-not-entry_ok-via-else-not-entry_ok+then-marks-e}

pub entry_ok-requires : goal.entry_ok-requires
entry_ok-requires c =
    let p = c.requires in
    rw c.loop-j.invariant.same_size
    (rw p.cell.0 (p.nums_len_bound.1, p.nums_len_bound.2, rw (c.column_of.ensures, column_of_lem c.args.key) at c.at-x.ensures.span, rw p.cell.0 at p.cell.1))

pub returns-then-not-entry_ok-clause-run : goal.returns-then-not-entry_ok-clause-run
returns-then-not-entry_ok-clause-run c =
    let l = c.loop-j in
    let r = rw (l.invariant.same_size, c.requires.cell.0, c.entry_at-e.ensures) at c.entry_ok.ensures.says in
    record {
      up = l.auto.j;
      most = omega arith;
      each = λ i f h. l.invariant.each i h f;
      stop = λ h i.
          elim c.then-not-entry_ok.branch [
            | then-not-entry_ok-via-then-not-entry_ok w ↦ apart (sym w.if-not-entry_ok.true ∙ r.no i.right)
            | then-not-entry_ok-via-else-not-entry_ok+then-marks-e w ↦
                let o = l.invariant.named.only c.entry_at-e.result.slot w.if-marks-e.true in
                i.fresh o.0 o.1 (o.2 ∙ ap (λ (e : Entry). e.slot) c.entry_at-e.ensures)
          ];
    }

pub loop-j-preserved : goal.loop-j-preserved
loop-j-preserved c =
    let l = c.loop-j in
    let r = rw (l.invariant.same_size, c.requires.cell.0, c.entry_at-e.ensures) at c.entry_ok.ensures.says in
    let right = r.yes c.if-not-entry_ok.false in
    let s = ap (λ (e : Entry). e.slot) c.entry_at-e.ensures in
    record {
      each = below_more _ l.j l.invariant.each (λ f. record { is_key = c.if-pool-j.false; right = right; fresh = λ i h q. named_new c.args.pool.now l.marks l.j _ c.if-marks-e.false l.invariant.named i h (q ∙ sym s) });
      named = named_more c.args.pool.now l.marks l.j _ s (omega (arith, right.inside, s, c.requires.nums_len_bound.0)) l.invariant.named;
      length_marks = length-set l.marks _ _ ∙ l.invariant.length_marks;
      same_size = c.entry_ok.ensures.same_size ∙ l.invariant.same_size;
    }
