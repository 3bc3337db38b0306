-- Where all is right a row comes behind the last one, and the run of its list takes at least one entry. Assumes nothing.
use Rattle.basics.specs.Words.{◌+◌, ◌-◌, ◌≡◌, refl, sym, ◌∙◌, ap, false, ⊎_elim, length, length-replicate, eqb-true, eq-eqb, arith}
use Rattle.basics.proofs.laws.Says.{says_no, apart}
use Rattle.point_records.proofs.laws.KeptLaws.{first-line}
use Rattle.point_pool.proofs.laws.MarkLaws.{named_none}
use Rattle.point_pool.proofs.laws.PassLaws.{below_or, passed_none, passed_all}
use Rattle.point_pool.proofs.laws.RunLaws.{passed-run, row-some, next_row, next-entry}
use Rattle.point_pool.proofs.pool_ok.Goals as goal

pub loop-r-init : goal.loop-r-init
loop-r-init c =
    let a = c.args in
    let p = c.requires in
    record {
      most = omega arith;
      passed = passed_none a.nums.now a.reals.now a.ints.now a.pool.now a.spots.now a.cells.now a.size a.rows;
      named = rw p.1 (named_none a.pool.now 4096);
      length_marks = ap length p.1 ∙ length-replicate 4096 false;
      none = λ h. refl;
      behind = λ h. absurd (omega arith);
      stop = λ h. absurd (omega arith);
      line = first-line a.size p.0.of_size;
      same_size = c.new-spans.ensures;
    }

pub returns-then-not-follows-clause-says : goal.returns-then-not-follows-clause-says
returns-then-not-follows-clause-says c =
    let l = c.loop-r in
    let a = c.args in
    says_no (λ t. apart (sym c.if-not-follows.true ∙ c.follows.ensures.no (
      ⊎_elim
          (λ s. omega (arith, l.invariant.behind s, t.packed.ascending (l.r - 1) l.r c.loop-r-test.true (omega (arith, s))))
          (λ s. omega (arith, l.invariant.none (omega (arith, s)), row-some a.nums.now a.reals.now a.ints.now a.pool.now a.spots.now a.cells.now a.size a.used a.rows t l.r c.loop-r-test.true))
          (below_or 0 l.r),
      t.packed.marks l.r c.loop-r-test.true,
    )))

pub returns-then-e-j-clause-says : goal.returns-then-e-j-clause-says
returns-then-e-j-clause-says c =
    let l = c.loop-r in
    let a = c.args in
    says_no (λ t.
    let o = next-entry a.nums.now a.reals.now a.ints.now a.pool.now a.spots.now a.cells.now a.size a.used a.rows t l.j l.r l.invariant.passed l.invariant.stop l.invariant.most c.loop-r-test.true in
    let u = rw (c.line_span-y.ensures.same_size, l.invariant.same_size) at c.run_end-e.ensures.run in
    let e : l.j ≡ c.run_end-e.result = omega (arith, u.up) in
    u.stop (omega (arith, o.0)) (rw e at o.1))

pub loop-r-preserved : goal.loop-r-preserved
loop-r-preserved c =
    let l = c.loop-r in
    let a = c.args in
    let v = c.follows.ensures.yes c.if-not-follows.false in
    let n = c.run_end-e.ensures in
    let u = rw (c.line_span-y.ensures.same_size, l.invariant.same_size) at n.run in
    let f : l.r + 1 - 1 ≡ l.r = omega arith in
    record {
      most = u.most;
      passed = passed-run a.nums.now a.reals.now a.ints.now a.pool.now a.spots.now a.cells.now a.size a.used a.rows l.j l.r c.run_end-e.result l.invariant.passed (λ h. omega (arith, v.0, l.invariant.behind h)) c.loop-r-test.true v.1 u c.if-e-j.false;
      named = n.named.0;
      length_marks = n.named.1;
      none = λ h. absurd (omega (arith, h));
      behind = λ h. rw f refl;
      stop = λ h. rw f u.stop;
      line = rw (l.invariant.same_size, c.cell_of_key-c.ensures) at c.line_span-y.ensures.span;
      same_size = n.same_size ∙ c.line_span-y.ensures.same_size ∙ l.invariant.same_size;
    }

pub returns-clause-says : goal.returns-clause-says
returns-clause-says c =
    let l = c.loop-r in
    let a = c.args in
    let q : l.r ≡ a.rows = omega arith in
    record {
      yes = λ e.
          passed_all a.nums.now a.reals.now a.ints.now a.pool.now a.spots.now a.cells.now a.size a.used a.rows l.r q (rw (eqb-true _ _ e) at l.invariant.passed);
      no = λ t.
          ⊎_elim
          (λ h. absurd (omega (arith, q, (next_row a.nums.now a.reals.now a.ints.now a.pool.now a.spots.now a.cells.now a.size a.used a.rows t l.j l.r l.invariant.passed l.invariant.stop h).0)))
          (λ h. eq-eqb l.j a.used (omega (arith, h, l.invariant.most)))
          (below_or l.j a.used);
    }
