-- `box_search::gathering::gather` meets its contract: what was collected, with what the rest of the walk adds, is the whole. Assumes nothing.
use Rattle.basics.specs.Words.{◌≤◌, ◌-◌, ◌≡◌, subst, take, arith}
use Rattle.storage.proofs.laws.RunLaws.{run-onward}
use Rattle.box_search.proofs.laws.CollectLaws.{Gathered, gathered_start, gathered_next, gathered_end}
use Rattle.box_search.proofs.gathering.gather.Statement.{statement}
use Rattle.box_search.proofs.gathering.gather.Tie as tie

abbrev invariant-loop-i : tie.invariant-loop-i
invariant-loop-i pool used low high found₀ marks₀ n₀ i₀ found marks n i = (i ≤ used) × Gathered low high (take used pool) i marks found n

abbrev decreases-loop-i : tie.decreases-loop-i
decreases-loop-i pool used low high found₀ marks₀ n₀ i₀ found marks n i = used - i

loop-holds : tie.Need-loop-i-init invariant-loop-i decreases-loop-i
loop-holds c = let a = c.args in (omega arith, gathered_start a.low a.high a.pool.now a.used c.requires.0 c.requires.2 a.found.now c.requires.3)

next-run-requires : tie.Need-next_run-run-requires invariant-loop-i decreases-loop-i
next-run-requires c κs = let s = c in (c.loop-i.invariant.0, s.requires.0, s.requires.1)

gather-run-requires : tie.Need-gather_run-n-requires invariant-loop-i decreases-loop-i
gather-run-requires c κs =
    let l = c in
    let s = l in
    let g = l.loop-i.invariant.1 in
    let r = c.next_run-run.ensures in (
      r.ends,
      omega (arith, r.within, s.requires.0),
      λ j h. s.requires.2 j (omega (arith, h, r.within)),
      g.few,
      g.marks-size,
      g.size,
    )

loop-less : tie.Need-loop-i-smaller invariant-loop-i decreases-loop-i
loop-less c =
    let l = c in
    let w = c.next_run-run.ensures in
    omega (arith, run-onward _ _ l.loop-i.i _ _ _ _ _ w c.loop-i-test.true, w.within)

loop-again : tie.Need-loop-i-preserved invariant-loop-i decreases-loop-i
loop-again c =
    let l = c in
    let s = l in
    let a = s.args in
    let r = c.next_run-run in (
      r.ensures.within,
      gathered_next a.low a.high a.pool.now a.used s.requires.0 s.requires.2 l.loop-i.i r.result r.ensures _ _ _ _ _ _ l.loop-i.invariant.1 c.gather_run-n.ensures,
    )

returns : tie.Need-returns invariant-loop-i decreases-loop-i
returns c =
    let l = c in
    let s = l in
    let a = s.args in
    let e : l.loop-i.i ≡ a.used = omega arith in
    let g : Gathered a.low a.high (take a.used a.pool.now) a.used l.loop-i.marks l.loop-i.found l.loop-i.n =
    subst (λ i. Gathered a.low a.high (take a.used a.pool.now) i l.loop-i.marks l.loop-i.found l.loop-i.n) e l.loop-i.invariant.1 in
    (omega (arith, g.few), gathered_end a.low a.high a.pool.now a.used s.requires.0 s.requires.2 l.loop-i.marks l.loop-i.found l.loop-i.n g, g.size)

pub gather_spec : {M : Type 1} → statement M
gather_spec = tie.close (tie.spec invariant-loop-i decreases-loop-i loop-holds next-run-requires gather-run-requires loop-less loop-again returns)
