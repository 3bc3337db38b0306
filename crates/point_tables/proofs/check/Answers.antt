-- Past each test stands what it says, and the parts make up the whole. Assumes nothing.
use Rattle.basics.proofs.laws.Says.{says_no, apart}
use Rattle.point_tables.specs.Meaning.Tables.{tables}
use Rattle.point_tables.proofs.laws.CheckLaws.{slot-room, listed, whole, counts_of, passes_of, slots_of_lem}
use Rattle.point_tables.proofs.Shared.{said-holds}
use Rattle.point_tables.proofs.check.Goals as goal

pub returns-then-not-lengths_ok : goal.returns-then-not-lengths_ok
returns-then-not-lengths_ok c = said-holds _ _ (says_no (λ h. apart (c.if-not-lengths_ok.ensures.no h.sized)))

pub returns-then-not-counts_ok : goal.returns-then-not-counts_ok
returns-then-not-counts_ok c = said-holds _ _ (says_no (λ h. apart (c.if-not-counts_ok.ensures.no (counts_of _ h))))

pub slots_ok-requires : goal.slots_ok-requires
slots_ok-requires c =
    let a = c.args in
    let t = tables a.nums.now a.reals.now a.ints.now a.map.now a.pool.now a.spots.now a.cells.now in
    let n = c.counts_ok.ensures.yes c.if-not-counts_ok.false in
    let p = c.pool_ok.ensures in
    (slot-room t (c.lengths_ok.ensures.yes c.if-not-lengths_ok.false) n, listed t n _ (p.says.yes c.if-pool_ok.true) (p.named c.if-pool_ok.true))

pub returns-then-pool_ok : goal.returns-then-pool_ok
returns-then-pool_ok c =
    let s = c.lengths_ok.ensures.yes c.if-not-lengths_ok.false in
    let n = c.counts_ok.ensures.yes c.if-not-counts_ok.false in
    let p = c.pool_ok.ensures.says.yes c.if-pool_ok.true in
    let m = c.pool_ok.ensures.named c.if-pool_ok.true in
    said-holds _ _ (record { yes = λ y. whole _ s n _ p m (c.slots_ok.ensures.yes y); no = λ h. c.slots_ok.ensures.no (slots_of_lem _ h _ m) })

pub returns-else-pool_ok : goal.returns-else-pool_ok
returns-else-pool_ok c = said-holds _ _ (rw c.if-pool_ok.false (says_no (λ h. apart (c.if-pool_ok.ensures.says.no (passes_of _ h)))))
