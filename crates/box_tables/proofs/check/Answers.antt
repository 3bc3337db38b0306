-- Past each test stands what it says, and the parts make up the whole. Assumes nothing.
use Rattle.basics.specs.Words.{ℕ, sym, ◌∙◌, subst, List, replicate}
use Rattle.basics.proofs.laws.Says.{says_no, apart}
use Rattle.box_tables.specs.Meaning.Tables.{Tables, tables, size_of, Sized}
use Rattle.box_tables.specs.Inner.Check.{WaysBy}
use Rattle.box_tables.proofs.laws.CheckLaws.{CountsOf, slot-room, pool_ready, whole, counts_of, slots_of_lem, passes_of}
use Rattle.box_tables.proofs.Shared.{said-holds, ways_none}
use Rattle.box_tables.proofs.check.Goals as goal
use Rattle.box_tables.proofs.check.Goals.{Start, Else-not-counts_ok}

-- the tables at entry
abbrev at_entry : Start → Tables
at_entry c = tables c.args.nums.now c.args.reals.now c.args.map.now c.args.pool.now

abbrev entry : Else-not-counts_ok → Tables
entry c = tables c.args.nums.now c.args.reals.now c.args.map.now c.args.pool.now

-- past the first two tests, what they say
sized : (c : Else-not-counts_ok) → Sized (entry c)
sized c = c.lengths_ok.ensures.yes c.if-not-lengths_ok.false

counted : (c : Else-not-counts_ok) → CountsOf (entry c)
counted c = c.counts_ok.ensures.yes c.if-not-counts_ok.false

pub returns-then-not-lengths_ok : goal.returns-then-not-lengths_ok
returns-then-not-lengths_ok c = said-holds (at_entry (goal.at.returns-then-not-lengths_ok c).Start) _ (says_no (λ h. apart (sym c.if-not-lengths_ok.true ∙ c.lengths_ok.ensures.no h.sized)))

pub returns-then-not-counts_ok : goal.returns-then-not-counts_ok
returns-then-not-counts_ok c =
    let t = at_entry (goal.at.returns-then-not-counts_ok c).Start in
    said-holds t _ (says_no (λ h. apart (sym c.if-not-counts_ok.true ∙ c.counts_ok.ensures.no (counts_of t h))))

pub slots_ok-requires : goal.slots_ok-requires
slots_ok-requires c =
    let d = (goal.at.slots_ok-requires c).Else-not-counts_ok in
    let t = entry d in
    let ones = c.fill.ensures.after (λ y e. e) in (
      slot-room t (sized d) (counted d),
      subst (λ (js : List ℕ). WaysBy t.nums t.reals (size_of t) (record { nexts = replicate 512 0; stops = replicate 512 0; jumps = js; ends = replicate 512 0 }) 0) (sym ones) (ways_none t.nums t.reals (size_of t)),
    )

pub pool_ok-requires : goal.pool_ok-requires
pool_ok-requires c =
    let d = (goal.at.pool_ok-requires c).Else-not-counts_ok in
    pool_ready (entry d) (sized d) (counted d) (c.slots_ok.ensures.says.yes c.if-slots_ok.true) (c.slots_ok.ensures.ways c.if-slots_ok.true)

pub returns-then-slots_ok : goal.returns-then-slots_ok
returns-then-slots_ok c =
    let d = (goal.at.returns-then-slots_ok c).Else-not-counts_ok in
    let t = entry d in
    let o = c.slots_ok.ensures.says.yes c.if-slots_ok.true in
    let w = c.slots_ok.ensures.ways c.if-slots_ok.true in
    said-holds t _ (record { yes = λ e. whole t (sized d) (counted d) o w (c.pool_ok.ensures.yes e); no = λ h. c.pool_ok.ensures.no (passes_of t h w) })

pub returns-else-slots_ok : goal.returns-else-slots_ok
returns-else-slots_ok c =
    let t = entry (goal.at.returns-else-slots_ok c).Else-not-counts_ok in
    said-holds t _ (record { yes = λ e. absurd (apart (sym c.if-slots_ok.false ∙ e)); no = λ h. c.slots_ok.ensures.says.no (slots_of_lem t h) })
