-- A deferred call on tables that are known to hold a grid: what the working code does. `HeldLaws` shows that it is the call. The pool and
-- its positions are neither read nor written, so that the tables may be without them. Assumes nothing.
-- Here: what only inner contracts cite.
use Rattle.std.specs.Prelude.{◌≡◌, ◌∷◌, Float}
use Rattle.basics.specs.Words.{ℕ, List, [], set, eqb, ℤ}
use Rattle.basics.specs.Meaning.Refusals.{first_of, pick}
use Rattle.geometry.specs.declared.Position.{Position}
use Rattle.cells.specs.declared.Cell.{Cell}
use Rattle.slots.specs.declared.Handle.{Handle}
use Rattle.point_records.specs.declared.State.{State}
use Rattle.point_records.specs.declared.State.TheVariants.{Removed}
use Rattle.point_records.specs.declared.Record.{Record}
use Rattle.point_records.specs.Meaning.Columns.{record_at, nums_of, reals_of, ints_of}
use Rattle.point_records.specs.Meaning.States.{aimed, with_state}
use Rattle.point_tables.specs.Meaning.Tables.{Tables, tables, size_of, record_on}
use Rattle.point_tables.specs.Meaning.Outcome.{Outcome, outcome, stored}
use Rattle.replies.specs.declared.Reply.{Reply}
use Rattle.point_deferred.specs.Meaning.Moves.{pended, set_held_tests, remove_held_tests}
use Rattle.point_deferred.specs.Meaning.Calls.{Call}
use Rattle.replies.specs.Meaning.Replies.{reply}

-- tables without the pool
abbrev pub poolless : List (List ℕ) → List (List Float) → List (List ℤ) → List ℕ → List (List ℕ) → Tables
poolless nums reals ints map cells = tables nums reals ints map [] [] cells

-- the records with a cell size alone
abbrev pub columns_alone : List (List ℕ) → List (List Float) → List (List ℤ) → ℕ → Tables
columns_alone nums reals ints size = poolless nums reals ints (size ∷ []) []

abbrev pub call : ℕ → Handle → Position → ℕ → Call
call kind h p k = record { kind = kind; handle = h; at = p; tracker = k }

-- ---- the refusals past the check, for an object of that state
unfoldable pub set_refusal : List (List ℕ) → State → Handle → Position → ℕ → ℕ
set_refusal nums state h at k = first_of (set_held_tests nums state h at k)

unfoldable pub remove_refusal : List (List ℕ) → Handle → ℕ → ℕ
remove_refusal nums h k = first_of (remove_held_tests nums h k)

abbrev pub refusal_of : List (List ℕ) → State → Call → ℕ
refusal_of nums state c =
    pick (eqb c.kind 0) (set_refusal nums state c.handle c.at c.tracker) (remove_refusal nums c.handle c.tracker)

abbrev pub held_answer : Tables → Call → ℕ
held_answer t c = refusal_of t.nums (record_on t c.handle.slot).state c

-- ---- what becomes pending for a record, and what is returned of it
abbrev pub state_for : ℕ → Cell → ℕ → Position → State
state_for size c kind at = pick (eqb kind 0) (aimed size c at) Removed

abbrev pub next_state : ℕ → Record → ℕ → Position → State
next_state size r kind at = state_for size r.cell kind at

abbrev pub returned : Record → ℕ → ℕ
returned r kind = pick (eqb kind 0) 0 r.obj

-- the columns with what a call makes pending for slot s, and what it returns
pub record PendedRows (ns : List (List ℕ)) (qs : List (List Float)) (zs : List (List ℤ)) (size s kind : ℕ) (at : Position) (d : ℕ) (ns' : List (List ℕ)) (qs' : List (List Float)) (zs' : List (List ℤ)) : Type 0 where
  pub answer : d ≡ returned (record_at ns qs zs s) kind
  pub nums : ns' ≡ set ns s (nums_of (with_state (record_at ns qs zs s) (next_state size (record_at ns qs zs s) kind at)))
  pub reals : qs' ≡ set qs s (reals_of (with_state (record_at ns qs zs s) (next_state size (record_at ns qs zs s) kind at)))
  pub ints : zs' ≡ set zs s (ints_of (with_state (record_at ns qs zs s) (next_state size (record_at ns qs zs s) kind at)))

-- ---- the work of a call for slot s: what is returned, and the tables after it
unfoldable pub worked : Tables → ℕ → ℕ → Position → Outcome ℕ
unfolding pended
worked t s kind at = outcome (returned (record_on t s) kind) (pended t s (next_state (size_of t) (record_on t s) kind at))

-- ---- one call, and calls one after the other
unfoldable pub held_of : Tables → Call → Outcome Reply
unfolding worked
held_of t c =
    let w = worked t c.handle.slot c.kind c.at in
    pick (eqb (held_answer t c) 0)
    (outcome (reply 0 w.result) w.after)
    (outcome (reply (held_answer t c) 0) t)

unfoldable pub held_after : Tables → List Call → Tables
unfolding held_of
held_after t [] = t
held_after t (c ∷ cs) = held_after (held_of t c).after cs

unfoldable pub held_replies : Tables → List Call → List Reply
unfolding held_of
held_replies t [] = []
held_replies t (c ∷ cs) = (held_of t c).result ∷ held_replies (held_of t c).after cs

-- ---- the same, but for the mark of the object's cell
unfoldable pub pended_only : Tables → ℕ → State → Tables
pended_only t s state = stored t s (with_state (record_on t s) state) t.cells

unfoldable pub unmarked_of : Tables → Call → Outcome Reply
unfolding pended_only
unmarked_of t c =
    let s = c.handle.slot in
    pick (eqb (held_answer t c) 0)
    (outcome (reply 0 (returned (record_on t s) c.kind)) (pended_only t s (next_state (size_of t) (record_on t s) c.kind c.at)))
    (outcome (reply (held_answer t c) 0) t)
