-- The user's demands on the box grid: demand 1, and that tables built and changed only by its calls always hold a grid. Assumes nothing.
-- Here: the laws.
use Rattle.basics.specs.Words.{ℕ, ◌≡◌, refl, ap, ◌∙◌, true, false, List, [], ◌∷◌, ⊎_elim, eqb, eqb-false}
use Rattle.basics.proofs.laws.Says.{d_eq}
use Rattle.basics.specs.Meaning.Refusals.{applies, first_that}
use Rattle.basics.proofs.laws.RefusalLaws.{three_first}
use Rattle.box_tables.specs.Meaning.Tables.{Tables}
use Rattle.box_tables.specs.Meaning.Holds.{Holds}
use Rattle.box_tables.specs.Meaning.Decide.{sized_says, holds, holds_says}
use Rattle.box_insert.specs.Meaning.New.{new_of}
use Rattle.box_insert.proofs.laws.NewLaws.{new-holds, new-refused}
use Rattle.box_insert.proofs.laws.InsertLaws.{insert-holds}
use Rattle.box_set.proofs.laws.SetAabbLaws.{set-aabb-holds}
use Rattle.box_remove.proofs.laws.RemoveLaws.{remove-holds}
use Rattle.box_clear.proofs.laws.ClearLaws.{clear-holds}
use Rattle.demands.proofs.laws.Tested.{first-answer, first-refused, handle_no_three}
use Rattle.demands.specs.Meaning.BoxCalls.{BoxCall, new, insert, set_aabb, remove, clear, get, len, handles, query_broad, query, leaves, refusals}
use Rattle.demands.specs.Meaning.BoxCalls.{refused_with}
use Rattle.demands.proofs.laws.BoxSteps.{step}
use Rattle.demands.specs.Meaning.BoxDemands.{after_calls}

-- ---- demand 1: bad input gets the refusal that document 01 lists,
pub demand_1_answer : (t : Tables) (c : BoxCall) → (leaves t c).answer ≡ first_that (refusals t c)
demand_1_answer t c = first-answer (step t c) (λ n. refl)

-- and a refused call leaves the tables and the outputs as they were, and returns zeros; 9 also returns the number found
pub demand_1_refused : (t : Tables) (c : BoxCall) → (first_that (refusals t c) ≡ 0 → ⊥) → leaves t c ≡ refused_with t c (first_that (refusals t c))
demand_1_refused t c n = first-refused (step t c) n

-- ---- on tables that hold a grid no call answers 3, `new` included: they have the right lengths
no_three : (t : Tables) (c : BoxCall) → Holds t → applies (refusals t c) 3 ≡ false
unfolding refusals
no_three t (new size) h = rw ((sized_says t).no h.sized)
no_three t (insert b d) h = rw ((holds_says t).no h)
no_three t (set_aabb g b) h = rw ((holds_says t).no h, handle_no_three t.nums g)
no_three t (remove g) h = rw ((holds_says t).no h, handle_no_three t.nums g)
no_three t (clear bs os) h = rw ((holds_says t).no h)
no_three t (get g) h = rw ((holds_says t).no h, handle_no_three t.nums g)
no_three t len h = rw ((holds_says t).no h)
no_three t (handles out) h = rw ((holds_says t).no h)
no_three t (query_broad q hs) h = rw ((holds_says t).no h)
no_three t (query q hs bs os) h = rw ((holds_says t).no h)

pub never_three : (t : Tables) (c : BoxCall) → Holds t → (leaves t c).answer ≡ 3 → ⊥
never_three t c h = eqb-false (leaves t c).answer 3 (ap (λ (a : ℕ). eqb a 3) (demand_1_answer t c) ∙ three_first (refusals t c) ∙ no_three t c h)

-- ---- tables built and changed only by these calls always hold a grid and are never refused as not holding one: on tables of any content that
-- `new` accepts, any history of public calls, accepted or refused, in which the grid may be built anew
new_keeps : (t : Tables) (size : ℕ) → Holds t → Holds (new_of t size).after
new_keeps t size h = ⊎_elim (new-holds t size) (λ n. rw (new-refused t size n) h) (d_eq (new_of t size).result 0)

pub keeps_a_grid : (t : Tables) (c : BoxCall) → Holds t → Holds (leaves t c).after
unfolding leaves
keeps_a_grid t (new size) h = new_keeps t size h
keeps_a_grid t (insert b d) h = insert-holds t b d h
keeps_a_grid t (set_aabb g b) h = set-aabb-holds t g b h
keeps_a_grid t (remove g) h = remove-holds t g h
keeps_a_grid t (clear bs os) h = clear-holds t bs os h
keeps_a_grid t (get g) h = h
keeps_a_grid t len h = h
keeps_a_grid t (handles out) h = h
keeps_a_grid t (query_broad q hs) h = h
keeps_a_grid t (query q hs bs os) h = h

all_keep : (t : Tables) (cs : List BoxCall) → Holds t → Holds (after_calls t cs)
unfolding after_calls
all_keep t [] h = h
all_keep t (c ∷ cs) h = all_keep (leaves t c).after cs (keeps_a_grid t c h)

module _ (t : Tables) (size : ℕ) (accepts : (new_of t size).result ≡ 0) (cs : List BoxCall) where
  kept : Holds (after_calls (new_of t size).after cs)
  kept = all_keep (new_of t size).after cs (new-holds t size accepts)

  pub always_a_grid : holds (after_calls (new_of t size).after cs) ≡ true
  always_a_grid = (holds_says (after_calls (new_of t size).after cs)).no kept

  pub never_refused_as_none : (c : BoxCall) → (leaves (after_calls (new_of t size).after cs) c).answer ≡ 3 → ⊥
  never_refused_as_none c = never_three (after_calls (new_of t size).after cs) c kept
