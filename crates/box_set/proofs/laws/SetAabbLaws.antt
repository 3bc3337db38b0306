-- `set_aabb`: exactly when each answer is given, what it then leaves, that every handle stays as good as it was, and that tables that hold a
-- grid still do after it. Assumes nothing.
use Rattle.basics.specs.Words.{ℕ, ◌+◌, ◌≤◌, ◌≡◌, refl, ◌∙◌, ap, Bool, true, false, length, T, eqb, arith, leb-true, le-leb, ne_eqb}
use Rattle.basics.specs.Meaning.Says.{Says}
use Rattle.basics.proofs.laws.Says.{says_t, not_said}
use Rattle.basics.specs.Meaning.Refusals.{pick, or_else}
use Rattle.geometry.specs.Meaning.Domain.{aabb_in_domain}
use Rattle.geometry.specs.declared.Aabb.{Aabb}
use Rattle.slots.specs.declared.Handle.{Handle}
use Rattle.slots.specs.Meaning.Slot.{why_not_good}
use Rattle.slots.proofs.laws.HandleLaws.{why_some}
use Rattle.box_tables.specs.Meaning.Tables.{Tables, size_of, used_of, aabb_on, covers}
use Rattle.box_tables.specs.Meaning.Holds.{Holds}
use Rattle.box_tables.specs.Meaning.Decide.{holds, holds_says}
use Rattle.box_tables.specs.Meaning.Outcome.{Outcome, outcome}
use Rattle.box_insert.specs.Meaning.Insert.{few_cells}
use Rattle.box_insert.proofs.laws.InsertLaws.{Few, few_says}
use Rattle.box_insert.proofs.laws.LiveLaws.{live_count}
use Rattle.box_set.specs.Meaning.SetAabb.{cells_stay, box_recorded, box_moved, with_other_box, has_room_for, set_aabb_answer, set_aabb_of}
use Rattle.box_remove.proofs.laws.RemoveLaws.{is_good, Names, names}
use Rattle.box_set.proofs.laws.SetAabbKeeps.{other_box_keeps, other_box_used}

-- the answer by the five tests, and why the handle is not good
abbrev pub answer_by : Bool → Bool → Bool → ℕ → Bool → Bool → ℕ
answer_by held inside named why few room = or_else held 3 (or_else inside 6 (or_else named why (or_else few 7 (or_else room 8 0))))

module _ (t : Tables) (s : ℕ) (b : Aabb) where
  -- entries in use, less the box's old ones, plus its new ones, are within the pool
  abbrev pub RoomFor : Type 0
  RoomFor = used_of t + covers (size_of t) b ≤ length t.pool + covers (size_of t) (aabb_on t s)

  pub room_for_says : Says (has_room_for t s b) RoomFor
  room_for_says = record { yes = leb-true _ _; no = le-leb _ _ }

  -- slots and versions are as they were
  pub other_box_nums : (with_other_box t s b).nums ≡ t.nums
  unfolding with_other_box box_recorded box_moved
  other_box_nums = go (cells_stay (size_of t) (aabb_on t s) b)
    where
      go : (p : Bool) → (pick p (box_recorded t s b) (box_moved t s b)).nums ≡ t.nums
      go true = refl
      go false = refl

module _ (t : Tables) (h : Handle) (b : Aabb) where
  -- the outcome by the tests
  abbrev set_by : Bool → Bool → Bool → Bool → Bool → Outcome ℕ
  set_by a i g f r =
      let answer = answer_by a i g (why_not_good t.nums h) f r in
      pick (eqb answer 0) (outcome 0 (with_other_box t h.slot b)) (outcome answer t)

  by_tests_lem : set_aabb_of t h b ≡ set_by (holds t) (aabb_in_domain b) (is_good t h) (few_cells (size_of t) b) (has_room_for t h.slot b)
  unfolding set_aabb_of set_aabb_answer
  by_tests_lem = refl

  -- ---- exactly when each answer is given
  pub set-done : Holds t → T (aabb_in_domain b) → is_good t h ≡ true → Few t b → RoomFor t h.slot b → set_aabb_of t h b ≡ outcome 0 (with_other_box t h.slot b)
  set-done k i g f r = by_tests_lem ∙ rw ((holds_says t).no k, (says_t (aabb_in_domain b)).no i, g, (few_says t b).no f, (room_for_says t h.slot b).no r)

  -- entries in use, less the box's old ones, plus its new ones, exceed the pool
  pub set_crowded : Holds t → T (aabb_in_domain b) → is_good t h ≡ true → Few t b → (RoomFor t h.slot b → ⊥) → set_aabb_of t h b ≡ outcome 8 t
  set_crowded k i g f r = by_tests_lem ∙ rw ((holds_says t).no k, (says_t (aabb_in_domain b)).no i, g, (few_says t b).no f, not_said (room_for_says t h.slot b) r)

  -- ---- accepted or not: what holds of both holds of the outcome
  pub set_cases : (P : Outcome ℕ → Type 0) → (T (aabb_in_domain b) → Names t h → Few t b → RoomFor t h.slot b → P (outcome 0 (with_other_box t h.slot b))) → ((a : ℕ) → (a ≡ 0 → ⊥) → P (outcome a t)) → P (set_aabb_of t h b)
  set_cases P accept refuse =
      rw by_tests_lem (go (holds t) (aabb_in_domain b) (is_good t h) (few_cells (size_of t) b) (has_room_for t h.slot b) (says_t (aabb_in_domain b)).yes (names t h) (few_says t b).yes (room_for_says t h.slot b).yes)
    where
      go : (a i g f r : Bool) → (i ≡ true → T (aabb_in_domain b)) → (g ≡ true → Names t h) → (f ≡ true → Few t b) → (r ≡ true → RoomFor t h.slot b) → P (set_by a i g f r)
      go false i g f r ei eg ef er = refuse 3 (λ e. omega arith)
      go true false g f r ei eg ef er = refuse 6 (λ e. omega arith)
      go true true false f r ei eg ef er =
          let z = why_some t.nums h in
          rw (ne_eqb (why_not_good t.nums h) 0 z) (refuse (why_not_good t.nums h) z)
      go true true true false r ei eg ef er = refuse 7 (λ e. omega arith)
      go true true true true false ei eg ef er = refuse 8 (λ e. omega arith)
      go true true true true true ei eg ef er = accept (ei refl) (eg refl) (ef refl) (er refl)

  -- tables that hold a grid still do
  pub set-aabb-holds : Holds t → Holds (set_aabb_of t h b).after
  set-aabb-holds k = set_cases (λ o. Holds o.after) (λ i g f r. other_box_keeps t k h.slot g.inside g.occupied b i f r) (λ a z. k)

  -- no slot comes alive, none is emptied, and every handle is as good as before
  pub set-nums : (set_aabb_of t h b).after.nums ≡ t.nums
  set-nums = set_cases (λ o. o.after.nums ≡ t.nums) (λ i g f r. other_box_nums t h.slot b) (λ a z. refl)

  pub set-live : live_count (set_aabb_of t h b).after ≡ live_count t
  unfolding live_count
  set-live = rw set-nums

  -- entries in use, less the box's old ones, plus its new ones
  pub set-count : (k : Holds t) → T (aabb_in_domain b) → (g : is_good t h ≡ true) → Few t b → RoomFor t h.slot b → used_of (set_aabb_of t h b).after + covers (size_of t) (aabb_on t h.slot) ≡ used_of t + covers (size_of t) b
  set-count k i g f r = let n = names t h g in rw (ap (λ (o : Outcome ℕ). o.after) (set-done k i g f r)) (other_box_used t k h.slot n.inside n.occupied b)
