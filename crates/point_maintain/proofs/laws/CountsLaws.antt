-- The counts that maintain returns, and the length law: the objects left and the objects removed are the objects before. Assumes nothing.
use Rattle.basics.specs.Words.{ℕ, zero, suc, ◌+◌, ◌<◌, ◌≡◌, refl, sym, ◌∙◌, ap, ap₂, Bool, true, false, not, arith, eqb-true}
use Rattle.basics.specs.Inner.Counting.{one, count_below}
use Rattle.basics.specs.Meaning.Refusals.{pick}
use Rattle.storage.proofs.laws.FilterLaws.{by_test}
use Rattle.point_records.specs.declared.Record.{Record}
use Rattle.point_records.specs.declared.State.TheVariants.{Unchanged}
use Rattle.point_records.specs.Meaning.States.{is_removed}
use Rattle.point_tables.specs.Meaning.Tables.{Tables, used_of, slots_of, record_on}
use Rattle.point_tables.specs.Meaning.Holds.{Holds}
use Rattle.point_tables.specs.Inner.Count.{is_live}
use Rattle.point_tables.proofs.laws.CountLaws.{live-count}
use Rattle.point_maintain.specs.Meaning.Maintain.{count_records, count_states, maintained}
use Rattle.point_maintain.specs.Meaning.Moved.{has_moved}
use Rattle.point_maintain.proofs.laws.MaintainedLaws.{maintained-slots, maintained-live, all_calm}
use Rattle.point_maintain.proofs.laws.MaintainKeeps.{maintained_keeps}

-- the objects whose record passes
pub count-records : (test : Record → Bool) (t : Tables) (n : ℕ) → count_records test t n ≡ count_below (λ i. pick (is_live t i) (test (record_on t i)) false) n
unfolding count_below
count-records test t zero = refl
count-records test t (suc n) = ap₂ ◌+◌ (count-records test t n) (by_test (is_live t n) (λ e. rw e) (λ e. rw e))

-- those that are left, and those that are removed
counts-add : (left all : ℕ → Bool) (gone : ℕ → Bool) (n : ℕ) → ((i : ℕ) → i < n → one (left i) + one (gone i) ≡ one (all i)) → count_below left n + count_below gone n ≡ count_below all n
unfolding count_below
counts-add left all gone zero f = refl
counts-add left all gone (suc n) f = omega (arith, counts-add left all gone n (λ i l. f i (omega arith)), f n (omega arith))

none_below : (test : ℕ → Bool) (n : ℕ) → ((i : ℕ) → i < n → test i ≡ false) → count_below test n ≡ 0
unfolding count_below
none_below test zero f = refl
none_below test (suc n) f = omega (arith, none_below test n (λ i l. f i (omega arith)), ap one (f n (omega arith)))

module _ (t : Tables) (h : Holds t) where
  split_live : (i : ℕ) → i < slots_of t → one (is_live (maintained t) i) + one (pick (is_live t i) (is_removed (record_on t i).state) false) ≡ one (is_live t i)
  split_live i l = rw (maintained-live t h i l) (go (is_live t i) (is_removed (record_on t i).state))
    where
      go : (a b : Bool) → one (pick a (not b) false) + one (pick a b false) ≡ one a
      go true true = refl
      go true false = refl
      go false b = refl

  -- the length law
  pub maintained-count : used_of (maintained t) + count_states is_removed t (slots_of t) ≡ used_of t
  maintained-count =
      let after : count_below (is_live (maintained t)) (slots_of t) ≡ used_of (maintained t) =
      ap (count_below (is_live (maintained t))) (sym (maintained-slots t h)) ∙ live-count (maintained t) (maintained_keeps t h) in
      rw (← after, count-records (λ r. is_removed r.state) t (slots_of t))
      (counts-add (is_live (maintained t)) (is_live t) (λ i. pick (is_live t i) (is_removed (record_on t i).state) false) (slots_of t) split_live
      ∙ live-count t h)

  -- after it there is nothing to be counted
  pub nothing_left : (test : Record → Bool) → ((r : Record) → r.state ≡ Unchanged → test r ≡ false) → count_records test (maintained t) (slots_of t) ≡ 0
  nothing_left test n = count-records test (maintained t) (slots_of t) ∙ none_below (λ i. pick (is_live (maintained t) i) (test (record_on (maintained t) i)) false) (slots_of t) unpassed
    where
      unpassed : (i : ℕ) → i < slots_of t → pick (is_live (maintained t) i) (test (record_on (maintained t) i)) false ≡ false
      unpassed i l =
          by_test (is_live (maintained t) i)
          (λ e. rw e (n (record_on (maintained t) i) (all_calm t h i l (eqb-true _ _ e))))
          (λ e. rw e)

  pub counts-after : (count_records has_moved (maintained t) (slots_of t) ≡ 0) × (count_states is_removed (maintained t) (slots_of t) ≡ 0)
  counts-after = (nothing_left has_moved (λ r e. rw e), nothing_left (λ r. is_removed r.state) (λ r e. rw e))
