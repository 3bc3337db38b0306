-- The pass looks at the records and the slot map alone: the pool, its positions and the cell table may be any. Assumes nothing.
use Rattle.basics.specs.Words.{ℕ, zero, suc, ◌≡◌, refl, sym, ◌∙◌, ap, Bool, List, ◌++◌}
use Rattle.storage.specs.Meaning.Entries.{Entry}
use Rattle.storage.proofs.laws.FilterLaws.{by_test}
use Rattle.point_tables.specs.Meaning.Tables.{Tables, slots_of}
use Rattle.point_tables.specs.Meaning.Holds.{Holds}
use Rattle.point_tables.specs.Inner.Count.{is_live}
use Rattle.point_maintain.specs.Meaning.Walk.{settled}
use Rattle.point_maintain.specs.Inner.Settle.{settled_in, settled_all}
use Rattle.point_maintain.proofs.laws.SettleForm.{settled_form}
use Rattle.point_maintain.specs.Inner.Closed.{relocated_at, relocated_below}
use Rattle.point_maintain_slots.proofs.laws.Pass.{bare}
use Rattle.point_maintain_slots.specs.Inner.Pass.{Ready}

module _ (t : Tables) where
  pub settled_bare : (s : ℕ) → settled (bare t) s ≡ bare (settled t s)
  settled_bare s = settled_form (bare t) s ∙ sym (ap bare (settled_form t s))

  pub below_bare : (n : ℕ) → relocated_below n (bare t) ≡ relocated_below n t
  unfolding relocated_below
  below_bare zero = refl
  below_bare (suc n) = ap (λ (l : List Entry). l ++ relocated_at t n) (below_bare n)

pub in_bare : (test : ℕ → Bool) (t : Tables) (n : ℕ) → settled_in test n (bare t) ≡ bare (settled_in test n t)
unfolding settled_in
in_bare test t zero = refl
in_bare test t (suc n) =
    by_test (test n)
    (λ e. rw (e, in_bare test t n) (settled_bare (settled_in test n t) n))
    (λ e. rw e (in_bare test t n))

pub all_bare : (t : Tables) → settled_all (bare t) ≡ bare (settled_all t)
unfolding settled_all
all_bare t = in_bare (is_live t) t (slots_of t)

-- tables that hold a grid are ready for the pass
pub holds_ready : (t : Tables) → Holds t → Ready (bare t)
holds_ready t h =
    record {
      shaped = record { of_reals = h.sized.of_reals; of_ints = h.sized.of_ints; of_map = h.sized.of_map };
      agrees = λ s l p. (h.records s l p).occupied.agrees;
    }
