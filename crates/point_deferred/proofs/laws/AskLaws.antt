-- A call does not look at the number of its kind but for whether it is 0, nor a removal at its position. Assumes nothing.
use Rattle.basics.specs.Words.{ℕ, ◌≡◌, refl, Bool, true, false, eqb}
use Rattle.geometry.specs.declared.Position.{Position}
use Rattle.slots.specs.declared.Handle.{Handle}
use Rattle.point_tables.specs.Meaning.Tables.{Tables}
use Rattle.point_deferred.specs.Inner.Ask.{call_for, ask_of}
use Rattle.point_deferred.specs.Inner.Held.{call, worked, held_of, unmarked_of}

module _ (t : Tables) (kind : ℕ) (h : Handle) (at : Position) (k : ℕ) where
  pub held_alike : held_of t (call_for (ask_of kind at) h k) ≡ held_of t (call kind h at k)
  unfolding held_of worked
  held_alike = go (eqb kind 0) refl
    where
      go : (b : Bool) → eqb kind 0 ≡ b → held_of t (call_for (ask_of kind at) h k) ≡ held_of t (call kind h at k)
      go true e = rw e
      go false e = rw e

  pub unmarked_alike : unmarked_of t (call_for (ask_of kind at) h k) ≡ unmarked_of t (call kind h at k)
  unfolding unmarked_of
  unmarked_alike = go (eqb kind 0) refl
    where
      go : (b : Bool) → eqb kind 0 ≡ b → unmarked_of t (call_for (ask_of kind at) h k) ≡ unmarked_of t (call kind h at k)
      go true e = rw e
      go false e = rw e
