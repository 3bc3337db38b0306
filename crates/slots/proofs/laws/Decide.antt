-- Whether a slot, and the slots, hold can be decided. Assumes nothing.
use Rattle.basics.specs.Words.{ℕ, ◌*◌, List, length, eqb}
use Rattle.basics.specs.Meaning.Says.{Decided}
use Rattle.basics.proofs.laws.Says.{d_via, d_and, d_imp, d_none, d_eq, d_le, d_all}
use Rattle.basics.specs.Meaning.Refusals.{pick}
use Rattle.slots.specs.Meaning.Map.{words_for, usable}
use Rattle.slots.specs.Meaning.Slot.{free, retired, last_version, version_at, phase_at, SlotHolds, SlotsHold}

pub d_slot : (version phase mapped : ℕ) → Decided (SlotHolds version phase mapped)
d_slot version phase mapped =
    d_via
    (λ x. record { versioned = x.0; phased = x.1.0; spent = x.1.1.0; in_map = x.1.1.1 })
    (λ h. (h.versioned, (h.phased, (h.spent, h.in_map))))
    (d_and (d_imp (d_eq version 0) d_none) (d_and (d_le phase retired) (d_and (d_imp (d_eq phase retired) (d_eq version last_version)) (d_eq mapped (pick (eqb phase free) 1 0)))))

pub d_slots : (nums : List (List ℕ)) (map : List ℕ) → Decided (SlotsHold nums map)
d_slots nums map =
    d_via
    (λ x. record { each = x.0; past = x.1 })
    (λ h. (h.each, h.past))
    (d_and (d_all (λ s. d_slot (version_at nums s) (phase_at nums s) (usable map s)) (length nums)) (d_all (λ s. d_imp (d_le (length nums) s) (d_eq (usable map s) 0)) (words_for (length nums) * 64)))
