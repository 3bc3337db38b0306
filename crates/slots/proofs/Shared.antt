-- What proofs above share: a slot's test by the bit that was read from the map. Assumes nothing.
use Rattle.basics.specs.Words.{ℕ, ◌≡◌, refl, sym, subst, Bool, true, false, List}
use Rattle.basics.specs.Meaning.Says.{Says}
use Rattle.basics.proofs.laws.Says.{apart}
use Rattle.basics.specs.Meaning.Refusals.{pick}
use Rattle.slots.specs.Meaning.Map.{usable}
use Rattle.slots.proofs.laws.MapLaws.{not_usable}
use Rattle.slots.specs.Meaning.Slot.{SlotHolds}

-- a slot's test by the bit that was read from the map
pub said-slot : (m : List ℕ) (s : ℕ) (b : Bool) (version phase : ℕ) (r : Bool) → Says b (usable m s ≡ 1) → Says r (SlotHolds version phase (pick b 1 0)) → Says r (SlotHolds version phase (usable m s))
said-slot m s b version phase r u h = subst (λ (k : ℕ). Says r (SlotHolds version phase k)) (sym (go b u)) h
  where
    go : (b : Bool) → Says b (usable m s ≡ 1) → usable m s ≡ pick b 1 0
    go true u = u.yes refl
    go false u = not_usable m s (λ e. apart (u.no e))
