-- Slots that are all free hold; none is occupied, and every one is usable. Assumes nothing.
use Rattle.basics.specs.Words.{ℕ, ◌+◌, ◌≤◌, ◌<◌, ◌≡◌, refl, [], ◌∷◌, length, get_or, length-replicate, get_or-replicate, leb, arith, leb-true, le-leb}
use Rattle.basics.specs.Meaning.Says.{Says}
use Rattle.basics.proofs.laws.Says.{both_true}
use Rattle.cells.specs.Meaning.Size.{SizeInDomain}
use Rattle.slots.specs.Meaning.Map.{head, words_for, usable}
use Rattle.slots.specs.Meaning.Slot.{free, live, version_at, phase_at, SlotHolds, SlotsHold}
use Rattle.blank.specs.Meaning.Blank.{blank_nums, blank_map, size_ok}
use Rattle.blank.proofs.laws.FreeWordLaws.{free-length, free-usable, free-past}

module _ (n size : ℕ) where
  -- every slot is usable, and nothing else
  pub blank-usable : (s : ℕ) → s < n → usable (blank_map n size) s ≡ 1
  blank-usable s h = free-usable size 0 0 n s h

  pub blank-past : (s : ℕ) → n ≤ s → usable (blank_map n size) s ≡ 0
  blank-past s h = free-past size 0 0 n s h

  pub blank-length : length (blank_map n size) ≡ head + words_for n
  blank-length = omega (arith, free-length (words_for n) n)

  pub blank-row : (s : ℕ) → s < n → get_or (blank_nums n) s [] ≡ 1 ∷ free ∷ 0 ∷ 0 ∷ []
  blank-row s h = get_or-replicate n s (1 ∷ free ∷ 0 ∷ 0 ∷ []) [] h

  pub blank-slots : length (blank_nums n) ≡ n
  blank-slots = length-replicate n (1 ∷ free ∷ 0 ∷ 0 ∷ [])

  pub blank-holds : SlotsHold (blank_nums n) (blank_map n size)
  blank-holds =
      record {
        each = λ s h. one s (rw blank-slots at h);
        past = λ s l h. blank-past s (rw blank-slots at h);
      }
    where
      one : (s : ℕ) → s < n → SlotHolds (version_at (blank_nums n) s) (phase_at (blank_nums n) s) (usable (blank_map n size) s)
      one s h =
          rw (blank-row s h, blank-usable s h)
          (record { versioned = λ e. omega arith; phased = omega arith; spent = λ e. absurd (omega arith); in_map = refl })

  -- no slot is occupied
  pub blank_not_live : (s : ℕ) → s < length (blank_nums n) → phase_at (blank_nums n) s ≡ live → ⊥
  blank_not_live s h e = omega (arith, rw (blank-row s (rw blank-slots at h)) at e)

-- ---- the tests of building
pub size_says : (size : ℕ) → Says (size_ok size) (SizeInDomain size)
size_says size =
    record {
      yes = λ e. let b = both_true (leb 1 size) (leb size 1048576) e in (leb-true 1 size b.0, leb-true size 1048576 b.1);
      no = λ d. rw (le-leb 1 size d.0, le-leb size 1048576 d.1);
    }
