-- A slot's version and phase, which stand first in its row of numbers, and when a handle is good, gone or never issued. Assumes nothing.
use Rattle.std.specs.Prelude.{◌+◌, ◌*◌, ◌≤◌, ◌<◌, ◌≡◌, ◌&&◌, ◌||◌, ◌∷◌}
use Rattle.basics.specs.Words.{ℕ, Bool, not, List, [], length, get_or, set, drop, eqb, leb, ltb}
use Rattle.basics.specs.Meaning.Refusals.{Refusal, unless, first_of, pick}
use Rattle.slots.specs.declared.Handle.{Handle}
use Rattle.slots.specs.Meaning.Map.{words_for, usable, given_back}

-- the phases: 0 free, 1 live, 2 retired
abbrev pub free : ℕ
free = 0

abbrev pub live : ℕ
live = 1

abbrev pub retired : ℕ
retired = 2

abbrev pub last_version : ℕ
last_version = 4294967295

abbrev pub version_at : List (List ℕ) → ℕ → ℕ
version_at nums s = get_or (get_or nums s []) 0 0

abbrev pub phase_at : List (List ℕ) → ℕ → ℕ
phase_at nums s = get_or (get_or nums s []) 1 0

-- a handle is good exactly when its slot is occupied at that version
unfoldable pub good : List (List ℕ) → ℕ → ℕ → Bool
good nums slot version = ltb slot (length nums) && (eqb (phase_at nums slot) live && eqb (version_at nums slot) version)

-- it is gone: its slot exists, and its version is at least 1 and below the slot's, or the slot is retired and at that version
unfoldable pub gone : List (List ℕ) → ℕ → ℕ → Bool
gone nums slot version =
    ltb slot (length nums)
    && ((leb 1 version && ltb version (version_at nums slot)) || (eqb (phase_at nums slot) retired && eqb (version_at nums slot) version))

-- every other handle that is not good was never issued
abbrev pub never_issued : List (List ℕ) → ℕ → ℕ → Bool
never_issued nums slot version = not (good nums slot version) && not (gone nums slot version)

-- ---- why a handle that is not good is refused: 12, it is gone; 11, it was never issued
abbrev pub why_not_good : List (List ℕ) → Handle → ℕ
why_not_good nums h = pick (gone nums h.slot h.version) 12 11

-- every call that takes a handle has this test in its place
abbrev pub handle_test : List (List ℕ) → Handle → Refusal
handle_test nums h = unless (good nums h.slot h.version) (why_not_good nums h)

-- 0, or why it is refused
abbrev pub handle_refusal : List (List ℕ) → Handle → ℕ
handle_refusal nums h = first_of (handle_test nums h ∷ [])

-- ---- emptying: the version rises by one; a slot emptied at the last version keeps it and is retired
abbrev pub next_version : ℕ → ℕ
next_version v = pick (eqb v last_version) last_version (v + 1)

abbrev pub next_phase : ℕ → ℕ
next_phase v = pick (eqb v last_version) retired free

-- the row of a slot that is emptied: the numbers behind version and phase stay
abbrev pub emptied_row : List ℕ → List ℕ
emptied_row row = next_version (get_or row 0 0) ∷ next_phase (get_or row 0 0) ∷ drop 2 row

unfoldable pub emptied_nums : List (List ℕ) → ℕ → List (List ℕ)
emptied_nums nums s = set nums s (emptied_row (get_or nums s []))

-- the map after slot s is emptied: usable again, unless it is retired
unfoldable pub emptied_map : List (List ℕ) → List ℕ → ℕ → List ℕ
emptied_map nums map s = pick (eqb (version_at nums s) last_version) map (given_back map s)

-- ---- one slot holds: no version is 0, a retired slot is at the last version, and the map has the free slots alone
pub record SlotHolds (version phase mapped : ℕ) : Type 0 where
  pub versioned : version ≡ 0 → ⊥
  pub phased : phase ≤ retired
  pub spent : phase ≡ retired → version ≡ last_version
  pub in_map : mapped ≡ pick (eqb phase free) 1 0

-- the slots of n rows hold, and no bit past the last slot is set
pub record SlotsHold (nums : List (List ℕ)) (map : List ℕ) : Type 0 where
  pub each : (s : ℕ) → s < length nums → SlotHolds (version_at nums s) (phase_at nums s) (usable map s)
  pub past : (s : ℕ) → s < words_for (length nums) * 64 → length nums ≤ s → usable map s ≡ 0
