-- Handles: when one is good, and that none is good once its slot is emptied. Assumes nothing.
use Rattle.basics.specs.Words.{ℕ, ◌+◌, ◌<◌, ◌≡◌, refl, Bool, true, false, ◌&&◌, ◌||◌, List, [], length, get_or, set, length-set, get_or-set_same, eqb, ltb, arith}
use Rattle.basics.specs.Words.{ltb-true, eqb-true, lt-ltb, eq-eqb}
use Rattle.basics.specs.Meaning.Says.{Says}
use Rattle.basics.proofs.laws.Says.{apart, both_true}
use Rattle.basics.specs.Meaning.Refusals.{or_else, pick}
use Rattle.slots.specs.declared.Handle.{Handle}
use Rattle.slots.specs.Meaning.Slot.{free, live, retired, last_version, version_at, phase_at, good, gone, why_not_good, handle_refusal, next_version, emptied_row}
use Rattle.slots.specs.Meaning.Slot.{emptied_nums}

-- a handle is good exactly when its slot is one of the table's, is occupied and at that version
pub good_says : (nums : List (List ℕ)) (slot version : ℕ) → Says (good nums slot version) ((slot < length nums) × (phase_at nums slot ≡ live) × (version_at nums slot ≡ version))
unfolding good
good_says nums slot version =
    let a = ltb slot (length nums) in
    let b = eqb (phase_at nums slot) live in
    let c = eqb (version_at nums slot) version in
    record {
      yes = λ e.
          let (p, r) = both_true a (b && c) e in
          let (q, v) = both_true b c r in
          (ltb-true slot (length nums) p, eqb-true (phase_at nums slot) live q, eqb-true (version_at nums slot) version v);
      no = λ h. rw (lt-ltb slot (length nums) h.0, eq-eqb (phase_at nums slot) live h.1, eq-eqb (version_at nums slot) version h.2);
    }

-- why a handle that is not good is refused is 11 or 12, so it is no 0 and no 3
pub by_why : (P : ℕ → Type 0) → P 11 → P 12 → (nums : List (List ℕ)) (h : Handle) → P (why_not_good nums h)
by_why P a b nums h = go (gone nums h.slot h.version)
  where
    go : (g : Bool) → P (pick g 12 11)
    go true = b
    go false = a

pub why_some : (nums : List (List ℕ)) (h : Handle) → why_not_good nums h ≡ 0 → ⊥
why_some = by_why (λ (n : ℕ). n ≡ 0 → ⊥) (λ e. omega arith) (λ e. omega arith)

pub why_not_three : (nums : List (List ℕ)) (h : Handle) → why_not_good nums h ≡ 3 → ⊥
why_not_three = by_why (λ (n : ℕ). n ≡ 3 → ⊥) (λ e. omega arith) (λ e. omega arith)

-- a handle that is good or gone does not get 11
pub issued_no_11 : (nums : List (List ℕ)) (h : Handle) → (good nums h.slot h.version || gone nums h.slot h.version) ≡ true → handle_refusal nums h ≡ 11 → ⊥
issued_no_11 nums h = go (good nums h.slot h.version) (gone nums h.slot h.version)
  where
    go : (a b : Bool) → (a || b) ≡ true → or_else a (pick b 12 11) 0 ≡ 11 → ⊥
    go true b i e = omega arith
    go false true i e = omega arith
    go false false i e = apart i

-- a handle that is not refused is good
pub not_refused : (nums : List (List ℕ)) (h : Handle) → handle_refusal nums h ≡ 0 → good nums h.slot h.version ≡ true
not_refused nums h = go (good nums h.slot h.version)
  where
    go : (b : Bool) → or_else b (why_not_good nums h) 0 ≡ 0 → b ≡ true
    go true e = refl
    go false e = absurd (why_some nums h e)

-- a handle that is refused is not good
pub not_good : (nums : List (List ℕ)) (h : Handle) (a : ℕ) → a ≡ handle_refusal nums h → (a ≡ 0 → ⊥) → good nums h.slot h.version ≡ false
not_good nums h a e n = go (good nums h.slot h.version) e
  where
    go : (b : Bool) → a ≡ or_else b (why_not_good nums h) 0 → b ≡ false
    go true q = absurd (n q)
    go false q = refl

-- ---- emptying
pub emptied_not_good : (nums : List (List ℕ)) (s v : ℕ) → good (emptied_nums nums s) s v ≡ false
unfolding good emptied_nums
emptied_not_good nums s v =
    rw (length-set nums s (emptied_row (get_or nums s []))) (go (ltb s (length nums)) refl)
  where
    no_phase : (b c : Bool) → (eqb (pick b retired free) live && c) ≡ false
    no_phase true c = refl
    no_phase false c = refl

    go : (b : Bool) → ltb s (length nums) ≡ b → (b && (eqb (phase_at (set nums s (emptied_row (get_or nums s []))) s) live && eqb (version_at (set nums s (emptied_row (get_or nums s []))) s) v)) ≡ false
    go false e = refl
    go true e = rw (get_or-set_same nums s (emptied_row (get_or nums s [])) [] (ltb-true s (length nums) e)) (no_phase (eqb (version_at nums s) last_version) (eqb (next_version (version_at nums s)) v))

-- an emptied slot that can be used again is at the next version
pub emptied_version : (nums : List (List ℕ)) (s : ℕ) → s < length nums → phase_at (emptied_nums nums s) s ≡ free → version_at (emptied_nums nums s) s ≡ version_at nums s + 1
unfolding emptied_nums
emptied_version nums s i = rw (get_or-set_same nums s (emptied_row (get_or nums s [])) [] i) (go (eqb (version_at nums s) last_version))
  where
    go : (b : Bool) → pick b retired free ≡ free → pick b last_version (version_at nums s + 1) ≡ version_at nums s + 1
    go true e = absurd (omega arith)
    go false e = refl
