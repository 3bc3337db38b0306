-- Slots go onward: no version falls, and no phase goes back while the version stays. So a handle that is gone stays gone, and one that was
-- good is good or gone from then on. Assumes nothing.
use Rattle.basics.specs.Words.{ℕ, ◌+◌, ◌≤◌, ◌<◌, ◌≡◌, refl, sym, ◌∙◌, Bool, true, false, ◌||◌, List, [], ◌⊎◌, inl, inr, ⊎_elim, length, get_or, set, length-set}
use Rattle.basics.specs.Words.{get_or-set_same, get_or-set_other, eqb, arith, eqb-true}
use Rattle.basics.specs.Meaning.Says.{Decided}
use Rattle.basics.specs.Meaning.Refusals.{pick}
use Rattle.basics.proofs.laws.Says.{says_or, or_true, d_eq}
use Rattle.slots.specs.Meaning.Slot.{free, live, retired, last_version, version_at, phase_at, good, gone, next_version, next_phase, emptied_row, emptied_nums}
use Rattle.slots.specs.Meaning.Slot.{SlotsHold}
use Rattle.slots.proofs.laws.HandleLaws.{good_says}
use Rattle.slots.proofs.laws.GoneLaws.{gone_says}

-- ---- one slot: its version rises, or stays while its phase stays or goes on, from free to live, or to retired
abbrev pub Later : ℕ → ℕ → ℕ → ℕ → Type 0
Later v p w q = (v < w) ⊎ ((v ≡ w) × (q < retired → p ≤ q))

pub record Onward (nums after : List (List ℕ)) : Type 0 where
  pub as_long : length after ≡ length nums
  pub each : (s : ℕ) → s < length nums → Later (version_at nums s) (phase_at nums s) (version_at after s) (phase_at after s)

pub onward-none : (nums : List (List ℕ)) → Onward nums nums
onward-none nums = record { as_long = refl; each = λ s l. inr (refl, λ k. omega arith) }

pub later_then : {v p w q x r : ℕ} → Later v p w q → Later w q x r → Later v p x r
later_then (inl a) (inl b) = inl (omega arith)
later_then (inl a) (inr b) = inl (omega (arith, b.0))
later_then (inr a) (inl b) = inl (omega (arith, a.0))
later_then (inr a) (inr b) = inr (a.0 ∙ b.0, λ l. let m = b.1 l in omega (arith, m, a.1 (omega arith)))

pub onward_then : {a b c : List (List ℕ)} → Onward a b → Onward b c → Onward a c
onward_then f g =
    record { as_long = g.as_long ∙ f.as_long; each = λ s l. later_then (f.each s l) (g.each s (omega (arith, f.as_long))) }

-- another row for slot s, if there is such a slot
pub onward-row : (nums : List (List ℕ)) (s : ℕ) (row : List ℕ) → Later (version_at nums s) (phase_at nums s) (get_or row 0 0) (get_or row 1 0) → Onward nums (set nums s row)
onward-row nums s row k = record { as_long = length-set nums s row; each = λ t l. ⊎_elim (same t l) (other t) (d_eq t s) }
  where
    same : (t : ℕ) → t < length nums → t ≡ s → Later (version_at nums t) (phase_at nums t) (version_at (set nums s row) t) (phase_at (set nums s row) t)
    same t l e = rw (e, get_or-set_same nums s row [] (omega arith)) k

    other : (t : ℕ) → (t ≡ s → ⊥) → Later (version_at nums t) (phase_at nums t) (version_at (set nums s row) t) (phase_at (set nums s row) t)
    other t n = rw (get_or-set_other nums s t row [] n) (inr (refl, λ k. omega arith))

pub later_emptied : (v p : ℕ) → Later v p (next_version v) (next_phase v)
later_emptied v p = go (eqb v last_version) refl
  where
    go : (b : Bool) → eqb v last_version ≡ b → Later v p (pick b last_version (v + 1)) (pick b retired free)
    go true e = inr (eqb-true v last_version e, λ k. omega arith)
    go false e = inl (omega arith)

pub onward-emptied : (nums : List (List ℕ)) (s : ℕ) → Onward nums (emptied_nums nums s)
unfolding emptied_nums
onward-emptied nums s = onward-row nums s (emptied_row (get_or nums s [])) (later_emptied (version_at nums s) (phase_at nums s))

-- a row with the same version and the same phase
pub onward-same : (nums : List (List ℕ)) (s : ℕ) (row : List ℕ) → get_or row 0 0 ≡ version_at nums s → get_or row 1 0 ≡ phase_at nums s → Onward nums (set nums s row)
onward-same nums s row e f = onward-row nums s row (inr (sym e, λ k. omega (arith, f)))

-- a free slot that is taken at its version
pub onward-taken : (nums : List (List ℕ)) (s : ℕ) (row : List ℕ) → phase_at nums s ≡ free → get_or row 0 0 ≡ version_at nums s → Onward nums (set nums s row)
onward-taken nums s row p e = onward-row nums s row (inr (sym e, λ k. omega (arith, p)))

-- ---- what handles become: one that is gone stays gone, and one that is good stays good or is gone
pub record Lasting (nums after : List (List ℕ)) : Type 0 where
  pub gone-stays : (s v : ℕ) → gone nums s v ≡ true → gone after s v ≡ true
  pub good_or_gone : (s v : ℕ) → good nums s v ≡ true → (good after s v || gone after s v) ≡ true

pub lasting_none : (nums : List (List ℕ)) → Lasting nums nums
lasting_none nums = record { gone-stays = λ s v e. e; good_or_gone = λ s v e. rw e }

pub lasting_then : {a b c : List (List ℕ)} → Lasting a b → Lasting b c → Lasting a c
lasting_then {a} {b} {c} f g =
    record { gone-stays = λ s v e. g.gone-stays s v (f.gone-stays s v e); good_or_gone = λ s v e. go s v (good b s v) refl (f.good_or_gone s v e) }
  where
    go : (s v : ℕ) (x : Bool) → good b s v ≡ x → (x || gone b s v) ≡ true → (good c s v || gone c s v) ≡ true
    go s v true e i = g.good_or_gone s v e
    go s v false e i = or_true (good c s v) (g.gone-stays s v i)

-- on slots that hold before and after
module _ {nums after : List (List ℕ)} {map then : List ℕ} (o : Onward nums after) (h : SlotsHold nums map) (k : SlotsHold after then) where
  inside : (s : ℕ) → s < length nums → s < length after
  inside s l = rw o.as_long l

  -- a slot that is not below retired is retired
  last : (s : ℕ) → s < length nums → (phase_at after s < retired → ⊥) → phase_at after s ≡ retired
  last s l n = omega (arith, (k.each s (inside s l)).phased, n)

  stays-gone : (s v : ℕ) → gone nums s v ≡ true → gone after s v ≡ true
  stays-gone s v e =
      let (l, x) = (gone_says nums s v).yes e in
      (gone_says after s v).no (inside s l, go l x (o.each s l))
    where
      go : s < length nums → ((1 ≤ v) × (v < version_at nums s)) ⊎ ((phase_at nums s ≡ retired) × (version_at nums s ≡ v)) → Later (version_at nums s) (phase_at nums s) (version_at after s) (phase_at after s)
          → ((1 ≤ v) × (v < version_at after s)) ⊎ ((phase_at after s ≡ retired) × (version_at after s ≡ v))
      go l (inl x) (inl y) = inl (x.0, omega (arith, x.1))
      go l (inl x) (inr y) = inl (x.0, omega (arith, x.1, y.0))
      go l (inr x) (inl y) = inl (omega (arith, x.1, (h.each s l).versioned), omega (arith, x.1))
      go l (inr x) (inr y) = inr (last s l (λ p. omega (arith, y.1 p, x.0)), sym y.0 ∙ x.1)

  good_or_not : (s v : ℕ) → good nums s v ≡ true → (good after s v || gone after s v) ≡ true
  good_or_not s v e =
      let (l, p, q) = (good_says nums s v).yes e in
      (says_or (good after s v) (gone after s v) (good_says after s v) (gone_says after s v)).no (go l p q (o.each s l) (d_eq (phase_at after s) live))
    where
      go : s < length nums → phase_at nums s ≡ live → version_at nums s ≡ v → Later (version_at nums s) (phase_at nums s) (version_at after s) (phase_at after s)
          → Decided (phase_at after s ≡ live)
          → ((s < length after) × (phase_at after s ≡ live) × (version_at after s ≡ v)) ⊎ ((s < length after) × (((1 ≤ v) × (v < version_at after s)) ⊎ ((phase_at after s ≡ retired) × (version_at after s ≡ v))))
      go l p q (inl y) d = inr (inside s l, inl (omega (arith, q, (h.each s l).versioned), omega (arith, q)))
      go l p q (inr y) (inl z) = inl (inside s l, z, sym y.0 ∙ q)
      go l p q (inr y) (inr n) = inr (inside s l, inr (last s l (λ m. n (omega (arith, y.1 m, p, m))), sym y.0 ∙ q))

  pub onward_lasting : Lasting nums after
  onward_lasting = record { gone-stays = stays-gone; good_or_gone = good_or_not }
