-- Handles that are gone: when one is, that every handle is good, gone or never issued, and that a good one is gone once its slot is emptied.
-- Assumes nothing.
use Rattle.basics.specs.Words.{ℕ, ◌+◌, ◌≤◌, ◌<◌, ◌≡◌, refl, sym, ◌∙◌, Bool, true, false, not, ◌&&◌, List, ◌⊎◌, inl, inr, ⊎_elim, length, eqb, leb, ltb, arith}
use Rattle.basics.specs.Words.{eqb-true}
use Rattle.basics.specs.Inner.Counting.{one}
use Rattle.basics.specs.Meaning.Says.{Says}
use Rattle.basics.specs.Meaning.Refusals.{pick}
use Rattle.basics.proofs.laws.Says.{apart, untrue, both_true, says_and, says_or, eqb_says, leb_says, ltb_says, not_said, d_eq, d_lt}
use Rattle.slots.specs.Meaning.Slot.{free, live, retired, last_version, version_at, phase_at, good, gone, never_issued, next_version, next_phase, emptied_nums}
use Rattle.slots.proofs.laws.HandleLaws.{good_says}
use Rattle.slots.proofs.laws.EmptyLaws.{emptied-length, emptied-same}

-- a handle is gone exactly when its slot is one of the table's, and its version is one that the slot had, or that it is retired at
pub gone_says : (nums : List (List ℕ)) (slot version : ℕ) → Says (gone nums slot version) ((slot < length nums) × (((1 ≤ version) × (version < version_at nums slot)) ⊎ ((phase_at nums slot ≡ retired) × (version_at nums slot ≡ version))))
unfolding gone
gone_says nums slot version =
    says_and (ltb slot (length nums)) _ (ltb_says slot (length nums))
    (says_or (leb 1 version && ltb version (version_at nums slot)) (eqb (phase_at nums slot) retired && eqb (version_at nums slot) version)
    (says_and (leb 1 version) _ (leb_says 1 version) (ltb_says version (version_at nums slot)))
    (says_and (eqb (phase_at nums slot) retired) _ (eqb_says (phase_at nums slot) retired) (eqb_says (version_at nums slot) version)))

-- ---- every handle is good, gone or never issued, and just one of these, and is answered by it
pub good_not_gone : (nums : List (List ℕ)) (slot version : ℕ) → good nums slot version ≡ true → gone nums slot version ≡ false
good_not_gone nums slot version e =
    let g = (good_says nums slot version).yes e in
    not_said (gone_says nums slot version) (λ p. ⊎_elim (λ o. omega (arith, o.1, g.2)) (λ r. omega (arith, r.0, g.1)) p.1)

pub handle-one_of_three : (nums : List (List ℕ)) (slot version : ℕ) → one (good nums slot version) + one (gone nums slot version) + one (never_issued nums slot version) ≡ 1
handle-one_of_three nums slot version = go (good nums slot version) (gone nums slot version) (good_not_gone nums slot version)
  where
    go : (a b : Bool) → (a ≡ true → b ≡ false) → one a + one b + one (not a && not b) ≡ 1
    go true true f = absurd (apart (sym (f refl)))
    go true false f = refl
    go false true f = refl
    go false false f = refl

-- a slot past the table, version 0, a version above the slot's, and that of a free slot
abbrev pub Unissued : List (List ℕ) → ℕ → ℕ → Type 0
Unissued nums s v = (length nums ≤ s) ⊎ ((v ≡ 0) ⊎ ((version_at nums s < v) ⊎ ((version_at nums s ≡ v) × (phase_at nums s ≡ free))))

-- on a slot that holds, these are the handles that were never issued
pub never_issued_says : (nums : List (List ℕ)) (s v : ℕ) → (s < length nums → (version_at nums s ≡ 0 → ⊥) × (phase_at nums s ≤ retired))
    → Says (never_issued nums s v) (Unissued nums s v)
never_issued_says nums s v slot = record { yes = known; no = λ x. rw (not_said (good_says nums s v) (λ g. not_good g x), not_said (gone_says nums s v) (λ g. not_gone g x)) }
  where
    not_good : (s < length nums) × (phase_at nums s ≡ live) × (version_at nums s ≡ v) → Unissued nums s v → ⊥
    not_good g (inl a) = omega (arith, g.0)
    not_good g (inr (inl a)) = (slot g.0).0 (g.2 ∙ a)
    not_good g (inr (inr (inl a))) = omega (arith, g.2)
    not_good g (inr (inr (inr a))) = omega (arith, g.1, a.1)

    not_gone : (s < length nums) × (((1 ≤ v) × (v < version_at nums s)) ⊎ ((phase_at nums s ≡ retired) × (version_at nums s ≡ v))) → Unissued nums s v → ⊥
    not_gone g (inl a) = omega (arith, g.0)
    not_gone g (inr (inl a)) = ⊎_elim (λ x. omega (arith, x.0)) (λ x. (slot g.0).0 (x.1 ∙ a)) g.1
    not_gone g (inr (inr (inl a))) = ⊎_elim (λ x. omega (arith, x.1)) (λ x. omega (arith, x.1)) g.1
    not_gone g (inr (inr (inr a))) = ⊎_elim (λ x. omega (arith, x.1, a.0)) (λ x. omega (arith, x.0, a.1)) g.1

    known : never_issued nums s v ≡ true → Unissued nums s v
    known e = ⊎_elim inside (λ n. inl (omega (arith, n))) (d_lt s (length nums))
      where
        lost : (good nums s v ≡ true → ⊥) × (gone nums s v ≡ true → ⊥)
        lost =
            let (p, q) = both_true (not (good nums s v)) (not (gone nums s v)) e in
            (λ x. apart (sym (untrue (good nums s v) p) ∙ x), λ x. apart (sym (untrue (gone nums s v) q) ∙ x))

        inside : s < length nums → Unissued nums s v
        inside l = ⊎_elim (λ z. inr (inl z)) (λ z. ⊎_elim (λ a. inr (inr (inl a))) (λ a. inr (inr (inr (at_own z a)))) (d_lt (version_at nums s) v)) (d_eq v 0)
          where
            at_own : (v ≡ 0 → ⊥) → (version_at nums s < v → ⊥) → (version_at nums s ≡ v) × (phase_at nums s ≡ free)
            at_own z a =
                let k : version_at nums s ≡ v = ⊎_elim (λ b. absurd (lost.1 ((gone_says nums s v).no (l, inl (omega (arith, z), b))))) (λ b. omega (arith, a, b)) (d_lt v (version_at nums s)) in
                let x : phase_at nums s ≡ live → ⊥ = λ p. lost.0 ((good_says nums s v).no (l, p, k)) in
                let y : phase_at nums s ≡ retired → ⊥ = λ p. lost.1 ((gone_says nums s v).no (l, inr (p, k))) in
                (k, omega (arith, (slot l).1, x, y))

-- ---- emptying: the slot goes on to the next version, or is retired at the last
pub next-gone : (w v : ℕ) → w ≡ v → 1 ≤ v → ((1 ≤ v) × (v < next_version w)) ⊎ ((next_phase w ≡ retired) × (next_version w ≡ v))
next-gone w v e l = go (eqb w last_version) refl
  where
    go : (b : Bool) → eqb w last_version ≡ b → ((1 ≤ v) × (v < pick b last_version (w + 1))) ⊎ ((pick b retired free ≡ retired) × (pick b last_version (w + 1) ≡ v))
    go true q = inr (refl, sym (eqb-true w last_version q) ∙ e)
    go false q = inl (l, omega arith)

pub emptied-gone : (nums : List (List ℕ)) (s v : ℕ) → good nums s v ≡ true → 1 ≤ v → gone (emptied_nums nums s) s v ≡ true
emptied-gone nums s v e l =
    let g = (good_says nums s v).yes e in
    (gone_says (emptied_nums nums s) s v).no (rw (emptied-length nums s) g.0, rw (emptied-same nums s g.0) (next-gone (version_at nums s) v g.2 l))
