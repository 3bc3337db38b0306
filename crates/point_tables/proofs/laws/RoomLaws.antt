-- A slot that is not occupied leaves room: the entries in use are as many as the objects, so fewer than the slots. Assumes nothing.
use Rattle.basics.specs.Words.{ℕ, zero, suc, ◌≤◌, ◌<◌, ◌≡◌, sym, ◌∙◌, ap, Bool, true, false, inl, inr, arith, ne_eqb}
use Rattle.basics.proofs.laws.Says.{d_eq}
use Rattle.basics.specs.Inner.Counting.{one, count_below}
use Rattle.slots.specs.Meaning.Slot.{live, phase_at}
use Rattle.point_tables.specs.Meaning.Tables.{Tables, used_of, slots_of}
use Rattle.point_tables.specs.Meaning.Holds.{Holds}
use Rattle.point_tables.specs.Inner.Count.{is_live}
use Rattle.point_tables.proofs.laws.CountLaws.{live-count}

pub one-most : (b : Bool) → one b ≤ 1
one-most true = omega arith
one-most false = omega arith

module _ (test : ℕ → Bool) where
  pub count_most : (n : ℕ) → count_below test n ≤ n
  unfolding count_below
  count_most zero = omega arith
  count_most (suc n) = omega (arith, count_most n, one-most (test n))

  -- a number that fails the test is not counted
  count_less : (a n : ℕ) → a < n → test a ≡ false → count_below test n < n
  unfolding count_below
  count_less a zero h e = absurd (omega arith)
  count_less a (suc n) h e =
      elim (d_eq a n) [
        | inl q ↦ omega (arith, count_most n, ap one (ap test (sym q) ∙ e))
        | inr q ↦ omega (arith, count_less a n (omega (arith, q)) e, one-most (test n))
      ]

pub room : (t : Tables) → Holds t → (s : ℕ) → s < slots_of t → (phase_at t.nums s ≡ live → ⊥) → used_of t < slots_of t
room t h s l n = omega (arith, live-count t h, count_less (is_live t) s (slots_of t) l (ne_eqb (phase_at t.nums s) live n))
