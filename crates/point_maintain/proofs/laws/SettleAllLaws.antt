-- Laws of slots settled one after the other: each slot that passes is settled, every other is as it was, and the order is no matter.
-- Assumes nothing.
use Rattle.basics.specs.Words.{ℕ, zero, suc, ◌≤◌, ◌<◌, ◌≡◌, refl, sym, ◌∙◌, ap, Bool, true, false, List, [], ◌∷◌, ◌++◌, ◌⊎◌, inl, ⊎_elim, get_or, eqb, arith}
use Rattle.basics.specs.Words.{eq-eqb, ne_eqb}
use Rattle.basics.specs.Meaning.Refusals.{pick}
use Rattle.basics.proofs.laws.Says.{d_eq}
use Rattle.slots.specs.Meaning.Map.{head}
use Rattle.storage.specs.Meaning.Keyed.{All}
use Rattle.storage.proofs.laws.FilterLaws.{by_test}
use Rattle.point_records.specs.declared.State.TheVariants.{Unchanged}
use Rattle.point_tables.specs.Meaning.Tables.{Tables, slots_of, record_on}
use Rattle.point_maintain.specs.Meaning.Walk.{settled}
use Rattle.point_maintain.proofs.laws.SettleForm.{Rows, rows_at, record_in, rows_after}
use Rattle.point_maintain.specs.Inner.Settle.{Shaped}
use Rattle.point_maintain.proofs.laws.SettleLaws.{settled-slots, settled-shaped, settled-head, settled-rows_other, settled-rows-same, settled_calm}
use Rattle.point_maintain.proofs.laws.SettleLaws.{settled_swap}
use Rattle.point_maintain.proofs.laws.Settle.{among, Distinct, picked, settled_over}
use Rattle.point_maintain.specs.Inner.Settle.{settled_in}

module _ (test : ℕ → Bool) (t : Tables) where
  -- a fact that settling keeps
  pub in_keeps : (P : Tables → Type 0) → ((w : Tables) (s : ℕ) → P w → P (settled w s)) → P t → (n : ℕ) → P (settled_in test n t)
  unfolding settled_in
  in_keeps P f p zero = p
  in_keeps P f p (suc n) =
      by_test (test n)
      (λ e. rw e (f (settled_in test n t) n (in_keeps P f p n)))
      (λ e. rw e (in_keeps P f p n))

  module _ (n : ℕ) where
    pub in_slots : slots_of (settled_in test n t) ≡ slots_of t
    in_slots = in_keeps (λ w. slots_of w ≡ slots_of t) (λ w s e. settled-slots w s ∙ e) refl n

    pub in_shaped : Shaped t → Shaped (settled_in test n t)
    in_shaped h = in_keeps Shaped settled-shaped h n

    pub in_head : (k : ℕ) → k < head → get_or (settled_in test n t).map k 0 ≡ get_or t.map k 0
    in_head k h = in_keeps (λ w. get_or w.map k 0 ≡ get_or t.map k 0) (λ w s e. settled-head w s k h ∙ e) refl n

  -- ---- a slot's rows
  pub in_rows-past : (n j : ℕ) → n ≤ j → rows_at (settled_in test n t) j ≡ rows_at t j
  unfolding settled_in
  in_rows-past zero j h = refl
  in_rows-past (suc n) j h =
      by_test (test n)
      (λ e. rw e (settled-rows_other (settled_in test n t) n j (λ q. omega arith) ∙ in_rows-past n j (omega arith)))
      (λ e. rw e (in_rows-past n j (omega arith)))

  -- that of the last slot, once it was come to
  in_rows-last : Shaped t → (n : ℕ) → n < slots_of t → rows_at (settled_in test (suc n) t) n ≡ pick (test n) (rows_after (rows_at t n)) (rows_at t n)
  unfolding settled_in
  in_rows-last h n l =
      by_test (test n)
      (λ e. rw e (settled-rows-same (settled_in test n t) n (in_shaped n h) (rw (in_slots n) l) ∙ ap rows_after (in_rows-past n n (omega arith))))
      (λ e. rw e (in_rows-past n n (omega arith)))

  in_rows-more : (n j : ℕ) → (j ≡ n → ⊥) → rows_at (settled_in test (suc n) t) j ≡ rows_at (settled_in test n t) j
  unfolding settled_in
  in_rows-more n j q =
      by_test (test n)
      (λ e. rw e (settled-rows_other (settled_in test n t) n j q))
      (λ e. rw e)

  pub in_rows : Shaped t → (n : ℕ) → n ≤ slots_of t → (j : ℕ) → j < n → rows_at (settled_in test n t) j ≡ pick (test j) (rows_after (rows_at t j)) (rows_at t j)
  in_rows h zero l j m = absurd (omega arith)
  in_rows h (suc n) l j m =
      ⊎_elim
      (λ q. rw q (in_rows-last h n l))
      (λ q. in_rows-more n j q ∙ in_rows h n (omega arith) j (omega (arith, q)))
      (d_eq j n)

  -- ---- one slot more, before or after
  pub in_swap : (s n : ℕ) → ((i : ℕ) → i < n → test i ≡ true → i ≡ s → ⊥) → settled_in test n (settled t s) ≡ settled (settled_in test n t) s
  unfolding settled_in
  in_swap s zero f = refl
  in_swap s (suc n) f =
      by_test (test n)
      (λ e. rw (e, in_swap s n (λ i l. f i (omega arith))) (settled_swap (settled_in test n t) s n (λ q. f n (omega arith) e (sym q))))
      (λ e. rw e (in_swap s n (λ i l. f i (omega arith))))

-- two tests that differ at most where nothing is pending
pub in_agree : (test other : ℕ → Bool) (t : Tables) (n : ℕ) → ((i : ℕ) → i < n → (test i ≡ other i) ⊎ ((record_on t i).state ≡ Unchanged)) → settled_in test n t ≡ settled_in other n t
unfolding settled_in
in_agree test other t zero f = refl
in_agree test other t (suc n) f =
    let ih : settled_in test n t ≡ settled_in other n t = in_agree test other t n (λ i l. f i (omega arith)) in
    rw ih
    (⊎_elim
    (λ e. rw e)
    (λ e.
    let calm : settled (settled_in other n t) n ≡ settled_in other n t =
    settled_calm (settled_in other n t) n (ap (λ (w : Rows). (record_in w).state) (in_rows-past other t n n (omega arith)) ∙ e) in
    rw calm (picked (test n) (λ q. refl) ∙ sym (picked (other n) (λ q. refl))))
    (f n (omega arith)))

-- ---- the slots of a list
pub over_append : (t : Tables) (a b : List ℕ) → settled_over t (a ++ b) ≡ settled_over (settled_over t a) b
unfolding settled_over
over_append t [] b = refl
over_append t (s ∷ a) b = over_append (settled t s) a b

abbrev with_one : ℕ → (ℕ → Bool) → ℕ → Bool
with_one s test i = pick (eqb s i) true (test i)

pub in_same : (test other : ℕ → Bool) (t : Tables) (n : ℕ) → ((i : ℕ) → i < n → test i ≡ other i) → settled_in test n t ≡ settled_in other n t
in_same test other t n f = in_agree test other t n (λ i l. inl (f i l))

-- s is one of the slots below n
in_more : (test : ℕ → Bool) (s : ℕ) → test s ≡ false → (t : Tables) (n : ℕ) → s < n → settled_in test n (settled t s) ≡ settled_in (with_one s test) n t
unfolding settled_in
in_more test s f t zero l = absurd (omega arith)
in_more test s f t (suc n) l =
    ⊎_elim
    (λ q.
    let before : settled_in test n (settled t s) ≡ settled (settled_in test n t) s = in_swap test t s n (λ i m e z. omega arith) in
    let same : settled_in (with_one s test) n t ≡ settled_in test n t = in_same (with_one s test) test t n (λ i m. rw (ne_eqb s i (λ z. omega arith))) in
    rw (before, same, ← q, f, eq-eqb s s refl))
    (λ q. rw (in_more test s f t n (omega (arith, q)), ne_eqb s n q))
    (d_eq s n)

in_none : (t : Tables) (n : ℕ) → t ≡ settled_in (λ i. false) n t
unfolding settled_in
in_none t zero = refl
in_none t (suc n) = in_none t n

pub over_in : (t : Tables) (n : ℕ) (ss : List ℕ) → Distinct ss → All (λ s. s < n) ss → settled_over t ss ≡ settled_in (λ i. among i ss) n t
unfolding settled_over
over_in t n [] d a = in_none t n
over_in t n (s ∷ ss) d a = over_in (settled t s) n ss d.1 a.1 ∙ in_more (λ i. among i ss) s d.0 t n a.0
