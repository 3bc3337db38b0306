-- The entries of the cells that were visited: how often each slot is named there. Assumes nothing.
use Rattle.basics.specs.Words.{ℕ, ◌+◌, ◌≡◌, refl, sym, ◌∙◌, ap, Bool, true, false, List, [], ◌∷◌, ◌++◌, append-nil, append_assoc, eqb, arith, eqb-true}
use Rattle.basics.specs.Words.{eqb-false, eq-eqb, ne_eqb}
use Rattle.basics.specs.Inner.Counting.{one}
use Rattle.basics.specs.Meaning.Refusals.{pick}
use Rattle.basics.proofs.laws.Says.{apart}
use Rattle.storage.specs.Meaning.Keyed.{All, under}
use Rattle.storage.specs.Meaning.Entries.{Entry, entry_key}
use Rattle.storage.proofs.laws.FilterLaws.{by_test, all_map, all_any, all_append}
use Rattle.point_tables.specs.Meaning.Tables.{Tables, slot_of}
use Rattle.point_maintain.proofs.laws.Settle.{among, Distinct, picked}
use Rattle.point_maintain.specs.Inner.Closed.{joined}
use Rattle.point_maintain.proofs.laws.Totals.{total, times}
use Rattle.point_maintain.proofs.laws.TotalLaws.{total-append, total-same, total-none, total_plus, total-filter}
use Rattle.point_maintain.proofs.laws.TallyLaws.{cell_key}

-- ---- orders
pub among-append : (k : ℕ) (a b : List ℕ) → among k (a ++ b) ≡ pick (among k a) true (among k b)
among-append k [] b = refl
among-append k (j ∷ a) b = by_test (eqb j k) (λ e. rw e) (λ e. rw e (among-append k a b))

-- the first part of an order, and that what comes next is new
pub distinct_front : (a b : List ℕ) → Distinct (a ++ b) → Distinct a
distinct_front [] b d = tt
distinct_front (j ∷ a) b d = (by_test (among j a) (λ e. e ∙ rw (among-append j a b, e) at d.0) (λ e. e), distinct_front a b d.1)

pub distinct_new : (a : List ℕ) (k : ℕ) (b : List ℕ) → Distinct (a ++ (k ∷ b)) → among k a ≡ false
distinct_new [] k b d = refl
distinct_new (j ∷ a) k b d =
    by_test (eqb j k)
    (λ e. absurd (apart (sym (rw (among-append j a (k ∷ b), eq-eqb k j (sym (eqb-true j k e))) at d.0) ∙ picked (among j a) (λ q. refl))))
    (λ e. rw e (distinct_new a k b d.1))

pub joined-append : {A : Type 0} (f : ℕ → List A) (a b : List ℕ) → joined f (a ++ b) ≡ joined f a ++ joined f b
joined-append f [] b = refl
joined-append f (k ∷ a) b = ap (λ l. f k ++ l) (joined-append f a b) ∙ sym (append_assoc (f k) (joined f a) (joined f b))

pub joined-one : {A : Type 0} (f : ℕ → List A) (a : List ℕ) (k : ℕ) → joined f (a ++ (k ∷ [])) ≡ joined f a ++ f k
joined-one f a k = joined-append f a (k ∷ []) ∙ ap (λ l. joined f a ++ l) (append-nil (f k))

pub joined_all : {A : Type 0} (P : A → Type 0) (f : ℕ → List A) → ((k : ℕ) → All P (f k)) → (ks : List ℕ) → All P (joined f ks)
joined_all P f g [] = tt
joined_all P f g (k ∷ ks) = all_append P (f k) (joined f ks) (g k) (joined_all P f g ks)

-- ---- the entries of the cells of ks
module _ {A : Type 0} (key : A → ℕ) (m : A → ℕ) where
  pub joined-total : (ks : List ℕ) → Distinct ks → (l : List A) → total m (joined (λ k. under key k l) ks) ≡ total (λ x. pick (among (key x) ks) (m x) 0) l
  joined-total [] d l = sym (total-none (λ x. 0) l (all_any (λ x. 0 ≡ 0) (λ x. refl) l))
  joined-total (k ∷ ks) d l =
      total-append m (under key k l) (joined (λ j. under key j l) ks)
      ∙ rw (total-filter m (λ x. eqb (key x) k) l, joined-total ks d.1 l)
      (sym (total_plus (λ x. pick (eqb (key x) k) (m x) 0) (λ x. pick (among (key x) ks) (m x) 0) l)
      ∙ total-same _ _ l (all_any _ (λ x. point (key x) (m x)) l))
    where
      point : (j v : ℕ) → pick (eqb j k) v 0 + pick (among j ks) v 0 ≡ pick (pick (eqb k j) true (among j ks)) v 0
      point j v =
          by_test (eqb j k)
          (λ e.
          let q : j ≡ k = eqb-true j k e in
          rw (e, eq-eqb k j (sym q), q, d.0) (omega arith))
          (λ e. rw (e, ne_eqb k j (λ q. eqb-false j k e (sym q))) (omega arith))

-- a slot is named there as often as in the pool, if its cell was visited
pub visited_times : (t : Tables) (es : List Entry) → All (λ e. entry_key e ≡ cell_key t (slot_of e)) es → (ks : List ℕ) → Distinct ks → (i : ℕ)
    → times slot_of i (joined (λ k. under entry_key k es) ks) ≡ pick (among (cell_key t i) ks) (times slot_of i es) 0
visited_times t es a ks d i =
    joined-total entry_key (λ e. one (eqb (slot_of e) i)) ks d es
    ∙ total-same _ (λ e. pick (among (cell_key t i) ks) (one (eqb (slot_of e) i)) 0) es
    (all_map (λ e. entry_key e ≡ cell_key t (slot_of e)) _ point es a)
    ∙ outside (among (cell_key t i) ks)
  where
    point : (e : Entry) → entry_key e ≡ cell_key t (slot_of e) → pick (among (entry_key e) ks) (one (eqb (slot_of e) i)) 0 ≡ pick (among (cell_key t i) ks) (one (eqb (slot_of e) i)) 0
    point e q =
        by_test (eqb (slot_of e) i)
        (λ z. ap (λ (k : ℕ). pick (among k ks) (one (eqb (slot_of e) i)) 0) (q ∙ ap (cell_key t) (eqb-true (slot_of e) i z)))
        (λ z. rw z (picked (among (entry_key e) ks) (λ q. refl) ∙ sym (picked (among (cell_key t i) ks) (λ q. refl))))

    outside : (b : Bool) → total (λ e. pick b (one (eqb (slot_of e) i)) 0) es ≡ pick b (times slot_of i es) 0
    outside true = refl
    outside false = total-none (λ e. 0) es (all_any (λ e. 0 ≡ 0) (λ e. refl) es)
