-- A call that makes its tests one after the other, and leaves what a refused call leaves if one does not pass. Assumes nothing.
use Rattle.basics.specs.Words.{ℕ, ◌≡◌, refl, sym, ap, ◌∙◌, Bool, true, false, List, [], ◌∷◌, ◌++◌, eqb, eqb-true, ne_eqb}
use Rattle.basics.specs.Meaning.Refusals.{Refusal, unless, first_of, pick, by_tests, order, first_that}
use Rattle.basics.proofs.laws.RefusalLaws.{ordered, in_order}
use Rattle.slots.specs.declared.Handle.{Handle}
use Rattle.slots.specs.Meaning.Slot.{why_not_good}
use Rattle.slots.proofs.laws.HandleLaws.{by_why, why_not_three}
use Rattle.demands.specs.Meaning.Left.{Outputs, zeros, the_count, Left, left, refused}

-- what a call leaves, l, is `done` if they pass, and else what `refusal` says of the first that does not
pub record Tested {T P D : Type 0} (rs : List Refusal) (refusal : ℕ → Left T P D) (l : Left T P D) : Type 0 where
  pub done : Left T P D
  pub accepted : done.answer ≡ 0
  pub in_turn : ordered order rs ≡ true
  pub by_tests_lem : l ≡ by_tests rs done refusal

module _ {T P D : Type 0} {rs : List Refusal} {refusal : ℕ → Left T P D} {l : Left T P D} (s : Tested rs refusal l) where
  -- the answer is the first that applies
  pub first-answer : ((n : ℕ) → (refusal n).answer ≡ n) → l.answer ≡ first_that rs
  first-answer says = ap (λ (l : Left T P D). l.answer) s.by_tests_lem ∙ go (eqb (first_of rs) 0) refl ∙ in_order rs s.in_turn
    where
      go : (b : Bool) → eqb (first_of rs) 0 ≡ b → (pick b s.done (refusal (first_of rs))).answer ≡ first_of rs
      go true z = s.accepted ∙ sym (eqb-true (first_of rs) 0 z)
      go false z = says (first_of rs)

  -- and if that is a refusal, nothing is left but what it says
  pub first-refused : (first_that rs ≡ 0 → ⊥) → l ≡ refusal (first_that rs)
  first-refused n =
      s.by_tests_lem ∙ rw (ne_eqb (first_of rs) 0 (λ z. n (sym (in_order rs s.in_turn) ∙ z))) (ap refusal (in_order rs s.in_turn))

-- ---- a handle's test in its place among the others, whichever of its two numbers it has: the order asks for the numbers alone
abbrev numbered : List ℕ → List Refusal
numbered [] = []
numbered (n ∷ ns) = unless true n ∷ numbered ns

pub handle_in_turn : (front back : List ℕ) → ordered order (numbered (front ++ (11 ∷ back))) ≡ true → ordered order (numbered (front ++ (12 ∷ back))) ≡ true
    → (nums : List (List ℕ)) (h : Handle) → ordered order (numbered (front ++ (why_not_good nums h ∷ back))) ≡ true
handle_in_turn front back = by_why (λ (n : ℕ). ordered order (numbered (front ++ (n ∷ back))) ≡ true)

-- and neither of them is 3
pub handle_no_three : (nums : List (List ℕ)) (h : Handle) → eqb (why_not_good nums h) 3 ≡ false
handle_no_three nums h = ne_eqb (why_not_good nums h) 3 (why_not_three nums h)

-- ---- what a call gives, x or y by its tests, seen as what it leaves
module _ {R T P D : Type 0} {refusal : ℕ → Left T P D} (view : R → Left T P D) (x : R) (y : ℕ → R) where
  module _ (zero : (view x).answer ≡ 0) (same : (n : ℕ) → view (y n) ≡ refusal n) where
    pub tested : (rs : List Refusal) → ordered order rs ≡ true → Tested rs refusal (view (by_tests rs x y))
    tested rs o = record { done = view x; accepted = zero; in_turn = o; by_tests_lem = go (eqb (first_of rs) 0) (first_of rs) }
      where
        go : (b : Bool) (n : ℕ) → view (pick b x (y n)) ≡ pick b (view x) (refusal n)
        go true n = refl
        go false n = same n

-- ---- the count that a refusal returns: none, or the number found if it is 9
module _ {T P D : Type 0} (z : P) (t : T) (lent : Outputs D) where
  pub no_nine : (n : ℕ) → left n (zeros z) t lent ≡ refused z 0 t lent n
  no_nine n = go (eqb n 9)
    where
      go : (b : Bool) → left n (zeros z) t lent ≡ left n (pick b (the_count z 0) (zeros z)) t lent
      go true = refl
      go false = refl

  pub at_nine : (k n : ℕ) → left n (the_count z (pick (eqb n 9) k 0)) t lent ≡ refused z k t lent n
  at_nine k n = go (eqb n 9)
    where
      go : (b : Bool) → left n (the_count z (pick b k 0)) t lent ≡ left n (pick b (the_count z k) (zeros z)) t lent
      go true = refl
      go false = refl
