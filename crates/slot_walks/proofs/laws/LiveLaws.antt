-- The live slots, slot by slot; they are as many as the slots that pass the test. Assumes nothing.
use Rattle.basics.specs.Words.{ℕ, zero, suc, ◌+◌, ◌<◌, ◌≤◌, ◌≡◌, refl, sym, ap, ◌∙◌, Bool, true, false, List, [], ◌∷◌, ◌++◌, append-nil, length, get_or, take}
use Rattle.basics.specs.Words.{drop, length-append, take-append-drop, take-suc, take_all, length-take-le, add-one, arith}
use Rattle.std.specs.Prelude.{cond, count_by}
use Rattle.std.proofs.lemmas.List.Sums.{sum_by-cons}
use Rattle.basics.specs.Meaning.Refusals.{pick}
use Rattle.basics.specs.Inner.Counting.{one, count_below}
use Rattle.slot_walks.specs.Meaning.Live.{row_live, live_from}
use Rattle.slot_walks.proofs.laws.Live.{live_at}

live-append : (l m : List (List ℕ)) (s : ℕ) → live_from s (l ++ m) ≡ live_from s l ++ live_from (s + length l) m
live-append [] m s = ap (λ (n : ℕ). live_from n m) (omega arith)
live-append (row ∷ l) m s =
    ap (λ (h : List ℕ). pick (row_live row) (s ∷ h) h) (live-append l m (suc s) ∙ ap (λ (n : ℕ). live_from (suc s) l ++ live_from n m) (omega arith))
    ∙ either (row_live row) (live_from (suc s) l) (live_from (s + suc (length l)) m)
  where
    either : (q : Bool) (a b : List ℕ) → pick q (s ∷ (a ++ b)) (a ++ b) ≡ pick q (s ∷ a) a ++ b
    either true a b = refl
    either false a b = refl

-- no more than there are rows
pub live-within : (l : List (List ℕ)) (s : ℕ) → length (live_from s l) ≤ length l
live-within [] s = omega arith
live-within (row ∷ l) s = go (row_live row) (live_from (suc s) l) (live-within l (suc s))
  where
    go : (q : Bool) (m : List ℕ) → length m ≤ length l → length (pick q (s ∷ m) m) ≤ suc (length l)
    go true m h = omega arith
    go false m h = omega arith

-- as many as the rows that pass the test
pub live-counted : (l : List (List ℕ)) (s : ℕ) → count_by row_live l ≡ length (live_from s l)
live-counted [] s = refl
live-counted (row ∷ l) s = sum_by-cons _ row l ∙ go (row_live row) (live_from (suc s) l) (count_by row_live l) (live-counted l (suc s))
  where
    go : (q : Bool) (m : List ℕ) (n : ℕ) → n ≡ length m → cond q 1 0 + n ≡ length (pick q (s ∷ m) m)
    go true m n e = omega arith
    go false m n e = omega arith

-- the live ones of the first i slots
abbrev pub live_to : ℕ → List (List ℕ) → List ℕ
live_to i nums = live_from 0 (take i nums)

pub live-most : (nums : List (List ℕ)) (i : ℕ) → length (live_to i nums) ≤ length (live_from 0 nums)
live-most nums i =
    let e : length (live_from 0 nums) ≡ length (live_to i nums) + length (live_from (0 + length (take i nums)) (drop i nums)) =
    ap (λ (l : List (List ℕ)). length (live_from 0 l)) (sym (take-append-drop i nums))
    ∙ ap length (live-append (take i nums) (drop i nums) 0)
    ∙ length-append (live_to i nums) (live_from (0 + length (take i nums)) (drop i nums)) in
    omega arith

module _ (nums : List (List ℕ)) (i : ℕ) (h : i < length nums) where
  -- one slot more
  live-next : live_to (i + 1) nums ≡ live_to i nums ++ pick (row_live (get_or nums i [])) (i ∷ []) []
  live-next =
      let m : length (take i nums) ≡ i = length-take-le i nums (omega arith) in
      let n : 0 + length (take i nums) ≡ i = omega arith in
      rw (add-one i, take-suc nums i [] h, live-append (take i nums) (get_or nums i [] ∷ []) 0, n)

  pub live-one : row_live (get_or nums i []) ≡ true → live_to (i + 1) nums ≡ live_to i nums ++ (i ∷ [])
  live-one e = live-next ∙ ap (λ (q : Bool). live_to i nums ++ pick q (i ∷ []) []) e

  pub live-none : row_live (get_or nums i []) ≡ false → live_to (i + 1) nums ≡ live_to i nums
  live-none e = live-next ∙ ap (λ (q : Bool). live_to i nums ++ pick q (i ∷ []) []) e ∙ append-nil (live_to i nums)

  pub live-room : row_live (get_or nums i []) ≡ true → length (live_to i nums) < length (live_from 0 nums)
  live-room e = omega (arith, live-most nums (i + 1), ap length (live-one e) ∙ length-append (live_to i nums) (i ∷ []))

  pub live-counts : length (live_to (i + 1) nums) ≡ length (live_to i nums) + one (row_live (get_or nums i []))
  live-counts = ap length live-next ∙ length-append (live_to i nums) (pick (row_live (get_or nums i [])) (i ∷ []) []) ∙ ap (λ (n : ℕ). length (live_to i nums) + n) (as_one (row_live (get_or nums i [])))
    where
      as_one : (q : Bool) → length (pick q (i ∷ []) []) ≡ one q
      as_one true = refl
      as_one false = refl

-- ---- how many they are
module _ (nums : List (List ℕ)) where
  counted : (i : ℕ) → i ≤ length nums → length (live_to i nums) ≡ count_below (live_at nums) i
  unfolding count_below
  counted zero h = refl
  counted (suc i) h =
      ap (λ (n : ℕ). length (live_to n nums)) (sym (add-one i))
      ∙ live-counts nums i (omega arith)
      ∙ ap (λ (n : ℕ). n + one (live_at nums i)) (counted i (omega arith))

  pub live-count : length (live_from 0 nums) ≡ count_below (live_at nums) (length nums)
  live-count =
      ap (λ (l : List (List ℕ)). length (live_from 0 l)) (sym (take_all (length nums) nums (omega arith)))
      ∙ counted (length nums) (omega arith)
