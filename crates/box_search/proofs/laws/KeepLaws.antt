-- Keeping those of a list that pass, in place: the first j are looked at, and k of them kept. Assumes nothing.
use Rattle.basics.specs.Words.{ℕ, ◌+◌, ◌<◌, ◌≤◌, ◌≡◌, sym, ap, ◌∙◌, Bool, true, false, List, [], ◌∷◌, ◌++◌, append-nil, length, get_or, set, take, drop}
use Rattle.basics.specs.Words.{length-set, take-suc, take-suc-set, drop-set-lt, drop-drop, get_or-drop, add-one, arith}
use Rattle.storage.specs.Meaning.Keyed.{filter}
use Rattle.storage.proofs.laws.FilterLaws.{filter-append, filter_keep, filter_skip}

pub record Kept (test : ℕ → Bool) (fs found : List ℕ) (k j : ℕ) : Type 0 where
  pub few : k ≤ j
  pub size : length found ≡ length fs
  pub first : take k found ≡ filter test (take j fs)
  pub rest : drop j found ≡ drop j fs

module _ (test : ℕ → Bool) (fs : List ℕ) where
  module _ (found : List ℕ) (k j : ℕ) (p : Kept test fs found k j) (inside : j < length fs) where
    -- the one at hand is still there
    pub kept_here : get_or found j 0 ≡ get_or fs j 0
    kept_here =
        let e : j ≡ j + 0 = omega arith in
        ap (λ (i : ℕ). get_or found i 0) e ∙ sym (get_or-drop j found 0 0) ∙ ap (λ (l : List ℕ). get_or l 0 0) p.rest ∙ get_or-drop j fs 0 0 ∙ ap (λ (i : ℕ). get_or fs i 0) (sym e)

    looked : filter test (take (j + 1) fs) ≡ take k found ++ filter test (get_or fs j 0 ∷ [])
    looked =
        ap (λ (i : ℕ). filter test (take i fs)) (add-one j)
        ∙ ap (filter test) (take-suc fs j 0 inside)
        ∙ filter-append test (take j fs) (get_or fs j 0 ∷ [])
        ∙ ap (λ (l : List ℕ). l ++ filter test (get_or fs j 0 ∷ [])) (sym p.first)

    rest-next : drop (j + 1) found ≡ drop (j + 1) fs
    rest-next = sym (drop-drop 1 j found) ∙ ap (drop 1) p.rest ∙ drop-drop 1 j fs

    pub kept-taken : (s : ℕ) → s ≡ get_or fs j 0 → test s ≡ true → Kept test fs (set found k s) (k + 1) (j + 1)
    kept-taken s e t =
        record {
          few = omega (arith, p.few);
          size = length-set found k s ∙ p.size;
          first =
              ap (λ (i : ℕ). take i (set found k s)) (add-one k)
              ∙ take-suc-set found k s (omega (arith, p.few, p.size))
              ∙ ap (λ (x : ℕ). take k found ++ (x ∷ [])) e
              ∙ sym (looked ∙ ap (λ (l : List ℕ). take k found ++ l) (filter_keep test (get_or fs j 0) [] (ap test (sym e) ∙ t)));
          rest = drop-set-lt (j + 1) found k s (omega (arith, p.few)) ∙ rest-next;
        }

    pub kept-passed : (s : ℕ) → s ≡ get_or fs j 0 → test s ≡ false → Kept test fs found k (j + 1)
    kept-passed s e t =
        record {
          few = omega (arith, p.few);
          size = p.size;
          first = sym (looked ∙ ap (λ (l : List ℕ). take k found ++ l) (filter_skip test (get_or fs j 0) [] (ap test (sym e) ∙ t)) ∙ append-nil (take k found));
          rest = rest-next;
        }

-- the same, of what equals it
pub kept_as : (test : ℕ → Bool) (fs found found' : List ℕ) (k k' j : ℕ) → found' ≡ found → k' ≡ k → Kept test fs found k j → Kept test fs found' k' j
kept_as test fs found found' k k' j ef ek p = rw (ef, ek) p
