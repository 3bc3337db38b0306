-- Walking a record field by field meets its fields. Assumes nothing.
use Rattle.std.specs.List.{position_or_len}
use Rattle.basics.specs.Words.{ℕ, suc, ◌+◌, ◌≤◌, ◌<◌, ◌≡◌, refl, sym, ap, ◌∙◌, Bool, true, false, not, cond, List, [], ◌∷◌, ⊎_elim, length, take, drop, length-drop}
use Rattle.basics.specs.Words.{drop-drop, eqb, ltb, arith}
use Rattle.basics.specs.Words.{lt-ltb, le-ltb, le-leb, lt-leb}
use Rattle.basics.specs.Meaning.Refusals.{pick}
use Rattle.basics.proofs.laws.Says.{d_lt}
use Rattle.trace_splits.specs.Meaning.Records.{onto}
use Rattle.trace_lines.specs.Meaning.Fields.{comma, fields_of}
use Rattle.trace_lines.specs.Inner.Cursor.{fields_from}

-- ---- the first field, and those behind it
-- how many bytes stand before the first comma, or in all
abbrev pub until_comma : List ℕ → ℕ
until_comma l = position_or_len (λ b. eqb b comma) l

abbrev behind : List ℕ → ℕ → List (List ℕ)
behind l n = pick (ltb n (length l)) (fields_of (drop (suc n) l)) []

behind_more : (c : ℕ) (l : List ℕ) (n : ℕ) → behind l n ≡ behind (c ∷ l) (suc n)
behind_more c l n =
    ⊎_elim
    (λ h. let k : suc n < suc (length l) = omega arith in ap (λ (t : Bool). pick t (fields_of (drop (suc n) l)) []) (lt-ltb n (length l) h ∙ sym (lt-ltb (suc n) (suc (length l)) k)))
    (λ h. let k : suc (length l) ≤ suc n = omega (arith, h) in ap (λ (t : Bool). pick t (fields_of (drop (suc n) l)) []) (le-ltb n (length l) (omega arith) ∙ sym (le-ltb (suc n) (suc (length l)) k)))
    (d_lt n (length l))

first_field : (l : List ℕ) → fields_of l ≡ take (until_comma l) l ∷ behind l (until_comma l)
unfolding fields_of
first_field [] = refl
first_field (b ∷ l) = go (eqb b comma) (1 + until_comma l) (omega arith) (first_field l)
  where
    go : (t : Bool) (n : ℕ) → n ≡ suc (until_comma l) → fields_of l ≡ take (until_comma l) l ∷ behind l (until_comma l) → pick t ([] ∷ fields_of l) (onto b (fields_of l)) ≡ take (cond (not t) n 0) (b ∷ l) ∷ behind (b ∷ l) (cond (not t) n 0)
    go true n e ih = ap (λ (s : Bool). [] ∷ pick s (fields_of l) []) (sym (lt-ltb 0 (suc (length l)) (omega arith)))
    go false n e ih = rw e (ap (onto b) ih ∙ ap (λ (fs : List (List ℕ)). (b ∷ take (until_comma l) l) ∷ fs) (behind_more b l (until_comma l)))

behind_at : (b : List ℕ) (at n : ℕ) → at ≤ length b → behind (drop at b) n ≡ fields_from b (at + n + 1)
unfolding fields_from
behind_at b at n h =
    ⊎_elim
    (λ k.
    ap (λ (t : Bool). pick t (fields_of (drop (suc n) (drop at b))) []) (lt-ltb n (length (drop at b)) k) ∙
    (ap fields_of (drop-drop (suc n) at b ∙ ap (λ (m : ℕ). drop m b) here) ∙ sym (ap (λ (t : Bool). pick t (fields_of (drop (at + n + 1) b)) []) (le-leb (at + n + 1) (length b) (omega (arith, k, length-drop at b))))))
    (λ k.
    ap (λ (t : Bool). pick t (fields_of (drop (suc n) (drop at b))) []) (le-ltb n (length (drop at b)) (omega (arith, k))) ∙
    sym (ap (λ (t : Bool). pick t (fields_of (drop (at + n + 1) b)) []) (lt-leb (at + n + 1) (length b) (omega (arith, k, length-drop at b)))))
    (d_lt n (length (drop at b)))
  where
    here : at + suc n ≡ at + n + 1
    here = omega arith

module _ (b : List ℕ) (at : ℕ) where
  pub field_at : at ≤ length b → fields_from b at ≡ take (until_comma (drop at b)) (drop at b) ∷ fields_from b (at + until_comma (drop at b) + 1)
  unfolding fields_from
  field_at h =
      ap (λ (t : Bool). pick t (fields_of (drop at b)) []) (le-leb at (length b) h)
      ∙ first_field (drop at b)
      ∙ ap (λ (fs : List (List ℕ)). take (until_comma (drop at b)) (drop at b) ∷ fs) (behind_at b at (until_comma (drop at b)) h)

  pub no_field : length b < at → fields_from b at ≡ []
  unfolding fields_from
  no_field h = ap (λ (t : Bool). pick t (fields_of (drop at b)) []) (lt-leb at (length b) h)

pub fields_from_start : (b : List ℕ) → fields_from b 0 ≡ fields_of b
unfolding fields_from
fields_from_start b = ap (λ (t : Bool). pick t (fields_of b) []) (le-leb 0 (length b) (omega arith))
