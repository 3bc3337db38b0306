-- A taker takes exactly the texts of the values in range. That holds of a number and of a count, and of what is made of them. Assumes nothing.
use Rattle.basics.specs.Words.{ℕ, ◌≡◌, refl, sym, ap, subst, ◌∙◌, Bool, true, false, List, [], ◌∷◌, ◌++◌, append_assoc, append-nil, ltb, pos, arith}
use Rattle.std.specs.Prelude.{Option, Some, None}
use Rattle.trace_decimals.specs.Meaning.Text.{decimal, signed_text}
use Rattle.trace_decimals.proofs.laws.FieldLaws.{number_text, number_read}
use Rattle.trace_decimals.proofs.laws.CountLaws.{count_text, count-read}
use Rattle.trace_lines.specs.declared.Line.{Line}
use Rattle.trace_lines.specs.declared.Asks.{Asks}
use Rattle.trace_lines.specs.declared.Request.{Request}
use Rattle.trace_lines.specs.Meaning.Taken.{Taken, taken, missing, Taker, bind, both, made, value_then, take_by, take_number, take_count, spot_from}
use Rattle.trace_lines.specs.Meaning.Taken.{handle_from, take_spot, take_handle, if_asked, nobody, no_spot}
use Rattle.trace_lines.specs.Meaning.Requests.{Arguments, request, unreadable, take_arguments, arguments_of, whole}
use Rattle.trace_lines.specs.Inner.Texts.{number, count, spot, handle, only, argument_texts, NumberInRange, CountInRange, SpotInRange, HandleInRange}
use Rattle.trace_lines.specs.Inner.Texts.{AsAsked, ArgumentsInRange}

pub record Exact {A : Type 0} (p : Taker A) (text : A → List (List ℕ)) (InRange : A → Type 0) : Type 0 where
  pub reads : (a : A) (rest : List (List ℕ)) → InRange a → p (text a ++ rest) ≡ taken a rest
  pub is_text : (fs : List (List ℕ)) (a : A) (rest : List (List ℕ)) → p fs ≡ taken a rest → (fs ≡ text a ++ rest) × InRange a

nothing : {A : Type 0} {a : A} {fs : List (List ℕ)} → missing ≡ taken a fs → ⊥
nothing e = let z : ◌≡◌ {A = ℕ} 0 1 = cc in omega arith

-- the first field, by what it reads as
exact_by : {A : Type 0} {value_of : List ℕ → Option A} (text : A → List ℕ) {InRange : A → Type 0} → ((a : A) → InRange a → value_of (text a) ≡ Some a) → ((f : List ℕ) (a : A) → value_of f ≡ Some a → (f ≡ text a) × InRange a) → Exact (take_by value_of) (λ a. text a ∷ []) InRange
exact_by {A} {value_of} text {InRange} reads is_text = record { reads = λ a rest h. rw (reads a h); is_text = back }
  where
    go : (f : List ℕ) (fs : List (List ℕ)) (a : A) (rest : List (List ℕ)) (r : Option A) → value_of f ≡ r → value_then r fs ≡ taken a rest → (f ∷ fs ≡ text a ∷ rest) × InRange a
    go f fs a rest (Some b) e h =
        let same : b ≡ a = cc in
        let left : fs ≡ rest = cc in
        let t = is_text f b e in
        ((λ z. (t.0 ∙ ap text same) z ∷ left z), subst InRange same t.1)
    go f fs a rest None e h = absurd (nothing h)

    back : (fs : List (List ℕ)) (a : A) (rest : List (List ℕ)) → take_by value_of fs ≡ taken a rest → (fs ≡ text a ∷ rest) × InRange a
    back [] a rest h = absurd (nothing h)
    back (f ∷ fs) a rest h = go f fs a rest (value_of f) refl h

pub exact_number : Exact take_number number NumberInRange
exact_number = exact_by decimal (λ n h. number_read (decimal n) n (refl, h)) number_text

pub exact_count : Exact take_count count CountInRange
exact_count = exact_by signed_text (λ k h. count-read (signed_text k) k (refl, h)) count_text

-- what was bound was taken first
record Bound {A B : Type 0} (t : Taken A) (k : A → Taker B) (b : B) (rest : List (List ℕ)) : Type 0 where
  first : A
  others : List (List ℕ)
  was : t ≡ taken first others
  then : k first others ≡ taken b rest

bound : {A B : Type 0} (t : Taken A) (k : A → Taker B) (b : B) (rest : List (List ℕ)) → bind t k ≡ taken b rest → Bound t k b rest
bound (taken a fs) k b rest e = record { first = a; others = fs; was = refl; then = e }
bound missing k b rest e = absurd (nothing e)

module _ {A B : Type 0} {p : Taker A} {q : Taker B} {s : A → List (List ℕ)} {t : B → List (List ℕ)} {R : A → Type 0} {Q : B → Type 0} where
  both_text : Exact p s R → Exact q t Q → (fs : List (List ℕ)) (c : A × B) (rest : List (List ℕ)) → both p q fs ≡ taken c rest → (fs ≡ (s c.0 ++ t c.1) ++ rest) × (R c.0 × Q c.1)
  both_text x y fs c rest e =
      let u = bound (p fs) (λ a gs. bind (q gs) (λ b hs. taken (a, b) hs)) c rest e in
      let v = bound (q u.others) (λ b hs. taken (u.first, b) hs) c rest u.then in
      let same : ◌≡◌ {A = A × B} (u.first, v.first) c = cc v.then in
      let left : v.others ≡ rest = cc v.then in
      let a = x.is_text fs u.first u.others u.was in
      let b = y.is_text u.others v.first v.others v.was in
      let found : fs ≡ (s u.first ++ t v.first) ++ rest = a.0 ∙ (ap (λ (l : List (List ℕ)). s u.first ++ l) (b.0 ∙ ap (λ (l : List (List ℕ)). t v.first ++ l) left) ∙ sym (append_assoc (s u.first) (t v.first) rest)) in
      subst (λ (d : A × B). (fs ≡ (s d.0 ++ t d.1) ++ rest) × (R d.0 × Q d.1)) same (found, (a.1, b.1))

  pub exact_both : Exact p s R → Exact q t Q → Exact (both p q) (λ a. s a.0 ++ t a.1) (λ a. R a.0 × Q a.1)
  exact_both x y =
      record {
        reads = λ c rest h.
            ap (both p q) (append_assoc (s c.0) (t c.1) rest) ∙
            (ap (λ (u : Taken A). bind u (λ a gs. bind (q gs) (λ b hs. taken (a, b) hs))) (x.reads c.0 (t c.1 ++ rest) h.0) ∙
            ap (λ (u : Taken B). bind u (λ b hs. taken (c.0, b) hs)) (y.reads c.1 rest h.1));
        is_text = both_text x y;
      }

module _ {A B : Type 0} {p : Taker A} {s : A → List (List ℕ)} {R : A → Type 0} (f : A → B) (g : B → A) where
  made-back : ((a : A) → g (f a) ≡ a) → Exact p s R → (fs : List (List ℕ)) (b : B) (rest : List (List ℕ)) → made f p fs ≡ taken b rest → (fs ≡ s (g b) ++ rest) × R (g b)
  made-back gf x fs b rest e =
      let u = bound (p fs) (λ a gs. taken (f a) gs) b rest e in
      let same : f u.first ≡ b = cc u.then in
      let left : u.others ≡ rest = cc u.then in
      let here : u.first ≡ g b = sym (gf u.first) ∙ ap g same in
      let a = x.is_text fs u.first u.others u.was in
      (a.0 ∙ (λ z. s (here z) ++ left z), subst R here a.1)

  pub exact_made : ((a : A) → g (f a) ≡ a) → ((b : B) → f (g b) ≡ b) → Exact p s R → Exact (made f p) (λ b. s (g b)) (λ b. R (g b))
  exact_made gf fg x =
      record {
        reads = λ b rest h. ap (λ (u : Taken A). bind u (λ a gs. taken (f a) gs)) (x.reads (g b) rest h) ∙ ap (λ (c : B). taken c rest) (fg b);
        is_text = made-back gf x;
      }

pub exact_spot : Exact take_spot spot SpotInRange
exact_spot = exact_made spot_from (λ p. (p.x, p.y)) (λ a. refl) (λ p. refl) (exact_both exact_count exact_count)

pub exact_handle : Exact take_handle handle HandleInRange
exact_handle = exact_made handle_from (λ h. (h.slot, h.version)) (λ a. refl) (λ h. refl) (exact_both exact_number exact_number)

-- what is not asked for has no text
pub exact_if : {A : Type 0} {p : Taker A} {s : A → List (List ℕ)} {R : A → Type 0} (asked : Bool) (none : A) → Exact p s R → Exact (if_asked asked none p) (λ a. only asked (s a)) (AsAsked asked R none)
exact_if true none x = record { reads = x.reads; is_text = x.is_text }
exact_if {A} {p} {s} {R} false none x = record { reads = λ a rest h. ap (λ (c : A). taken c rest) (sym h); is_text = back }
  where
    back : (fs : List (List ℕ)) (a : A) (rest : List (List ℕ)) → taken none fs ≡ taken a rest → (fs ≡ rest) × (a ≡ none)
    back fs a rest e =
        let same : a ≡ none = cc in
        let left : fs ≡ rest = cc in
        (left, same)

module _ (k : Asks) where
  abbrev texts : Arguments → List (List ℕ)
  texts a = argument_texts k (request k.line a)

  abbrev InRange : Arguments → Type 0
  InRange a = ArgumentsInRange k (request k.line a)

  exact_arguments : Exact (take_arguments k) texts InRange
  exact_arguments =
      exact_both
      (exact_both
      (exact_both
      (exact_both (exact_if k.handle nobody exact_handle) (exact_both (exact_if (ltb 0 k.places) no_spot exact_spot) (exact_if (ltb 1 k.places) no_spot exact_spot)))
      (exact_if k.radius (pos 0) exact_count))
      (exact_if k.number 0 exact_number))
      (exact_if k.tracker 0 exact_number)

  -- ---- a request of such arguments
  pub arguments_read : (r : Request) → r.line ≡ k.line → ArgumentsInRange k r → whole (arguments_of k (argument_texts k r)) ≡ r
  unfolding arguments_of
  arguments_read r e h =
      let a : Arguments = ((((r.h, (r.p, r.q)), r.far), r.n), r.k) in
      ap (λ (u : Taken Arguments). whole (bind u (λ b gs. taken (request k.line b) gs))) (ap (take_arguments k) (sym (append-nil (texts a))) ∙ exact_arguments.reads a [] h)
      ∙ ap (λ (l : Line). request l a) (sym e)

  -- whatever holds of what is unreadable and of requests with their arguments in range, by the text or not
  pub by_arguments : (fs : List (List ℕ)) (P : Request → Type 0) → P unreadable → ((r : Request) → fs ≡ argument_texts k r → r.line ≡ k.line → ArgumentsInRange k r → P r) → P (whole (arguments_of k fs))
  unfolding arguments_of
  by_arguments fs P bad each = go (take_arguments k fs) refl
    where
      go : (u : Taken Arguments) → take_arguments k fs ≡ u → P (whole (bind u (λ b gs. taken (request k.line b) gs)))
      go (taken a []) h = let t = exact_arguments.is_text fs a [] h in each (request k.line a) (t.0 ∙ append-nil (texts a)) refl t.1
      go (taken a (g ∷ gs)) h = bad
      go missing h = bad
