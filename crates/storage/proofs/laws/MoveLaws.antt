-- Appending and taking out, as moves of places; and what they do to each column of a table whose used part is a sorted list.
-- Assumes nothing.
use Rattle.basics.specs.Words.{ℕ, suc, ◌+◌, ◌-◌, ◌<◌, ◌≤◌, ◌≡◌, refl, sym, ◌∙◌, ap, Bool, true, false, List, [], ◌∷◌, ◌++◌, append_assoc, length, get_or, take}
use Rattle.basics.specs.Words.{drop, length-append, take-append-drop, slice, take_at, drop_at, drop-append-le, take-take, set_at, get_or_at, set-get_or, split_at}
use Rattle.basics.specs.Words.{length-take-le, length-slice, get_or-take, get_or-drop, arith}
use Rattle.storage.specs.Meaning.Keyed.{All, below, under, above, on_list, append1, take_out, close, front, last}
use Rattle.storage.specs.Inner.Keyed.{Sorted}
use Rattle.storage.specs.Inner.Places.{end_of}
use Rattle.storage.proofs.laws.Places.{inserted, removed, swapped}
use Rattle.storage.proofs.laws.FilterLaws.{all_of}
use Rattle.storage.proofs.laws.KeyedLaws.{length_parts, sorted_parts, on_list-same}
use Rattle.storage.proofs.laws.TakeOutLaws.{front-last, length_front, take_out_at, take_out-none, has_none}
use Rattle.storage.proofs.laws.CutLaws.{take_end, drop_end}

module _ {A : Type 0} where
  gone : (a : List A) (x : A) (c : List A) (n : ℕ) → length a ≡ n → removed (a ++ x ∷ c) n ≡ a ++ c
  gone [] x c n e = rw (← e)
  gone (y ∷ a) x c n e = rw (← e) (ap (λ m. y ∷ m) (gone a x c (length a) refl))

  swap_last : (d : A) (a : List A) (x : A) (f : List A) (z : A) (c : List A) (j : ℕ) → length a + suc (length f) ≡ j → swapped d (a ++ x ∷ (f ++ z ∷ c)) (length a) j ≡ a ++ z ∷ (f ++ c)
  swap_last d a x f z c j e =
      let n : (y : A) → length (a ++ y ∷ f) ≡ j = λ y. length-append a (y ∷ f) ∙ e in
      let g : get_or (a ++ x ∷ (f ++ z ∷ c)) j d ≡ z = ap (λ m. get_or m j d) (sym (append_assoc a (x ∷ f) (z ∷ c))) ∙ get_or_at (a ++ x ∷ f) z c d j (n x) in
      rw (g, set_at a x (f ++ z ∷ c) z (length a) refl)
      (ap (λ m. removed m j) (sym (append_assoc a (z ∷ f) (z ∷ c))) ∙ gone (a ++ z ∷ f) z c j (n z) ∙ append_assoc a (z ∷ f) c)

  -- the last of b comes to where x was
  swap_form : (d : A) (a : List A) (x : A) (b c : List A) (j : ℕ) → length a + length b ≡ j → swapped d (a ++ ((x ∷ b) ++ c)) (length a) j ≡ a ++ (close b ++ c)
  swap_form d a x [] c j e =
      let q : j ≡ length a = omega arith in
      rw (q, set-get_or (a ++ x ∷ c) (length a) d) (gone a x c (length a) refl)
  swap_form d a x (y ∷ b) c j e =
      let w : (y ∷ b) ++ c ≡ front y b ++ last y b ∷ c = ap (λ m. m ++ c) (sym (front-last y b)) ∙ append_assoc (front y b) (last y b ∷ []) c in
      ap (λ m. swapped d (a ++ x ∷ m) (length a) j) w ∙ swap_last d a x (front y b) (last y b) c j (rw (length_front y b) e)

module _ {A : Type 0} (key : A → ℕ) (l : List A) (s : Sorted key l) (k : ℕ) where
  pub end_most : end_of key k l ≤ length l
  end_most = rw (length-append (below key k l) (under key k l)) (omega (arith, length_parts key k l))

  pub start_most : length (below key k l) ≤ end_of key k l
  start_most = rw (length-append (below key k l) (under key k l)) (omega arith)

  -- the key's list is a stretch of places
  pub under_slice : under key k l ≡ slice (length (below key k l)) (end_of key k l) l
  under_slice = sym (ap (drop (length (below key k l))) (take_end key k l s) ∙ drop_at (below key k l) (under key k l) (length (below key k l)) refl)

  pub below-take : below key k l ≡ take (length (below key k l)) l
  below-take = sym (ap (take (length (below key k l))) (sorted_parts key k l s) ∙ take_at (below key k l) (under key k l ++ above key k l) (length (below key k l)) refl)

module _ {A : Type 0} (key : A → ℕ) (l : List A) (s : Sorted key l) where
  pub append-placed : (e : A) → append1 key l e ≡ inserted l (end_of key (key e) l) e
  unfolding append1 on_list
  append-placed e = rw (take_end key (key e) l s, drop_end key (key e) l s) (simp append_assoc)

  -- taking out: at is the first place of the key's list whose element passes, or the list's end if none does
  module _ (d : A) (k : ℕ) (test : A → Bool) (at : ℕ) (from : length (below key k l) ≤ at)
      (passed : (m : ℕ) → length (below key k l) ≤ m → m < at → test (get_or l m d) ≡ false) where
    -- no element up to the place passes
    none_yet : at ≤ length l → All (λ y. test y ≡ false) (slice (length (below key k l)) at l)
    none_yet h =
        all_of (λ y. test y ≡ false) d (slice (length (below key k l)) at l)
        (λ i q.
        let n : length (slice (length (below key k l)) at l) ≡ at - length (below key k l) = length-slice (length (below key k l)) at l h in
        rw (get_or-drop (length (below key k l)) (take at l) i d, get_or-take at l (length (below key k l) + i) d (omega arith)) (passed (length (below key k l) + i) (omega arith) (omega arith)))

    pub take-placed : at < end_of key k l → test (get_or l at d) ≡ true → on_list key k (take_out test) l ≡ swapped d l at (end_of key k l - 1)
    unfolding on_list
    take-placed h e =
        let f : ℕ = length (below key k l) in
        let t : ℕ = end_of key k l in
        let x : A = get_or l at d in
        let b : List A = slice (suc at) t l in
        let m : t ≤ length l = end_most key l s k in
        let n : length (take t l) ≡ t = length-take-le t l m in
        let na : length (take at l) ≡ at = length-take-le at l (omega arith) in
        let upto : take t l ≡ take at l ++ x ∷ b = split_at (take t l) at d (omega arith) ∙ rw (take-take at t l (omega arith), get_or-take t l at d h) in
        let whole : l ≡ take at l ++ ((x ∷ b) ++ drop t l) = sym (take-append-drop t l) ∙ ap (λ m. m ++ drop t l) upto ∙ append_assoc (take at l) (x ∷ b) (drop t l) in
        let own : under key k l ≡ slice f at l ++ x ∷ b = under_slice key l s k ∙ ap (drop f) upto ∙ drop-append-le f (take at l) (x ∷ b) (omega arith) in
        let out : take_out test (under key k l) ≡ slice f at l ++ close b = ap (take_out test) own ∙ take_out_at test (slice f at l) x b (none_yet (omega arith)) e in
        let front : below key k l ++ slice f at l ≡ take at l = ap (λ m. m ++ slice f at l) (below-take key l s k ∙ sym (take-take f at l from)) ∙ take-append-drop f (take at l) in
        let left : below key k l ++ (take_out test (under key k l) ++ above key k l) ≡ take at l ++ (close b ++ drop t l) =
        ap (λ m. below key k l ++ (m ++ above key k l)) out
        ∙ ap (λ m. below key k l ++ m) (append_assoc (slice f at l) (close b) (above key k l))
        ∙ sym (append_assoc (below key k l) (slice f at l) (close b ++ above key k l))
        ∙ ap (λ m. m ++ (close b ++ above key k l)) front
        ∙ ap (λ m. take at l ++ (close b ++ m)) (sym (drop_end key k l s)) in
        let right : swapped d l at (t - 1) ≡ take at l ++ (close b ++ drop t l) =
        ap (λ m. swapped d m at (t - 1)) whole
        ∙ ap (λ i. swapped d (take at l ++ ((x ∷ b) ++ drop t l)) i (t - 1)) (sym na)
        ∙ swap_form d (take at l) x b (drop t l) (t - 1) (rw (length-slice (suc at) t l m, na) (omega arith)) in
        left ∙ sym right

    pub take_nothing : at ≡ end_of key k l → on_list key k (take_out test) l ≡ l
    take_nothing e =
        on_list-same key k (take_out test) l s (take_out-none test (under key k l) (has_none test (under key k l)
        (rw (under_slice key l s k, ← e) (none_yet (omega (arith, end_most key l s k))))))
