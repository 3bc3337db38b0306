-- Byte by byte the same records are found, each cut to room - 1 bytes. Assumes nothing.
use Rattle.basics.specs.Words.{ℕ, ◌-◌, ◌≤◌, ◌<◌, min, ◌≡◌, refl, sym, ap, subst, ◌∙◌, Bool, true, false, ◌&&◌, List, [], ◌∷◌, ◌++◌, map, append_assoc}
use Rattle.basics.specs.Words.{append-nil, ⊎_elim, length, take, length-take, length-append, take_all, take-nil, take-take, take-append-le, eqb, arith}
use Rattle.basics.specs.Words.{eqb-true, ne_eqb}
use Rattle.basics.proofs.laws.Says.{d_le, both_true}
use Rattle.trace_splits.specs.Meaning.Records.{cr, lf}
use Rattle.trace_splits.specs.Inner.Records.{records_of}
use Rattle.trace_splits.proofs.laws.RecordLaws.{ends_in_cr, Plain, alone, plain_alone, plain_ended, plain_more, ends_in_cr_lem}
use Rattle.trace_splits.proofs.laws.LineLaws.{same_part, take-first, take_short}
use Rattle.trace_splits.specs.Meaning.Sofar.{Sofar, Fed, begun, feed}
use Rattle.trace_splits.specs.Inner.Sofar.{finished}
use Rattle.trace_splits.proofs.laws.Sofar.{records_from, handed_out, sofar_after}

-- what is known of the bytes xs since the last line end
abbrev pub sofar_of : ℕ → List ℕ → Sofar
sofar_of room xs = record { kept = take room xs; returned = ends_in_cr xs }

ends_more : (xs : List ℕ) (b : ℕ) → ends_in_cr (xs ++ b ∷ []) ≡ eqb b cr
ends_more [] b = refl
ends_more (a ∷ []) b = refl
ends_more (a ∷ c ∷ xs) b = ends_more (c ∷ xs) b

module _ (room : ℕ) (some : 0 < room) where
  more-kept : (xs : List ℕ) (b : ℕ) → take room (take room xs ++ b ∷ []) ≡ take room (xs ++ b ∷ [])
  more-kept xs b =
      ⊎_elim
      (λ h. ap (λ (l : List ℕ). take room (l ++ b ∷ [])) (take_all room xs h))
      (λ h.
      let l : room ≤ length xs = omega arith in
      let k : room ≤ length (take room xs) = omega (arith, length-take room xs) in
      take-append-le room (take room xs) (b ∷ []) k ∙ (take-take room room xs (omega arith) ∙ sym (take-append-le room xs (b ∷ []) l)))
      (d_le (length xs) room)

  all_but_cr : (ys : List ℕ) → take (length (take room (ys ++ cr ∷ [])) - 1) (take room (ys ++ cr ∷ [])) ≡ take (room - 1) ys
  all_but_cr ys =
      let n = length (take room (ys ++ cr ∷ [])) - 1 in
      let e : n ≡ min (room - 1) (length ys) = omega (arith, length-take room (ys ++ cr ∷ []), length-append ys (cr ∷ [])) in
      take-first n room (ys ++ cr ∷ []) ∙
      (same_part (ys ++ cr ∷ []) (min n room) n (omega arith) ∙
      (take-append-le n ys (cr ∷ []) (omega arith) ∙
      (same_part ys n (min (room - 1) (length ys)) e ∙ take_short (room - 1) ys)))

  at_end : (xs : List ℕ) → (finished room (sofar_of room xs)).out ≡ map (take (room - 1)) (alone xs)
  at_end [] = rw (take-nil {A = ℕ} room)
  at_end (b ∷ xs) =
      let h : eqb (length (take room (b ∷ xs))) 0 ≡ false = ne_eqb (length (take room (b ∷ xs))) 0 (λ e. omega (arith, length-take room (b ∷ xs))) in
      rw h (ap (λ (l : List ℕ). l ∷ []) (take-take (room - 1) room (b ∷ xs) (omega arith)))

  begun_is : sofar_of room [] ≡ begun
  begun_is = ap (λ (l : List ℕ). record { kept = l; returned = false }) (take-nil {A = ℕ} room)

  fed_end : (xs ys : List ℕ) (b : ℕ) → xs ≡ ys ++ cr ∷ [] → (ends_in_cr xs && eqb b lf) ≡ true → feed room (sofar_of room xs) b ≡ record { next = begun; out = take (room - 1) ys ∷ [] }
  fed_end xs ys b q e = rw e (ap (λ (l : List ℕ). record { next = begun; out = l ∷ [] }) (ap (λ (l : List ℕ). take (length (take room l) - 1) (take room l)) q ∙ all_but_cr ys))

  fed-more : (xs : List ℕ) (b : ℕ) → (ends_in_cr xs && eqb b lf) ≡ false → feed room (sofar_of room xs) b ≡ record { next = sofar_of room (xs ++ b ∷ []); out = [] }
  fed-more xs b e = rw e (λ z. record { next = record { kept = more-kept xs b z; returned = sym (ends_more xs b) z }; out = [] })

  abbrev Splits : List ℕ → List ℕ → Type 0
  Splits xs input = records_from room (sofar_of room xs) input ≡ map (take (room - 1)) (records_of (xs ++ input))

  at_record_end : (xs rest : List ℕ) (b : ℕ) → Plain xs → (ends_in_cr xs && eqb b lf) ≡ true → Splits [] rest → Splits xs (b ∷ rest)
  at_record_end xs rest b p e ih =
      let h = both_true (ends_in_cr xs) (eqb b lf) e in
      let q = ends_in_cr_lem xs h.0 in
      let found : records_of (xs ++ b ∷ rest) ≡ q.0 ∷ records_of rest =
      ap records_of (ap (λ (l : List ℕ). l ++ b ∷ rest) q.1 ∙ (append_assoc q.0 (cr ∷ []) (b ∷ rest) ∙ ap (λ (n : ℕ). q.0 ++ cr ∷ n ∷ rest) (eqb-true b lf h.1))) ∙ plain_ended q.0 (subst Plain q.1 p) rest in
      ap (λ (f : Fed). f.out ++ records_from room f.next rest) (fed_end xs q.0 b q.1 e) ∙
      (ap (λ (l : List (List ℕ)). take (room - 1) q.0 ∷ l) (ap (λ (s : Sofar). records_from room s rest) (sym begun_is) ∙ ih) ∙
      ap (map (take (room - 1))) (sym found))

  at_byte : (xs rest : List ℕ) (b : ℕ) → (ends_in_cr xs && eqb b lf) ≡ false → Splits (xs ++ b ∷ []) rest → Splits xs (b ∷ rest)
  at_byte xs rest b e ih =
      ap (λ (f : Fed). f.out ++ records_from room f.next rest) (fed-more xs b e) ∙ (ih ∙ ap (λ (l : List ℕ). map (take (room - 1)) (records_of l)) (append_assoc xs (b ∷ []) rest))

  by_end : (xs rest : List ℕ) (b : ℕ) (t : Bool) → (ends_in_cr xs && eqb b lf) ≡ t → Plain xs → ((ys : List ℕ) → Plain ys → Splits ys rest) → Splits xs (b ∷ rest)
  by_end xs rest b true e p ih = at_record_end xs rest b p e (ih [] tt)
  by_end xs rest b false e p ih = at_byte xs rest b e (ih (xs ++ b ∷ []) (plain_more xs b p e))

  -- the bytes xs since the last line end, and then the input
  from_there : (input xs : List ℕ) → Plain xs → Splits xs input
  from_there [] xs p = at_end xs ∙ ap (map (take (room - 1))) (sym (plain_alone xs p) ∙ ap records_of (sym (append-nil xs)))
  from_there (b ∷ rest) xs p = by_end xs rest b (ends_in_cr xs && eqb b lf) refl p (from_there rest)

  -- any input, from its start
  pub splits_records : (input : List ℕ) → records_from room begun input ≡ map (take (room - 1)) (records_of input)
  splits_records input = ap (λ (s : Sofar). records_from room s input) (sym begun_is) ∙ from_there input [] tt

-- a record may straddle two parts of the input
pub straddles : (room : ℕ) (s : Sofar) (a b : List ℕ) → records_from room s (a ++ b) ≡ handed_out room s a ++ records_from room (sofar_after room s a) b
straddles room s [] b = refl
straddles room s (c ∷ a) b =
    ap (λ (l : List (List ℕ)). (feed room s c).out ++ l) (straddles room (feed room s c).next a b) ∙
    sym (append_assoc (feed room s c).out (handed_out room (feed room s c).next a) (records_from room (sofar_after room s (c ∷ a)) b))
