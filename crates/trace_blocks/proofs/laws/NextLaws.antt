-- The records of an input are those that the walks hand out, one after the other, and then those of what is left. Assumes nothing.
use Rattle.basics.specs.Words.{ℕ, ◌+◌, ◌≤◌, ◌<◌, ◌≡◌, refl, sym, ap, ◌∙◌, List, [], ◌∷◌, ◌++◌, length, drop, get_or, drop_of_length-le}
use Rattle.basics.specs.Words.{drop-cons, drop-drop, add-one, arith}
use Rattle.std.proofs.Common.{Option, Some, None, IsSome, IsNone}
use Rattle.trace_splits.specs.declared.Stepped.{Stepped}
use Rattle.trace_splits.specs.Meaning.Sofar.{Sofar, Fed, feed, sofar, kept_of}
use Rattle.trace_splits.specs.Inner.Sofar.{fed}
use Rattle.trace_splits.proofs.laws.Sofar.{records_from}
use Rattle.trace_blocks.specs.Meaning.Next.{Next, next_of, nexted, stops}

-- ---- what is kept of a record stops the walk, and where none ended nothing does
stops_some : (line : List ℕ) (ended : Option ℕ) (there further : Next) → IsSome ended → stops (kept_of line ended) there further ≡ there
stops_some line None there further e = absurd (cc)
stops_some line (Some len) there further e = refl

stops_none : (line : List ℕ) (ended : Option ℕ) (there further : Next) → IsNone ended → stops (kept_of line ended) there further ≡ further
stops_none line None there further e = refl
stops_none line (Some len) there further e = absurd (cc)

-- ---- the code's walk, a byte at a time
module _ (room : ℕ) (s : Sofar) (l : List ℕ) (at : ℕ) where
  pub at_end : length l ≤ at → next_of room s at (drop at l) ≡ nexted s [] at
  unfolding next_of
  at_end h = ap (next_of room s at) (drop_of_length-le l h)

  abbrev step_of : Fed → Next
  step_of f = stops f.out (nexted f.next f.out (at + 1)) (next_of room f.next (at + 1) (drop (at + 1) l))

  a_byte : at < length l → next_of room s at (drop at l) ≡ step_of (feed room s (get_or l at 0))
  unfolding next_of
  a_byte h = ap (next_of room s at) (drop-cons l at 0 h ∙ ap (λ (k : ℕ). get_or l at 0 ∷ drop k l) (sym (add-one at)))

  module _ (h : at < length l) (line : List ℕ) (t : Stepped) (e : fed line t ≡ feed room s (get_or l at 0)) where
    stepped : next_of room s at (drop at l) ≡ step_of (fed line t)
    stepped = a_byte h ∙ ap step_of (sym e)

    pub a_record : IsSome t.ended → next_of room s at (drop at l) ≡ nexted (sofar line t.state) (kept_of line t.ended) (at + 1)
    a_record d = stepped ∙ stops_some line t.ended _ _ d

    pub no_record_lem : IsNone t.ended → next_of room s at (drop at l) ≡ next_of room (sofar line t.state) (at + 1) (drop (at + 1) l)
    no_record_lem d = stepped ∙ stops_none line t.ended _ _ d

dropped : (l : List ℕ) (at b : ℕ) (bs : List ℕ) → drop at l ≡ b ∷ bs → drop (at + 1) l ≡ bs
dropped l at b bs e = sym (drop-drop 1 at l) ∙ ap (drop 1) e

-- ---- no record is lost or made up: what a walk hands out, and then the records of what is behind it, in this block and in those after it
module _ (room : ℕ) (l rest : List ℕ) where
  abbrev behind : Next → List (List ℕ)
  behind n = n.out ++ records_from room n.next (drop n.place l ++ rest)

  by_record : (n : Sofar) (out : List (List ℕ)) (at : ℕ) (bs : List ℕ) (further : Next)
      → drop (at + 1) l ≡ bs → records_from room n (bs ++ rest) ≡ behind further → out ++ records_from room n (bs ++ rest) ≡ behind (stops out (nexted n out (at + 1)) further)
  by_record n [] at bs further d ih = ih
  by_record n (r ∷ rs) at bs further d ih = ap (λ (t : List ℕ). (r ∷ rs) ++ records_from room n (t ++ rest)) (sym d)

  walked : (bs : List ℕ) (s : Sofar) (at : ℕ) → drop at l ≡ bs → records_from room s (bs ++ rest) ≡ behind (next_of room s at bs)
  unfolding next_of
  walked [] s at e = ap (λ (t : List ℕ). records_from room s (t ++ rest)) (sym e)
  walked (b ∷ bs) s at e =
      let d = dropped l at b bs e in
      by_record (feed room s b).next (feed room s b).out at bs (next_of room (feed room s b).next (at + 1) bs) d (walked bs (feed room s b).next (at + 1) d)

  pub none_lost : (s : Sofar) (at : ℕ) → records_from room s (drop at l ++ rest) ≡ behind (next_of room s at (drop at l))
  none_lost s at = walked (drop at l) s at refl

-- a walk that hands out nothing has come to the block's end
module _ (room : ℕ) (l : List ℕ) where
  by_none : (out : List (List ℕ)) (there further : Next) → there.out ≡ out → (further.out ≡ [] → drop further.place l ≡ []) → (stops out there further).out ≡ [] → drop (stops out there further).place l ≡ []
  by_none [] there further w ih e = ih e
  by_none (r ∷ rs) there further w ih e =
      let q : length (r ∷ rs) ≡ 0 = ap length (sym w ∙ e) in
      absurd (omega (arith, q))

  to_end : (bs : List ℕ) (s : Sofar) (at : ℕ) → drop at l ≡ bs → (next_of room s at bs).out ≡ [] → drop (next_of room s at bs).place l ≡ []
  unfolding next_of
  to_end [] s at e h = e
  to_end (b ∷ bs) s at e h =
      let f = feed room s b in
      by_none f.out (nexted f.next f.out (at + 1)) (next_of room f.next (at + 1) bs) refl (to_end bs f.next (at + 1) (dropped l at b bs e)) h

  pub block_used : (s : Sofar) (at : ℕ) → (next_of room s at (drop at l)).out ≡ [] → drop (next_of room s at (drop at l)).place l ≡ []
  block_used s at h = to_end (drop at l) s at refl h
