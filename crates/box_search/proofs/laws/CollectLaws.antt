-- Collecting slot after slot, and stretch after stretch of the walk. Assumes nothing.
use Rattle.basics.specs.Words.{ℕ, ◌+◌, ◌<◌, ◌≤◌, ◌≡◌, refl, sym, ap, ◌∙◌, subst, Bool, true, false, List, [], ◌∷◌, ◌++◌, append-nil, append_assoc, map}
use Rattle.basics.specs.Words.{map-append, map-id, length, get_or, set, take, drop, replicate, length-append, length-set, length-replicate, take-append-drop}
use Rattle.basics.specs.Words.{slice, take-suc, take-suc-set, drop-append-le, drop-length, take-take, length-take-le, slice_empty, add-one, arith}
use Rattle.basics.specs.Meaning.Refusals.{pick}
use Rattle.cells.specs.Inner.Key.{column_of, line_of}
use Rattle.storage.specs.declared.Run.{Run}
use Rattle.storage.specs.Meaning.Keyed.{All}
use Rattle.storage.specs.Meaning.Entries.{row_key}
use Rattle.storage.specs.Inner.Window.{in_window}
use Rattle.storage.specs.Inner.Run.{NextRun}
use Rattle.storage.proofs.laws.RunStepLaws.{next_stretch}
use Rattle.storage.proofs.laws.PackedLaws.{all_first}
use Rattle.storage.proofs.laws.FilterLaws.{all_back, all_over, filter_all}
use Rattle.box_tables.specs.Meaning.Tables.{slot_of}
use Rattle.box_search.specs.Meaning.Firsts.{firsts}
use Rattle.box_search.specs.Inner.Marks.{marks_after, first_met, unmarked}
use Rattle.box_search.proofs.laws.MarksLaws.{length-marks-after, marks-after-append, fresh-append, fresh-firsts, fresh-room, unmarked-none}
use Rattle.box_search.proofs.laws.MarksLaws.{unmarked-some}
use Rattle.box_search.specs.Inner.Gather.{Slots, slots_in, inside}
use Rattle.box_search.specs.Inner.Collected.{Collected}

-- ---- the slots of a stretch
module _ (pool : List (List ℕ)) (from : ℕ) where
  pub slots_next : (j : ℕ) → from ≤ j → j < length pool → slots_in pool from (j + 1) ≡ slots_in pool from j ++ (slot_of (get_or pool j []) ∷ [])
  slots_next j h l =
      ap (map slot_of)
      (ap (λ (n : ℕ). slice from n pool) (add-one j)
      ∙ ap (drop from) (take-suc pool j [] l)
      ∙ drop-append-le from (take j pool) (get_or pool j [] ∷ []) (omega (arith, length-take-le j pool (omega arith))))
      ∙ map-append slot_of (slice from j pool) (get_or pool j [] ∷ [])

  pub slots-none : slots_in pool from from ≡ []
  slots-none = ap (map slot_of) (slice_empty from pool)

  pub slots-below : (to : ℕ) → Slots pool to → (j : ℕ) → j ≤ to → to ≤ length pool → All (λ s. s < 256) (slots_in pool from j)
  slots-below to f j h l =
      let P : List ℕ → Type 0 = λ r. slot_of r < 256 in
      all_over (λ s. s < 256) slot_of (slice from j pool)
      (all_back P (take from (take j pool)) (slice from j pool) (rw (take-append-drop from (take j pool)) (all_first j pool (omega arith) P (λ i q. f i (omega arith)))))

-- ---- slot after slot
module _ (m : List Bool) (fs : List ℕ) (n : ℕ) where
  pub collected-none : (l : List ℕ) → l ≡ [] → Collected m fs n l m fs n
  unfolding marks_after first_met
  collected-none l e =
      record {
        number = omega (arith, ap (λ (l : List ℕ). length (first_met m l)) e);
        marks-after = ap (marks_after m) (sym e);
        first = sym (ap (λ (l : List ℕ). take n fs ++ first_met m l) e ∙ append-nil (take n fs));
        size = refl;
      }

  module _ (l : List ℕ) (marks : List Bool) (found : List ℕ) (k s : ℕ) (c : Collected m fs n l marks found k) where
    -- what the slot s adds
    one_more : (b : Bool) → get_or marks s false ≡ b → first_met m (l ++ (s ∷ [])) ≡ first_met m l ++ pick b [] (s ∷ [])
    unfolding first_met
    one_more b e =
        fresh-append m l (s ∷ [])
        ∙ ap (λ (w : List Bool). first_met m l ++ pick (get_or w s false) [] (s ∷ [])) (sym c.marks-after)
        ∙ ap (λ (w : Bool). first_met m l ++ pick w [] (s ∷ [])) e

    one-marked : set marks s true ≡ marks_after m (l ++ (s ∷ []))
    unfolding marks_after
    one-marked = ap (λ (w : List Bool). set w s true) c.marks-after ∙ sym (marks-after-append m l (s ∷ []))

    pub collected-room : length m ≡ 256 → All (λ s. s < 256) l → n + unmarked m ≤ 256 → s < 256 → get_or marks s false ≡ false → k < 256
    collected-room lm a u h e =
        let w : All (λ s. s < length m) l = subst (λ (b : ℕ). All (λ s. s < b) l) (sym lm) a in
        let g : s < length marks = omega (arith, ap length c.marks-after ∙ length-marks-after m l) in
        omega (arith, c.number, fresh-room m l w, ap unmarked c.marks-after, unmarked-some marks s g e)

    pub collected-taken : get_or marks s false ≡ false → k < length fs → Collected m fs n (l ++ (s ∷ [])) (set marks s true) (set found k s) (k + 1)
    collected-taken e h =
        record {
          number = omega (arith, c.number, ap length (one_more false e) ∙ length-append (first_met m l) (s ∷ []));
          marks-after = one-marked;
          first =
              ap (λ (i : ℕ). take i (set found k s)) (add-one k)
              ∙ take-suc-set found k s (omega (arith, c.size))
              ∙ ap (λ (w : List ℕ). w ++ (s ∷ [])) c.first
              ∙ append_assoc (take n fs) (first_met m l) (s ∷ [])
              ∙ ap (λ (w : List ℕ). take n fs ++ w) (sym (one_more false e));
          size = length-set found k s ∙ c.size;
        }

    pub collected-passed : get_or marks s false ≡ true → Collected m fs n (l ++ (s ∷ [])) (set marks s true) found k
    collected-passed e =
        let same : first_met m (l ++ (s ∷ [])) ≡ first_met m l = one_more true e ∙ append-nil (first_met m l) in
        record {
          number = c.number ∙ ap (λ (w : List ℕ). n + length w) (sym same);
          marks-after = one-marked;
          first = c.first ∙ ap (λ (w : List ℕ). take n fs ++ w) (sym same);
          size = c.size;
        }

-- the same, of what equals it
pub collected_as : (m : List Bool) (fs : List ℕ) (n : ℕ) (l l' : List ℕ) (marks : List Bool) (found found' : List ℕ) (k k' : ℕ)
    → l' ≡ l → found' ≡ found → k' ≡ k → Collected m fs n l marks found k → Collected m fs n l' marks found' k'
collected_as m fs n l l' marks found found' k k' el ef ek c = rw (el, ef, ek) c

-- ---- stretch after stretch: what was collected, and what the rest of the walk adds, is the whole
pub record Gathered (low high : ℕ) (rows : List (List ℕ)) (i : ℕ) (marks : List Bool) (found : List ℕ) (n : ℕ) : Type 0 where
  pub few : n + unmarked marks ≤ 256
  pub marks-size : length marks ≡ 256
  pub size : length found ≡ 256
  pub whole : take n found ++ first_met marks (map slot_of (inside low high (drop i rows))) ≡ firsts (map slot_of (inside low high rows))

module _ (low high : ℕ) (pool : List (List ℕ)) (used : ℕ) (room : used ≤ length pool) (below : Slots pool used) where
  abbrev rows : List (List ℕ)
  rows = take used pool

  abbrev slots_from : ℕ → List ℕ
  slots_from i = map slot_of (inside low high (drop i rows))

  pub gathered_start : (found : List ℕ) → length found ≡ 256 → Gathered low high rows 0 (replicate 256 false) found 0
  gathered_start found e =
      record {
        few = omega (arith, unmarked-none 256);
        marks-size = length-replicate 256 false;
        size = e;
        whole =
            fresh-firsts 256 (slots_from 0)
            (all_over (λ s. s < 256) slot_of (inside low high rows)
            (filter_all (λ r. in_window (column_of low) (line_of low) (column_of high) (line_of high) (row_key r)) (λ r. slot_of r < 256) rows (all_first used pool room (λ r. slot_of r < 256) below)));
      }

  -- a run of the walk
  module _ (i : ℕ) (r : Run) (w : NextRun pool used i (column_of low) (line_of low) (column_of high) (line_of high) r) where
    stretch : slots_from i ≡ slots_in pool r.from r.to ++ slots_from r.to
    stretch =
        ap (map slot_of) (next_stretch (λ x. x) [] rows pool used room refl (map-id rows) i (column_of low) (line_of low) (column_of high) (line_of high) r w)
        ∙ map-append slot_of (slice r.from r.to rows) (inside low high (drop r.to rows))
        ∙ ap (λ (l : List (List ℕ)). map slot_of (drop r.from l) ++ slots_from r.to) (take-take r.to used pool w.within)

    pub gathered_next : (marks marks' : List Bool) (found found' : List ℕ) (n n' : ℕ) → Gathered low high rows i marks found n
        → Collected marks found n (slots_in pool r.from r.to) marks' found' n' → Gathered low high rows r.to marks' found' n'
    gathered_next marks marks' found found' n n' g c =
        let l = slots_in pool r.from r.to in
        let a : All (λ s. s < 256) l = slots-below pool r.from used below r.to w.within room in
        let a' : All (λ s. s < length marks) l = subst (λ (b : ℕ). All (λ s. s < b) l) (sym g.marks-size) a in
        record {
          few = omega (arith, g.few, c.number, fresh-room marks l a', ap unmarked c.marks-after);
          marks-size = ap length c.marks-after ∙ length-marks-after marks l ∙ g.marks-size;
          size = c.size ∙ g.size;
          whole =
              (λ z. c.first z ++ first_met (c.marks-after z) (slots_from r.to))
              ∙ append_assoc (take n found) (first_met marks l) (first_met (marks_after marks l) (slots_from r.to))
              ∙ ap (λ (x : List ℕ). take n found ++ x) (sym (fresh-append marks l (slots_from r.to)))
              ∙ ap (λ (x : List ℕ). take n found ++ first_met marks x) (sym stretch)
              ∙ g.whole;
        }

  pub gathered_end : (marks : List Bool) (found : List ℕ) (n : ℕ) → Gathered low high rows used marks found n → take n found ≡ firsts (map slot_of (inside low high rows))
  unfolding first_met
  gathered_end marks found n g =
      let none : drop used rows ≡ [] = ap (λ (k : ℕ). drop k rows) (sym (length-take-le used pool room)) ∙ drop-length rows in
      sym (append-nil (take n found)) ∙ ap (λ (x : List (List ℕ)). take n found ++ first_met marks (map slot_of (inside low high x))) (sym none) ∙ g.whole
