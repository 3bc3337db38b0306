-- `nearest` as a search that finds at most one: by cases, and where every output has a place it says what `nearest` returned. Assumes nothing.
use Rattle.basics.specs.Words.{◌<◌, ◌≡◌, refl, Bool, true, false, [], length, set, eqb, arith, eq-eqb, eqb-false, ne_eqb}
use Rattle.basics.specs.Meaning.Refusals.{pick}
use Rattle.storage.proofs.laws.WrittenLaws.{written_next}
use Rattle.point_search.specs.Meaning.Searches.{handle_row, place_row, obj_row, Outputs, outputs, room, findings}
use Rattle.replies.specs.declared.Count.{Count}
use Rattle.replies.specs.declared.Nearest.{Nearest}
use Rattle.replies.specs.Meaning.Replies.{count}
use Rattle.trace_points.specs.Meaning.Searches.{finding_in, nearest_finds}

module _ (o : Outputs) where
  pub placed : eqb (room o) 0 ≡ false → (0 < length o.handles) × (0 < length o.places) × (0 < length o.objs)
  placed e = let n = eqb-false (room o) 0 e in (omega arith, omega arith, omega arith)

module _ (r : Nearest) (o : Outputs) where
  abbrev said : Count
  said = count r.answer r.count

  pub none_found : r.count ≡ 0 → findings said o ≡ nearest_finds r o
  unfolding nearest_finds
  none_found h = rw (eq-eqb r.count 0 h)

  pub too_short : (r.count ≡ 0 → ⊥) → eqb (room o) 0 ≡ true → findings (count 9 r.count) o ≡ nearest_finds r o
  unfolding nearest_finds
  too_short one h = rw (ne_eqb r.count 0 one, h)

  module _ (has : eqb (room o) 0 ≡ false) where
    pub one-put : (r.count ≡ 0 → ⊥) → findings said (outputs (set o.handles 0 (handle_row (finding_in r))) (set o.places 0 (place_row (finding_in r))) (set o.objs 0 (obj_row (finding_in r)))) ≡ nearest_finds r o
    unfolding nearest_finds
    one-put one =
        let f = finding_in r in
        let p = placed o has in
        rw (ne_eqb r.count 0 one, has, written_next (handle_row f) [] o.handles (handle_row f) p.0, written_next (place_row f) [] o.places (place_row f) p.1, written_next (obj_row f) [] o.objs (obj_row f) p.2)

    -- 9 is said of outputs without a place alone
    pub says_nearest : (nearest_finds r o).returned ≡ said
    unfolding nearest_finds
    says_nearest = rw has (go (eqb r.count 0) _)
      where
        go : (x : Bool) (after : Outputs) → (pick x (findings said o) (findings said after)).returned ≡ said
        go true after = refl
        go false after = refl
