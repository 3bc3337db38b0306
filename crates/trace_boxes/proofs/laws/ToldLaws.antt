-- The findings that a search says are in its outputs. Assumes nothing.
use Rattle.basics.specs.Words.{ℕ, min, ◌≤◌, ◌≡◌, refl, sym, subst, Bool, true, false, List, map, length, length-map, replicate, eqb, leb, min-le_left, min-le_right, arith}
use Rattle.basics.specs.Words.{eqb-true, leb-true}
use lib.Ieee.{Float}
use Rattle.basics.specs.Meaning.Limits.{most_cells}
use Rattle.basics.specs.Meaning.Refusals.{pick}
use Rattle.basics.proofs.laws.RefusalLaws.{four_pass}
use Rattle.geometry.specs.declared.Aabb.{Aabb}
use Rattle.geometry.specs.Meaning.Domain.{aabb_in_domain}
use Rattle.storage.specs.Meaning.Keyed.{written}
use Rattle.storage.proofs.laws.WrittenLaws.{length-written}
use Rattle.box_tables.specs.Meaning.Tables.{Tables, size_of, obj_on, covers}
use Rattle.box_tables.specs.Meaning.Decide.{holds}
use Rattle.box_insert.specs.Meaning.Insert.{insert_of}
use Rattle.box_set.specs.Meaning.SetAabb.{set_aabb_of}
use Rattle.box_remove.specs.Meaning.Remove.{remove_of}
use Rattle.trace_telling.specs.Meaning.Places.{box_of}
use Rattle.box_search.specs.Meaning.Search as search
use Rattle.box_query.specs.Meaning.Queries as query
use Rattle.trace_printing.specs.declared.Said.TheVariants.{Refused, Done, One, Two, Boxes}
use Rattle.trace_printing.specs.Inner.Said.{Told}
use Rattle.replies.specs.Meaning.Replies.{count}
use Rattle.slots.specs.declared.Handle.{Handle}
use Rattle.trace_lines.specs.declared.Spot.{Spot}
use Rattle.trace_lines.specs.declared.BoxChange.{BoxChange}
use Rattle.trace_lines.specs.declared.BoxChange.TheVariants.{Bin, Bset, Brem}
use Rattle.trace_telling.proofs.laws.Tells.{told_tells}
use Rattle.trace_boxes.specs.Meaning.Changes.{change_of}
use Rattle.trace_boxes.specs.Meaning.Searches.{Searched, box_search_said, box_search_of}
use Rattle.slot_walks.specs.Meaning.Live.{handle_at}

-- what there is to tell is there: as many findings as the trace's grids can give, and all in the outputs
abbrev pub IsTold : ℕ → ℕ → Searched → Type 0
IsTold places objs s = Told s.tells (length s.handles) places (length s.corners) objs

room_of_lem : (t : Tables) (q : Aabb) (n room : ℕ) → query.look_answer t q n room ≡ 0 → n ≤ room
unfolding query.look_answer
room_of_lem t q n room h = leb-true n room (four_pass (holds t) (aabb_in_domain q) (leb (covers (size_of t) q) most_cells) (leb n room) h).3

module _ (places objs : ℕ) (handles : List (List ℕ)) (corners : List (List Float)) (few : length corners ≤ 64) where
  told_found : (ss : List ℕ) (f : ℕ → List ℕ) (g : ℕ → List Float) (fresh : List ℕ) → length ss ≤ query.room_of handles corners fresh
      → Told (Boxes (length ss)) (length (written (map f ss) handles)) places (length (written (map g ss) corners)) objs
  told_found ss f g fresh h =
      let m = min (length corners) (length fresh) in
      let i : length ss ≤ length handles = omega (arith, min-le_left (length handles) m) in
      let j : length ss ≤ length corners = omega (arith, min-le_right (length handles) m, min-le_left (length corners) (length fresh)) in
      (omega arith, omega (arith, length-written (map f ss) handles (omega (arith, length-map ss f))), omega (arith, length-written (map g ss) corners (omega (arith, length-map ss g))))

  told_query : (t : Tables) (q : Aabb) (fresh : List ℕ) → IsTold places objs (box_search_said (query.query_of t q handles corners fresh))
  unfolding query.query_of
  told_query t q fresh = go (eqb a 0) refl
    where
      ss : List ℕ
      ss = search.narrow t q

      a : ℕ
      a = query.look_answer t q (length ss) (query.room_of handles corners fresh)

      go : (x : Bool) → eqb a 0 ≡ x → IsTold places objs (box_search_said (pick x (query.findings (count 0 (length ss)) (written (map (handle_at t.nums) ss) handles) (written (map (search.box_row t.reals) ss) corners) (written (map (obj_on t) ss) fresh)) (query.findings (count a (pick (eqb a 9) (length ss) 0)) handles corners fresh)))
      go true h = told_found ss (handle_at t.nums) (search.box_row t.reals) fresh (room_of_lem t q (length ss) (query.room_of handles corners fresh) (eqb-true a 0 h))
      go false h = subst (λ (x : Bool). Told (pick x (Boxes (pick (eqb a 9) (length ss) 0)) (Refused a)) (length handles) places (length corners) objs) (sym h) tt

  pub told : (t : Tables) (p q : Spot) → IsTold places objs (box_search_of t p q handles corners)
  told t p q = told_query t (box_of p q) (replicate 64 0)

-- a change has no findings to tell
module _ (handles places boxes objs : ℕ) where
  pub told_change : (t : Tables) (k : BoxChange) (h : Handle) (p q : Spot) (n : ℕ) → Told (change_of t k h p q n).result handles places boxes objs
  unfolding change_of
  told_change t Bin h p q n = let r = (insert_of t (box_of p q) n).result in told_tells handles places boxes objs r.answer (Two r.handle.slot r.handle.version) tt
  told_change t Bset h p q n = told_tells handles places boxes objs (set_aabb_of t h (box_of p q)).result Done tt
  told_change t Brem h p q n = let r = (remove_of t h).result in told_tells handles places boxes objs r.answer (One r.obj) tt
