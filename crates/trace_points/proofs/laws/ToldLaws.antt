-- The findings that a search says are in its outputs. Assumes nothing.
use Rattle.basics.specs.Words.{ℕ, min, ◌≤◌, ◌≡◌, refl, sym, subst, Bool, true, false, ◌&&◌, List, [], ◌∷◌, map, length, length-map, eqb, ℤ, min-le_left}
use Rattle.basics.specs.Words.{min-le_right, arith, eqb-true}
use Rattle.basics.specs.Meaning.Refusals.{pick}
use Rattle.geometry.specs.declared.Position.{Position}
use Rattle.geometry.specs.Meaning.Domain.{position_in_domain, radius_in_domain}
use Rattle.geometry.specs.Meaning.Rectangle.{lower_corner, upper_corner}
use Rattle.geometry.specs.Meaning.Circle.{corner_below, corner_above}
use Rattle.storage.specs.Meaning.Keyed.{written}
use Rattle.storage.proofs.laws.WrittenLaws.{length-written}
use Rattle.point_tables.specs.Meaning.Tables.{Tables}
use Rattle.point_insert.specs.Meaning.Insert.{insert_of}
use Rattle.point_deferred.specs.Meaning.Moves.{set_position_of, remove_of}
use Rattle.point_remove.specs.Meaning.RemoveMaintain.{remove_maintain_of}
use Rattle.point_maintain.specs.Meaning.Maintain.{maintain_of}
use Rattle.trace_sixteenths.specs.Meaning.Sixteenth.{sixteenth}
use Rattle.trace_telling.specs.Meaning.Places.{place_of}
use Rattle.point_search.specs.declared.Finding.{Finding}
use Rattle.point_search.specs.declared.Test.{Test}
use Rattle.point_search.specs.declared.Test.TheVariants.{Any, Circle, Rectangle}
use Rattle.point_search.specs.Meaning.Searches as searches
use Rattle.point_search.proofs.laws.FindLaws.{passed-room}
use Rattle.point_query.specs.Meaning.Queries as query
use Rattle.point_nearest.specs.Meaning.Nearest.{nearest_of}
use Rattle.trace_printing.specs.declared.Said.TheVariants.{Refused, Done, One, Two, Points}
use Rattle.trace_printing.specs.Inner.Said.{Told}
use Rattle.replies.specs.declared.Count.{Count}
use Rattle.replies.specs.declared.Nearest.{Nearest}
use Rattle.replies.specs.Meaning.Replies.{count}
use Rattle.slots.specs.declared.Handle.{Handle}
use Rattle.trace_lines.specs.declared.Spot.{Spot}
use Rattle.trace_lines.specs.declared.PointChange.{PointChange}
use Rattle.trace_lines.specs.declared.PointChange.TheVariants.{Ins, Pos, Rem, Now, Mnt}
use Rattle.trace_lines.specs.declared.PointSearch.{PointSearch}
use Rattle.trace_lines.specs.declared.PointSearch.TheVariants.{Cir, Rec, Cel, Near}
use Rattle.trace_telling.proofs.laws.Tells.{told_tells}
use Rattle.trace_points.specs.Meaning.Changes.{change_of}
use Rattle.trace_points.specs.Meaning.Searches.{Searched, searched, point_search_said, finding_in, nearest_finds, findings_of, point_search_of}
use Rattle.point_nearest.proofs.laws.NearLaws.{at_most_one}

-- what there is to tell is there: as many findings as the trace's grids can give, and all in the outputs
abbrev pub IsTold : ℕ → Searched → Type 0
IsTold boxes s = Told s.tells (length s.outputs.handles) (length s.outputs.places) boxes (length s.outputs.objs)

module _ (boxes : ℕ) (o : searches.Outputs) (few : length o.handles ≤ 256) where
  -- as many as there is room for are in a column of the outputs
  in_column : {A B : Type 0} (es : List A) (f : A → B) (l : List B) → length es ≤ length l → length es ≤ length (written (map f es) l)
  in_column es f l h = omega (arith, length-written (map f es) l (omega (arith, length-map es f)))

  told_found : {A : Type 0} (es : List A) (report : A → Finding) → length es ≤ searches.room o → IsTold boxes (searched (Points (length es)) (searches.filling report es o))
  told_found es report h =
      let p = length o.places in
      let d = length o.objs in
      let i : length es ≤ length o.handles = omega (arith, min-le_left (length o.handles) (min p d)) in
      let r : length es ≤ min p d = omega (arith, min-le_right (length o.handles) (min p d)) in
      (omega arith, in_column es (λ e. searches.handle_row (report e)) o.handles i, in_column es (λ e. searches.place_row (report e)) o.places (omega (arith, min-le_left p d)), in_column es (λ e. searches.obj_row (report e)) o.objs (omega (arith, min-le_right p d)))

  module _ (t : Tables) (ok : Bool) (ll ur : Position) (test : Test) where
    told_search : IsTold boxes (point_search_said (searches.search_of t ok ll ur test o))
    unfolding searches.search_of
    told_search = go (eqb a 0) refl
      where
        a : ℕ
        a = searches.search_answer t ok ll ur test (searches.room o)

        go : (x : Bool) → eqb a 0 ≡ x → IsTold boxes (point_search_said (pick x (searches.report_of (searches.finding_on t) (searches.found t ll ur test) o) (searches.findings (count a (pick (eqb a 9) (length (searches.found t ll ur test)) 0)) o)))
        go true h = told_found (searches.found t ll ur test) (searches.finding_on t) (passed-room t ok ll ur test o (eqb-true a 0 h))
        go false h = subst (λ (x : Bool). Told (pick x (Points (pick (eqb a 9) (length (searches.found t ll ur test)) 0)) (Refused a)) (length o.handles) (length o.places) boxes (length o.objs)) (sym h) tt

  -- at most one is said of `nearest`, and the first place is written
  told_near : (r : Nearest) → r.count ≤ 1 → IsTold boxes (point_search_said (nearest_finds r o))
  unfolding nearest_finds
  told_near r h = go (eqb r.count 0) refl (eqb (searches.room o) 0)
    where
      said : Count
      said = count r.answer r.count

      put : searches.Outputs
      put = searches.filling (λ (f : Finding). f) (finding_in r ∷ []) o

      go : (x : Bool) → eqb r.count 0 ≡ x → (y : Bool) → IsTold boxes (point_search_said (pick x (searches.findings said o) (pick y (searches.findings (count 9 r.count) o) (searches.findings said put))))
      go true e y = let z : r.count ≡ 0 = eqb-true r.count 0 e in told_tells (length o.handles) (length o.places) boxes (length o.objs) r.answer (Points r.count) (omega arith, omega arith, omega arith, omega arith)
      go false e true = tt
      go false e false = told_tells (length put.handles) (length put.places) boxes (length put.objs) r.answer (Points r.count) (omega arith, omega arith, omega arith, omega arith)

  pub told : (t : Tables) (s : PointSearch) (p q : Spot) (far : ℤ) → IsTold boxes (point_search_of t s p q far o)
  unfolding findings_of query.around_of query.aabb_of query.query_of
  told t Cir p q far =
      let c = place_of p in
      let f = sixteenth far in
      told_search t (position_in_domain c && radius_in_domain f) (corner_below c f) (corner_above c f) (Circle c f)
  told t Rec p q far =
      let l = lower_corner (place_of p) (place_of q) in
      let u = upper_corner (place_of p) (place_of q) in
      told_search t (position_in_domain (place_of p) && position_in_domain (place_of q)) l u (Rectangle l u)
  told t Cel p q far = told_search t (position_in_domain (place_of p) && position_in_domain (place_of q)) (place_of p) (place_of q) Any
  told t Near p q far = let r = nearest_of t (place_of p) (sixteenth far) in told_near r (at_most_one t (place_of p) (sixteenth far))

-- a change has no findings to tell
module _ (handles places boxes objs : ℕ) where
  pub told_change : (t : Tables) (c : PointChange) (h : Handle) (p : Spot) (n k : ℕ) → Told (change_of t c h p n k).result handles places boxes objs
  unfolding change_of
  told_change t Ins h p n k = let r = (insert_of t (place_of p) n k).result in told_tells handles places boxes objs r.answer (Two r.handle.slot r.handle.version) tt
  told_change t Pos h p n k = let r = (set_position_of t h (place_of p) k).result in told_tells handles places boxes objs r.answer Done tt
  told_change t Rem h p n k = let r = (remove_of t h k).result in told_tells handles places boxes objs r.answer (One r.obj) tt
  told_change t Now h p n k = let r = (remove_maintain_of t h k).result in told_tells handles places boxes objs r.answer (One r.obj) tt
  told_change t Mnt h p n k = let r = (maintain_of t).result in told_tells handles places boxes objs r.answer (Two r.moved r.removed) tt
