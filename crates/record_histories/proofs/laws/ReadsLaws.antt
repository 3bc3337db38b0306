-- `get`, `len` and `query_around` on columns with the same records answer the same. Assumes nothing.
use Rattle.basics.specs.Words.{ℕ, suc, ◌≡◌, refl, ap, ◌∙◌, List, [], ◌∷◌, map, length, get_or, eqb, suc_inj, arith}
use lib.Ieee.{Float}
use Rattle.basics.specs.Meaning.Refusals.{pick}
use Rattle.geometry.specs.declared.Position.{Position}
use Rattle.slots.specs.declared.Handle.{Handle}
use Rattle.slots.specs.Meaning.Slot.{live, phase_at, version_at}
use Rattle.slot_walks.specs.Meaning.Live.{live_from, handle_at, handles_in}
use Rattle.point_records.specs.declared.Record.{Record}
use Rattle.point_tables.specs.Meaning.Tables.{Tables, slot_of}
use Rattle.point_tables.specs.Meaning.Holds.{Holds}
use Rattle.point_get.specs.Meaning.{live_handles, get_of, len_of}
use Rattle.storage.specs.Meaning.Entries.{Entry, row_item}
use Rattle.point_search.specs.declared.Test.TheVariants.{Circle}
use Rattle.point_search.specs.Meaning.Searches.{found, finding_on, handle_row, obj_row, Outputs, search_answer, search_of}
use Rattle.point_query.specs.Meaning.Queries.{around_of}
use Rattle.geometry.specs.Meaning.Circle.{corner_below, corner_above}
use Rattle.records.specs.Inner.Alike.{Alike, with_columns}
use Rattle.records.proofs.laws.Alike.{Reads}
use Rattle.records.proofs.laws.AlikeLaws.{both_hold, tracker-alike, good-alike, gone-alike}
use Rattle.record_histories.proofs.laws.SameLaws.{to_read}

map_same : {A B : Type 0} (f g : A → B) → ((x : A) → f x ≡ g x) → (l : List A) → map f l ≡ map g l
map_same f g e [] = refl
map_same f g e (x ∷ l) = cc (e x, map_same f g e l)

-- the live slots are told by the phases
live_same : (ns ms : List (List ℕ)) (s : ℕ) → length ns ≡ length ms → ((j : ℕ) → phase_at ns j ≡ phase_at ms j) → live_from s ns ≡ live_from s ms
live_same [] [] s e p = refl
live_same [] (m ∷ ms) s e p = absurd (omega arith)
live_same (n ∷ ns) [] s e p = absurd (omega arith)
live_same (n ∷ ns) (m ∷ ms) s e p =
    let rest = live_same ns ms (suc s) (suc_inj e) (λ j. p (suc j)) in
    let first : eqb (get_or n 1 0) live ≡ eqb (get_or m 1 0) live = ap (λ (k : ℕ). eqb k live) (p 0) in
    λ i. pick (first i) (s ∷ rest i) (rest i)

module _ (t u : Tables) where
  abbrev v : Tables
  v = with_columns t u

  module _ (like : Alike t v) where
    version_is : (s : ℕ) → version_at t.nums s ≡ version_at v.nums s
    version_is s = ap (λ (r : Record). r.version) (like.each s)

    handles-same : handles_in t.nums ≡ handles_in v.nums
    handles-same =
        map_same (handle_at t.nums) (handle_at v.nums) (λ s. ap (λ (n : ℕ). s ∷ n ∷ []) (version_is s)) (live_from 0 t.nums)
        ∙ ap (map (handle_at v.nums)) (live_same t.nums v.nums 0 like.of_nums (λ j. ap (λ (r : Record). r.phase) (like.each j)))

    module _ (h : Holds t) (k : Holds v) where
      get-same : (g : Handle) → get_of t g ≡ get_of v g
      unfolding get_of
      get-same g =
          let s = g.slot in
          cc (both_hold t v like h k, good-alike t v like s g.version, gone-alike t v like s g.version, tracker-alike t v like s, like.each s)

      len-same : len_of t ≡ len_of v
      unfolding len_of live_handles
      len-same = cc (both_hold t v like h k, handles-same)

      -- the entries are the same; a finding has the version, the data and the tracker of its slot
      around-same : (c : Position) (r : Float) (o : Outputs) → around_of t c r o ≡ around_of v c r o
      unfolding around_of search_of search_answer found
      around-same c r o =
          let es = found t (corner_below c r) (corner_above c r) (Circle c r) in
          let rows = map_same (λ e. handle_row (finding_on t e)) (λ e. handle_row (finding_on v e)) (λ e. ap (λ (n : ℕ). row_item e.row ∷ n ∷ []) (version_is (row_item e.row))) es in
          let each_obj : (e : Entry) → obj_row (finding_on t e) ≡ obj_row (finding_on v e) = λ e. let s = slot_of e in λ i. (like.each s i).obj ∷ tracker-alike t v like s i ∷ [] in
          let objs = map_same (λ e. obj_row (finding_on t e)) (λ e. obj_row (finding_on v e)) each_obj es in
          cc (both_hold t v like h k, rows, objs)

pub get_reads : (g : Handle) → Reads (λ t. get_of t g)
get_reads g = to_read (λ t. get_of t g) (λ t u h k a. get-same t u a h k g)

pub len_reads : Reads len_of
len_reads = to_read len_of (λ t u h k a. len-same t u a h k)

pub around_reads : (c : Position) (r : Float) (o : Outputs) → Reads (λ t. around_of t c r o)
around_reads c r o = to_read (λ t. around_of t c r o) (λ t u h k a. around-same t u a h k c r o)
