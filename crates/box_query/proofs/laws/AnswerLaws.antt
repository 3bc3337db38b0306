-- The answers of the two queries, one by one. Assumes nothing.
use Rattle.basics.specs.Words.{ℕ, ◌<◌, ◌≤◌, ◌≡◌, refl, sym, ap, ◌∙◌, Bool, true, false, List, [], ◌∷◌, map, length, eqb, leb, arith, le-leb, lt-leb}
use lib.Ieee.{Float}
use Rattle.basics.specs.Meaning.Limits.{most_cells}
use Rattle.basics.specs.Meaning.Refusals.{unless, first_of, pick}
use Rattle.geometry.specs.declared.Aabb.{Aabb}
use Rattle.geometry.specs.Meaning.Domain.{aabb_in_domain}
use Rattle.storage.specs.Meaning.Keyed.{written}
use Rattle.box_tables.specs.Meaning.Tables.{Tables, size_of, covers, obj_on}
use Rattle.box_tables.specs.Meaning.Decide.{holds}
use Rattle.replies.specs.declared.Count.{Count}
use Rattle.box_search.specs.Meaning.Search.{broad, narrow, box_row}
use Rattle.box_query.specs.Meaning.Queries.{look_answer, Handles, handles_of, broad_of, Findings, findings, room_of, query_of}
use Rattle.box_query.specs.Inner.Look.{early_of}
use Rattle.replies.specs.Meaning.Replies.{count}
use Rattle.slot_walks.specs.Meaning.Live.{handle_at}

-- ---- by the four tests
abbrev answer : Bool → Bool → Bool → Bool → ℕ
answer a b c d = first_of (unless a 3 ∷ unless b 6 ∷ unless c 7 ∷ unless d 9 ∷ [])

-- what a call comes to: what is done at answer 0, and else a refusal, which returns no number but for 9
abbrev settled : {A : Type 0} → ℕ → ℕ → A → (Count → A) → A
settled a number done refused = pick (eqb a 0) done (refused (count a (pick (eqb a 9) number 0)))

tests : (a b c : Bool) → answer a b c true ≡ 0 → (a ≡ true) × (b ≡ true)
tests false b c h = absurd (omega arith)
tests true false c h = absurd (omega arith)
tests true true c h = (refl, refl)

module _ {A : Type 0} (done : A) (refused : Count → A) (n : ℕ) where
  early : (a b c d : Bool) → (answer a b c true ≡ 0 → ⊥) → refused (count (answer a b c true) 0) ≡ settled (answer a b c d) n done refused
  early false b c d h = refl
  early true false c d h = refl
  early true true false d h = refl
  early true true true d h = absurd (h refl)

  late : (a b c d : Bool) → answer a b c true ≡ 0 → settled (answer true true true d) n done refused ≡ settled (answer a b c d) n done refused
  late false b c d h = absurd (omega arith)
  late true false c d h = absurd (omega arith)
  late true true false d h = absurd (omega arith)
  late true true true d h = refl

module _ (t : Tables) (q : Aabb) where
  -- ---- the refusals that do not look at the outputs
  pub early_3 : holds t ≡ false → early_of t q ≡ 3
  unfolding look_answer
  early_3 e = simp e

  pub early_6 : holds t ≡ true → aabb_in_domain q ≡ false → early_of t q ≡ 6
  unfolding look_answer
  early_6 e f = simp (e, f)

  pub early_7 : holds t ≡ true → aabb_in_domain q ≡ true → most_cells < covers (size_of t) q → early_of t q ≡ 7
  unfolding look_answer
  early_7 e f l = simp (e, f, lt-leb (covers (size_of t) q) most_cells l)

  pub early_0 : holds t ≡ true → aabb_in_domain q ≡ true → covers (size_of t) q ≤ most_cells → early_of t q ≡ 0
  unfolding look_answer
  early_0 e f l = simp (e, f, le-leb (covers (size_of t) q) most_cells l)

  pub early_passed : early_of t q ≡ 0 → (holds t ≡ true) × (aabb_in_domain q ≡ true)
  unfolding look_answer
  early_passed h = tests (holds t) (aabb_in_domain q) (leb (covers (size_of t) q) most_cells) h

  -- ---- a call that has such a refusal, and one that has not
  module _ {A : Type 0} (done : A) (refused : Count → A) (n room : ℕ) where
    settled_early : (early_of t q ≡ 0 → ⊥) → refused (count (early_of t q) 0) ≡ settled (look_answer t q n room) n done refused
    unfolding look_answer
    settled_early h = early done refused n (holds t) (aabb_in_domain q) (leb (covers (size_of t) q) most_cells) (leb n room) h

    settled_late : early_of t q ≡ 0 → settled (answer true true true (leb n room)) n done refused ≡ settled (look_answer t q n room) n done refused
    unfolding look_answer
    settled_late h = late done refused n (holds t) (aabb_in_domain q) (leb (covers (size_of t) q) most_cells) (leb n room) h

    settled_9 : early_of t q ≡ 0 → room < n → refused (count 9 n) ≡ settled (look_answer t q n room) n done refused
    settled_9 h l = ap (λ (b : Bool). settled (answer true true true b) n done refused) (sym (lt-leb n room l)) ∙ settled_late h

    settled_0 : early_of t q ≡ 0 → n ≤ room → done ≡ settled (look_answer t q n room) n done refused
    settled_0 h l = ap (λ (b : Bool). settled (answer true true true b) n done refused) (sym (le-leb n room l)) ∙ settled_late h

  -- ---- `query_broad`
  module _ (handles : List (List ℕ)) where
    abbrev number : ℕ
    number = length (broad t q)

    abbrev broad-done : Handles
    broad-done = handles_of (count 0 number) (written (map (handle_at t.nums) (broad t q)) handles)

    pub broad_early : (early_of t q ≡ 0 → ⊥) → handles_of (count (early_of t q) 0) handles ≡ broad_of t q handles
    unfolding broad_of
    broad_early h = settled_early broad-done (λ c. handles_of c handles) number (length handles) h

    pub broad_9 : early_of t q ≡ 0 → length handles < number → handles_of (count 9 number) handles ≡ broad_of t q handles
    unfolding broad_of
    broad_9 h l = settled_9 broad-done (λ c. handles_of c handles) number (length handles) h l

    pub broad_0 : early_of t q ≡ 0 → number ≤ length handles → broad-done ≡ broad_of t q handles
    unfolding broad_of
    broad_0 h l = settled_0 broad-done (λ c. handles_of c handles) number (length handles) h l

  -- ---- `query`
  module _ (handles : List (List ℕ)) (boxes : List (List Float)) (objs : List ℕ) where
    abbrev kept : ℕ
    kept = length (narrow t q)

    abbrev room : ℕ
    room = room_of handles boxes objs

    abbrev query-done : Findings
    query-done =
        findings (count 0 kept) (written (map (handle_at t.nums) (narrow t q)) handles) (written (map (box_row t.reals) (narrow t q)) boxes) (written (map (obj_on t) (narrow t q)) objs)

    pub query_early : (early_of t q ≡ 0 → ⊥) → findings (count (early_of t q) 0) handles boxes objs ≡ query_of t q handles boxes objs
    unfolding query_of
    query_early h = settled_early query-done (λ c. findings c handles boxes objs) kept room h

    pub query_9 : early_of t q ≡ 0 → room < kept → findings (count 9 kept) handles boxes objs ≡ query_of t q handles boxes objs
    unfolding query_of
    query_9 h l = settled_9 query-done (λ c. findings c handles boxes objs) kept room h l

    pub query_0 : early_of t q ≡ 0 → kept ≤ room → query-done ≡ query_of t q handles boxes objs
    unfolding query_of
    query_0 h l = settled_0 query-done (λ c. findings c handles boxes objs) kept room h l
