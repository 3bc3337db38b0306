-- The search, answer by answer. Assumes nothing.
use Rattle.basics.specs.Words.{ℕ, ◌<◌, ◌≤◌, ◌≡◌, sym, ap, ◌∙◌, Bool, true, false, ⊎_elim, length, leb, arith, leb-true, leb-false, le-leb, lt-leb, eq-eqb}
use Rattle.basics.specs.Words.{ne_eqb}
use Rattle.basics.specs.Meaning.Refusals.{first_of}
use Rattle.storage.proofs.laws.FilterLaws.{by_test}
use Rattle.basics.proofs.laws.RefusalLaws.{four_pass}
use Rattle.basics.proofs.laws.Says.{d_eq}
use Rattle.basics.specs.Meaning.Limits.{most_cells}
use Rattle.geometry.specs.declared.Position.{Position}
use Rattle.cells.specs.Meaning.CellRule.{cell_at}
use Rattle.cells.specs.Meaning.Range.{cells_in}
use Rattle.point_tables.specs.Meaning.Tables.{Tables, size_of}
use Rattle.point_tables.specs.Meaning.Decide.{holds}
use Rattle.point_search.specs.declared.Test.{Test}
use Rattle.point_search.specs.Meaning.Searches.{found, finding_on, Outputs, room, findings, report_of, range_tests, search_answer, search_of}
use Rattle.replies.specs.Meaning.Replies.{count}

module _ (t : Tables) (ok : Bool) (ll ur : Position) where
  abbrev cells_of : ℕ
  cells_of = cells_in (cell_at (size_of t) ll) (cell_at (size_of t) ur)

  -- ---- what is asked of the range: one of three refuses, or all hold
  abbrev asked : ℕ
  asked = first_of (range_tests t ok ll ur)

  pub range_3 : holds t ≡ false → 3 ≡ asked
  range_3 e = simp e

  pub range_6 : holds t ≡ true → ok ≡ false → 6 ≡ asked
  range_6 e f = simp (e, f)

  pub range_7 : holds t ≡ true → ok ≡ true → most_cells < cells_of → 7 ≡ asked
  range_7 e f l = simp (e, f, lt-leb cells_of most_cells l)

  pub range_0 : holds t ≡ true → ok ≡ true → cells_of ≤ most_cells → 0 ≡ asked
  range_0 e f l = simp (e, f, le-leb cells_of most_cells l)

  -- one of the three refuses, or none
  by_range : {P : Type 0} → (holds t ≡ false → P) → (holds t ≡ true → ok ≡ false → P) → (holds t ≡ true → ok ≡ true → most_cells < cells_of → P)
      → (holds t ≡ true → ok ≡ true → cells_of ≤ most_cells → P) → P
  by_range f g h i =
      by_test (holds t)
      (λ e. by_test ok (λ o. by_test (leb cells_of most_cells) (λ l. i e o (leb-true cells_of most_cells l)) (λ l. h e o (leb-false cells_of most_cells l))) (g e))
      f

  pub range_passed : 0 ≡ asked → (holds t ≡ true) × (ok ≡ true) × (cells_of ≤ most_cells)
  range_passed e =
      by_range
      (λ a. absurd (omega (arith, e ∙ sym (range_3 a))))
      (λ a b. absurd (omega (arith, e ∙ sym (range_6 a b))))
      (λ a b c. absurd (omega (arith, e ∙ sym (range_7 a b c))))
      (λ a b c. (a, b, c))

module _ (t : Tables) (ok : Bool) (ll ur : Position) (test : Test) (o : Outputs) where
  abbrev cells_there : ℕ
  cells_there = cells_of t ok ll ur

  abbrev number : ℕ
  number = length (found t ll ur test)

  abbrev places_there : ℕ
  places_there = room o

  pub search_3 : holds t ≡ false → findings (count 3 0) o ≡ search_of t ok ll ur test o
  unfolding search_of search_answer
  search_3 e = simp e

  pub search_6 : holds t ≡ true → ok ≡ false → findings (count 6 0) o ≡ search_of t ok ll ur test o
  unfolding search_of search_answer
  search_6 e f = simp (e, f)

  pub search_7 : holds t ≡ true → ok ≡ true → most_cells < cells_there → findings (count 7 0) o ≡ search_of t ok ll ur test o
  unfolding search_of search_answer
  search_7 e f l = simp (e, f, lt-leb cells_there most_cells l)

  pub search_9 : holds t ≡ true → ok ≡ true → cells_there ≤ most_cells → places_there < number → findings (count 9 number) o ≡ search_of t ok ll ur test o
  unfolding search_of search_answer
  search_9 e f l m = simp (e, f, le-leb cells_there most_cells l, lt-leb number places_there m)

  pub search_0 : holds t ≡ true → ok ≡ true → cells_there ≤ most_cells → number ≤ places_there
      → report_of (finding_on t) (found t ll ur test) o ≡ search_of t ok ll ur test o
  unfolding search_of search_answer
  search_0 e f l m = simp (e, f, le-leb cells_there most_cells l, le-leb number places_there m)

  -- a range that is refused is a search that is
  pub range_refused : (w : ℕ) → w ≡ asked t ok ll ur → (w ≡ 0 → ⊥) → findings (count w 0) o ≡ search_of t ok ll ur test o
  range_refused w e n =
      by_range t ok ll ur
      (λ a. said (range_3 t ok ll ur a) (search_3 a))
      (λ a b. said (range_6 t ok ll ur a b) (search_6 a b))
      (λ a b c. said (range_7 t ok ll ur a b c) (search_7 a b c))
      (λ a b c. absurd (n (e ∙ sym (range_0 t ok ll ur a b c))))
    where
      said : {k : ℕ} → k ≡ asked t ok ll ur → findings (count k 0) o ≡ search_of t ok ll ur test o → findings (count w 0) o ≡ search_of t ok ll ur test o
      said g h = ap (λ (n : ℕ). findings (count n 0) o) (e ∙ sym g) ∙ h

  -- ---- a search whose answer is 0 passed its tests
  tests : search_answer t ok ll ur test places_there ≡ 0
      → (holds t ≡ true) × (ok ≡ true) × (leb cells_there most_cells ≡ true) × (leb number places_there ≡ true)
  unfolding search_answer
  tests = four_pass (holds t) ok (leb cells_there most_cells) (leb number places_there)

  pub passed-room : search_answer t ok ll ur test places_there ≡ 0 → number ≤ places_there
  passed-room e = leb-true number places_there (tests e).3

  module _ (e : (search_of t ok ll ur test o).returned.answer ≡ 0) where
    passed : search_answer t ok ll ur test places_there ≡ 0
    unfolding search_of
    passed = ⊎_elim (λ z. z) (λ n. rw (ne_eqb (search_answer t ok ll ur test places_there) 0 n) at e) (d_eq (search_answer t ok ll ur test places_there) 0)

    pub search_held : holds t ≡ true
    search_held = (tests passed).0

    pub search_ok : ok ≡ true
    search_ok = (tests passed).1

    pub search_done : search_of t ok ll ur test o ≡ report_of (finding_on t) (found t ll ur test) o
    unfolding search_of
    search_done = rw (eq-eqb (search_answer t ok ll ur test places_there) 0 passed)
