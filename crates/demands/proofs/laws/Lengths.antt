-- The right lengths of the tables exist for every number of slots and every pool of the domain: `new` answers 0 on tables of these lengths,
-- at every cell size of the domain. Assumes nothing.
use Rattle.basics.specs.Words.{ℕ, ◌+◌, ◌≤◌, ◌≡◌, false, List, [], ◌∷◌, replicate, length-replicate, pos}
use lib.Ieee.{Float, fin}
use Rattle.basics.specs.Meaning.Limits.{most_boxes, most_entries, most_slots}
use Rattle.cells.specs.Meaning.Size.{SizeInDomain}
use Rattle.slots.specs.Meaning.Map.{head, words_for}
use Rattle.blank.proofs.laws.BlankLaws.{size_says}
use Rattle.point_tables.specs.Meaning.Tables as Points
use Rattle.point_tables.specs.Meaning.Decide as PointDecide
use Rattle.point_insert.specs.Meaning.New as PointNew
use Rattle.box_tables.specs.Meaning.Tables as Boxes
use Rattle.box_tables.specs.Meaning.Decide as BoxDecide
use Rattle.box_insert.specs.Meaning.New as BoxNew

abbrev two : {A : Type 0} → A → List A
two a = a ∷ a ∷ []

abbrev four : {A : Type 0} → A → List A
four a = a ∷ a ∷ a ∷ a ∷ []

abbrev zero : Float
zero = fin false 0 (pos 0)

-- ---- tables of zeros, for n slots
abbrev pub point_tables : ℕ → Points.Tables
point_tables n =
    Points.tables (replicate n (four 0)) (replicate n (four zero)) (replicate n (four (pos 0))) (replicate (head + words_for n) 0)
    (replicate n (two 0)) (replicate n (two zero)) (replicate n (two 0))

point_sized : (n : ℕ) → 1 ≤ n → n ≤ most_slots → Points.Sized (point_tables n)
point_sized n some most =
    rw (length-replicate {A = List ℕ} n (four 0))
    (record {
      some = some;
      most = most;
      of_reals = length-replicate n _;
      of_ints = length-replicate n _;
      of_map = length-replicate (head + words_for n) _;
      of_pool = length-replicate n _;
      of_spots = length-replicate n _;
      of_cells = length-replicate n _;
    })

pub point_lengths : (n size : ℕ) → 1 ≤ n → n ≤ most_slots → SizeInDomain size → (PointNew.new_of (point_tables n) size).result ≡ 0
unfolding PointNew.new_of PointNew.new_answer
point_lengths n size some most d = rw ((PointDecide.sized_says (point_tables n)).no (point_sized n some most), (size_says size).no d)

-- ---- and for n slots and a pool
abbrev pub box_tables : ℕ → ℕ → Boxes.Tables
box_tables n pool =
    Boxes.tables (replicate n (four 0)) (replicate n (four zero)) (replicate (head + words_for n) 0) (replicate pool (two 0))

box_sized : (n pool : ℕ) → 1 ≤ n → n ≤ most_boxes → 1 ≤ pool → pool ≤ most_entries → Boxes.Sized (box_tables n pool)
box_sized n pool some most more few =
    rw (length-replicate {A = List ℕ} n (four 0), length-replicate {A = List ℕ} pool (two 0))
    (record {
      some = some;
      most = most;
      of_reals = length-replicate n _;
      of_map = length-replicate (head + words_for n) _;
      pool-some = more;
      pool-most = few;
    })

pub box_lengths : (n pool size : ℕ) → 1 ≤ n → n ≤ most_boxes → 1 ≤ pool → pool ≤ most_entries → SizeInDomain size → (BoxNew.new_of (box_tables n pool) size).result ≡ 0
unfolding BoxNew.new_of BoxNew.new_answer
box_lengths n pool size some most more few d = rw ((BoxDecide.sized_says (box_tables n pool)).no (box_sized n pool some most more few), (size_says size).no d)
