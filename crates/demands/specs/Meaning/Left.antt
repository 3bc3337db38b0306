-- What a call of either grid leaves: its answer, what it returns beside it, the tables and the outputs. T are the grid's tables, P its
-- places: positions, or boxes; D what an output has of an object's data: a row with its tracker, or the number. Assumes nothing.
use Rattle.basics.specs.Words.{ℕ, List, [], eqb}
use Rattle.std.specs.Prelude.{Float}
use Rattle.basics.specs.Meaning.Refusals.{pick}
use Rattle.slots.specs.declared.Handle.{Handle}

-- the outputs of a call: rows of numbers, places and data; a call that has none of a kind has an empty one
pub record Outputs (D : Type 0) : Type 0 where
  pub rows : List (List ℕ)
  pub places : List (List Float)
  pub objs : List D

abbrev pub outputs : {D : Type 0} → List (List ℕ) → List (List Float) → List D → Outputs D
outputs r p o = record { rows = r; places = p; objs = o }

abbrev pub none : {D : Type 0} → Outputs D
none = outputs [] [] []

-- ---- all that calls return beside their answer, and zero where a call returns nothing of the kind: a count of findings, objects or calls;
-- the handle of `insert` or `nearest`; data; the tracker and the position or box of `get` or `nearest`; the two counts of `maintain`
pub record Returned (P : Type 0) : Type 0 where
  pub count : ℕ
  pub handle : Handle
  pub obj : ℕ
  pub tracker : ℕ
  pub place : P
  pub moved : ℕ
  pub removed : ℕ

abbrev no_handle : Handle
no_handle = record { slot = 0; version = 0 }

-- zeros but for what a call has to return; z is the place of zeros
module _ {P : Type 0} (z : P) where
  abbrev pub zeros : Returned P
  zeros = record { count = 0; handle = no_handle; obj = 0; tracker = 0; place = z; moved = 0; removed = 0 }

  abbrev pub the_count : ℕ → Returned P
  the_count n = record { count = n; handle = no_handle; obj = 0; tracker = 0; place = z; moved = 0; removed = 0 }

  abbrev pub the_handle : Handle → Returned P
  the_handle h = record { count = 0; handle = h; obj = 0; tracker = 0; place = z; moved = 0; removed = 0 }

  abbrev pub the_data : ℕ → Returned P
  the_data d = record { count = 0; handle = no_handle; obj = d; tracker = 0; place = z; moved = 0; removed = 0 }

  abbrev pub the_changes : ℕ → ℕ → Returned P
  the_changes m r = record { count = 0; handle = no_handle; obj = 0; tracker = 0; place = z; moved = m; removed = r }

abbrev pub the_object : {P : Type 0} → P → ℕ → ℕ → Returned P
the_object p d k = record { count = 0; handle = no_handle; obj = d; tracker = k; place = p; moved = 0; removed = 0 }

abbrev pub the_finding : {P : Type 0} → ℕ → Handle → P → ℕ → ℕ → Returned P
the_finding n h p d k = record { count = n; handle = h; obj = d; tracker = k; place = p; moved = 0; removed = 0 }

-- ---- all together
pub record Left (T P D : Type 0) : Type 0 where
  pub answer : ℕ
  pub returned : Returned P
  pub after : T
  pub outs : Outputs D

abbrev pub left : {T P D : Type 0} → ℕ → Returned P → T → Outputs D → Left T P D
left a r t o = record { answer = a; returned = r; after = t; outs = o }

-- ---- what a call leaves that is refused with number n: the tables and the outputs as they were, and zeros; 9 also returns the number found
abbrev pub refused : {T P D : Type 0} → P → ℕ → T → Outputs D → ℕ → Left T P D
refused z found t lent n = left n (pick (eqb n 9) (the_count z found) (zeros z)) t lent
