-- What is taken off the front of a list of fields: a value and the fields behind it, or nothing, where they do not read so. Assumes nothing.
use Rattle.std.specs.Prelude.{◌∷◌, Option, Some, None}
use Rattle.basics.specs.Words.{ℕ, Bool, List, [], ltb, ℤ, pos}
use Rattle.basics.specs.Meaning.Refusals.{pick}
use Rattle.slots.specs.declared.Handle.{Handle}
use Rattle.trace_decimals.specs.Meaning.Fields.{number_of, count_of}
use Rattle.trace_lines.specs.declared.Spot.{Spot}

pub data Taken (A : Type 0) : Type 0 where
  taken : A → List (List ℕ) → Taken A
  missing : Taken A

abbrev pub Taker : Type 0 → Type 0
Taker A = List (List ℕ) → Taken A

abbrev pub bind : {A B : Type 0} → Taken A → (A → Taker B) → Taken B
bind (taken a fs) k = k a fs
bind missing k = missing

abbrev pub both : {A B : Type 0} → Taker A → Taker B → Taker (A × B)
both p q fs = bind (p fs) (λ a gs. bind (q gs) (λ b hs. taken (a, b) hs))

-- the value by another name
abbrev pub made : {A B : Type 0} → (A → B) → Taker A → Taker B
made f p fs = bind (p fs) (λ a gs. taken (f a) gs)

abbrev pub value_then : {A : Type 0} → Option A → Taker A
value_then (Some a) fs = taken a fs
value_then None fs = missing

-- the first field, by what it reads as
abbrev pub take_by : {A : Type 0} → (List ℕ → Option A) → Taker A
take_by value_of [] = missing
take_by value_of (f ∷ fs) = value_then (value_of f) fs

abbrev pub take_number : Taker ℕ
take_number = take_by number_of

abbrev pub take_count : Taker ℤ
take_count = take_by count_of

abbrev pub spot_from : ℤ × ℤ → Spot
spot_from a = record { x = a.0; y = a.1 }

abbrev pub handle_from : ℕ × ℕ → Handle
handle_from a = record { slot = a.0; version = a.1 }

abbrev pub take_spot : Taker Spot
take_spot = made spot_from (both take_count take_count)

abbrev pub take_handle : Taker Handle
take_handle = made handle_from (both take_number take_number)

-- what is not asked for is not taken, and is this value
abbrev pub if_asked : {A : Type 0} → Bool → A → Taker A → Taker A
if_asked asked a p fs = pick asked (p fs) (taken a fs)

abbrev pub nobody : Handle
nobody = record { slot = 0; version = 0 }

abbrev pub no_spot : Spot
no_spot = record { x = pos 0; y = pos 0 }

-- so many places, of two
abbrev pub take_places : ℕ → Taker (Spot × Spot)
take_places n = both (if_asked (ltb 0 n) no_spot take_spot) (if_asked (ltb 1 n) no_spot take_spot)
