-- The next record that ends in some bytes: what is so far after it, the record, if one ends, and the place behind it. Assumes nothing.
use Rattle.std.specs.Prelude.{◌+◌, ◌∷◌}
use Rattle.basics.specs.Words.{ℕ, List, []}
use Rattle.trace_splits.specs.Meaning.Sofar.{Sofar, feed, sofar, kept_of}
use Rattle.trace_blocks.specs.declared.Found.{Found}

pub record Next : Type 0 where
  pub next : Sofar
  pub out : List (List ℕ)
  pub place : ℕ

abbrev pub nexted : Sofar → List (List ℕ) → ℕ → Next
nexted s out place = record { next = s; out = out; place = place }

-- a record stops the walk
abbrev pub stops : List (List ℕ) → Next → Next → Next
stops [] there further = further
stops (r ∷ rs) there further = there

-- the bytes from a place on
unfoldable pub next_of : ℕ → Sofar → ℕ → List ℕ → Next
next_of room s at [] = nexted s [] at
next_of room s at (b ∷ bs) = stops (feed room s b).out (nexted (feed room s b).next (feed room s b).out (at + 1)) (next_of room (feed room s b).next (at + 1) bs)

-- what the line and the numbers of the code say
abbrev pub next_found : List ℕ → Found → Next
next_found line r = nexted (sofar line r.state) (kept_of line r.ended) r.at
