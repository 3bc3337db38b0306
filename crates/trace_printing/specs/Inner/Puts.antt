-- What a function that writes says: the text that it put, and at most how long that is. Assumes nothing.
-- Here: what only inner contracts cite.
use Rattle.std.specs.Prelude.{◌+◌, ◌≤◌, ◌≡◌}
use Rattle.basics.specs.Words.{ℕ, List}
use Rattle.trace_decimals.specs.Meaning.Written.{buffer, put_text}

-- from place `at` of the bytes a on, up to r, where the bytes are then b
pub record Puts (a : List ℕ) (at : ℕ) (b : List ℕ) (r : ℕ) (text : List ℕ) (most : ℕ) : Type 0 where
  pub put_is : buffer b r ≡ put_text (buffer a at) text
  pub short : r ≤ at + most
