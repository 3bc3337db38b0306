-- What the range walk asks of the pool: the next stretch of entries whose cells lie in a window. Assumes nothing.
use Rattle.std.specs.Prelude.{◌<◌, ◌≤◌, ◌≡◌}
use Rattle.basics.specs.Words.{ℕ, true, false, List}
use Rattle.storage.specs.Inner.Window.{in_window}
use Rattle.storage.specs.Meaning.Packed.{first}
use Rattle.storage.specs.declared.Run.{Run}

-- from a key on: r is the next key that the window may have, and it is the key itself only if that is in the window
pub record NextKey (x0 y0 x1 y1 key r : ℕ) : Type 0 where
  pub onward : key ≤ r
  pub skipped : (k : ℕ) → key ≤ k → k < r → in_window x0 y0 x1 y1 k ≡ false
  pub here : r ≡ key → in_window x0 y0 x1 y1 key ≡ true

-- the first place from i on whose entry is in the window, or the end
pub record FirstIn (pool : List (List ℕ)) (used i x0 y0 x1 y1 r : ℕ) : Type 0 where
  pub onward : i ≤ r
  pub within : r ≤ used
  pub passed : (j : ℕ) → i ≤ j → j < r → in_window x0 y0 x1 y1 (first pool j) ≡ false
  pub here : r < used → in_window x0 y0 x1 y1 (first pool r) ≡ true

-- the entries of the key from a place on end at r
pub record ListEnd (pool : List (List ℕ)) (from used key r : ℕ) : Type 0 where
  pub onward : from ≤ r
  pub within : r ≤ used
  pub same : (j : ℕ) → from ≤ j → j < r → first pool j ≡ key
  pub stops : r < used → first pool r ≡ key → ⊥

-- a place up to which every entry from a place of the window on is in it
pub record RunEnd (pool : List (List ℕ)) (used from x0 y0 x1 y1 r : ℕ) : Type 0 where
  pub onward : from < r
  pub within : r ≤ used
  pub taken : (j : ℕ) → from ≤ j → j < r → in_window x0 y0 x1 y1 (first pool j) ≡ true

-- from place i on no entry is in the window up to the stretch, every entry of the stretch is, and the stretch is empty only at the end
pub record NextRun (pool : List (List ℕ)) (used i x0 y0 x1 y1 : ℕ) (r : Run) : Type 0 where
  pub onward : i ≤ r.from
  pub ends : r.from ≤ r.to
  pub within : r.to ≤ used
  pub more : r.from < used → r.from < r.to
  pub passed : (j : ℕ) → i ≤ j → j < r.from → in_window x0 y0 x1 y1 (first pool j) ≡ false
  pub taken : (j : ℕ) → r.from ≤ j → j < r.to → in_window x0 y0 x1 y1 (first pool j) ≡ true
