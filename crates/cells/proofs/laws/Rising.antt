-- Numbers that rise strictly, and those one after the other. Assumes nothing.
-- Here: the laws.
use Rattle.basics.specs.Words.{ℕ, zero, suc, ◌+◌, ◌≤◌, ◌<◌, List, [], ◌∷◌, ◌++◌, arith}
use Rattle.cells.specs.Inner.Rising.{Above, Rising}

-- n numbers from k on
abbrev pub run : ℕ → ℕ → List ℕ
run k zero = []
run k (suc n) = k ∷ run (k + 1) n

-- m runs of n, each 2 ^ 32 further than the one before
abbrev pub runs : ℕ → ℕ → ℕ → List ℕ
runs k n zero = []
runs k n (suc m) = run k n ++ runs (k + 4294967296) n m

above-append : (j : ℕ) (a b : List ℕ) → Above j a → Above j b → Above j (a ++ b)
above-append j [] b f g = g
above-append j (k ∷ a) b f g = (f.0, above-append j a b f.1 g)

run-above : (j k n : ℕ) → j < k → Above j (run k n)
run-above j k zero h = tt
run-above j k (suc n) h = (h, run-above j (k + 1) n (omega arith))

runs_above : (j k n m : ℕ) → j < k → Above j (runs k n m)
runs_above j k n zero h = tt
runs_above j k n (suc m) h =
    above-append j (run k n) (runs (k + 4294967296) n m) (run-above j k n h) (runs_above j (k + 4294967296) n m (omega arith))

run-rising : (k n : ℕ) (b : List ℕ) → Rising b → ((j : ℕ) → j < k + n → Above j b) → Rising (run k n ++ b)
run-rising k zero b r f = r
run-rising k (suc n) b r f = (
  above-append k (run (k + 1) n) b (run-above k (k + 1) n (omega arith)) (f k (omega arith)),
  run-rising (k + 1) n b r (λ j h. f j (omega arith)),
)

pub runs_rising : (k n m : ℕ) → n ≤ 4294967296 → Rising (runs k n m)
runs_rising k n zero h = tt
runs_rising k n (suc m) h =
    run-rising k n (runs (k + 4294967296) n m) (runs_rising (k + 4294967296) n m h)
    (λ j l. runs_above j (k + 4294967296) n m (omega arith))
