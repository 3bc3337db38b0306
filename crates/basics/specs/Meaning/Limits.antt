-- The limits of document 01. Assumes nothing.
use Rattle.basics.specs.Words.{ℕ}

-- the most slots of a point grid
abbrev pub most_slots : ℕ
most_slots = 4096

-- the most slots of a box grid, and the most entries of its pool
abbrev pub most_boxes : ℕ
most_boxes = 256

abbrev pub most_entries : ℕ
most_entries = 8192

-- the most cells of a query's range, and of one box
abbrev pub most_cells : ℕ
most_cells = 4096
