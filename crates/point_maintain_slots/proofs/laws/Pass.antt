-- The pass over the slots: what it is asked for, one slot's part of it, and what it leaves. Assumes nothing.
-- Here: the laws.
use Rattle.point_tables.specs.Meaning.Tables.{Tables}
use Rattle.point_maintain_slots.specs.Inner.Pass.{record_tables}

abbrev pub bare : Tables → Tables
bare t = record_tables t.nums t.reals t.ints t.map
