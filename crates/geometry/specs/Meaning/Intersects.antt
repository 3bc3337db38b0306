-- The box test, its operations in the order of `src/lib.rs`, the query box first. Assumes nothing.
use Rattle.std.specs.Prelude.{◌&&◌, Float}
use Rattle.basics.specs.Words.{Bool, false}
use Rattle.std.specs.Float.{nan, inf, fin, binary32}
use Rattle.std.specs.Float.Ieee.{le, add, sub}
use Rattle.geometry.specs.declared.Aabb.{Aabb}

-- the number without its sign
abbrev pub absolute : Float → Float
absolute nan = nan
absolute (inf s) = inf false
absolute (fin s m e) = fin false m e

-- |(lo + hi) - (blo + bhi)| <= hi - lo + bhi - blo, on one axis
unfoldable pub overlaps : Float → Float → Float → Float → Bool
overlaps lo hi blo bhi =
    le (absolute (sub binary32 (add binary32 lo hi) (add binary32 blo bhi)))
    (sub binary32 (add binary32 (sub binary32 hi lo) bhi) blo)

unfoldable pub intersects : Aabb → Aabb → Bool
intersects a b =
    overlaps a.ll.x a.ur.x b.ll.x b.ur.x && overlaps a.ll.y a.ur.y b.ll.y b.ur.y
