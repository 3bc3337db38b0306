-- Small inputs and their records: 97 is an a. Nothing; a; a CR LF; CR LF; CR LF CR LF; a CR; a CR CR LF; a LF a; CR LF a.
use Rattle.basics.specs.Words.{◌≡◌, refl, [], ◌∷◌, map}
use Rattle.trace_splits.specs.Inner.Records.{records_of}

pub cases : map records_of ([] ∷ (97 ∷ []) ∷ (97 ∷ 13 ∷ 10 ∷ []) ∷ (13 ∷ 10 ∷ []) ∷ (13 ∷ 10 ∷ 13 ∷ 10 ∷ []) ∷ (97 ∷ 13 ∷ []) ∷ (97 ∷ 13 ∷ 13 ∷ 10 ∷ []) ∷ (97 ∷ 10 ∷ 97 ∷ []) ∷ (13 ∷ 10 ∷ 97 ∷ []) ∷ []) ≡ [] ∷ ((97 ∷ []) ∷ []) ∷ ((97 ∷ []) ∷ []) ∷ ([] ∷ []) ∷ ([] ∷ [] ∷ []) ∷ ((97 ∷ 13 ∷ []) ∷ []) ∷ ((97 ∷ 13 ∷ []) ∷ []) ∷ ((97 ∷ 10 ∷ 97 ∷ []) ∷ []) ∷ ([] ∷ (97 ∷ []) ∷ []) ∷ []
unfolding records_of
cases = refl
