-- Outcomes that say the same and leave tables that are alike. Assumes nothing.
use Rattle.basics.specs.Words.{ℕ, ◌≡◌, refl, subst, Bool, true, false, List}
use lib.Ieee.{Float}
use Rattle.basics.specs.Meaning.Refusals.{pick}
use Rattle.point_tables.specs.Meaning.Tables.{Tables, tables}
use Rattle.point_tables.specs.Meaning.Holds.{Holds}
use Rattle.point_tables.specs.Meaning.Outcome.{Outcome}
use Rattle.records.specs.Inner.Alike.{Alike, with_columns}
use Rattle.records.proofs.laws.Alike.{Respects, Reads}
use Rattle.records.proofs.laws.AlikeLaws.{by_columns}

abbrev pub Same : {R : Type 0} → Outcome R → Outcome R → Type 0
Same x y = (x.result ≡ y.result) × Alike x.after y.after

module _ {R : Type 0} (x x' y y' : Outcome R) where
  go : (b : Bool) → Same x x' → Same y y' → Same (pick b x y) (pick b x' y')
  go true s r = s
  go false s r = r

  pub same-pick : (b b' : Bool) → b ≡ b' → Same x x' → Same y y' → Same (pick b x y) (pick b' x' y')
  same-pick b b' e s r = subst (λ (c : Bool). Same (pick b x y) (pick c x' y')) e (go b s r)

-- it is enough to look at columns beside the same tables
pub to_respect : {R : Type 0} (call : Tables → Outcome R) → ((t u : Tables) → Holds t → Holds (with_columns t u) → Alike t (with_columns t u) → Same (call t) (call (with_columns t u))) → Respects call
to_respect call f t u h k a = by_columns (λ w. Holds w → Same (call t) (call w)) t u a (λ b l. f t u h l b) k

pub to_read : {R : Type 0} (call : Tables → R) → ((t u : Tables) → Holds t → Holds (with_columns t u) → Alike t (with_columns t u) → call t ≡ call (with_columns t u)) → Reads call
to_read call f t u h k a = by_columns (λ w. Holds w → call t ≡ call w) t u a (λ b l. f t u h l b) k

-- the same columns beside other tables
module _ (t u : Tables) (like : Alike t u) (map : List ℕ) (pool : List (List ℕ)) (spots : List (List Float)) (cells : List (List ℕ)) where
  pub beside : Alike (tables t.nums t.reals t.ints map pool spots cells) (tables u.nums u.reals u.ints map pool spots cells)
  beside = record { of_nums = like.of_nums; of_reals = like.of_reals; of_ints = like.of_ints; each = like.each; rest = refl }
