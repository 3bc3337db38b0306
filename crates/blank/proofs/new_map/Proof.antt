-- `blank::new_map` meets its contract. Assumes nothing.
use Rattle.basics.specs.Words.{ℕ, ◌∙◌, ap, List, ◌∷◌, take, drop, drop_at, length-take-le, arith, rules}
use Rattle.slots.specs.Meaning.Map.{words_for}
use Rattle.blank.specs.Meaning.Blank.{free_words}
use Rattle.blank.proofs.new_map.Statement.{statement}
use Rattle.blank.proofs.new_map.Tie as tie

returns : tie.Need-returns
returns c =
    let f = c.before.before.before.before.before.before in
    let a = f.before.before.before.args in
    c.before.before.new_head.ensures
    ∙ ap (λ (m : List ℕ). a.size ∷ 0 ∷ 0 ∷ m) (ap (drop 3) f.free_words.ensures ∙ drop_at (take 3 a.map.now) (free_words (words_for a.n) a.n) 3 (length-take-le 3 a.map.now (omega arith)))

pub new_map_spec : {M : Type 1} → statement M
new_map_spec = tie.close (tie.spec (λ c κs. search rules) (λ c κs. search rules) (λ c. search rules) returns)
