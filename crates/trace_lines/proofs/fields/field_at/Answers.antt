-- The field ends where the search for a comma did, and is the first of those that are left. Assumes nothing.
use Rattle.std.proofs.Common.{rules, tests}
use Rattle.std.proofs.lemmas.Bool.Decides.{nat_tests}
use Rattle.std.proofs.lemmas.Iterator.{YieldsList-from_slice}
use Rattle.std.proofs.lemmas.Iterator.Search.{position_from_yields_List}
use Rattle.std.proofs.lemmas.List.Sums.{prefix_len-le-length}
use Rattle.basics.specs.Words.{◌≡◌, ◌∙◌, ◌<◌, drop, length, length-drop, take_all, eqb, arith}
use Rattle.trace_lines.specs.Meaning.Fields.{comma}
use Rattle.trace_lines.proofs.laws.CursorLaws.{until_comma, field_at, no_field}
use Rattle.trace_lines.proofs.fields.field_at.Goals as goal

pub returns-in_err-rest : goal.returns-in_err-rest
returns-in_err-rest c =
    let past : length c.args.b.now < c.args.at = omega (arith, c.in_err-rest.ensures.lookup.0) in
    rw c.from_residual.ensures (no_field c.args.b.now c.args.at past)

pub returns : goal.returns
returns c =
    let rest = c.in_ok-rest.ensures.lookup.0 in
    let all : c.in_ok-rest.rest.now ≡ drop c.args.at c.args.b.now = rest.2 ∙ take_all _ _ (omega (arith, length-drop c.args.at c.args.b.now)) in
    let found = position_from_yields_List (λ b. eqb b comma) _ _ c.position.result c.position.ensures.ran (YieldsList-from_slice c.in_ok-rest.rest.now cc) (λ x b q k. search (rules, tests)) in
    let n : c.unwrap_or-n.result ≡ until_comma c.in_ok-rest.rest.now = grind (arith, nat_tests, prefix_len-le-length) in
    rw (n, all) (field_at c.args.b.now c.args.at rest.0)
