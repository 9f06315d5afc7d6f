use Rattle.std.proofs.Common.{rules, ◌≡◌, pos, FitsSigned, to_z, of_z, to_z-of_z, ◌∙◌}
use Rattle.std.specs.Int.{w128}
use Rattle.hll_expressions.proofs.ElementLemmas.{element_alone}
use Rattle.hll_expressions.proofs.paths.element_kind.Goals as goal

pub returns : goal.returns
returns c =
    let fits : FitsSigned w128 c.from-code.result = search rules in
    let same : to_z w128 (of_z w128 c.from-code.result) ≡ pos c.args.code = to_z-of_z fits ∙ c.from-code.ensures in
    element_alone c.args.root.now c.in_ok-root.root _ c.args.code (c.in_ok-root.ensures ∙ c.bytes.ensures) same same
