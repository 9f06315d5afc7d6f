use Rattle.hll_meaning.specs.Declarations.{names}
use Rattle.trace_text.specs.Traces.{element_name}
use Rattle.trace_text.proofs.TextFronts.{match_none}
use Rattle.trace_text.proofs.ValueFronts.{element_stands, one_name_there}
use Rattle.trace_text.proofs.values.element_within.Goals as goal

pub returns-in_err-code : goal.returns-in_err-code
returns-in_err-code c = match_none _ _ _ c.from_residual-in_err-code.ensures (λ x after has.
    let all = names c.args.checked.now in
    let stands = element_stands all c.args.root.now c.args.codes c.args.text.now after x has in
    let one = one_name_there c.args.text.now (element_name all c.args.root.now x) c.in_ok-name.name.now after c.in_ok-name.rest.now stands c.in_ok-name.ensures in
    c.in_err-code.ensures x has.value.0 one.0)
