use Rattle.std.proofs.Common.{◌≡◌, pos, None, Some, sym, ap, ◌∙◌}
use Rattle.hll_meaning.specs.Declarations.{names}
use Rattle.trace_text.specs.Traces.{element_name}
use Rattle.trace_text.proofs.ElementNames.{element_found, none_below}
use Rattle.trace_text.proofs.SignedNumbers.{passed, size_of}
use Rattle.trace_text.proofs.values.element_name.Goals as goal

pub returns-in-Some : goal.returns-in-Some
returns-in-Some c =
    let h = c.in-Ok.ensures in
    let code : c.args.code ≡ pos c.in-Ok.code = size_of c.args.code _ c.in-Ok.code (passed c.args.code c.ranges.code) h.0.0 h.1 in
    c.bytes.ensures
    ∙ sym (ap (element_name (names c.args.checked.now) c.args.root.now) code ∙ element_found c.args.checked.now c.requires.well c.args.root.now c.in-Ok.code (Some c.in-Some.name.now) c.in-Some.ensures)

pub returns-in-None : goal.returns-in-None
returns-in-None c =
    let h = c.in-Ok.ensures in
    let code : c.args.code ≡ pos c.in-Ok.code = size_of c.args.code _ c.in-Ok.code (passed c.args.code c.ranges.code) h.0.0 h.1 in
    sym (ap (element_name (names c.args.checked.now) c.args.root.now) code ∙ element_found c.args.checked.now c.requires.well c.args.root.now c.in-Ok.code None c.in-None.ensures)

pub returns-in-Err : goal.returns-in-Err
returns-in-Err c = sym (none_below c.args.checked.now c.requires.well c.args.root.now c.args.code _ (passed c.args.code c.ranges.code) c.requires.within c.in-Err.ensures)
