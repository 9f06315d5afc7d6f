use Rattle.std.proofs.Common.{sym, ◌∙◌, ap}
use Rattle.std.specs.Prelude.{is_some}
use Rattle.hll_grammar.proofs.Whole.{parse_spelled, parse_only, parse_unexpected, parse_deep, parse_left, not_deep, handed, same_fault}
use Rattle.hll_grammar.proofs.model.parse.Goals as goal

pub returns-in_err-sections-clause-unexpected : goal.returns-in_err-sections-clause-unexpected
returns-in_err-sections-clause-unexpected c = λ at is.
    parse_unexpected c.new-cursor.ensures.text c.new-cursor.ensures.rest at c.in_err-sections.ensures.reads (handed c.from_residual.result _ _ c.from_residual.ensures.1 is)

pub returns-in_err-sections-clause-deep : goal.returns-in_err-sections-clause-deep
returns-in_err-sections-clause-deep c = λ at is.
    parse_deep c.new-cursor.ensures.text c.new-cursor.ensures.rest at c.in_err-sections.ensures.reads (handed c.from_residual.result _ _ c.from_residual.ensures.1 is)

pub returns-then-is_some-clause-unexpected : goal.returns-then-is_some-clause-unexpected
returns-then-is_some-clause-unexpected c = λ at is.
    parse_left c.new-cursor.ensures.text c.new-cursor.ensures.rest _ at _ c.unexpected.result
    (ap is_some (sym c.peek.ensures) ∙ sym c.is_some.ensures ∙ c.if-is_some.true) c.in_ok-sections.ensures.reads c.unexpected.ensures (same_fault _ _ is)

pub returns-then-is_some-clause-deep : goal.returns-then-is_some-clause-deep
returns-then-is_some-clause-deep c = λ at is. not_deep at _ c.unexpected.result c.unexpected.ensures (same_fault _ _ is)

pub returns-clause-spelled : goal.returns-clause-spelled
returns-clause-spelled c =
    parse_spelled c.new-cursor.ensures.text c.new-cursor.ensures.rest _ (ap is_some (sym c.peek.ensures) ∙ sym c.is_some.ensures ∙ c.if-is_some.false) c.in_ok-sections.ensures.reads

pub returns-clause-only : goal.returns-clause-only
returns-clause-only c =
    parse_only c.new-cursor.ensures.text c.new-cursor.ensures.rest _ (ap is_some (sym c.peek.ensures) ∙ sym c.is_some.ensures ∙ c.if-is_some.false) c.in_ok-sections.ensures.reads
