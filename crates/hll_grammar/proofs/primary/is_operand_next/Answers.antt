use Rattle.std.proofs.Common.{◌≡◌, ◌∙◌, ap}
use Rattle.hll_grammar.specs.Starts.{start_of_next, is_start}
use Rattle.hll_grammar.proofs.Beginnings.{is_start_next}
use Rattle.hll_grammar.proofs.primary.is_operand_next.Goals as goal

pub returns : goal.returns
returns c = c.begins_operand_so.ensures ∙ ap is_start (c.start_of.ensures ∙ ap start_of_next c.peek.ensures) ∙ is_start_next c.args.cursor.now.rest
