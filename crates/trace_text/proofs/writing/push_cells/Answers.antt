use Rattle.hll_meaning.specs.Declarations.{names}
use Rattle.std.proofs.lemmas.Slice.Zip.{either_empty_from_Zip}
use Rattle.trace_text.proofs.LineTexts.{cells_end}
use Rattle.trace_text.proofs.writing.push_cells.Goals as goal

pub returns : goal.returns
returns c = cells_end (names c.args.checked.now) _ _ _ _ (either_empty_from_Zip c.loop-column.column-iterator c.next.new.self c.next.result c.in-None.is c.next.ensures.steps) c.loop-column.invariant.0
