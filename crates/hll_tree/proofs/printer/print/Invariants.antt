use Rattle.std.proofs.Common.{◌≡◌, take}
use Rattle.std.specs.List.{flat_map}
use Rattle.hll_tree.specs.Printing.{section_text}
use Rattle.hll_tree.proofs.printer.print.Given as goal

abbrev pub invariant-loop-section : goal.invariant-loop-section
invariant-loop-section l = l.out.items ≡ flat_map section_text (take l.section-index l.model.sections)
