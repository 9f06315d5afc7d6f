use Rattle.std.proofs.Common.{take}
use Rattle.std.specs.List.{flat_map}
use Rattle.hll_meaning.specs.Runs.{definitions_in}
use Rattle.cell_definitions.specs.Parts.{Gathers}
use Rattle.cell_definitions.proofs.gathering.gather.Given as goal

abbrev pub invariant-loop-section : goal.invariant-loop-section
invariant-loop-section l = Gathers l.checked (flat_map definitions_in (take l.section-index l.checked.sections)) l.own.items
