use Rattle.std.proofs.Common.{◌≡◌, map, take}
use Rattle.std.specs.List.{flat_map}
use Rattle.hll_cli.specs.BooleanTexts.{input_names_in}
use Rattle.hll_cli.proofs.collect.inputs.Given as goal

abbrev pub invariant-loop-section : goal.invariant-loop-section
invariant-loop-section l = map (λ n. n.now) l.names.items ≡ flat_map input_names_in (take l.section-index l.section-items)
