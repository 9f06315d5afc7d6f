use Rattle.std.proofs.Common.{◌≡◌, map, take}
use Rattle.std.specs.List.{flat_map}
use Rattle.hll_meaning.specs.Runs.{obligations_in}
use Rattle.hll_cli.proofs.collect.asked.Given as goal

abbrev pub invariant-loop-section : goal.invariant-loop-section
invariant-loop-section l = map (λ e. e.now) l.obligations.items ≡ flat_map obligations_in (take l.section-index l.section-items)
