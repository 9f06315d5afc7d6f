use Rattle.std.proofs.Common.{◌≡◌, ◌++◌, map, take}
use Rattle.std.specs.List.{flat_map}
use Rattle.hll_cli.specs.BooleanTexts.{declared_names}
use Rattle.hll_cli.proofs.collect.push_inputs.Given as goal

abbrev pub invariant-loop-decl : goal.invariant-loop-decl
invariant-loop-decl l =
    map (λ n. n.now) l.names.items ≡ map (λ n. n.now) l.initial.names.items ++ flat_map declared_names (take l.decl-index l.decl-items)
