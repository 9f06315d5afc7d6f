use Rattle.std.proofs.Common.{◌≡◌, ◌++◌, map, take}
use Rattle.hll_cli.proofs.collect.push_names.Given as goal

abbrev pub invariant-loop-declarator : goal.invariant-loop-declarator
invariant-loop-declarator l =
    map (λ n. n.now) l.names.items ≡ map (λ n. n.now) l.initial.names.items ++ map (λ d. d.name.text) (take l.declarator-index l.declarator-items)
