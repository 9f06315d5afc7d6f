use Rattle.std.proofs.Common.{◌≡◌, [], ◌++◌, map}
use Rattle.hll_types.specs.Settling.{names_in, root_in}
use Rattle.hll_expressions.specs.Things.{declared_names, names_further}
use Rattle.hll_expressions.specs.Things.{said_of}
use Rattle.hll_types.proofs.settle.settled.Given as goal

abbrev pub invariant-loop-name : goal.invariant-loop-name
invariant-loop-name l =
    (declared_names l.all ++ names_in (root_in l.sorts l.roots.items) (map (λ e. (e.0.items, said_of e.1)) l.name-iterator) ≡ names_in (root_in l.sorts l.roots.items) (declared_names l.names))
    × (names_further l.all ≡ [])
