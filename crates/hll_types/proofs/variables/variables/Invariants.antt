use Rattle.std.proofs.Common.{map}
use Rattle.hll_expressions.specs.Things.{declared_names, said_of}
use Rattle.hll_types.proofs.VariableWalk.{HasWalked}
use Rattle.hll_types.proofs.variables.variables.Given as goal

abbrev pub invariant-loop-name : goal.invariant-loop-name
invariant-loop-name l = HasWalked l.places l.defined (declared_names l.names) (map (λ e. (e.0.items, said_of e.1)) l.name-iterator) l.all.items
