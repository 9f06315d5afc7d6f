use Rattle.std.proofs.Common.{◌≡◌, [], map, take}
use Rattle.hll_meaning.specs.StaticRules.{dims_faults}
use Rattle.hll_expressions.specs.Scopes.{context}
use Rattle.hll_types.specs.Written.{said_size}
use Rattle.hll_types.proofs.written.sizes.Given as goal

abbrev pub invariant-loop-dim : goal.invariant-loop-dim
invariant-loop-dim l =
    (dims_faults (context l.scope) (take l.dim-index l.dims) ≡ []) × (l.sizes.items ≡ map (said_size (context l.scope)) (take l.dim-index l.dims))
