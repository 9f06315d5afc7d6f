use Rattle.std.proofs.Common.{◌≡◌, vec_len}
use Rattle.hll_meaning.specs.Types.{kind_of}
use Rattle.hll_types.specs.Written.{arrays}
use Rattle.hll_types.proofs.written.with_dims.Given as goal

abbrev pub invariant-loop-size : goal.invariant-loop-size
invariant-loop-size l = arrays l.sizes.items (kind_of l.ty) ≡ arrays l.initial.sizes.items (kind_of l.initial.ty)

abbrev pub decreases-loop-size : goal.decreases-loop-size
decreases-loop-size l = vec_len l.sizes
