use Rattle.std.proofs.Common.{List, ℕ, false, ap}
use Rattle.hll_meaning.specs.Kinds.{Kind}
use Rattle.hll_expressions.specs.Things.{names_of}
use Rattle.hll_expressions.proofs.ScopeLemmas.{bound_indices}
use Rattle.hll_types.proofs.define.asking.Goals as goal

pub returns : goal.returns
returns c = ap (λ (bound : List (List ℕ × Kind)). record { names = names_of c.args.names.now; bound = bound; needs_constant = false }) (bound_indices c.args.bound)
