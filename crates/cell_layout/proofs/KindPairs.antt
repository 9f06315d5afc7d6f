-- Variables by their names and kinds.
use Rattle.std.proofs.Common.{ℕ, List}
use Rattle.hll_meaning.specs.Kinds.{Kind}
use Rattle.hll_meaning.specs.Types.{kind_of}
use Rattle.hll_types.specs.declared.variables.Variable.{Variable}

-- a variable with its kind
abbrev pub kind_pair : Variable → List ℕ × Kind
kind_pair v = (v.name, kind_of v.ty)
