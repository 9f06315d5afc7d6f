use Rattle.std.proofs.Common.{◌≡◌, map, take}
use Rattle.hll_meaning.proofs.KindForms.{field_kind}
use Rattle.hll_expressions.specs.Described.{known}
use Rattle.hll_expressions.proofs.JoinLemmas.{nameless}
use Rattle.hll_expressions.proofs.given.+kinds.Given as goal

abbrev pub invariant-kinds-loop-given : goal.invariant-kinds-loop-given
invariant-kinds-loop-given l = map field_kind l.fields ≡ map nameless (map (λ j. j.kind) (map known (take l.given-index l.parts)))
