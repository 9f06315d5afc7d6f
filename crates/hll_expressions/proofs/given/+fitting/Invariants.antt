use Rattle.std.proofs.Common.{◌≡◌, [], map, take}
use Rattle.std.specs.List.{flat_map}
use Rattle.hll_meaning.specs.Fitting.{parts}
use Rattle.hll_meaning.specs.Types.{kind_of}
use Rattle.hll_expressions.specs.Described.{known}
use Rattle.hll_expressions.proofs.FitLemmas.{fitted}
use Rattle.hll_expressions.proofs.given.+fitting.Given as goal

abbrev pub invariant-fit_parts-loop-place : goal.invariant-fit_parts-loop-place
invariant-fit_parts-loop-place l = fitted (map known l.parts) (parts (kind_of l.wanted)) l.place ≡ []

abbrev pub invariant-fit_branches-loop-given : goal.invariant-fit_branches-loop-given
invariant-fit_branches-loop-given l = flat_map (λ g. (known g).fits (kind_of l.wanted)) (take l.given-index l.branches) ≡ []
