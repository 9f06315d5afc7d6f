use Rattle.std.proofs.Common.{◌+◌, ◌*◌, take}
use Rattle.hll_meaning.specs.Fitting.{parts}
use Rattle.hll_meaning.specs.Kinds.{levels}
use Rattle.hll_meaning.specs.Types.{kind_of}
use Rattle.hll_expressions.specs.Joining.{join_each, HasGathered}
use Rattle.hll_expressions.proofs.join.+joining.Given as goal

abbrev pub invariant-join_parts-loop-place : goal.invariant-join_parts-loop-place
invariant-join_parts-loop-place l = HasGathered l.all (join_each (take l.place (parts (kind_of l.own))) (take l.place (parts (kind_of l.given))))

abbrev pub decreases-join_parts : goal.decreases-join_parts
decreases-join_parts l = 3 * levels (kind_of l.own.now) + 0

abbrev pub decreases-with_parts : goal.decreases-with_parts
decreases-with_parts l = 3 * levels (kind_of l.own.now) + 1

abbrev pub decreases-join : goal.decreases-join
decreases-join l = 3 * levels (kind_of l.own.now) + 2
