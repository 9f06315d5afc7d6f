use Rattle.std.proofs.Common.{◌+◌, ◌-◌, length, count_by}
use Rattle.graphs.specs.Spreading.{IsVisiting, reaching, is_unknown}
use Rattle.graphs.proofs.distances.distances_to.Given as goal

abbrev pub invariant-loop-visited : goal.invariant-loop-visited
invariant-loop-visited l = IsVisiting l.sources l.start (reaching l.distances) l.visited

abbrev pub decreases-loop-visited : goal.decreases-loop-visited
decreases-loop-visited l = count_by is_unknown l.distances.known.items + length l.distances.reached.items - l.visited
