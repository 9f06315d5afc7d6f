use Rattle.std.proofs.Common.{drop, reverse}
use Rattle.hll_types.specs.Settling.{AreRooted}
use Rattle.hll_types.proofs.settle.roots_of.Given as goal

abbrev pub invariant-loop-number : goal.invariant-loop-number
invariant-loop-number l = AreRooted l.number (drop l.number l.sorts) (reverse l.backward.items)
