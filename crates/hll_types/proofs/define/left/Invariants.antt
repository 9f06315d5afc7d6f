use Rattle.std.proofs.Common.{◌≡◌, fold, take}
use Rattle.hll_meaning.specs.StaticRules.{with_slot}
use Rattle.hll_types.specs.Defining.{left_of}
use Rattle.hll_types.proofs.define.left.Given as goal

abbrev pub invariant-loop-slot : goal.invariant-loop-slot
invariant-loop-slot l = fold with_slot (left_of l.kind l.initial.bound.items) (take l.slot-index l.slots) ≡ left_of l.rest l.bound.items
