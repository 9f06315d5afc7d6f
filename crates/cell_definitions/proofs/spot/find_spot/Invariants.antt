use Rattle.std.proofs.Common.{drop}
use Rattle.hll_meaning.specs.StaticRules.{left_side}
use Rattle.hll_meaning.specs.Types.{kind_of}
use Rattle.cell_definitions.proofs.Spots.{IsWalked}
use Rattle.cell_definitions.proofs.spot.find_spot.Given as goal

abbrev pub invariant-loop-slot : goal.invariant-loop-slot
invariant-loop-slot l = IsWalked l.slots (drop l.slot-index l.slots) (kind_of l.fn.ty) (kind_of l.spot.ty.now) (left_side l.slots (kind_of l.fn.ty)).kind l.count l.fn.place l.spot.place l.numbers.items
