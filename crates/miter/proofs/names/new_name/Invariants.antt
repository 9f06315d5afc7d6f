use Rattle.std.proofs.Common.{◌+◌, ◌-◌, length}
use Rattle.miter.proofs.NewNames.{IsCandidate, all_bytes, all_number_bytes}
use Rattle.miter.proofs.names.new_name.Given as goal

abbrev pub invariant-loop-alloc : goal.invariant-loop-alloc
invariant-loop-alloc l = IsCandidate l.numbers l.given l.name l.new.items

abbrev pub decreases-loop-alloc : goal.decreases-loop-alloc
decreases-loop-alloc l = (all_number_bytes l.numbers + all_bytes l.given + 1) - length l.new.items
