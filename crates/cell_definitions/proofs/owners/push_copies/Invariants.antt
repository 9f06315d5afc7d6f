use Rattle.std.proofs.Common.{◌≡◌, ◌++◌, replicate}
use Rattle.cell_definitions.proofs.owners.push_copies.Given as goal

abbrev pub invariant-loop-copy : goal.invariant-loop-copy
invariant-loop-copy l = l.owners.items ≡ l.initial.owners.items ++ replicate l._copy l.owner
