use Rattle.std.proofs.Common.{◌≡◌, [], length, All, List}
use Rattle.cdcl_solver.specs.declared.watches.Watch.{Watch}
use Rattle.cdcl_solver.proofs.watches.Watches.new.Given as goal

abbrev pub invariant-loop : goal.invariant-loop
invariant-loop l = record {
  count : length l.lists.items ≡ l.counter;
  empty : All (λ (xs : List Watch). xs ≡ []) l.lists.items;
}
