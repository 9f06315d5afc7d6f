use Rattle.std.proofs.Common.{◌≡◌, ◌<◌, ◌≤◌, ℕ, take}
use Rattle.std.specs.Prelude.{IsSomeAnd, slice_get}
use Rattle.rup_checker.specs.Containment.{AreAnchored}
use Rattle.rup_checker.specs.Logs.{IsNew}
use Rattle.rup_checker.specs.Marks.{IsClear}
use Rattle.rup_checker.proofs.replay.are_new.Given as goal

abbrev pub invariant-loop-number : goal.invariant-loop-number
invariant-loop-number l = record {
  listed : l.anchors.occurrences.variables ≡ l.known.variables;
  anchored : AreAnchored l.known.clauses l.number l.anchors;
  marked : l.marks.variables ≡ l.known.variables;
  clear : IsClear l.marks;
  new : (n : ℕ) → l.from ≤ n → n < l.number → IsSomeAnd (slice_get l.known.clauses n) (IsNew (take n l.known.clauses));
}
