use Rattle.std.proofs.Common.{◌≢◌, ℕ, ◌<◌, get_or}
use Rattle.ports.proofs.named.position_of.Given as goal

abbrev pub invariant-loop-place : goal.invariant-loop-place
invariant-loop-place g l = (k : ℕ) (d : g.row.E.Denot) → k < l.place → g.E.Named.key (get_or l.entries k d) ≢ l.name
