use Rattle.std.proofs.Common.{◌≡◌}
use Rattle.lll_core.specs.Drafts.{signals_in}
use Rattle.lll_core.proofs.builder.signals.Given as goal

abbrev pub invariant-loop-draft : goal.invariant-loop-draft
invariant-loop-draft l = l.signals.items ≡ signals_in l.yielded
