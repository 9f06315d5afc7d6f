use Rattle.std.proofs.Common.{◌≡◌, true, length, subst}
use Rattle.evidence.specs.declared.open_log.OpenLog.{OpenLog}
use Rattle.evidence.specs.Tracking.{Tracks}
use Rattle.evidence.proofs.TrackTurns.{spending_holds, spending_fails, refused_fails}
use Rattle.evidence.proofs.open_log.OpenLog.outcome.Goals as goal

pub returns-then-branch : goal.returns-then-branch
returns-then-branch c = λ budget q steps front tracks begins.
    spending_holds c.in-Spending.from c.args.at c.in-Spending.checker (c.in_ok-is_busy-in-Spending.ensures.0 c.if-branch.true) budget q steps (subst (λ (o : OpenLog). Tracks budget q c.args.at (length steps) steps o) c.in-Spending.is tracks)

pub returns-else-branch : goal.returns-else-branch
returns-else-branch c = λ budget q steps front tracks begins.
    spending_fails c.in-Spending.from c.args.at c.in-Spending.checker (λ busy. let yes : c.in_ok-is_busy-in-Spending.field-0 ≡ true = c.in_ok-is_busy-in-Spending.ensures.1 busy in cc) budget q steps front
    (subst (λ (o : OpenLog). Tracks budget q c.args.at (length steps) steps o) c.in-Spending.is tracks) begins

pub returns-in-Refused : goal.returns-in-Refused
returns-in-Refused c = λ budget q steps front tracks begins.
    refused_fails c.in-Refused.line c.args.at c.in-Refused.cause budget q steps front (subst (λ (o : OpenLog). Tracks budget q c.args.at (length steps) steps o) c.in-Refused.is tracks) begins
