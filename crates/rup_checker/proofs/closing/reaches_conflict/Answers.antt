use Rattle.std.proofs.Common.{◌≡◌, ◌∙◌, subst}
use Rattle.std.specs.Prelude.{IfOk, MatchBool}
use Rattle.rup_checker.specs.Formulas.{Cnf}
use Rattle.rup_checker.specs.Logs.{IsOpen}
use Rattle.rup_checker.specs.Closing.{IsRefuted}
use Rattle.rup_checker.proofs.closing.reaches_conflict.Goals as goal

pub returns : goal.returns
returns c =
    let same : c.visit_all.new.self.known ≡ c.args.known = c.in_ok-visit_all.ensures.known ∙ c.in_ok-propagation.ensures.known in
    subst (λ (k : Cnf). IfOk c.follow_up.result (λ conflict. MatchBool conflict (IsRefuted k.clauses) (IsOpen k.clauses))) same c.follow_up.ensures
