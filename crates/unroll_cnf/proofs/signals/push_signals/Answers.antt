use Rattle.std.proofs.Common.{◌++◌, take, length, sym, ap, ◌∙◌, refl}
use Rattle.std.proofs.lemmas.List.{append_assoc}
use Rattle.unroll_cnf.specs.Clauses.{signal_clauses, clauses_from}
use Rattle.lll_core.proofs.ListLemmas.{item_at}
use Rattle.unroll_cnf.proofs.ClauseLemmas.{clauses_from-more}
use Rattle.unroll_cnf.proofs.signals.push_signals.Goals as goal

pub loop-number-preserved : goal.loop-number-preserved
loop-number-preserved c =
    let size = length c.args.signals.now in
    let number = c.loop-number.number in
    let at = item_at c.args.signals.now c.args.signals.now number c.index-signals-number.result refl c.loop-number-test.true c.index-signals-number.is in
    let before = clauses_from size c.args.window c.args.instant 0 (take number c.args.signals.now) in
    let own = signal_clauses size c.args.window c.args.instant number c.index-signals-number.result in (
      c.in_ok-push_signal.ensures.variables ∙ c.loop-number.invariant.0,
      c.in_ok-push_signal.ensures.clauses ∙ ap (λ cs. cs ++ own) c.loop-number.invariant.1 ∙ append_assoc c.args.formula.now.clauses before own
          ∙ ap (λ cs. c.args.formula.now.clauses ++ cs) (sym (clauses_from-more size c.args.window c.args.instant c.args.signals.now number c.index-signals-number.result at)),
    )
