use Rattle.std.proofs.Common.{ap, ◌∙◌, ◌∷◌, [], length}
use Rattle.std.proofs.lemmas.Result.{IfOk-weaker}
use Rattle.rup_checker.specs.Formulas.{listed}
use Rattle.lll_core.specs.Tables.{latch_values}
use Rattle.unroll_cnf.specs.Counterexamples.{shown_at}
use Rattle.unroll_cnf.proofs.RowLemmas.{window_shown}
use Rattle.unroll_cnf.proofs.rows.first_latches.Goals as goal

pub returns-clause-counterexample : goal.returns-clause-counterexample
returns-clause-counterexample c = IfOk-weaker c.latch_row.result _ _ (λ bits is. λ p k g within satisfied window inputs latches.
    window_shown c.args.l.now (listed c.args.values.now) p k g within satisfied window inputs (latches ∙ ap (λ b. b ∷ []) (is ∙ ap (λ s. latch_values s (shown_at (length s) (listed c.args.values.now) 0)) c.as_slice.ensures))) c.latch_row.ensures
