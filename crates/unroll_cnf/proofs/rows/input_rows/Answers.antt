use Rattle.std.proofs.Common.{◌≡◌, ◌++◌, ◌∷◌, [], ◌+◌, map, length, sym, ap, ◌∙◌, arith}
use Rattle.lll_core.specs.Tables.{input_values}
use Rattle.rup_checker.specs.Formulas.{listed}
use Rattle.unroll_cnf.specs.Counterexamples.{shown, shown_at}
use Rattle.unroll_cnf.proofs.RowLemmas.{run_shown, rows_more}
use Rattle.unroll_cnf.proofs.rows.input_rows.Goals as goal

pub loop-instant-preserved : goal.loop-instant-preserved
loop-instant-preserved c =
    let signals = c.args.l.now.signals in
    let before = map (input_values signals) (shown signals c.loop-instant.instant (listed c.args.values.now)) in
    c.in_ok-push.ensures.ok ∙ ap (λ rows. rows ++ c.in_ok-bits.bits ∷ []) c.loop-instant.invariant ∙ ap (λ bits. before ++ bits ∷ [])
    (c.in_ok-bits.ensures ∙ ap (λ s. input_values s (shown_at (length s) (listed c.args.values.now) c.loop-instant.instant)) c.as_slice.ensures)
    ∙ sym (rows_more (input_values signals) signals c.loop-instant.instant (listed c.args.values.now))

pub returns-clause-counterexample : goal.returns-clause-counterexample
returns-clause-counterexample c = λ p j g within instants satisfied run rows.
    let e : c.loop-instant.instant ≡ j + 1 = omega (arith, instants) in
    run_shown c.args.l.now (listed c.args.values.now) p j g within satisfied run
    (rows ∙ c.loop-instant.invariant ∙ ap (λ n. map (input_values c.args.l.now.signals) (shown c.args.l.now.signals n (listed c.args.values.now))) e)
