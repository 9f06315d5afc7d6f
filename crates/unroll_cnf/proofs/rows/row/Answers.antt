use Rattle.std.proofs.Common.{◌++◌, ◌∷◌, [], ◌+◌, ◌*◌, take, length, get_or, false, sym, ap, ◌∙◌, refl, arith}
use Rattle.std.specs.Prelude.{if◌then◌else◌}
use Rattle.std.proofs.lemmas.List.{take_all, append-nil}
use Rattle.lll_core.specs.Tables.{values_where}
use Rattle.rup_checker.specs.Formulas.{listed}
use Rattle.lll_core.proofs.ListLemmas.{item_at}
use Rattle.unroll_cnf.specs.Counterexamples.{shown_at}
use Rattle.unroll_cnf.specs.Rows.{is_chosen}
use Rattle.unroll_cnf.proofs.RowLemmas.{values_where-more, value-listed}
use Rattle.unroll_cnf.proofs.Shown.{length-shown_at}
use Rattle.unroll_cnf.proofs.rows.row.Goals as goal
use Rattle.unroll_cnf.proofs.rows.row.Goals.{then-is_one_of+in_ok-push, else-is_one_of}

pub loop-number-preserved : goal.loop-number-preserved
loop-number-preserved c =
    let signals = c.args.signals.now in
    let number = c.loop-number.number in
    let now = shown_at (length signals) (listed c.args.values.now) c.args.instant in
    let at = item_at signals signals number c.index-signals-number.result refl c.loop-number-test.true c.index-signals-number.is in
    let long = length-shown_at signals 0 (listed c.args.values.now) c.args.instant in
    let more = values_where-more (is_chosen c.args.chosen) signals now number c.index-signals-number.result long at in
    let value = value-listed c.args.values.now (length signals) c.args.instant number c.loop-number-test.true in
    let before = values_where (is_chosen c.args.chosen) (take number signals) (take number now) in
    let x = get_or now number false in
    elim c.if-is_one_of.branch [
      | then-is_one_of+in_ok-push w ↦
          w.bits-is ∙ w.in_ok-push.ensures.ok ∙ ap (λ ys. ys ++ get_or c.args.values.now (c.args.instant * length signals + number) false ∷ []) c.loop-number.invariant
          ∙ ap (λ y. before ++ y ∷ []) (sym value) ∙ ap (λ b. before ++ (if b then x ∷ [] else [])) w.if-is_one_of.ensures ∙ sym more
      | else-is_one_of w ↦
          w.bits-is ∙ c.loop-number.invariant ∙ sym (append-nil before) ∙ ap (λ b. before ++ (if b then x ∷ [] else [])) w.if-is_one_of.ensures ∙ sym more
    ]

pub returns : goal.returns
returns c =
    let signals = c.args.signals.now in
    let now = shown_at (length signals) (listed c.args.values.now) c.args.instant in
    let long = length-shown_at signals 0 (listed c.args.values.now) c.args.instant in
    let number = c.loop-number.number in
    c.loop-number.invariant ∙ ap (λ xs. values_where (is_chosen c.args.chosen) xs (take number now)) (take_all number signals c.loop-number-test.false)
    ∙ ap (values_where (is_chosen c.args.chosen) signals) (take_all number now (omega (arith, long, c.loop-number-test.false)))
