use Rattle.std.proofs.Common.{sym, refl}
use Rattle.std.proofs.lemmas.List.{length-map}
use Rattle.hll_cli.proofs.Decides.{true_rows, false_row}
use Rattle.hll_cli.proofs.verdict.verdict_on.Goals as goal

pub returns-in-None : goal.returns-in-None
returns-in-None c = (refl, true_rows _ _ _ c.in_ok-column.ensures (rw c.deref.ensures.value at c.in-None.ensures.none))

pub returns : goal.returns
returns c =
    let within = rw c.deref.ensures.value at c.in-Some.ensures.there in
    let at_row = rw c.deref.ensures.value at c.in-Some.ensures.at in
    let there = c.in_ok-trace-in-Some.ensures in
    let values = c.in_ok-values-in-Some.ensures in
    rw (there, values, sym (length-map c.args.names.now (λ n. n.now))) (false_row _ _ c.in_ok-column.column.items c.in-Some.number c.in_ok-column.ensures within at_row)
