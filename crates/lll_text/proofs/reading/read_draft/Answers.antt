use Rattle.std.proofs.Common.{sym, subst, ◌∙◌}
use Rattle.std.proofs.lemmas.Result.{err_from_is_err_and}
use Rattle.lll_text.proofs.OneReading.{is_going, goes_on, line_at-some, is_nothing, is_something, fault_stands, fault_at_end}
use Rattle.lll_text.proofs.reading.read_draft.Invariants.{Turn}
use Rattle.lll_text.proofs.reading.read_draft.Goals as goal

pub loop-rest-init : goal.loop-rest-init
loop-rest-init c = subst (λ d. Turn c.args.text.now d c.new-names.result c.args.text.now 1) (sym c.new-draft.ensures) (record { named = c.new-names.ensures; going = is_going c.args.text.now })

pub loop-rest-preserved : goal.loop-rest-preserved
loop-rest-preserved c =
    let some = is_something c.loop-rest.rest.now c.is_empty.result c.is_empty.ensures c.loop-rest-test.true in
    record {
      named = c.in_ok-rest.ensures.names;
      going = goes_on c.args.text.now c.loop-rest.draft c.some_line.new.draft c.loop-rest.rest.now c.in_ok-rest.rest.now c.loop-rest.line c.loop-rest.invariant.going
          (line_at-some c.loop-rest.line c.loop-rest.draft c.loop-rest.rest.now some ∙ c.in_ok-rest.ensures.exact) c.in_ok-rest.ensures.shorter;
    }

pub returns-in_err-rest-clause-fault : goal.returns-in_err-rest-clause-fault
returns-in_err-rest-clause-fault c =
    let p = err_from_is_err_and c.from_residual.result c.from_residual.ensures.1 in
    let some = is_something c.loop-rest.rest.now c.is_empty.result c.is_empty.ensures c.loop-rest-test.true in
    rw (p.1, p.2) (fault_stands c.in_err-rest.field-0.0 c.args.text.now c.loop-rest.draft c.loop-rest.rest.now c.loop-rest.line c.loop-rest.invariant.going some c.in_err-rest.ensures.exact)

pub returns-in_default-clause-fault : goal.returns-in_default-clause-fault
returns-in_default-clause-fault c =
    let nothing = is_nothing c.loop-rest.rest.now c.is_empty.result c.is_empty.ensures c.loop-rest-test.false in
    fault_at_end c.args.text.now c.loop-rest.draft c.loop-rest.rest.now c.loop-rest.line c.loop-rest.invariant.going nothing c.in_default.not-End
