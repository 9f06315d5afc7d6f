use Rattle.std.proofs.lemmas.Result.{err_from_is_err_and}
use Rattle.lll_text.proofs.OneReading.{whole, one_value, never_both, only_memory, that_fault, spelled_so}
use Rattle.lll_text.proofs.reading.read_lll.Goals as goal

pub returns-in_err-draft-clause-only : goal.returns-in_err-draft-clause-only
returns-in_err-draft-clause-only c =
    let p = err_from_is_err_and c.from_residual.result c.from_residual.ensures.1 in
    λ l e. rw (p.1, p.2) (only_memory c.args.text.now l c.in_err-draft.field-0.0 e c.in_err-draft.ensures.fault)

pub returns-in_err-draft-clause-refused : goal.returns-in_err-draft-clause-refused
returns-in_err-draft-clause-refused c =
    let p = err_from_is_err_and c.from_residual.result c.from_residual.ensures.1 in
    λ line kind f. rw (p.1, p.2) (that_fault c.args.text.now line kind c.in_err-draft.field-0.0 f c.in_err-draft.ensures.fault)

pub invariant_of-result : goal.invariant_of-result
invariant_of-result c = record { is_lll = (whole c.args.text.now c.in_ok-draft.draft c.in_ok-draft.ensures.read).is_lll }

pub returns-clause-spelled : goal.returns-clause-spelled
returns-clause-spelled c = spelled_so c.args.text.now c.in_ok-draft.draft _ c.in_ok-draft.ensures.read

pub returns-clause-only : goal.returns-clause-only
returns-clause-only c = λ l e. one_value c.args.text.now c.in_ok-draft.draft _ l c.in_ok-draft.ensures.read e

pub returns-clause-refused : goal.returns-clause-refused
returns-clause-refused c = λ line kind f. never_both c.args.text.now c.in_ok-draft.draft line kind c.in_ok-draft.ensures.read f
