use Rattle.std.proofs.Common.{List, refl, subst}
use Rattle.hll_meaning.specs.Cells.{Cell}
use Rattle.hll_meaning.specs.Declarations.{names}
use Rattle.trace_text.specs.Parts.{AreRead, AreUnread}
use Rattle.trace_text.proofs.LineFronts.{few_held, line_read, line_wrong, match_err}
use Rattle.trace_text.proofs.reading.line_at.Goals as goal

pub returns-in-Some-after : goal.returns-in-Some-after
returns-in-Some-after c =
    let m = c.args.checked.now in
    let room = c.if-not-has_room.ensures.0 refl in
    let few = few_held m c.args.instant c.args.cells c.requires.cells room.0 room.1 in
    let read = subst (λ (cs : List Cell). AreRead (names m) cs c.in-Some.rest.now c.in_ok-values.values.items c.in_ok-values.rest.now) c.requires.columns c.in_ok-values.ensures in
    line_read m c.args.instant c.args.text.now c.in-Some.rest.now c.in_ok-values.rest.now c.in-Some-after.rest.now c.in_ok-values.values.items few c.in-Some.ensures read c.in-Some-after.ensures

pub returns-in_err-values : goal.returns-in_err-values
returns-in_err-values c =
    let m = c.args.checked.now in
    let room = c.if-not-has_room.ensures.0 refl in
    let few = few_held m c.args.instant c.args.cells c.requires.cells room.0 room.1 in
    let unread = subst (λ (cs : List Cell). AreUnread (names m) cs c.in-Some.rest.now c.in_err-values.field-0.0) c.requires.columns c.in_err-values.ensures in
    match_err _ _ _ _ c.from_residual.ensures.1 (line_wrong m c.args.instant c.args.text.now c.in-Some.rest.now c.in_err-values.field-0.0 few c.in-Some.ensures unread)
