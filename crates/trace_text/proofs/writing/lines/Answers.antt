use Rattle.std.proofs.Common.{◌++◌, ℤ, List, map, sym, ap, subst, ◌∙◌}
use Rattle.hll_meaning.specs.Declarations.{names}
use Rattle.cell_columns.specs.Columns.{cell_of}
use Rattle.trace_text.specs.Traces.{line_text, lines_text, numbers_of, AreValues}
use Rattle.trace_text.proofs.LineTexts.{lines_end, lines_more, row_holds}
use Rattle.trace_text.proofs.writing.lines.Goals as goal

pub push_line-requires-clause-values : goal.push_line-requires-clause-values
push_line-requires-clause-values c =
    let cells = map cell_of c.args.columns.now in
    let row = c.index-rows-instant.result in
    let values = row_holds (λ r. r.items) (AreValues cells) c.args.rows.now c.loop-instant.instant row c.loop-instant-test.true c.index-rows-instant.is c.requires.values in
    subst (λ (xs : List ℤ). AreValues cells xs) (sym c.as_slice.ensures.value) values

pub loop-instant-preserved : goal.loop-instant-preserved
loop-instant-preserved c =
    let m = c.args.checked.now in
    let cells = map cell_of c.args.columns.now in
    let rows = c.args.rows.now in
    let i = c.loop-instant.instant in
    let row = c.index-rows-instant.result in
    let more = c.in_ok-push_line.ensures ∙ (λ j. c.loop-instant.out.items ++ line_text (names m) cells i (c.as_slice.ensures.value j)) in
    lines_more (λ r. r.items) (names m) cells rows i row c.loop-instant.out.items c.push_line.new.out.items (lines_text (names m) cells 0 (numbers_of rows)) c.loop-instant-test.true c.index-rows-instant.is c.loop-instant.invariant more

pub returns : goal.returns
returns c =
    let m = c.args.checked.now in
    let cells = map cell_of c.args.columns.now in
    let rows = c.args.rows.now in
    lines_end (λ r. r.items) (names m) cells rows c.loop-instant.instant c.loop-instant.out.items (lines_text (names m) cells 0 (numbers_of rows))
    c.loop-instant-test.false c.loop-instant.invariant
