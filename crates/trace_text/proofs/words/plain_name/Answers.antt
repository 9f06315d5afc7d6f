use Rattle.std.proofs.Common.{sym, ap, ◌∙◌}
use Rattle.hll_lexer.specs.Words.{is_plain_name}
use Rattle.trace_text.proofs.TextFronts.{no_plain, plain_found}
use Rattle.trace_text.proofs.words.plain_name.Goals as goal

pub returns-then-is_plain_name : goal.returns-then-is_plain_name
returns-then-is_plain_name c =
    plain_found c.args.text.now c.split_at.result.0.now c.split_at.result.1.now c.word_length.result c.word_length.ensures.count c.split_at.ensures.front c.split_at.ensures.back (sym c.if-is_plain_name.ensures)

pub returns-else-is_plain_name : goal.returns-else-is_plain_name
returns-else-is_plain_name c = λ name after h.
    let q = no_plain c.args.text.now name after c.word_length.result c.word_length.ensures.count c.requires h in
    let both = sym q.0 ∙ ap is_plain_name (q.1 ∙ sym c.split_at.ensures.front) ∙ sym c.if-is_plain_name.ensures in
    absurd (cc both)
