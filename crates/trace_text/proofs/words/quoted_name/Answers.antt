use Rattle.std.proofs.Common.{◌≡◌, ◌<◌, false, length, refl, sym, ap, subst, ◌∙◌}
use Rattle.hll_lexer.specs.Words.{is_plain_name}
use Rattle.hll_tree.specs.Printing.{Text}
use Rattle.trace_text.proofs.TextFronts.{match_none, no_quoted, quoted_found}
use Rattle.trace_text.proofs.words.quoted_name.Goals as goal

pub returns-in_err-rest : goal.returns-in_err-rest
returns-in_err-rest c =
    match_none _ _ _ c.from_residual.ensures (λ name after h.
    let q = no_quoted c.args.text.now name after c.quoted_length.result c.quoted_length.ensures.count h in
    c.in_err-rest.ensures after (c.split_at.ensures.back ∙ sym q.2))

pub returns-then-needs_quotes : goal.returns-then-needs_quotes
returns-then-needs_quotes c =
    let h = c.if-needs_quotes.ensures in
    let parts = h.0 refl in
    quoted_found c.args.text.now c.split_at.result.0.now c.split_at.result.1.now c.in_ok-rest.rest.now c.quoted_length.result c.quoted_length.ensures.count
    c.split_at.ensures.front c.split_at.ensures.back c.in_ok-rest.ensures parts.0 parts.1

pub returns-else-needs_quotes : goal.returns-else-needs_quotes
returns-else-needs_quotes c = λ name after stands.
    let h = c.if-needs_quotes.ensures in
    let q = no_quoted c.args.text.now name after c.quoted_length.result c.quoted_length.ensures.count stands in
    let same = q.1 ∙ sym c.split_at.ensures.front in
    let size : 0 < length c.split_at.result.0.now = subst (λ (t : Text). 0 < length t) same q.3 in
    let plain : is_plain_name c.split_at.result.0.now ≡ false = ap is_plain_name (sym same) ∙ q.0 in
    absurd (cc (h.1 (size, plain)))
