use Rattle.std.proofs.Common.{◌≡◌, ◌^◌, ◌<◌, None, sym, ◌∙◌, arith}
use Rattle.evidence.proofs.Fed.{no_form, some_form, ready, reading_short, counts_on, reads_on, stops_at}
use Rattle.evidence.proofs.reader_feed.Feed.feed.Goals as goal
use Rattle.evidence.proofs.reader_feed.Feed.feed.Goals.{then-is_some-via-then-is_some, then-is_some-via-else-is_some+then-self-gt-LIMIT}

pub returns-then-is_some-clause-stands : goal.returns-then-is_some-clause-stands
returns-then-is_some-clause-stands c = λ bytes s alive.
    let f = c.args.self.now in
    let now = c.saturating_add-self.result in
    let past : f.form ≡ None → 2 ^ 30 < now = λ none. elim c.then-is_some.branch [
      | then-is_some-via-then-is_some w ↦ absurd (some_form f.form (sym c.is_some.ensures ∙ w.if-is_some.true) none)
      | then-is_some-via-else-is_some+then-self-gt-LIMIT w ↦ omega (arith, w.if-self-gt-LIMIT.true)
    ] in
    counts_on f bytes c.args.piece.now now (omega (arith, c.saturating_add-self.ensures)) past (s alive)

pub lines-requires-clause-number : goal.lines-requires-clause-number
lines-requires-clause-number c =
    let f = c.args.self.now in
    let stands = c.requires.stands in
    (ready f stands.0 c.args.piece.now c.saturating_add-self.result (stands.1 c.if-self.false) (omega (arith, c.saturating_add-self.ensures)) c.if-self-gt-LIMIT.false (no_form f.form (sym c.is_some.ensures ∙ c.if-is_some.false))).number

pub returns-in-Ok-clause-stands : goal.returns-in-Ok-clause-stands
returns-in-Ok-clause-stands c = λ bytes s alive.
    let f = c.args.self.now in
    reads_on f c.lines.new.self bytes c.args.piece.now c.saturating_add-self.result (omega (arith, c.saturating_add-self.ensures)) c.if-self-gt-LIMIT.false (no_form f.form (sym c.is_some.ensures ∙ c.if-is_some.false))
    c.lines.ensures.keeps c.in-Ok.ensures.reading (s c.if-self.false)

pub returns-in-Err-Form-clause-stands : goal.returns-in-Err-Form-clause-stands
returns-in-Err-Form-clause-stands c = λ bytes s alive.
    let f = c.args.self.now in
    stops_at f c.lines.new.self bytes c.args.piece.now c.saturating_add-self.result c.in-Err-Form.line (omega (arith, c.saturating_add-self.ensures)) c.if-self-gt-LIMIT.false (no_form f.form (sym c.is_some.ensures ∙ c.if-is_some.false))
    c.lines.ensures.keeps (rw c.in-Err-Form.field-0-is at c.in-Err-Form.ensures.wrong) (s c.if-self.false)

pub lines-requires-clause-short : goal.lines-requires-clause-short
lines-requires-clause-short c =
    let f = c.args.self.now in
    let stands = c.requires.stands in
    reading_short f stands.0 c.args.piece.now c.saturating_add-self.result (stands.1 c.if-self.false) (omega (arith, c.saturating_add-self.ensures)) c.if-self-gt-LIMIT.false (no_form f.form (sym c.is_some.ensures ∙ c.if-is_some.false))
