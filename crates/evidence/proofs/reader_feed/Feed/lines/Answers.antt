use Rattle.std.proofs.Common.{◌≡◌, ◌+◌, ◌++◌, List, ℕ, drop, refl, sym, ap, subst, ◌∙◌, rules}
use Rattle.lll_text.specs.Spelling.{line}
use Rattle.evidence.specs.declared.reader_feed.Feed.{Feed}
use Rattle.evidence.specs.Standing.{IsWithinLine}
use Rattle.evidence.proofs.FeedTurns.{begun, cut_at, uncut, keeps_on, one_line, still_short, all_of_it}
use Rattle.evidence.proofs.Fed.{piece_wrong}
use Rattle.evidence.proofs.reader_feed.Feed.lines.Goals as goal

pub loop-end-init : goal.loop-end-init
loop-end-init c = begun c.args.piece.now c.args.self.now c.requires.fine c.requires.pending

pub line-requires-clause-rest : goal.line-requires-clause-rest
line-requires-clause-rest c =
    let cut = cut_at c.loop-end.rest.now c.in-Some.end (sym c.line_feed.ensures ∙ c.in-Some.is) in
    subst IsWithinLine (sym c.around.ensures.front) cut.within

pub line-requires-clause-short : goal.line-requires-clause-short
line-requires-clause-short c =
    let rest = c.loop-end.rest.now in
    let front = c.around.result.0.now in
    let back = c.around.result.1.now in
    let cut = cut_at rest c.in-Some.end (sym c.line_feed.ensures ∙ c.in-Some.is) in
    let parts : rest ≡ line front ++ back =
    cut.parts ∙ ap (λ (t : List ℕ). line t ++ drop (c.in-Some.end + 1) rest) (sym c.around.ensures.front) ∙ ap (λ (t : List ℕ). line front ++ t) (sym c.around.ensures.back) in
    still_short c.args.piece.now c.args.self.now c.loop-end.self rest front back c.loop-end.invariant parts c.requires.short

pub loop-end-preserved : goal.loop-end-preserved
loop-end-preserved c =
    let rest = c.loop-end.rest.now in
    let front = c.around.result.0.now in
    let back = c.around.result.1.now in
    let cut = cut_at rest c.in-Some.end (sym c.line_feed.ensures ∙ c.in-Some.is) in
    let parts : rest ≡ line front ++ back =
    cut.parts ∙ ap (λ (t : List ℕ). line t ++ drop (c.in-Some.end + 1) rest) (sym c.around.ensures.front) ∙ ap (λ (t : List ℕ). line front ++ t) (sym c.around.ensures.back) in
    one_line c.args.piece.now c.args.self.now c.loop-end.self c.line.new.self rest front back c.loop-end.invariant parts
    c.in_ok-line.ensures.fine c.in_ok-line.ensures.pending c.in_ok-line.ensures.number c.line.ensures.keeps c.in_ok-line.ensures.reading

pub returns-clause-reading : goal.returns-clause-reading
returns-clause-reading c = λ bytes r.
    let g = c.loop-end.self in
    let rest = c.loop-end.rest.now in
    let h : Feed = record g { pending = c.extend_from_slice.new.self } in
    all_of_it c.args.piece.now c.args.self.now g h rest c.loop-end.invariant (uncut rest (sym c.line_feed.ensures ∙ c.in_default.is)) c.in_ok-extend_from_slice.ensures.items refl refl refl bytes r

pub returns-clause-keeps : goal.returns-clause-keeps
returns-clause-keeps c = let k = c.loop-end.invariant.keeps in record { bytes = k.bytes; form = k.form; failed = k.failed }

pub returns-in_err-extend_from_slice-clause-keeps : goal.returns-in_err-extend_from_slice-clause-keeps
returns-in_err-extend_from_slice-clause-keeps c = let k = c.loop-end.invariant.keeps in record { bytes = k.bytes; form = k.form; failed = k.failed }

pub returns-in_err-line-clause-keeps : goal.returns-in_err-line-clause-keeps
returns-in_err-line-clause-keeps c = keeps_on c.args.self.now c.loop-end.self c.line.new.self c.loop-end.invariant.keeps c.line.ensures.keeps

pub returns-in_err-line-clause-wrong : goal.returns-in_err-line-clause-wrong
returns-in_err-line-clause-wrong c =
    let rest = c.loop-end.rest.now in
    let front = c.around.result.0.now in
    let back = c.around.result.1.now in
    let cut = cut_at rest c.in-Some.end (sym c.line_feed.ensures ∙ c.in-Some.is) in
    let parts : rest ≡ line front ++ back =
    cut.parts ∙ ap (λ (t : List ℕ). line t ++ drop (c.in-Some.end + 1) rest) (sym c.around.ensures.front) ∙ ap (λ (t : List ℕ). line front ++ t) (sym c.around.ensures.back) in
    let w = c.in_err-line in
    let done = piece_wrong c.args.piece.now c.args.self.now c.loop-end.self rest front back _ c.loop-end.invariant parts (subst IsWithinLine (sym c.around.ensures.front) cut.within) w.ensures.wrong in
    search (rules, done)
