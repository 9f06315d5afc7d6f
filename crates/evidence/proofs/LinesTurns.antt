-- What the lines of a text so far sum up to.
use Rattle.std.proofs.Common.{◌≡◌, ℕ, ◌+◌, ◌<◌, Bool, List, [], ◌∷◌, ◌++◌, length, length-append, map, zero, suc, refl, sym, ap, subst, ◌∙◌, arith}
use Rattle.std.specs.Prelude.{nat_lt}
use Rattle.std.proofs.lemmas.List.{append-nil, map-append}
use Rattle.rup_checker.specs.declared.log.Log.{Log}
use Rattle.rup_checker.specs.declared.log.Step.{Step}
use Rattle.kinduction.specs.declared.equal.Equal.{Equal}
use Rattle.kinduction.specs.declared.equal.Equal.TheVariants as equal
use Rattle.kinduction.specs.declared.found.Found.{Found}
use Rattle.kinduction.specs.declared.found.Found.TheVariants as found
use Rattle.lll_core.specs.declared.lll.Lll.{Lll}
use Rattle.evidence.specs.declared.evidence.Evidence.{Evidence}
use Rattle.evidence.specs.declared.reader_due.Bounds.{Bounds}
use Rattle.evidence.specs.declared.reader_due.Due.{Due}
use Rattle.evidence.specs.declared.reader_due.Statement.{Statement}
use Rattle.evidence.specs.declared.reader_due.Statement.TheVariants as line
use Rattle.evidence.specs.declared.reader_lines.EqualLine.TheVariants as says
use Rattle.evidence.specs.declared.reader_lines.EqualLine.{EqualLine}
use Rattle.evidence.specs.declared.reader_lines.Verdict.{Verdict}
use Rattle.evidence.specs.declared.reader_lines.Verdict.TheVariants as verdict
use Rattle.evidence.specs.declared.summary.Line.{Line}
use Rattle.evidence.specs.declared.summary.Line.TheVariants as shown
use Rattle.evidence.specs.ByLines.{said_of, verdict_of, rows_due}
use Rattle.evidence.specs.Counts.{HasText, EntriesFit}
use Rattle.evidence.specs.Due.{IsDue}
use Rattle.evidence.specs.Following.{lines_shown}
use Rattle.evidence.specs.Judging.{IsDueAfter, IsDueIn, IsDueInParts, open_logs}
use Rattle.evidence.specs.Outcomes.{IsAllRead}
use Rattle.evidence.specs.Shown.{Header, Shown, Parts, Entry, BeginsSo, found_of, with_log, with_step, with_count, with_row, with_model, with_entry, shown_after}
use Rattle.evidence.specs.Summaries.{line_of, lines_of, verdict_line, lines_at, lines_said}
use Rattle.evidence.proofs.RestLines.{entry_by, none, some}

-- the line of an entry is that of its verdict
same_line : (entry : Found) → line_of entry ≡ verdict_line (verdict_of entry)
same_line (found.Proved k bases step) = refl
same_line (found.Falsified bits bases) = refl
same_line (found.Depth step_model bases) = refl
same_line (found.Conflicts place log bases) = refl

-- and so is that of an entry that these make
made_line : (v : Verdict) (logs : List Log) (rows models : List (List Bool)) → length rows ≡ rows_due v → line_of (found_of v logs rows models) ≡ verdict_line v
made_line (verdict.Proved k) logs rows models e = refl
made_line (verdict.Falsified n) logs rows models e = ap (λ m. shown.Falsified m) e
made_line verdict.Depth logs rows models e = refl
made_line (verdict.Conflicts place) logs rows models e = refl

-- ---- a line more

same_after_log : (h : Header) (s : Shown) (log : Log) → lines_shown h (with_log s log) ≡ lines_shown h s
same_after_log h (Parts said logs) log = refl
same_after_log h (Entry o) log = refl

same_after_row : (h : Header) (s : Shown) (row : List Bool) → lines_shown h (with_row s row) ≡ lines_shown h s
same_after_row h (Parts said logs) row = refl
same_after_row h (Entry o) row = refl

same_after_model : (h : Header) (s : Shown) (values : List Bool) → lines_shown h (with_model s values) ≡ lines_shown h s
same_after_model h (Parts said logs) values = refl
same_after_model h (Entry o) values = refl

same_after_step : (h : Header) (s : Shown) (left : ℕ) (steps : List Step) (step : Step) → lines_shown h (with_step s left steps step) ≡ lines_shown h s
same_after_step h s zero steps step = refl
same_after_step h s (suc zero) steps step = same_after_log h s (record { steps = steps ++ step ∷ [] })
same_after_step h s (suc (suc left)) steps step = refl

same_after_count : (h : Header) (s : Shown) (count : ℕ) → lines_shown h (with_count s count) ≡ lines_shown h s
same_after_count h s zero = same_after_log h s (record { steps = [] })
same_after_count h s (suc count) = refl

more_in_parts : (h : Header) (said : EqualLine) (logs : List Log) (v : Verdict) (opened : ℕ) (due : Due) → IsDueInParts h said logs opened due → 0 < due.entries → lines_shown h (with_entry (Parts said logs) v) ≡ lines_shown h (Parts said logs) ++ verdict_line v ∷ []
more_in_parts h says.Shown logs v opened due is there = refl
more_in_parts h (says.Conflicts part stepping) logs v opened due is there = absurd (omega (arith, is.entries_due, there))

more_lines : (h : Header) (s : Shown) (v : Verdict) (opened : ℕ) (due : Due) → IsDueIn h s opened due → 0 < due.entries → due.rows ≡ 0 → lines_shown h (with_entry s v) ≡ lines_shown h s ++ verdict_line v ∷ []
more_lines h (Parts said logs) v opened due is there none = more_in_parts h said logs v opened due is there
more_lines h (Entry o) v opened due is there none =
    let entry = found_of o.verdict o.logs o.rows o.models in
    let all : length o.rows ≡ rows_due o.verdict = omega (arith, is.rows_due, none) in
    ap (λ (ls : List Line). ls ++ verdict_line v ∷ []) (map-append line_of o.done (entry ∷ []) ∙ ap (λ (l : Line). map line_of o.done ++ l ∷ []) (made_line o.verdict o.logs o.rows o.models all))

-- one line more adds what it says
pub lines_then : (h : Header) (s : Shown) (left : ℕ) (steps : List Step) (bounds : Bounds) (due : Due) (said : Statement) → IsDueAfter h s left due → IsDue bounds due said → lines_shown h (shown_after s left steps said) ≡ lines_shown h s ++ lines_said said
lines_then h s left steps bounds due (line.Step step) after d = same_after_step h s left steps step ∙ sym (append-nil (lines_shown h s))
lines_then h s left steps bounds due (line.Log count) after d = same_after_count h s count ∙ sym (append-nil (lines_shown h s))
lines_then h s left steps bounds due (line.Row values) after d = same_after_row h s values ∙ sym (append-nil (lines_shown h s))
lines_then h s left steps bounds due (line.Model values) after d = same_after_model h s values ∙ sym (append-nil (lines_shown h s))
lines_then h s left steps bounds due (line.Entry v) after d =
    let by = entry_by (nat_lt 0 due.steps) (nat_lt 0 due.logs) (nat_lt 0 due.rows) due.model (nat_lt 0 due.entries) d.kind in
    more_lines h s v (open_logs left) due after.there (some due.entries by.4) (none due.rows by.2)
lines_then h s left steps bounds due line.End after d = sym (append-nil (lines_shown h s))

-- ---- the end

nothing_there : {X : Type 0} (xs : List X) → length xs ≡ 0 → xs ≡ []
nothing_there [] e = refl
nothing_there (x ∷ xs) e = absurd (omega (arith, e))

-- no obligation is left
of_parts : (a : Lll) (said : EqualLine) (shows : Equal) (entries : List Found) → said_of shows ≡ said → EntriesFit a shows entries → (said ≡ says.Shown → length a.obligations ≡ 0) → lines_at said (length a.obligations) ≡ lines_of a shows entries
of_parts a says.Shown (equal.Shown logs) entries is fit none = sym (ap (λ (es : List Found). map line_of es) (nothing_there entries (fit ∙ none refl)))
of_parts a says.Shown (equal.Conflicts part stepping log) entries is fit none = absurd cc
of_parts a (says.Conflicts part stepping) (equal.Shown logs) entries is fit none = absurd cc
of_parts a (says.Conflicts part stepping) (equal.Conflicts p s log) entries is fit none = refl

of_entries : (a : Lll) (shows : Equal) (done : List Found) (entry : Found) (rest : List Found) (v : Verdict) → said_of shows ≡ says.Shown → verdict_of entry ≡ v → EntriesFit a shows (done ++ entry ∷ rest) → length done + 1 ≡ length a.obligations
    → map line_of done ++ verdict_line v ∷ [] ≡ lines_of a shows (done ++ entry ∷ rest)
of_entries a (equal.Shown logs) done entry rest v is named fit all =
    let last : rest ≡ [] = nothing_there rest (omega (arith, fit, all, length-append done (entry ∷ rest))) in
    ap (λ (l : Line). map line_of done ++ l ∷ []) (sym (same_line entry ∙ ap verdict_line named)) ∙ sym (map-append line_of done (entry ∷ [])) ∙ ap (λ (es : List Found). map line_of (done ++ entry ∷ es)) (sym last)
of_entries a (equal.Conflicts part stepping log) done entry rest v is named fit all = absurd cc

no_more_parts : (h : Header) (said : EqualLine) (logs : List Log) (opened : ℕ) (due : Due) → IsDueInParts h said logs opened due → due.entries ≡ 0 → said ≡ says.Shown → length h.a.obligations ≡ 0
no_more_parts h says.Shown logs opened due is none e = omega (arith, is.entries_due, none)
no_more_parts h (says.Conflicts part stepping) logs opened due is none e = absurd cc

-- after the last line they are the lines of each value that shows what is shown
pub lines_are : (h : Header) (s : Shown) (due : Due) (e : Evidence) → IsAllRead h s due → HasText e → BeginsSo h s e → lines_shown h s ≡ lines_of e.a e.equal e.entries
lines_are h (Parts said logs) due e all fits begins =
    let same : e.a ≡ h.a = ap (λ (x : Header). x.a) begins.header in
    let shows = begins.shows in
    let fit : EntriesFit h.a e.equal e.entries = subst (λ (a : Lll). EntriesFit a e.equal e.entries) same fits.entries_fit in
    of_parts h.a said e.equal e.entries shows.said_is fit (no_more_parts h said logs 0 due all.after.there all.entries) ∙ ap (λ (a : Lll). lines_of a e.equal e.entries) (sym same)
lines_are h (Entry o) due e all fits begins =
    let same : e.a ≡ h.a = ap (λ (x : Header). x.a) begins.header in
    let shows = begins.shows in
    let is = all.after.there in
    let parts : said_of e.equal ≡ says.Shown = ap said_of shows.equal_is ∙ is.shown in
    let fit : EntriesFit h.a e.equal (o.done ++ shows.entry ∷ begins.rest.entries) = subst (λ (es : List Found). EntriesFit h.a e.equal es) shows.entries_are (subst (λ (a : Lll). EntriesFit a e.equal e.entries) same fits.entries_fit) in
    of_entries h.a e.equal o.done shows.entry begins.rest.entries o.verdict parts shows.is_open.verdict fit (omega (arith, is.entries_due, all.entries))
    ∙ ap (λ (es : List Found). lines_of h.a e.equal es) (sym shows.entries_are) ∙ ap (λ (a : Lll). lines_of a e.equal e.entries) (sym same)
