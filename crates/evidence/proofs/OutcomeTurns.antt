-- The claims of a text up to the first that fails: a line more, and the end.
use Rattle.std.proofs.Common.{◌≡◌, ℕ, zero, suc, ◌<◌, Bool, false, List, [], ◌∷◌, ◌++◌, Ok, Err, sym, ap, subst, ◌∙◌, append_assoc, arith}
use Rattle.std.specs.Prelude.{Result, nat_lt}
use Rattle.std.proofs.lemmas.List.{append-nil}
use Rattle.lll_core.specs.declared.lll.Lll.{Lll}
use Rattle.miter.specs.Pairs.{IsUnpaired}
use Rattle.rup_checker.specs.declared.log.Log.{Log}
use Rattle.rup_checker.specs.declared.log.Step.{Step}
use Rattle.evidence.specs.declared.claim.ClaimFault.{ClaimFault}
use Rattle.evidence.specs.declared.claim.ClaimFault.TheVariants as claim
use Rattle.evidence.specs.declared.claims.Claims.{Claims}
use Rattle.evidence.specs.declared.claims_judged.Judged.TheVariants as judged
use Rattle.evidence.specs.declared.evidence.Evidence.{Evidence}
use Rattle.evidence.specs.declared.fault.Cause.{Cause}
use Rattle.evidence.specs.declared.fault.Cause.TheVariants as cause
use Rattle.evidence.specs.declared.reader_due.Bounds.{Bounds}
use Rattle.evidence.specs.declared.reader_due.Due.{Due}
use Rattle.evidence.specs.declared.reader_due.Statement.{Statement}
use Rattle.evidence.specs.declared.reader_due.Statement.TheVariants as line
use Rattle.evidence.specs.declared.reader_lines.EqualLine.{EqualLine}
use Rattle.evidence.specs.declared.reader_lines.EqualLine.TheVariants as says
use Rattle.evidence.specs.declared.reader_lines.Verdict.{Verdict}
use Rattle.evidence.specs.Accepted.{Accepted}
use Rattle.evidence.specs.ByLines.{said_of, logs_shown}
use Rattle.evidence.specs.Claims.{IsFirstOf}
use Rattle.evidence.specs.Counts.{HasText}
use Rattle.evidence.specs.Due.{IsDue}
use Rattle.evidence.specs.Refusals.{line_after, Fails}
use Rattle.evidence.specs.Shown.{Header, OpenEntry, Shown, Parts, Entry, BeginsSo, first_text, shown_text, open_text, found_of, no_log, with_log, with_row, with_model, with_entry, with_step, with_count, shown_after}
use Rattle.evidence.specs.Judging.{IsRefused, Told, open_logs, IsDueInParts, IsDueInEntry, IsDueIn, IsDueAfter, StepsFit, Expects, left_after, steps_after, IsJudged, TakesLineOf}
use Rattle.evidence.specs.Outcomes.{IsPairing, HasFewParts, IsJudgedLine, JudgesLine, IsAllRead}
use Rattle.evidence.proofs.EntryTurns.{counted, accepted_at_end}
use Rattle.evidence.proofs.FoundMade.{is_made}
use Rattle.evidence.proofs.JudgeLemmas.{unpaired_first}
use Rattle.evidence.proofs.JudgingTurns.{short_entries, facts_of}
use Rattle.evidence.proofs.RestLines.{entry_by, none, some}

-- ---- the models

pub refused_pair : (a b : Lll) (heading : ℕ) (name : List ℕ) (h : Header) → h.a ≡ a → h.b ≡ b → HasFewParts h → heading ≡ line_after (first_text h) → IsUnpaired a b name → IsPairing h (judged.Refused heading (cause.Unpaired name))
refused_pair a b heading name h same_a same_b few begins unpaired = λ e has head.
    let P = λ (k : Header). HasFewParts k → heading ≡ line_after (first_text k) → IsUnpaired k.a k.b name → IsFirstOf (Fails e) heading (cause.Unpaired name) in
    subst P head (λ f begins u. unpaired_first e has (omega (arith, f.parts)) (short_entries e.a e.equal e.entries has.entries_fit f.obligations) heading name begins u) few begins
    (subst (λ (l : Lll). IsUnpaired l h.b name) (sym same_a) (subst (λ (l : Lll). IsUnpaired a l name) (sym same_b) unpaired))

pub refused_before : (h : Header) (said : EqualLine) (line : ℕ) (why : Cause) → IsPairing h (judged.Refused line why) → IsRefused h (Parts said []) line why
refused_before h said line why refused = λ e has begun. refused e has begun.header

-- ---- what shows more shows what was shown before

log_before : (h : Header) (s : Shown) (log : Log) (e : Evidence) → BeginsSo h (with_log s log) e → BeginsSo h s e
log_before h (Parts said logs) log e b = record {
  header = b.header;
  rest = record { logs = log ∷ b.rest.logs; rows = b.rest.rows; models = b.rest.models; entries = b.rest.entries };
  shows = record { said_is = b.shows.said_is; logs_are = b.shows.logs_are ∙ append_assoc logs (log ∷ []) b.rest.logs; entries_are = b.shows.entries_are };
}
log_before h (Entry o) log e b = record {
  header = b.header;
  rest = record { logs = log ∷ b.rest.logs; rows = b.rest.rows; models = b.rest.models; entries = b.rest.entries };
  shows = record {
    equal_is = b.shows.equal_is;
    entry = b.shows.entry;
    entries_are = b.shows.entries_are;
    is_open = record { verdict = b.shows.is_open.verdict; logs = b.shows.is_open.logs ∙ append_assoc o.logs (log ∷ []) b.rest.logs; rows = b.shows.is_open.rows; models = b.shows.is_open.models };
  };
}

row_before : (h : Header) (s : Shown) (row : List Bool) (e : Evidence) → BeginsSo h (with_row s row) e → BeginsSo h s e
row_before h (Parts said logs) row e b = b
row_before h (Entry o) row e b = record {
  header = b.header;
  rest = record { logs = b.rest.logs; rows = row ∷ b.rest.rows; models = b.rest.models; entries = b.rest.entries };
  shows = record {
    equal_is = b.shows.equal_is;
    entry = b.shows.entry;
    entries_are = b.shows.entries_are;
    is_open = record { verdict = b.shows.is_open.verdict; logs = b.shows.is_open.logs; rows = b.shows.is_open.rows ∙ append_assoc o.rows (row ∷ []) b.rest.rows; models = b.shows.is_open.models };
  };
}

model_before : (h : Header) (s : Shown) (values : List Bool) (e : Evidence) → BeginsSo h (with_model s values) e → BeginsSo h s e
model_before h (Parts said logs) values e b = b
model_before h (Entry o) values e b = record {
  header = b.header;
  rest = record { logs = b.rest.logs; rows = b.rest.rows; models = values ∷ b.rest.models; entries = b.rest.entries };
  shows = record {
    equal_is = b.shows.equal_is;
    entry = b.shows.entry;
    entries_are = b.shows.entries_are;
    is_open = record { verdict = b.shows.is_open.verdict; logs = b.shows.is_open.logs; rows = b.shows.is_open.rows; models = b.shows.is_open.models ∙ append_assoc o.models (values ∷ []) b.rest.models };
  };
}

-- the parts that were shown before an entry
parts_before : (h : Header) (said : EqualLine) (logs : List Log) (v : Verdict) (due : Due) (e : Evidence) → IsDueInParts h said logs 0 due → 0 < due.entries → BeginsSo h (with_entry (Parts said logs) v) e → BeginsSo h (Parts said logs) e
parts_before h says.Shown logs v due e is more b = record {
  header = b.header;
  rest = record { logs = []; rows = []; models = []; entries = b.shows.entry ∷ b.rest.entries };
  shows = record { said_is = ap said_of b.shows.equal_is; logs_are = ap logs_shown b.shows.equal_is ∙ sym (append-nil logs); entries_are = b.shows.entries_are };
}
parts_before h (says.Conflicts part stepping) logs v due e is more b = absurd (omega (arith, is.entries_due, more))

-- and the entry before it
entry_before : (h : Header) (o : OpenEntry) (v : Verdict) (due : Due) (e : Evidence) → IsDueInEntry h o 0 due → due.logs ≡ 0 → due.rows ≡ 0 → due.model ≡ false → BeginsSo h (with_entry (Entry o) v) e → BeginsSo h (Entry o) e
entry_before h o v due e is logs rows model b =
    let made = is_made h.depth o.verdict o.logs o.rows o.models (counted h o due is logs rows model) in
    let x = found_of o.verdict o.logs o.rows o.models in
    record {
      header = b.header;
      rest = record { logs = []; rows = []; models = []; entries = b.shows.entry ∷ b.rest.entries };
      shows = record {
        equal_is = b.shows.equal_is;
        entry = x;
        entries_are = b.shows.entries_are ∙ append_assoc o.done (x ∷ []) (b.shows.entry ∷ b.rest.entries);
        is_open = record { verdict = made.verdict; logs = made.logs_are ∙ sym (append-nil o.logs); rows = made.rows_are ∙ sym (append-nil o.rows); models = made.models_are ∙ sym (append-nil o.models) };
      };
    }

next_before : (h : Header) (s : Shown) (v : Verdict) (due : Due) (e : Evidence) → IsDueIn h s 0 due → due.logs ≡ 0 → due.rows ≡ 0 → due.model ≡ false → 0 < due.entries → BeginsSo h (with_entry s v) e → BeginsSo h s e
next_before h (Parts said told) v due e is logs rows model more b = parts_before h said told v due e is more b
next_before h (Entry o) v due e is logs rows model more b = entry_before h o v due e is logs rows model b

step_before : (h : Header) (s : Shown) (left : ℕ) (steps : List Step) (step : Step) (e : Evidence) → BeginsSo h (with_step s left steps step) e → BeginsSo h s e
step_before h s zero steps step e b = b
step_before h s (suc zero) steps step e b = log_before h s (record { steps = steps ++ step ∷ [] }) e b
step_before h s (suc (suc left)) steps step e b = b

count_before : (h : Header) (s : Shown) (count : ℕ) (e : Evidence) → BeginsSo h (with_count s count) e → BeginsSo h s e
count_before h s zero e b = log_before h s no_log e b
count_before h s (suc count) e b = b

before : (h : Header) (s : Shown) (left : ℕ) (steps : List Step) (bounds : Bounds) (due : Due) (said : Statement) (e : Evidence) → IsDueAfter h s left due → IsDue bounds due said → BeginsSo h (shown_after s left steps said) e → BeginsSo h s e
before h s left steps bounds due (line.Step step) e is d b = step_before h s left steps step e b
before h s left steps bounds due (line.Log count) e is d b = count_before h s count e b
before h s left steps bounds due (line.Row values) e is d b = row_before h s values e b
before h s left steps bounds due (line.Model values) e is d b = model_before h s values e b
before h s left steps bounds due (line.Entry v) e is d b =
    let by = entry_by (nat_lt 0 due.steps) (nat_lt 0 due.logs) (nat_lt 0 due.rows) due.model (nat_lt 0 due.entries) d.kind in
    let there : IsDueIn h s 0 due = subst (λ n. IsDueIn h s n due) (ap open_logs (sym is.steps_due ∙ none due.steps by.0)) is.there in
    next_before h s v due e there (none due.logs by.1) (none due.rows by.2) by.3 (some due.entries by.4) b
before h s left steps bounds due line.End e is d b = b

-- so what was refused stays refused
pub still_refused : (a : Lll) (number : ℕ) (said : Statement) (h : Header) (s : Shown) (left : ℕ) (steps : List Step) (bounds : Bounds) (due : Due) (at : ℕ) (why : Cause) → IsJudgedLine a number said h s left steps bounds due → IsRefused h s at why
    → IsRefused h (shown_after s left steps said) at why
still_refused a number said h s left steps bounds due at why l refused = λ e has begun. refused e has (before h s left steps bounds due said e l.due_after l.is_due begun)

-- ---- a line that is judged

pub expects : (a : Lll) (c : Claims) (number : ℕ) (said : Statement) (h : Header) (s : Shown) (left : ℕ) (steps : List Step) (bounds : Bounds) (due : Due) → IsJudgedLine a number said h s left steps bounds due → IsJudged h s left steps c → Expects a c number said
expects a c number said h s left steps bounds due l j = record {
  h = h;
  s = s;
  steps = steps;
  bounds = bounds;
  due = due;
  same = l.same;
  depth = l.depth;
  inputs = l.inputs;
  depth_bound = l.depth_bound;
  judging = j.judging;
  due_after = subst (λ n. IsDueAfter h s n due) (sym j.left_is) l.due_after;
  is_due = l.is_due;
  steps_fit = subst (λ n. StepsFit n steps) (sym j.left_is) l.steps_fit;
  at = l.at ∙ ap (λ n. line_after (shown_text h s ++ open_text n steps)) (sym j.left_is);
  few = l.few;
}

abbrev Handed : Header → Shown → Statement → Claims → Result Unit ClaimFault → ℕ → List Step → Type 0
Handed h s said now result left steps = Told (IsJudged h (shown_after s left steps said) (left_after left said) (steps_after left steps said) now) h (shown_after s left steps said) result

handed : (a : Lll) (c now : Claims) (number : ℕ) (said : Statement) (result : Result Unit ClaimFault) (h : Header) (s : Shown) (left : ℕ) (steps : List Step) (bounds : Bounds) (due : Due) → TakesLineOf a c number said now result
    → IsJudgedLine a number said h s left steps bounds due → IsJudged h s left steps c → Handed h s said now result left steps
unfolding expects
handed a c now number said result h s left steps bounds due takes l j =
    subst (λ n. Handed h s said now result n steps) j.left_is (takes (expects a c number said h s left steps bounds due l j))

pub taken_on : (a : Lll) (c now : Claims) (number : ℕ) (said : Statement) → TakesLineOf a c number said now (Ok tt) → JudgesLine a (judged.Holding c) number said (judged.Holding now)
taken_on a c now number said takes = λ h s left steps bounds due l j. handed a c now number said (Ok tt) h s left steps bounds due takes l j

pub taken_refused : (a : Lll) (c now : Claims) (number : ℕ) (said : Statement) (at : ℕ) (why : Cause) → TakesLineOf a c number said now (Err (claim.Refused at why)) → JudgesLine a (judged.Holding c) number said (judged.Refused at why)
taken_refused a c now number said at why takes = λ h s left steps bounds due l j. handed a c now number said (Err (claim.Refused at why)) h s left steps bounds due takes l j

pub refused_on : (a : Lll) (number : ℕ) (said : Statement) (at : ℕ) (why : Cause) → JudgesLine a (judged.Refused at why) number said (judged.Refused at why)
refused_on a number said at why = λ h s left steps bounds due l j. still_refused a number said h s left steps bounds due at why l j

-- ---- the end

pub accepted_outcome : (h : Header) (s : Shown) (due : Due) (c : Claims) → IsJudged h s 0 [] c → IsAllRead h s due → (e : Evidence) → HasText e → BeginsSo h s e → Accepted e
accepted_outcome h s due c j all e has begun =
    accepted_at_end h s c.miter due (facts_of h s c j.judging.judged) j.judging.judged.hold all.after.there all.logs all.rows all.model all.entries e has begun
