-- After a line that is due: what is shown and read, what is due then, and that it fits.
use Rattle.std.proofs.Common.{◌≡◌, ℕ, zero, suc, ◌+◌, ◌-◌, ◌<◌, Bool, true, false, List, [], ◌∷◌, ◌++◌, length, refl, sym, ap, subst, ◌∙◌, append_assoc, length-append, arith, if◌then◌else◌}
use Rattle.std.specs.Prelude.{nat_lt, codes}
use Rattle.std.specs.List.{flat_map}
use Rattle.std.proofs.lemmas.List.{append-nil}
use Rattle.std.proofs.lemmas.List.Concat.{flat_map-cons, flat_map-append}
use Rattle.lll_text.specs.Spelling.{line as line_of, number_field}
use Rattle.rup_checker.specs.declared.log.Log.{Log}
use Rattle.rup_checker.specs.declared.log.Step.{Step}
use Rattle.evidence.specs.declared.reader_due.Bounds.{Bounds}
use Rattle.evidence.specs.declared.reader_due.Due.{Due}
use Rattle.evidence.specs.declared.reader_due.Statement.{Statement}
use Rattle.evidence.specs.declared.reader_due.Statement.TheVariants as line
use Rattle.evidence.specs.declared.reader_lines.EqualLine.TheVariants as says
use Rattle.evidence.specs.declared.reader_lines.Verdict.{Verdict}
use Rattle.kinduction.specs.declared.equal.Equal.{Equal}
use Rattle.kinduction.specs.declared.equal.Equal.TheVariants as equal
use Rattle.kinduction.specs.declared.found.Found.{Found}
use Rattle.evidence.specs.ByLines.{said_of, has_model}
use Rattle.evidence.specs.Due.{after_verdict, due_after, IsDue, line_content}
use Rattle.evidence.specs.Readers.{VerdictFits, equal_content, verdict_content}
use Rattle.evidence.specs.Rests.{rows_text, models_text}
use Rattle.evidence.specs.Spelling.{number_line, step_line, bits_line, log_text, logs_text, part_count, equal_text}
use Rattle.evidence.specs.Shown.{Header, OpenEntry, Shown, Parts, Entry, header_text, parts_front, entry_front, logs_front, rows_front, shown_text, open_text, no_log, found_of, with_log, with_entry, with_step, with_count, shown_after}
use Rattle.evidence.specs.Judging.{IsBeforeRows, open_logs, IsDueInEntry, IsDueIn, IsDueAfter, left_after, steps_after}
use Rattle.evidence.proofs.EntryTurns.{next_open, counted, open_front}
use Rattle.evidence.proofs.JudgingTurns.{front_same}
use Rattle.evidence.proofs.LogMethods.{before_rows, open_some}
use Rattle.evidence.proofs.RestLines.{step_by, log_by, row_by, model_by, entry_by, none, some, after_is}

-- ---- what is shown is spelled

logs_more : (logs : List Log) (log : Log) → logs_text (logs ++ log ∷ []) ≡ logs_text logs ++ log_text log
logs_more logs log = flat_map-append log_text logs (log ∷ []) ∙ ap (λ (t : List ℕ). logs_text logs ++ t) (flat_map-cons log_text log [] ∙ append-nil (log_text log))

-- one log more
pub log_text_more : (h : Header) (s : Shown) (log : Log) → IsBeforeRows s → shown_text h (with_log s log) ≡ shown_text h s ++ log_text log
log_text_more h (Parts said logs) log before =
    let front = parts_front h said in
    ap (λ (t : List ℕ). front ++ t) (logs_more logs log) ∙ sym (append_assoc front (logs_text logs) (log_text log))
log_text_more h (Entry o) log before =
    let front = logs_front h o in
    let more : OpenEntry = record o { logs = o.logs ++ log ∷ [] } in
    front_same h (Entry more) before ∙ ap (λ (t : List ℕ). front ++ t) (logs_more o.logs log) ∙ sym (append_assoc front (logs_text o.logs) (log_text log))
    ∙ ap (λ (t : List ℕ). t ++ log_text log) (sym (front_same h (Entry o) before))

bits_more : (word : List ℕ) (rows : List (List Bool)) (row : List Bool) → flat_map (bits_line word) (rows ++ row ∷ []) ≡ flat_map (bits_line word) rows ++ bits_line word row
bits_more word rows row = flat_map-append (bits_line word) rows (row ∷ []) ∙ ap (λ (t : List ℕ). flat_map (bits_line word) rows ++ t) (flat_map-cons (bits_line word) row [] ∙ append-nil (bits_line word row))

-- one row more
pub row_text_more : (h : Header) (o : OpenEntry) (row : List Bool) → o.models ≡ [] → shown_text h (Entry (record o { rows = o.rows ++ row ∷ [] })) ≡ shown_text h (Entry o) ++ bits_line (codes "bits:") row
row_text_more h o row none =
    let front = rows_front h o in
    let without : (rs : List (List Bool)) → front ++ rows_text rs ++ models_text o.models ≡ front ++ rows_text rs = λ rs. ap (λ (ms : List (List Bool)). front ++ rows_text rs ++ models_text ms) none ∙ append-nil (front ++ rows_text rs) in
    without (o.rows ++ row ∷ []) ∙ ap (λ (t : List ℕ). front ++ t) (bits_more (codes "bits:") o.rows row) ∙ sym (append_assoc front (rows_text o.rows) (bits_line (codes "bits:") row))
    ∙ ap (λ (t : List ℕ). t ++ bits_line (codes "bits:") row) (sym (without o.rows))

-- one assignment more
pub model_text_more : (h : Header) (o : OpenEntry) (values : List Bool) → shown_text h (Entry (record o { models = o.models ++ values ∷ [] })) ≡ shown_text h (Entry o) ++ bits_line (codes "model:") values
model_text_more h o values =
    let front = rows_front h o ++ rows_text o.rows in
    ap (λ (t : List ℕ). front ++ t) (bits_more (codes "model:") o.models values) ∙ sym (append_assoc front (models_text o.models) (bits_line (codes "model:") values))

-- ---- the log that is open

steps_more : (steps : List Step) (step : Step) → flat_map step_line (steps ++ step ∷ []) ≡ flat_map step_line steps ++ step_line step
steps_more steps step = flat_map-append step_line steps (step ∷ []) ∙ ap (λ (t : List ℕ). flat_map step_line steps ++ t) (flat_map-cons step_line step [] ∙ append-nil (step_line step))

-- a step more, of a log of so many
step_spelled : (count before : ℕ) (steps : List Step) (step : Step) → count ≡ before → number_line (codes "log") count ++ flat_map step_line (steps ++ step ∷ []) ≡ (number_line (codes "log") before ++ flat_map step_line steps) ++ step_line step
step_spelled count before steps step same =
    ap (λ n. number_line (codes "log") n ++ flat_map step_line (steps ++ step ∷ [])) same ∙ ap (λ (t : List ℕ). number_line (codes "log") before ++ t) (steps_more steps step)
    ∙ sym (append_assoc (number_line (codes "log") before) (flat_map step_line steps) (step_line step))

-- the lines after a step
pub step_text_after : (h : Header) (s : Shown) (left : ℕ) (steps : List Step) (step : Step) → 0 < left → IsBeforeRows s
    → shown_text h (with_step s left steps step) ++ open_text (left - 1) (steps_after left steps (line.Step step)) ≡ (shown_text h s ++ open_text left steps) ++ step_line step
step_text_after h s zero steps step lt before = absurd (omega (arith, lt))
step_text_after h s (suc zero) steps step lt before =
    let log : Log = record { steps = steps ++ step ∷ [] } in
    let count : length (steps ++ step ∷ []) ≡ length steps + 1 = length-append steps (step ∷ []) in
    append-nil (shown_text h (with_log s log)) ∙ log_text_more h s log before
    ∙ ap (λ (t : List ℕ). shown_text h s ++ t) (step_spelled (length (steps ++ step ∷ [])) (length steps + 1) steps step count) ∙ sym (append_assoc (shown_text h s) (open_text 1 steps) (step_line step))
step_text_after h s (suc (suc left)) steps step lt before =
    let count : length (steps ++ step ∷ []) + suc left ≡ length steps + suc (suc left) = omega (arith, length-append steps (step ∷ [])) in
    let less : suc left ≡ suc (suc left) - 1 = omega arith in
    subst (λ n. shown_text h s ++ open_text n (steps ++ step ∷ []) ≡ (shown_text h s ++ open_text (suc (suc left)) steps) ++ step_line step) less
    (ap (λ (t : List ℕ). shown_text h s ++ t) (step_spelled (length (steps ++ step ∷ []) + suc left) (length steps + suc (suc left)) steps step count)
    ∙ sym (append_assoc (shown_text h s) (open_text (suc (suc left)) steps) (step_line step)))

-- and after the line of a log
pub log_text_after : (h : Header) (s : Shown) (count : ℕ) → IsBeforeRows s → shown_text h (with_count s count) ++ open_text count [] ≡ shown_text h s ++ number_line (codes "log") count
log_text_after h s zero before = append-nil (shown_text h (with_log s no_log)) ∙ log_text_more h s no_log before ∙ ap (λ (t : List ℕ). shown_text h s ++ t) (append-nil (number_line (codes "log") 0))
log_text_after h s (suc count) before =
    let same : 0 + suc count ≡ suc count = omega arith in
    ap (λ (t : List ℕ). shown_text h s ++ t) (append-nil (number_line (codes "log") (0 + suc count)) ∙ ap (number_line (codes "log")) same)

-- ---- the next entry

-- where the next entry's line stands, and its number
pub record IsNext (h : Header) (s : Shown) (v : Verdict) (due : Due) : Type 0 where
  pub front : shown_text h s ≡ entry_front h (next_open s v)
  pub number : due.number ≡ length (next_open s v).done + 1
  pub entries : due.entries + length (next_open s v).done ≡ length h.a.obligations
  pub shown : said_of (next_open s v).equal ≡ says.Shown

pub next_is : (h : Header) (s : Shown) (v : Verdict) (due : Due) → IsDueIn h s 0 due → due.logs ≡ 0 → due.rows ≡ 0 → due.model ≡ false → 0 < due.entries → IsNext h s v due
next_is h (Parts says.Shown logs) v due is no_logs no_rows no_model some = record {
  front = append_assoc (header_text h) (line_of (equal_content (part_count h.b) says.Shown)) (logs_text logs) ∙ sym (append-nil (header_text h ++ equal_text (part_count h.b) (equal.Shown logs)));
  number = omega (arith, is.number);
  entries = omega (arith, is.entries_due);
  shown = refl;
}
next_is h (Parts (says.Conflicts part stepping) logs) v due is no_logs no_rows no_model some = absurd (omega (arith, is.entries_due, some))
next_is h (Entry o) v due is no_logs no_rows no_model some =
    let made = found_of o.verdict o.logs o.rows o.models in
    record {
      front = open_front h o (counted h o due is no_logs no_rows no_model) v;
      number = omega (arith, is.number, length-append o.done (made ∷ []));
      entries = omega (arith, is.entries_due, length-append o.done (made ∷ []));
      shown = is.shown;
    }

entry_lines : (h : Header) (o : OpenEntry) → o.logs ≡ [] → o.rows ≡ [] → o.models ≡ [] → shown_text h (Entry o) ≡ logs_front h o
entry_lines h o no_logs no_rows no_models = front_same h (Entry o) (no_rows, no_models) ∙ ap (λ (ls : List Log). logs_front h o ++ logs_text ls) no_logs ∙ append-nil (logs_front h o)

pub entry_text_after : (h : Header) (s : Shown) (v : Verdict) (due : Due) → IsNext h s v due → shown_text h (with_entry s v) ≡ shown_text h s ++ line_of (line_content due.number (line.Entry v))
entry_text_after h (Parts said logs) v due is =
    let o = next_open (Parts said logs) v in
    let At = λ (t : List ℕ) (n : ℕ). t ++ line_of (codes "entry" ++ number_field n ++ verdict_content v) in
    entry_lines h o refl refl refl ∙ ap (λ (t : List ℕ). At t (length o.done + 1)) (sym is.front) ∙ ap (At (shown_text h (Parts said logs))) (sym is.number)
entry_text_after h (Entry p) v due is =
    let o = next_open (Entry p) v in
    let At = λ (t : List ℕ) (n : ℕ). t ++ line_of (codes "entry" ++ number_field n ++ verdict_content v) in
    entry_lines h o refl refl refl ∙ ap (λ (t : List ℕ). At t (length o.done + 1)) (sym is.front) ∙ ap (At (shown_text h (Entry p))) (sym is.number)

-- ---- what is due then

-- other steps
same_steps : (h : Header) (s : Shown) (opened n : ℕ) (due : Due) → IsDueIn h s opened due → IsDueIn h s opened (record due { steps = n })
same_steps h (Parts said logs) opened n due is = record { fits = is.fits; logs_due = is.logs_due; rows_due = is.rows_due; model_due = is.model_due; entries_due = is.entries_due; number = is.number }
same_steps h (Entry o) opened n due is = record {
  shown = is.shown;
  fits = is.fits;
  logs_due = is.logs_due;
  rows_due = is.rows_due;
  models_due = is.models_due;
  entries_due = is.entries_due;
  number = is.number;
  logs_first = is.logs_first;
  rows_first = is.rows_first;
}

-- the log that was open is closed
log_closed : (h : Header) (s : Shown) (log : Log) (due : Due) → IsDueIn h s 1 due → IsDueIn h (with_log s log) 0 due
log_closed h (Parts said logs) log due is = record {
  fits = is.fits;
  logs_due = omega (arith, is.logs_due, length-append logs (log ∷ []));
  rows_due = is.rows_due;
  model_due = is.model_due;
  entries_due = is.entries_due;
  number = is.number;
}
log_closed h (Entry o) log due is = record {
  shown = is.shown;
  fits = is.fits;
  logs_due = omega (arith, is.logs_due, length-append o.logs (log ∷ []));
  rows_due = is.rows_due;
  models_due = is.models_due;
  entries_due = is.entries_due;
  number = is.number;
  logs_first = λ some. is.logs_first (omega (arith, some));
  rows_first = is.rows_first;
}

-- a log opens
log_opened : (h : Header) (s : Shown) (due : Due) → 0 < due.logs → IsDueIn h s 0 due → IsDueIn h s 1 (record due { logs = due.logs - 1 })
log_opened h (Parts said logs) due some is = record { fits = is.fits; logs_due = omega (arith, is.logs_due, some); rows_due = is.rows_due; model_due = is.model_due; entries_due = is.entries_due; number = is.number }
log_opened h (Entry o) due some is = record {
  shown = is.shown;
  fits = is.fits;
  logs_due = omega (arith, is.logs_due, some);
  rows_due = is.rows_due;
  models_due = is.models_due;
  entries_due = is.entries_due;
  number = is.number;
  logs_first = λ _. is.logs_first (omega (arith, some));
  rows_first = is.rows_first;
}

due_step : (h : Header) (s : Shown) (left : ℕ) (steps : List Step) (step : Step) (due : Due) → 0 < left → IsDueAfter h s left due → IsDueAfter h (with_step s left steps step) (left - 1) (record due { steps = due.steps - 1 })
due_step h s zero steps step due lt is = absurd (omega (arith, lt))
due_step h s (suc zero) steps step due lt is =
    let log : Log = record { steps = steps ++ step ∷ [] } in
    record { steps_due = omega (arith, is.steps_due); there = same_steps h (with_log s log) 0 (due.steps - 1) due (log_closed h s log due is.there) }
due_step h s (suc (suc left)) steps step due lt is =
    let less : suc left ≡ suc (suc left) - 1 = omega arith in
    record { steps_due = omega (arith, is.steps_due); there = subst (λ n. IsDueIn h s (open_logs n) (record due { steps = due.steps - 1 })) less (same_steps h s 1 (due.steps - 1) due is.there) }

due_log : (h : Header) (s : Shown) (count : ℕ) (due : Due) → 0 < due.logs → IsDueIn h s 0 due → IsDueAfter h (with_count s count) count (record due { steps = count; logs = due.logs - 1 })
due_log h s zero due some is =
    let after : Due = record due { logs = due.logs - 1 } in
    record { steps_due = refl; there = same_steps h (with_log s no_log) 0 0 after (log_closed h s no_log after (log_opened h s due some is)) }
due_log h s (suc count) due some is = record { steps_due = refl; there = same_steps h s 1 (suc count) (record due { logs = due.logs - 1 }) (log_opened h s due some is) }

due_row : (h : Header) (o : OpenEntry) (row : List Bool) (due : Due) → 0 < due.rows → due.logs ≡ 0 → IsDueInEntry h o 0 due → IsDueInEntry h (record o { rows = o.rows ++ row ∷ [] }) 0 (record due { rows = due.rows - 1 })
due_row h o row due some no_logs is = record {
  shown = is.shown;
  fits = is.fits;
  logs_due = is.logs_due;
  rows_due = omega (arith, is.rows_due, some, length-append o.rows (row ∷ []));
  models_due = is.models_due;
  entries_due = is.entries_due;
  number = is.number;
  logs_first = λ more. absurd (omega (arith, more, no_logs));
  rows_first = λ _. is.rows_first some;
}

model_counts : (due has : Bool) (n : ℕ) → due ≡ true → (if due then 1 else 0) + n ≡ (if has then 1 else 0) → (if false then 1 else 0) + (n + 1) ≡ (if has then 1 else 0)
model_counts true has n e there = omega (arith, there)
model_counts false has n e there = absurd cc

due_model : (h : Header) (o : OpenEntry) (values : List Bool) (due : Due) → due.logs ≡ 0 → due.rows ≡ 0 → due.model ≡ true → IsDueInEntry h o 0 due → IsDueInEntry h (record o { models = o.models ++ values ∷ [] }) 0 (record due { model = false })
due_model h o values due no_logs no_rows model is = record {
  shown = is.shown;
  fits = is.fits;
  logs_due = is.logs_due;
  rows_due = is.rows_due;
  models_due = ap (λ n. (if false then 1 else 0) + n) (length-append o.models (values ∷ [])) ∙ model_counts due.model (has_model o.verdict) (length o.models) model is.models_due;
  entries_due = is.entries_due;
  number = is.number;
  logs_first = λ more. absurd (omega (arith, more, no_logs));
  rows_first = λ more. absurd (omega (arith, more, no_rows));
}

model_as : (x y : Bool) → x ≡ y → (if x then 1 else 0) + length {A = List Bool} [] ≡ (if y then 1 else 0)
model_as true true e = omega arith
model_as false false e = omega arith
model_as true false e = absurd cc
model_as false true e = absurd cc

fresh_due : (h : Header) (q : Equal) (done : List Found) (v : Verdict) (due : Due) → said_of q ≡ says.Shown → VerdictFits h.depth v → due.number ≡ length done + 1 → due.entries + length done ≡ length h.a.obligations → 0 < due.entries
    → due.steps ≡ 0 → due.rows ≡ 0 → due.model ≡ false
    → IsDueAfter h (Entry (record { equal = q; done = done; verdict = v; logs = []; rows = []; models = [] })) 0 (after_verdict h.depth due v)
fresh_due h q done v due shown fits number entries some no_steps no_rows no_model =
    let is = after_is h.depth due v no_steps no_rows no_model in
    record {
      steps_due = is.steps;
      there = record {
        shown = shown;
        fits = fits;
        logs_due = omega (arith, is.logs);
        rows_due = omega (arith, is.rows);
        models_due = model_as (after_verdict h.depth due v).model (has_model v) is.model;
        entries_due = omega (arith, is.entries, entries, some);
        number = omega (arith, is.number, number);
        logs_first = λ _. (refl, refl);
        rows_first = λ _. refl;
      };
    }

due_entry : (h : Header) (s : Shown) (v : Verdict) (due : Due) → IsNext h s v due → VerdictFits h.depth v → 0 < due.entries → due.steps ≡ 0 → due.rows ≡ 0 → due.model ≡ false → IsDueAfter h (with_entry s v) 0 (after_verdict h.depth due v)
due_entry h (Parts said logs) v due is fits some no_steps no_rows no_model =
    let o = next_open (Parts said logs) v in fresh_due h o.equal o.done v due is.shown fits is.number is.entries some no_steps no_rows no_model
due_entry h (Entry p) v due is fits some no_steps no_rows no_model =
    let o = next_open (Entry p) v in fresh_due h o.equal o.done v due is.shown fits is.number is.entries some no_steps no_rows no_model

-- ---- a line

-- what is shown and due after a line, and that its text follows
pub record IsTurn (h : Header) (s : Shown) (left : ℕ) (steps : List Step) (due : Due) (said : Statement) : Type 0 where
  pub spelled : shown_text h (shown_after s left steps said) ++ open_text (left_after left said) (steps_after left steps said) ≡ (shown_text h s ++ open_text left steps) ++ line_of (line_content due.number said)
  pub due_then : IsDueAfter h (shown_after s left steps said) (left_after left said) (due_after h.depth due said)

-- nothing is open
at_rest : (h : Header) (s : Shown) (left : ℕ) (steps : List Step) (t : List ℕ) → left ≡ 0 → shown_text h s ++ t ≡ (shown_text h s ++ open_text left steps) ++ t
at_rest h s left steps t none = ap (λ (f : List ℕ). f ++ t) (sym (append-nil (shown_text h s)) ∙ ap (λ n. shown_text h s ++ open_text n steps) (sym none))

closed_after : (h : Header) (s : Shown) (left : ℕ) (steps : List Step) (t : List ℕ) → left ≡ 0 → shown_text h s ≡ t → shown_text h s ++ open_text left steps ≡ t
closed_after h s left steps t none e = ap (λ n. shown_text h s ++ open_text n steps) none ∙ append-nil (shown_text h s) ∙ e

module _ (h : Header) (s : Shown) (left : ℕ) (steps : List Step) (bounds : Bounds) (due : Due) (depth : bounds.depth ≡ h.depth) (is : IsDueAfter h s left due) where
  resting : due.steps ≡ 0 → IsDueIn h s 0 due
  resting none = subst (λ n. IsDueIn h s n due) (ap open_logs (sym is.steps_due ∙ none)) is.there

  step_turn : (step : Step) → IsDue bounds due (line.Step step) → IsTurn h s left steps due (line.Step step)
  step_turn step d =
      let lt : 0 < left = omega (arith, some due.steps (step_by (nat_lt 0 due.steps) (nat_lt 0 due.logs) (nat_lt 0 due.rows) due.model (nat_lt 0 due.entries) d.kind), is.steps_due) in
      record { spelled = step_text_after h s left steps step lt (before_rows h s (open_logs left) due is.there (omega (arith, open_some left lt))); due_then = due_step h s left steps step due lt is }

  log_turn : (count : ℕ) → IsDue bounds due (line.Log count) → IsTurn h s left steps due (line.Log count)
  log_turn count d =
      let by = log_by (nat_lt 0 due.steps) (nat_lt 0 due.logs) (nat_lt 0 due.rows) due.model (nat_lt 0 due.entries) d.kind in
      let there = some due.logs by.1 in
      let no_steps = none due.steps by.0 in
      let rest = resting no_steps in
      record {
        spelled = log_text_after h s count (before_rows h s 0 due rest (omega (arith, there))) ∙ at_rest h s left steps (number_line (codes "log") count) (sym is.steps_due ∙ no_steps);
        due_then = due_log h s count due there rest;
      }

  entry_turn : (v : Verdict) → IsDue bounds due (line.Entry v) → IsTurn h s left steps due (line.Entry v)
  entry_turn v d =
      let by = entry_by (nat_lt 0 due.steps) (nat_lt 0 due.logs) (nat_lt 0 due.rows) due.model (nat_lt 0 due.entries) d.kind in
      let there = some due.entries by.4 in
      let no_steps = none due.steps by.0 in
      let no_rows = none due.rows by.2 in
      let next = next_is h s v due (resting no_steps) (none due.logs by.1) no_rows by.3 there in
      let no_left : left ≡ 0 = sym is.steps_due ∙ no_steps in
      record {
        spelled = closed_after h (with_entry s v) left steps (shown_text h s ++ line_of (line_content due.number (line.Entry v))) no_left (entry_text_after h s v due next) ∙ at_rest h s left steps (line_of (line_content due.number (line.Entry v))) no_left;
        due_then = subst (λ n. IsDueAfter h (with_entry s v) n (after_verdict h.depth due v)) (sym no_left) (due_entry h s v due next (subst (λ k. VerdictFits k v) depth d.fits) there no_steps no_rows by.3);
      }

at_entry : (h : Header) (o : OpenEntry) (left : ℕ) (due : Due) → IsDueAfter h (Entry o) left due → due.steps ≡ 0 → IsDueInEntry h o 0 due
at_entry h o left due is none = subst (λ n. IsDueInEntry h o n due) (ap open_logs (sym is.steps_due ∙ none)) is.there

row_turn : (h : Header) (s : Shown) (left : ℕ) (steps : List Step) (bounds : Bounds) (due : Due) (row : List Bool) → IsDueAfter h s left due → IsDue bounds due (line.Row row) → IsTurn h s left steps due (line.Row row)
row_turn h (Parts said logs) left steps bounds due row is d =
    let by = row_by (nat_lt 0 due.steps) (nat_lt 0 due.logs) (nat_lt 0 due.rows) due.model (nat_lt 0 due.entries) d.kind in
    absurd (omega (arith, some due.rows by.2, is.there.rows_due))
row_turn h (Entry o) left steps bounds due row is d =
    let by = row_by (nat_lt 0 due.steps) (nat_lt 0 due.logs) (nat_lt 0 due.rows) due.model (nat_lt 0 due.entries) d.kind in
    let there = some due.rows by.2 in
    let no_left : left ≡ 0 = sym is.steps_due ∙ none due.steps by.0 in
    let rest = at_entry h o left due is (none due.steps by.0) in
    let t = bits_line (codes "bits:") row in
    let more = Entry (record o { rows = o.rows ++ row ∷ [] }) in
    record {
      spelled = closed_after h more left steps (shown_text h (Entry o) ++ t) no_left (row_text_more h o row (rest.rows_first there)) ∙ at_rest h (Entry o) left steps t no_left;
      due_then = record { steps_due = is.steps_due; there = subst (λ n. IsDueIn h more (open_logs n) (record due { rows = due.rows - 1 })) (sym no_left) (due_row h o row due there (none due.logs by.1) rest) };
    }

model_turn : (h : Header) (s : Shown) (left : ℕ) (steps : List Step) (bounds : Bounds) (due : Due) (values : List Bool) → IsDueAfter h s left due → IsDue bounds due (line.Model values) → IsTurn h s left steps due (line.Model values)
model_turn h (Parts said logs) left steps bounds due values is d =
    let by = model_by (nat_lt 0 due.steps) (nat_lt 0 due.logs) (nat_lt 0 due.rows) due.model (nat_lt 0 due.entries) d.kind in
    absurd (let e : true ≡ false = sym by.3 ∙ is.there.model_due in cc)
model_turn h (Entry o) left steps bounds due values is d =
    let by = model_by (nat_lt 0 due.steps) (nat_lt 0 due.logs) (nat_lt 0 due.rows) due.model (nat_lt 0 due.entries) d.kind in
    let no_left : left ≡ 0 = sym is.steps_due ∙ none due.steps by.0 in
    let rest = at_entry h o left due is (none due.steps by.0) in
    let t = bits_line (codes "model:") values in
    let more = Entry (record o { models = o.models ++ values ∷ [] }) in
    record {
      spelled = closed_after h more left steps (shown_text h (Entry o) ++ t) no_left (model_text_more h o values) ∙ at_rest h (Entry o) left steps t no_left;
      due_then = record { steps_due = is.steps_due; there = subst (λ n. IsDueIn h more (open_logs n) (record due { model = false })) (sym no_left) (due_model h o values due (none due.logs by.1) (none due.rows by.2) by.3 rest) };
    }

-- each line but the last
pub turn : (h : Header) (s : Shown) (left : ℕ) (steps : List Step) (bounds : Bounds) (due : Due) (said : Statement) → bounds.depth ≡ h.depth → IsDueAfter h s left due → IsDue bounds due said → (said ≡ line.End → ⊥) → IsTurn h s left steps due said
turn h s left steps bounds due (line.Step step) depth is d live = step_turn h s left steps bounds due depth is step d
turn h s left steps bounds due (line.Log count) depth is d live = log_turn h s left steps bounds due depth is count d
turn h s left steps bounds due (line.Row row) depth is d live = row_turn h s left steps bounds due row is d
turn h s left steps bounds due (line.Model values) depth is d live = model_turn h s left steps bounds due values is d
turn h s left steps bounds due (line.Entry v) depth is d live = entry_turn h s left steps bounds due depth is v d
turn h s left steps bounds due line.End depth is d live = absurd (live refl)
