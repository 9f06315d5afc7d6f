-- What is shown fits after a line that is due.
use Rattle.std.proofs.Common.{◌≡◌, ℕ, zero, suc, ◌+◌, ◌-◌, ◌*◌, ◌^◌, ◌<◌, Bool, false, List, [], ◌∷◌, ◌++◌, length, refl, sym, ap, subst, ◌∙◌, length-append, arith}
use Rattle.std.specs.Prelude.{nat_lt, All}
use Rattle.std.proofs.lemmas.List.Elements.{All-nil, All-cons, All-append}
use Rattle.lll_core.specs.Tables.{input_count}
use Rattle.rup_checker.specs.declared.log.Log.{Log}
use Rattle.rup_checker.specs.declared.log.Step.{Step}
use Rattle.kinduction.specs.declared.equal.Equal.TheVariants as equal
use Rattle.evidence.specs.declared.reader_due.Bounds.{Bounds}
use Rattle.evidence.specs.declared.reader_due.Due.{Due}
use Rattle.evidence.specs.declared.reader_due.Statement.{Statement}
use Rattle.evidence.specs.declared.reader_due.Statement.TheVariants as line
use Rattle.evidence.specs.declared.reader_lines.EqualLine.{EqualLine}
use Rattle.evidence.specs.declared.reader_lines.EqualLine.TheVariants as says
use Rattle.evidence.specs.declared.reader_lines.Verdict.{Verdict}
use Rattle.evidence.specs.Counts.{IsStep, IsLog, EqualFits, EntryFits}
use Rattle.evidence.specs.ByLines.{log_count}
use Rattle.evidence.specs.Due.{IsDue}
use Rattle.evidence.specs.Readers.{VerdictFits}
use Rattle.evidence.specs.Shown.{Header, OpenEntry, Shown, Parts, Entry, no_log, found_of, with_log, with_row, with_model, with_entry, with_step, with_count, shown_after}
use Rattle.evidence.specs.Judging.{open_logs, IsDueInParts, IsDueInEntry, IsDueIn, IsDueAfter, EntryFitsSoFar, FitSoFar, StepsFit, left_after, steps_after}
use Rattle.evidence.proofs.EntryTurns.{counted}
use Rattle.evidence.proofs.FoundMade.{made_same}
use Rattle.evidence.proofs.FoundParts.{AreBoundsOf, PartsFit, made_of}
use Rattle.evidence.proofs.RestLines.{step_by, entry_by, none, some}

-- ---- one thing more

log_fits : (h : Header) (s : Shown) (log : Log) → IsLog log → FitSoFar h s → FitSoFar h (with_log s log)
log_fits h (Parts said logs) log is fit = All-append IsLog logs (log ∷ []) fit (All-cons IsLog log [] is (All-nil IsLog))
log_fits h (Entry o) log is fit = record {
  equal_fits = fit.equal_fits;
  done_fit = fit.done_fit;
  logs_fit = All-append IsLog o.logs (log ∷ []) fit.logs_fit (All-cons IsLog log [] is (All-nil IsLog));
  rows_fit = fit.rows_fit;
  models_fit = fit.models_fit;
}

row_fits : (h : Header) (s : Shown) (row : List Bool) → length row ≡ input_count h.a.signals → FitSoFar h s → FitSoFar h (with_row s row)
row_fits h (Parts said logs) row is fit = fit
row_fits h (Entry o) row is fit =
    let Row = λ (r : List Bool). length r ≡ input_count h.a.signals in
    record {
      equal_fits = fit.equal_fits;
      done_fit = fit.done_fit;
      logs_fit = fit.logs_fit;
      rows_fit = All-append Row o.rows (row ∷ []) fit.rows_fit (All-cons Row row [] is (All-nil Row));
      models_fit = fit.models_fit;
    }

model_fits : (h : Header) (s : Shown) (values : List Bool) → length values ≡ (h.depth + 1) * length h.a.signals → FitSoFar h s → FitSoFar h (with_model s values)
model_fits h (Parts said logs) values is fit = fit
model_fits h (Entry o) values is fit =
    let Values = λ (r : List Bool). length r ≡ (h.depth + 1) * length h.a.signals in
    record {
      equal_fits = fit.equal_fits;
      done_fit = fit.done_fit;
      logs_fit = fit.logs_fit;
      rows_fit = fit.rows_fit;
      models_fit = All-append Values o.models (values ∷ []) fit.models_fit (All-cons Values values [] is (All-nil Values));
    }

-- ---- an entry more

-- an entry that is whole fits
whole_fits : (h : Header) (bounds : Bounds) (o : OpenEntry) (due : Due) → AreBoundsOf bounds h.a → bounds.depth ≡ h.depth → EntryFitsSoFar h o → IsDueInEntry h o 0 due → due.logs ≡ 0 → due.rows ≡ 0 → due.model ≡ false
    → EntryFits h.depth h.a (found_of o.verdict o.logs o.rows o.models)
whole_fits h bounds o due of depth fit is no_logs no_rows no_model =
    let c = counted h o due is no_logs no_rows no_model in
    let variables : bounds.variables ≡ (h.depth + 1) * length h.a.signals = of.variables ∙ ap (λ d. (d + 1) * length h.a.signals) depth in
    let parts : PartsFit bounds o.verdict o.logs o.rows o.models = record {
      verdict = subst (λ d. VerdictFits d o.verdict) (sym depth) is.fits;
      logs = record { long = c.logs_count ∙ ap (λ d. log_count d o.verdict) (sym depth); each = fit.logs_fit };
      row_count = c.rows_count;
      rows = subst (λ k. All (λ (r : List Bool). length r ≡ k) o.rows) (sym of.inputs) fit.rows_fit;
      model_count = c.models_count;
      models = subst (λ k. All (λ (r : List Bool). length r ≡ k) o.models) (sym variables) fit.models_fit;
    } in
    let made = made_of bounds h.a o.verdict o.logs o.rows o.models of parts in
    let same = made_same o.verdict o.logs o.rows o.models made.entry (record { verdict = made.verdict_is; logs_are = made.logs_are; rows_are = made.rows_are; models_are = made.models_are }) in
    subst (EntryFits h.depth h.a) (sym same) (subst (λ d. EntryFits d h.a made.entry) depth made.fits)

fresh_fits : (h : Header) (o : OpenEntry) → o.logs ≡ [] → o.rows ≡ [] → o.models ≡ [] → EqualFits h.b o.equal → All (EntryFits h.depth h.a) o.done → EntryFitsSoFar h o
fresh_fits h o no_logs no_rows no_models equal done = record {
  equal_fits = equal;
  done_fit = done;
  logs_fit = subst (All IsLog) (sym no_logs) (All-nil IsLog);
  rows_fit = subst (All (λ row. length row ≡ input_count h.a.signals)) (sym no_rows) (All-nil (λ row. length row ≡ input_count h.a.signals));
  models_fit = subst (All (λ values. length values ≡ (h.depth + 1) * length h.a.signals)) (sym no_models) (All-nil (λ values. length values ≡ (h.depth + 1) * length h.a.signals));
}

parts_fit_then : (h : Header) (said : EqualLine) (logs : List Log) (v : Verdict) (due : Due) → All IsLog logs → IsDueInParts h said logs 0 due → due.logs ≡ 0 → 0 < due.entries → FitSoFar h (with_entry (Parts said logs) v)
parts_fit_then h says.Shown logs v due fit is no_logs more =
    fresh_fits h (record { equal = equal.Shown logs; done = []; verdict = v; logs = []; rows = []; models = [] }) refl refl refl (record { long = omega (arith, no_logs, is.logs_due); each = fit }) (All-nil (EntryFits h.depth h.a))
parts_fit_then h (says.Conflicts part stepping) logs v due fit is no_logs more = absurd (omega (arith, is.entries_due, more))

entry_fits_then : (h : Header) (bounds : Bounds) (s : Shown) (v : Verdict) (due : Due) → AreBoundsOf bounds h.a → bounds.depth ≡ h.depth → FitSoFar h s → IsDueIn h s 0 due → due.logs ≡ 0 → due.rows ≡ 0 → due.model ≡ false → 0 < due.entries → FitSoFar h (with_entry s v)
entry_fits_then h bounds (Parts said told) v due of depth fit is no_logs no_rows no_model more = parts_fit_then h said told v due fit is no_logs more
entry_fits_then h bounds (Entry o) v due of depth fit is no_logs no_rows no_model more =
    let x = found_of o.verdict o.logs o.rows o.models in
    let Fits = EntryFits h.depth h.a in
    fresh_fits h (record { equal = o.equal; done = o.done ++ x ∷ []; verdict = v; logs = []; rows = []; models = [] }) refl refl refl fit.equal_fits
    (All-append Fits o.done (x ∷ []) fit.done_fit (All-cons Fits x [] (whole_fits h bounds o due of depth fit is no_logs no_rows no_model) (All-nil Fits)))

-- ---- a line more

-- what is shown fits, and so does the log that is open
pub record FitsThen (h : Header) (s : Shown) (left : ℕ) (steps : List Step) : Type 0 where
  pub shown : FitSoFar h s
  pub steps_fit : StepsFit left steps

no_steps_fit : StepsFit 0 []
no_steps_fit = record { count = omega arith; each = All-nil IsStep }

step_fits_then : (h : Header) (s : Shown) (left : ℕ) (steps : List Step) (step : Step) → 0 < left → IsStep step → FitSoFar h s → StepsFit left steps → FitsThen h (with_step s left steps step) (left - 1) (steps_after left steps (line.Step step))
step_fits_then h s zero steps step lt is fit f = absurd (omega (arith, lt))
step_fits_then h s (suc zero) steps step lt is fit f =
    let log : Log = record { steps = steps ++ step ∷ [] } in
    let each = All-append IsStep steps (step ∷ []) f.each (All-cons IsStep step [] is (All-nil IsStep)) in
    record { shown = log_fits h s log (record { count = omega (arith, length-append steps (step ∷ []), f.count); steps = each }) fit; steps_fit = no_steps_fit }
step_fits_then h s (suc (suc left)) steps step lt is fit f = record {
  shown = fit;
  steps_fit = record { count = omega (arith, length-append steps (step ∷ []), f.count); each = All-append IsStep steps (step ∷ []) f.each (All-cons IsStep step [] is (All-nil IsStep)) };
}

log_fits_then : (h : Header) (s : Shown) (count : ℕ) → count < 2 ^ 32 → FitSoFar h s → FitsThen h (with_count s count) count []
log_fits_then h s zero lt fit = record { shown = log_fits h s no_log (record { count = omega arith; steps = All-nil IsStep }) fit; steps_fit = no_steps_fit }
log_fits_then h s (suc count) lt fit = record { shown = fit; steps_fit = record { count = omega (arith, lt); each = All-nil IsStep } }

pub fits_then : (h : Header) (s : Shown) (left : ℕ) (steps : List Step) (bounds : Bounds) (due : Due) (said : Statement) → AreBoundsOf bounds h.a → bounds.depth ≡ h.depth → IsDueAfter h s left due → IsDue bounds due said → FitSoFar h s → StepsFit left steps
    → FitsThen h (shown_after s left steps said) (left_after left said) (steps_after left steps said)
fits_then h s left steps bounds due (line.Step step) of depth is d fit f =
    step_fits_then h s left steps step (let there = some due.steps (step_by (nat_lt 0 due.steps) (nat_lt 0 due.logs) (nat_lt 0 due.rows) due.model (nat_lt 0 due.entries) d.kind) in omega (arith, there, is.steps_due)) d.fits fit f
fits_then h s left steps bounds due (line.Log count) of depth is d fit f = log_fits_then h s count d.fits fit
fits_then h s left steps bounds due (line.Row row) of depth is d fit f = record { shown = row_fits h s row (d.fits ∙ of.inputs) fit; steps_fit = f }
fits_then h s left steps bounds due (line.Model values) of depth is d fit f = record { shown = model_fits h s values (d.fits ∙ of.variables ∙ ap (λ k. (k + 1) * length h.a.signals) depth) fit; steps_fit = f }
fits_then h s left steps bounds due (line.Entry v) of depth is d fit f =
    let by = entry_by (nat_lt 0 due.steps) (nat_lt 0 due.logs) (nat_lt 0 due.rows) due.model (nat_lt 0 due.entries) d.kind in
    let there : IsDueIn h s 0 due = subst (λ n. IsDueIn h s n due) (ap open_logs (sym is.steps_due ∙ none due.steps by.0)) is.there in
    record { shown = entry_fits_then h bounds s v due of depth fit there (none due.logs by.1) (none due.rows by.2) by.3 (some due.entries by.4); steps_fit = f }
fits_then h s left steps bounds due line.End of depth is d fit f = record { shown = fit; steps_fit = f }
