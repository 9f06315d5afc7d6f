-- A line that is due before a rest makes a rest, and each count of lines that is due has a rest.
use Rattle.std.proofs.Common.{◌≡◌, ℕ, zero, suc, ◌+◌, ◌^◌, ◌<◌, ◌≤◌, Bool, true, false, List, [], ◌∷◌, ◌++◌, length, refl, sym, ap, subst, ◌∙◌, append_assoc, arith, if◌then◌else◌}
use Rattle.std.specs.Prelude.{nat_lt, codes, All}
use Rattle.std.specs.List.{flat_map}
use Rattle.std.proofs.lemmas.List.Concat.{flat_map-cons}
use Rattle.std.proofs.lemmas.List.Elements.{All-nil, All-cons}
use Rattle.lll_core.specs.declared.lll.Lll.{Lll}
use Rattle.lll_text.specs.Spelling.{line, number_field}
use Rattle.rup_checker.specs.declared.log.Log.{Log}
use Rattle.rup_checker.specs.declared.log.Step.{Step}
use Rattle.kinduction.specs.declared.found.Found.{Found}
use Rattle.kinduction.specs.declared.found.Found.TheVariants as found
use Rattle.kinduction.specs.declared.found.Spot.TheVariants as spot
use Rattle.evidence.specs.declared.reader_due.Bounds.{Bounds}
use Rattle.evidence.specs.declared.reader_due.Due.{Due}
use Rattle.evidence.specs.declared.reader_due.Statement.{Statement}
use Rattle.evidence.specs.declared.reader_due.Statement.TheVariants as says
use Rattle.evidence.specs.declared.reader_lines.Verdict.{Verdict}
use Rattle.evidence.specs.Counts.{IsLiteralNumber, IsStep, IsLog, EntryFits}
use Rattle.evidence.specs.Due.{due_after, after_verdict, IsDue, line_content}
use Rattle.evidence.specs.Rests.{Tail, TailFits, IsRest, tail_text, rows_text, models_text}
use Rattle.evidence.specs.Spelling.{step_line, log_text, logs_text, bits_line, entries_text}
use Rattle.evidence.proofs.FoundParts.{verdict_of, logs_of, rows_of, AreBoundsOf, PartsFit, made_of}
use Rattle.evidence.proofs.RestLines.{rows_on, RowLength, step_by, log_by, row_by, model_by, entry_by, end_by, none, some, after_is, entry_parts}

model_more : (v : Bool) (n : ℕ) → v ≡ true → n ≡ (if false then 1 else 0) → suc n ≡ (if v then 1 else 0)
model_more true n e h = omega (arith, h)
model_more false n e h = absurd cc

module _ (bounds : Bounds) (a : Lll) (due : Due) (of : AreBoundsOf bounds a) (more : List ℕ) where
  give_step : (s : Step) (t : Tail) → IsDue bounds due (says.Step s) → TailFits bounds a (due_after bounds.depth due (says.Step s)) t → more ≡ tail_text due.number t
      → IsRest bounds a due (line (line_content due.number (says.Step s)) ++ more)
  give_step s t d fits e =
      let there = some due.steps (step_by (nat_lt 0 due.steps) (nat_lt 0 due.logs) (nat_lt 0 due.rows) due.model (nat_lt 0 due.entries) d.kind) in
      let after = logs_text t.logs ++ rows_on t.rows t.models due.number t.entries in
      record {
        tail = record { steps = s ∷ t.steps; logs = t.logs; rows = t.rows; models = t.models; entries = t.entries };
        fits = record {
          step_count = omega (arith, there, fits.step_count);
          steps = All-cons IsStep s t.steps d.fits fits.steps;
          logs = fits.logs;
          row_count = fits.row_count;
          rows = fits.rows;
          model_count = fits.model_count;
          models = fits.models;
          entry_count = fits.entry_count;
          entries = fits.entries;
        };
        spelled = ap (λ (r : List ℕ). step_line s ++ r) e ∙ sym (append_assoc (step_line s) (flat_map step_line t.steps) after) ∙ ap (λ (r : List ℕ). r ++ after) (sym (flat_map-cons step_line s t.steps));
      }

  give_log : (n : ℕ) (t : Tail) → IsDue bounds due (says.Log n) → TailFits bounds a (due_after bounds.depth due (says.Log n)) t → more ≡ tail_text due.number t
      → IsRest bounds a due (line (line_content due.number (says.Log n)) ++ more)
  give_log n t d fits e =
      let by = log_by (nat_lt 0 due.steps) (nat_lt 0 due.logs) (nat_lt 0 due.rows) due.model (nat_lt 0 due.entries) d.kind in
      let no_steps = none due.steps by.0 in
      let there = some due.logs by.1 in
      let log : Log = record { steps = t.steps } in
      let count : length t.steps ≡ n = fits.step_count in
      let is : IsLog log = record { count = subst (λ k. k < 2 ^ 32) (sym count) d.fits; steps = fits.steps } in
      let after = rows_on t.rows t.models due.number t.entries in
      let head = line (codes "log" ++ number_field (length t.steps)) in
      let steps = flat_map step_line t.steps in
      record {
        tail = record { steps = []; logs = log ∷ t.logs; rows = t.rows; models = t.models; entries = t.entries };
        fits = record {
          step_count = sym no_steps;
          steps = All-nil IsStep;
          logs = record { long = omega (arith, there, fits.logs.long); each = All-cons IsLog log t.logs is fits.logs.each };
          row_count = fits.row_count;
          rows = fits.rows;
          model_count = fits.model_count;
          models = fits.models;
          entry_count = fits.entry_count;
          entries = fits.entries;
        };
        spelled = ap (λ k. line (codes "log" ++ number_field k) ++ more) (sym count) ∙ ap (λ (r : List ℕ). head ++ r) e ∙ sym (append_assoc head steps (logs_text t.logs ++ after))
            ∙ sym (append_assoc (head ++ steps) (logs_text t.logs) after) ∙ ap (λ (r : List ℕ). r ++ after) (sym (flat_map-cons log_text log t.logs));
      }

  give_row : (row : List Bool) (steps : List Step) (logs : List Log) (rows models : List (List Bool)) (entries : List Found) → IsDue bounds due (says.Row row)
      → TailFits bounds a (due_after bounds.depth due (says.Row row)) (record { steps = steps; logs = logs; rows = rows; models = models; entries = entries })
      → more ≡ tail_text due.number (record { steps = steps; logs = logs; rows = rows; models = models; entries = entries })
      → IsRest bounds a due (line (line_content due.number (says.Row row)) ++ more)
  give_row row [] [] rows models entries d fits e =
      let by = row_by (nat_lt 0 due.steps) (nat_lt 0 due.logs) (nat_lt 0 due.rows) due.model (nat_lt 0 due.entries) d.kind in
      let there = some due.rows by.2 in
      let after = models_text models ++ (entries_text due.number entries ++ line (codes "end")) in
      let this = bits_line (codes "bits:") row in
      record {
        tail = record { steps = []; logs = []; rows = row ∷ rows; models = models; entries = entries };
        fits = record {
          step_count = fits.step_count;
          steps = fits.steps;
          logs = fits.logs;
          row_count = omega (arith, there, fits.row_count);
          rows = All-cons (RowLength bounds.inputs) row rows d.fits fits.rows;
          model_count = fits.model_count;
          models = fits.models;
          entry_count = fits.entry_count;
          entries = fits.entries;
        };
        spelled = ap (λ (r : List ℕ). this ++ r) e ∙ sym (append_assoc this (rows_text rows) after) ∙ ap (λ (r : List ℕ). r ++ after) (sym (flat_map-cons (bits_line (codes "bits:")) row rows));
      }
  give_row row (s ∷ steps) logs rows models entries d fits e =
      let by = row_by (nat_lt 0 due.steps) (nat_lt 0 due.logs) (nat_lt 0 due.rows) due.model (nat_lt 0 due.entries) d.kind in
      absurd (omega (arith, none due.steps by.0, fits.step_count))
  give_row row [] (log ∷ logs) rows models entries d fits e =
      let by = row_by (nat_lt 0 due.steps) (nat_lt 0 due.logs) (nat_lt 0 due.rows) due.model (nat_lt 0 due.entries) d.kind in
      absurd (omega (arith, none due.logs by.1, fits.logs.long))

  give_model : (values : List Bool) (steps : List Step) (logs : List Log) (rows models : List (List Bool)) (entries : List Found) → IsDue bounds due (says.Model values)
      → TailFits bounds a (due_after bounds.depth due (says.Model values)) (record { steps = steps; logs = logs; rows = rows; models = models; entries = entries })
      → more ≡ tail_text due.number (record { steps = steps; logs = logs; rows = rows; models = models; entries = entries })
      → IsRest bounds a due (line (line_content due.number (says.Model values)) ++ more)
  give_model values [] [] [] models entries d fits e =
      let by = model_by (nat_lt 0 due.steps) (nat_lt 0 due.logs) (nat_lt 0 due.rows) due.model (nat_lt 0 due.entries) d.kind in
      let after = entries_text due.number entries ++ line (codes "end") in
      let this = bits_line (codes "model:") values in
      record {
        tail = record { steps = []; logs = []; rows = []; models = values ∷ models; entries = entries };
        fits = record {
          step_count = fits.step_count;
          steps = fits.steps;
          logs = fits.logs;
          row_count = fits.row_count;
          rows = fits.rows;
          model_count = model_more due.model (length models) by.3 fits.model_count;
          models = All-cons (RowLength bounds.variables) values models d.fits fits.models;
          entry_count = fits.entry_count;
          entries = fits.entries;
        };
        spelled = ap (λ (r : List ℕ). this ++ r) e ∙ sym (append_assoc this (models_text models) after) ∙ ap (λ (r : List ℕ). r ++ after) (sym (flat_map-cons (bits_line (codes "model:")) values models));
      }
  give_model values (s ∷ steps) logs rows models entries d fits e =
      let by = model_by (nat_lt 0 due.steps) (nat_lt 0 due.logs) (nat_lt 0 due.rows) due.model (nat_lt 0 due.entries) d.kind in
      absurd (omega (arith, none due.steps by.0, fits.step_count))
  give_model values [] (log ∷ logs) rows models entries d fits e =
      let by = model_by (nat_lt 0 due.steps) (nat_lt 0 due.logs) (nat_lt 0 due.rows) due.model (nat_lt 0 due.entries) d.kind in
      absurd (omega (arith, none due.logs by.1, fits.logs.long))
  give_model values [] [] (row ∷ rows) models entries d fits e =
      let by = model_by (nat_lt 0 due.steps) (nat_lt 0 due.logs) (nat_lt 0 due.rows) due.model (nat_lt 0 due.entries) d.kind in
      absurd (omega (arith, none due.rows by.2, fits.row_count))

  give_entry : (v : Verdict) (steps : List Step) (logs : List Log) (rows models : List (List Bool)) (entries : List Found) → IsDue bounds due (says.Entry v)
      → TailFits bounds a (after_verdict bounds.depth due v) (record { steps = steps; logs = logs; rows = rows; models = models; entries = entries })
      → more ≡ tail_text (after_verdict bounds.depth due v).number (record { steps = steps; logs = logs; rows = rows; models = models; entries = entries })
      → IsRest bounds a due (line (line_content due.number (says.Entry v)) ++ more)
  give_entry v [] logs rows models entries d fits e =
      let by = entry_by (nat_lt 0 due.steps) (nat_lt 0 due.logs) (nat_lt 0 due.rows) due.model (nat_lt 0 due.entries) d.kind in
      let no_steps = none due.steps by.0 in
      let no_rows = none due.rows by.2 in
      let there = some due.entries by.4 in
      let is = after_is bounds.depth due v no_steps no_rows by.3 in
      let parts : PartsFit bounds v logs rows models = record {
        verdict = d.fits;
        logs = record { long = fits.logs.long ∙ is.logs; each = fits.logs.each };
        row_count = fits.row_count ∙ is.rows;
        rows = fits.rows;
        model_count = fits.model_count ∙ ap (λ (b : Bool). if b then 1 else 0) is.model;
        models = fits.models;
      } in
      let made = made_of bounds a v logs rows models of parts in
      let x = made.entry in
      let n = due.number in
      record {
        tail = record { steps = []; logs = []; rows = []; models = []; entries = x ∷ entries };
        fits = record {
          step_count = sym no_steps;
          steps = All-nil IsStep;
          logs = record { long = sym (none due.logs by.1); each = All-nil IsLog };
          row_count = sym no_rows;
          rows = All-nil (RowLength bounds.inputs);
          model_count = ap (λ (b : Bool). if b then 1 else 0) (sym by.3);
          models = All-nil (RowLength bounds.variables);
          entry_count = omega (arith, there, fits.entry_count, is.entries);
          entries = All-cons (EntryFits bounds.depth a) x entries made.fits fits.entries;
        };
        spelled = ap (λ (r : List ℕ). line (line_content n (says.Entry v)) ++ r) (e ∙ ap (λ k. logs_text logs ++ rows_on rows models k entries) is.number)
            ∙ ap (λ (w : Verdict). line (line_content n (says.Entry w)) ++ (logs_text logs ++ rows_on rows models (n + 1) entries)) (sym made.verdict_is)
            ∙ ap (λ (l : List Log). line (line_content n (says.Entry (verdict_of x))) ++ (logs_text l ++ rows_on rows models (n + 1) entries)) (sym made.logs_are)
            ∙ ap (λ (r : List (List Bool)). line (line_content n (says.Entry (verdict_of x))) ++ (logs_text (logs_of x) ++ rows_on r models (n + 1) entries)) (sym made.rows_are)
            ∙ ap (λ (m : List (List Bool)). line (line_content n (says.Entry (verdict_of x))) ++ (logs_text (logs_of x) ++ rows_on (rows_of x) m (n + 1) entries)) (sym made.models_are)
            ∙ sym (entry_parts n x entries);
      }
  give_entry v (s ∷ steps) logs rows models entries d fits e =
      let by = entry_by (nat_lt 0 due.steps) (nat_lt 0 due.logs) (nat_lt 0 due.rows) due.model (nat_lt 0 due.entries) d.kind in
      let is = after_is bounds.depth due v (none due.steps by.0) (none due.rows by.2) by.3 in
      absurd (omega (arith, is.steps, fits.step_count))

  -- a line that is due, before the rest after it
  pub give : (said : Statement) → IsDue bounds due said → (said ≡ says.End → ⊥) → IsRest bounds a (due_after bounds.depth due said) more → IsRest bounds a due (line (line_content due.number said) ++ more)
  give (says.Step s) d live r = give_step s r.tail d r.fits r.spelled
  give (says.Log n) d live r = give_log n r.tail d r.fits r.spelled
  give (says.Row row) d live r = give_row row r.tail.steps r.tail.logs r.tail.rows r.tail.models r.tail.entries d r.fits r.spelled
  give (says.Model values) d live r = give_model values r.tail.steps r.tail.logs r.tail.rows r.tail.models r.tail.entries d r.fits r.spelled
  give (says.Entry v) d live r = give_entry v r.tail.steps r.tail.logs r.tail.rows r.tail.models r.tail.entries d r.fits r.spelled
  give says.End d live r = absurd (live refl)

-- ---- the last line

pub give_end : (bounds : Bounds) (a : Lll) (due : Due) → IsDue bounds due says.End → IsRest bounds a due (line (codes "end"))
give_end bounds a due d =
    let by = end_by (nat_lt 0 due.steps) (nat_lt 0 due.logs) (nat_lt 0 due.rows) due.model (nat_lt 0 due.entries) d.kind in
    record {
      tail = record { steps = []; logs = []; rows = []; models = []; entries = [] };
      fits = record {
        step_count = sym (none due.steps by.0);
        steps = All-nil IsStep;
        logs = record { long = sym (none due.logs by.1); each = All-nil IsLog };
        row_count = sym (none due.rows by.2);
        rows = All-nil (RowLength bounds.inputs);
        model_count = ap (λ (b : Bool). if b then 1 else 0) (sym by.3);
        models = All-nil (RowLength bounds.variables);
        entry_count = sym (none due.entries by.4);
        entries = All-nil (EntryFits bounds.depth a);
      };
      spelled = refl;
    }

-- ---- some rest

many : {X : Type 0} → ℕ → X → List X
many zero x = []
many (suc n) x = x ∷ many n x

many_count : {X : Type 0} (n : ℕ) (x : X) → length (many n x) ≡ n
unfolding many
many_count zero x = refl
many_count (suc n) x = ap suc (many_count n x)

all_many : {X : Type 0} (P : X → Type 0) (n : ℕ) (x : X) → P x → All P (many n x)
unfolding many
all_many P zero x p = All-nil P
all_many P (suc n) x p = All-cons P x (many n x) p (all_many P n x p)

pub no_steps_log : Log
no_steps_log = record { steps = [] }

pub no_steps_fit : IsLog no_steps_log
unfolding no_steps_log
no_steps_fit = record { count = omega arith; steps = All-nil IsStep }

empty_step : Step
empty_step = record { clause = []; hints = [] }

empty_step_fits : IsStep empty_step
unfolding empty_step
empty_step_fits = record { literals = All-nil IsLiteralNumber; hints = All-nil (λ h. h < 2 ^ 32) }

undecided : Found
undecided = found.Conflicts (spot.Base 0) no_steps_log []

undecided_fits : (depth : ℕ) (a : Lll) → 1 ≤ depth → EntryFits depth a undecided
unfolding undecided
undecided_fits depth a some = ((omega (arith, some), record { long = refl; each = All-nil IsLog }), no_steps_fit)

some_models : Bool → ℕ → List (List Bool)
some_models true n = many n false ∷ []
some_models false n = []

models_count : (v : Bool) (n : ℕ) → length (some_models v n) ≡ (if v then 1 else 0)
unfolding some_models
models_count true n = refl
models_count false n = refl

models_fit : (v : Bool) (n : ℕ) → All (RowLength n) (some_models v n)
unfolding some_models
models_fit true n = All-cons (RowLength n) (many n false) [] (many_count n false) (All-nil (RowLength n))
models_fit false n = All-nil (RowLength n)

pub some_rest : (bounds : Bounds) (a : Lll) (due : Due) → 1 ≤ bounds.depth → (bytes : List ℕ) × IsRest bounds a due bytes
some_rest bounds a due depth =
    let tail : Tail = record {
      steps = many due.steps empty_step;
      logs = many due.logs no_steps_log;
      rows = many due.rows (many bounds.inputs false);
      models = some_models due.model bounds.variables;
      entries = many due.entries undecided;
    } in (
      tail_text due.number tail,
      record {
        tail = tail;
        fits = record {
          step_count = many_count due.steps empty_step;
          steps = all_many IsStep due.steps empty_step empty_step_fits;
          logs = record { long = many_count due.logs no_steps_log; each = all_many IsLog due.logs no_steps_log no_steps_fit };
          row_count = many_count due.rows (many bounds.inputs false);
          rows = all_many (RowLength bounds.inputs) due.rows (many bounds.inputs false) (many_count bounds.inputs false);
          model_count = models_count due.model bounds.variables;
          models = models_fit due.model bounds.variables;
          entry_count = many_count due.entries undecided;
          entries = all_many (EntryFits bounds.depth a) due.entries undecided (undecided_fits bounds.depth a depth);
        };
        spelled = refl;
      },
    )
