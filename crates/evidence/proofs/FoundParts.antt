-- What shows an entry, as logs, rows and assignments, and the entry that they make.
use Rattle.std.proofs.Common.{◌≡◌, ℕ, ◌+◌, ◌-◌, ◌*◌, ◌<◌, Bool, List, [], ◌∷◌, ◌++◌, length, refl, sym, ap, subst, ◌∙◌, append_assoc, length-append, arith, if◌then◌else◌}
use Rattle.std.specs.Prelude.{codes, All}
use Rattle.std.proofs.lemmas.List.{append-nil}
use Rattle.std.proofs.lemmas.List.Concat.{flat_map-cons, flat_map-append}
use Rattle.std.proofs.lemmas.List.Elements.{All-nil, All-cons, All-head, All-tail, All-append}
use Rattle.lll_core.specs.declared.lll.Lll.{Lll}
use Rattle.lll_core.specs.Tables.{input_count}
use Rattle.rup_checker.specs.declared.log.Log.{Log}
use Rattle.kinduction.specs.declared.found.Found.{Found}
use Rattle.kinduction.specs.declared.found.Found.TheVariants as found
use Rattle.kinduction.specs.declared.found.Spot.{Spot}
use Rattle.kinduction.specs.declared.found.Spot.TheVariants as spot
use Rattle.evidence.specs.declared.reader_due.Bounds.{Bounds}
use Rattle.evidence.specs.declared.reader_lines.Verdict.{Verdict}
use Rattle.evidence.specs.declared.reader_lines.Verdict.TheVariants as verdict
use Rattle.evidence.specs.Counts.{IsLog, AreLogs, EntryFits}
pub use Rattle.evidence.specs.ByLines.{verdict_of, logs_of, rows_of, models_of, log_count, rows_due, has_model}
use Rattle.evidence.specs.Readers.{VerdictFits, verdict_content}
use Rattle.evidence.specs.Rests.{rows_text, models_text}
use Rattle.evidence.specs.Spelling.{log_text, logs_text, bits_line, verdict_field, proof_text}

-- ---- what an entry has

pub verdict_same : (x : Found) → verdict_field x ≡ verdict_content (verdict_of x)
verdict_same (found.Proved k bases step) = refl
verdict_same (found.Falsified bits bases) = refl
verdict_same (found.Depth step_model bases) = refl
verdict_same (found.Conflicts place log bases) = refl

-- ---- its text

logs_last : (logs : List Log) (log : Log) → logs_text logs ++ log_text log ≡ logs_text (logs ++ log ∷ [])
logs_last logs log = sym (flat_map-append log_text logs (log ∷ []) ∙ ap (λ (t : List ℕ). logs_text logs ++ t) (flat_map-cons log_text log [] ∙ append-nil (log_text log)))

model_single : (values : List Bool) → models_text (values ∷ []) ≡ bits_line (codes "model:") values
model_single values = flat_map-cons (bits_line (codes "model:")) values [] ∙ append-nil (bits_line (codes "model:") values)

pub proof_is : (x : Found) (rest : List ℕ) → proof_text x ++ rest ≡ logs_text (logs_of x) ++ (rows_text (rows_of x) ++ (models_text (models_of x) ++ rest))
proof_is (found.Proved k bases step) rest = ap (λ (t : List ℕ). t ++ rest) (logs_last bases step)
proof_is (found.Falsified bits bases) rest = append_assoc (logs_text bases) (rows_text bits) rest
proof_is (found.Depth step_model bases) rest =
    append_assoc (logs_text bases) (bits_line (codes "model:") step_model) rest ∙ ap (λ (t : List ℕ). logs_text bases ++ (t ++ rest)) (sym (model_single step_model))
proof_is (found.Conflicts place log bases) rest = ap (λ (t : List ℕ). t ++ rest) (logs_last bases log)

-- ---- what fits

-- the numbers are those of the model
pub record AreBoundsOf (bounds : Bounds) (a : Lll) : Type 0 where
  pub inputs : bounds.inputs ≡ input_count a.signals
  pub variables : bounds.variables ≡ (bounds.depth + 1) * length a.signals

pub record PartsFit (bounds : Bounds) (v : Verdict) (ls : List Log) (rs ms : List (List Bool)) : Type 0 where
  pub verdict : VerdictFits bounds.depth v
  pub logs : AreLogs (log_count bounds.depth v) ls
  pub row_count : length rs ≡ rows_due v
  pub rows : All (λ row. length row ≡ bounds.inputs) rs
  pub model_count : length ms ≡ (if has_model v then 1 else 0)
  pub models : All (λ values. length values ≡ bounds.variables) ms

logs_more : (count : ℕ) (logs : List Log) (log : Log) → AreLogs count logs → IsLog log → AreLogs (count + 1) (logs ++ log ∷ [])
logs_more count logs log are is = record {
  long = length-append logs (log ∷ []) ∙ ap (λ n. n + 1) are.long;
  each = All-append IsLog logs (log ∷ []) are.each (All-cons IsLog log [] is (All-nil IsLog));
}

no_rows : (n : ℕ) → All (λ (row : List Bool). length row ≡ n) []
no_rows n = All-nil (λ (row : List Bool). length row ≡ n)

pub parts_fit : (bounds : Bounds) (a : Lll) (x : Found) → AreBoundsOf bounds a → EntryFits bounds.depth a x → PartsFit bounds (verdict_of x) (logs_of x) (rows_of x) (models_of x)
parts_fit bounds a (found.Proved k bases step) b fits = record {
  verdict = (fits.0, fits.1);
  logs = logs_more k bases step fits.2 fits.3;
  row_count = refl;
  rows = no_rows bounds.inputs;
  model_count = refl;
  models = no_rows bounds.variables;
}
parts_fit bounds a (found.Falsified bits bases) b fits = record {
  verdict = (fits.0, fits.1);
  logs = fits.2;
  row_count = refl;
  rows = subst (λ n. All (λ (row : List Bool). length row ≡ n) bits) (sym b.inputs) fits.3;
  model_count = refl;
  models = no_rows bounds.variables;
}
parts_fit bounds a (found.Depth step_model bases) b fits = record {
  verdict = tt;
  logs = fits.0;
  row_count = refl;
  rows = no_rows bounds.inputs;
  model_count = refl;
  models = All-cons (λ (values : List Bool). length values ≡ bounds.variables) step_model [] (fits.1 ∙ sym b.variables) (no_rows bounds.variables);
}
parts_fit bounds a (found.Conflicts (spot.Base j) log bases) b fits = record {
  verdict = fits.0.0;
  logs = logs_more j bases log fits.0.1 fits.1;
  row_count = refl;
  rows = no_rows bounds.inputs;
  model_count = refl;
  models = no_rows bounds.variables;
}
parts_fit bounds a (found.Conflicts (spot.Step k) log bases) b fits = record {
  verdict = (fits.0.0, fits.0.1);
  logs = logs_more k bases log fits.0.2 fits.1;
  row_count = refl;
  rows = no_rows bounds.inputs;
  model_count = refl;
  models = no_rows bounds.variables;
}

-- ---- the entry that they make

-- all but the last, and the last
pub record Parted (logs : List Log) : Type 0 where
  pub before : List Log
  pub last : Log
  pub parts : logs ≡ before ++ last ∷ []

parted : (log : Log) (logs : List Log) → Parted (log ∷ logs)
parted log [] = record { before = []; last = log; parts = refl }
parted log (next ∷ logs) =
    let rest = parted next logs in
    record { before = log ∷ rest.before; last = rest.last; parts = ap (λ (t : List Log). log ∷ t) rest.parts }

pub some_parted : (logs : List Log) → 0 < length logs → Parted logs
some_parted [] lt = absurd (omega arith)
some_parted (log ∷ logs) lt = parted log logs

all_before : (xs ys : List Log) → All IsLog (xs ++ ys) → All IsLog xs
all_before [] ys all = All-nil IsLog
all_before (x ∷ xs) ys all = All-cons IsLog x xs (All-head IsLog x (xs ++ ys) all) (all_before xs ys (All-tail IsLog x (xs ++ ys) all))

all_after : (xs ys : List Log) → All IsLog (xs ++ ys) → All IsLog ys
all_after [] ys all = all
all_after (x ∷ xs) ys all = all_after xs ys (All-tail IsLog x (xs ++ ys) all)

pub record FitParted (count : ℕ) (logs : List Log) : Type 0 where
  pub before : List Log
  pub last : Log
  pub parts : logs ≡ before ++ last ∷ []
  pub are : AreLogs count before
  pub is : IsLog last

fit_parted : (count : ℕ) (logs : List Log) → AreLogs (count + 1) logs → FitParted count logs
fit_parted count logs are =
    let p = some_parted logs (omega (arith, are.long)) in
    let each = subst (All IsLog) p.parts are.each in
    record {
      before = p.before;
      last = p.last;
      parts = p.parts;
      are = record { long = omega (arith, are.long, ap (λ (t : List Log). length t) p.parts, length-append p.before (p.last ∷ [])); each = all_before p.before (p.last ∷ []) each };
      is = All-head IsLog p.last [] (all_after p.before (p.last ∷ []) each);
    }

-- an entry of these parts
pub record MadeOf (bounds : Bounds) (a : Lll) (v : Verdict) (logs : List Log) (rows models : List (List Bool)) : Type 0 where
  pub entry : Found
  pub fits : EntryFits bounds.depth a entry
  pub verdict_is : verdict_of entry ≡ v
  pub logs_are : logs_of entry ≡ logs
  pub rows_are : rows_of entry ≡ rows
  pub models_are : models_of entry ≡ models

none_there : {X : Type 0} (xs : List X) → length xs ≡ 0 → [] ≡ xs
none_there [] e = refl
none_there (x ∷ xs) e = absurd (omega (arith, e))

one_there : (n : ℕ) (xs : List (List Bool)) → length xs ≡ 1 → All (λ (row : List Bool). length row ≡ n) xs → (x : List Bool) × (x ∷ [] ≡ xs) × (length x ≡ n)
one_there n [] e all = absurd (omega (arith, e))
one_there n (x ∷ []) e all = (x, refl, All-head (λ (row : List Bool). length row ≡ n) x [] all)
one_there n (x ∷ y ∷ xs) e all = absurd (omega (arith, e))

place_made : (bounds : Bounds) (a : Lll) (place : Spot) (logs : List Log) (rows models : List (List Bool)) → PartsFit bounds (verdict.Conflicts place) logs rows models → MadeOf bounds a (verdict.Conflicts place) logs rows models
place_made bounds a (spot.Base j) logs rows models fit =
    let p = fit_parted j logs fit.logs in
    record {
      entry = found.Conflicts (spot.Base j) p.last p.before;
      fits = ((fit.verdict, p.are), p.is);
      verdict_is = refl;
      logs_are = sym p.parts;
      rows_are = none_there rows fit.row_count;
      models_are = none_there models fit.model_count;
    }
place_made bounds a (spot.Step k) logs rows models fit =
    let p = fit_parted k logs fit.logs in
    record {
      entry = found.Conflicts (spot.Step k) p.last p.before;
      fits = ((fit.verdict.0, fit.verdict.1, p.are), p.is);
      verdict_is = refl;
      logs_are = sym p.parts;
      rows_are = none_there rows fit.row_count;
      models_are = none_there models fit.model_count;
    }

pub made_of : (bounds : Bounds) (a : Lll) (v : Verdict) (logs : List Log) (rows models : List (List Bool)) → AreBoundsOf bounds a → PartsFit bounds v logs rows models → MadeOf bounds a v logs rows models
made_of bounds a (verdict.Proved k) logs rows models b fit =
    let p = fit_parted k logs fit.logs in
    record {
      entry = found.Proved k p.before p.last;
      fits = (fit.verdict.0, fit.verdict.1, p.are, p.is);
      verdict_is = refl;
      logs_are = sym p.parts;
      rows_are = none_there rows fit.row_count;
      models_are = none_there models fit.model_count;
    }
made_of bounds a (verdict.Falsified n) logs rows models b fit = record {
  entry = found.Falsified rows logs;
  fits = (
    omega (arith, fit.verdict.0, fit.row_count),
    omega (arith, fit.verdict.1, fit.row_count),
    record { long = fit.logs.long ∙ ap (λ k. k - 1) (sym fit.row_count); each = fit.logs.each },
    subst (λ k. All (λ (row : List Bool). length row ≡ k) rows) b.inputs fit.rows,
  );
  verdict_is = ap verdict.Falsified fit.row_count;
  logs_are = refl;
  rows_are = refl;
  models_are = none_there models fit.model_count;
}
made_of bounds a verdict.Depth logs rows models b fit =
    let one = one_there bounds.variables models fit.model_count fit.models in
    record {
      entry = found.Depth one.0 logs;
      fits = (fit.logs, one.2 ∙ b.variables);
      verdict_is = refl;
      logs_are = refl;
      rows_are = none_there rows fit.row_count;
      models_are = one.1;
    }
made_of bounds a (verdict.Conflicts place) logs rows models b fit = place_made bounds a place logs rows models fit
