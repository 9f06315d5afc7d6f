-- A line at the front of a rest: it is one that is due, and what follows is the rest after it; and the other way round.
use Rattle.std.proofs.Common.{◌≡◌, ℕ, suc, ◌+◌, ◌-◌, ◌^◌, ◌<◌, ◌≤◌, Bool, true, false, cond, List, [], ◌∷◌, ◌++◌, length, map, refl, sym, ap, subst, ◌∙◌, append_assoc, arith, if◌then◌else◌}
use Rattle.std.specs.Prelude.{ℤ, pos, negsuc, nat_abs, nat_eq, nat_lt, not, codes, All}
use Rattle.std.specs.Fmt.{signed_decimal}
use Rattle.std.specs.List.{flat_map}
use Rattle.std.proofs.lemmas.Bool.{ltb-true, ltb-false, lt-ltb}
use Rattle.std.proofs.lemmas.List.{append-nil}
use Rattle.std.proofs.lemmas.List.Concat.{flat_map-cons}
use Rattle.std.proofs.lemmas.List.Elements.{All-nil, All-head, All-tail}
use Rattle.lll_core.specs.declared.lll.Lll.{Lll}
use Rattle.lll_text.specs.Spelling.{line, number_field}
use Rattle.rup_checker.specs.declared.log.Log.{Log}
use Rattle.rup_checker.specs.declared.log.Step.{Step}
use Rattle.kinduction.specs.declared.found.Found.{Found}
use Rattle.kinduction.specs.declared.found.Spot.TheVariants as spot
use Rattle.evidence.specs.declared.reader_due.Bounds.{Bounds}
use Rattle.evidence.specs.declared.reader_due.Due.{Due}
use Rattle.evidence.specs.declared.reader_due.Kind.{Kind}
use Rattle.evidence.specs.declared.reader_due.Kind.TheVariants as kind
use Rattle.evidence.specs.declared.reader_due.Statement.{Statement}
use Rattle.evidence.specs.declared.reader_due.Statement.TheVariants as says
use Rattle.evidence.specs.declared.reader_lines.Verdict.{Verdict}
use Rattle.evidence.specs.declared.reader_lines.Verdict.TheVariants as verdict
use Rattle.evidence.specs.Counts.{IsLiteralNumber, IsStep, IsLog, EntryFits}
use Rattle.evidence.specs.Due.{due_kind, due_after, kind_of, after_verdict, LineFits, IsDue, line_content}
use Rattle.evidence.specs.Readers.{VerdictFits, step_content, verdict_content}
use Rattle.evidence.specs.Rests.{TailFits, IsRest, tail_text, rows_text, models_text}
use Rattle.evidence.specs.Spelling.{literal_field, literals, step_line, log_text, logs_text, bit, bits_line, entry_line, entries_text, proof_text}
use Rattle.evidence.proofs.Cutting.{both_back, avoids, avoids-append, avoids-flat_map, avoids-number, avoids-any_number, avoids-signed, split_line}
use Rattle.evidence.proofs.FoundParts.{verdict_of, logs_of, rows_of, models_of, log_count, rows_due, has_model, verdict_same, proof_is, AreBoundsOf, parts_fit}

-- ---- no line feed stands in a line

small : (l : ℤ) → IsLiteralNumber l → nat_abs l ≤ 2 ^ 31
small (pos n) lt = omega (arith, lt)
small (negsuc n) lt = omega (arith, lt)

avoids-field : (l : ℤ) → IsLiteralNumber l → avoids 10 (literal_field l) ≡ true
avoids-field l lt = avoids-signed 10 l refl refl (small l lt)

avoids-literals : (ls : List ℤ) → All IsLiteralNumber ls → avoids 10 (literals ls) ≡ true
avoids-literals [] all = refl
avoids-literals (l ∷ ls) all =
    avoids-append 10 (signed_decimal l) (flat_map literal_field ls) (avoids-signed 10 l refl refl (small l (All-head IsLiteralNumber l ls all)))
    (avoids-flat_map 10 literal_field ls IsLiteralNumber avoids-field (All-tail IsLiteralNumber l ls all))

avoids-step : (s : Step) → IsStep s → avoids 10 (step_content s) ≡ true
avoids-step s h =
    avoids-append 10 (literals s.clause ++ codes ":") (flat_map number_field s.hints)
    (avoids-append 10 (literals s.clause) (codes ":") (avoids-literals s.clause h.literals) refl)
    (avoids-flat_map 10 number_field s.hints (λ n. n < 2 ^ 32) (λ n lt. avoids-number 10 n refl refl (omega (arith, lt))) h.hints)

avoids-bit : (x : Bool) → not (nat_eq (bit x) 10) ≡ true
avoids-bit true = refl
avoids-bit false = refl

avoids-bits : (xs : List Bool) → avoids 10 (map bit xs) ≡ true
avoids-bits [] = refl
avoids-bits (x ∷ xs) = both_back (not (nat_eq (bit x) 10)) (avoids 10 (map bit xs)) (avoids-bit x) (avoids-bits xs)

avoids-verdict : (depth : ℕ) (v : Verdict) → depth < 2 ^ 32 → VerdictFits depth v → avoids 10 (verdict_content v) ≡ true
avoids-verdict depth (verdict.Proved k) lt fits = avoids-append 10 (codes " proved") (number_field k) refl (avoids-number 10 k refl refl (omega (arith, fits.1)))
avoids-verdict depth (verdict.Falsified n) lt fits = avoids-append 10 (codes " falsified") (number_field n) refl (avoids-number 10 n refl refl (omega (arith, fits.1)))
avoids-verdict depth verdict.Depth lt fits = refl
avoids-verdict depth (verdict.Conflicts (spot.Base j)) lt fits =
    avoids-append 10 (codes " conflicts") (codes " base" ++ number_field j) refl (avoids-append 10 (codes " base") (number_field j) refl (avoids-number 10 j refl refl (omega (arith, fits))))
avoids-verdict depth (verdict.Conflicts (spot.Step k)) lt fits =
    avoids-append 10 (codes " conflicts") (codes " step" ++ number_field k) refl (avoids-append 10 (codes " step") (number_field k) refl (avoids-number 10 k refl refl (omega (arith, fits.1))))

pub avoids-content : (bounds : Bounds) (number : ℕ) (s : Statement) → bounds.depth < 2 ^ 32 → LineFits bounds s → avoids 10 (line_content number s) ≡ true
avoids-content bounds number (says.Step step) depth fits = avoids-step step fits
avoids-content bounds number (says.Log n) depth fits = avoids-append 10 (codes "log") (number_field n) refl (avoids-number 10 n refl refl (omega (arith, fits)))
avoids-content bounds number (says.Row xs) depth fits = avoids-append 10 (codes "bits:") (map bit xs) refl (avoids-bits xs)
avoids-content bounds number (says.Model xs) depth fits = avoids-append 10 (codes "model:") (map bit xs) refl (avoids-bits xs)
avoids-content bounds number (says.Entry v) depth fits =
    avoids-append 10 (codes "entry" ++ number_field number) (verdict_content v)
    (avoids-append 10 (codes "entry") (number_field number) refl (avoids-any_number 10 number refl refl)) (avoids-verdict bounds.depth v depth fits)
avoids-content bounds number says.End depth fits = refl

-- ---- which kind is due

pub step_due : (d : Due) → 0 < d.steps → due_kind d ≡ kind.Step
step_due d h = rw (lt-ltb 0 d.steps h) refl

pub log_due : (d : Due) → d.steps ≡ 0 → 0 < d.logs → due_kind d ≡ kind.Log
log_due d s h = rw (s, lt-ltb 0 d.logs h) refl

pub row_due : (d : Due) → d.steps ≡ 0 → d.logs ≡ 0 → 0 < d.rows → due_kind d ≡ kind.Row
row_due d s l h = rw (s, l, lt-ltb 0 d.rows h) refl

pub model_due : (d : Due) → d.steps ≡ 0 → d.logs ≡ 0 → d.rows ≡ 0 → d.model ≡ true → due_kind d ≡ kind.Model
model_due d s l r h = rw (s, l, r, h) refl

pub entry_due : (d : Due) → d.steps ≡ 0 → d.logs ≡ 0 → d.rows ≡ 0 → d.model ≡ false → 0 < d.entries → due_kind d ≡ kind.Entry
entry_due d s l r m h = rw (s, l, r, m, lt-ltb 0 d.entries h) refl

pub end_due : (d : Due) → d.steps ≡ 0 → d.logs ≡ 0 → d.rows ≡ 0 → d.model ≡ false → d.entries ≡ 0 → due_kind d ≡ kind.End
end_due d s l r m h = rw (s, l, r, m, h) refl

abbrev pub kind_by : Bool → Bool → Bool → Bool → Bool → Kind
kind_by s l r m e = cond s kind.Step (cond l kind.Log (cond r kind.Row (cond m kind.Model (cond e kind.Entry kind.End))))

pub step_by : (s l r m e : Bool) → kind.Step ≡ kind_by s l r m e → s ≡ true
step_by true l r m e h = refl
step_by false true r m e h = absurd cc
step_by false false true m e h = absurd cc
step_by false false false true e h = absurd cc
step_by false false false false true h = absurd cc
step_by false false false false false h = absurd cc

pub log_by : (s l r m e : Bool) → kind.Log ≡ kind_by s l r m e → (s ≡ false) × (l ≡ true)
log_by true l r m e h = absurd cc
log_by false true r m e h = (refl, refl)
log_by false false true m e h = absurd cc
log_by false false false true e h = absurd cc
log_by false false false false true h = absurd cc
log_by false false false false false h = absurd cc

pub row_by : (s l r m e : Bool) → kind.Row ≡ kind_by s l r m e → (s ≡ false) × (l ≡ false) × (r ≡ true)
row_by true l r m e h = absurd cc
row_by false true r m e h = absurd cc
row_by false false true m e h = (refl, refl, refl)
row_by false false false true e h = absurd cc
row_by false false false false true h = absurd cc
row_by false false false false false h = absurd cc

pub model_by : (s l r m e : Bool) → kind.Model ≡ kind_by s l r m e → (s ≡ false) × (l ≡ false) × (r ≡ false) × (m ≡ true)
model_by true l r m e h = absurd cc
model_by false true r m e h = absurd cc
model_by false false true m e h = absurd cc
model_by false false false true e h = (refl, refl, refl, refl)
model_by false false false false true h = absurd cc
model_by false false false false false h = absurd cc

pub entry_by : (s l r m e : Bool) → kind.Entry ≡ kind_by s l r m e → (s ≡ false) × (l ≡ false) × (r ≡ false) × (m ≡ false) × (e ≡ true)
entry_by true l r m e h = absurd cc
entry_by false true r m e h = absurd cc
entry_by false false true m e h = absurd cc
entry_by false false false true e h = absurd cc
entry_by false false false false true h = (refl, refl, refl, refl, refl)
entry_by false false false false false h = absurd cc

pub end_by : (s l r m e : Bool) → kind.End ≡ kind_by s l r m e → (s ≡ false) × (l ≡ false) × (r ≡ false) × (m ≡ false) × (e ≡ false)
end_by true l r m e h = absurd cc
end_by false true r m e h = absurd cc
end_by false false true m e h = absurd cc
end_by false false false true e h = absurd cc
end_by false false false false true h = absurd cc
end_by false false false false false h = (refl, refl, refl, refl, refl)

pub none : (n : ℕ) → nat_lt 0 n ≡ false → n ≡ 0
none n e = omega (arith, ltb-false 0 n e)

pub some : (n : ℕ) → nat_lt 0 n ≡ true → 0 < n
some n e = ltb-true 0 n e

-- ---- cut

-- a line that is due, and the rest after it
pub record Cut (bounds : Bounds) (a : Lll) (due : Due) (content more : List ℕ) : Type 0 where
  pub said : Statement
  pub due_is : IsDue bounds due said
  pub content_is : content ≡ line_content due.number said
  pub ended : said ≡ says.End → more ≡ []
  pub rest : (said ≡ says.End → ⊥) → IsRest bounds a (due_after bounds.depth due said) more

model_there : (v : Bool) (n : ℕ) → suc n ≡ (if v then 1 else 0) → (v ≡ true) × (n ≡ 0)
model_there true n e = (refl, omega (arith, e))
model_there false n e = absurd (omega (arith, e))

model_gone : (v : Bool) (n : ℕ) → n ≡ 0 → n ≡ (if v then 1 else 0) → v ≡ false
model_gone true n z e = absurd (omega (arith, z, e))
model_gone false n z e = refl

abbrev pub rows_on : List (List Bool) → List (List Bool) → ℕ → List Found → List ℕ
rows_on rows models number entries = rows_text rows ++ (models_text models ++ (entries_text number entries ++ line (codes "end")))

abbrev pub RowLength : ℕ → List Bool → Type 0
RowLength n row = length row ≡ n

module _ (bounds : Bounds) (a : Lll) (due : Due) (of : AreBoundsOf bounds a) (depth : bounds.depth < 2 ^ 32) (content more : List ℕ) (inside : avoids 10 content ≡ true) where
  cut_line : (s : Statement) (rest : List ℕ) → LineFits bounds s → line content ++ more ≡ line (line_content due.number s) ++ rest → (content ≡ line_content due.number s) × (more ≡ rest)
  cut_line s rest fits e = split_line content (line_content due.number s) more rest inside (avoids-content bounds due.number s depth fits) e

  cut_step : (s : Step) (steps : List Step) (logs : List Log) (rows models : List (List Bool)) (entries : List Found)
      → TailFits bounds a due (record { steps = s ∷ steps; logs = logs; rows = rows; models = models; entries = entries })
      → line content ++ more ≡ tail_text due.number (record { steps = s ∷ steps; logs = logs; rows = rows; models = models; entries = entries }) → Cut bounds a due content more
  cut_step s steps logs rows models entries fits e =
      let after = logs_text logs ++ rows_on rows models due.number entries in
      let is = All-head IsStep s steps fits.steps in
      let cut = cut_line (says.Step s) (flat_map step_line steps ++ after) is
      (e ∙ ap (λ (t : List ℕ). t ++ after) (flat_map-cons step_line s steps) ∙ append_assoc (step_line s) (flat_map step_line steps) after) in
      record {
        said = says.Step s;
        due_is = record { kind = sym (step_due due (omega (arith, fits.step_count))); fits = is };
        content_is = cut.0;
        ended = λ h. absurd cc;
        rest = λ h. record {
          tail = record { steps = steps; logs = logs; rows = rows; models = models; entries = entries };
          fits = record {
            step_count = omega (arith, fits.step_count);
            steps = All-tail IsStep s steps fits.steps;
            logs = fits.logs;
            row_count = fits.row_count;
            rows = fits.rows;
            model_count = fits.model_count;
            models = fits.models;
            entry_count = fits.entry_count;
            entries = fits.entries;
          };
          spelled = cut.1;
        };
      }

  cut_log : (log : Log) (logs : List Log) (rows models : List (List Bool)) (entries : List Found)
      → TailFits bounds a due (record { steps = []; logs = log ∷ logs; rows = rows; models = models; entries = entries })
      → line content ++ more ≡ tail_text due.number (record { steps = []; logs = log ∷ logs; rows = rows; models = models; entries = entries }) → Cut bounds a due content more
  cut_log log logs rows models entries fits e =
      let after = rows_on rows models due.number entries in
      let is = All-head IsLog log logs fits.logs.each in
      let head = line (codes "log" ++ number_field (length log.steps)) in
      let steps = flat_map step_line log.steps in
      let cut = cut_line (says.Log (length log.steps)) (steps ++ (logs_text logs ++ after)) is.count
      (e ∙ ap (λ (t : List ℕ). t ++ after) (flat_map-cons log_text log logs) ∙ append_assoc (head ++ steps) (logs_text logs) after ∙ append_assoc head steps (logs_text logs ++ after)) in
      record {
        said = says.Log (length log.steps);
        due_is = record { kind = sym (log_due due (sym fits.step_count) (omega (arith, fits.logs.long))); fits = is.count };
        content_is = cut.0;
        ended = λ h. absurd cc;
        rest = λ h. record {
          tail = record { steps = log.steps; logs = logs; rows = rows; models = models; entries = entries };
          fits = record {
            step_count = refl;
            steps = is.steps;
            logs = record { long = omega (arith, fits.logs.long); each = All-tail IsLog log logs fits.logs.each };
            row_count = fits.row_count;
            rows = fits.rows;
            model_count = fits.model_count;
            models = fits.models;
            entry_count = fits.entry_count;
            entries = fits.entries;
          };
          spelled = cut.1;
        };
      }

  cut_row : (row : List Bool) (rows models : List (List Bool)) (entries : List Found)
      → TailFits bounds a due (record { steps = []; logs = []; rows = row ∷ rows; models = models; entries = entries })
      → line content ++ more ≡ tail_text due.number (record { steps = []; logs = []; rows = row ∷ rows; models = models; entries = entries }) → Cut bounds a due content more
  cut_row row rows models entries fits e =
      let after = models_text models ++ (entries_text due.number entries ++ line (codes "end")) in
      let is = All-head (RowLength bounds.inputs) row rows fits.rows in
      let cut = cut_line (says.Row row) (rows_text rows ++ after) is
      (e ∙ ap (λ (t : List ℕ). t ++ after) (flat_map-cons (bits_line (codes "bits:")) row rows) ∙ append_assoc (bits_line (codes "bits:") row) (rows_text rows) after) in
      record {
        said = says.Row row;
        due_is = record { kind = sym (row_due due (sym fits.step_count) (sym fits.logs.long) (omega (arith, fits.row_count))); fits = is };
        content_is = cut.0;
        ended = λ h. absurd cc;
        rest = λ h. record {
          tail = record { steps = []; logs = []; rows = rows; models = models; entries = entries };
          fits = record {
            step_count = fits.step_count;
            steps = fits.steps;
            logs = fits.logs;
            row_count = omega (arith, fits.row_count);
            rows = All-tail (RowLength bounds.inputs) row rows fits.rows;
            model_count = fits.model_count;
            models = fits.models;
            entry_count = fits.entry_count;
            entries = fits.entries;
          };
          spelled = cut.1;
        };
      }

  cut_model : (values : List Bool) (models : List (List Bool)) (entries : List Found)
      → TailFits bounds a due (record { steps = []; logs = []; rows = []; models = values ∷ models; entries = entries })
      → line content ++ more ≡ tail_text due.number (record { steps = []; logs = []; rows = []; models = values ∷ models; entries = entries }) → Cut bounds a due content more
  cut_model values models entries fits e =
      let after = entries_text due.number entries ++ line (codes "end") in
      let is = All-head (RowLength bounds.variables) values models fits.models in
      let there = model_there due.model (length models) fits.model_count in
      let cut = cut_line (says.Model values) (models_text models ++ after) is
      (e ∙ ap (λ (t : List ℕ). t ++ after) (flat_map-cons (bits_line (codes "model:")) values models) ∙ append_assoc (bits_line (codes "model:") values) (models_text models) after) in
      record {
        said = says.Model values;
        due_is = record { kind = sym (model_due due (sym fits.step_count) (sym fits.logs.long) (sym fits.row_count) there.0); fits = is };
        content_is = cut.0;
        ended = λ h. absurd cc;
        rest = λ h. record {
          tail = record { steps = []; logs = []; rows = []; models = models; entries = entries };
          fits = record {
            step_count = fits.step_count;
            steps = fits.steps;
            logs = fits.logs;
            row_count = fits.row_count;
            rows = fits.rows;
            model_count = there.1;
            models = All-tail (RowLength bounds.variables) values models fits.models;
            entry_count = fits.entry_count;
            entries = fits.entries;
          };
          spelled = cut.1;
        };
      }

-- ---- entries

-- what is due after an entry's line
pub record AfterIs (depth : ℕ) (due : Due) (v : Verdict) : Type 0 where
  pub steps : (after_verdict depth due v).steps ≡ 0
  pub logs : (after_verdict depth due v).logs ≡ log_count depth v
  pub rows : (after_verdict depth due v).rows ≡ rows_due v
  pub model : (after_verdict depth due v).model ≡ has_model v
  pub entries : (after_verdict depth due v).entries ≡ due.entries - 1
  pub number : (after_verdict depth due v).number ≡ due.number + 1

pub after_is : (depth : ℕ) (due : Due) (v : Verdict) → due.steps ≡ 0 → due.rows ≡ 0 → due.model ≡ false → AfterIs depth due v
after_is depth due (verdict.Proved k) s r m = record { steps = s; logs = refl; rows = r; model = m; entries = refl; number = refl }
after_is depth due (verdict.Falsified n) s r m = record { steps = s; logs = refl; rows = refl; model = m; entries = refl; number = refl }
after_is depth due verdict.Depth s r m = record { steps = s; logs = refl; rows = r; model = refl; entries = refl; number = refl }
after_is depth due (verdict.Conflicts (spot.Base j)) s r m = record { steps = s; logs = refl; rows = r; model = m; entries = refl; number = refl }
after_is depth due (verdict.Conflicts (spot.Step k)) s r m = record { steps = s; logs = refl; rows = r; model = m; entries = refl; number = refl }

pub entry_parts : (n : ℕ) (x : Found) (xs : List Found) → entries_text n (x ∷ xs) ++ line (codes "end") ≡ line (line_content n (says.Entry (verdict_of x))) ++ (logs_text (logs_of x) ++ rows_on (rows_of x) (models_of x) (n + 1) xs)
entry_parts n x xs =
    let rest = entries_text (n + 1) xs ++ line (codes "end") in
    let head = entry_line n x in
    append_assoc (head ++ proof_text x) (entries_text (n + 1) xs) (line (codes "end")) ∙ append_assoc head (proof_text x) rest
    ∙ ap (λ (t : List ℕ). line ((codes "entry" ++ number_field n) ++ t) ++ (proof_text x ++ rest)) (verdict_same x)
    ∙ ap (λ (t : List ℕ). line (line_content n (says.Entry (verdict_of x))) ++ t) (proof_is x rest)

module _ (bounds : Bounds) (a : Lll) (due : Due) (of : AreBoundsOf bounds a) (depth : bounds.depth < 2 ^ 32) (content more : List ℕ) (inside : avoids 10 content ≡ true) where
  cut_entry : (x : Found) (xs : List Found)
      → TailFits bounds a due (record { steps = []; logs = []; rows = []; models = []; entries = x ∷ xs })
      → line content ++ more ≡ tail_text due.number (record { steps = []; logs = []; rows = []; models = []; entries = x ∷ xs }) → Cut bounds a due content more
  cut_entry x xs fits e =
      let v = verdict_of x in
      let parts = parts_fit bounds a x of (All-head (EntryFits bounds.depth a) x xs fits.entries) in
      let gone = model_gone due.model 0 refl fits.model_count in
      let is = after_is bounds.depth due v (sym fits.step_count) (sym fits.row_count) gone in
      let cut = split_line content (line_content due.number (says.Entry v)) more (logs_text (logs_of x) ++ rows_on (rows_of x) (models_of x) (due.number + 1) xs) inside
      (avoids-content bounds due.number (says.Entry v) depth parts.verdict) (e ∙ entry_parts due.number x xs) in
      record {
        said = says.Entry v;
        due_is = record { kind = sym (entry_due due (sym fits.step_count) (sym fits.logs.long) (sym fits.row_count) gone (omega (arith, fits.entry_count))); fits = parts.verdict };
        content_is = cut.0;
        ended = λ h. absurd cc;
        rest = λ h. record {
          tail = record { steps = []; logs = logs_of x; rows = rows_of x; models = models_of x; entries = xs };
          fits = record {
            step_count = sym is.steps;
            steps = All-nil IsStep;
            logs = record { long = parts.logs.long ∙ sym is.logs; each = parts.logs.each };
            row_count = parts.row_count ∙ sym is.rows;
            rows = parts.rows;
            model_count = parts.model_count ∙ ap (λ (b : Bool). if b then 1 else 0) (sym is.model);
            models = parts.models;
            entry_count = omega (arith, fits.entry_count, is.entries);
            entries = All-tail (EntryFits bounds.depth a) x xs fits.entries;
          };
          spelled = cut.1 ∙ ap (λ n. logs_text (logs_of x) ++ rows_on (rows_of x) (models_of x) n xs) (sym is.number);
        };
      }

  cut_end : TailFits bounds a due (record { steps = []; logs = []; rows = []; models = []; entries = [] })
      → line content ++ more ≡ tail_text due.number (record { steps = []; logs = []; rows = []; models = []; entries = [] }) → Cut bounds a due content more
  cut_end fits e =
      let cut = split_line content (codes "end") more [] inside refl (e ∙ sym (append-nil (line (codes "end")))) in
      record {
        said = says.End;
        due_is = record { kind = sym (end_due due (sym fits.step_count) (sym fits.logs.long) (sym fits.row_count) (model_gone due.model 0 refl fits.model_count) (sym fits.entry_count)); fits = tt };
        content_is = cut.0;
        ended = λ h. cut.1;
        rest = λ h. absurd (h refl);
      }

  cut_by : (steps : List Step) (logs : List Log) (rows models : List (List Bool)) (entries : List Found)
      → TailFits bounds a due (record { steps = steps; logs = logs; rows = rows; models = models; entries = entries })
      → line content ++ more ≡ tail_text due.number (record { steps = steps; logs = logs; rows = rows; models = models; entries = entries }) → Cut bounds a due content more
  cut_by (s ∷ steps) logs rows models entries fits e = cut_step bounds a due of depth content more inside s steps logs rows models entries fits e
  cut_by [] (log ∷ logs) rows models entries fits e = cut_log bounds a due of depth content more inside log logs rows models entries fits e
  cut_by [] [] (row ∷ rows) models entries fits e = cut_row bounds a due of depth content more inside row rows models entries fits e
  cut_by [] [] [] (values ∷ models) entries fits e = cut_model bounds a due of depth content more inside values models entries fits e
  cut_by [] [] [] [] (x ∷ xs) fits e = cut_entry x xs fits e
  cut_by [] [] [] [] [] fits e = cut_end fits e

  -- a line at the front of a rest is due
  pub cut : IsRest bounds a due (line content ++ more) → Cut bounds a due content more
  cut rest = cut_by rest.tail.steps rest.tail.logs rest.tail.rows rest.tail.models rest.tail.entries rest.fits rest.spelled

-- ---- what a line that is due says of the counts

module _ (bounds : Bounds) (due : Due) (said : Statement) (d : IsDue bounds due said) where
  pub some_steps : (s : Step) → said ≡ says.Step s → 0 < due.steps
  some_steps s e = some due.steps (step_by (nat_lt 0 due.steps) (nat_lt 0 due.logs) (nat_lt 0 due.rows) due.model (nat_lt 0 due.entries) (ap kind_of (sym e) ∙ d.kind))

  pub some_logs : (n : ℕ) → said ≡ says.Log n → 0 < due.logs
  some_logs n e = some due.logs (log_by (nat_lt 0 due.steps) (nat_lt 0 due.logs) (nat_lt 0 due.rows) due.model (nat_lt 0 due.entries) (ap kind_of (sym e) ∙ d.kind)).1

  pub some_rows : (row : List Bool) → said ≡ says.Row row → 0 < due.rows
  some_rows row e = some due.rows (row_by (nat_lt 0 due.steps) (nat_lt 0 due.logs) (nat_lt 0 due.rows) due.model (nat_lt 0 due.entries) (ap kind_of (sym e) ∙ d.kind)).2

  pub some_entries : (v : Verdict) → said ≡ says.Entry v → 0 < due.entries
  some_entries v e = some due.entries (entry_by (nat_lt 0 due.steps) (nat_lt 0 due.logs) (nat_lt 0 due.rows) due.model (nat_lt 0 due.entries) (ap kind_of (sym e) ∙ d.kind)).4

  pub verdict_fits : (v : Verdict) → said ≡ says.Entry v → VerdictFits bounds.depth v
  verdict_fits v e = let here : LineFits bounds (says.Entry v) = subst (LineFits bounds) e d.fits in here
