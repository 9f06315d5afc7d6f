-- The line of the parts: after it stands what is due, and the other way round.
use Rattle.std.proofs.Common.{◌≡◌, ℕ, ◌*◌, Bool, false, List, [], ◌∷◌, ◌++◌, length, refl, sym, ap, ◌∙◌, append_assoc, arith, if◌then◌else◌}
use Rattle.std.specs.Prelude.{codes, All}
use Rattle.std.specs.List.{flat_map}
use Rattle.std.proofs.lemmas.List.{append-nil}
use Rattle.std.proofs.lemmas.List.Concat.{flat_map-cons}
use Rattle.std.proofs.lemmas.List.Elements.{All-nil, All-cons, All-head}
use Rattle.lll_core.specs.declared.lll.Lll.{Lll}
use Rattle.lll_text.specs.Spelling.{line}
use Rattle.rup_checker.specs.declared.log.Log.{Log}
use Rattle.rup_checker.specs.declared.log.Step.{Step}
use Rattle.kinduction.specs.declared.equal.Equal.{Equal}
use Rattle.kinduction.specs.declared.equal.Equal.TheVariants as equal
use Rattle.kinduction.specs.declared.found.Found.{Found}
use Rattle.evidence.specs.declared.evidence.Evidence.{Evidence}
use Rattle.evidence.specs.declared.reader_due.Bounds.{Bounds}
use Rattle.evidence.specs.declared.reader_due.Due.{Due}
use Rattle.evidence.specs.declared.reader_lines.EqualLine.{EqualLine}
use Rattle.evidence.specs.declared.reader_lines.EqualLine.TheVariants as says
pub use Rattle.evidence.specs.ByLines.{said_of, logs_shown}
use Rattle.evidence.specs.Counts.{IsStep, IsLog, AreLogs, EqualFits, EntriesFit, EntryFits}
use Rattle.evidence.specs.Readers.{EqualLineFits, equal_content}
use Rattle.evidence.specs.Rests.{Tail, TailFits, IsRest, tail_text, rows_text, models_text}
use Rattle.evidence.specs.Spelling.{step_line, log_text, logs_text, part_count, equal_line, equal_text, entries_text}
use Rattle.evidence.proofs.RestLines.{RowLength}

-- what is due after the line
abbrev pub due_of : Lll → ℕ → EqualLine → Due
due_of a parts says.Shown = record { steps = 0; logs = 2 * parts; rows = 0; model = false; entries = length a.obligations; number = 1 }
due_of a parts (says.Conflicts part stepping) = record { steps = 0; logs = 1; rows = 0; model = false; entries = 0; number = 1 }

pub said_fits : (b : Lll) (x : Equal) → EqualFits b x → EqualLineFits (part_count b) (said_of x)
said_fits b (equal.Shown logs) fits = tt
said_fits b (equal.Conflicts part stepping log) fits = (fits.0, fits.1)

equal_is : (parts : ℕ) (x : Equal) (rest : List ℕ) → equal_text parts x ++ rest ≡ line (equal_content parts (said_of x)) ++ (logs_text (logs_shown x) ++ rest)
equal_is parts (equal.Shown logs) rest = append_assoc (equal_line parts (equal.Shown logs)) (logs_text logs) rest
equal_is parts (equal.Conflicts part stepping log) rest =
    append_assoc (equal_line parts (equal.Conflicts part stepping log)) (log_text log) rest
    ∙ ap (λ (t : List ℕ). equal_line parts (equal.Conflicts part stepping log) ++ (t ++ rest)) (sym (flat_map-cons log_text log [] ∙ append-nil (log_text log)))

-- what follows the models in a value's text
pub behind_is : (e : Evidence) (rest : List ℕ) → equal_text (part_count e.b) e.equal ++ (entries_text 1 e.entries ++ rest) ≡ line (equal_content (part_count e.b) (said_of e.equal)) ++ (logs_text (logs_shown e.equal) ++ (entries_text 1 e.entries ++ rest))
behind_is e rest = equal_is (part_count e.b) e.equal (entries_text 1 e.entries ++ rest)

-- ---- from a value to what is due

abbrev tail_of : Equal → List Found → Tail
tail_of x entries = record { steps = []; logs = logs_shown x; rows = []; models = []; entries = entries }

tail_fits : (bounds : Bounds) (a b : Lll) (x : Equal) (entries : List Found) → EqualFits b x → EntriesFit a x entries → All (EntryFits bounds.depth a) entries
    → TailFits bounds a (due_of a (part_count b) (said_of x)) (tail_of x entries)
tail_fits bounds a b (equal.Shown logs) entries fits count each = record {
  step_count = refl;
  steps = All-nil IsStep;
  logs = fits;
  row_count = refl;
  rows = All-nil (RowLength bounds.inputs);
  model_count = refl;
  models = All-nil (RowLength bounds.variables);
  entry_count = count;
  entries = each;
}
tail_fits bounds a b (equal.Conflicts part stepping log) entries fits count each = record {
  step_count = refl;
  steps = All-nil IsStep;
  logs = record { long = refl; each = All-cons IsLog log [] fits.2 (All-nil IsLog) };
  row_count = refl;
  rows = All-nil (RowLength bounds.inputs);
  model_count = refl;
  models = All-nil (RowLength bounds.variables);
  entry_count = ap (λ (es : List Found). length es) count;
  entries = each;
}

pub rest_of_value : (bounds : Bounds) (a b : Lll) (x : Equal) (entries : List Found) → EqualFits b x → EntriesFit a x entries → All (EntryFits bounds.depth a) entries
    → IsRest bounds a (due_of a (part_count b) (said_of x)) (logs_text (logs_shown x) ++ (entries_text 1 entries ++ line (codes "end")))
rest_of_value bounds a b (equal.Shown logs) entries fits count each = record { tail = tail_of (equal.Shown logs) entries; fits = tail_fits bounds a b (equal.Shown logs) entries fits count each; spelled = refl }
rest_of_value bounds a b (equal.Conflicts part stepping log) entries fits count each =
    record { tail = tail_of (equal.Conflicts part stepping log) entries; fits = tail_fits bounds a b (equal.Conflicts part stepping log) entries fits count each; spelled = refl }

-- ---- from what is due to a value

-- what is shown of the parts and of the obligations
pub record Shows (bounds : Bounds) (a b : Lll) (said : EqualLine) (bytes : List ℕ) : Type 0 where
  pub equal : Equal
  pub entries : List Found
  pub said_is : said_of equal ≡ said
  pub equal_fits : EqualFits b equal
  pub entries_fit : EntriesFit a equal entries
  pub each_fits : All (EntryFits bounds.depth a) entries
  pub spelled : bytes ≡ logs_text (logs_shown equal) ++ (entries_text 1 entries ++ line (codes "end"))

shows_shown : (bounds : Bounds) (a b : Lll) (bytes : List ℕ) (t : Tail) → TailFits bounds a (due_of a (part_count b) says.Shown) t → bytes ≡ logs_text t.logs ++ (entries_text 1 t.entries ++ line (codes "end")) → Shows bounds a b says.Shown bytes
shows_shown bounds a b bytes t fits e = record {
  equal = equal.Shown t.logs;
  entries = t.entries;
  said_is = refl;
  equal_fits = fits.logs;
  entries_fit = fits.entry_count;
  each_fits = fits.entries;
  spelled = e;
}

shows_conflicts : (bounds : Bounds) (a b : Lll) (part : ℕ) (stepping : Bool) (bytes : List ℕ) (log : Log) (entries : List Found) → EqualLineFits (part_count b) (says.Conflicts part stepping) → IsLog log → entries ≡ [] → All (EntryFits bounds.depth a) entries
    → bytes ≡ logs_text (log ∷ []) ++ (entries_text 1 entries ++ line (codes "end")) → Shows bounds a b (says.Conflicts part stepping) bytes
shows_conflicts bounds a b part stepping bytes log entries fits is none each e = record {
  equal = equal.Conflicts part stepping log;
  entries = entries;
  said_is = refl;
  equal_fits = (fits.0, fits.1, is);
  entries_fit = none;
  each_fits = each;
  spelled = e;
}

empty_is : {X : Type 0} (xs : List X) → length xs ≡ 0 → xs ≡ []
empty_is [] e = refl
empty_is (x ∷ xs) e = absurd (omega (arith, e))

-- nothing stands before the logs, and nothing between the logs and the entries
without : (bounds : Bounds) (a : Lll) (due : Due) (t : Tail) → TailFits bounds a due t → due.steps ≡ 0 → due.rows ≡ 0 → due.model ≡ false → tail_text due.number t ≡ logs_text t.logs ++ (entries_text due.number t.entries ++ line (codes "end"))
without bounds a due t fits s r m =
    let after = entries_text due.number t.entries ++ line (codes "end") in
    let steps = empty_is t.steps (fits.step_count ∙ s) in
    let rows = empty_is t.rows (fits.row_count ∙ r) in
    let models = empty_is t.models (fits.model_count ∙ ap (λ (v : Bool). if v then 1 else 0) m) in
    ap (λ (x : List Step). flat_map step_line x ++ (logs_text t.logs ++ (rows_text t.rows ++ (models_text t.models ++ after)))) steps
    ∙ ap (λ (x : List (List Bool)). logs_text t.logs ++ (rows_text x ++ (models_text t.models ++ after))) rows
    ∙ ap (λ (x : List (List Bool)). logs_text t.logs ++ (models_text x ++ after)) models

one_log : (bounds : Bounds) (a b : Lll) (part : ℕ) (stepping : Bool) (bytes : List ℕ) (logs : List Log) (entries : List Found) → EqualLineFits (part_count b) (says.Conflicts part stepping) → AreLogs 1 logs → entries ≡ [] → All (EntryFits bounds.depth a) entries
    → bytes ≡ logs_text logs ++ (entries_text 1 entries ++ line (codes "end")) → Shows bounds a b (says.Conflicts part stepping) bytes
one_log bounds a b part stepping bytes [] entries fits are none each e = absurd (omega (arith, are.long))
one_log bounds a b part stepping bytes (log ∷ []) entries fits are none each e = shows_conflicts bounds a b part stepping bytes log entries fits (All-head IsLog log [] are.each) none each e
one_log bounds a b part stepping bytes (log ∷ next ∷ logs) entries fits are none each e = absurd (omega (arith, are.long))

pub shows : (bounds : Bounds) (a b : Lll) (said : EqualLine) (bytes : List ℕ) → EqualLineFits (part_count b) said → IsRest bounds a (due_of a (part_count b) said) bytes → Shows bounds a b said bytes
shows bounds a b says.Shown bytes fits r = shows_shown bounds a b bytes r.tail r.fits (r.spelled ∙ without bounds a (due_of a (part_count b) says.Shown) r.tail r.fits refl refl refl)
shows bounds a b (says.Conflicts part stepping) bytes fits r =
    one_log bounds a b part stepping bytes r.tail.logs r.tail.entries fits r.fits.logs (empty_is r.tail.entries r.fits.entry_count) r.fits.entries
    (r.spelled ∙ without bounds a (due_of a (part_count b) (says.Conflicts part stepping)) r.tail r.fits refl refl refl)
