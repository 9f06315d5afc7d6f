-- The lines that are read, before what is due: some value's text goes on so, and each whose text does shows what they show.
use Rattle.std.proofs.Common.{◌≡◌, ℕ, zero, suc, ◌+◌, ◌*◌, ◌<◌, Bool, List, [], ◌∷◌, ◌++◌, length, refl, sym, ap, subst, ◌∙◌, append_assoc, length-append, arith, if◌then◌else◌}
use Rattle.std.specs.Prelude.{codes, All}
use Rattle.std.specs.List.{flat_map}
use Rattle.std.proofs.lemmas.List.{append-nil}
use Rattle.std.proofs.lemmas.List.Concat.{flat_map-cons, flat_map-append}
use Rattle.std.proofs.lemmas.List.Elements.{All-cons, All-append, All-head}
use Rattle.lll_core.specs.declared.lll.Lll.{Lll}
use Rattle.lll_text.specs.Spelling.{line, number_field}
use Rattle.rup_checker.specs.declared.log.Log.{Log}
use Rattle.rup_checker.specs.declared.log.Step.{Step}
use Rattle.kinduction.specs.declared.equal.Equal.{Equal}
use Rattle.kinduction.specs.declared.equal.Equal.TheVariants as equal
use Rattle.kinduction.specs.declared.found.Found.{Found}
use Rattle.evidence.specs.declared.evidence.Evidence.{Evidence}
use Rattle.evidence.specs.declared.reader_due.Bounds.{Bounds}
use Rattle.evidence.specs.declared.reader_due.Due.{Due}
use Rattle.evidence.specs.declared.reader_lines.EqualLine.{EqualLine}
use Rattle.evidence.specs.declared.reader_lines.EqualLine.TheVariants as says
use Rattle.evidence.specs.ByLines.{said_of, logs_shown, log_count}
use Rattle.evidence.specs.Counts.{IsStep, IsLog, EqualFits, EntriesFit, EntryFits, HasText, IsTextOf}
use Rattle.evidence.specs.Readers.{EqualLineFits, VerdictFits, equal_content, verdict_content}
use Rattle.evidence.specs.Rests.{Tail, TailFits, IsRest, tail_text, rows_text, models_text}
use Rattle.evidence.specs.Spelling.{number_line, step_line, bits_line, log_text, logs_text, part_count, equal_text, entry_text, entries_text, models_text as both_models_text, text}
use Rattle.evidence.specs.Shown.{Header, OpenEntry, Shown, Parts, Entry, BeginsSo, header_text, shown_text, open_text}
use Rattle.evidence.specs.Judging.{open_logs, logs_after, entries_after, IsDueInParts, IsDueInEntry, IsDueAfter, HasBounds, EntryFitsSoFar, FitSoFar, StepsFit}
use Rattle.evidence.proofs.EqualLine.{behind_is}
use Rattle.evidence.proofs.FoundMade.{made_text}
use Rattle.evidence.proofs.FoundParts.{AreBoundsOf, PartsFit, made_of}
use Rattle.evidence.proofs.OneValue.{one_value}

-- ---- the log that is open

closed_logs : ℕ → List Step → Tail → List Log
closed_logs zero steps tail = tail.logs
closed_logs (suc left) steps tail = record { steps = steps ++ tail.steps } ∷ tail.logs

closed_count : (left : ℕ) (steps : List Step) (tail : Tail) → length (closed_logs left steps tail) ≡ length tail.logs + open_logs left
unfolding closed_logs
closed_count zero steps tail = omega arith
closed_count (suc left) steps tail = omega arith

closed_fit : (left : ℕ) (steps : List Step) (tail : Tail) → length tail.steps ≡ left → All IsStep tail.steps → All IsLog tail.logs → StepsFit left steps → All IsLog (closed_logs left steps tail)
unfolding closed_logs
closed_fit zero steps tail count each logs fit = logs
closed_fit (suc left) steps tail count each logs fit = All-cons IsLog (record { steps = steps ++ tail.steps }) tail.logs (record {
  count = omega (arith, length-append steps tail.steps, count, fit.count);
  steps = All-append IsStep steps tail.steps fit.each each;
}) logs

-- no item is there
none_there : {X : Type 0} (xs : List X) → length xs ≡ 0 → xs ≡ []
none_there [] e = refl
none_there (x ∷ xs) e = absurd (omega (arith, e))

closed_text : (left : ℕ) (steps : List Step) (tail : Tail) (after : List ℕ) → length tail.steps ≡ left → open_text left steps ++ (flat_map step_line tail.steps ++ (logs_text tail.logs ++ after)) ≡ logs_text (closed_logs left steps tail) ++ after
unfolding closed_logs
closed_text zero steps tail after count = ap (λ (ss : List Step). flat_map step_line ss ++ (logs_text tail.logs ++ after)) (none_there tail.steps count)
closed_text (suc left) steps tail after count =
    let log : Log = record { steps = steps ++ tail.steps } in
    let head = number_line (codes "log") (length steps + suc left) in
    let long : length steps + suc left ≡ length (steps ++ tail.steps) = omega (arith, length-append steps tail.steps, count) in
    append_assoc head (flat_map step_line steps) (flat_map step_line tail.steps ++ (logs_text tail.logs ++ after))
    ∙ ap (λ (t : List ℕ). head ++ t) (sym (append_assoc (flat_map step_line steps) (flat_map step_line tail.steps) (logs_text tail.logs ++ after))
    ∙ ap (λ (t : List ℕ). t ++ (logs_text tail.logs ++ after)) (sym (flat_map-append step_line steps tail.steps)))
    ∙ ap (λ n. number_line (codes "log") n ++ (flat_map step_line (steps ++ tail.steps) ++ (logs_text tail.logs ++ after))) long
    ∙ sym (append_assoc (number_line (codes "log") (length log.steps)) (flat_map step_line log.steps) (logs_text tail.logs ++ after))
    ∙ sym (append_assoc (log_text log) (logs_text tail.logs) after) ∙ ap (λ (t : List ℕ). t ++ after) (sym (flat_map-cons log_text log tail.logs))

-- ---- a value that goes on so

-- the value, which shows what is shown
pub record GoesOnSo (h : Header) (s : Shown) (bytes : List ℕ) : Type 0 where
  pub value : Evidence
  pub fits : HasText value
  pub begins : BeginsSo h s value
  pub spelled : text value ≡ bytes

-- what is said of the parts, by logs
record EqualMade (b : Lll) (said : EqualLine) (logs : List Log) : Type 0 where
  equal : Equal
  said_is : said_of equal ≡ said
  logs_are : logs_shown equal ≡ logs
  fits : EqualFits b equal

equal_made : (h : Header) (said : EqualLine) (logs : List Log) → EqualLineFits (part_count h.b) said → length logs ≡ logs_after h said → All IsLog logs → EqualMade h.b said logs
equal_made h says.Shown logs fits count each = record { equal = equal.Shown logs; said_is = refl; logs_are = refl; fits = record { long = count; each = each } }
equal_made h (says.Conflicts part stepping) [] fits count each = absurd (omega (arith, count))
equal_made h (says.Conflicts part stepping) (log ∷ []) fits count each = record { equal = equal.Conflicts part stepping log; said_is = refl; logs_are = refl; fits = (fits.0, fits.1, All-head IsLog log [] each) }
equal_made h (says.Conflicts part stepping) (log ∷ next ∷ logs) fits count each = absurd (omega (arith, count))

entries_made : (h : Header) (said : EqualLine) (shown : Equal) (entries : List Found) → said_of shown ≡ said → length entries ≡ entries_after h said → EntriesFit h.a shown entries
entries_made h said (equal.Shown logs) entries same count = count ∙ ap (entries_after h) (sym same)
entries_made h said (equal.Conflicts part stepping log) entries same count = none_there entries (count ∙ ap (entries_after h) (sym same))

text_apart : (e : Evidence) → text e ≡ both_models_text e ++ (equal_text (part_count e.b) e.equal ++ (entries_text 1 e.entries ++ line (codes "end")))
text_apart e =
    append_assoc (both_models_text e ++ equal_text (part_count e.b) e.equal) (entries_text 1 e.entries) (line (codes "end"))
    ∙ append_assoc (both_models_text e) (equal_text (part_count e.b) e.equal) (entries_text 1 e.entries ++ line (codes "end"))

parts_on : (h : Header) (said : EqualLine) (logs : List Log) (left : ℕ) (steps : List Step) (bounds : Bounds) (due : Due) (tail : Tail) → HasBounds h → bounds.depth ≡ h.depth → due.steps ≡ left → IsDueInParts h said logs (open_logs left) due
    → All IsLog logs → StepsFit left steps → TailFits bounds h.a due tail → GoesOnSo h (Parts said logs) ((shown_text h (Parts said logs) ++ open_text left steps) ++ tail_text due.number tail)
parts_on h said logs left steps bounds due tail hb depth lacks is each fit t =
    let more = closed_logs left steps tail in
    let count : length tail.steps ≡ left = t.step_count ∙ lacks in
    let long : length (logs ++ more) ≡ logs_after h said = length-append logs more ∙ omega (arith, closed_count left steps tail, t.logs.long, is.logs_due) in
    let made = equal_made h said (logs ++ more) is.fits long (All-append IsLog logs more each (closed_fit left steps tail count t.steps t.logs.each fit)) in
    let e : Evidence = record { depth = h.depth; conflicts = h.conflicts; a = h.a; b = h.b; equal = made.equal; entries = tail.entries } in
    let end = entries_text 1 tail.entries ++ line (codes "end") in
    let front = header_text h ++ line (equal_content (part_count h.b) said) in
    let no_rows = none_there tail.rows (t.row_count ∙ is.rows_due) in
    let no_models = none_there tail.models (t.model_count ∙ ap (λ (b : Bool). if b then 1 else 0) is.model_due) in
    let rest : tail_text due.number tail ≡ flat_map step_line tail.steps ++ (logs_text tail.logs ++ end) =
    ap (λ n. tail_text n tail) is.number
    ∙ ap (λ (rs : List (List Bool)). flat_map step_line tail.steps ++ (logs_text tail.logs ++ (rows_text rs ++ (models_text tail.models ++ end)))) no_rows
    ∙ ap (λ (ms : List (List Bool)). flat_map step_line tail.steps ++ (logs_text tail.logs ++ (models_text ms ++ end))) no_models in
    record {
      value = e;
      fits = record {
        some_depth = hb.some_depth;
        depth_bound = hb.depth_bound;
        some_conflicts = hb.some_conflicts;
        conflicts_bound = hb.conflicts_bound;
        equal_fits = made.fits;
        entries_fit = entries_made h said made.equal tail.entries made.said_is (t.entry_count ∙ is.entries_due);
        each_fits = subst (λ d. All (EntryFits d h.a) tail.entries) depth t.entries;
      };
      begins = record {
        header = refl;
        rest = record { logs = more; rows = []; models = []; entries = tail.entries };
        shows = record { said_is = made.said_is; logs_are = made.logs_are; entries_are = refl };
      };
      spelled = text_apart e ∙ ap (λ (t : List ℕ). header_text h ++ t) (behind_is e (line (codes "end")))
          ∙ sym (append_assoc (header_text h) (line (equal_content (part_count h.b) (said_of made.equal))) (logs_text (logs_shown made.equal) ++ end))
          ∙ ap (λ (q : EqualLine). (header_text h ++ line (equal_content (part_count h.b) q)) ++ (logs_text (logs_shown made.equal) ++ end)) made.said_is
          ∙ ap (λ (ls : List Log). front ++ (logs_text ls ++ end)) made.logs_are ∙ ap (λ (t : List ℕ). front ++ (t ++ end)) (flat_map-append log_text logs more)
          ∙ ap (λ (t : List ℕ). front ++ t) (append_assoc (logs_text logs) (logs_text more) end ∙ ap (λ (t : List ℕ). logs_text logs ++ t) (sym (closed_text left steps tail end count) ∙ ap (λ (t : List ℕ). open_text left steps ++ t) (sym rest)))
          ∙ sym (append_assoc front (logs_text logs) (open_text left steps ++ tail_text due.number tail)) ∙ sym (append_assoc (front ++ logs_text logs) (open_text left steps) (tail_text due.number tail));
    }

regrouped : (f l a b c o t : List ℕ) → (((((f ++ l) ++ a) ++ b) ++ c) ++ o) ++ t ≡ f ++ (l ++ (a ++ (b ++ (c ++ (o ++ t)))))
regrouped f l a b c o t = simp append_assoc

-- the text of the open entry, with what is to come
joined : (g d x n z : List ℕ) → g ++ ((d ++ (x ++ n)) ++ z) ≡ (g ++ d) ++ (x ++ (n ++ z))
joined g d x n z = simp append_assoc

entries_apart : (n : ℕ) (xs : List Found) (x : Found) (ys : List Found) → entries_text n (xs ++ x ∷ ys) ≡ entries_text n xs ++ (entry_text (n + length xs) x ++ entries_text (n + length xs + 1) ys)
entries_apart n [] x ys =
    let e : n ≡ n + 0 = omega arith in
    ap (λ (k : ℕ). entry_text k x ++ entries_text (k + 1) ys) e
entries_apart n (y ∷ xs) x ys =
    let e : n + 1 + length xs ≡ n + length (y ∷ xs) = omega arith in
    ap (λ (t : List ℕ). entry_text n y ++ t) (entries_apart (n + 1) xs x ys)
    ∙ sym (append_assoc (entry_text n y) (entries_text (n + 1) xs) (entry_text (n + 1 + length xs) x ++ entries_text (n + 1 + length xs + 1) ys))
    ∙ ap (λ (k : ℕ). (entry_text n y ++ entries_text (n + 1) xs) ++ (entry_text k x ++ entries_text (k + 1) ys)) e

-- the lines after the logs so far, where no row or assignment came before a log that is open
rows_apart : (left : ℕ) (steps : List Step) (tail : Tail) (rows models : List (List Bool)) (end : List ℕ) → length tail.steps ≡ left
    → (0 < length (closed_logs left steps tail) → (rows ≡ []) × (models ≡ [])) → (0 < length tail.rows → models ≡ [])
    → rows_text rows ++ (models_text models ++ (open_text left steps ++ (flat_map step_line tail.steps ++ (logs_text tail.logs ++ (rows_text tail.rows ++ (models_text tail.models ++ end))))))
    ≡ logs_text (closed_logs left steps tail) ++ (rows_text (rows ++ tail.rows) ++ (models_text (models ++ tail.models) ++ end))
rows_apart left steps tail rows models end count first later =
    let ls = closed_logs left steps tail in
    let more = rows_text tail.rows ++ (models_text tail.models ++ end) in
    ap (λ (t : List ℕ). rows_text rows ++ (models_text models ++ t)) (closed_text left steps tail more count) ∙ by ls first
  where
    split_rows : (rs qs ms ns : List (List Bool)) → (0 < length qs → ms ≡ []) → rows_text rs ++ (models_text ms ++ (rows_text qs ++ (models_text ns ++ end))) ≡ rows_text (rs ++ qs) ++ (models_text (ms ++ ns) ++ end)
    split_rows rs [] ms ns later =
        ap (λ (t : List ℕ). rows_text rs ++ t) (sym (append_assoc (models_text ms) (models_text ns) end) ∙ ap (λ (t : List ℕ). t ++ end) (sym (flat_map-append (bits_line (codes "model:")) ms ns)))
        ∙ ap (λ (qs : List (List Bool)). rows_text qs ++ (models_text (ms ++ ns) ++ end)) (sym (append-nil rs))
    split_rows rs (q ∷ qs) ms ns later =
        let none : ms ≡ [] = later (omega arith) in
        ap (λ (xs : List (List Bool)). rows_text rs ++ (models_text xs ++ (rows_text (q ∷ qs) ++ (models_text ns ++ end)))) none
        ∙ sym (append_assoc (rows_text rs) (rows_text (q ∷ qs)) (models_text ns ++ end)) ∙ ap (λ (t : List ℕ). t ++ (models_text ns ++ end)) (sym (flat_map-append (bits_line (codes "bits:")) rs (q ∷ qs)))
        ∙ ap (λ (xs : List (List Bool)). rows_text (rs ++ q ∷ qs) ++ (models_text (xs ++ ns) ++ end)) (sym none)

    by : (ls : List Log) → (0 < length ls → (rows ≡ []) × (models ≡ [])) → rows_text rows ++ (models_text models ++ (logs_text ls ++ (rows_text tail.rows ++ (models_text tail.models ++ end))))
        ≡ logs_text ls ++ (rows_text (rows ++ tail.rows) ++ (models_text (models ++ tail.models) ++ end))
    by [] first = split_rows rows tail.rows models tail.models later
    by (l ∷ ls) first =
        let none = first (omega arith) in
        ap (λ (rs : List (List Bool)). rows_text rs ++ (models_text models ++ (logs_text (l ∷ ls) ++ (rows_text tail.rows ++ (models_text tail.models ++ end))))) none.0
        ∙ ap (λ (ms : List (List Bool)). models_text ms ++ (logs_text (l ∷ ls) ++ (rows_text tail.rows ++ (models_text tail.models ++ end)))) none.1
        ∙ ap (λ (rs : List (List Bool)). logs_text (l ∷ ls) ++ (rows_text (rs ++ tail.rows) ++ (models_text tail.models ++ end))) (sym none.0)
        ∙ ap (λ (ms : List (List Bool)). logs_text (l ∷ ls) ++ (rows_text (rows ++ tail.rows) ++ (models_text (ms ++ tail.models) ++ end))) (sym none.1)

entry_on : (h : Header) (o : OpenEntry) (left : ℕ) (steps : List Step) (bounds : Bounds) (due : Due) (tail : Tail) → HasBounds h → AreBoundsOf bounds h.a → bounds.depth ≡ h.depth → due.steps ≡ left → IsDueInEntry h o (open_logs left) due
    → EntryFitsSoFar h o → StepsFit left steps → TailFits bounds h.a due tail → GoesOnSo h (Entry o) ((shown_text h (Entry o) ++ open_text left steps) ++ tail_text due.number tail)
entry_on h o left steps bounds due tail hb of depth lacks is fits fit t =
    let more = closed_logs left steps tail in
    let ls = o.logs ++ more in
    let rs = o.rows ++ tail.rows in
    let ms = o.models ++ tail.models in
    let n = length o.done + 1 in
    let Row = λ (r : List Bool). length r ≡ bounds.inputs in
    let Values = λ (r : List Bool). length r ≡ bounds.variables in
    let count : length tail.steps ≡ left = t.step_count ∙ lacks in
    let many = closed_count left steps tail in
    let variables : bounds.variables ≡ (h.depth + 1) * length h.a.signals = of.variables ∙ ap (λ d. (d + 1) * length h.a.signals) depth in
    let parts : PartsFit bounds o.verdict ls rs ms = record {
      verdict = subst (λ d. VerdictFits d o.verdict) (sym depth) is.fits;
      logs = record {
        long = length-append o.logs more ∙ omega (arith, many, t.logs.long, is.logs_due) ∙ ap (λ d. log_count d o.verdict) (sym depth);
        each = All-append IsLog o.logs more fits.logs_fit (closed_fit left steps tail count t.steps t.logs.each fit);
      };
      row_count = length-append o.rows tail.rows ∙ omega (arith, t.row_count, is.rows_due);
      rows = All-append Row o.rows tail.rows (subst (λ k. All (λ (r : List Bool). length r ≡ k) o.rows) (sym of.inputs) fits.rows_fit) t.rows;
      model_count = length-append o.models tail.models ∙ omega (arith, t.model_count, is.models_due);
      models = All-append Values o.models tail.models (subst (λ k. All (λ (r : List Bool). length r ≡ k) o.models) (sym variables) fits.models_fit) t.models;
    } in
    let made = made_of bounds h.a o.verdict ls rs ms of parts in
    let x = made.entry in
    let entries = o.done ++ x ∷ tail.entries in
    let e : Evidence = record { depth = h.depth; conflicts = h.conflicts; a = h.a; b = h.b; equal = o.equal; entries = entries } in
    let Fits = EntryFits h.depth h.a in
    let head = line (codes "entry" ++ number_field n ++ verdict_content o.verdict) in
    let g = header_text h in
    let q = equal_text (part_count h.b) o.equal in
    let z = line (codes "end") in
    let after = entries_text (n + 1) tail.entries ++ z in
    let k : 1 + length o.done ≡ n = omega arith in
    let next : due.number ≡ n + 1 = omega (arith, is.number) in
    let x_text : entry_text n x ≡ ((head ++ logs_text ls) ++ rows_text rs) ++ models_text ms = made_text n o.verdict ls rs ms x (record { verdict = made.verdict_is; logs_are = made.logs_are; rows_are = made.rows_are; models_are = made.models_are }) in
    record {
      value = e;
      fits = record {
        some_depth = hb.some_depth;
        depth_bound = hb.depth_bound;
        some_conflicts = hb.some_conflicts;
        conflicts_bound = hb.conflicts_bound;
        equal_fits = fits.equal_fits;
        entries_fit = entries_made h says.Shown o.equal entries is.shown (length-append o.done (x ∷ tail.entries) ∙ omega (arith, t.entry_count, is.entries_due));
        each_fits = All-append Fits o.done (x ∷ tail.entries) fits.done_fit (All-cons Fits x tail.entries (subst (λ d. EntryFits d h.a x) depth made.fits) (subst (λ d. All (EntryFits d h.a) tail.entries) depth t.entries));
      };
      begins = record {
        header = refl;
        rest = record { logs = more; rows = tail.rows; models = tail.models; entries = tail.entries };
        shows = record { equal_is = refl; entry = x; entries_are = refl; is_open = record { verdict = made.verdict_is; logs = made.logs_are; rows = made.rows_are; models = made.models_are } };
      };
      spelled = text_apart e ∙ ap (λ (s : List ℕ). g ++ (q ++ (s ++ z))) (entries_apart 1 o.done x tail.entries ∙ ap (λ (i : ℕ). entries_text 1 o.done ++ (entry_text i x ++ entries_text (i + 1) tail.entries)) k)
          ∙ regroup_entry g q (entries_text 1 o.done) (entry_text n x) (entries_text (n + 1) tail.entries) z ∙ ap (λ (s : List ℕ). (g ++ q ++ entries_text 1 o.done) ++ (s ++ after)) x_text
          ∙ regroup_parts (g ++ q ++ entries_text 1 o.done) head (logs_text o.logs ++ logs_text more) (logs_text ls) (rows_text rs) (models_text ms) after (flat_map-append log_text o.logs more)
          ∙ ap (λ (s : List ℕ). (g ++ q ++ entries_text 1 o.done) ++ (head ++ s)) (append_assoc (logs_text o.logs) (logs_text more) (rows_text rs ++ (models_text ms ++ after))
          ∙ ap (λ (s : List ℕ). logs_text o.logs ++ s) (sym (rows_apart left steps tail o.rows o.models after count
          (λ some. is.logs_first (omega (arith, some, many, t.logs.long))) (λ some. is.rows_first (omega (arith, some, t.row_count))))))
          ∙ sym (regrouped (g ++ q ++ entries_text 1 o.done) head (logs_text o.logs) (rows_text o.rows) (models_text o.models) (open_text left steps) (tail_text (n + 1) tail))
          ∙ ap (λ i. (shown_text h (Entry o) ++ open_text left steps) ++ tail_text i tail) (sym next);
    }
  where
    regroup_entry : (g q d x n z : List ℕ) → g ++ (q ++ ((d ++ (x ++ n)) ++ z)) ≡ ((g ++ q) ++ d) ++ (x ++ (n ++ z))
    regroup_entry g q d x n z = simp append_assoc

    regroup_parts : (f l both all b c t : List ℕ) → all ≡ both → f ++ ((((l ++ all) ++ b) ++ c) ++ t) ≡ f ++ (l ++ (both ++ (b ++ (c ++ t))))
    regroup_parts f l both all b c t same = ap (λ (s : List ℕ). f ++ ((((l ++ s) ++ b) ++ c) ++ t)) same ∙ simp append_assoc

-- some value's text goes on with each rest that is due, and shows what is shown
pub goes_on : (h : Header) (s : Shown) (left : ℕ) (steps : List Step) (bounds : Bounds) (due : Due) (more : List ℕ) → HasBounds h → AreBoundsOf bounds h.a → bounds.depth ≡ h.depth → IsDueAfter h s left due → FitSoFar h s → StepsFit left steps
    → IsRest bounds h.a due more → GoesOnSo h s ((shown_text h s ++ open_text left steps) ++ more)
goes_on h (Parts said logs) left steps bounds due more hb of depth is fits fit r =
    subst (λ (t : List ℕ). GoesOnSo h (Parts said logs) ((shown_text h (Parts said logs) ++ open_text left steps) ++ t)) (sym r.spelled) (parts_on h said logs left steps bounds due r.tail hb depth is.steps_due is.there fits fit r.fits)
goes_on h (Entry o) left steps bounds due more hb of depth is fits fit r =
    subst (λ (t : List ℕ). GoesOnSo h (Entry o) ((shown_text h (Entry o) ++ open_text left steps) ++ t)) (sym r.spelled) (entry_on h o left steps bounds due r.tail hb of depth is.steps_due is.there fits fit r.fits)

-- so each value whose text goes on with such a rest shows what is shown
pub shows_so : (h : Header) (s : Shown) (left : ℕ) (steps : List Step) (bounds : Bounds) (due : Due) (more : List ℕ) → HasBounds h → AreBoundsOf bounds h.a → bounds.depth ≡ h.depth → IsDueAfter h s left due → FitSoFar h s → StepsFit left steps
    → IsRest bounds h.a due more → (e : Evidence) → IsTextOf ((shown_text h s ++ open_text left steps) ++ more) e → BeginsSo h s e
shows_so h s left steps bounds due more hb of depth is fits fit r e text =
    let on = goes_on h s left steps bounds due more hb of depth is fits fit r in
    let bytes = (shown_text h s ++ open_text left steps) ++ more in
    subst (BeginsSo h s) (one_value bytes on.value e (record { fits = on.fits; spelled = sym on.spelled }) text) on.begins
