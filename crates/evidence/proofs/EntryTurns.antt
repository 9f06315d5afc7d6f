-- An entry more, and the end: what holds then, and what is refused.
use Rattle.std.proofs.Common.{◌≡◌, ℕ, ◌+◌, ◌*◌, ◌<◌, Bool, false, List, [], ◌∷◌, ◌++◌, length, slice_get, refl, sym, ap, subst, ◌∙◌, append_assoc, length-append, arith, if◌then◌else◌}
use Rattle.std.specs.Prelude.{IsSomeAnd, codes}
use Rattle.std.proofs.lemmas.List.{append-nil}
use Rattle.lll_core.specs.declared.lll.Lll.{Lll}
use Rattle.lll_text.specs.Spelling.{line, number_field}
use Rattle.miter.specs.declared.parts.MiterLll.{MiterLll}
use Rattle.rup_checker.specs.declared.log.Log.{Log}
use Rattle.kinduction.specs.declared.equal.Equal.{Equal}
use Rattle.kinduction.specs.declared.equal.Equal.TheVariants as equal
use Rattle.kinduction.specs.declared.found.Found.{Found}
use Rattle.kinduction.specs.declared.found.Found.TheVariants as found
use Rattle.kinduction.specs.declared.found.Spot.TheVariants as spot
use Rattle.kinduction.specs.Parts.{part_formula}
use Rattle.evidence.specs.declared.evidence.Evidence.{Evidence}
use Rattle.evidence.specs.declared.fault.Cause.TheVariants as cause
use Rattle.evidence.specs.declared.reader_due.Due.{Due}
use Rattle.evidence.specs.declared.reader_lines.EqualLine.{EqualLine}
use Rattle.evidence.specs.declared.reader_lines.EqualLine.TheVariants as says
use Rattle.evidence.specs.declared.reader_lines.Verdict.{Verdict}
use Rattle.evidence.specs.Accepted.{IsSmallFormula, entry_instants, IsSpentLog, IsAcceptedEntry, Accepted}
use Rattle.evidence.specs.ByLines.{said_of, logs_shown, verdict_of, logs_of, rows_of, models_of, log_count, rows_due, has_model}
use Rattle.evidence.specs.Counts.{EqualFits, EntriesFit, EntryFits, HasText}
use Rattle.evidence.specs.Claims.{IsFirstOf, IsAcceptedEqual, AreAcceptedEntries}
use Rattle.evidence.specs.LogClaims.{verdict_instants}
use Rattle.evidence.specs.Readers.{equal_content, verdict_content}
use Rattle.evidence.specs.Refusals.{line_after, Fails}
use Rattle.evidence.specs.Rests.{rows_text, models_text}
use Rattle.evidence.specs.Spelling.{logs_text, part_count, equal_text, entry_text, entries_text}
use Rattle.evidence.specs.Shown.{Header, OpenEntry, Shown, Parts, Entry, Rest, header_of, IsOpen, ShowsParts, ShowsEntry, BeginsSo, header_text, entry_front, shown_text, equal_of, found_of, with_entry}
use Rattle.evidence.specs.Judging.{PartsHold, EntryHoldsSoFar, HoldSoFar, IsRefused, IsDueInParts, IsDueInEntry, IsDueIn, logs_after}
use Rattle.evidence.proofs.EntryLemmas.{entry_large}
use Rattle.evidence.proofs.EqualLemmas.{show_parts}
use Rattle.evidence.proofs.FoundMade.{AreCounted, IsMade, is_made, made_same, made_text, made_accepted}
use Rattle.evidence.proofs.JudgeLemmas.{all_accepted}
use Rattle.evidence.proofs.JudgingTurns.{Facts, short_entries, entry_fails, fits, small_number}
use Rattle.evidence.proofs.ListPlaces.{whole, each_more}
use Rattle.evidence.proofs.PartCount.{parts_counted}
use Rattle.evidence.proofs.Refused.{instants_same, entry_fits}

-- ---- the parts are whole

equal_holds_at : (b : Lll) (m : MiterLll) (h : Header) (shown : Equal) (logs more : List Log) → EqualFits b shown → length m.parts ≡ part_count b → h.b ≡ b → logs_shown shown ≡ logs ++ more → length logs ≡ logs_after h (said_of shown) → PartsHold h m (said_of shown) logs
    → IsAcceptedEqual m h.conflicts shown
equal_holds_at b m h (equal.Shown all) logs more fit count same are long hold =
    let parts : part_count h.b ≡ part_count b = ap part_count same in
    let logs_are : all ≡ logs = whole all logs more are (omega (arith, long, fit.long, parts)) in
    subst (λ (ls : List Log). IsAcceptedEqual m h.conflicts (equal.Shown ls)) (sym logs_are) (record { small = hold.small; holds = show_parts m logs (omega (arith, long, parts, count)) hold.logs_hold })
equal_holds_at b m h (equal.Conflicts part stepping log) logs more fit count same are long hold =
    let logs_are : log ∷ [] ≡ logs = whole (log ∷ []) logs more are long in
    let f = part_formula m part stepping in
    record { small = hold.small; holds = subst (λ (ls : List Log). IsSomeAnd (slice_get ls 0) (λ l. IsSpentLog f h.conflicts l)) (sym logs_are) (hold.logs_hold 0 (omega (arith, long))) }

-- what is shown of the parts by these logs
shown_whole : (h : Header) (m : MiterLll) (logs : List Log) → length m.parts ≡ part_count h.b → length logs ≡ 2 * part_count h.b → PartsHold h m says.Shown logs → IsAcceptedEqual m h.conflicts (equal.Shown logs)
shown_whole h m logs count long hold = record { small = hold.small; holds = show_parts m logs (omega (arith, long, count)) hold.logs_hold }

-- ---- the open entry is whole

pub counted : (h : Header) (o : OpenEntry) (due : Due) → IsDueInEntry h o 0 due → due.logs ≡ 0 → due.rows ≡ 0 → due.model ≡ false → AreCounted h.depth o.verdict o.logs o.rows o.models
counted h o due is logs rows model =
    let models : (if false then 1 else 0) + length o.models ≡ (if has_model o.verdict then 1 else 0) = ap (λ (b : Bool). (if b then 1 else 0) + length o.models) (sym model) ∙ is.models_due in
    record {
      verdict = is.fits;
      logs_count = omega (arith, logs, is.logs_due);
      rows_count = omega (arith, rows, is.rows_due);
      models_count = omega (arith, models);
    }

pub open_accepted : (h : Header) (m : MiterLll) (o : OpenEntry) → AreCounted h.depth o.verdict o.logs o.rows o.models → EntryHoldsSoFar h m o → IsAcceptedEntry h.a (length o.done) h.depth h.conflicts (found_of o.verdict o.logs o.rows o.models)
open_accepted h m o c hold = made_accepted h.a (length o.done) h.depth h.conflicts o.verdict o.logs o.rows o.models c hold.small hold.logs_hold hold.rows_hold hold.models_hold

-- ---- the next entry

abbrev pub next_open : Shown → Verdict → OpenEntry
next_open (Parts said logs) v = record { equal = equal_of said logs; done = []; verdict = v; logs = []; rows = []; models = [] }
next_open (Entry o) v = record { equal = o.equal; done = o.done ++ found_of o.verdict o.logs o.rows o.models ∷ []; verdict = v; logs = []; rows = []; models = [] }

-- all before it holds
pub record IsReady (h : Header) (m : MiterLll) (s : Shown) (v : Verdict) : Type 0 where
  pub equal_holds : IsAcceptedEqual m h.conflicts (next_open s v).equal
  pub done_hold : (p : ℕ) → p < length (next_open s v).done → IsSomeAnd (slice_get (next_open s v).done p) (IsAcceptedEntry h.a p h.depth h.conflicts)
  pub front : shown_text h s ≡ entry_front h (next_open s v)
  pub number : length (next_open s v).done < length h.a.obligations

entries_more : (n : ℕ) (xs : List Found) (x : Found) → entries_text n (xs ++ x ∷ []) ≡ entries_text n xs ++ entry_text (n + length xs) x
entries_more n [] x = append-nil (entry_text n x) ∙ ap (λ (k : ℕ). entry_text k x) (let e : n ≡ n + 0 = omega arith in e)
entries_more n (y ∷ xs) x =
    ap (λ (t : List ℕ). entry_text n y ++ t) (entries_more (n + 1) xs x) ∙ sym (append_assoc (entry_text n y) (entries_text (n + 1) xs) (entry_text (n + 1 + length xs) x))
    ∙ ap (λ (k : ℕ). (entry_text n y ++ entries_text (n + 1) xs) ++ entry_text k x) (let e : n + 1 + length xs ≡ n + length (y ∷ xs) = omega arith in e)

regrouped : (g d l a b c : List ℕ) → ((((g ++ d) ++ l) ++ a) ++ b) ++ c ≡ g ++ (d ++ (((l ++ a) ++ b) ++ c))
regrouped g d l a b c = simp append_assoc

pub open_front : (h : Header) (o : OpenEntry) → AreCounted h.depth o.verdict o.logs o.rows o.models → (v : Verdict) → shown_text h (Entry o) ≡ entry_front h (next_open (Entry o) v)
open_front h o c v =
    let g = header_text h ++ equal_text (part_count h.b) o.equal in
    let n = length o.done + 1 in
    let head = line (codes "entry" ++ number_field n ++ verdict_content o.verdict) in
    let made = found_of o.verdict o.logs o.rows o.models in
    let text = made_text n o.verdict o.logs o.rows o.models made (is_made h.depth o.verdict o.logs o.rows o.models c) in
    let k : n ≡ 1 + length o.done = omega arith in
    regrouped g (entries_text 1 o.done) head (logs_text o.logs) (rows_text o.rows) (models_text o.models)
    ∙ ap (λ (t : List ℕ). g ++ (entries_text 1 o.done ++ t)) (sym text ∙ ap (λ (i : ℕ). entry_text i made) k) ∙ ap (λ (t : List ℕ). g ++ t) (sym (entries_more 1 o.done made))

parts_ready : (h : Header) (m : MiterLll) (said : EqualLine) (logs : List Log) (due : Due) (v : Verdict) → length m.parts ≡ part_count h.b → PartsHold h m said logs → IsDueInParts h said logs 0 due → due.logs ≡ 0 → 0 < due.entries → IsReady h m (Parts said logs) v
parts_ready h m says.Shown logs due v count hold is none some = record {
  equal_holds = shown_whole h m logs count (omega (arith, is.logs_due, none)) hold;
  done_hold = λ p lt. absurd (omega (arith, lt));
  front = append_assoc (header_text h) (line (equal_content (part_count h.b) says.Shown)) (logs_text logs) ∙ sym (append-nil (header_text h ++ equal_text (part_count h.b) (equal.Shown logs)));
  number = omega (arith, is.entries_due, some);
}
parts_ready h m (says.Conflicts part stepping) logs due v count hold is none some = absurd (omega (arith, is.entries_due, some))

entry_ready : (h : Header) (m : MiterLll) (o : OpenEntry) (due : Due) (v : Verdict) → EntryHoldsSoFar h m o → IsDueInEntry h o 0 due → due.logs ≡ 0 → due.rows ≡ 0 → due.model ≡ false → 0 < due.entries → IsReady h m (Entry o) v
entry_ready h m o due v hold is logs rows model some =
    let c = counted h o due is logs rows model in
    let made = found_of o.verdict o.logs o.rows o.models in
    record {
      equal_holds = hold.equal_holds;
      done_hold = each_more (λ p x. IsAcceptedEntry h.a p h.depth h.conflicts x) o.done made hold.done_hold (open_accepted h m o c hold);
      front = open_front h o c v;
      number = omega (arith, is.entries_due, some, length-append o.done (made ∷ []));
    }

pub is_ready : (h : Header) (m : MiterLll) (s : Shown) (due : Due) (v : Verdict) → length m.parts ≡ part_count h.b → HoldSoFar h m s → IsDueIn h s 0 due → due.logs ≡ 0 → due.rows ≡ 0 → due.model ≡ false → 0 < due.entries → IsReady h m s v
is_ready h m (Parts said logs) due v count hold is no_logs no_rows no_model some = parts_ready h m said logs due v count hold is no_logs some
is_ready h m (Entry o) due v count hold is no_logs no_rows no_model some = entry_ready h m o due v hold is no_logs no_rows no_model some

-- ---- its formulas are too large

large_fails : (m : MiterLll) (e : Evidence) → HasText e → (o : OpenEntry) (rest : Rest) (at : ℕ) → ShowsEntry o rest e → Facts (header_of e) m → IsAcceptedEqual m e.conflicts o.equal
    → ((p : ℕ) → p < length o.done → IsSomeAnd (slice_get o.done p) (IsAcceptedEntry e.a p e.depth e.conflicts))
    → at ≡ line_after (entry_front (header_of e) o) → ¬ (IsSmallFormula (verdict_instants e.depth o.verdict) (length e.a.signals)) → IsFirstOf (Fails e) at cause.Size
large_fails m e has o rest at s f accepted hold begins large =
    let p = length o.done in
    let same : entry_instants e.depth s.entry ≡ verdict_instants e.depth o.verdict = instants_same s.entry e.depth ∙ ap (verdict_instants e.depth) s.is_open.verdict in
    entry_fails m e has o rest at cause.Size s f accepted hold
    (entry_large e.a p e.depth e.conflicts has.depth_bound (small_number m e has f o rest s) (entry_front (header_of e) o) s.entry (fits m e has f o rest s) at begins
    (λ small. large (subst (λ n. IsSmallFormula n (length e.a.signals)) same small)))

refused_next : (h : Header) (m : MiterLll) (o : OpenEntry) (at : ℕ) → Facts h m → IsAcceptedEqual m h.conflicts o.equal
    → ((p : ℕ) → p < length o.done → IsSomeAnd (slice_get o.done p) (IsAcceptedEntry h.a p h.depth h.conflicts))
    → at ≡ line_after (entry_front h o) → ¬ (IsSmallFormula (verdict_instants h.depth o.verdict) (length h.a.signals)) → IsRefused h (Entry o) at cause.Size
refused_next h m o at f accepted hold begins large = λ e has begun.
    let P = λ (k : Header). Facts k m → IsAcceptedEqual m k.conflicts o.equal → ((p : ℕ) → p < length o.done → IsSomeAnd (slice_get o.done p) (IsAcceptedEntry k.a p k.depth k.conflicts))
    → at ≡ line_after (entry_front k o) → ¬ (IsSmallFormula (verdict_instants k.depth o.verdict) (length k.a.signals)) → IsFirstOf (Fails e) at cause.Size in
    subst P begun.header (large_fails m e has o begun.rest at begun.shows) f accepted hold begins large

is_next : (s : Shown) (v : Verdict) → with_entry s v ≡ Entry (next_open s v)
is_next (Parts said logs) v = refl
is_next (Entry o) v = refl

pub refused_entry : (h : Header) (m : MiterLll) (s : Shown) (v : Verdict) (at : ℕ) → Facts h m → IsReady h m s v → at ≡ line_after (shown_text h s) → ¬ (IsSmallFormula (verdict_instants h.depth v) (length h.a.signals)) → IsRefused h (with_entry s v) at cause.Size
refused_entry h m (Parts said logs) v at f ready begins large = refused_next h m (next_open (Parts said logs) v) at f ready.equal_holds ready.done_hold (begins ∙ ap line_after ready.front) large
refused_entry h m (Entry o) v at f ready begins large = refused_next h m (next_open (Entry o) v) at f ready.equal_holds ready.done_hold (begins ∙ ap line_after ready.front) large

-- ---- the end

-- how much an entry has
logs_counted : (depth : ℕ) (a : Lll) (entry : Found) → EntryFits depth a entry → length (logs_of entry) ≡ log_count depth (verdict_of entry)
logs_counted depth a (found.Proved k bases step) fit = length-append bases (step ∷ []) ∙ omega (arith, fit.2.long)
logs_counted depth a (found.Falsified bits bases) fit = fit.2.long
logs_counted depth a (found.Depth step_model bases) fit = fit.0.long
logs_counted depth a (found.Conflicts (spot.Base j) log bases) fit = length-append bases (log ∷ []) ∙ omega (arith, fit.0.1.long)
logs_counted depth a (found.Conflicts (spot.Step k) log bases) fit = length-append bases (log ∷ []) ∙ omega (arith, fit.0.2.long)

rows_counted : (entry : Found) → length (rows_of entry) ≡ rows_due (verdict_of entry)
rows_counted (found.Proved k bases step) = refl
rows_counted (found.Falsified bits bases) = refl
rows_counted (found.Depth step_model bases) = refl
rows_counted (found.Conflicts place log bases) = refl

models_counted : (entry : Found) → length (models_of entry) ≡ (if has_model (verdict_of entry) then 1 else 0)
models_counted (found.Proved k bases step) = refl
models_counted (found.Falsified bits bases) = refl
models_counted (found.Depth step_model bases) = refl
models_counted (found.Conflicts place log bases) = refl

whole_entry : (depth : ℕ) (a : Lll) (o : OpenEntry) (rest : Rest) (entry : Found) → EntryFits depth a entry → AreCounted depth o.verdict o.logs o.rows o.models → IsOpen o rest entry → IsMade o.verdict o.logs o.rows o.models entry
whole_entry depth a o rest entry fit c is = record {
  verdict = is.verdict;
  logs_are = whole (logs_of entry) o.logs rest.logs is.logs (c.logs_count ∙ ap (log_count depth) (sym is.verdict) ∙ sym (logs_counted depth a entry fit));
  rows_are = whole (rows_of entry) o.rows rest.rows is.rows (c.rows_count ∙ ap rows_due (sym is.verdict) ∙ sym (rows_counted entry));
  models_are = whole (models_of entry) o.models rest.models is.models (c.models_count ∙ ap (λ (v : Verdict). if has_model v then 1 else 0) (sym is.verdict) ∙ sym (models_counted entry));
}

no_more : (a : Lll) (shown : Equal) (entries : List Found) → EntriesFit a shown entries → length a.obligations ≡ 0 → (p : ℕ) (P : Type 0) → p < length entries → P
no_more a (equal.Shown logs) entries fit none p P lt = absurd (omega (arith, fit, none, lt))
no_more a (equal.Conflicts part stepping log) entries fit none p P lt = absurd (let n : length entries ≡ 0 = ap (λ (xs : List Found). length xs) fit in omega (arith, n, lt))

none_said : (a : Lll) (shown : Equal) (part : ℕ) (stepping : Bool) (entries : List Found) → EntriesFit a shown entries → said_of shown ≡ says.Conflicts part stepping → (p : ℕ) (P : Type 0) → p < length entries → P
none_said a (equal.Shown logs) part stepping entries fit said p P lt = absurd cc
none_said a (equal.Conflicts i s log) part stepping entries fit said p P lt = absurd (let n : length entries ≡ 0 = ap (λ (xs : List Found). length xs) fit in omega (arith, n, lt))

all_of_them : (a : Lll) (shown : Equal) (entries : List Found) → EntriesFit a shown entries → said_of shown ≡ says.Shown → length entries ≡ length a.obligations
all_of_them a (equal.Shown logs) entries fit said = fit
all_of_them a (equal.Conflicts part stepping log) entries fit said = absurd cc

module _ (m : MiterLll) (e : Evidence) (has : HasText e) (f : Facts (header_of e) m) where
  accept : IsAcceptedEqual m e.conflicts e.equal → AreAcceptedEntries e → Accepted e
  accept accepted entries = all_accepted e has (omega (arith, f.0)) (short_entries e.a e.equal e.entries has.entries_fit f.1) m f.2 f.3 accepted entries

  no_entries : (said : EqualLine) (due : Due) (logs : List Log) → said_of e.equal ≡ said → IsDueInParts (header_of e) said logs 0 due → due.entries ≡ 0 → AreAcceptedEntries e
  no_entries says.Shown due logs same is none = λ p lt. no_more e.a e.equal e.entries has.entries_fit (omega (arith, none, is.entries_due)) p _ lt
  no_entries (says.Conflicts part stepping) due logs same is none = λ p lt. none_said e.a e.equal part stepping e.entries has.entries_fit same p _ lt

  parts_accepted : (said : EqualLine) (logs : List Log) (rest : Rest) (due : Due) → ShowsParts said logs rest e → PartsHold (header_of e) m said logs → IsDueInParts (header_of e) said logs 0 due → due.logs ≡ 0 → due.entries ≡ 0 → Accepted e
  parts_accepted said logs rest due s hold is no_logs none =
      let long : length logs ≡ logs_after (header_of e) said = omega (arith, no_logs, is.logs_due) in
      accept
      (equal_holds_at e.b m (header_of e) e.equal logs rest.logs has.equal_fits (parts_counted e.a e.b m f.2 f.3) refl s.logs_are
      (subst (λ (q : EqualLine). length logs ≡ logs_after (header_of e) q) (sym s.said_is) long) (subst (λ (q : EqualLine). PartsHold (header_of e) m q logs) (sym s.said_is) hold))
      (no_entries said due logs s.said_is is none)

  entry_accepted : (o : OpenEntry) (rest : Rest) (due : Due) → ShowsEntry o rest e → EntryHoldsSoFar (header_of e) m o → IsDueInEntry (header_of e) o 0 due → due.logs ≡ 0 → due.rows ≡ 0 → due.model ≡ false → due.entries ≡ 0 → Accepted e
  entry_accepted o rest due s hold is no_logs no_rows no_model none =
      let c = counted (header_of e) o due is no_logs no_rows no_model in
      let fit = entry_fits e has (omega (arith, f.0)) (short_entries e.a e.equal e.entries has.entries_fit f.1) m f.2 f.3 o.done rest.entries s.entry s.entries_are in
      let same = made_same o.verdict o.logs o.rows o.models s.entry (whole_entry e.depth e.a o rest s.entry fit c s.is_open) in
      let here : IsAcceptedEntry e.a (length o.done) e.depth e.conflicts s.entry = subst (IsAcceptedEntry e.a (length o.done) e.depth e.conflicts) same (open_accepted (header_of e) m o c hold) in
      let count : length e.entries ≡ length e.a.obligations = all_of_them e.a e.equal e.entries has.entries_fit (ap said_of s.equal_is ∙ is.shown) in
      let long : length e.entries ≡ length (o.done ++ s.entry ∷ rest.entries) = ap (λ (xs : List Found). length xs) s.entries_are in
      let end : e.entries ≡ o.done ++ s.entry ∷ [] = whole e.entries (o.done ++ s.entry ∷ []) rest.entries (s.entries_are ∙ sym (append_assoc o.done (s.entry ∷ []) rest.entries))
      (omega (arith, length-append o.done (s.entry ∷ []), count, none, is.entries_due)) in
      accept (subst (IsAcceptedEqual m e.conflicts) (sym s.equal_is) hold.equal_holds)
      (subst (λ (xs : List Found). (p : ℕ) → p < length xs → IsSomeAnd (slice_get xs p) (IsAcceptedEntry e.a p e.depth e.conflicts)) (sym end)
      (each_more (λ p x. IsAcceptedEntry e.a p e.depth e.conflicts x) o.done s.entry hold.done_hold here))

-- nothing more is due: the claims hold
pub accepted_at_end : (h : Header) (s : Shown) (m : MiterLll) (due : Due) → Facts h m → HoldSoFar h m s → IsDueIn h s 0 due → due.logs ≡ 0 → due.rows ≡ 0 → due.model ≡ false → due.entries ≡ 0 → (e : Evidence) → HasText e → BeginsSo h s e → Accepted e
accepted_at_end h (Parts said logs) m due f hold is no_logs no_rows no_model none e has begun =
    let P = λ (k : Header). Facts k m → PartsHold k m said logs → IsDueInParts k said logs 0 due → Accepted e in
    subst P begun.header (λ g hold is. parts_accepted m e has g said logs begun.rest due begun.shows hold is no_logs none) f hold is
accepted_at_end h (Entry o) m due f hold is no_logs no_rows no_model none e has begun =
    let P = λ (k : Header). Facts k m → EntryHoldsSoFar k m o → IsDueInEntry k o 0 due → Accepted e in
    subst P begun.header (λ g hold is. entry_accepted m e has g o begun.rest due begun.shows hold is no_logs no_rows no_model none) f hold is
