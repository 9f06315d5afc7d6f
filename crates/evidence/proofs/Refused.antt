-- Which claim of a value fails first, where those before it hold.
use Rattle.std.proofs.Common.{◌≡◌, ℕ, ◌+◌, ◌-◌, ◌^◌, ◌<◌, ◌≤◌, Bool, true, false, List, [], ◌∷◌, ◌++◌, length, take, Some, None, slice_get, refl, sym, ap, subst, ◌∙◌, inl, inr, length-append, arith, if◌then◌else◌}
use Rattle.std.specs.Prelude.{Option, IsSomeAnd, All}
use Rattle.std.proofs.lemmas.Bool.{cases_lt, lt-ltb, le-ltb}
use Rattle.std.proofs.lemmas.List.{append-nil, take_at}
use Rattle.lll_core.specs.declared.lll.Lll.{Lll}
use Rattle.lll_text.specs.Spelling.{line}
use Rattle.miter.specs.declared.parts.MiterLll.{MiterLll}
use Rattle.miter.specs.Pairs.{Paired}
use Rattle.miter.specs.Miters.{IsMiter}
use Rattle.rup_checker.specs.declared.log.Log.{Log}
use Rattle.rup_checker.specs.Formulas.{Satisfies, listed}
use Rattle.rup_checker.specs.Logs.{Accepts}
use Rattle.unroll_cnf.specs.Unrollings.{base_formula, step_formula}
use Rattle.kinduction.specs.declared.equal.Equal.{Equal}
use Rattle.kinduction.specs.declared.equal.Equal.TheVariants as equal
use Rattle.kinduction.specs.declared.found.Found.{Found}
use Rattle.kinduction.specs.declared.found.Found.TheVariants as found
use Rattle.kinduction.specs.declared.found.Spot.{Spot}
use Rattle.kinduction.specs.declared.found.Spot.TheVariants as spot
use Rattle.kinduction.specs.Parts.{part_formula}
use Rattle.kinduction.specs.Rounds.{RefuteBases}
use Rattle.evidence.specs.declared.evidence.Evidence.{Evidence}
use Rattle.evidence.specs.declared.fault.Cause.{Cause}
use Rattle.evidence.specs.declared.fault.Cause.TheVariants as cause
use Rattle.evidence.specs.declared.reader_lines.EqualLine.{EqualLine}
use Rattle.evidence.specs.declared.reader_lines.Verdict.{Verdict}
use Rattle.evidence.specs.declared.reader_lines.Verdict.TheVariants as verdict
use Rattle.evidence.specs.Accepted.{IsSmallFormula, part_instants, entry_instants, place_formula, IsAcceptedEntry}
use Rattle.evidence.specs.ByLines.{said_of, logs_shown, verdict_of, logs_of, rows_of, models_of}
use Rattle.evidence.specs.Counts.{IsLog, EntryFits, EqualFits, HasText}
use Rattle.evidence.specs.Readers.{equal_content}
use Rattle.evidence.specs.Shown.{header_of, no_log, parts_front}
use Rattle.evidence.specs.Spelling.{logs_text, part_count, equal_line, equal_text, entry_line, entries_text, models_text}
use Rattle.evidence.specs.Refusals.{line_after, RefutationFails, RefutationsFail, SpentLogFails, PartsFail, IsTrace, LastFails, base_logs, EntryFails, Fails}
use Rattle.evidence.specs.Claims.{IsFirstOf, IsAcceptedEqual, nth_part_formula}
use Rattle.evidence.specs.declared.claimed_logs.Claim.{Claim}
use Rattle.evidence.specs.declared.claimed_logs.Claim.TheVariants as claim
use Rattle.evidence.specs.LogClaims.{LogHolds, LogFails, part_claim, line_instants, is_base, last_claim, entry_claim, verdict_instants}
use Rattle.evidence.proofs.AtOnce.{all_at}
use Rattle.evidence.proofs.BoundLemmas.{refutations_fail}
use Rattle.evidence.proofs.EntriesLemmas.{entries_fail}
use Rattle.evidence.proofs.EntryLemmas.{bases_are_logs, entry_bases, entry_last}
use Rattle.evidence.proofs.EqualLemmas.{equal_large, equal_parts, from_logs, to_logs}
use Rattle.evidence.proofs.JudgeLemmas.{equal_first, entries_first}
use Rattle.evidence.proofs.ListPlaces.{get-middle, whole, single, last_there, each_front, InFront, in_front}
use Rattle.evidence.proofs.OrderLemmas.{first_same, first_alone}

-- ---- a log of the parts

shown_first : (m : MiterLll) (budget : ℕ) (front : List ℕ) (logs more : List Log) (log : Log) (line : ℕ) (why : Cause) → All IsLog (logs ++ log ∷ more)
    → ((n : ℕ) → n < length logs → IsSomeAnd (slice_get logs n) (λ l. Accepts (nth_part_formula m n) l.steps))
    → IsFirstOf (RefutationFails (nth_part_formula m (length logs)) (front ++ logs_text logs) log) line why
    → IsFirstOf (PartsFail m budget front (equal.Shown (logs ++ log ∷ more))) line why
shown_first m budget front logs more log line why each hold here =
    let all = logs ++ log ∷ more in
    let formula = nth_part_formula m in
    first_same (RefutationsFail formula front all) (PartsFail m budget front (equal.Shown all)) line why (from_logs m budget front all) (to_logs m budget front all)
    (refutations_fail formula front all each (length logs) log line why (get-middle logs more log)
    (each_front (λ n l. Accepts (formula n) l.steps) logs (log ∷ more) all refl hold)
    (subst (λ (ls : List Log). IsFirstOf (RefutationFails (formula (length logs)) (front ++ logs_text ls) log) line why) (sym (take_at logs (log ∷ more) (length logs) refl)) here))

parts_first : (m : MiterLll) (budget : ℕ) (front : List ℕ) (b : Lll) (shown : Equal) (logs more : List Log) (log : Log) (line : ℕ) (why : Cause) → EqualFits b shown → logs_shown shown ≡ logs ++ log ∷ more
    → ((n : ℕ) → n < length logs → IsSomeAnd (slice_get logs n) (LogHolds budget (part_claim m (said_of shown) n)))
    → IsFirstOf (LogFails budget (part_claim m (said_of shown) (length logs)) (front ++ logs_text logs) log) line why
    → IsFirstOf (PartsFail m budget front shown) line why
parts_first m budget front b (equal.Shown all) logs more log line why fits e hold here =
    subst (λ (ls : List Log). IsFirstOf (PartsFail m budget front (equal.Shown ls)) line why) (sym e)
    (shown_first m budget front logs more log line why (subst (All IsLog) e fits.each) hold here)
parts_first m budget front b (equal.Conflicts part stepping spent) logs more log line why fits e hold here =
    let one = single spent log logs more e in
    let f = part_formula m part stepping in
    let there : front ++ logs_text logs ≡ front = ap (λ (ls : List Log). front ++ logs_text ls) (sym one.0) ∙ append-nil front in
    subst (λ (l : Log). IsFirstOf (PartsFail m budget front (equal.Conflicts part stepping l)) line why) (sym one.1)
    (subst (λ (t : List ℕ). IsFirstOf (PartsFail m budget t (equal.Conflicts part stepping log)) line why) there here)

abbrev content_line : ℕ → EqualLine → List ℕ
content_line parts said = line (equal_content parts said)

equal_line_is : (parts : ℕ) (shown : Equal) → equal_line parts shown ≡ line (equal_content parts (said_of shown))
equal_line_is parts (equal.Shown logs) = refl
equal_line_is parts (equal.Conflicts part stepping log) = refl

part_instants_is : (shown : Equal) → part_instants shown ≡ line_instants (said_of shown)
part_instants_is (equal.Shown logs) = refl
part_instants_is (equal.Conflicts part stepping log) = refl

-- ---- a log of an entry

-- the bases before a log of base formulas
module _ (l : Lll) (p depth budget : ℕ) (le : depth ≤ 64) (small_number : p + 1 < 2 ^ 64) (front : List ℕ) (entry : Found) (fits : EntryFits depth l entry) (small : IsSmallFormula (entry_instants depth entry) (length l.signals))
    (logs : List Log) (log : Log) (line : ℕ) (why : Cause) where
  abbrev There : List ℕ
  There = (front ++ entry_line (p + 1) entry) ++ logs_text logs

  base_first : InFront (base_logs entry) logs log → ((n : ℕ) → n < length logs → IsSomeAnd (slice_get logs n) (λ x. Accepts (base_formula l p n) x.steps))
      → IsFirstOf (RefutationFails (base_formula l p (length logs)) There log) line why → IsFirstOf (EntryFails l p depth budget front entry) line why
  base_first there hold here =
      let formula = base_formula l p in
      let before = front ++ entry_line (p + 1) entry in
      entry_bases l p depth budget le small_number front entry fits line why small
      (refutations_fail formula before (base_logs entry) (bases_are_logs depth l entry fits) (length logs) log line why there.at
      (λ n lt. subst (λ (o : Option Log). IsSomeAnd o (λ x. Accepts (formula n) x.steps)) (there.each n lt) (hold n lt))
      (subst (λ (ls : List Log). IsFirstOf (RefutationFails (formula (length logs)) (before ++ logs_text ls) log) line why) (sym there.before) here))

  last_first : base_logs entry ≡ logs → RefuteBases l p logs → IsFirstOf (LastFails l p depth budget There entry) line why → IsFirstOf (EntryFails l p depth budget front entry) line why
  last_first same refuted here =
      let before = front ++ entry_line (p + 1) entry in
      entry_last l p depth budget le small_number front entry fits line why small (subst (RefuteBases l p) (sym same) refuted)
      (subst (λ (ls : List Log). IsFirstOf (LastFails l p depth budget (before ++ logs_text ls) entry) line why) (sym same) here)

-- what a log claims, where it is one of a base formula, and where it isn't
pub at_base : (l : Lll) (p : ℕ) (v : Verdict) (n : ℕ) (budget : ℕ) (log : Log) → is_base v n ≡ true → LogHolds budget (entry_claim l p v n) log → Accepts (base_formula l p n) log.steps
at_base l p v n budget log base h = let P = λ (b : Bool). LogHolds budget (if b then claim.Refutes (base_formula l p n) else last_claim l p v) log in subst P base h

pub claim_base : (l : Lll) (p : ℕ) (v : Verdict) (n : ℕ) → is_base v n ≡ true → entry_claim l p v n ≡ claim.Refutes (base_formula l p n)
claim_base l p v n base = ap (λ (b : Bool). if b then claim.Refutes (base_formula l p n) else last_claim l p v) base

pub claim_last : (l : Lll) (p : ℕ) (v : Verdict) (n : ℕ) → is_base v n ≡ false → entry_claim l p v n ≡ last_claim l p v
claim_last l p v n last = ap (λ (b : Bool). if b then claim.Refutes (base_formula l p n) else last_claim l p v) last

-- the logs before this are those of base formulas
abbrev pub BasesHold : Lll → ℕ → ℕ → Verdict → List Log → Type 0
BasesHold l p budget v logs = (n : ℕ) → n < length logs → IsSomeAnd (slice_get logs n) (LogHolds budget (entry_claim l p v n))

weaker : {X : Type 0} (o : Option X) (P Q : X → Type 0) → ((x : X) → P x → Q x) → IsSomeAnd o P → IsSomeAnd o Q
weaker (Some x) P Q there h = there x h
weaker None P Q there h = absurd h

pub bases_hold : (l : Lll) (p budget : ℕ) (v : Verdict) (logs : List Log) → ((n : ℕ) → n < length logs → is_base v n ≡ true) → BasesHold l p budget v logs → RefuteBases l p logs
bases_hold l p budget v logs base hold n lt =
    weaker (slice_get logs n) (LogHolds budget (entry_claim l p v n)) (λ x. Accepts (base_formula l p n) x.steps) (λ x h. at_base l p v n budget x (base n lt) h) (hold n lt)

-- all logs are those of base formulas
front_of_all : (bases logs more : List Log) (log : Log) → bases ≡ logs ++ log ∷ more → InFront bases logs log
front_of_all bases logs more log e =
    in_front bases [] logs more log (append-nil bases ∙ e)
    (let long : length bases ≡ length (logs ++ log ∷ more) = ap (λ (ls : List Log). length ls) e in omega (arith, long, length-append logs (log ∷ more)))

-- ---- by its verdict

module _ (l : Lll) (p depth budget : ℕ) (le : depth ≤ 64) (small_number : p + 1 < 2 ^ 64) (front : List ℕ) where
  abbrev Before : Found → List Log → List ℕ
  Before entry logs = (front ++ entry_line (p + 1) entry) ++ logs_text logs

  at_bases : (entry : Found) → EntryFits depth l entry → IsSmallFormula (entry_instants depth entry) (length l.signals) → (logs : List Log) (log : Log) (line : ℕ) (why : Cause) (v : Verdict) → InFront (base_logs entry) logs log
      → ((n : ℕ) → n ≤ length logs → is_base v n ≡ true) → BasesHold l p budget v logs → IsFirstOf (LogFails budget (entry_claim l p v (length logs)) (Before entry logs) log) line why
      → IsFirstOf (EntryFails l p depth budget front entry) line why
  at_bases entry fits small logs log line why v there base hold here =
      base_first l p depth budget le small_number front entry fits small logs log line why there (bases_hold l p budget v logs (λ n lt. base n (omega (arith, lt))) hold)
      (subst (λ (c : Claim). IsFirstOf (LogFails budget c (Before entry logs) log) line why) (claim_base l p v (length logs) (base (length logs) (omega arith))) here)

  at_last : (entry : Found) → EntryFits depth l entry → IsSmallFormula (entry_instants depth entry) (length l.signals) → (logs : List Log) (log : Log) (line : ℕ) (why : Cause) (v : Verdict) → base_logs entry ≡ logs
      → ((n : ℕ) → n < length logs → is_base v n ≡ true) → is_base v (length logs) ≡ false → BasesHold l p budget v logs → IsFirstOf (LogFails budget (entry_claim l p v (length logs)) (Before entry logs) log) line why
      → (IsFirstOf (LogFails budget (last_claim l p v) (Before entry logs) log) line why → IsFirstOf (LastFails l p depth budget (Before entry logs) entry) line why)
      → IsFirstOf (EntryFails l p depth budget front entry) line why
  at_last entry fits small logs log line why v same base last hold here there =
      last_first l p depth budget le small_number front entry fits small logs log line why same (bases_hold l p budget v logs base hold)
      (there (subst (λ (c : Claim). IsFirstOf (LogFails budget c (Before entry logs) log) line why) (claim_last l p v (length logs) last) here))

  abbrev LogFirst : Found → Type 0
  LogFirst entry = EntryFits depth l entry → IsSmallFormula (entry_instants depth entry) (length l.signals) → (logs more : List Log) (log : Log) (line : ℕ) (why : Cause) → logs_of entry ≡ logs ++ log ∷ more
      → BasesHold l p budget (verdict_of entry) logs → IsFirstOf (LogFails budget (entry_claim l p (verdict_of entry) (length logs)) (Before entry logs) log) line why
      → IsFirstOf (EntryFails l p depth budget front entry) line why

  proved_first : (k : ℕ) (bases : List Log) (step : Log) → LogFirst (found.Proved k bases step)
  proved_first k bases step fits small logs more log line why e hold here =
      let entry = found.Proved k bases step in
      elim (cases_lt (length logs) (length bases)) [
        | inl lt ↦ at_bases entry fits small logs log line why (verdict.Proved k) (in_front bases (step ∷ []) logs more log e lt) (λ n le_n. lt-ltb n k (omega (arith, fits.2.long, lt, le_n))) hold here
        | inr ge ↦ (
            let last = last_there bases logs more step log ge e in
            let long : length logs ≡ k = ap (λ (ls : List Log). length ls) (sym last.0) ∙ fits.2.long in
            at_last entry fits small logs log line why (verdict.Proved k) last.0 (λ n lt_n. lt-ltb n k (omega (arith, long, lt_n))) (le-ltb (length logs) k (omega (arith, long))) hold here
            (λ h. subst (λ (x : Log). IsFirstOf (RefutationFails (step_formula l p k) (Before entry logs) x) line why) (sym last.1) h))
      ]

  falsified_first : (bits : List (List Bool)) (bases : List Log) → LogFirst (found.Falsified bits bases)
  falsified_first bits bases fits small logs more log line why e hold here =
      at_bases (found.Falsified bits bases) fits small logs log line why (verdict.Falsified (length bits)) (front_of_all bases logs more log e) (λ n le_n. refl) hold here

  depth_first : (step_model : List Bool) (bases : List Log) → LogFirst (found.Depth step_model bases)
  depth_first step_model bases fits small logs more log line why e hold here =
      at_bases (found.Depth step_model bases) fits small logs log line why verdict.Depth (front_of_all bases logs more log e) (λ n le_n. refl) hold here

  place_first : (k : ℕ) (place : Spot) (spent : Log) (bases : List Log) → length bases ≡ k → ((n : ℕ) → n < k → is_base (verdict.Conflicts place) n ≡ true) → is_base (verdict.Conflicts place) k ≡ false → LogFirst (found.Conflicts place spent bases)
  place_first k place spent bases count base last_is fits small logs more log line why e hold here =
      let entry = found.Conflicts place spent bases in
      elim (cases_lt (length logs) (length bases)) [
        | inl lt ↦ at_bases entry fits small logs log line why (verdict.Conflicts place) (in_front bases (spent ∷ []) logs more log e lt) (λ n le_n. base n (omega (arith, count, lt, le_n))) hold here
        | inr ge ↦ (
            let last = last_there bases logs more spent log ge e in
            let long : k ≡ length logs = sym count ∙ ap (λ (ls : List Log). length ls) last.0 in
            at_last entry fits small logs log line why (verdict.Conflicts place) last.0 (λ n lt_n. base n (omega (arith, long, lt_n))) (subst (λ n. is_base (verdict.Conflicts place) n ≡ false) long last_is) hold here
            (λ h. subst (λ (x : Log). IsFirstOf (SpentLogFails (place_formula l p place) budget (Before entry logs) x) line why) (sym last.1) h))
      ]

  -- a log of the entry fails
  pub log_first : (entry : Found) → LogFirst entry
  log_first (found.Proved k bases step) = proved_first k bases step
  log_first (found.Falsified bits bases) = falsified_first bits bases
  log_first (found.Depth step_model bases) = depth_first step_model bases
  log_first (found.Conflicts (spot.Base j) spent bases) = λ fits. place_first j (spot.Base j) spent bases fits.0.1.long (λ n lt. lt-ltb n j lt) (le-ltb j j (omega arith)) fits
  log_first (found.Conflicts (spot.Step k) spent bases) = λ fits. place_first k (spot.Step k) spent bases fits.0.2.long (λ n lt. lt-ltb n k lt) (le-ltb k k (omega arith)) fits

  -- its rows aren't those of a trace
  pub trace_first : (entry : Found) (n : ℕ) (logs more : List Log) (rows others : List (List Bool)) (at : ℕ) → EntryFits depth l entry → IsSmallFormula (entry_instants depth entry) (length l.signals)
      → verdict_of entry ≡ verdict.Falsified n → logs_of entry ≡ logs ++ more → rows_of entry ≡ rows ++ others → length logs ≡ n - 1 → length rows ≡ n → BasesHold l p budget (verdict.Falsified n) logs
      → at ≡ line_after (Before entry logs) → ¬ (IsTrace l p (n - 1) rows) → IsFirstOf (EntryFails l p depth budget front entry) at cause.Trace
  trace_first (found.Falsified bits bases) n logs more rows others at fits small v e d count long hold begins bad =
      let entry = found.Falsified bits bases in
      let number : length bits ≡ n = cc in
      let logs_are = whole bases logs more e (omega (arith, count, number, fits.2.long)) in
      let rows_are = whole bits rows others d (omega (arith, long, number)) in
      let j : length bases ≡ n - 1 = omega (arith, number, fits.2.long) in
      let not : ¬ (IsTrace l p (length bases) bits) = λ h. bad (subst (λ (rs : List (List Bool)). IsTrace l p (n - 1) rs) rows_are (subst (λ i. IsTrace l p i bits) j h)) in
      last_first l p depth budget le small_number front entry fits small logs no_log at cause.Trace logs_are
      (bases_hold l p budget (verdict.Falsified n) logs (λ i lt. refl) hold)
      (first_alone (LastFails l p depth budget (Before entry logs) entry) at cause.Trace (begins, refl, not) (λ other reason fails. (fails.0 ∙ sym begins, fails.1)))
  trace_first (found.Proved k bases step) n logs more rows others at fits small v e d count long hold begins bad = absurd cc
  trace_first (found.Depth step_model bases) n logs more rows others at fits small v e d count long hold begins bad = absurd cc
  trace_first (found.Conflicts place spent bases) n logs more rows others at fits small v e d count long hold begins bad = absurd cc

  -- its assignment doesn't satisfy the last step formula
  pub model_first : (entry : Found) (logs more : List Log) (values : List Bool) (others : List (List Bool)) (at : ℕ) → EntryFits depth l entry → IsSmallFormula (entry_instants depth entry) (length l.signals)
      → verdict_of entry ≡ verdict.Depth → logs_of entry ≡ logs ++ more → models_of entry ≡ values ∷ others → length logs ≡ depth → BasesHold l p budget verdict.Depth logs
      → at ≡ line_after (Before entry logs) → ¬ (Satisfies (listed values) (step_formula l p depth).clauses) → IsFirstOf (EntryFails l p depth budget front entry) at cause.Model
  model_first (found.Depth step_model bases) logs more values others at fits small v e d count hold begins bad =
      let entry = found.Depth step_model bases in
      let logs_are = whole bases logs more e (omega (arith, count, fits.0.long)) in
      let same : step_model ≡ values = cc in
      let not : ¬ (Satisfies (listed step_model) (step_formula l p depth).clauses) = λ h. bad (subst (λ (xs : List Bool). Satisfies (listed xs) (step_formula l p depth).clauses) same h) in
      last_first l p depth budget le small_number front entry fits small logs no_log at cause.Model logs_are
      (bases_hold l p budget verdict.Depth logs (λ i lt. refl) hold)
      (first_alone (LastFails l p depth budget (Before entry logs) entry) at cause.Model (begins, refl, not) (λ other reason fails. (fails.0 ∙ sym begins, fails.1)))
  model_first (found.Proved k bases step) logs more values others at fits small v e d count hold begins bad = absurd cc
  model_first (found.Falsified bits bases) logs more values others at fits small v e d count hold begins bad = absurd cc
  model_first (found.Conflicts place spent bases) logs more values others at fits small v e d count hold begins bad = absurd cc

-- ---- in a value

abbrev Instants : Found → Verdict → Type 0
Instants entry v = (depth : ℕ) → entry_instants depth entry ≡ verdict_instants depth v

pub instants_same : (entry : Found) → Instants entry (verdict_of entry)
instants_same (found.Proved k bases step) = λ depth. refl
instants_same (found.Falsified bits bases) = λ depth. refl
instants_same (found.Depth step_model bases) = λ depth. refl
instants_same (found.Conflicts place spent bases) = λ depth. refl

module _ (e : Evidence) (has : HasText e) (few : part_count e.b < 2 ^ 64) (short : length e.entries < 2 ^ 63) (m : MiterLll) (paired : Paired e.a e.b) (is : IsMiter e.a e.b m) where
  -- the formulas of the parts are too large
  pub parts_large : (said : EqualLine) (at : ℕ) → said_of e.equal ≡ said → at ≡ line_after (models_text e) → ¬ (IsSmallFormula (line_instants said) (length m.lll.signals)) → IsFirstOf (Fails e) at cause.Size
  parts_large said at same begins large =
      equal_first e has few short m paired is at cause.Size
      (equal_large e m few has.equal_fits at begins (λ small. large (subst (λ n. IsSmallFormula n (length m.lll.signals)) (part_instants_is e.equal ∙ ap line_instants same) small)))

  -- a log of the parts fails
  pub part_refused : (said : EqualLine) (logs more : List Log) (log : Log) (line : ℕ) (why : Cause) → said_of e.equal ≡ said → logs_shown e.equal ≡ logs ++ log ∷ more → IsSmallFormula (line_instants said) (length m.lll.signals)
      → ((n : ℕ) → n < length logs → IsSomeAnd (slice_get logs n) (LogHolds e.conflicts (part_claim m said n)))
      → IsFirstOf (LogFails e.conflicts (part_claim m said (length logs)) (parts_front (header_of e) said ++ logs_text logs) log) line why → IsFirstOf (Fails e) line why
  part_refused said logs more log line why same logs_are small hold here =
      let parts = part_count e.b in
      let Small = λ (n : ℕ). IsSmallFormula n (length m.lll.signals) in
      let Hold = λ (q : EqualLine). (n : ℕ) → n < length logs → IsSomeAnd (slice_get logs n) (LogHolds e.conflicts (part_claim m q n)) in
      let First = λ (q : EqualLine) (t : List ℕ). IsFirstOf (LogFails e.conflicts (part_claim m q (length logs)) ((models_text e ++ t) ++ logs_text logs) log) line why in
      let line_is = equal_line_is parts e.equal in
      let told : First (said_of e.equal) (equal_line parts e.equal) = subst (First (said_of e.equal)) (sym line_is) (subst (λ (q : EqualLine). First q (content_line parts q)) (sym same) here) in
      equal_first e has few short m paired is line why
      (equal_parts e m few has.equal_fits line why (subst Small (sym (part_instants_is e.equal ∙ ap line_instants same)) small)
      (parts_first m e.conflicts (models_text e ++ equal_line parts e.equal) e.b e.equal logs more log line why has.equal_fits logs_are (subst Hold (sym same) hold) told))

  -- an entry fails
  pub entry_refused : (done others : List Found) (entry : Found) (line : ℕ) (why : Cause) → e.entries ≡ done ++ entry ∷ others → IsAcceptedEqual m e.conflicts e.equal
      → ((p : ℕ) → p < length done → IsSomeAnd (slice_get done p) (IsAcceptedEntry e.a p e.depth e.conflicts))
      → IsFirstOf (EntryFails e.a (length done) e.depth e.conflicts (models_text e ++ equal_text (part_count e.b) e.equal ++ entries_text 1 done) entry) line why → IsFirstOf (Fails e) line why
  entry_refused done others entry line why same accepted hold here =
      let p = length done in
      let at : slice_get e.entries p ≡ Some entry = ap (λ (xs : List Found). slice_get xs p) same ∙ get-middle done others entry in
      let front : take p e.entries ≡ done = ap (λ (xs : List Found). take p xs) same ∙ take_at done (entry ∷ others) p refl in
      let First = λ (xs : List Found). IsFirstOf (EntryFails e.a p e.depth e.conflicts (models_text e ++ equal_text (part_count e.b) e.equal ++ entries_text 1 xs) entry) line why in
      entries_first e has few short m paired is line why accepted
      (entries_fail e has.depth_bound short has.each_fits p entry line why at
      (each_front (λ q x. IsAcceptedEntry e.a q e.depth e.conflicts x) done (entry ∷ others) e.entries (sym same) hold) (subst First (sym front) here))

  -- it fits
  pub entry_fits : (done others : List Found) (entry : Found) → e.entries ≡ done ++ entry ∷ others → EntryFits e.depth e.a entry
  entry_fits done others entry same =
      let p = length done in
      let at : slice_get e.entries p ≡ Some entry = ap (λ (xs : List Found). slice_get xs p) same ∙ get-middle done others entry in
      all_at (EntryFits e.depth e.a) e.entries p entry has.each_fits at
