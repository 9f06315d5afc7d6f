-- Claims that are judged as their lines come: what holds after one thing more, and what is refused.
use Rattle.std.proofs.Common.{◌≡◌, ℕ, ◌+◌, ◌-◌, ◌^◌, ◌<◌, ◌≤◌, Bool, List, [], ◌∷◌, ◌++◌, length, Ok, Err, slice_get, refl, sym, ap, subst, ◌∙◌, inl, inr, append_assoc, length-append, arith}
use Rattle.std.specs.Prelude.{Result, IsSomeAnd, MatchBool, nat_lt, codes}
use Rattle.std.proofs.lemmas.Bool.{cases_lt, lt-ltb, le-ltb}
use Rattle.std.proofs.lemmas.List.{append-nil}
use Rattle.std.proofs.Math.Nat.{mul-le-mul_right}
use Rattle.lll_core.specs.declared.lll.Lll.{Lll}
use Rattle.lll_text.specs.Spelling.{line as lll_line, number_field}
use Rattle.miter.specs.declared.parts.MiterLll.{MiterLll}
use Rattle.miter.specs.Pairs.{Paired}
use Rattle.miter.specs.Miters.{IsMiter}
use Rattle.rup_checker.specs.declared.log.Log.{Log}
use Rattle.kinduction.specs.declared.equal.Equal.{Equal}
use Rattle.kinduction.specs.declared.equal.Equal.TheVariants as equal
use Rattle.kinduction.specs.declared.found.Found.{Found}
use Rattle.kinduction.specs.declared.found.Spot.TheVariants as spot
use Rattle.evidence.specs.declared.evidence.Evidence.{Evidence}
use Rattle.evidence.specs.declared.claim.ClaimFault.{ClaimFault}
use Rattle.evidence.specs.declared.claim.ClaimFault.TheVariants as claim
use Rattle.evidence.specs.declared.claimed_logs.Claim.{Claim}
use Rattle.evidence.specs.declared.claims.Claims.{Claims}
use Rattle.evidence.specs.declared.claims.Place.{Place}
use Rattle.evidence.specs.declared.claims.Place.TheVariants as place
use Rattle.evidence.specs.declared.fault.Cause.{Cause}
use Rattle.evidence.specs.declared.reader_due.Due.{Due}
use Rattle.evidence.specs.declared.reader_lines.EqualLine.{EqualLine}
use Rattle.evidence.specs.declared.reader_lines.EqualLine.TheVariants as says
use Rattle.evidence.specs.declared.reader_lines.Verdict.{Verdict}
use Rattle.evidence.specs.declared.reader_lines.Verdict.TheVariants as verdict
use Rattle.evidence.specs.Accepted.{IsSmallFormula, entry_instants, IsAcceptedEntry}
use Rattle.evidence.specs.ByLines.{verdict_of, log_count}
use Rattle.evidence.specs.Counts.{EntriesFit, EntryFits, HasText}
use Rattle.evidence.specs.Claims.{IsFirstOf, IsAcceptedEqual, Judges}
use Rattle.evidence.specs.LogClaims.{LogHolds, LogFails, part_claim, line_instants, IsPartLog, entry_claim, verdict_instants, IsLogSmall}
use Rattle.evidence.specs.Readers.{EqualLineFits, VerdictFits, verdict_content}
use Rattle.evidence.specs.Refusals.{line_after, EntryFails, Fails}
use Rattle.evidence.specs.Rests.{rows_text, models_text as rest_models}
use Rattle.evidence.specs.Shown.{Header, OpenEntry, Shown, Parts, Entry, Rest, header_of, ShowsParts, ShowsEntry, parts_front, entry_front, rows_front, shown_text, with_log}
use Rattle.evidence.specs.Spelling.{logs_text, part_count, entry_line, equal_text, entries_text, models_text}
use Rattle.evidence.specs.Judging.{PartsHold, EntryHoldsSoFar, HoldSoFar, claim_at, CanJudge, IsPlaceOf, AreRowsOf, HasJudged, IsRefused, Told, IsBeforeRows, IsDueIn, logs_after, HasRoom, place_after}
use Rattle.evidence.proofs.FoundParts.{verdict_same}
use Rattle.evidence.proofs.ListPlaces.{each_more}
use Rattle.evidence.proofs.PartCount.{parts_counted}
use Rattle.evidence.proofs.Refused.{BasesHold, log_first, instants_same, part_refused, entry_refused, entry_fits}

-- ---- which logs can be judged

less_small : (i n signals : ℕ) → i ≤ n → IsSmallFormula n signals → IsSmallFormula i signals
less_small i n signals le small = omega (arith, small, mul-le-mul_right {m = i} {n = n} signals le)

by_test : (n k : ℕ) (P Q : Type 0) → (n < k → P) → (k ≤ n → Q) → MatchBool (nat_lt n k) P Q
by_test n k P Q below above = elim (cases_lt n k) [
  | inl lt ↦ subst (λ (b : Bool). MatchBool b P Q) (sym (lt-ltb n k lt)) (below lt)
  | inr ge ↦ subst (λ (b : Bool). MatchBool b P Q) (sym (le-ltb n k ge)) (above ge)
]

log_small : (depth : ℕ) (v : Verdict) (n signals : ℕ) → n < log_count depth v → IsSmallFormula (verdict_instants depth v) signals → IsLogSmall v n signals
log_small depth (verdict.Proved k) n signals lt small = by_test n k (IsSmallFormula (n + 1) signals) (IsSmallFormula (k + 1) signals) (λ below. less_small (n + 1) (k + 1) signals (omega (arith, lt)) small) (λ above. small)
log_small depth (verdict.Falsified i) n signals lt small = less_small (n + 1) (i - 1) signals (omega (arith, lt)) small
log_small depth verdict.Depth n signals lt small = less_small (n + 1) (depth + 1) signals (omega (arith, lt)) small
log_small depth (verdict.Conflicts (spot.Base j)) n signals lt small =
    by_test n j (IsSmallFormula (n + 1) signals) (IsSmallFormula (j + 1) signals) (λ below. less_small (n + 1) (j + 1) signals (omega (arith, lt)) small) (λ above. small)
log_small depth (verdict.Conflicts (spot.Step k)) n signals lt small =
    by_test n k (IsSmallFormula (n + 1) signals) (IsSmallFormula (k + 1) signals) (λ below. less_small (n + 1) (k + 1) signals (omega (arith, lt)) small) (λ above. small)

is_part_log : (logs opened due : ℕ) (m : MiterLll) (h : Header) (said : EqualLine) → length m.parts ≡ part_count h.b → EqualLineFits (part_count h.b) said → 1 ≤ due + opened → due + (logs + opened) ≡ logs_after h said → IsPartLog m said logs
is_part_log logs opened due m h says.Shown count fits some there = omega (arith, count, some, there)
is_part_log logs opened due m h (says.Conflicts part stepping) count fits some there = (omega (arith, count, fits.0), omega (arith, some, there))

few_logs : (depth : ℕ) (v : Verdict) → depth ≤ 64 → VerdictFits depth v → log_count depth v ≤ 65
few_logs depth (verdict.Proved k) le fits = omega (arith, le, fits.1)
few_logs depth (verdict.Falsified n) le fits = omega (arith, le, fits.1)
few_logs depth verdict.Depth le fits = omega (arith, le)
few_logs depth (verdict.Conflicts (spot.Base j)) le fits = omega (arith, le, fits)
few_logs depth (verdict.Conflicts (spot.Step k)) le fits = omega (arith, le, fits.1)

few_parts : (h : Header) (said : EqualLine) → part_count h.b < 2 ^ 63 → logs_after h said < 2 ^ 64
few_parts h says.Shown few = omega (arith, few)
few_parts h (says.Conflicts part stepping) few = omega arith

-- a log that is due, or open, can be judged
can_at : (h : Header) (m : MiterLll) (opened : ℕ) (due : Due) (at : Place) (s : Shown) → length m.parts ≡ part_count h.b → part_count h.b < 2 ^ 63 → h.depth ≤ 64 → IsPlaceOf at s → HoldSoFar h m s → IsDueIn h s opened due → 1 ≤ due.logs + opened
    → CanJudge h.a m at × HasRoom at
can_at h m opened due (place.Parts said closed) (Parts told logs) count few le (same, number) hold is some = (
  (
    subst (IsPartLog m said) (sym number) (subst (λ (q : EqualLine). IsPartLog m q (length logs)) (sym same) (is_part_log (length logs) opened due.logs m h told count is.fits some is.logs_due)),
    subst (λ (q : EqualLine). IsSmallFormula (line_instants q) (length m.lll.signals)) (sym same) hold.small,
  ),
  omega (arith, number, few_parts h told few, is.logs_due, some),
)
can_at h m opened due (place.Parts said closed) (Entry o) count few le at hold is some = absurd at
can_at h m opened due (place.Entry p v closed) (Parts said logs) count few le at hold is some = absurd at
can_at h m opened due (place.Entry p v closed) (Entry o) count few le (number, same, logs) hold is some =
    let there : length o.logs < log_count h.depth o.verdict = omega (arith, is.logs_due, some) in
    let small = log_small h.depth o.verdict (length o.logs) (length h.a.signals) there hold.small in (
      (omega (arith, number, is.entries_due), subst (λ (w : Verdict). IsLogSmall w closed (length h.a.signals)) (sym same) (subst (λ n. IsLogSmall o.verdict n (length h.a.signals)) (sym logs) small)),
      omega (arith, logs, there, few_logs h.depth o.verdict le is.fits),
    )

pub can_judge : (h : Header) (s : Shown) (c : Claims) (opened : ℕ) (due : Due) → h.depth ≤ 64 → HasJudged h s c → IsDueIn h s opened due → 1 ≤ due.logs + opened → CanJudge h.a c.miter c.place × HasRoom c.place
can_judge h s c opened due le j is some = can_at h c.miter opened due c.place s (parts_counted h.a h.b c.miter j.paired j.miter) j.few_parts le j.place j.hold is some

-- ---- what a value has

pub short_entries : (a : Lll) (shown : Equal) (entries : List Found) → EntriesFit a shown entries → length a.obligations < 2 ^ 63 → length entries < 2 ^ 63
short_entries a (equal.Shown logs) entries fit few = omega (arith, fit, few)
short_entries a (equal.Conflicts part stepping log) entries fit few = let none : length entries ≡ 0 = ap (λ (xs : List Found). length xs) fit in omega (arith, none)

-- of a header that a value has
abbrev pub Facts : Header → MiterLll → Type 0
Facts h m = (part_count h.b < 2 ^ 63) × (length h.a.obligations < 2 ^ 63) × Paired h.a h.b × IsMiter h.a h.b m

module _ (m : MiterLll) (e : Evidence) (has : HasText e) where
  -- a log of the parts fails
  parts_fail : (said : EqualLine) (logs : List Log) (log : Log) (rest : Rest) (line : ℕ) (why : Cause) → ShowsParts said (logs ++ log ∷ []) rest e → Facts (header_of e) m → PartsHold (header_of e) m said logs
      → IsFirstOf (LogFails e.conflicts (part_claim m said (length logs)) (parts_front (header_of e) said ++ logs_text logs) log) line why → IsFirstOf (Fails e) line why
  parts_fail said logs log rest line why s f hold here =
      part_refused e has (omega (arith, f.0)) (short_entries e.a e.equal e.entries has.entries_fit f.1) m f.2 f.3 said logs rest.logs log line why s.said_is
      (s.logs_are ∙ append_assoc logs (log ∷ []) rest.logs) hold.small hold.logs_hold here

  -- the open entry fails
  pub entry_fails : (o : OpenEntry) (rest : Rest) (line : ℕ) (why : Cause) (s : ShowsEntry o rest e) → Facts (header_of e) m → IsAcceptedEqual m e.conflicts o.equal
      → ((p : ℕ) → p < length o.done → IsSomeAnd (slice_get o.done p) (IsAcceptedEntry e.a p e.depth e.conflicts))
      → IsFirstOf (EntryFails e.a (length o.done) e.depth e.conflicts (entry_front (header_of e) o) s.entry) line why → IsFirstOf (Fails e) line why
  entry_fails o rest line why s f accepted hold here =
      let First = λ (q : Equal). IsFirstOf (EntryFails e.a (length o.done) e.depth e.conflicts (models_text e ++ equal_text (part_count e.b) q ++ entries_text 1 o.done) s.entry) line why in
      entry_refused e has (omega (arith, f.0)) (short_entries e.a e.equal e.entries has.entries_fit f.1) m f.2 f.3 o.done rest.entries s.entry line why s.entries_are
      (subst (IsAcceptedEqual m e.conflicts) (sym s.equal_is) accepted) hold (subst First (sym s.equal_is) here)

  module _ (f : Facts (header_of e) m) (o : OpenEntry) (rest : Rest) (s : ShowsEntry o rest e) where
    abbrev pub place_front : List ℕ → List ℕ
    place_front t = entry_front (header_of e) o ++ lll_line ((codes "entry" ++ number_field (length o.done + 1)) ++ t)

    pub fits : EntryFits e.depth e.a s.entry
    fits = entry_fits e has (omega (arith, f.0)) (short_entries e.a e.equal e.entries has.entries_fit f.1) m f.2 f.3 o.done rest.entries s.entry s.entries_are

    pub small_number : length o.done + 1 < 2 ^ 64
    small_number =
        let long : length e.entries ≡ length (o.done ++ s.entry ∷ rest.entries) = ap (λ (xs : List Found). length xs) s.entries_are in
        omega (arith, long, length-append o.done (s.entry ∷ rest.entries), short_entries e.a e.equal e.entries has.entries_fit f.1)

    small_as : (v : Verdict) → v ≡ o.verdict → IsSmallFormula (verdict_instants e.depth o.verdict) (length e.a.signals) → IsSmallFormula (verdict_instants e.depth v) (length e.a.signals)
    small_as v same small = subst (λ (w : Verdict). IsSmallFormula (verdict_instants e.depth w) (length e.a.signals)) (sym same) small

    pub small_entry : IsSmallFormula (verdict_instants e.depth o.verdict) (length e.a.signals) → IsSmallFormula (entry_instants e.depth s.entry) (length e.a.signals)
    small_entry small = subst (λ n. IsSmallFormula n (length e.a.signals)) (sym (instants_same s.entry e.depth)) (small_as (verdict_of s.entry) s.is_open.verdict small)

    -- what stands in the entry's line
    pub head_is : place_front (verdict_content o.verdict) ≡ entry_front (header_of e) o ++ entry_line (length o.done + 1) s.entry
    head_is = ap place_front (ap verdict_content (sym s.is_open.verdict) ∙ sym (verdict_same s.entry))

  -- a log of the open entry fails
  log_fails : (o : OpenEntry) (log : Log) (rest : Rest) (line : ℕ) (why : Cause) → ShowsEntry (record o { logs = o.logs ++ log ∷ [] }) rest e → Facts (header_of e) m → EntryHoldsSoFar (header_of e) m o
      → IsFirstOf (LogFails e.conflicts (entry_claim e.a (length o.done) o.verdict (length o.logs)) (rows_front (header_of e) o) log) line why → IsFirstOf (Fails e) line why
  log_fails o log rest line why s f hold here =
      let more : OpenEntry = record o { logs = o.logs ++ log ∷ [] } in
      let p = length o.done in
      let n = length o.logs in
      let entry = s.entry in
      let front = entry_front (header_of e) o in
      let At = λ (w : Verdict) (t : List ℕ). IsFirstOf (LogFails e.conflicts (entry_claim e.a p w n) (t ++ logs_text o.logs) log) line why in
      let there : At (verdict_of entry) (front ++ entry_line (p + 1) entry) =
      subst (At (verdict_of entry)) (head_is f more rest s) (subst (λ (w : Verdict). At w (place_front f more rest s (verdict_content o.verdict))) (sym s.is_open.verdict) here) in
      entry_fails more rest line why s f hold.equal_holds hold.done_hold
      (log_first e.a p e.depth e.conflicts has.depth_bound (small_number f more rest s) front entry (fits f more rest s) (small_entry f more rest s hold.small)
      o.logs rest.logs log line why (s.is_open.logs ∙ append_assoc o.logs (log ∷ []) rest.logs) (subst (λ (w : Verdict). BasesHold e.a p e.conflicts w o.logs) (sym s.is_open.verdict) hold.logs_hold) there)

-- ---- one log more

-- what a log claims after what is shown
abbrev pub claim_after : Lll → MiterLll → Shown → Claim
claim_after a m (Parts said logs) = part_claim m said (length logs)
claim_after a m (Entry o) = entry_claim a (length o.done) o.verdict (length o.logs)

-- the lines before it
abbrev pub claim_front : Header → Shown → List ℕ
claim_front h (Parts said logs) = parts_front h said ++ logs_text logs
claim_front h (Entry o) = rows_front h o

claim_same : (a : Lll) (m : MiterLll) (at : Place) (s : Shown) → IsPlaceOf at s → claim_at a m at ≡ claim_after a m s
claim_same a m (place.Parts said closed) (Parts told logs) (same, number) = ap (λ (q : EqualLine). part_claim m q closed) same ∙ ap (part_claim m told) number
claim_same a m (place.Parts said closed) (Entry o) at = absurd at
claim_same a m (place.Entry p v closed) (Parts said logs) at = absurd at
claim_same a m (place.Entry p v closed) (Entry o) (number, same, logs) =
    ap (λ n. entry_claim a n v closed) number ∙ ap (λ (w : Verdict). entry_claim a (length o.done) w closed) same ∙ ap (entry_claim a (length o.done) o.verdict) logs

place_more : (at : Place) (s : Shown) (log : Log) → IsPlaceOf at s → IsPlaceOf (place_after at) (with_log s log)
place_more (place.Parts said closed) (Parts told logs) log (same, number) = (same, omega (arith, number, length-append logs (log ∷ [])))
place_more (place.Parts said closed) (Entry o) log at = absurd at
place_more (place.Entry p v closed) (Parts said logs) log at = absurd at
place_more (place.Entry p v closed) (Entry o) log (number, same, logs) = (number, same, omega (arith, logs, length-append o.logs (log ∷ [])))

rows_more : (at : ℕ) (rows : List (List Bool)) (h : Header) (s : Shown) (log : Log) → IsBeforeRows s → AreRowsOf at rows h s → AreRowsOf at rows h (with_log s log)
rows_more at rows h (Parts said logs) log before are = tt
rows_more at rows h (Entry o) log (none, no_model) (same, begins, inputs) =
    (same, (λ some. absurd (let long : length o.rows ≡ 0 = ap (λ (rs : List (List Bool)). length rs) none in omega (arith, long, some))), inputs)

hold_more : (h : Header) (m : MiterLll) (s : Shown) (log : Log) → HoldSoFar h m s → LogHolds h.conflicts (claim_after h.a m s) log → HoldSoFar h m (with_log s log)
hold_more h m (Parts said logs) log hold here = record {
  small = hold.small;
  logs_hold = each_more (λ n l. LogHolds h.conflicts (part_claim m said n) l) logs log hold.logs_hold here;
}
hold_more h m (Entry o) log hold here = record {
  equal_holds = hold.equal_holds;
  done_hold = hold.done_hold;
  small = hold.small;
  logs_hold = each_more (λ n l. LogHolds h.conflicts (entry_claim h.a (length o.done) o.verdict n) l) o.logs log hold.logs_hold here;
  rows_hold = hold.rows_hold;
  models_hold = hold.models_hold;
}

-- what stays of the state while a log is closed
pub record KeepsLogs (c now : Claims) : Type 0 where
  pub depth : now.depth ≡ c.depth
  pub conflicts : now.conflicts ≡ c.conflicts
  pub miter : now.miter ≡ c.miter
  pub place : now.place ≡ place_after c.place
  pub rows : now.rows ≡ c.rows
  pub rows_at : now.rows_at ≡ c.rows_at

-- the log shows what it claims
log_holds : (h : Header) (s : Shown) (c now : Claims) (log : Log) → HasJudged h s c → IsBeforeRows s → KeepsLogs c now → LogHolds h.conflicts (claim_after h.a c.miter s) log → HasJudged h (with_log s log) now
log_holds h s c now log j before keeps here = record {
  depth = keeps.depth ∙ j.depth;
  conflicts = keeps.conflicts ∙ j.conflicts;
  few_parts = j.few_parts;
  few_obligations = j.few_obligations;
  paired = j.paired;
  miter = subst (IsMiter h.a h.b) (sym keeps.miter) j.miter;
  place = subst (λ (at : Place). IsPlaceOf at (with_log s log)) (sym keeps.place) (place_more c.place s log j.place);
  rows = subst (λ n. AreRowsOf n now.rows h (with_log s log)) (sym keeps.rows_at) (subst (λ (rs : List (List Bool)). AreRowsOf c.rows_at rs h (with_log s log)) (sym keeps.rows) (rows_more c.rows_at c.rows h s log before j.rows));
  hold = subst (λ (m : MiterLll). HoldSoFar h m (with_log s log)) (sym keeps.miter) (hold_more h c.miter s log j.hold here);
}

pub facts_of : (h : Header) (s : Shown) (c : Claims) → HasJudged h s c → Facts h c.miter
facts_of h s c j = (j.few_parts, j.few_obligations, j.paired, j.miter)

-- it doesn't
refused_log : (h : Header) (m : MiterLll) (s : Shown) (log : Log) (line : ℕ) (why : Cause) → Facts h m → HoldSoFar h m s → IsFirstOf (LogFails h.conflicts (claim_after h.a m s) (claim_front h s) log) line why → IsRefused h (with_log s log) line why
refused_log h m (Parts said logs) log line why f hold here = λ e has begins.
    let P = λ (k : Header). Facts k m → PartsHold k m said logs → IsFirstOf (LogFails k.conflicts (part_claim m said (length logs)) (parts_front k said ++ logs_text logs) log) line why → IsFirstOf (Fails e) line why in
    subst P begins.header (parts_fail m e has said logs log begins.rest line why begins.shows) f hold here
refused_log h m (Entry o) log line why f hold here = λ e has begins.
    let P = λ (k : Header). Facts k m → EntryHoldsSoFar k m o → IsFirstOf (LogFails k.conflicts (entry_claim k.a (length o.done) o.verdict (length o.logs)) (rows_front k o) log) line why → IsFirstOf (Fails e) line why in
    subst P begins.header (log_fails m e has o log begins.rest line why begins.shows) f hold here

pub front_same : (h : Header) (s : Shown) → IsBeforeRows s → shown_text h s ≡ claim_front h s
front_same h (Parts said logs) before = refl
front_same h (Entry o) (no_rows, no_models) =
    ap (λ (rs : List (List Bool)). rows_front h o ++ rows_text rs ++ rest_models o.models) no_rows
    ∙ ap (λ (ms : List (List Bool)). rows_front h o ++ rows_text [] ++ rest_models ms) no_models ∙ append-nil (rows_front h o ++ rows_text []) ∙ append-nil (rows_front h o)

-- the answer for a log
abbrev pub LogAnswer : Header → Claims → Shown → Log → Result Unit ClaimFault → Type 0
LogAnswer h c s log result = (front : List ℕ) → c.log_at ≡ line_after front →
    Judges (LogHolds c.conflicts (claim_at h.a c.miter c.place) log) (LogFails c.conflicts (claim_at h.a c.miter c.place) front log) result

module _ (h : Header) (s : Shown) (c : Claims) (log : Log) (j : HasJudged h s c) (before : IsBeforeRows s) (begins : c.log_at ≡ line_after (shown_text h s)) where
  abbrev Answered : Result Unit ClaimFault → Type 0
  Answered result = Judges (LogHolds h.conflicts (claim_after h.a c.miter s) log) (LogFails h.conflicts (claim_after h.a c.miter s) (claim_front h s) log) result

  answered : (result : Result Unit ClaimFault) → LogAnswer h c s log result → Answered result
  answered result answer =
      let At = λ (n : ℕ) (q : Claim). Judges (LogHolds n q log) (LogFails n q (claim_front h s) log) result in
      subst (At h.conflicts) (claim_same h.a c.miter c.place s j.place) (subst (λ n. At n (claim_at h.a c.miter c.place)) j.conflicts (answer (claim_front h s) (begins ∙ ap line_after (front_same h s before))))

  pub closes_ok : (now : Claims) → KeepsLogs c now → LogAnswer h c s log (Ok tt) → HasJudged h (with_log s log) now
  closes_ok now keeps answer = log_holds h s c now log j before keeps (answered (Ok tt) answer)

  pub closes_err : (fault : ClaimFault) (Holds : Type 0) → LogAnswer h c s log (Err fault) → Told Holds h (with_log s log) (Err fault)
  closes_err (claim.Refused line why) Holds answer = refused_log h c.miter s log line why (facts_of h s c j) j.hold (answered (Err (claim.Refused line why)) answer)
  closes_err claim.Memory Holds answer = tt

  -- the answer that is handed on
  pub closes_result : (Holds : Type 0) (result : Result Unit ClaimFault) (fault : ClaimFault) → result ≡ Err fault → LogAnswer h c s log (Err fault) → Told Holds h (with_log s log) result
  closes_result Holds result fault same answer = subst (λ (r : Result Unit ClaimFault). Told Holds h (with_log s log) r) (sym same) (closes_err fault Holds answer)
