-- In which lines what is said of the parts may fail, and which of its causes comes first.
use Rattle.std.proofs.Common.{◌≡◌, ℕ, zero, suc, ◌+◌, ◌*◌, ◌/◌, ◌%◌, ◌^◌, ◌<◌, Bool, true, false, List, ◌++◌, length, take, slice_get, refl, sym, ap, subst, ◌∙◌, inl, inr, if◌then◌else◌, arith}
use Rattle.std.specs.Prelude.{◌==◌, codes, IsSomeAnd}
use Rattle.lll_core.specs.declared.lll.Lll.{Lll}
use Rattle.lll_text.specs.Lines.{line_feeds}
use Rattle.miter.specs.declared.parts.MiterLll.{MiterLll}
use Rattle.rup_checker.specs.declared.log.Log.{Log}
use Rattle.rup_checker.specs.Formulas.{Cnf}
use Rattle.rup_checker.specs.Logs.{Accepts}
use Rattle.kinduction.specs.declared.equal.Equal.{Equal}
use Rattle.kinduction.specs.declared.equal.Equal.TheVariants as equal
use Rattle.kinduction.specs.Parts.{ShowParts, part_formula}
use Rattle.evidence.specs.declared.evidence.Evidence.{Evidence}
use Rattle.evidence.specs.declared.fault.Cause.{Cause}
use Rattle.evidence.specs.declared.fault.Cause.TheVariants as cause
use Rattle.evidence.specs.Accepted.{IsSmallFormula, part_instants}
use Rattle.evidence.specs.Counts.{EqualFits}
use Rattle.evidence.specs.Spelling.{logs_text, log_text, part_count, equal_line, equal_text, models_text}
use Rattle.evidence.specs.Lines.{parts_lines}
use Rattle.evidence.specs.Refusals.{line_after, RefutationFails, RefutationsFail, IsTooLarge, NthPartFormula, PartsFail, EqualFails}
use Rattle.evidence.specs.Claims.{IsFirstOf, RefuteAll, nth_part_formula}
use Rattle.evidence.proofs.AtOnce.{some_within}
use Rattle.evidence.proofs.EntryText.{conflicts_content, avoids-conflicts}
use Rattle.evidence.proofs.LineLemmas.{line_feeds-append, line_feeds-line, line_feeds-number, line_feeds-log, line_feeds-logs}
use Rattle.evidence.proofs.OrderLemmas.{first_left, first_right, first_alone}
use Rattle.evidence.proofs.BoundLemmas.{IsWithin, at_once_within, spent_within, refutations_within}

-- ---- the formulas of the parts by number

even_or_odd : (i : ℕ) (stepping : Bool) → ((2 * i + (if stepping then 1 else 0)) / 2 ≡ i) × (((2 * i + (if stepping then 1 else 0)) % 2 == 1) ≡ stepping)
even_or_odd i true = let m : (2 * i + 1) % 2 ≡ 1 = omega arith in (omega arith, ap (λ (k : ℕ). k == 1) m)
even_or_odd i false = let m : (2 * i + 0) % 2 ≡ 0 = omega arith in (omega arith, ap (λ (k : ℕ). k == 1) m)

nth_is : (m : MiterLll) (n : ℕ) (f : Cnf) → NthPartFormula m n f → f ≡ nth_part_formula m n
nth_is m n f (i, stepping, number, formula) =
    let k = 2 * i + (if stepping then 1 else 0) in
    let both = even_or_odd i stepping in
    let half : n / 2 ≡ i = ap (λ (x : ℕ). x / 2) number ∙ both.0 in
    let odd : (n % 2 == 1) ≡ stepping = ap (λ (x : ℕ). x % 2 == 1) number ∙ both.1 in
    formula ∙ ap (λ (x : ℕ). part_formula m x stepping) (sym half) ∙ ap (part_formula m (n / 2)) (sym odd)

rest_of : (r : ℕ) → r < 2 → r ≡ (if r == 1 then 1 else 0)
rest_of zero lt = refl
rest_of (suc zero) lt = refl
rest_of (suc (suc r)) lt = absurd (omega (arith, lt))

is_nth : (m : MiterLll) (n : ℕ) → NthPartFormula m n (nth_part_formula m n)
is_nth m n = (n / 2, n % 2 == 1, (let r = rest_of (n % 2) (omega arith) in omega (arith, r)), refl)

-- where a log of the parts fails
module _ (m : MiterLll) (budget : ℕ) (front : List ℕ) (logs : List Log) where
  pub to_logs : (line : ℕ) (why : Cause) → PartsFail m budget front (equal.Shown logs) line why → RefutationsFail (nth_part_formula m) front logs line why
  to_logs line why fails =
      let n = fails.0 in
      let there = front ++ logs_text (take n logs) in
      let some : IsSomeAnd (slice_get logs n) (λ log. RefutationFails (nth_part_formula m n) there log line why) =
      subst (λ f. IsSomeAnd (slice_get logs n) (λ log. RefutationFails f there log line why)) (nth_is m n fails.1 fails.2) fails.3 in
      (n, some_within logs n (λ log. RefutationFails (nth_part_formula m n) there log line why) some, some)

  pub from_logs : (line : ℕ) (why : Cause) → RefutationsFail (nth_part_formula m) front logs line why → PartsFail m budget front (equal.Shown logs) line why
  from_logs line why fails = (fails.0, nth_part_formula m fails.0, is_nth m fails.0, fails.2)

-- the logs of all parts
pub show_parts : (m : MiterLll) (logs : List Log) → length logs ≡ 2 * length m.parts → RefuteAll (nth_part_formula m) logs → ShowParts m logs
show_parts m logs count refuted = record {
  count = count;
  bases = λ i lt. at (2 * i) i false (omega (arith, lt, count)) (even_or_odd i false) (omega arith);
  steps = λ i lt. at (2 * i + 1) i true (omega (arith, lt, count)) (even_or_odd i true) refl;
}
  where
    at : (n i : ℕ) (stepping : Bool) → n < length logs → ((2 * i + (if stepping then 1 else 0)) / 2 ≡ i) × (((2 * i + (if stepping then 1 else 0)) % 2 == 1) ≡ stepping)
        → n ≡ 2 * i + (if stepping then 1 else 0) → IsSomeAnd (slice_get logs n) (λ log. Accepts (part_formula m i stepping) log.steps)
    at n i stepping lt both number =
        subst (λ f. IsSomeAnd (slice_get logs n) (λ log. Accepts f log.steps)) (sym (nth_is m n (part_formula m i stepping) (i, stepping, number, refl))) (refuted n lt)

-- ---- what is said of the parts

module _ (e : Evidence) (m : MiterLll) (few : part_count e.b < 2 ^ 64) (fits : EqualFits e.b e.equal) where
  abbrev pub equal_front : List ℕ
  equal_front = models_text e ++ equal_line (part_count e.b) e.equal

  abbrev Large : ℕ → Cause → Type 0
  Large line why = IsTooLarge (part_instants e.equal) (length m.lll.signals) (models_text e) line why

  abbrev Parts : ℕ → Cause → Type 0
  Parts line why = PartsFail m e.conflicts equal_front e.equal line why

  head_lines : (b : Lll) (shown : Equal) → part_count b < 2 ^ 64 → EqualFits b shown → line_feeds (equal_line (part_count b) shown) ≡ 1
  head_lines b (equal.Shown logs) few fits = line_feeds-number (codes "equal shown") (part_count b) refl few
  head_lines b (equal.Conflicts part stepping log) few fits = line_feeds-line (conflicts_content part stepping) (avoids-conflicts part stepping fits.1)

  front_feeds : line_feeds equal_front ≡ line_feeds (models_text e) + 1
  front_feeds = line_feeds-append (models_text e) (equal_line (part_count e.b) e.equal) ∙ omega (arith, head_lines e.b e.equal few fits)

  pub logs_begin : (at : ℕ) → at ≡ line_after (models_text e) → at + 1 ≡ line_after equal_front
  logs_begin at begins = omega (arith, begins, front_feeds)

  parts_within : (line : ℕ) (why : Cause) → Parts line why → IsWithin equal_front (parts_lines e.equal) line
  parts_within line why fails = by e.equal fits fails
    where
      by : (shown : Equal) → EqualFits e.b shown → PartsFail m e.conflicts equal_front shown line why → IsWithin equal_front (parts_lines shown) line
      by (equal.Shown logs) fits fails = refutations_within (nth_part_formula m) equal_front logs fits.each line why (to_logs m e.conflicts equal_front logs line why fails)
      by (equal.Conflicts part stepping log) fits fails = spent_within (part_formula m part stepping) e.conflicts equal_front log line why fails

  -- their formulas are too large
  pub equal_large : (at : ℕ) → at ≡ line_after (models_text e) → ¬ (IsSmallFormula (part_instants e.equal) (length m.lll.signals)) → IsFirstOf (EqualFails e m) at cause.Size
  equal_large at begins large = first_left Large Parts at cause.Size
      (first_alone Large at cause.Size (record { at = begins; named = refl; large = large }) (λ other reason fails. (fails.at ∙ sym begins, fails.named)))
      (λ other reason fails. let w = parts_within other reason fails in omega (arith, begins, w.after, front_feeds))

  -- a log fails
  pub equal_parts : (line : ℕ) (why : Cause) → IsSmallFormula (part_instants e.equal) (length m.lll.signals) → IsFirstOf (PartsFail m e.conflicts equal_front e.equal) line why → IsFirstOf (EqualFails e m) line why
  equal_parts line why small first = first_right Large Parts line why (λ other reason fails. fails.large small) first

  -- it fails in one of its lines
  pub equal_within : (line : ℕ) (why : Cause) → EqualFails e m line why → IsWithin (models_text e) (1 + parts_lines e.equal) line
  equal_within line why fails = elim fails [
    | inl large ↦ at_once_within (models_text e) (1 + parts_lines e.equal) line (omega arith) large.at
    | inr parts ↦ (let w = parts_within line why parts in record { after = omega (arith, w.after, front_feeds); upto = omega (arith, w.upto, front_feeds) })
  ]

  text_feeds : (b : Lll) (shown : Equal) → part_count b < 2 ^ 64 → EqualFits b shown → line_feeds (equal_text (part_count b) shown) ≡ 1 + parts_lines shown
  text_feeds b (equal.Shown logs) few fits =
      line_feeds-append (equal_line (part_count b) (equal.Shown logs)) (logs_text logs) ∙ omega (arith, head_lines b (equal.Shown logs) few fits, line_feeds-logs logs fits.each)
  text_feeds b (equal.Conflicts part stepping log) few fits =
      line_feeds-append (equal_line (part_count b) (equal.Conflicts part stepping log)) (log_text log) ∙ omega (arith, head_lines b (equal.Conflicts part stepping log) few fits, line_feeds-log log fits.2)

  -- where the entries begin
  pub entries_begin : line_feeds (models_text e ++ equal_text (part_count e.b) e.equal) ≡ line_feeds (models_text e) + 1 + parts_lines e.equal
  entries_begin = line_feeds-append (models_text e) (equal_text (part_count e.b) e.equal) ∙ omega (arith, text_feeds e.b e.equal few fits)
