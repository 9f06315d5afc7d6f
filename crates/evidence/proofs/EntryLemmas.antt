-- In which lines an entry may fail, and which of its causes comes first.
use Rattle.std.proofs.Common.{◌≡◌, ℕ, ◌+◌, ◌^◌, ◌<◌, ◌≤◌, List, [], ◌∷◌, ◌++◌, length, refl, sym, ◌∙◌, inl, inr, ◌⊎◌, arith}
use Rattle.std.specs.Prelude.{codes, All}
use Rattle.std.specs.List.{flat_map}
use Rattle.std.proofs.lemmas.List.Elements.{All-nil, All-cons}
use Rattle.std.proofs.lemmas.Bool.{cases_lt}
use Rattle.std.proofs.Math.Nat.{mul-le-mul_right}
use Rattle.lll_core.specs.declared.lll.Lll.{Lll}
use Rattle.lll_text.specs.Lines.{line_feeds}
use Rattle.lll_text.specs.Spelling.{number_field}
use Rattle.rup_checker.specs.declared.log.Log.{Log}
use Rattle.unroll_cnf.specs.Unrollings.{base_formula, step_formula}
use Rattle.kinduction.specs.declared.found.Found.{Found}
use Rattle.kinduction.specs.declared.found.Found.TheVariants as found
use Rattle.kinduction.specs.declared.found.Spot.{Spot}
use Rattle.kinduction.specs.declared.found.Spot.TheVariants as spot
use Rattle.kinduction.specs.Rounds.{RefuteBases}
use Rattle.evidence.specs.declared.fault.Cause.{Cause}
use Rattle.evidence.specs.declared.fault.Cause.TheVariants as cause
use Rattle.evidence.specs.Accepted.{IsSmallFormula, place_instants, entry_instants, place_formula}
use Rattle.evidence.specs.Counts.{IsLog, PlaceFits, EntryFits}
use Rattle.evidence.specs.Spelling.{log_text, logs_text, bits_line, verdict_field, proof_text, entry_line, entry_text}
use Rattle.evidence.specs.Lines.{logs_lines, last_lines, entry_lines}
use Rattle.evidence.specs.Refusals.{line_after, IsTooLarge, RefutationsFail, LastFails, base_logs, EntryFails}
use Rattle.evidence.specs.Claims.{IsFirstOf}
use Rattle.evidence.proofs.Cutting.{avoids-append, avoids-number}
use Rattle.evidence.proofs.EntryText.{avoids-verdict}
use Rattle.evidence.proofs.LineLemmas.{line_feeds-append, line_feeds-line, line_feeds-lines, line_feeds-log, line_feeds-logs, line_feeds-bits}
use Rattle.evidence.proofs.OrderLemmas.{first_left, first_right, first_alone}
use Rattle.evidence.proofs.BoundLemmas.{IsWithin, at_once_within, refutation_within, spent_within, refutations_within, refutations_never}

-- ---- lines

place_logs : (depth : ℕ) (place : Spot) (bases : List Log) → PlaceFits depth place bases → All IsLog bases
place_logs depth (spot.Base j) bases fits = fits.1.each
place_logs depth (spot.Step k) bases fits = fits.2.each

-- the logs of base formulas are logs
pub bases_are_logs : (depth : ℕ) (l : Lll) (entry : Found) → EntryFits depth l entry → All IsLog (base_logs entry)
bases_are_logs depth l (found.Proved k bases step) fits = fits.2.each
bases_are_logs depth l (found.Falsified bits bases) fits = fits.2.each
bases_are_logs depth l (found.Depth step_model bases) fits = fits.0.each
bases_are_logs depth l (found.Conflicts place log bases) fits = place_logs depth place bases fits.0

any_all : {X : Type 0} (xs : List X) → All (λ x. Unit {0}) xs
any_all [] = All-nil (λ x. Unit {0})
any_all (x ∷ xs) = All-cons (λ x. Unit {0}) x xs tt (any_all xs)

proof_lines : (depth : ℕ) (l : Lll) (entry : Found) → EntryFits depth l entry → line_feeds (proof_text entry) ≡ logs_lines (base_logs entry) + last_lines entry
proof_lines depth l (found.Proved k bases step) fits = line_feeds-append (logs_text bases) (log_text step) ∙ omega (arith, line_feeds-logs bases fits.2.each, line_feeds-log step fits.3)
proof_lines depth l (found.Falsified bits bases) fits =
    line_feeds-append (logs_text bases) (flat_map (bits_line (codes "bits:")) bits)
    ∙ omega (arith, line_feeds-logs bases fits.2.each, line_feeds-lines (bits_line (codes "bits:")) bits (λ xs. Unit {0}) (λ xs u. line_feeds-bits (codes "bits:") xs refl) (any_all bits))
proof_lines depth l (found.Depth step_model bases) fits =
    line_feeds-append (logs_text bases) (bits_line (codes "model:") step_model) ∙ omega (arith, line_feeds-logs bases fits.0.each, line_feeds-bits (codes "model:") step_model refl)
proof_lines depth l (found.Conflicts place log bases) fits =
    line_feeds-append (logs_text bases) (log_text log) ∙ omega (arith, line_feeds-logs bases (place_logs depth place bases fits.0), line_feeds-log log fits.1)

pub head_lines : (depth : ℕ) (l : Lll) (number : ℕ) (entry : Found) → depth ≤ 64 → number < 2 ^ 64 → EntryFits depth l entry → line_feeds (entry_line number entry) ≡ 1
head_lines depth l number entry le lt fits =
    line_feeds-line (codes "entry" ++ number_field number ++ verdict_field entry)
    (avoids-append 10 (codes "entry" ++ number_field number) (verdict_field entry) (avoids-append 10 (codes "entry") (number_field number) refl (avoids-number 10 number refl refl lt)) (avoids-verdict depth l entry le fits))

-- the text of an entry has so many lines
pub text_lines : (depth : ℕ) (l : Lll) (number : ℕ) (entry : Found) → depth ≤ 64 → number < 2 ^ 64 → EntryFits depth l entry → line_feeds (entry_text number entry) ≡ entry_lines entry
text_lines depth l number entry le lt fits =
    line_feeds-append (entry_line number entry) (proof_text entry) ∙ omega (arith, head_lines depth l number entry le lt fits, proof_lines depth l entry fits)

-- ---- formulas

-- fewer instants of a small formula
fewer : (i n signals : ℕ) → i ≤ n → IsSmallFormula n signals → IsSmallFormula i signals
fewer i n signals le small = omega (arith, small, mul-le-mul_right {m = i} {n = n} signals le)

place_bases : (depth : ℕ) (place : Spot) (bases : List Log) (j : ℕ) → PlaceFits depth place bases → j < length bases → (j + 1 ≤ place_instants place) × (length bases ≤ depth)
place_bases depth (spot.Base n) bases j fits lt = (omega (arith, fits.1.long, lt), omega (arith, fits.0, fits.1.long))
place_bases depth (spot.Step k) bases j fits lt = (omega (arith, fits.2.long, lt), omega (arith, fits.1, fits.2.long))

some_bases : (depth : ℕ) (l : Lll) (entry : Found) (j : ℕ) → EntryFits depth l entry → j < length (base_logs entry) → (j + 1 ≤ entry_instants depth entry) × (length (base_logs entry) ≤ depth)
some_bases depth l (found.Proved k bases step) j fits lt = (omega (arith, fits.2.long, lt), omega (arith, fits.1, fits.2.long))
some_bases depth l (found.Falsified bits bases) j fits lt = (omega (arith, fits.0, fits.2.long, lt), omega (arith, fits.0, fits.1, fits.2.long))
some_bases depth l (found.Depth step_model bases) j fits lt = (omega (arith, fits.0.long, lt), omega (arith, fits.0.long))
some_bases depth l (found.Conflicts place log bases) j fits lt = place_bases depth place bases j fits.0 lt

-- the base formulas of an entry are small where its largest one is
pub bases_small : (depth : ℕ) (l : Lll) (entry : Found) → EntryFits depth l entry → IsSmallFormula (entry_instants depth entry) (length l.signals) → (j : ℕ) → j < length (base_logs entry) → IsSmallFormula (j + 1) (length l.signals)
bases_small depth l entry fits small j lt = fewer (j + 1) (entry_instants depth entry) (length l.signals) (some_bases depth l entry j fits lt).0 small

few_of : (depth n : ℕ) → (n ≡ 0) ⊎ (n ≤ depth) → depth ≤ 64 → n ≤ 64
few_of depth n few le = elim few [ inl none ↦ omega (arith, none) | inr some ↦ omega (arith, some, le) ]

-- and there are few of them
pub bases_few : (depth : ℕ) (l : Lll) (entry : Found) → depth ≤ 64 → EntryFits depth l entry → length (base_logs entry) ≤ 64
bases_few depth l entry le fits = few_of depth (length (base_logs entry)) (elim (cases_lt 0 (length (base_logs entry))) [ inl some ↦ inr (some_bases depth l entry 0 fits some).1 | inr none ↦ inl (omega (arith, none)) ]) le

-- ---- one entry

module _ (l : Lll) (p depth budget : ℕ) (le : depth ≤ 64) (small_number : p + 1 < 2 ^ 64) (front : List ℕ) (entry : Found) (fits : EntryFits depth l entry) where
  abbrev pub logs_front : List ℕ
  logs_front = front ++ entry_line (p + 1) entry

  abbrev pub last_front : List ℕ
  last_front = logs_front ++ logs_text (base_logs entry)

  abbrev Large : ℕ → Cause → Type 0
  Large line why = IsTooLarge (entry_instants depth entry) (length l.signals) front line why

  abbrev BasesFail : ℕ → Cause → Type 0
  BasesFail line why = RefutationsFail (base_formula l p) logs_front (base_logs entry) line why

  abbrev Last : ℕ → Cause → Type 0
  Last line why = LastFails l p depth budget last_front entry line why

  abbrev Later : ℕ → Cause → Type 0
  Later line why = BasesFail line why ⊎ Last line why

  logs_feeds : line_feeds logs_front ≡ line_feeds front + 1
  logs_feeds = line_feeds-append front (entry_line (p + 1) entry) ∙ omega (arith, head_lines depth l (p + 1) entry le small_number fits)

  last_feeds : line_feeds last_front ≡ line_feeds front + 1 + logs_lines (base_logs entry)
  last_feeds = line_feeds-append logs_front (logs_text (base_logs entry)) ∙ omega (arith, logs_feeds, line_feeds-logs (base_logs entry) (bases_are_logs depth l entry fits))

  pub logs_begin : (at : ℕ) → at ≡ line_after front → at + 1 ≡ line_after logs_front
  logs_begin at begins = omega (arith, begins, logs_feeds)

  pub last_begins : (at : ℕ) → at ≡ line_after front → at + 1 + logs_lines (base_logs entry) ≡ line_after last_front
  last_begins at begins = omega (arith, begins, last_feeds)

  bases_within : (line : ℕ) (why : Cause) → BasesFail line why → IsWithin logs_front (logs_lines (base_logs entry)) line
  bases_within line why fails = refutations_within (base_formula l p) logs_front (base_logs entry) (bases_are_logs depth l entry fits) line why fails

  last_within : (line : ℕ) (why : Cause) → Last line why → IsWithin last_front (last_lines entry) line
  last_within line why fails = by entry fits fails
    where
      by : (entry : Found) → EntryFits depth l entry → LastFails l p depth budget last_front entry line why → IsWithin last_front (last_lines entry) line
      by (found.Proved k bases step) fits fails = refutation_within (step_formula l p k) last_front step line why fails
      by (found.Falsified bits bases) fits fails = at_once_within last_front (length bits) line fits.0 fails.0
      by (found.Depth step_model bases) fits fails = at_once_within last_front 1 line (omega arith) fails.0
      by (found.Conflicts place log bases) fits fails = spent_within (place_formula l p place) budget last_front log line why fails

  later_after : (line : ℕ) (why : Cause) → Later line why → line_feeds front + 1 < line
  later_after line why fails = elim fails [
    | inl bases ↦ (let w = bases_within line why bases in omega (arith, w.after, logs_feeds))
    | inr last ↦ (let w = last_within line why last in omega (arith, w.after, last_feeds))
  ]

  -- its formulas are too large
  pub entry_large : (at : ℕ) → at ≡ line_after front → ¬ (IsSmallFormula (entry_instants depth entry) (length l.signals)) → IsFirstOf (EntryFails l p depth budget front entry) at cause.Size
  entry_large at begins large = first_left Large Later at cause.Size
      (first_alone Large at cause.Size (record { at = begins; named = refl; large = large }) (λ other reason fails. (fails.at ∙ sym begins, fails.named)))
      (λ other reason fails. omega (arith, begins, later_after other reason fails))

  never_large : IsSmallFormula (entry_instants depth entry) (length l.signals) → (line : ℕ) (why : Cause) → Large line why → ⊥
  never_large small line why fails = fails.large small

  -- one of the logs of base formulas doesn't refute its own
  pub entry_bases : (line : ℕ) (why : Cause) → IsSmallFormula (entry_instants depth entry) (length l.signals) → IsFirstOf (RefutationsFail (base_formula l p) logs_front (base_logs entry)) line why
      → IsFirstOf (EntryFails l p depth budget front entry) line why
  entry_bases line why small first = first_right Large Later line why (never_large small) (first_left BasesFail Last line why first
      (λ other reason fails. let w = last_within other reason fails in let v = bases_within line why first.fails in omega (arith, w.after, v.upto, last_feeds, logs_feeds)))

  -- what shows it besides doesn't hold
  pub entry_last : (line : ℕ) (why : Cause) → IsSmallFormula (entry_instants depth entry) (length l.signals) → RefuteBases l p (base_logs entry) → IsFirstOf (LastFails l p depth budget last_front entry) line why
      → IsFirstOf (EntryFails l p depth budget front entry) line why
  entry_last line why small refuted first = first_right Large Later line why (never_large small)
      (first_right BasesFail Last line why (λ other reason fails. refutations_never (base_formula l p) logs_front (base_logs entry) (bases_are_logs depth l entry fits) refuted other reason fails) first)

  -- it fails in one of its lines
  pub entry_within : (line : ℕ) (why : Cause) → EntryFails l p depth budget front entry line why → IsWithin front (entry_lines entry) line
  entry_within line why fails = elim fails [
    | inl large ↦ at_once_within front (entry_lines entry) line (omega arith) large.at
    | inr later ↦ elim later [
      | inl bases ↦ (let w = bases_within line why bases in record { after = omega (arith, w.after, logs_feeds); upto = omega (arith, w.upto, logs_feeds) })
      | inr last ↦ (let w = last_within line why last in record { after = omega (arith, w.after, last_feeds); upto = omega (arith, w.upto, last_feeds) })
    ]
  ]
