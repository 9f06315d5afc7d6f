-- The entry that logs, rows and assignments make: what it has, its text, and when it is accepted.
use Rattle.std.proofs.Common.{◌≡◌, ℕ, ◌-◌, ◌<◌, Bool, true, false, List, [], ◌∷◌, ◌++◌, length, Some, refl, sym, ap, subst, ◌∙◌, append_assoc, length-append, arith, if◌then◌else◌}
use Rattle.std.specs.Prelude.{IsSomeAnd, All, codes}
use Rattle.std.proofs.lemmas.Bool.{lt-ltb, le-ltb}
use Rattle.std.proofs.lemmas.List.{append-nil}
use Rattle.std.proofs.lemmas.List.Elements.{All-head}
use Rattle.lll_core.specs.declared.lll.Lll.{Lll}
use Rattle.lll_text.specs.Spelling.{line, number_field}
use Rattle.rup_checker.specs.declared.log.Log.{Log}
use Rattle.rup_checker.specs.Formulas.{Satisfies, listed}
use Rattle.unroll_cnf.specs.Unrollings.{step_formula}
use Rattle.kinduction.specs.declared.found.Found.{Found}
use Rattle.kinduction.specs.declared.found.Found.TheVariants as found
use Rattle.kinduction.specs.declared.found.Spot.TheVariants as spot
use Rattle.kinduction.specs.Rounds.{RefuteBases}
use Rattle.evidence.specs.declared.reader_lines.Verdict.{Verdict}
use Rattle.evidence.specs.declared.reader_lines.Verdict.TheVariants as verdict
use Rattle.evidence.specs.Accepted.{IsSmallFormula, EntryHolds, IsAcceptedEntry}
use Rattle.evidence.specs.ByLines.{verdict_of, logs_of, rows_of, models_of, log_count, rows_due, has_model}
use Rattle.evidence.specs.declared.claimed_logs.Claim.{Claim}
use Rattle.evidence.specs.LogClaims.{LogHolds, is_base, last_claim, entry_claim, verdict_instants}
use Rattle.evidence.specs.Readers.{VerdictFits, verdict_content}
use Rattle.evidence.specs.Rests.{rows_text, models_text}
use Rattle.evidence.specs.Spelling.{logs_text, proof_text, entry_text}
use Rattle.evidence.specs.Shown.{last_log, logs_before, last_of, before_last, first_values, found_of}
use Rattle.evidence.specs.Judging.{RowsHold}
use Rattle.evidence.specs.Refusals.{IsTrace}
use Rattle.evidence.proofs.FoundParts.{verdict_same, proof_is}
use Rattle.evidence.proofs.ListPlaces.{get-front, get-middle, last_there}
use Rattle.evidence.proofs.Refused.{claim_last, BasesHold, bases_hold, instants_same}

-- ---- the last log, and those before it

parted : (log : Log) (logs : List Log) → logs_before log logs ++ last_log log logs ∷ [] ≡ log ∷ logs
parted log [] = refl
parted log (next ∷ logs) = ap (λ (ls : List Log). log ∷ ls) (parted next logs)

pub some_parted : (logs : List Log) → 0 < length logs → before_last logs ++ last_of logs ∷ [] ≡ logs
some_parted [] lt = absurd (omega (arith, lt))
some_parted (log ∷ logs) lt = parted log logs

empty_is : {X : Type 0} (xs : List X) → length xs ≡ 0 → [] ≡ xs
empty_is [] e = refl
empty_is (x ∷ xs) e = absurd (omega (arith, e))

one_is : (xs : List (List Bool)) → length xs ≡ 1 → first_values xs ∷ [] ≡ xs
one_is [] e = absurd (omega (arith, e))
one_is (x ∷ []) e = refl
one_is (x ∷ y ∷ xs) e = absurd (omega (arith, e))

-- ---- what it has

-- there are as many of each as the verdict needs
pub record AreCounted (depth : ℕ) (v : Verdict) (logs : List Log) (rows models : List (List Bool)) : Type 0 where
  pub verdict : VerdictFits depth v
  pub logs_count : length logs ≡ log_count depth v
  pub rows_count : length rows ≡ rows_due v
  pub models_count : length models ≡ (if has_model v then 1 else 0)

pub record IsMade (v : Verdict) (logs : List Log) (rows models : List (List Bool)) (entry : Found) : Type 0 where
  pub verdict : verdict_of entry ≡ v
  pub logs_are : logs_of entry ≡ logs
  pub rows_are : rows_of entry ≡ rows
  pub models_are : models_of entry ≡ models

pub is_made : (depth : ℕ) (v : Verdict) (logs : List Log) (rows models : List (List Bool)) → AreCounted depth v logs rows models → IsMade v logs rows models (found_of v logs rows models)
is_made depth (verdict.Proved k) logs rows models c = record {
  verdict = refl;
  logs_are = some_parted logs (omega (arith, c.logs_count));
  rows_are = empty_is rows c.rows_count;
  models_are = empty_is models c.models_count;
}
is_made depth (verdict.Falsified n) logs rows models c = record {
  verdict = ap verdict.Falsified c.rows_count;
  logs_are = refl;
  rows_are = refl;
  models_are = empty_is models c.models_count;
}
is_made depth verdict.Depth logs rows models c = record {
  verdict = refl;
  logs_are = refl;
  rows_are = empty_is rows c.rows_count;
  models_are = one_is models c.models_count;
}
is_made depth (verdict.Conflicts (spot.Base j)) logs rows models c = record {
  verdict = refl;
  logs_are = some_parted logs (omega (arith, c.logs_count));
  rows_are = empty_is rows c.rows_count;
  models_are = empty_is models c.models_count;
}
is_made depth (verdict.Conflicts (spot.Step k)) logs rows models c = record {
  verdict = refl;
  logs_are = some_parted logs (omega (arith, c.logs_count));
  rows_are = empty_is rows c.rows_count;
  models_are = empty_is models c.models_count;
}

-- an entry is what its parts make
last_again : (bases : List Log) (last : Log) → (before_last (bases ++ last ∷ []) ≡ bases) × (last_of (bases ++ last ∷ []) ≡ last)
last_again bases last =
    let all = bases ++ last ∷ [] in
    let long = length-append bases (last ∷ []) in
    let parts = some_parted all (omega (arith, long)) in
    let same : length (before_last all ++ last_of all ∷ []) ≡ length all = ap (λ (ls : List Log). length ls) parts in
    let told = last_there (before_last all) bases [] (last_of all) last (omega (arith, long, same, length-append (before_last all) (last_of all ∷ []))) parts in
    (told.0, told.1)

made_again : (entry : Found) → found_of (verdict_of entry) (logs_of entry) (rows_of entry) (models_of entry) ≡ entry
made_again (found.Proved k bases step) = let e = last_again bases step in ap (λ (ls : List Log). found.Proved k ls (last_of (bases ++ step ∷ []))) e.0 ∙ ap (found.Proved k bases) e.1
made_again (found.Falsified bits bases) = refl
made_again (found.Depth step_model bases) = refl
made_again (found.Conflicts place spent bases) =
    let e = last_again bases spent in ap (λ (ls : List Log). found.Conflicts place (last_of (bases ++ spent ∷ [])) ls) e.0 ∙ ap (λ (l : Log). found.Conflicts place l bases) e.1

pub made_same : (v : Verdict) (logs : List Log) (rows models : List (List Bool)) (entry : Found) → IsMade v logs rows models entry → found_of v logs rows models ≡ entry
made_same v logs rows models entry is =
    ap (λ (w : Verdict). found_of w logs rows models) (sym is.verdict) ∙ ap (λ (ls : List Log). found_of (verdict_of entry) ls rows models) (sym is.logs_are)
    ∙ ap (λ (rs : List (List Bool)). found_of (verdict_of entry) (logs_of entry) rs models) (sym is.rows_are)
    ∙ ap (λ (ms : List (List Bool)). found_of (verdict_of entry) (logs_of entry) (rows_of entry) ms) (sym is.models_are) ∙ made_again entry

-- ---- its text

pub made_text : (n : ℕ) (v : Verdict) (logs : List Log) (rows models : List (List Bool)) (entry : Found) → IsMade v logs rows models entry
    → entry_text n entry ≡ ((line (codes "entry" ++ number_field n ++ verdict_content v) ++ logs_text logs) ++ rows_text rows) ++ models_text models
made_text n v logs rows models entry is =
    let head = line (codes "entry" ++ number_field n ++ verdict_content v) in
    let proof : proof_text entry ≡ logs_text logs ++ (rows_text rows ++ models_text models) =
    sym (append-nil (proof_text entry)) ∙ proof_is entry []
    ∙ ap (λ (ls : List Log). logs_text ls ++ (rows_text (rows_of entry) ++ (models_text (models_of entry) ++ []))) is.logs_are
    ∙ ap (λ (rs : List (List Bool)). logs_text logs ++ (rows_text rs ++ (models_text (models_of entry) ++ []))) is.rows_are
    ∙ ap (λ (ms : List (List Bool)). logs_text logs ++ (rows_text rows ++ (models_text ms ++ []))) is.models_are
    ∙ ap (λ (t : List ℕ). logs_text logs ++ (rows_text rows ++ t)) (append-nil (models_text models)) in
    ap (λ (t : List ℕ). line ((codes "entry" ++ number_field n) ++ t) ++ proof_text entry) (verdict_same entry ∙ ap verdict_content is.verdict)
    ∙ ap (λ (t : List ℕ). head ++ t) proof ∙ sym (append_assoc head (logs_text logs) (rows_text rows ++ models_text models)) ∙ sym (append_assoc (head ++ logs_text logs) (rows_text rows) (models_text models))

-- ---- when it is accepted

module _ (l : Lll) (p depth budget : ℕ) where
  -- logs of base formulas alone
  all_bases : (v : Verdict) (logs : List Log) → ((n : ℕ) → n < length logs → is_base v n ≡ true) → BasesHold l p budget v logs → RefuteBases l p logs
  all_bases v logs base hold = bases_hold l p budget v logs base hold

  -- a last log after them
  parted_bases : (v : Verdict) (k : ℕ) (bases : List Log) (last : Log) → length bases ≡ k → ((n : ℕ) → n < k → is_base v n ≡ true) → BasesHold l p budget v (bases ++ last ∷ []) → RefuteBases l p bases
  parted_bases v k bases last count base hold = bases_hold l p budget v bases (λ n lt. base n (omega (arith, count, lt)))
      (λ n lt. subst (λ o. IsSomeAnd o (LogHolds budget (entry_claim l p v n))) (get-front bases (last ∷ []) n lt) (hold n (omega (arith, lt, length-append bases (last ∷ [])))))

  parted_last : (v : Verdict) (k : ℕ) (bases : List Log) (last : Log) → length bases ≡ k → is_base v k ≡ false → BasesHold l p budget v (bases ++ last ∷ []) → LogHolds budget (last_claim l p v) last
  parted_last v k bases last count other hold =
      let n = length bases in
      let here : IsSomeAnd (Some last) (LogHolds budget (entry_claim l p v n)) =
      subst (λ o. IsSomeAnd o (LogHolds budget (entry_claim l p v n))) (get-middle bases [] last) (hold n (omega (arith, length-append bases (last ∷ [])))) in
      subst (λ (q : Claim). LogHolds budget q last) (claim_last l p v n (subst (λ i. is_base v i ≡ false) (sym count) other)) here

  made_holds : (v : Verdict) (logs : List Log) (rows models : List (List Bool)) → AreCounted depth v logs rows models → BasesHold l p budget v logs → RowsHold l p v rows
      → All (λ values. Satisfies (listed values) (step_formula l p depth).clauses) models → EntryHolds l p depth budget (found_of v logs rows models)
  made_holds (verdict.Proved k) logs rows models c hold trace satisfied =
      let v = verdict.Proved k in
      let parts = some_parted logs (omega (arith, c.logs_count)) in
      let bases = before_last logs in
      let count : length bases ≡ k = omega (arith, c.logs_count, ap (λ (ls : List Log). length ls) parts, length-append bases (last_of logs ∷ [])) in
      let all = subst (BasesHold l p budget v) (sym parts) hold in
      record { count = count; bases_refuted = parted_bases v k bases (last_of logs) count (λ n lt. lt-ltb n k lt) all; step_refuted = parted_last v k bases (last_of logs) count (le-ltb k k (omega arith)) all }
  made_holds (verdict.Falsified n) logs rows models c hold trace satisfied =
      let j : n - 1 ≡ length logs = sym c.logs_count in
      record {
        count = omega (arith, c.logs_count, c.rows_count, c.verdict.0);
        bases_refuted = all_bases (verdict.Falsified n) logs (λ i lt. refl) hold;
        broken = subst (λ i. IsTrace l p i rows) j (trace c.rows_count);
      }
  made_holds verdict.Depth logs rows models c hold trace satisfied = record {
    count = c.logs_count;
    bases_refuted = all_bases verdict.Depth logs (λ i lt. refl) hold;
    satisfied = All-head (λ values. Satisfies (listed values) (step_formula l p depth).clauses) (first_values models) []
        (subst (All (λ values. Satisfies (listed values) (step_formula l p depth).clauses)) (sym (one_is models c.models_count)) satisfied);
  }
  made_holds (verdict.Conflicts (spot.Base k)) logs rows models c hold trace satisfied =
      let v = verdict.Conflicts (spot.Base k) in
      let parts = some_parted logs (omega (arith, c.logs_count)) in
      let bases = before_last logs in
      let count : length bases ≡ k = omega (arith, c.logs_count, ap (λ (ls : List Log). length ls) parts, length-append bases (last_of logs ∷ [])) in
      let all = subst (BasesHold l p budget v) (sym parts) hold in
      record { bases_refuted = parted_bases v k bases (last_of logs) count (λ n lt. lt-ltb n k lt) all; spent = parted_last v k bases (last_of logs) count (le-ltb k k (omega arith)) all }
  made_holds (verdict.Conflicts (spot.Step k)) logs rows models c hold trace satisfied =
      let v = verdict.Conflicts (spot.Step k) in
      let parts = some_parted logs (omega (arith, c.logs_count)) in
      let bases = before_last logs in
      let count : length bases ≡ k = omega (arith, c.logs_count, ap (λ (ls : List Log). length ls) parts, length-append bases (last_of logs ∷ [])) in
      let all = subst (BasesHold l p budget v) (sym parts) hold in
      record { bases_refuted = parted_bases v k bases (last_of logs) count (λ n lt. lt-ltb n k lt) all; spent = parted_last v k bases (last_of logs) count (le-ltb k k (omega arith)) all }

  -- all that it needs was shown
  pub made_accepted : (v : Verdict) (logs : List Log) (rows models : List (List Bool)) → AreCounted depth v logs rows models → IsSmallFormula (verdict_instants depth v) (length l.signals) → BasesHold l p budget v logs → RowsHold l p v rows
      → All (λ values. Satisfies (listed values) (step_formula l p depth).clauses) models → IsAcceptedEntry l p depth budget (found_of v logs rows models)
  made_accepted v logs rows models c small hold trace satisfied =
      let entry = found_of v logs rows models in
      record {
        small = subst (λ n. IsSmallFormula n (length l.signals)) (sym (instants_same entry depth ∙ ap (verdict_instants depth) (is_made depth v logs rows models c).verdict)) small;
        holds = made_holds v logs rows models c hold trace satisfied;
      }
