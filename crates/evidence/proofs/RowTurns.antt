-- A row or an assignment more: what holds after it, and what is refused.
use Rattle.std.proofs.Common.{◌≡◌, ℕ, ◌+◌, ◌-◌, Bool, List, [], ◌∷◌, ◌++◌, length, refl, ap, subst, ◌∙◌, inl, inr, arith}
use Rattle.std.proofs.lemmas.Bool.{cases_lt}
use Rattle.lll_core.specs.declared.lll.Lll.{Lll}
use Rattle.miter.specs.declared.parts.MiterLll.{MiterLll}
use Rattle.rup_checker.specs.Formulas.{Satisfies, listed}
use Rattle.unroll_cnf.specs.Unrollings.{step_formula}
use Rattle.evidence.specs.declared.evidence.Evidence.{Evidence}
use Rattle.evidence.specs.declared.fault.Cause.TheVariants as cause
use Rattle.evidence.specs.declared.reader_lines.Verdict.{Verdict}
use Rattle.evidence.specs.declared.reader_lines.Verdict.TheVariants as verdict
use Rattle.evidence.specs.ByLines.{log_count}
use Rattle.evidence.specs.Counts.{HasText}
use Rattle.evidence.specs.Claims.{IsFirstOf}
use Rattle.evidence.specs.Refusals.{line_after, IsTrace, Fails}
use Rattle.evidence.specs.Shown.{Header, OpenEntry, Entry, Rest, header_of, ShowsEntry, entry_front, rows_front}
use Rattle.evidence.specs.Spelling.{logs_text, entry_line}
use Rattle.evidence.specs.Judging.{EntryHoldsSoFar, RowsHold, RowsFit, IsRefused}
use Rattle.evidence.proofs.JudgingTurns.{Facts, entry_fails, fits, small_number, small_entry, head_is}
use Rattle.evidence.proofs.Refused.{BasesHold, trace_first, model_first}

-- ---- what fails of a value

module _ (m : MiterLll) (e : Evidence) (has : HasText e) where
  -- the line before the rows, as the entry spells it
  rows_begin : (f : Facts (header_of e) m) (o : OpenEntry) (rest : Rest) (s : ShowsEntry o rest e) → rows_front (header_of e) o ≡ (entry_front (header_of e) o ++ entry_line (length o.done + 1) s.entry) ++ logs_text o.logs
  rows_begin f o rest s = ap (λ (t : List ℕ). t ++ logs_text o.logs) (head_is m e has f o rest s)

  rows_fail : (o : OpenEntry) (row : List Bool) (n : ℕ) (rest : Rest) (at : ℕ) → ShowsEntry (record o { rows = o.rows ++ row ∷ [] }) rest e → Facts (header_of e) m → EntryHoldsSoFar (header_of e) m o
      → o.verdict ≡ verdict.Falsified n → length o.logs ≡ n - 1 → length (o.rows ++ row ∷ []) ≡ n → at ≡ line_after (rows_front (header_of e) o) → ¬ (IsTrace e.a (length o.done) (n - 1) (o.rows ++ row ∷ []))
      → IsFirstOf (Fails e) at cause.Trace
  rows_fail o row n rest at s f hold same count long begins bad =
      let more : OpenEntry = record o { rows = o.rows ++ row ∷ [] } in
      let p = length o.done in
      let front = entry_front (header_of e) o in
      entry_fails m e has more rest at cause.Trace s f hold.equal_holds hold.done_hold
      (trace_first e.a p e.depth e.conflicts has.depth_bound (small_number m e has f more rest s) front s.entry n o.logs rest.logs (o.rows ++ row ∷ []) rest.rows at
      (fits m e has f more rest s) (small_entry m e has f more rest s hold.small) (s.is_open.verdict ∙ same) s.is_open.logs s.is_open.rows count long
      (subst (λ (w : Verdict). BasesHold e.a p e.conflicts w o.logs) same hold.logs_hold) (begins ∙ ap line_after (rows_begin f more rest s)) bad)

  values_fail : (o : OpenEntry) (values : List Bool) (rest : Rest) (at : ℕ) → ShowsEntry (record o { models = o.models ++ values ∷ [] }) rest e → Facts (header_of e) m → EntryHoldsSoFar (header_of e) m o
      → o.verdict ≡ verdict.Depth → length o.logs ≡ e.depth → o.models ≡ [] → at ≡ line_after (rows_front (header_of e) o) → ¬ (Satisfies (listed values) (step_formula e.a (length o.done) e.depth).clauses)
      → IsFirstOf (Fails e) at cause.Model
  values_fail o values rest at s f hold same count none begins bad =
      let more : OpenEntry = record o { models = o.models ++ values ∷ [] } in
      let p = length o.done in
      let front = entry_front (header_of e) o in
      entry_fails m e has more rest at cause.Model s f hold.equal_holds hold.done_hold
      (model_first e.a p e.depth e.conflicts has.depth_bound (small_number m e has f more rest s) front s.entry o.logs rest.logs values rest.models at
      (fits m e has f more rest s) (small_entry m e has f more rest s hold.small) (s.is_open.verdict ∙ same) s.is_open.logs (s.is_open.models ∙ ap (λ (ms : List (List Bool)). (ms ++ values ∷ []) ++ rest.models) none) count
      (subst (λ (w : Verdict). BasesHold e.a p e.conflicts w o.logs) same hold.logs_hold) (begins ∙ ap line_after (rows_begin f more rest s)) bad)

-- ---- what is refused

-- only a trace has rows that may not hold
untrue_rows : (l : Lll) (p : ℕ) (v : Verdict) (rows : List (List Bool)) → RowsFit v rows → ¬ (RowsHold l p v rows) → (n : ℕ) × (v ≡ verdict.Falsified n) × (length rows ≡ n) × ¬ (IsTrace l p (n - 1) rows)
untrue_rows l p (verdict.Proved k) rows fit bad = absurd (bad tt)
untrue_rows l p (verdict.Falsified n) rows fit bad = (n, refl, full, λ trace. bad (λ long. trace))
  where
    full : length rows ≡ n
    full = elim (cases_lt (length rows) n) [ inl lt ↦ absurd (bad (λ long. absurd (omega (arith, lt, long)))) | inr ge ↦ omega (arith, ge, fit.1) ]
untrue_rows l p verdict.Depth rows fit bad = absurd (bad tt)
untrue_rows l p (verdict.Conflicts place) rows fit bad = absurd (bad tt)

falsified_logs : (depth n : ℕ) (v : Verdict) (logs : ℕ) → v ≡ verdict.Falsified n → logs ≡ log_count depth v → logs ≡ n - 1
falsified_logs depth n v logs same count = count ∙ ap (log_count depth) same

pub refused_rows : (h : Header) (m : MiterLll) (o : OpenEntry) (row : List Bool) (at : ℕ) → Facts h m → EntryHoldsSoFar h m o → length o.logs ≡ log_count h.depth o.verdict → RowsFit o.verdict (o.rows ++ row ∷ [])
    → at ≡ line_after (rows_front h o) → ¬ (RowsHold h.a (length o.done) o.verdict (o.rows ++ row ∷ [])) → IsRefused h (Entry (record o { rows = o.rows ++ row ∷ [] })) at cause.Trace
refused_rows h m o row at f hold count fit begins bad = λ e has begun.
    let u = untrue_rows h.a (length o.done) o.verdict (o.rows ++ row ∷ []) fit bad in
    let n = u.0 in
    let logs = falsified_logs h.depth n o.verdict (length o.logs) u.1 count in
    let P = λ (k : Header). Facts k m → EntryHoldsSoFar k m o → at ≡ line_after (rows_front k o) → ¬ (IsTrace k.a (length o.done) (n - 1) (o.rows ++ row ∷ [])) → IsFirstOf (Fails e) at cause.Trace in
    subst P begun.header (λ g hold begins bad. rows_fail m e has o row n begun.rest at begun.shows g hold u.1 logs u.2 begins bad) f hold begins u.3

pub refused_values : (h : Header) (m : MiterLll) (o : OpenEntry) (values : List Bool) (at : ℕ) → Facts h m → EntryHoldsSoFar h m o → o.verdict ≡ verdict.Depth → length o.logs ≡ h.depth → o.models ≡ []
    → at ≡ line_after (rows_front h o) → ¬ (Satisfies (listed values) (step_formula h.a (length o.done) h.depth).clauses) → IsRefused h (Entry (record o { models = o.models ++ values ∷ [] })) at cause.Model
refused_values h m o values at f hold same count none begins bad = λ e has begun.
    let P = λ (k : Header). Facts k m → EntryHoldsSoFar k m o → length o.logs ≡ k.depth → at ≡ line_after (rows_front k o) → ¬ (Satisfies (listed values) (step_formula k.a (length o.done) k.depth).clauses) → IsFirstOf (Fails e) at cause.Model in
    subst P begun.header (λ g hold count begins bad. values_fail m e has o values begun.rest at begun.shows g hold same count none begins bad) f hold count begins bad
