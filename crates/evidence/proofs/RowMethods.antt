-- The lines of rows and assignments, as the state of judging takes them.
use Rattle.std.proofs.Common.{◌≡◌, ℕ, ◌+◌, ◌<◌, Bool, true, false, List, [], ◌∷◌, ◌++◌, length, Ok, Err, refl, sym, ap, subst, ◌∙◌, inl, inr, length-append, arith, if◌then◌else◌}
use Rattle.std.specs.Prelude.{Result, nat_lt}
use Rattle.std.proofs.lemmas.Bool.{cases_lt}
use Rattle.std.proofs.lemmas.List.Elements.{All-nil, All-cons, All-append}
use Rattle.lll_core.specs.declared.lll.Lll.{Lll}
use Rattle.lll_core.specs.Tables.{AreInputs, input_count}
use Rattle.rup_checker.specs.declared.log.Log.{Log}
use Rattle.rup_checker.specs.Formulas.{Satisfies, listed}
use Rattle.kinduction.specs.declared.found.Found.{Found}
use Rattle.unroll_cnf.specs.Unrollings.{step_formula}
use Rattle.evidence.specs.declared.claim.ClaimFault.{ClaimFault}
use Rattle.evidence.specs.declared.claim.ClaimFault.TheVariants as claim
use Rattle.evidence.specs.declared.claims.Claims.{Claims}
use Rattle.evidence.specs.declared.claims.Place.{Place}
use Rattle.evidence.specs.declared.claims.Place.TheVariants as place
use Rattle.evidence.specs.declared.fault.Cause.{Cause}
use Rattle.evidence.specs.declared.fault.Cause.TheVariants as cause
use Rattle.evidence.specs.declared.reader_due.Due.{Due}
use Rattle.evidence.specs.declared.reader_due.Statement.TheVariants as line
use Rattle.evidence.specs.declared.reader_lines.EqualLine.{EqualLine}
use Rattle.evidence.specs.declared.reader_lines.Verdict.{Verdict}
use Rattle.evidence.specs.declared.reader_lines.Verdict.TheVariants as verdict
use Rattle.evidence.specs.Accepted.{IsSmallFormula}
use Rattle.evidence.specs.ByLines.{log_count, rows_due, has_model}
use Rattle.evidence.specs.Claims.{IsAlone}
use Rattle.evidence.specs.LogClaims.{verdict_instants}
use Rattle.evidence.specs.Readers.{VerdictFits}
use Rattle.evidence.specs.Refusals.{line_after}
use Rattle.evidence.specs.Shown.{Header, OpenEntry, Shown, Parts, Entry, rows_front, shown_text, with_row, with_model}
use Rattle.evidence.specs.Judging.{RowsHold, RowsFit, IsPlaceOf, HasJudged, IsRefused, Told, open_logs, IsDueInEntry, IsDueIn, Expects, IsJudged, BeginsRows}
use Rattle.evidence.proofs.JudgingTurns.{front_same, facts_of}
use Rattle.evidence.proofs.LogMethods.{after_shown}
use Rattle.evidence.proofs.RestLines.{row_by, model_by, none, some}
use Rattle.evidence.proofs.RowTurns.{refused_rows, refused_values}

-- ---- in an entry

-- the place is in this entry
pub record IsInEntry (p : ℕ) (v : Verdict) (s : Shown) : Type 0 where
  pub o : OpenEntry
  pub is : s ≡ Entry o
  pub number : p ≡ length o.done
  pub verdict : v ≡ o.verdict

pub in_entry : (at : Place) (p : ℕ) (v : Verdict) (closed : ℕ) (s : Shown) → at ≡ place.Entry p v closed → IsPlaceOf at s → IsInEntry p v s
in_entry at p v closed (Parts said logs) same is = absurd (subst (λ (q : Place). IsPlaceOf q (Parts said logs)) same is)
in_entry at p v closed (Entry o) same is = let there = subst (λ (q : Place). IsPlaceOf q (Entry o)) same is in record { o = o; is = refl; number = there.0; verdict = there.1 }

-- among the parts neither rows nor an assignment are due
parts_only : (at : Place) (said : EqualLine) (number opened : ℕ) (h : Header) (s : Shown) (due : Due) (P : Type 0) → at ≡ place.Parts said number → IsPlaceOf at s → IsDueIn h s opened due → ((due.rows ≡ 0) → (due.model ≡ false) → P) → P
parts_only at said number opened h (Parts told logs) due P same is there never = never there.rows_due there.model_due
parts_only at said number opened h (Entry o) due P same is there never = absurd (subst (λ (q : Place). IsPlaceOf q (Entry o)) same is)

-- rows and assignments don't move it
place_stays : (at : Place) (o q : OpenEntry) → q.done ≡ o.done → q.verdict ≡ o.verdict → q.logs ≡ o.logs → IsPlaceOf at (Entry o) → IsPlaceOf at (Entry q)
place_stays (place.Parts said closed) o q done v logs is = absurd is
place_stays (place.Entry p w closed) o q done v logs (number, same, count) = (number ∙ ap (λ (xs : List Found). length xs) (sym done), same ∙ sym v, count ∙ ap (λ (ls : List Log). length ls) (sym logs))

none_of : {X : Type 0} (xs : List X) → length xs ≡ 0 → xs ≡ []
none_of [] e = refl
none_of (x ∷ xs) e = absurd (omega (arith, e))

rows_fit : (depth due : ℕ) (v : Verdict) (rows : List (List Bool)) (row : List Bool) → VerdictFits depth v → 0 < due → due + length rows ≡ rows_due v → RowsFit v (rows ++ row ∷ [])
rows_fit depth due (verdict.Proved k) rows row fits some there = tt
rows_fit depth due (verdict.Falsified n) rows row fits some there = (fits.0, omega (arith, some, there, length-append rows (row ∷ [])))
rows_fit depth due verdict.Depth rows row fits some there = tt
rows_fit depth due (verdict.Conflicts place) rows row fits some there = tt

-- ---- a row

abbrev pub with_rows : Claims → ℕ → List (List Bool) → Claims
with_rows c at rows = record c { rows_at = at; rows = rows }

module _ (a : Lll) (c : Claims) (number : ℕ) (row : List Bool) (x : Expects a c number (line.Row row)) where
  kinds : (nat_lt 0 x.due.steps ≡ false) × (nat_lt 0 x.due.logs ≡ false) × (nat_lt 0 x.due.rows ≡ true)
  kinds = row_by (nat_lt 0 x.due.steps) (nat_lt 0 x.due.logs) (nat_lt 0 x.due.rows) x.due.model (nat_lt 0 x.due.entries) x.is_due.kind

  row_left : c.left ≡ 0
  row_left = sym x.due_after.steps_due ∙ none x.due.steps kinds.0

  row_some : 0 < x.due.rows
  row_some = some x.due.rows kinds.2

  pub row_in_parts : (said : EqualLine) (closed : ℕ) (P : Type 0) → c.place ≡ place.Parts said closed → P
  row_in_parts said closed P same = parts_only c.place said closed (open_logs c.left) x.h x.s x.due P same x.judging.judged.place x.due_after.there (λ rows model. absurd (omega (arith, rows, row_some)))

  module _ (p : ℕ) (v : Verdict) (closed : ℕ) (same : c.place ≡ place.Entry p v closed) where
    there : IsInEntry p v x.s
    there = in_entry c.place p v closed x.s same x.judging.judged.place

    judged : HasJudged x.h (Entry there.o) c
    judged = subst (λ (s : Shown). HasJudged x.h s c) there.is x.judging.judged

    due : IsDueInEntry x.h there.o 0 x.due
    due = subst (λ n. IsDueInEntry x.h there.o n x.due) (ap open_logs row_left) (subst (λ (s : Shown). IsDueIn x.h s (open_logs c.left) x.due) there.is x.due_after.there)

    pub row_obligation : p < length a.obligations
    row_obligation = subst (λ (l : Lll). p < length l.obligations) x.same (omega (arith, there.number, due.entries_due))

    inputs : AreInputs x.h.a.signals (there.o.rows ++ row ∷ [])
    inputs = All-append (λ (r : List Bool). length r ≡ input_count x.h.a.signals) there.o.rows (row ∷ []) judged.rows.2
        (All-cons (λ (r : List Bool). length r ≡ input_count x.h.a.signals) row [] (x.is_due.fits ∙ x.inputs) (All-nil (λ (r : List Bool). length r ≡ input_count x.h.a.signals)))

    rows_are : (rows : List (List Bool)) → rows ≡ c.rows ++ row ∷ [] → rows ≡ there.o.rows ++ row ∷ []
    rows_are rows more = more ∙ ap (λ (rs : List (List Bool)). rs ++ row ∷ []) judged.rows.0

    pub row_inputs : (rows : List (List Bool)) → rows ≡ c.rows ++ row ∷ [] → AreInputs a.signals rows
    row_inputs rows more = subst (AreInputs a.signals) (sym (rows_are rows more)) (subst (λ (l : Lll). AreInputs l.signals (there.o.rows ++ row ∷ [])) x.same inputs)

    fit : RowsFit there.o.verdict (there.o.rows ++ row ∷ [])
    fit = rows_fit x.h.depth x.due.rows there.o.verdict there.o.rows row due.fits row_some due.rows_due

    pub row_fits : (rows : List (List Bool)) → rows ≡ c.rows ++ row ∷ [] → RowsFit v rows
    row_fits rows more = subst (RowsFit v) (sym (rows_are rows more)) (subst (λ (w : Verdict). RowsFit w (there.o.rows ++ row ∷ [])) (sym there.verdict) fit)

    -- where the rows of the entry begin
    begins : (at : ℕ) → BeginsRows c number at → at ≡ line_after (rows_front x.h there.o)
    begins at b = elim (cases_lt 0 (length there.o.rows)) [
      | inl more ↦ b.later (let e : length c.rows ≡ length there.o.rows = ap (λ (rs : List (List Bool)). length rs) judged.rows.0 in omega (arith, e, more)) ∙ judged.rows.1 more
      | inr le ↦ (
          let no_rows : there.o.rows ≡ [] = none_of there.o.rows (omega (arith, le)) in
          b.first (judged.rows.0 ∙ no_rows) ∙ after_shown x.h x.s c number x.steps row_left x.at ∙ ap (λ (s : Shown). line_after (shown_text x.h s)) there.is
          ∙ ap line_after (front_same x.h (Entry there.o) (no_rows, due.rows_first row_some)))
    ]

    more_shown : with_row x.s row ≡ Entry (record there.o { rows = there.o.rows ++ row ∷ [] })
    more_shown = ap (λ (s : Shown). with_row s row) there.is

    here : (at : ℕ) (rows : List (List Bool)) → rows ≡ c.rows ++ row ∷ [] → at ≡ line_after (rows_front x.h there.o) → RowsHold x.h.a (length there.o.done) there.o.verdict (there.o.rows ++ row ∷ [])
        → HasJudged x.h (Entry (record there.o { rows = there.o.rows ++ row ∷ [] })) (with_rows c at rows)
    here at rows more begins hold = record {
      depth = judged.depth;
      conflicts = judged.conflicts;
      few_parts = judged.few_parts;
      few_obligations = judged.few_obligations;
      paired = judged.paired;
      miter = judged.miter;
      place = place_stays c.place there.o (record there.o { rows = there.o.rows ++ row ∷ [] }) refl refl refl judged.place;
      rows = (rows_are rows more, (λ some. begins), inputs);
      hold = record {
        equal_holds = judged.hold.equal_holds;
        done_hold = judged.hold.done_hold;
        small = judged.hold.small;
        logs_hold = judged.hold.logs_hold;
        rows_hold = hold;
        models_hold = judged.hold.models_hold;
      };
    }

    as_shown : (at : ℕ) (rows : List (List Bool)) (result : Result Unit ClaimFault) → rows ≡ c.rows ++ row ∷ [] → IsAlone (RowsHold a p v rows) at cause.Trace result
        → IsAlone (RowsHold x.h.a (length there.o.done) there.o.verdict (there.o.rows ++ row ∷ [])) at cause.Trace result
    as_shown at rows result more alone =
        let At = λ (l : Lll) (n : ℕ) (w : Verdict) (rs : List (List Bool)). IsAlone (RowsHold l n w rs) at cause.Trace result in
        subst (At x.h.a (length there.o.done) there.o.verdict) (rows_are rows more)
        (subst (λ (w : Verdict). At x.h.a (length there.o.done) w rows) there.verdict (subst (λ n. At x.h.a n v rows) there.number (subst (λ (l : Lll). At l p v rows) (sym x.same) alone)))

    told : (at : ℕ) (rows : List (List Bool)) (result : Result Unit ClaimFault) → rows ≡ c.rows ++ row ∷ [] → at ≡ line_after (rows_front x.h there.o) → IsAlone (RowsHold x.h.a (length there.o.done) there.o.verdict (there.o.rows ++ row ∷ [])) at cause.Trace result
        → Told (IsJudged x.h (Entry (record there.o { rows = there.o.rows ++ row ∷ [] })) c.left x.steps (with_rows c at rows)) x.h (Entry (record there.o { rows = there.o.rows ++ row ∷ [] })) result
    told at rows (Ok done) more begins alone = record {
      judging = record {
        judged = here at rows more begins alone;
        log_at = λ some. absurd (omega (arith, row_left, some));
        tracked = λ some. absurd (omega (arith, row_left, some));
        closed = x.judging.closed;
      };
      left_is = refl;
    }
    told at rows (Err (claim.Refused line why)) more begins alone =
        let o = there.o in
        let count : length o.logs ≡ log_count x.h.depth o.verdict = omega (arith, none x.due.logs kinds.1, due.logs_due) in
        let s = Entry (record o { rows = o.rows ++ row ∷ [] }) in
        let refused : IsRefused x.h s at cause.Trace = refused_rows x.h c.miter o row at (facts_of x.h (Entry o) c judged) judged.hold count fit begins alone.2 in
        subst (λ n. IsRefused x.h s n why) (sym alone.0) (subst (λ (w : Cause). IsRefused x.h s at w) (sym alone.1) refused)
    told at rows (Err claim.Memory) more begins alone = tt

    pub row_turn : (at : ℕ) (rows : List (List Bool)) (result : Result Unit ClaimFault) → rows ≡ c.rows ++ row ∷ [] → BeginsRows c number at → IsAlone (RowsHold a p v rows) at cause.Trace result
        → Told (IsJudged x.h (with_row x.s row) c.left x.steps (with_rows c at rows)) x.h (with_row x.s row) result
    row_turn at rows result more b alone =
        subst (λ (s : Shown). Told (IsJudged x.h s c.left x.steps (with_rows c at rows)) x.h s result) (sym more_shown)
        (told at rows result more (begins at b) (as_shown at rows result more alone))

-- ---- an assignment

has_depth : (v : Verdict) → has_model v ≡ true → v ≡ verdict.Depth
has_depth (verdict.Proved k) e = absurd cc
has_depth (verdict.Falsified n) e = absurd cc
has_depth verdict.Depth e = refl
has_depth (verdict.Conflicts place) e = absurd cc

one_model : (due has : Bool) (n : ℕ) → due ≡ true → (if due then 1 else 0) + n ≡ (if has then 1 else 0) → (has ≡ true) × (n ≡ 0)
one_model true true n e there = (refl, omega (arith, there))
one_model true false n e there = absurd (omega (arith, there))
one_model false has n e there = absurd cc

module _ (a : Lll) (c : Claims) (number : ℕ) (values : List Bool) (x : Expects a c number (line.Model values)) where
  model_kinds : (nat_lt 0 x.due.steps ≡ false) × (nat_lt 0 x.due.logs ≡ false) × (nat_lt 0 x.due.rows ≡ false) × (x.due.model ≡ true)
  model_kinds = model_by (nat_lt 0 x.due.steps) (nat_lt 0 x.due.logs) (nat_lt 0 x.due.rows) x.due.model (nat_lt 0 x.due.entries) x.is_due.kind

  model_left : c.left ≡ 0
  model_left = sym x.due_after.steps_due ∙ none x.due.steps model_kinds.0

  pub model_in_parts : (said : EqualLine) (closed : ℕ) (P : Type 0) → c.place ≡ place.Parts said closed → P
  model_in_parts said closed P same = parts_only c.place said closed (open_logs c.left) x.h x.s x.due P same x.judging.judged.place x.due_after.there (λ rows model. absurd (let e : true ≡ false = sym model_kinds.3 ∙ model in cc))

  module _ (p : ℕ) (v : Verdict) (closed : ℕ) (same : c.place ≡ place.Entry p v closed) where
    at_entry : IsInEntry p v x.s
    at_entry = in_entry c.place p v closed x.s same x.judging.judged.place

    model_judged : HasJudged x.h (Entry at_entry.o) c
    model_judged = subst (λ (s : Shown). HasJudged x.h s c) at_entry.is x.judging.judged

    model_due : IsDueInEntry x.h at_entry.o 0 x.due
    model_due = subst (λ n. IsDueInEntry x.h at_entry.o n x.due) (ap open_logs model_left) (subst (λ (s : Shown). IsDueIn x.h s (open_logs c.left) x.due) at_entry.is x.due_after.there)

    one : (has_model at_entry.o.verdict ≡ true) × (length at_entry.o.models ≡ 0)
    one = one_model x.due.model (has_model at_entry.o.verdict) (length at_entry.o.models) model_kinds.3 model_due.models_due

    is_depth : at_entry.o.verdict ≡ verdict.Depth
    is_depth = has_depth at_entry.o.verdict one.0

    pub model_obligation : p < length a.obligations
    model_obligation = subst (λ (l : Lll). p < length l.obligations) x.same (omega (arith, at_entry.number, model_due.entries_due))

    pub model_small : IsSmallFormula (c.depth + 1) (length a.signals)
    model_small = subst (λ (l : Lll). IsSmallFormula (c.depth + 1) (length l.signals)) x.same
        (subst (λ d. IsSmallFormula (d + 1) (length x.h.a.signals)) (sym model_judged.depth)
        (subst (λ (w : Verdict). IsSmallFormula (verdict_instants x.h.depth w) (length x.h.a.signals)) is_depth model_judged.hold.small))

    no_model : at_entry.o.models ≡ []
    no_model = none_of at_entry.o.models one.1

    model_begins : number ≡ line_after (rows_front x.h at_entry.o)
    model_begins =
        let rows : rows_due at_entry.o.verdict ≡ 0 = ap rows_due is_depth in
        let no_rows : at_entry.o.rows ≡ [] = none_of at_entry.o.rows (omega (arith, rows, none x.due.rows model_kinds.2, model_due.rows_due)) in
        after_shown x.h x.s c number x.steps model_left x.at ∙ ap (λ (s : Shown). line_after (shown_text x.h s)) at_entry.is ∙ ap line_after (front_same x.h (Entry at_entry.o) (no_rows, no_model))

    abbrev Good : Lll → ℕ → ℕ → Type 0
    Good l q depth = Satisfies (listed values) (step_formula l q depth).clauses

    as_good : (result : Result Unit ClaimFault) → IsAlone (Good a p c.depth) number cause.Model result → IsAlone (Good x.h.a (length at_entry.o.done) x.h.depth) number cause.Model result
    as_good result alone =
        let At = λ (l : Lll) (n d : ℕ). IsAlone (Good l n d) number cause.Model result in
        subst (At x.h.a (length at_entry.o.done)) model_judged.depth (subst (λ n. At x.h.a n c.depth) at_entry.number (subst (λ (l : Lll). At l p c.depth) (sym x.same) alone))

    model_here : Good x.h.a (length at_entry.o.done) x.h.depth → HasJudged x.h (Entry (record at_entry.o { models = at_entry.o.models ++ values ∷ [] })) c
    model_here good = record {
      depth = model_judged.depth;
      conflicts = model_judged.conflicts;
      few_parts = model_judged.few_parts;
      few_obligations = model_judged.few_obligations;
      paired = model_judged.paired;
      miter = model_judged.miter;
      place = place_stays c.place at_entry.o (record at_entry.o { models = at_entry.o.models ++ values ∷ [] }) refl refl refl model_judged.place;
      rows = model_judged.rows;
      hold = record {
        equal_holds = model_judged.hold.equal_holds;
        done_hold = model_judged.hold.done_hold;
        small = model_judged.hold.small;
        logs_hold = model_judged.hold.logs_hold;
        rows_hold = model_judged.hold.rows_hold;
        models_hold = All-append (λ vs. Satisfies (listed vs) (step_formula x.h.a (length at_entry.o.done) x.h.depth).clauses) at_entry.o.models (values ∷ []) model_judged.hold.models_hold
            (All-cons (λ vs. Satisfies (listed vs) (step_formula x.h.a (length at_entry.o.done) x.h.depth).clauses) values [] good (All-nil (λ vs. Satisfies (listed vs) (step_formula x.h.a (length at_entry.o.done) x.h.depth).clauses)));
      };
    }

    model_told : (result : Result Unit ClaimFault) → IsAlone (Good x.h.a (length at_entry.o.done) x.h.depth) number cause.Model result
        → Told (IsJudged x.h (Entry (record at_entry.o { models = at_entry.o.models ++ values ∷ [] })) c.left x.steps c) x.h (Entry (record at_entry.o { models = at_entry.o.models ++ values ∷ [] })) result
    model_told (Ok done) alone = record {
      judging = record {
        judged = model_here alone;
        log_at = λ some. absurd (omega (arith, model_left, some));
        tracked = λ some. absurd (omega (arith, model_left, some));
        closed = x.judging.closed;
      };
      left_is = refl;
    }
    model_told (Err (claim.Refused line why)) alone =
        let s = Entry (record at_entry.o { models = at_entry.o.models ++ values ∷ [] }) in
        let count : length at_entry.o.logs ≡ x.h.depth = (let n : log_count x.h.depth at_entry.o.verdict ≡ x.h.depth = ap (log_count x.h.depth) is_depth in omega (arith, none x.due.logs model_kinds.1, model_due.logs_due, n)) in
        let refused : IsRefused x.h s number cause.Model = refused_values x.h c.miter at_entry.o values number (facts_of x.h (Entry at_entry.o) c model_judged) model_judged.hold is_depth count no_model model_begins alone.2 in
        subst (λ n. IsRefused x.h s n why) (sym alone.0) (subst (λ (w : Cause). IsRefused x.h s number w) (sym alone.1) refused)
    model_told (Err claim.Memory) alone = tt

    pub model_turn : (result : Result Unit ClaimFault) → IsAlone (Good a p c.depth) number cause.Model result → Told (IsJudged x.h (with_model x.s values) c.left x.steps c) x.h (with_model x.s values) result
    model_turn result alone =
        subst (λ (s : Shown). Told (IsJudged x.h s c.left x.steps c) x.h s result) (sym (ap (λ (s : Shown). with_model s values) at_entry.is))
        (model_told result (as_good result alone))
