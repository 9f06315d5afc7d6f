-- The lines of the parts and of entries, as the state of judging takes them.
use Rattle.std.proofs.Common.{◌≡◌, ℕ, ◌^◌, ◌<◌, ◌≤◌, Bool, true, false, List, [], ◌∷◌, length, refl, sym, ap, subst, ◌∙◌, length-append, arith}
use Rattle.std.specs.Prelude.{nat_lt}
use Rattle.std.proofs.lemmas.List.Elements.{All-nil}
use Rattle.lll_core.specs.declared.lll.Lll.{Lll}
use Rattle.lll_core.specs.Tables.{input_count}
use Rattle.miter.specs.declared.parts.MiterLll.{MiterLll}
use Rattle.rup_checker.specs.Formulas.{Satisfies, listed}
use Rattle.unroll_cnf.specs.Unrollings.{step_formula}
use Rattle.evidence.specs.declared.claims.Claims.{Claims}
use Rattle.evidence.specs.declared.claims.Place.{Place}
use Rattle.evidence.specs.declared.claims.Place.TheVariants as place
use Rattle.evidence.specs.declared.fault.Cause.TheVariants as cause
use Rattle.evidence.specs.declared.reader_due.Statement.TheVariants as line
use Rattle.evidence.specs.declared.reader_lines.EqualLine.{EqualLine}
use Rattle.evidence.specs.declared.reader_lines.Verdict.{Verdict}
use Rattle.evidence.specs.declared.reader_lines.Verdict.TheVariants as verdict
use Rattle.evidence.specs.Accepted.{IsSmallFormula}
use Rattle.evidence.specs.Claims.{IsFirstOf}
use Rattle.evidence.specs.LogClaims.{line_instants, verdict_instants}
use Rattle.evidence.specs.Readers.{VerdictFits}
use Rattle.evidence.specs.Refusals.{line_after, Fails}
use Rattle.evidence.specs.Shown.{Header, Shown, Parts, Entry, header_text, found_of, with_entry}
use Rattle.evidence.specs.Judging.{HoldSoFar, RowsHold, HasNext, place_in_entry, IsPlaceOf, AreRowsOf, IsJudging, IsRefused, open_logs, IsDueIn, Expects, IsJudged}
use Rattle.evidence.proofs.EntryTurns.{next_open, IsReady, is_ready, refused_entry}
use Rattle.evidence.proofs.JudgingTurns.{Facts, short_entries, facts_of}
use Rattle.evidence.proofs.LogMethods.{after_shown}
use Rattle.evidence.proofs.PartCount.{parts_counted}
use Rattle.evidence.proofs.Refused.{parts_large}
use Rattle.evidence.proofs.RestLines.{entry_by, none, some}

-- ---- the line of the parts

begun_judging : (h : Header) (said : EqualLine) (c : Claims) → c.depth ≡ h.depth → c.conflicts ≡ h.conflicts → c.place ≡ place.Parts said 0 → c.left ≡ 0 → Facts h c.miter
    → IsSmallFormula (line_instants said) (length c.miter.lll.signals) → IsJudging h (Parts said []) [] c
begun_judging h said c depth conflicts at left f small = record {
  judged = record {
    depth = depth;
    conflicts = conflicts;
    few_parts = f.0;
    few_obligations = f.1;
    paired = f.2;
    miter = f.3;
    place = subst (λ (q : Place). IsPlaceOf q (Parts said [])) (sym at) (refl, refl);
    rows = tt;
    hold = record { small = small; logs_hold = λ n lt. absurd (omega (arith, lt)) };
  };
  log_at = λ some. absurd (omega (arith, left, some));
  tracked = λ some. absurd (omega (arith, left, some));
  closed = λ _. refl;
}

pub begun : (h : Header) (said : EqualLine) (c : Claims) → c.depth ≡ h.depth → c.conflicts ≡ h.conflicts → c.place ≡ place.Parts said 0 → c.left ≡ 0 → Facts h c.miter
    → IsSmallFormula (line_instants said) (length c.miter.lll.signals) → IsJudged h (Parts said []) 0 [] c
begun h said c depth conflicts at left f small = record { judging = begun_judging h said c depth conflicts at left f small; left_is = left }

pub refused_parts : (h : Header) (said : EqualLine) (m : MiterLll) (at : ℕ) → Facts h m → at ≡ line_after (header_text h) → ¬ (IsSmallFormula (line_instants said) (length m.lll.signals)) → IsRefused h (Parts said []) at cause.Size
refused_parts h said m at f begins large = λ e has begun.
    let P = λ (k : Header). Facts k m → at ≡ line_after (header_text k) → IsFirstOf (Fails e) at cause.Size in
    subst P begun.header
    (λ g begins. parts_large e has (omega (arith, g.0)) (short_entries e.a e.equal e.entries has.entries_fit g.1) m g.2 g.3 said at begun.shows.said_is begins large) f begins

-- ---- an entry's line

no_rows : (l : Lll) (p depth : ℕ) (v : Verdict) → VerdictFits depth v → RowsHold l p v []
no_rows l p depth (verdict.Proved k) fits = tt
no_rows l p depth (verdict.Falsified n) fits = λ long. absurd (omega (arith, fits.0, long))
no_rows l p depth verdict.Depth fits = tt
no_rows l p depth (verdict.Conflicts place) fits = tt

has_next : (at : Place) (s : Shown) (h : Header) (v : Verdict) (m : MiterLll) → length h.a.obligations < 2 ^ 63 → IsPlaceOf at s → IsReady h m s v → HasNext at
has_next (place.Parts said closed) s h v m few is ready = tt
has_next (place.Entry p w closed) (Parts said logs) h v m few is ready = absurd is
has_next (place.Entry p w closed) (Entry o) h v m few is ready = omega (arith, is.0, few, ready.number, length-append o.done (found_of o.verdict o.logs o.rows o.models ∷ []))

place_next : (at : Place) (s : Shown) (v : Verdict) → IsPlaceOf at s → IsPlaceOf (place_in_entry at v) (with_entry s v)
place_next (place.Parts said closed) (Parts told logs) v is = (refl, refl, refl)
place_next (place.Parts said closed) (Entry o) v is = absurd is
place_next (place.Entry p w closed) (Parts said logs) v is = absurd is
place_next (place.Entry p w closed) (Entry o) v is = (omega (arith, is.0, length-append o.done (found_of o.verdict o.logs o.rows o.models ∷ [])), refl, refl)

rows_next : (at : ℕ) (h : Header) (s : Shown) (v : Verdict) (rows : List (List Bool)) → rows ≡ [] → AreRowsOf at rows h (with_entry s v)
rows_next at h (Parts said logs) v rows none = (none, (λ some. absurd (omega (arith, some))), All-nil (λ (r : List Bool). length r ≡ input_count h.a.signals))
rows_next at h (Entry o) v rows none = (none, (λ some. absurd (omega (arith, some))), All-nil (λ (r : List Bool). length r ≡ input_count h.a.signals))

hold_next : (h : Header) (m : MiterLll) (s : Shown) (v : Verdict) → IsReady h m s v → VerdictFits h.depth v → IsSmallFormula (verdict_instants h.depth v) (length h.a.signals) → HoldSoFar h m (with_entry s v)
hold_next h m (Parts said logs) v ready fits small = record {
  equal_holds = ready.equal_holds;
  done_hold = ready.done_hold;
  small = small;
  logs_hold = λ n lt. absurd (omega (arith, lt));
  rows_hold = no_rows h.a 0 h.depth v fits;
  models_hold = All-nil (λ vs. Satisfies (listed vs) (step_formula h.a 0 h.depth).clauses);
}
hold_next h m (Entry o) v ready fits small =
    let p = length (next_open (Entry o) v).done in
    record {
      equal_holds = ready.equal_holds;
      done_hold = ready.done_hold;
      small = small;
      logs_hold = λ n lt. absurd (omega (arith, lt));
      rows_hold = no_rows h.a p h.depth v fits;
      models_hold = All-nil (λ vs. Satisfies (listed vs) (step_formula h.a p h.depth).clauses);
    }

abbrev pub in_next : Claims → Place → List (List Bool) → Claims
in_next c at rows = record c { place = at; rows = rows }

module _ (a : Lll) (c : Claims) (number : ℕ) (v : Verdict) (x : Expects a c number (line.Entry v)) where
  kinds : (nat_lt 0 x.due.steps ≡ false) × (nat_lt 0 x.due.logs ≡ false) × (nat_lt 0 x.due.rows ≡ false) × (x.due.model ≡ false) × (nat_lt 0 x.due.entries ≡ true)
  kinds = entry_by (nat_lt 0 x.due.steps) (nat_lt 0 x.due.logs) (nat_lt 0 x.due.rows) x.due.model (nat_lt 0 x.due.entries) x.is_due.kind

  entry_left : c.left ≡ 0
  entry_left = sym x.due_after.steps_due ∙ none x.due.steps kinds.0

  pub entry_depth : c.depth ≤ 64
  entry_depth = omega (arith, x.judging.judged.depth, x.depth_bound)

  fits_h : VerdictFits x.h.depth v
  fits_h = subst (λ d. VerdictFits d v) x.depth x.is_due.fits

  pub entry_fits : VerdictFits c.depth v
  entry_fits = subst (λ d. VerdictFits d v) (sym x.judging.judged.depth) fits_h

  ready : IsReady x.h c.miter x.s v
  ready = is_ready x.h c.miter x.s x.due v (parts_counted x.h.a x.h.b c.miter x.judging.judged.paired x.judging.judged.miter) x.judging.judged.hold
      (subst (λ n. IsDueIn x.h x.s n x.due) (ap open_logs entry_left) x.due_after.there) (none x.due.logs kinds.1) (none x.due.rows kinds.2) kinds.3 (some x.due.entries kinds.4)

  -- the next place can be counted
  pub entry_next : HasNext c.place
  entry_next = has_next c.place x.s x.h v c.miter x.judging.judged.few_obligations x.judging.judged.place ready

  small_as : IsSmallFormula (verdict_instants c.depth v) (length a.signals) → IsSmallFormula (verdict_instants x.h.depth v) (length x.h.a.signals)
  small_as small = subst (λ d. IsSmallFormula (verdict_instants d v) (length x.h.a.signals)) x.judging.judged.depth (subst (λ (l : Lll). IsSmallFormula (verdict_instants c.depth v) (length l.signals)) (sym x.same) small)

  small_back : IsSmallFormula (verdict_instants x.h.depth v) (length x.h.a.signals) → IsSmallFormula (verdict_instants c.depth v) (length a.signals)
  small_back small = subst (λ (l : Lll). IsSmallFormula (verdict_instants c.depth v) (length l.signals)) x.same (subst (λ d. IsSmallFormula (verdict_instants d v) (length x.h.a.signals)) (sym x.judging.judged.depth) small)

  -- its formulas are too large
  pub entry_refused : ¬ (IsSmallFormula (verdict_instants c.depth v) (length a.signals)) → IsRefused x.h (with_entry x.s v) number cause.Size
  entry_refused large = refused_entry x.h c.miter x.s v number (facts_of x.h x.s c x.judging.judged) ready (after_shown x.h x.s c number x.steps entry_left x.at) (λ small. large (small_back small))

  -- they aren't
  pub entry_turn : (at : Place) (rows : List (List Bool)) → IsSmallFormula (verdict_instants c.depth v) (length a.signals) → at ≡ place_in_entry c.place v → rows ≡ [] → IsJudged x.h (with_entry x.s v) c.left x.steps (in_next c at rows)
  entry_turn at rows small there empty =
      let j = x.judging.judged in
      record {
        judging = record {
          judged = record {
            depth = j.depth;
            conflicts = j.conflicts;
            few_parts = j.few_parts;
            few_obligations = j.few_obligations;
            paired = j.paired;
            miter = j.miter;
            place = subst (λ (q : Place). IsPlaceOf q (with_entry x.s v)) (sym there) (place_next c.place x.s v j.place);
            rows = rows_next c.rows_at x.h x.s v rows empty;
            hold = hold_next x.h c.miter x.s v ready fits_h (small_as small);
          };
          log_at = λ some. absurd (omega (arith, entry_left, some));
          tracked = λ some. absurd (omega (arith, entry_left, some));
          closed = x.judging.closed;
        };
        left_is = refl;
      }

-- ---- the last line

pub end_turn : (a : Lll) (c : Claims) (number : ℕ) (x : Expects a c number line.End) → IsJudged x.h x.s c.left x.steps c
end_turn a c number x = record { judging = x.judging; left_is = refl }
