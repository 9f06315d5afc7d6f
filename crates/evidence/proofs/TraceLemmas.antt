-- The run of a trace, row by row.
use Rattle.std.proofs.Common.{◌≡◌, ℕ, ◌+◌, Bool, true, false, List, [], ◌∷◌, ◌++◌, length, Some, slice_get, refl, sym, ap, subst, ◌∙◌, inl, inr, append_assoc, arith}
use Rattle.std.specs.Prelude.{◌↔◌, IsTrue, All, not}
use Rattle.std.proofs.lemmas.List.{length-append, length-map, map-append}
use Rattle.std.proofs.lemmas.List.Elements.{All-nil, All-head, All-tail, All-cons, All-push}
use Rattle.std.proofs.lemmas.Option.{none-some, get_or_from_slice_get}
use Rattle.lll_core.specs.declared.lll.Lll.{Lll}
use Rattle.lll_core.specs.Tables.{Instant, Table, value, IsRun, IsRow, input_count, input_values}
use Rattle.lll_core.proofs.ListLemmas.{slice_get-last}
use Rattle.lll_core.proofs.TableLemmas.{IsWindow-none, run_starts, run_goes_on, run_there}
use Rattle.unroll_cnf.specs.Unrollings.{obligation}
use Rattle.unroll_cnf.specs.Counterexamples.{instant_at, IsAdmitted, IsCounterexample}
use Rattle.evidence.specs.declared.trace.Trace.{Trace}
use Rattle.evidence.specs.Refusals.{IsTrace}
use Rattle.evidence.specs.Claims.{HasRun, EndsIn}

-- ---- facts of all instants, one more

all_before : {X : Type 0} (P : X → Type 0) (xs : List X) (x : X) → All P (xs ++ x ∷ []) → All P xs × P x
all_before P [] x all = (All-nil P, All-head P x [] all)
all_before P (y ∷ xs) x all =
    let rest = all_before P xs x (All-tail P y (xs ++ x ∷ []) all) in
    (All-cons P y xs (All-head P y (xs ++ x ∷ []) all) rest.0, rest.1)

-- ---- rows

-- no row so far
pub no_run : (l : Lll) (trace : Trace) → trace.is_first ≡ true → trace.is_admitted ≡ true → HasRun l [] trace
no_run l trace first admitted = record {
  run = [];
  is_run = record { window = IsWindow-none l.signals; start = λ now at. absurd (none-some now at) };
  inputs = refl;
  counted = All-nil (λ xs. length xs ≡ input_count l.signals);
  last = inl (refl, first);
  admitted = (λ _. All-nil (IsAdmitted l), λ _. admitted);
}

next_run : (l : Lll) (run : Table) (trace : Trace) (inputs : List Bool) (now : Instant) → IsRun l.signals run → EndsIn run trace → IsRow l.signals trace.is_first inputs trace.before.items now → IsRun l.signals (run ++ now ∷ [])
next_run l run trace inputs now is_run last row =
    let before = trace.before.items in
    elim last [
      | inl none ↦ subst (λ (g : Table). IsRun l.signals (g ++ now ∷ [])) (sym none.0) (run_starts l.signals inputs before now (subst (λ first. IsRow l.signals first inputs before now) none.1 row))
      | inr some ↦ subst (λ (g : Table). IsRun l.signals (g ++ now ∷ [])) (sym some.1)
          (subst (IsRun l.signals) (sym (append_assoc some.0 (before ∷ []) (now ∷ [])))
          (run_goes_on l.signals some.0 inputs before now (subst (IsRun l.signals) some.1 is_run) (subst (λ first. IsRow l.signals first inputs before now) some.2 row)))
    ]

-- one row more
pub more_run : (l : Lll) (rows : List (List Bool)) (inputs : List Bool) (old new : Trace) → HasRun l rows old → length inputs ≡ input_count l.signals → IsRow l.signals old.is_first inputs old.before.items new.before.items
    → new.is_first ≡ false → IsTrue new.is_admitted ↔ (IsTrue old.is_admitted × IsAdmitted l new.before.items) → HasRun l (rows ++ inputs ∷ []) new
more_run l rows inputs old new has long row first admitted = record {
  run = has.run ++ new.before.items ∷ [];
  is_run = next_run l has.run old inputs new.before.items has.is_run has.last row;
  inputs = map-append (input_values l.signals) has.run (new.before.items ∷ []) ∙ ap (λ (ys : List (List Bool)). ys ++ input_values l.signals new.before.items ∷ []) has.inputs
      ∙ ap (λ (y : List Bool). rows ++ y ∷ []) row.inputs_right;
  counted = All-push (λ xs. length xs ≡ input_count l.signals) rows inputs has.counted long;
  last = inr (has.run, refl, first);
  admitted = (
    λ yes. All-push (IsAdmitted l) has.run new.before.items (has.admitted.0 (admitted.0 yes).0) (admitted.0 yes).1,
    λ all. let both = all_before (IsAdmitted l) has.run new.before.items all in admitted.1 (has.admitted.1 both.0, both.1),
  );
}

-- ---- the whole

-- the last instant
last_instant : (rows : List (List Bool)) (run : Table) (trace : Trace) (j : ℕ) → length run ≡ j + 1 → EndsIn run trace → instant_at run j ≡ trace.before.items
last_instant rows run trace j long last =
    let before = trace.before.items in
    elim last [
      | inl none ↦ absurd (let n : length run ≡ 0 = ap (λ (g : Table). length g) none.0 in omega (arith, n, long))
      | inr some ↦ (
          let n : length run ≡ length (some.0 ++ before ∷ []) = ap (λ (g : Table). length g) some.1 in
          let at : length some.0 ≡ j = omega (arith, n, long, length-append some.0 (before ∷ [])) in
          let there : slice_get run j ≡ Some before = ap (λ (g : Table). slice_get g j) some.1 ∙ subst (λ k. slice_get (some.0 ++ before ∷ []) k ≡ Some before) at (slice_get-last some.0 before) in
          get_or_from_slice_get run j before [] there)
    ]

-- the rows are those of a counterexample where the run so far is one
pub run_breaks : (l : Lll) (p j : ℕ) (rows : List (List Bool)) (trace : Trace) (result : Bool) → HasRun l rows trace → length rows ≡ j + 1
    → IsTrue result ↔ (IsTrue trace.is_admitted × (value trace.before.items (obligation l p) ≡ false)) → IsTrue result ↔ IsTrace l p j rows
run_breaks l p j rows trace result has count answer =
    let long : length has.run ≡ j + 1 = omega (arith, count, ap (λ (ys : List (List Bool)). length ys) has.inputs, length-map has.run (input_values l.signals)) in
    let end = last_instant rows has.run trace j long has.last in
    let one = run_there l.signals l.is_lll.are_signals.lower rows has.counted in (
      λ yes. (
        has.run,
        has.inputs,
        record {
          run = has.is_run;
          long = long;
          admitted = has.admitted.0 (answer.0 yes).0;
          broken = ap (λ (now : Instant). value now (obligation l p)) end ∙ (answer.0 yes).1;
        },
      ),
      λ trace_of.
          let same : trace_of.0 ≡ has.run = one.1.only trace_of.0 (trace_of.2.run, trace_of.1) ∙ sym (one.1.only has.run (has.is_run, has.inputs)) in
          let c : IsCounterexample l p j has.run = subst (IsCounterexample l p j) same trace_of.2 in
          answer.1 (has.admitted.1 c.admitted, ap (λ (now : Instant). value now (obligation l p)) (sym end) ∙ c.broken),
    )

-- ---- what is answered

not_true : (v : Bool) → not v ≡ true → v ≡ false
not_true true e = sym e
not_true false e = refl

-- where a fact holds, and a value is false
pub break_then : (v w : Bool) (A : Type 0) → A → v ≡ w → IsTrue (not v) ↔ (A × (w ≡ false))
break_then v w A a same = (λ no. (a, sym same ∙ not_true v no), λ both. ap not (same ∙ both.1))
