-- Lines that are read begin some value's spelling.
use Rattle.std.proofs.Common.{◌≡◌, ℕ, zero, suc, ◌+◌, ◌-◌, ◌^◌, ◌<◌, List, [], ◌∷◌, ◌++◌, length, Ok, refl, sym, ap, subst, ◌∙◌, append_assoc, inl, inr, arith}
use Rattle.std.specs.Prelude.{codes, All, Contains}
use Rattle.std.proofs.lemmas.Bool.{ne_eqb}
use Rattle.std.proofs.lemmas.List.{append-nil, length-append}
use Rattle.std.proofs.lemmas.List.Elements.{All-from_recursion, All-head, All-nil, All-weaker}
use Rattle.std.proofs.lemmas.Option.{none-some}
use Rattle.lll_core.specs.Building.{AreSoFar, MayFollow}
use Rattle.lll_core.specs.declared.lll.Lll.{Lll}
use Rattle.lll_core.specs.declared.signal.Signal.{Signal}
use Rattle.lll_core.specs.declared.signal.Signal.TheVariants.{One, Input, Latch, Imp, Eqv}
use Rattle.lll_core.specs.Signals.{signal_of, nexts, signal_names, NamesSignal, IsName, AreSignals, IsLll}
use Rattle.lll_core.proofs.ListLemmas.{slice_get-push}
use Rattle.lll_core.proofs.SignalLemmas.{AreSoFar-push, AreSignals-whole}
use Rattle.lll_text.specs.declared.draft.Draft.{Draft}
use Rattle.lll_text.specs.declared.draft.Stage.{Stage}
use Rattle.lll_text.specs.declared.draft.Stage.TheVariants as stage
use Rattle.lll_text.specs.Spelling.{line, signal_lines, literal_line, list_lines, spelling}
use Rattle.lll_text.specs.Lines.{after_lines, NextsMayCome}
use Rattle.lll_text.proofs.SignalLines.{signal_lines-append}
use Rattle.lll_text.proofs.Signals.{NextHeld}
use Rattle.lll_text.proofs.Reached.{said, Closed, Listed, Fine, is_fine}
use Rattle.lll_text.proofs.OneReading.{value_of}

-- ---- signals that are gone on with

-- one signal more, without a name and without a next
abbrev filler : List Signal → Signal
filler [] = One
filler (s ∷ signals) = Imp 0 0

filler_follows : (signals : List Signal) → length signals + 1 < 2 ^ 31 → MayFollow signals (filler signals)
filler_follows [] room = record {
  room = room;
  one = refl;
  lower = All-nil (NamesSignal {X = Signal} []);
  named = All-nil IsName;
  new = All-nil (λ name. Contains (signal_names []) name → ⊥);
}
filler_follows (s ∷ signals) room =
    let there : signal_of 0 < length (s ∷ signals) = omega arith in
    record {
      room = room;
      one = sym (ne_eqb (length (s ∷ signals)) 0 (λ h. omega arith));
      lower = All-from_recursion (NamesSignal (s ∷ signals)) (0 ∷ 0 ∷ []) (there, (there, tt));
      named = All-nil IsName;
      new = All-nil (λ name. Contains (signal_names (s ∷ signals)) name → ⊥);
    }

filler_nexts : (signals : List Signal) → nexts (filler signals) ≡ []
filler_nexts [] = refl
filler_nexts (s ∷ signals) = refl

filler_may_come : (signals : List Signal) → NextsMayCome signals → NextsMayCome (signals ++ filler signals ∷ [])
filler_may_come signals may n s at =
    elim (slice_get-push signals (filler signals) n s at) [
      | inl p ↦ may n s p
      | inr p ↦ subst (λ x. All (λ a. signal_of a < 2 ^ 31 - 1) (nexts x)) p.1 (subst (All (λ a. signal_of a < 2 ^ 31 - 1)) (sym (filler_nexts signals)) (All-nil (λ a. signal_of a < 2 ^ 31 - 1)))
    ]

-- signals with others behind them that are all that a value needs
record Filled (signals : List Signal) : Type 0 where
  more : List Signal
  whole : AreSignals (signals ++ more)

fill : (k : ℕ) (signals : List Signal) → length signals + k ≡ 2 ^ 31 - 1 → AreSoFar signals → NextsMayCome signals → Filled signals
fill zero signals full sofar may = record {
  more = [];
  whole = subst AreSignals (sym (append-nil signals))
      (AreSignals-whole signals sofar (omega (arith, full)) (λ n s at. All-weaker (λ a. signal_of a < 2 ^ 31 - 1) (NamesSignal signals) (λ a lt. omega (arith, lt, full)) (nexts s) (may n s at)));
}
fill (suc k) signals full sofar may =
    let s = filler signals in
    let g = fill k (signals ++ s ∷ []) (omega (arith, full, length-append signals (s ∷ []))) (AreSoFar-push signals s sofar (filler_follows signals (omega (arith, full)))) (filler_may_come signals may) in
    record { more = s ∷ g.more; whole = subst AreSignals (append_assoc signals (s ∷ []) g.more) g.whole }

filled : (signals : List Signal) → AreSoFar signals → NextsMayCome signals → Filled signals
filled signals sofar may = fill (2 ^ 31 - 1 - length signals) signals (omega (arith, sofar.few)) sofar may

-- ---- a value whose spelling begins so

record Begins (front : List ℕ) : Type 0 where
  more : List ℕ
  value : Lll
  begins : spelling value ≡ front ++ more

-- a value that keeps signal 0 and has no lists
plain : (signals : List Signal) (assume : ℕ) → AreSignals signals → NamesSignal signals assume → IsLll signals assume 0 [] [] []
plain signals assume h there = record {
  are_signals = h;
  assume_there = there;
  keep_there = omega (arith, h.some);
  constraints_there = All-nil (NamesSignal signals);
  obligations_there = All-nil (NamesSignal signals);
  names_there = All-nil (λ n. NamesSignal signals n.literal);
  named = All-nil (λ n. IsName n.name);
}

abbrev plain_value : (signals : List Signal) (assume : ℕ) → AreSignals signals → NamesSignal signals assume → Lll
plain_value signals assume h there = record { signals = signals; assume = assume; keep = 0; constraints = []; obligations = []; names = []; is_lll = plain signals assume h there }

behind_signals : (h s t a k l e : List ℕ) → ((((h ++ (s ++ t)) ++ a) ++ k) ++ l) ++ e ≡ (h ++ s) ++ (t ++ (a ++ (k ++ (l ++ e))))
behind_signals h s t a k l e = simp append_assoc

behind_assume : (h a k l e : List ℕ) → (((h ++ a) ++ k) ++ l) ++ e ≡ (h ++ a) ++ (k ++ (l ++ e))
behind_assume h a k l e = simp append_assoc

begins_signals : (signals : List Signal) → Filled signals → Begins (line (codes "lll 1") ++ signal_lines 0 signals)
unfolding spelling
begins_signals signals g =
    let h = line (codes "lll 1") in
    let a = literal_line (codes "assume") 0 in
    let k = literal_line (codes "keep") 0 in
    let l = list_lines [] [] [] in
    let e = line (codes "end") in
    let t = signal_lines (0 + length signals) g.more in
    record {
      more = t ++ (a ++ (k ++ (l ++ e)));
      value = plain_value (signals ++ g.more) 0 g.whole (omega (arith, g.whole.some));
      begins = ap (λ (s : List ℕ). ((((h ++ s) ++ a) ++ k) ++ l) ++ e) (signal_lines-append 0 signals g.more) ∙ behind_signals h (signal_lines 0 signals) t a k l e;
    }

are_signals : (d : Draft) → AreSoFar d.signals → Closed d → AreSignals d.signals
are_signals d sofar c = AreSignals-whole d.signals sofar c.some c.next

begins_keep : (d : Draft) → AreSoFar d.signals → Closed d → Begins (said stage.Keep d)
unfolding spelling
begins_keep d sofar c =
    let k = literal_line (codes "keep") 0 in
    let l = list_lines [] [] [] in
    let e = line (codes "end") in
    record {
      more = k ++ (l ++ e);
      value = plain_value d.signals d.assume (are_signals d sofar c) c.assume_there;
      begins = behind_assume (line (codes "lll 1") ++ signal_lines 0 d.signals) (literal_line (codes "assume") d.assume) k l e;
    }

is_lll : (d : Draft) → AreSoFar d.signals → Listed d → IsLll d.signals d.assume d.keep d.constraints d.obligations d.names
is_lll d sofar x = record {
  are_signals = are_signals d sofar x.closed;
  assume_there = x.closed.assume_there;
  keep_there = x.keep_there;
  constraints_there = x.constraints_there;
  obligations_there = x.obligations_there;
  names_there = x.names_there;
  named = x.named;
}

begins_lists : (d : Draft) → AreSoFar d.signals → Listed d → Begins (said stage.Lists d)
unfolding spelling
begins_lists d sofar x = record { more = line (codes "end"); value = value_of d (is_lll d sofar x); begins = refl }

begins_end : (d : Draft) → AreSoFar d.signals → Listed d → Begins (said stage.End d)
unfolding spelling
begins_end d sofar x = record { more = []; value = value_of d (is_lll d sofar x); begins = sym (append-nil (said stage.End d)) }

-- ---- by the stage that is reached

none_may_come : (signals : List Signal) → signals ≡ [] → NextsMayCome signals
none_may_come [] e n s at = absurd (none-some s at)
none_may_come (x ∷ signals) e n s at = absurd cc

closed_may_come : (d : Draft) → AreSoFar d.signals → Closed d → NextsMayCome d.signals
closed_may_come d sofar c n s at = All-weaker (NamesSignal d.signals) (λ a. signal_of a < 2 ^ 31 - 1) (λ a lt. omega (arith, lt, sofar.few)) (nexts s) (c.next n s at)

next_held : (s : Signal) → All (λ a. signal_of a < 2 ^ 31 - 1) (nexts s) → NextHeld s
next_held One h = tt
next_held (Input name) h = tt
next_held (Latch name init next) h = let there = All-head (λ a. signal_of a < 2 ^ 31 - 1) next [] h in omega (arith, there)
next_held (Imp a b) h = tt
next_held (Eqv a b) h = tt

abbrev GoesOn : List ℕ → List ℕ → Type 0
GoesOn text rest = (front : List ℕ) × ((more : List ℕ) × ((lll : Lll) × ((text ≡ front ++ rest) × (spelling lll ≡ front ++ more))))

go_on : (st : Stage) (text : List ℕ) (d : Draft) (rest : List ℕ) → Fine st text d rest → NextsMayCome d.signals → Begins (said st d) → GoesOn text rest
go_on st text d rest f may b = (said st d, (b.more, (b.value, (f.spelled (λ n s at. next_held s (may n s at)), b.begins))))

of_stage : (st : Stage) (text : List ℕ) (d : Draft) (rest : List ℕ) → Fine st text d rest → (st ≡ stage.Signals → NextsMayCome d.signals) → GoesOn text rest
of_stage stage.Header text d rest f may =
    let come = none_may_come d.signals f.known.0 in
    let b = begins_signals d.signals (filled d.signals f.sofar come) in
    go_on stage.Header text d rest f come (record { more = spelling b.value; value = b.value; begins = refl })
of_stage stage.Signals text d rest f may = go_on stage.Signals text d rest f (may refl) (begins_signals d.signals (filled d.signals f.sofar (may refl)))
of_stage stage.Keep text d rest f may = go_on stage.Keep text d rest f (closed_may_come d f.sofar f.known.1) (begins_keep d f.sofar f.known.1)
of_stage stage.Lists text d rest f may = go_on stage.Lists text d rest f (closed_may_come d f.sofar f.known.closed) (begins_lists d f.sofar f.known)
of_stage stage.End text d rest f may = go_on stage.End text d rest f (closed_may_come d f.sofar f.known.closed) (begins_end d f.sofar f.known)

pub goes_on : (k : ℕ) (text rest : List ℕ) (d : Draft) → after_lines k text ≡ Ok (d, rest) → (d.stage ≡ stage.Signals → NextsMayCome d.signals) → GoesOn text rest
goes_on k text rest d e may = of_stage d.stage text d rest (is_fine k text (d, rest) e) may
