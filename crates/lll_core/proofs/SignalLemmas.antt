-- The facts of a list of signals, as a signal comes to its end.
use Rattle.std.proofs.Common.{◌≡◌, ℕ, ◌<◌, ◌^◌, ◌==◌, List, [], ◌∷◌, ◌++◌, length, Some, slice_get, All, Contains, sym, ap, subst, ◌∙◌, inl, inr, lit<, arith}
use Rattle.std.specs.List.{IsDistinct}
use Rattle.std.specs.Str.{bytes_eq}
use Rattle.std.proofs.lemmas.Grind.{flat_map-append}
use Rattle.std.proofs.lemmas.List.{append-nil, length-append}
use Rattle.std.proofs.lemmas.List.Elements.{All-append, All-head, All-nil, All-weaker}
use Rattle.std.proofs.lemmas.Option.{none-some}
use Rattle.lll_core.specs.declared.signal.Signal.{Signal}
use Rattle.lll_core.specs.declared.signal.Signal.TheVariants.{One, Input, Latch, Imp, Eqv}
use Rattle.lll_core.specs.Signals.{signal_of, is_one, operands, nexts, own_names, signal_names, NamesSignal, IsName, AreSignals}
use Rattle.lll_core.specs.Building.{AreSoFar, MayFollow}
use Rattle.lll_core.proofs.ListLemmas.{slice_get-push, IsDistinct-push, IsDistinct-none}

pub signal_names-push : (signals : List Signal) (s : Signal) → signal_names (signals ++ s ∷ []) ≡ signal_names signals ++ own_names s
signal_names-push signals s = flat_map-append own_names signals (s ∷ []) ∙ ap (λ names. signal_names signals ++ names) (append-nil (own_names s))

-- the names differ still
pub distinct-push : (names : List (List ℕ)) (s : Signal) → IsDistinct bytes_eq names → All (λ name. Contains names name → ⊥) (own_names s)
    → IsDistinct bytes_eq (names ++ own_names s)
distinct-push names One d new = subst (IsDistinct bytes_eq) (sym (append-nil names)) d
distinct-push names (Input name) d new = IsDistinct-push names name d (All-head (λ name. Contains names name → ⊥) name [] new)
distinct-push names (Latch name init next) d new = IsDistinct-push names name d (All-head (λ name. Contains names name → ⊥) name [] new)
distinct-push names (Imp a b) d new = subst (IsDistinct bytes_eq) (sym (append-nil names)) d
distinct-push names (Eqv a b) d new = subst (IsDistinct bytes_eq) (sym (append-nil names)) d

pub AreSoFar-push : (signals : List Signal) (s : Signal) → AreSoFar signals → MayFollow signals s → AreSoFar (signals ++ s ∷ [])
AreSoFar-push signals s old may = record {
  few = subst (λ n. n < 2 ^ 31) (sym (length-append signals (s ∷ []))) may.room;
  one = λ n x at. elim (slice_get-push signals s n x at) [
    | inl p ↦ old.one n x p
    | inr p ↦ subst (λ y. is_one y ≡ (n == 0)) p.1 (may.one ∙ ap (λ k. k == 0) (sym p.0))
  ];
  lower = λ n x at. elim (slice_get-push signals s n x at) [
    | inl p ↦ old.lower n x p
    | inr p ↦ subst (λ y. All (λ a. signal_of a < n) (operands y)) p.1 (subst (λ k. All (λ a. signal_of a < k) (operands s)) (sym p.0) may.lower)
  ];
  named = subst (All IsName) (sym (signal_names-push signals s)) (All-append IsName (signal_names signals) (own_names s) old.named may.named);
  distinct = subst (IsDistinct bytes_eq) (sym (signal_names-push signals s)) (distinct-push (signal_names signals) s old.distinct may.new);
}

-- no signals yet
pub AreSoFar-none : AreSoFar []
AreSoFar-none = record {
  few = lit< tt;
  one = λ n s at. absurd (none-some s at);
  lower = λ n s at. absurd (none-some s at);
  named = All-nil IsName;
  distinct = IsDistinct-none;
}

-- all facts, once each next names a signal
pub AreSignals-whole : (signals : List Signal) → AreSoFar signals → 0 < length signals
    → ((n : ℕ) (s : Signal) → slice_get signals n ≡ Some s → All (NamesSignal signals) (nexts s)) → AreSignals signals
AreSignals-whole signals sofar some next = record {
  some = some;
  few = sofar.few;
  one = sofar.one;
  lower = sofar.lower;
  next = next;
  named = sofar.named;
  distinct = sofar.distinct;
}

pub AreSoFar-signals : (signals : List Signal) → AreSignals signals → AreSoFar signals
AreSoFar-signals signals all = record { few = all.few; one = all.one; lower = all.lower; named = all.named; distinct = all.distinct }

-- nexts that name a signal still do, as one comes
pub next-push : (signals : List Signal) (s : Signal) → ((n : ℕ) (x : Signal) → slice_get signals n ≡ Some x → All (NamesSignal signals) (nexts x))
    → All (NamesSignal signals) (nexts s)
    → (n : ℕ) (x : Signal) → slice_get (signals ++ s ∷ []) n ≡ Some x → All (NamesSignal (signals ++ s ∷ [])) (nexts x)
next-push signals s old next n x at = All-weaker (NamesSignal signals) (NamesSignal (signals ++ s ∷ [])) (λ a lt. omega (arith, lt, length-append signals (s ∷ []))) (nexts x)
    (elim (slice_get-push signals s n x at) [
      | inl p ↦ old n x p
      | inr p ↦ subst (λ y. All (NamesSignal signals) (nexts y)) p.1 next
    ])
