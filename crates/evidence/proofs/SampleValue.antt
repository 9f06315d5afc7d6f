-- Values that have a text: one for each two models and numbers, and a model.
use Rattle.std.proofs.Common.{◌≡◌, ℕ, zero, suc, ◌≤◌, false, List, [], ◌∷◌, Some, slice_get, All, Contains, refl, subst, arith}
use Rattle.std.proofs.lemmas.List.Elements.{All-nil}
use Rattle.lll_core.specs.declared.lll.Lll.{Lll}
use Rattle.lll_core.specs.declared.signal.Signal.{Signal}
use Rattle.lll_core.specs.declared.signal.Signal.TheVariants.{One}
use Rattle.lll_core.specs.Signals.{nexts, NamesSignal, IsName, AreSignals, IsLll}
use Rattle.lll_core.specs.Building.{MayFollow}
use Rattle.lll_core.proofs.SignalLemmas.{AreSoFar-none, AreSoFar-push, AreSignals-whole}
use Rattle.lll_core.specs.declared.signal.Named.{Named}
use Rattle.kinduction.specs.declared.equal.Equal.TheVariants as equal
use Rattle.evidence.specs.declared.evidence.Evidence.{Evidence}
use Rattle.evidence.specs.Counts.{EntryFits, HasText}
use Rattle.evidence.proofs.RestGiven.{no_steps_log, no_steps_fit}

-- ---- a model of one signal

only_one : (n : ℕ) (s : Signal) → slice_get (One ∷ []) n ≡ Some s → All (NamesSignal (One ∷ [])) (nexts s)
only_one zero s at = let same : One ≡ s = cc in subst (λ (x : Signal). All (NamesSignal (One ∷ [])) (nexts x)) same (All-nil (NamesSignal (One ∷ [])))
only_one (suc n) s at = absurd cc

one_may_follow : MayFollow [] One
one_may_follow = record {
  room = omega arith;
  one = refl;
  lower = All-nil (NamesSignal {X = Signal} []);
  named = All-nil IsName;
  new = All-nil (λ (name : List ℕ). Contains [] name → ⊥);
}

one_is : AreSignals (One ∷ [])
one_is = AreSignals-whole (One ∷ []) (AreSoFar-push [] One AreSoFar-none one_may_follow) (omega arith) only_one

first_there : NamesSignal (One ∷ []) 0
first_there = omega arith

one_signal_is : IsLll (One ∷ []) 0 0 [] [] []
one_signal_is = record {
  are_signals = one_is;
  assume_there = first_there;
  keep_there = first_there;
  constraints_there = All-nil (NamesSignal (One ∷ []));
  obligations_there = All-nil (NamesSignal (One ∷ []));
  names_there = All-nil (λ (n : Named). NamesSignal (One ∷ []) n.literal);
  named = All-nil (λ (n : Named). IsName n.name);
}

pub one_signal : Lll
one_signal = record { signals = One ∷ []; assume = 0; keep = 0; constraints = []; obligations = []; names = []; is_lll = one_signal_is }

-- ---- a value for each two models and numbers

abbrev pub sample : ℕ → ℕ → Lll → Lll → Evidence
sample depth conflicts a b = record { depth = depth; conflicts = conflicts; a = a; b = b; equal = equal.Conflicts 0 false no_steps_log; entries = [] }

pub sample_fits : (depth conflicts : ℕ) (a b : Lll) → 1 ≤ depth → depth ≤ 64 → 1 ≤ conflicts → conflicts ≤ 1000000 → HasText (sample depth conflicts a b)
sample_fits depth conflicts a b some small spent few = record {
  some_depth = some;
  depth_bound = small;
  some_conflicts = spent;
  conflicts_bound = few;
  equal_fits = (omega arith, omega arith, no_steps_fit);
  entries_fit = refl;
  each_fits = All-nil (EntryFits depth a);
}
