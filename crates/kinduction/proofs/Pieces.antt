-- Fronts and rests of runs and windows.
use Rattle.std.proofs.Common.{◌≡◌, ℕ, zero, suc, ◌+◌, ◌<◌, List, [], ◌∷◌, take, drop, Some, slice_get, ap, ◌∙◌, arith}
use Rattle.std.specs.Prelude.{Option, None, IsSomeAnd}
use Rattle.std.proofs.lemmas.List.{get_or-take, get_or-drop}
use Rattle.std.proofs.lemmas.Option.{none-some}
use Rattle.lll_core.specs.declared.signal.Signal.{Signal}
use Rattle.lll_core.specs.Tables.{Table, IsWindow, IsRun}
use Rattle.unroll_cnf.specs.Counterexamples.{instant_at}

-- ---- lists

-- an item of a front stands at its place
pub get-front : {X : Type 0} (n : ℕ) (xs : List X) (t : ℕ) (x : X) → slice_get (take n xs) t ≡ Some x → slice_get xs t ≡ Some x
get-front zero xs t x at = absurd (none-some x at)
get-front (suc n) [] t x at = absurd (none-some x at)
get-front (suc n) (y ∷ xs) zero x at = at
get-front (suc n) (y ∷ xs) (suc t) x at = get-front n xs t x at

-- an item of a rest stands so much later
pub get-rest : {X : Type 0} (n : ℕ) (xs : List X) (t : ℕ) (x : X) → slice_get (drop n xs) t ≡ Some x → slice_get xs (n + t) ≡ Some x
get-rest zero xs t x at = let e : 0 + t ≡ t = omega arith in ap (slice_get xs) e ∙ at
get-rest (suc n) [] t x at = absurd (none-some x at)
get-rest (suc n) (y ∷ xs) t x at = let e : suc n + t ≡ suc (n + t) = omega arith in ap (slice_get (y ∷ xs)) e ∙ get-rest n xs t x at

-- the item that is there
pub there : {X : Type 0} (o : Option X) (P : X → Type 0) → IsSomeAnd o P → (x : X) × P x
there (Some x) P h = (x, h)
there None P h = absurd h

-- ---- tables

module _ (signals : List Signal) (n : ℕ) (g : Table) where
  pub window-front : IsWindow signals g → IsWindow signals (take n g)
  window-front w = record {
    lengths = λ t now at. w.lengths t now (get-front n g t now at);
    gates = λ t now at. w.gates t now (get-front n g t now at);
    latches = λ t before now at after. w.latches t before now (get-front n g t before at) (get-front n g (t + 1) now after);
  }

  pub run-front : IsRun signals g → IsRun signals (take n g)
  run-front r = record {
    window = window-front r.window;
    start = λ now at. r.start now (get-front n g 0 now at);
  }

  pub window-rest : IsWindow signals g → IsWindow signals (drop n g)
  window-rest w = record {
    lengths = λ t now at. w.lengths (n + t) now (get-rest n g t now at);
    gates = λ t now at. w.gates (n + t) now (get-rest n g t now at);
    latches = λ t before now at after.
        let e : n + t + 1 ≡ n + (t + 1) = omega arith in
        w.latches (n + t) before now (get-rest n g t before at) (ap (slice_get g) e ∙ get-rest n g (t + 1) now after);
  }

  pub instant-front : (t : ℕ) → t < n → instant_at (take n g) t ≡ instant_at g t
  instant-front t lt = get_or-take n g t [] lt

  pub instant-rest : (t : ℕ) → instant_at (drop n g) t ≡ instant_at g (n + t)
  instant-rest t = get_or-drop n g t []
