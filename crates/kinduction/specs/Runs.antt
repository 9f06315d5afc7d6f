-- What the answers mean for runs. No formula and no log is spoken of here.
use Rattle.std.specs.Prelude.{◌≡◌, ℕ, ◌+◌, ◌≤◌, Bool, true, List, length, map, take, All, Some, slice_get}
use Rattle.lll_core.specs.declared.lll.Lll.{Lll}
use Rattle.lll_core.specs.Tables.{Instant, Table, value, IsRun, IsOnly, input_values}
use Rattle.miter.specs.declared.parts.MiterLll.{MiterLll}
use Rattle.miter.specs.Agreement.{PartsHold}
use Rattle.unroll_cnf.specs.Unrollings.{obligation}
use Rattle.unroll_cnf.specs.Counterexamples.{instant_at, IsAdmitted, IsCounterexample}

-- the obligation is true at the last instant of every run that meets assume, keep and the constraints throughout
abbrev pub Holds : Lll → ℕ → Type 0
Holds l p = (g : Table) (t : ℕ) → IsRun l.signals g → length g ≡ t + 1 → All (IsAdmitted l) g
    → All (λ now. value now l.keep ≡ true) g → value (instant_at g t) (obligation l p) ≡ true

-- a run, of any length, that meets assume and the constraints throughout and has the obligation false at the last instant
abbrev pub Breaks : Lll → ℕ → Table → Type 0
Breaks l p g = (j : ℕ) × IsCounterexample l p j g

-- no run with fewer instants breaks the obligation
pub record IsShortest (l : Lll) (p : ℕ) (g : Table) : Type 0 where
  pub breaks : Breaks l p g
  pub least : (h : Table) → Breaks l p h → length g ≤ length h

-- there is just one run with these rows of inputs, and it is a shortest one that breaks the obligation
pub record AreShortest (l : Lll) (p : ℕ) (bits : List (List Bool)) : Type 0 where
  pub run : Table
  pub only : IsOnly (λ g. IsRun l.signals g × (map (input_values l.signals) g ≡ bits)) run
  pub shortest : IsShortest l p run

-- in every run all parts are true at each instant up to which assume was true throughout
abbrev pub PartsStay : MiterLll → Type 0
PartsStay m = (g : Table) → IsRun m.lll.signals g → (t : ℕ) (now : Instant) → slice_get g t ≡ Some now
    → All (λ x. value x m.lll.assume ≡ true) (take (t + 1) g) → PartsHold m now
