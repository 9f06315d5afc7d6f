-- What accepted claims mean for runs. No clause and no log is spoken of here.
use Rattle.std.specs.Prelude.{◌≡◌, ℕ, ◌+◌, ◌<◌, Bool, true, List, length, take, All, Some, slice_get}
use Rattle.lll_core.specs.declared.lll.Lll.{Lll}
use Rattle.lll_core.specs.Tables.{Instant, Table, value, IsRun}
use Rattle.miter.specs.declared.parts.MiterLll.{MiterLll}
use Rattle.miter.specs.Agreement.{ShareInputs, AreBoth}
use Rattle.unroll_cnf.specs.Unrollings.{obligation}
use Rattle.unroll_cnf.specs.Counterexamples.{instant_at, IsAdmitted}
use Rattle.miter.specs.Miters.{IsMiter}
use Rattle.kinduction.specs.Runs.{Breaks, AreShortest}
use Rattle.evidence.specs.declared.evidence.Evidence.{Evidence}
use Rattle.evidence.specs.declared.summary.Line.{Line}
use Rattle.evidence.specs.declared.summary.Line.TheVariants as line
use Rattle.evidence.specs.Summaries.{lines_of}

-- a run of a and one of b, with the same inputs by name at each instant
pub record AreBeside (a b : Lll) (of_a of_b : Table) : Type 0 where
  pub run_a : IsRun a.signals of_a
  pub run_b : IsRun b.signals of_b
  pub long : length of_a ≡ length of_b
  pub inputs : (t : ℕ) (x y : Instant) → slice_get of_a t ≡ Some x → slice_get of_b t ≡ Some y → ShareInputs a b x y

-- the obligation p is true in both at each instant up to which b's assume and constraints were true throughout
abbrev pub HoldsIn : Lll → Lll → ℕ → Table → Table → Type 0
HoldsIn a b p of_a of_b = (t : ℕ) → t < length of_b → All (IsAdmitted b) (take (t + 1) of_b)
    → (value (instant_at of_a t) (obligation a p) ≡ true) × (value (instant_at of_b t) (obligation b p) ≡ true)

-- so it is in every run of a beside one of b
abbrev pub HoldsInBoth : Lll → Lll → ℕ → Type 0
HoldsInBoth a b p = (of_a of_b : Table) → AreBeside a b of_a of_b → HoldsIn a b p of_a of_b

-- and so in every run of the miter, which is one of a and one of b at once
abbrev pub HoldsInMiter : Lll → Lll → MiterLll → ℕ → Type 0
HoldsInMiter a b m p = (g : Table) → IsRun m.lll.signals g
    → (of_a : Table) × (of_b : Table) × AreBeside a b of_a of_b × AreBoth a b m g of_a of_b × HoldsIn a b p of_a of_b

-- every run that breaks the obligation p has more instants than so many
abbrev pub BreaksAfter : Lll → ℕ → ℕ → Type 0
BreaksAfter l p instants = (g : Table) → Breaks l p g → instants < length g

-- ---- what is shown of each obligation

-- what the line of the obligation p says of the two models: it is proved, and holds in both and in their miter; it is falsified by a
-- trace of so many instants, the shortest there is; or it wasn't decided
abbrev pub IsMeantBy : Evidence → ℕ → Line → Type 0
IsMeantBy e p (line.Proved k) = HoldsInBoth e.a e.b p × ((m : MiterLll) → IsMiter e.a e.b m → HoldsInMiter e.a e.b m p)
IsMeantBy e p (line.Falsified n) = (bits : List (List Bool)) × (length bits ≡ n) × AreShortest e.a p bits
IsMeantBy e p line.Depth = BreaksAfter e.a p e.depth
IsMeantBy e p line.Conflicts = Unit {0}
IsMeantBy e p line.Equivalence = Unit {0}

-- there is a line for each obligation of a, in order, and each is so
pub record IsMeant (e : Evidence) : Type 0 where
  pub each : length (lines_of e.a e.equal e.entries) ≡ length e.a.obligations
  pub meant : (p : ℕ) (shown : Line) → slice_get (lines_of e.a e.equal e.entries) p ≡ Some shown → IsMeantBy e p shown
