-- Signals of a value that is being built.
use Rattle.std.specs.Prelude.{◌≡◌, ◌≢◌, ℕ, ◌*◌, min, max, false, List, [], ◌∷◌, ◌++◌, ◌⊎◌, map, Some, slice_get}
use Rattle.lll_core.specs.declared.signal.Signal.{Signal}
use Rattle.lll_core.specs.declared.signal.Signal.TheVariants.{One, Input, Latch, Imp, Eqv}
use Rattle.lll_core.specs.declared.draft.Draft.{Draft}
use Rattle.lll_core.specs.declared.draft.Draft.TheVariants.{Whole, Waiting}
use Rattle.lll_core.specs.Signals.{signal_of, is_negated}

-- the signal of a draft; a latch that waits for its next has the literal 0 there
abbrev pub signal_in : Draft → Signal
signal_in (Whole s) = s
signal_in (Waiting name init) = Latch name init 0

-- the signals of all drafts
abbrev pub signals_in : List Draft → List Signal
signals_in drafts = map signal_in drafts

-- a latch with this next; what is no latch stays
abbrev pub with_next : ℕ → Draft → Draft
with_next next (Waiting name init) = Whole (Latch name init next)
with_next next (Whole (Latch name init old)) = Whole (Latch name init next)
with_next next (Whole One) = Whole One
with_next next (Whole (Input name)) = Whole (Input name)
with_next next (Whole (Imp a b)) = Whole (Imp a b)
with_next next (Whole (Eqv a b)) = Whole (Eqv a b)

-- nothing is wanting: it is no latch that waits for its next
abbrev pub IsWhole : Draft → Type 0
IsWhole d = (s : Signal) × (d ≡ Whole s)

-- a latch, with its next or without
abbrev pub IsLatch : Draft → Type 0
IsLatch d = (name : List ℕ) × (init : ℕ)
    × ((d ≡ Waiting name init) ⊎ ((next : ℕ) × (d ≡ Whole (Latch name init next))))

-- a literal that stands for a latch
pub record IsLatchLiteral (drafts : List Draft) (literal : ℕ) : Type 0 where
  pub positive : is_negated literal ≡ false
  pub latch : (d : Draft) × (slice_get drafts (signal_of literal) ≡ Some d) × IsLatch d

-- ---- gates

-- neither operand of a gate is a constant, and they are of two signals
pub record AreProper (a b : ℕ) : Type 0 where
  pub first : signal_of a ≢ 0
  pub second : signal_of b ≢ 0
  pub apart : signal_of a ≢ signal_of b

-- the literals of two signals, the lower first
abbrev pub lower : ℕ → ℕ → ℕ
lower a b = 2 * min (signal_of a) (signal_of b)

abbrev pub upper : ℕ → ℕ → ℕ
upper a b = 2 * max (signal_of a) (signal_of b)

-- a gate is proper, and an equivalence is of two signals themselves, the lower first
abbrev pub IsProper : Signal → Type 0
IsProper One = Unit {0}
IsProper (Input name) = Unit {0}
IsProper (Latch name init next) = Unit {0}
IsProper (Imp a b) = AreProper a b
IsProper (Eqv a b) = AreProper a b × (a ≡ lower a b) × (b ≡ upper a b)

-- a gate
abbrev pub IsGate : Signal → Type 0
IsGate s = (a : ℕ) × (b : ℕ) × ((s ≡ Imp a b) ⊎ (s ≡ Eqv a b))

-- every gate is proper, and no two have one form and the same operands
pub record AreReduced (signals : List Signal) : Type 0 where
  pub proper : (n : ℕ) (s : Signal) → slice_get signals n ≡ Some s → IsProper s
  pub shared : (m n : ℕ) (s : Signal) → IsGate s
      → slice_get signals m ≡ Some s → slice_get signals n ≡ Some s → m ≡ n

-- ---- steps of a builder

-- the drafts stay, or this signal comes after them
abbrev pub GainsAtMost : Signal → List Draft → List Draft → Type 0
GainsAtMost s old new = (new ≡ old) ⊎ (new ≡ old ++ Whole s ∷ [])

-- the draft without a latch's next
abbrev pub without_next : Draft → Draft
without_next (Waiting name init) = Waiting name init
without_next (Whole (Latch name init next)) = Waiting name init
without_next (Whole One) = Whole One
without_next (Whole (Input name)) = Whole (Input name)
without_next (Whole (Imp a b)) = Whole (Imp a b)
without_next (Whole (Eqv a b)) = Whole (Eqv a b)

-- the old drafts stay at their places, but for the nexts of latches
abbrev pub KeepsDrafts : List Draft → List Draft → Type 0
KeepsDrafts old new = (n : ℕ) (d : Draft) → slice_get old n ≡ Some d
    → (e : Draft) × (slice_get new n ≡ Some e) × (without_next e ≡ without_next d)
