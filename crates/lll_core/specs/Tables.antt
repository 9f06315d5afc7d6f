-- The meaning of signals: the equations that a table of truth values satisfies. Nothing is evaluated here.
use Rattle.std.specs.Prelude.{◌≡◌, ℕ, suc, ◌+◌, Bool, true, false, not, ◌||◌, List, [], ◌∷◌, length, All, Some, slice_get, slice_index_or, if◌then◌else◌}
use Rattle.lll_core.specs.declared.signal.Signal.{Signal}
use Rattle.lll_core.specs.declared.signal.Signal.TheVariants.{One, Input, Latch, Imp, Eqv}
use Rattle.lll_core.specs.Signals.{signal_of, is_negated, is_input, is_latch}

-- a truth value for each signal, in the order of the signals
abbrev pub Instant : Type 0
Instant = List Bool

-- instants one after the other, from time 0 on
abbrev pub Table : Type 0
Table = List Instant

-- the value of a signal at an instant
abbrev pub signal_value : Instant → ℕ → Bool
signal_value now n = slice_index_or now n false

-- the value of a literal at an instant
abbrev pub value : Instant → ℕ → Bool
value now literal =
    let x = signal_value now (signal_of literal) in
    if is_negated literal then not x else x

-- whether two truth values are equal
abbrev pub are_equal : Bool → Bool → Bool
are_equal true y = y
are_equal false y = not y

-- ---- the equation of one signal, whose value is x

-- at every instant
abbrev pub HoldsNow : Instant → Signal → Bool → Type 0
HoldsNow now One x = x ≡ true
HoldsNow now (Input name) x = Unit {0}
HoldsNow now (Latch name init next) x = Unit {0}
HoldsNow now (Imp a b) x = x ≡ (not (value now a) || value now b)
HoldsNow now (Eqv a b) x = x ≡ are_equal (value now a) (value now b)

-- at the first instant of a run
abbrev pub HoldsAtStart : Instant → Signal → Bool → Type 0
HoldsAtStart now One x = Unit {0}
HoldsAtStart now (Input name) x = Unit {0}
HoldsAtStart now (Latch name init next) x = x ≡ value now init
HoldsAtStart now (Imp a b) x = Unit {0}
HoldsAtStart now (Eqv a b) x = Unit {0}

-- at an instant that follows another
abbrev pub HoldsAfter : Instant → Signal → Bool → Type 0
HoldsAfter before One x = Unit {0}
HoldsAfter before (Input name) x = Unit {0}
HoldsAfter before (Latch name init next) x = x ≡ value before next
HoldsAfter before (Imp a b) x = Unit {0}
HoldsAfter before (Eqv a b) x = Unit {0}

-- ---- the equations of all signals

-- `One` is true, and each gate is the implication or the equivalence of its operands
abbrev pub GatesHold : List Signal → Instant → Type 0
GatesHold signals now =
    (n : ℕ) (s : Signal) → slice_get signals n ≡ Some s → HoldsNow now s (signal_value now n)

-- each latch is its init
abbrev pub LatchesStart : List Signal → Instant → Type 0
LatchesStart signals now =
    (n : ℕ) (s : Signal) → slice_get signals n ≡ Some s → HoldsAtStart now s (signal_value now n)

-- each latch is what its next was at the instant before
abbrev pub LatchesFollow : List Signal → Instant → Instant → Type 0
LatchesFollow signals before now =
    (n : ℕ) (s : Signal) → slice_get signals n ≡ Some s → HoldsAfter before s (signal_value now n)

-- ---- tables

-- a window: the equations hold, but for that of a latch at the first instant
pub record IsWindow (signals : List Signal) (g : Table) : Type 0 where
  pub lengths : (t : ℕ) (now : Instant) → slice_get g t ≡ Some now → length now ≡ length signals
  pub gates : (t : ℕ) (now : Instant) → slice_get g t ≡ Some now → GatesHold signals now
  pub latches : (t : ℕ) (before now : Instant) → slice_get g t ≡ Some before → slice_get g (t + 1) ≡ Some now
      → LatchesFollow signals before now

-- a run: all equations hold
pub record IsRun (signals : List Signal) (g : Table) : Type 0 where
  pub window : IsWindow signals g
  pub start : (now : Instant) → slice_get g 0 ≡ Some now → LatchesStart signals now

-- ---- what is chosen freely

-- how many signals pass a test
abbrev pub count_where : (Signal → Bool) → List Signal → ℕ
count_where p [] = 0
count_where p (s ∷ signals) = if p s then suc (count_where p signals) else count_where p signals

-- the values at an instant of the signals that pass a test, in the order of the signals
abbrev pub values_where : (Signal → Bool) → List Signal → Instant → List Bool
values_where p [] now = []
values_where p (s ∷ signals) [] = []
values_where p (s ∷ signals) (x ∷ now) =
    if p s then x ∷ values_where p signals now else values_where p signals now

-- the number of inputs, and their values at an instant
abbrev pub input_count : List Signal → ℕ
input_count signals = count_where is_input signals

abbrev pub input_values : List Signal → Instant → List Bool
input_values signals now = values_where is_input signals now

-- the number of latches, and their values at an instant
abbrev pub latch_count : List Signal → ℕ
latch_count signals = count_where is_latch signals

abbrev pub latch_values : List Signal → Instant → List Bool
latch_values signals now = values_where is_latch signals now

-- the instant meets the equations with these inputs, as the first of a run or after the instant before it
pub record IsRow (signals : List Signal) (first : Bool) (inputs : List Bool)
    (before now : Instant) : Type 0 where
  pub long : length now ≡ length signals
  pub inputs_right : input_values signals now ≡ inputs
  pub gates : GatesHold signals now
  pub start : first ≡ true → LatchesStart signals now
  pub follow : first ≡ false → LatchesFollow signals before now

-- ---- laws

-- at each instant a value for each input
abbrev pub AreInputs : List Signal → List (List Bool) → Type 0
AreInputs signals inputs = All (λ xs. length xs ≡ input_count signals) inputs

-- the property holds of this value, and of no other
pub record IsOnly {X : Type 0} (P : X → Type 0) (x : X) : Type 0 where
  pub holds : P x
  pub only : (y : X) → P y → y ≡ x

abbrev pub ExactlyOne : {X : Type 0} → (X → Type 0) → Type 0
ExactlyOne {X} P = (x : X) × IsOnly P x
