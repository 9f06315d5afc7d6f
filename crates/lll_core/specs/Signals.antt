-- Literals, and the facts that a list of signals and a whole value keep.
use Rattle.std.specs.Prelude.{◌≡◌, ℕ, ◌/◌, ◌%◌, ◌^◌, ◌<◌, ◌≤◌, ◌==◌, Bool, true, false, List, [], ◌∷◌, length, All, Some, slice_get}
use Rattle.std.specs.List.{flat_map, IsDistinct}
use Rattle.std.specs.Str.{bytes_eq}
use Rattle.lll_core.specs.declared.signal.Signal.{Signal}
use Rattle.lll_core.specs.declared.signal.Signal.TheVariants.{One, Input, Latch, Imp, Eqv}
use Rattle.lll_core.specs.declared.signal.Named.{Named}

-- ---- literals

-- the signal that a literal names
abbrev pub signal_of : ℕ → ℕ
signal_of literal = literal / 2

-- whether a literal stands for the opposite of its signal
abbrev pub is_negated : ℕ → Bool
is_negated literal = literal % 2 == 1

-- the literal names one of these signals
abbrev pub NamesSignal : {X : Type 0} → List X → ℕ → Type 0
NamesSignal signals literal = signal_of literal < length signals

-- ---- signals

-- whether a signal is `One`
abbrev pub is_one : Signal → Bool
is_one One = true
is_one (Input name) = false
is_one (Latch name init next) = false
is_one (Imp a b) = false
is_one (Eqv a b) = false

-- whether a signal is an input
abbrev pub is_input : Signal → Bool
is_input One = false
is_input (Input name) = true
is_input (Latch name init next) = false
is_input (Imp a b) = false
is_input (Eqv a b) = false

-- whether a signal is a latch
abbrev pub is_latch : Signal → Bool
is_latch One = false
is_latch (Input name) = false
is_latch (Latch name init next) = true
is_latch (Imp a b) = false
is_latch (Eqv a b) = false

-- the literals that a signal takes at its own instant: a gate's operands and a latch's init
abbrev pub operands : Signal → List ℕ
operands One = []
operands (Input name) = []
operands (Latch name init next) = init ∷ []
operands (Imp a b) = a ∷ b ∷ []
operands (Eqv a b) = a ∷ b ∷ []

-- the literal whose value a latch takes over to the instant after
abbrev pub nexts : Signal → List ℕ
nexts One = []
nexts (Input name) = []
nexts (Latch name init next) = next ∷ []
nexts (Imp a b) = []
nexts (Eqv a b) = []

-- the name of an input or a latch
abbrev pub own_names : Signal → List (List ℕ)
own_names One = []
own_names (Input name) = name ∷ []
own_names (Latch name init next) = name ∷ []
own_names (Imp a b) = []
own_names (Eqv a b) = []

-- the names of all inputs and latches, in the order of the signals
abbrev pub signal_names : List Signal → List (List ℕ)
signal_names signals = flat_map own_names signals

-- a name: not empty, and of printable ASCII bytes, the space included
pub record IsName (name : List ℕ) : Type 0 where
  pub some : 0 < length name
  pub printable : All (λ b. (0x20 ≤ b) × (b ≤ 0x7E)) name

-- the facts that a list of signals keeps
pub record AreSignals (signals : List Signal) : Type 0 where
  pub some : 0 < length signals
  pub few : length signals < 2 ^ 31
  pub one : (n : ℕ) (s : Signal) → slice_get signals n ≡ Some s → is_one s ≡ (n == 0)
  pub lower : (n : ℕ) (s : Signal) → slice_get signals n ≡ Some s → All (λ a. signal_of a < n) (operands s)
  pub next : (n : ℕ) (s : Signal) → slice_get signals n ≡ Some s → All (NamesSignal signals) (nexts s)
  pub named : All IsName (signal_names signals)
  pub distinct : IsDistinct bytes_eq (signal_names signals)

-- ---- whole values

-- the facts that an `Lll` keeps
pub record IsLll (signals : List Signal) (assume keep : ℕ) (constraints obligations : List ℕ)
    (names : List Named) : Type 0 where
  pub are_signals : AreSignals signals
  pub assume_there : NamesSignal signals assume
  pub keep_there : NamesSignal signals keep
  pub constraints_there : All (NamesSignal signals) constraints
  pub obligations_there : All (NamesSignal signals) obligations
  pub names_there : All (λ n. NamesSignal signals n.literal) names
  pub named : All (λ n. IsName n.name) names
