-- Which signals of two models belong together, and what prevents a miter of them.
use Rattle.std.specs.Prelude.{◌≡◌, ◌≢◌, ℕ, ◌+◌, ◌<◌, ◌⊎◌, List, [], ◌∷◌, length, All, Some, slice_get, codes}
use Rattle.lll_core.specs.declared.lll.Lll.{Lll}
use Rattle.lll_core.specs.declared.signal.Signal.{Signal}
use Rattle.lll_core.specs.declared.signal.Signal.TheVariants.{One, Input, Latch, Imp, Eqv}
use Rattle.lll_core.specs.Signals.{own_names}
use Rattle.lll_core.specs.Tables.{latch_count}

-- the signal with this number is an input of this name
abbrev pub IsInputAt : List Signal → List ℕ → ℕ → Type 0
IsInputAt signals name n = slice_get signals n ≡ Some (Input name)

-- the signal with this number is a latch of this name
abbrev pub IsLatchAt : List Signal → List ℕ → ℕ → Type 0
IsLatchAt signals name n = (init : ℕ) × (next : ℕ) × (slice_get signals n ≡ Some (Latch name init next))

-- a signal that is an input or a latch has one of its kind and name among these
abbrev pub HasPartner : List Signal → Signal → Type 0
HasPartner signals One = Unit {0}
HasPartner signals (Input name) = (n : ℕ) × IsInputAt signals name n
HasPartner signals (Latch name init next) = (n : ℕ) × IsLatchAt signals name n
HasPartner signals (Imp a b) = Unit {0}
HasPartner signals (Eqv a b) = Unit {0}

-- each input and latch of b has its partner in a, and there are as many constraints and as many obligations
pub record Paired (a b : Lll) : Type 0 where
  pub signals : All (HasPartner a.signals) b.signals
  pub constraints : length a.constraints ≡ length b.constraints
  pub obligations : length a.obligations ≡ length b.obligations

-- the first input or latch without a partner has this name
pub record IsWithoutPartner (a b : List Signal) (name : List ℕ) : Type 0 where
  pub n : ℕ
  pub s : Signal
  pub at : slice_get b n ≡ Some s
  pub named : own_names s ≡ name ∷ []
  pub alone : HasPartner a s → ⊥
  pub earlier : (k : ℕ) (x : Signal) → k < n → slice_get b k ≡ Some x → HasPartner a x

-- all have one, but the numbers of constraints differ
pub record AreConstraintsUnpaired (a b : Lll) : Type 0 where
  pub signals : All (HasPartner a.signals) b.signals
  pub differ : length a.constraints ≢ length b.constraints

-- it is the numbers of obligations alone that differ
pub record AreObligationsUnpaired (a b : Lll) : Type 0 where
  pub signals : All (HasPartner a.signals) b.signals
  pub constraints : length a.constraints ≡ length b.constraints
  pub differ : length a.obligations ≢ length b.obligations

-- how many signals, latches, constraints and obligations a model has
abbrev pub size_of : Lll → ℕ
size_of l = length l.signals + latch_count l.signals + length l.constraints + length l.obligations

-- what prevents a miter is named: the first input or latch without a partner, else `constraints`, else `obligations`
abbrev pub IsUnpaired : Lll → Lll → List ℕ → Type 0
IsUnpaired a b name = IsWithoutPartner a.signals b.signals name
    ⊎ (AreConstraintsUnpaired a b × (name ≡ codes "constraints"))
    ⊎ (AreObligationsUnpaired a b × (name ≡ codes "obligations"))
