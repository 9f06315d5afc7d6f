-- The clauses that say the equation of a signal at an instant.
use Rattle.std.specs.Prelude.{ℕ, zero, suc, ◌+◌, ◌*◌, Bool, List, [], ◌∷◌, ◌++◌, ℤ, pos, neg_ℤ, if◌then◌else◌}
use Rattle.lll_core.specs.declared.signal.Signal.{Signal}
use Rattle.lll_core.specs.declared.signal.Signal.TheVariants.{One, Input, Latch, Imp, Eqv}
use Rattle.lll_core.specs.Signals.{signal_of, is_negated}

-- ---- variables

-- the variable of a signal at an instant; there are so many signals
abbrev pub variable_at : ℕ → ℕ → ℕ → ℕ
variable_at size instant signal = 1 + instant * size + signal

-- the literal over these variables that stands for a literal at an instant
abbrev pub literal_at : ℕ → ℕ → ℕ → ℤ
literal_at size instant literal =
    let x = pos (variable_at size instant (signal_of literal)) in
    if is_negated literal then neg_ℤ x else x

-- ---- clauses over literals x, a and b

-- x is the implication of a and b
abbrev pub implication_clauses : ℤ → ℤ → ℤ → List (List ℤ)
implication_clauses x a b =
    (x ∷ a ∷ []) ∷ (x ∷ neg_ℤ b ∷ []) ∷ (neg_ℤ x ∷ neg_ℤ a ∷ b ∷ []) ∷ []

-- x is the equivalence of a and b
abbrev pub equivalence_clauses : ℤ → ℤ → ℤ → List (List ℤ)
equivalence_clauses x a b =
    (neg_ℤ x ∷ neg_ℤ a ∷ b ∷ []) ∷ (neg_ℤ x ∷ a ∷ neg_ℤ b ∷ [])
    ∷ (x ∷ a ∷ b ∷ []) ∷ (x ∷ neg_ℤ a ∷ neg_ℤ b ∷ []) ∷ []

-- x is equal to a
abbrev pub equality_clauses : ℤ → ℤ → List (List ℤ)
equality_clauses x a = (x ∷ neg_ℤ a ∷ []) ∷ (neg_ℤ x ∷ a ∷ []) ∷ []

-- ---- clauses of signals

-- a latch x is its init at the first instant, or free there in a window, and its next at the instant before
abbrev pub latch_clauses : ℕ → Bool → ℕ → ℤ → ℕ → ℕ → List (List ℤ)
latch_clauses size window zero x init next =
    if window then [] else equality_clauses x (literal_at size zero init)
latch_clauses size window (suc before) x init next = equality_clauses x (literal_at size before next)

-- the clauses of a signal with this number at an instant
abbrev pub signal_clauses : ℕ → Bool → ℕ → ℕ → Signal → List (List ℤ)
signal_clauses size window instant n One = (pos (variable_at size instant n) ∷ []) ∷ []
signal_clauses size window instant n (Input name) = []
signal_clauses size window instant n (Latch name init next) =
    latch_clauses size window instant (pos (variable_at size instant n)) init next
signal_clauses size window instant n (Imp a b) =
    implication_clauses (pos (variable_at size instant n)) (literal_at size instant a) (literal_at size instant b)
signal_clauses size window instant n (Eqv a b) =
    equivalence_clauses (pos (variable_at size instant n)) (literal_at size instant a) (literal_at size instant b)

-- the clauses at an instant of signals that are numbered from n on, in their order
abbrev pub clauses_from : ℕ → Bool → ℕ → ℕ → List Signal → List (List ℤ)
clauses_from size window instant n [] = []
clauses_from size window instant n (s ∷ signals) =
    signal_clauses size window instant n s ++ clauses_from size window instant (n + 1) signals
