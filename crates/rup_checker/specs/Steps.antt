-- When a clause follows by unit propagation along hints, and why a step is refused.
use Rattle.std.specs.Prelude.{◌≡◌, ◌<◌, ℕ, ℤ, neg_ℤ, List, [], ◌∷◌, ◌++◌, length, All, Contains, IsSomeAnd, MatchOption, slice_get, Result, Ok, Err, ◌⊎◌}
use Rattle.rup_checker.specs.declared.fault.StepFault.{StepFault}
use Rattle.rup_checker.specs.declared.fault.StepFault.TheVariants as fault
use Rattle.rup_checker.specs.Formulas.{IsLiteral}
use Rattle.rup_checker.specs.Stores.{Known}

-- every literal of the clause is among those that are taken false
abbrev pub IsAllFalse : (ℤ → Type 0) → List ℤ → Type 0
IsAllFalse Taken clause = All Taken clause

-- just one literal of the clause is not among those that are taken false, however often it stands there
pub record IsUnit (Taken : ℤ → Type 0) (clause : List ℤ) (l : ℤ) : Type 0 where
  pub stands : Contains clause l
  pub left : ¬ (Taken l)
  pub alone : (m : ℤ) → Contains clause m → ¬ (Taken m) → m ≡ l

-- each hint is unit when its turn comes, and the negation of its one literal is then taken false too
abbrev pub Propagates : List (List ℤ) → List ℤ → List ℕ → List ℤ → Type 0
Propagates clauses taken [] after = after ≡ taken
Propagates clauses taken (hint ∷ hints) after =
    (l : ℤ) × IsSomeAnd (slice_get clauses hint) (λ c. IsUnit (Contains taken) c l)
    × Propagates clauses (neg_ℤ l ∷ taken) hints after

-- with these literals taken false, every hint but the last is unit when its turn comes, and the last is false
pub record Refutes (clauses : List (List ℤ)) (taken : List ℤ) (hints : List ℕ) : Type 0 where
  pub units : List ℕ
  pub last : ℕ
  pub after : List ℤ
  pub split : hints ≡ units ++ last ∷ []
  pub propagated : Propagates clauses taken units after
  pub conflict : IsSomeAnd (slice_get clauses last) (IsAllFalse (Contains after))

-- a step is accepted where its literals are in range, and its hints refute that they are all false
pub record IsAccepted (variables : ℕ) (clauses : List (List ℤ)) (clause : List ℤ) (hints : List ℕ) : Type 0 where
  pub in_range : All (IsLiteral variables) clause
  pub refuted : Refutes clauses clause hints

-- the first literal that is 0 or out of range
pub record IsFirstOutside (variables : ℕ) (clause : List ℤ) (l : ℤ) : Type 0 where
  pub before : List ℤ
  pub after : List ℤ
  pub split : clause ≡ before ++ l ∷ after
  pub inside : All (IsLiteral variables) before
  pub outside : ¬ (IsLiteral variables l)

-- why the next of the hints that are left neither propagates nor ends the step
abbrev pub Stops : List (List ℤ) → List ℤ → List ℕ → StepFault → Type 0
Stops clauses taken [] why = why ≡ fault.NoConflict
Stops clauses taken (hint ∷ hints) why =
    MatchOption (slice_get clauses hint) (why ≡ fault.Unknown hint) (λ c.
    (why ≡ fault.NotUnit hint) × ((l : ℤ) → ¬ (IsUnit (Contains taken) c l))
    × ¬ ((hints ≡ []) × IsAllFalse (Contains taken) c))

-- the first hint that prevents the step
pub record IsPrevented (clauses : List (List ℤ)) (taken : List ℤ) (hints : List ℕ) (why : StepFault) : Type 0 where
  pub units : List ℕ
  pub rest : List ℕ
  pub after : List ℤ
  pub split : hints ≡ units ++ rest
  pub propagated : Propagates clauses taken units after
  pub stopped : Stops clauses after rest why

-- why a step is refused: its first literal that is out of range, and where there is none the first hint that prevents it
abbrev pub IsRefused : ℕ → List (List ℤ) → List ℤ → List ℕ → StepFault → Type 0
IsRefused variables clauses clause hints why =
    ((l : ℤ) × (why ≡ fault.Literal l) × IsFirstOutside variables clause l)
    ⊎ (All (IsLiteral variables) clause × IsPrevented clauses clause hints why)

-- there may be no memory for one more step
abbrev pub LacksRoom : Known → List ℤ → Type 0
LacksRoom known clause = (known.spare_steps < 1) ⊎ (known.spare_literals < length clause)

-- a step is accepted, or refused for what prevents it; want of memory is an answer only where there may be none
abbrev pub IsAnswered : Known → List ℤ → List ℕ → Result Unit StepFault → Type 0
IsAnswered known clause hints (Ok _) = IsAccepted known.variables known.clauses clause hints
IsAnswered known clause hints (Err why) =
    IsRefused known.variables known.clauses clause hints why ⊎ ((why ≡ fault.Memory) × LacksRoom known clause)
