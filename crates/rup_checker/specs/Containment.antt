-- Which clauses a clause contains, found by listing each under one of its literals.
use Rattle.std.specs.Prelude.{◌≡◌, ◌<◌, ◌⊎◌, ℕ, ℤ, IsTrue, List, [], All, Any, Contains, length}
use Rattle.rup_checker.specs.Formulas.{Cnf, IsLiteral}
use Rattle.rup_checker.specs.Marks.{LiteralMarks, IsMarked}
use Rattle.rup_checker.specs.Occurrences.{listed}
use Rattle.rup_checker.specs.Stores.{clause_at}
use Rattle.rup_checker.specs.declared.containment.Anchors.{Anchors}

-- every literal of the clause with this number is in range and marked
abbrev pub IsCovered : List (List ℤ) → LiteralMarks → ℕ → Type 0
IsCovered clauses marks n = All (λ l. IsLiteral marks.variables l × IsMarked marks l) (clause_at clauses n)

-- the clause with this number is listed under one of its literals, or it is empty and that is noted
abbrev pub IsAnchored : List (List ℤ) → Anchors → ℕ → Type 0
IsAnchored clauses anchors n =
    ((clause_at clauses n ≡ []) × IsTrue anchors.has_empty)
    ⊎ Any (λ l. Contains (listed anchors.occurrences l) n) (clause_at clauses n)

-- the first clauses, so many, are each listed under one of their literals, or noted if empty, and no others
pub record AreAnchored (clauses : List (List ℤ)) (count : ℕ) (anchors : Anchors) : Type 0 where
  pub within : (l : ℤ) (n : ℕ) → IsLiteral anchors.occurrences.variables l → Contains (listed anchors.occurrences l) n → n < count
  pub anchored : (n : ℕ) → n < count → IsAnchored clauses anchors n
  pub empty : IsTrue anchors.has_empty → (n : ℕ) × (n < count) × (clause_at clauses n ≡ [])

-- known clauses, their lists, and literals that are marked
pub record Subsuming : Type 0 where
  pub known : Cnf
  pub anchors : Anchors
  pub marks : LiteralMarks

-- all are of the same variables, and each known clause is listed under one of its literals
pub record IsSubsumption (known : Cnf) (anchors : Anchors) (marks : LiteralMarks) : Type 0 where
  pub marked : marks.variables ≡ known.variables
  pub listed : anchors.occurrences.variables ≡ known.variables
  pub anchored : AreAnchored known.clauses (length known.clauses) anchors
