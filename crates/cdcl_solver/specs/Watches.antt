-- Which clauses are looked at when a literal becomes false.
use Rattle.std.specs.Prelude.{◌≡◌, ◌≢◌, ◌<◌, ◌≤◌, ◌⊎◌, ℕ, ℤ, neg_ℤ, true, List, [], All, Any, Contains, length, slice_index_or}
use Rattle.rup_checker.specs.Formulas.{IsLiteral}
use Rattle.rup_checker.specs.Stores.{clause_at}
use Rattle.cdcl_solver.specs.declared.watches.Watch.{Watch}
use Rattle.cdcl_solver.specs.Literals.{place_of}

-- a list of watches for each literal of the variables 1 to n, by their places
pub record Lists : Type 0 where
  pub variables : ℕ
  pub lists : List (List Watch)

-- the watches of a literal
abbrev pub listed : Lists → ℤ → List Watch
listed lists l = slice_index_or lists.lists (place_of l) []

-- the literal's list is this one now, and the other lists are as before
pub record AreEdited (old new : Lists) (literal : ℤ) (list : List Watch) : Type 0 where
  pub variables : new.variables ≡ old.variables
  pub itself : listed new literal ≡ list
  pub others : (l : ℤ) → l ≢ literal → listed new l ≡ listed old l

-- no two places of the list have the same
abbrev pub AreApart : {X Y : Type 0} → (X → Y) → List X → Type 0
AreApart {X} f xs = (i j : ℕ) (d : X) → i < length xs → j < length xs → f (slice_index_or xs i d) ≡ f (slice_index_or xs j d) → i ≡ j

-- the literal is one of the first two of a clause of at least two
pub record IsWatched (clause : List ℤ) (l : ℤ) : Type 0 where
  pub long : 2 ≤ length clause
  pub first_two : (slice_index_or clause 0 l ≡ l) ⊎ (slice_index_or clause 1 l ≡ l)

-- what a watch of a literal says of the clause with its number: one other literal, and in a binary clause the only one
pub record IsWatch (clause : List ℤ) (l : ℤ) (watch : Watch) : Type 0 where
  pub watched : IsWatched clause l
  pub other : Contains clause watch.other
  pub differ : watch.other ≢ l
  pub binary : watch.binary ≡ true → (m : ℤ) → Contains clause m → (m ≡ l) ⊎ (m ≡ watch.other)

-- each clause of at least two literals stands once in each of the lists of its first two, and in no other list
pub record AreWatched (variables : ℕ) (clauses : List (List ℤ)) (lists : ℤ → List Watch) : Type 0 where
  pub watches : (l : ℤ) → IsLiteral variables l → All (λ w. IsWatch (clause_at clauses w.number) l w) (lists l)
  pub once : (l : ℤ) → IsLiteral variables l → AreApart (λ (w : Watch). w.number) (lists l)
  pub stands : (n : ℕ) (l : ℤ) → IsLiteral variables l → IsWatched (clause_at clauses n) l → Any (λ w. w.number ≡ n) (lists l)

-- some literal of the clause is true
pub record HasTrue (taken : List ℤ) (clause : List ℤ) : Type 0 where
  pub literal : ℤ
  pub stands : Contains clause literal
  pub negated : Contains taken (neg_ℤ literal)

-- the clause has two literals, and none of its first two is among these
pub record HasOpenPair (taken : List ℤ) (clause : List ℤ) : Type 0 where
  pub long : 2 ≤ length clause
  pub open_both : (l : ℤ) → IsWatched clause l → ¬ (Contains taken l)

-- a clause that propagation need not look at: a literal of it is true by now, or none of its first two was false before
abbrev pub IsSafe : List ℤ → List ℤ → List ℤ → Type 0
IsSafe before now clause = HasTrue now clause ⊎ HasOpenPair before clause
