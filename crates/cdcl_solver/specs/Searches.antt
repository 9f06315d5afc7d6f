-- What is true of the state of a search.
use Rattle.std.specs.Prelude.{◌≡◌, ◌≢◌, ◌+◌, ◌<◌, ◌≤◌, ◌⊎◌, ◌↔◌, ◌++◌, ◌∷◌, [], ℕ, ℤ, pos, neg_ℤ, Bool, true, false, Option, None, Some, List, All, Contains, length, take, slice_index_or, slice_set, swap, MatchOption}
use Rattle.rup_checker.specs.Formulas.{Cnf, IsLiteral}
use Rattle.rup_checker.specs.Steps.{IsAllFalse}
use Rattle.rup_checker.specs.Stores.{clause_at}
use Rattle.cdcl_solver.specs.declared.trail.Assigned.{Assigned}
use Rattle.cdcl_solver.specs.declared.trail.Reason.TheVariants as reason
use Rattle.cdcl_solver.specs.declared.search.Rewatch.{Rewatch}
use Rattle.cdcl_solver.specs.Literals.{Marking, Marks}
use Rattle.cdcl_solver.specs.Watches.{Lists, listed, AreWatched, AreApart, IsWatched, HasTrue, IsSafe}
use Rattle.cdcl_solver.specs.Trails.{falses, IsTrail}

-- a search: its clauses, the watches of each literal, the literals that are true, how many of these were followed up,
-- and whether the clauses of less than two literals were looked at
pub record Searched : Type 0 where
  pub variables : ℕ
  pub clauses : List (List ℤ)
  pub lists : Lists
  pub trail : List Assigned
  pub followed : ℕ
  pub started : Bool

-- no clause has a literal twice, and every literal is in range
pub record AreClauses (variables : ℕ) (clauses : List (List ℤ)) : Type 0 where
  pub in_range : All (All (IsLiteral variables)) clauses
  pub apart : All (AreApart (λ (l : ℤ). l)) clauses

-- the literals that are false
abbrev pub taken : Searched → List ℤ
taken s = falses s.trail

-- those of them that were followed up
abbrev pub followed_up : Searched → List ℤ
followed_up s = falses (take s.followed s.trail)

-- the clauses are in order, the watches stand in their lists, the trail is justified, and each clause of two or more
-- literals is safe over what was followed up, as are all once the short ones were looked at
pub record IsSearch (s : Searched) : Type 0 where
  pub few : s.variables ≤ 16000000
  pub count : length s.clauses < 4294967295
  pub clauses : AreClauses s.variables s.clauses
  pub lists : s.lists.variables ≡ s.variables
  pub watched : AreWatched s.variables s.clauses (listed s.lists)
  pub justified : IsTrail s.variables s.clauses s.trail
  pub within : s.followed ≤ length s.trail
  pub safe : (n : ℕ) → n < length s.clauses → (s.started ≡ true) ⊎ (2 ≤ length (clause_at s.clauses n)) →
      IsSafe (followed_up s) (taken s) (clause_at s.clauses n)

-- a search whose false literals are just the marked ones
pub record IsMarkedSearch (s : Searched) (falsified : Marking) : Type 0 where
  pub search : IsSearch s
  pub marks : Marks falsified (taken s)

-- all that is true was followed up
pub record IsSettled (s : Searched) : Type 0 where
  pub started : s.started ≡ true
  pub followed : s.followed ≡ length s.trail

-- one more literal is true
abbrev pub assigned : Searched → Assigned → Searched
assigned s a = record s { trail = s.trail ++ a ∷ [] }

-- the same clauses, but for the order of their literals
pub record AreSame (old new : List (List ℤ)) : Type 0 where
  pub count : length new ≡ length old
  pub literals : (n : ℕ) (l : ℤ) → Contains (clause_at new n) l ↔ Contains (clause_at old n) l

-- a clause made the literal true
abbrev pub IsImplied : Assigned → Type 0
IsImplied a = (number : ℕ) × (a.reason ≡ reason.Clause number)

-- the search goes on: clauses made more literals true
pub record GoesOn (old new : Searched) : Type 0 where
  pub variables : new.variables ≡ old.variables
  pub clauses : AreSame old.clauses new.clauses
  pub more : List Assigned
  pub trail : new.trail ≡ old.trail ++ more
  pub implied : All IsImplied more

-- every literal of the clause with this number is false
pub record IsConflict (s : Searched) (number : ℕ) : Type 0 where
  pub there : number < length s.clauses
  pub false : IsAllFalse (Contains (taken s)) (clause_at s.clauses number)

-- the literal is one of the clause, and the others are false
pub record IsLast (s : Searched) (number : ℕ) (l : ℤ) : Type 0 where
  pub there : number < length s.clauses
  pub stands : Contains (clause_at s.clauses number) l
  pub others : (m : ℤ) → Contains (clause_at s.clauses number) m → m ≢ l → Contains (taken s) m

-- a clause that leaves one literal is false, or makes that one true
abbrev pub IsTakenUp : Searched → Searched → ℕ → ℤ → Option ℕ → Type 0
IsTakenUp old new number l None = new ≡ assigned old (record { literal = l; reason = reason.Clause number })
IsTakenUp old new number l (Some conflict) = (new ≡ old) × (conflict ≡ number) × IsConflict old number

-- a watch of the literal gave its place to another clause's, or it was looked at
pub record IsVisited (old new : Searched) (l : ℤ) (at : ℕ) (number : ℕ) : Type 0 where
  pub goes_on : GoesOn old new
  pub followed : new.followed ≡ old.followed
  pub started : new.started ≡ old.started
  pub others : (n : ℕ) → n ≢ number → clause_at new.clauses n ≡ clause_at old.clauses n
  pub front : take at (listed new.lists l) ≡ take at (listed old.lists l)

-- the clause has the literal and the other one in its first two places, and has a third one that isn't false
pub record IsRewatch (s : Searched) (l : ℤ) (clause : Rewatch) : Type 0 where
  pub mine : clause.mine ≤ 1
  pub far : 2 ≤ clause.place
  pub low : clause.place < length (clause_at s.clauses clause.number)
  pub is : slice_index_or (clause_at s.clauses clause.number) clause.mine l ≡ l
  pub other : Contains (clause_at s.clauses clause.number) clause.other
  pub other_watches : IsWatched (clause_at s.clauses clause.number) clause.other
  pub differ : clause.other ≢ l
  pub free : ¬ (Contains (taken s) (slice_index_or (clause_at s.clauses clause.number) clause.place l))

-- the two literals of the clause are exchanged
pub record IsRewatched (old new : Searched) (l : ℤ) (at : ℕ) (clause : Rewatch) : Type 0 where
  pub clauses : new.clauses ≡
      slice_set old.clauses clause.number (swap (clause_at old.clauses clause.number) clause.mine clause.place)
  pub variables : new.variables ≡ old.variables
  pub trail : new.trail ≡ old.trail
  pub followed : new.followed ≡ old.followed
  pub started : new.started ≡ old.started
  pub front : take at (listed new.lists l) ≡ take at (listed old.lists l)

-- what was found of the clause: it is false, or it is safe with one more literal followed up
abbrev pub IsFound : Searched → ℤ → ℕ → Option ℕ → Type 0
IsFound s l number None = IsSafe (followed_up s ++ l ∷ []) (taken s) (clause_at s.clauses number)
IsFound s l number (Some conflict) = IsConflict s conflict

-- the number of the clause that a watch names
abbrev pub number_at : Searched → ℤ → ℕ → ℕ
number_at s l at = (slice_index_or (listed s.lists l) at (record { number = 0; other = pos 0; binary = false })).number

-- each clause of two or more literals is safe with one more literal followed up
abbrev pub AreSafeAfter : Searched → ℤ → Type 0
AreSafeAfter s l = (n : ℕ) → n < length s.clauses → 2 ≤ length (clause_at s.clauses n) →
    IsSafe (followed_up s ++ l ∷ []) (taken s) (clause_at s.clauses n)

-- the literal is the first false one that is still to be followed up
pub record IsWaiting (s : Searched) (l : ℤ) : Type 0 where
  pub low : s.followed < length s.trail
  pub is : l ≡ neg_ℤ (slice_index_or s.trail s.followed (record { literal = pos 0; reason = reason.Decision })).literal

-- the first clauses, so many, have a true literal where they have less than two
abbrev pub AreShortTrue : Searched → ℕ → Type 0
AreShortTrue s count = (n : ℕ) → n < count → length (clause_at s.clauses n) < 2 → HasTrue (taken s) (clause_at s.clauses n)

-- a clause was looked at by itself: it is false, or it has two literals or a true one
pub record IsLookedAt (old new : Searched) (number : ℕ) (conflict : Option ℕ) : Type 0 where
  pub clauses : new.clauses ≡ old.clauses
  pub goes_on : GoesOn old new
  pub followed : new.followed ≡ old.followed
  pub started : new.started ≡ old.started
  pub found : MatchOption conflict (length (clause_at new.clauses number) < 2 → HasTrue (taken new) (clause_at new.clauses number)) (IsConflict new)

-- a clause whose first literal has no value while the others are false, and whose second one was not false before
-- any decision
pub record IsAsserting (s : Searched) (clause : List ℤ) : Type 0 where
  pub some : 0 < length clause
  pub in_range : All (IsLiteral s.variables) clause
  pub apart : AreApart (λ (l : ℤ). l) clause
  pub free : (d : ℤ) → (¬ (Contains (taken s) (slice_index_or clause 0 d))) × (¬ (Contains (taken s) (neg_ℤ (slice_index_or clause 0 d))))
  pub others : (k : ℕ) (d : ℤ) → 1 ≤ k → k < length clause → Contains (taken s) (slice_index_or clause k d)
  pub second : (place : ℕ) (a : Assigned) (d : ℤ) → place < length s.trail → (slice_index_or s.trail place a).reason ≡ reason.Decision →
      (2 ≤ length clause) × (¬ (Contains (falses (take place s.trail)) (slice_index_or clause 1 d)))

-- the clause is there too, and made its first literal true
pub record IsLearnt (old new : Searched) (clause : List ℤ) : Type 0 where
  pub variables : new.variables ≡ old.variables
  pub clauses : new.clauses ≡ old.clauses ++ clause ∷ []
  pub count : length new.trail ≡ length old.trail + 1
  pub started : new.started ≡ old.started

-- a search over the formula in which nothing was done
pub record IsFresh (f : Cnf) (s : Searched) : Type 0 where
  pub variables : s.variables ≡ f.variables
  pub clauses : AreSame f.clauses s.clauses
  pub trail : s.trail ≡ []
  pub followed : s.followed ≡ 0
  pub started : s.started ≡ false
