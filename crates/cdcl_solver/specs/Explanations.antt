-- What a walk down the trail makes of a false clause.
use Rattle.std.specs.Prelude.{◌≡◌, ◌≢◌, ◌+◌, ◌-◌, ◌<◌, ◌≤◌, ◌⊎◌, ℕ, ℤ, pos, neg_ℤ, nat_abs, List, [], ◌∷◌, All, Contains, length, take, drop, reverse, slice_index_or}
use Rattle.rup_checker.specs.Formulas.{IsLiteral}
use Rattle.rup_checker.specs.Steps.{Refutes}
use Rattle.rup_checker.specs.Stores.{clause_at}
use Rattle.cdcl_solver.specs.declared.analysis.Explained.{Explained}
use Rattle.cdcl_solver.specs.declared.analysis.Learnt.{Learnt}
use Rattle.cdcl_solver.specs.declared.trail.Assigned.{Assigned}
use Rattle.cdcl_solver.specs.declared.trail.Reason.TheVariants as reason
use Rattle.cdcl_solver.specs.Literals.{Marking, IsMarked}
use Rattle.cdcl_solver.specs.Trails.{falses}
use Rattle.cdcl_solver.specs.Watches.{AreApart}
use Rattle.cdcl_solver.specs.Searches.{Searched, taken}

-- along the hints each clause leaves one literal, which is true, while the others satisfy D or were left negated by an
-- earlier hint; the last clause leaves none
abbrev pub Derives : List (List ℤ) → List ℤ → (ℤ → Type 0) → List ℕ → ℕ → Type 0
Derives cs falses D [] last = (last < length cs) × ((m : ℤ) → Contains (clause_at cs last) m → D m)
Derives cs falses D (hint ∷ hints) last =
    (l : ℤ) × (hint < length cs) × Contains (clause_at cs hint) l × Contains falses (neg_ℤ l)
    × ((m : ℤ) → Contains (clause_at cs hint) m → m ≢ l → D m)
    × Derives cs falses (λ m. D m ⊎ (neg_ℤ l ≡ m)) hints last

-- the literals that a set marks
abbrev pub IsPicked : Marking → ℤ → Type 0
IsPicked set l = IsLiteral set.variables l × IsMarked set l

-- the last decision of the trail is the last of its first literals, so many; none means that there is no decision
pub record IsLastLevel (s : Searched) (start : ℕ) : Type 0 where
  pub within : start ≤ length s.trail
  pub none_after : (place : ℕ) (d : Assigned) → start ≤ place → place < length s.trail → (slice_index_or s.trail place d).reason ≢ reason.Decision
  pub decided : (place : ℕ) (d : Assigned) → place + 1 ≡ start → (slice_index_or s.trail place d).reason ≡ reason.Decision

-- the list has the places of the last level's literals, by their variables
abbrev pub AreLocated : Searched → ℕ → List ℕ → Type 0
AreLocated s start places = (k : ℕ) (d : Assigned) → start ≤ k + 1 → k < length s.trail →
    slice_index_or places (nat_abs (slice_index_or s.trail k d).literal) 0 ≡ k

-- the literal was false before the last decision, or it was not before that place
abbrev pub IsSince : Searched → ℕ → ℕ → ℤ → Type 0
IsSince s start place l = Contains (falses (take (start - 1) s.trail)) l ⊎ (¬ (Contains (falses (take place s.trail)) l))

-- the place of a decision before which the clause's literals but the first were false, and before whose earlier
-- decisions that were seen the second one was not
pub record IsBack (s : Searched) (at start back : ℕ) (clause : List ℤ) : Type 0 where
  pub above : at ≤ back
  pub low : back < start
  pub decided : (d : Assigned) → (slice_index_or s.trail back d).reason ≡ reason.Decision
  pub others : (k : ℕ) (c : ℤ) → 1 ≤ k → k < length clause → Contains (falses (take back s.trail)) (slice_index_or clause k c)
  pub second : (place : ℕ) (d : Assigned) (c : ℤ) → at ≤ place → place < back → (slice_index_or s.trail place d).reason ≡ reason.Decision →
      (2 ≤ length clause) × (¬ (Contains (falses (take place s.trail)) (slice_index_or clause 1 c)))

-- from the place on the trail was walked: the clause with the marked literals, which were false before the place, is
-- refuted by the hints
pub record IsWalked (s : Searched) (at : ℕ) (clause : List ℤ) (hints : List ℕ) (seen : Marking) : Type 0 where
  pub some : 0 < length hints
  pub variables : seen.variables ≡ s.variables
  pub marked : (l : ℤ) → IsPicked seen l → Contains (falses (take at s.trail)) l
  pub derives : Derives s.clauses (taken s) (λ l. Contains clause l ⊎ IsPicked seen l) (reverse (drop 1 hints)) (slice_index_or hints 0 0)
  pub kept : (l : ℤ) → Contains clause l → Contains (taken s) l × (¬ (Contains (falses (take at s.trail)) l))
  pub apart : AreApart (λ (l : ℤ). l) clause

-- the walk is in the last level, and no literal was kept: no marked one of the level stands before the lowest place
pub record IsOpened (s : Searched) (start at : ℕ) (e : Explained) : Type 0 where
  pub walked : IsWalked s at e.clause e.hints e.seen
  pub empty : e.clause ≡ []
  pub lowest : (l : ℤ) → IsPicked e.seen l → IsSince s start e.lowest l

-- the walk is below the last level, or there is no decision; the search may go back to the place that was found
pub record IsExplained (s : Searched) (start at : ℕ) (e : Explained) : Type 0 where
  pub walked : IsWalked s at e.clause e.hints e.seen
  pub below : (at < start) ⊎ (start ≡ 0)
  pub none : start ≡ 0 → e.clause ≡ []
  pub back : 0 < start → IsBack s at start e.back e.clause

-- the whole trail was walked
pub record IsWhole (s : Searched) (e : Explained) : Type 0 where
  pub start : ℕ
  pub level : IsLastLevel s start
  pub explained : IsExplained s start 0 e

-- the step follows from the clauses by its hints, its literals are false, and the search may go back to the place
pub record IsShown (s : Searched) (learnt : Learnt) : Type 0 where
  pub start : ℕ
  pub level : IsLastLevel s start
  pub refuted : Refutes s.clauses learnt.step.clause learnt.step.hints
  pub within : (l : ℤ) → Contains learnt.step.clause l → Contains (taken s) l
  pub apart : AreApart (λ (l : ℤ). l) learnt.step.clause
  pub none : start ≡ 0 → learnt.step.clause ≡ []
  pub back : 0 < start → IsBack s 0 start learnt.back learnt.step.clause
