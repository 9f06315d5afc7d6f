use Rattle.std.proofs.Common.{rules, ◌≡◌, ◌∙◌, ◌<◌, ◌≤◌, ◌∷◌, [], List, sym, ap, subst, refl, length, get_or, arith, pos, to_z, of_z, w32, Some, true, false}
use Rattle.std.specs.Prelude.{ℤ, Contains, neg_ℤ, slice_get, IfOk, Bool}
use Rattle.std.proofs.lemmas.Bool.Decides.{Decides-eqb}
use Rattle.std.proofs.lemmas.List.{nil_from_length}
use Rattle.std.proofs.lemmas.List.Elements.{All-contains}
use Rattle.rup_checker.specs.Formulas.{IsLiteral}
use Rattle.rup_checker.specs.Stores.{clause_at}
use Rattle.cdcl_solver.specs.Searches.{Searched, taken, IsSearch, IsLast, IsTakenUp}
use Rattle.cdcl_solver.proofs.States.{at_get}
use Rattle.cdcl_solver.proofs.Settling.{looked_long, looked_empty, looked_true, looked_up, only, only_last}
use Rattle.cdcl_solver.proofs.search.Search.look.Goals as goal

some_length : {X : Type 0} (xs : List X) → ¬ (xs ≡ []) → 0 < length xs
some_length [] h = absurd (h refl)
some_length (x ∷ xs) h = omega arith

nonempty : (b : Bool) → b ≡ false → b ≡ true → ⊥
nonempty true e h = cc
nonempty false e h = cc

pub returns-then-clause-ge2-clause-found : goal.returns-then-clause-ge2-clause-found
returns-then-clause-ge2-clause-found c =
    let there = c.requires in
    let is = at_get c.args.self.now.clauses c.args.number c.clause-clause.result.now []
    (subst (λ (s : Searched). slice_get s.clauses c.args.number ≡ Some c.clause-clause.result.now) c.self.view_is c.clause-clause.ensures) in
    looked_long c.args.self.now c.args.number there (subst (λ (xs : List ℤ). 2 ≤ length xs) (sym is) c.if-clause-ge2.true)

pub returns-then-is_empty-clause-found : goal.returns-then-is_empty-clause-found
returns-then-is_empty-clause-found c =
    let there = c.requires in
    let is = at_get c.args.self.now.clauses c.args.number c.clause-clause.result.now []
    (subst (λ (s : Searched). slice_get s.clauses c.args.number ≡ Some c.clause-clause.result.now) c.self.view_is c.clause-clause.ensures) in
    looked_empty c.args.self.now c.args.number there (is ∙ nil_from_length c.clause-clause.result.now ((Decides-eqb (length c.clause-clause.result.now) 0).0 (sym c.is_empty.ensures ∙ c.if-is_empty.true)))

pub is_true-requires : goal.is_true-requires
is_true-requires c =
    let there = c.requires in
    let is = at_get c.args.self.now.clauses c.args.number c.clause-clause.result.now []
    (subst (λ (s : Searched). slice_get s.clauses c.args.number ≡ Some c.clause-clause.result.now) c.self.view_is c.clause-clause.ensures) in
    let some : 0 < length (clause_at c.args.self.now.clauses c.args.number) = some_length _ (λ e. nonempty c.is_empty.result c.if-is_empty.false (c.is_empty.ensures ∙ (Decides-eqb (length c.clause-clause.result.now) 0).1 (ap length (sym is ∙ e)))) in
    let state = subst IsSearch c.self.view_is c.self.invariant.search in
    let read : to_z w32 (of_z w32 (get_or c.clause-clause.result.now 0 (pos 0))) ≡ get_or c.clause-clause.result.now 0 (pos 0) = search rules in
    let same : to_z w32 (of_z w32 (get_or c.clause-clause.result.now 0 (pos 0))) ≡ get_or (clause_at c.args.self.now.clauses c.args.number) 0 (pos 0) =
    read ∙ ap (λ (xs : List ℤ). get_or xs 0 (pos 0)) (sym is) in
    subst (IsLiteral c.args.self.now.variables) (sym same) (All-contains (IsLiteral c.args.self.now.variables) (clause_at c.args.self.now.clauses c.args.number) _
    (state.clauses.in_range c.args.number [] there) (only c.args.self.now c.args.number there some))

pub returns-then-is_true-clause-found : goal.returns-then-is_true-clause-found
returns-then-is_true-clause-found c =
    let there = c.requires in
    let is = at_get c.args.self.now.clauses c.args.number c.clause-clause.result.now []
    (subst (λ (s : Searched). slice_get s.clauses c.args.number ≡ Some c.clause-clause.result.now) c.self.view_is c.clause-clause.ensures) in
    let some : 0 < length (clause_at c.args.self.now.clauses c.args.number) = some_length _ (λ e. nonempty c.is_empty.result c.if-is_empty.false (c.is_empty.ensures ∙ (Decides-eqb (length c.clause-clause.result.now) 0).1 (ap length (sym is ∙ e)))) in
    let state = subst IsSearch c.self.view_is c.self.invariant.search in
    let read : to_z w32 (of_z w32 (get_or c.clause-clause.result.now 0 (pos 0))) ≡ get_or c.clause-clause.result.now 0 (pos 0) = search rules in
    let same : to_z w32 (of_z w32 (get_or c.clause-clause.result.now 0 (pos 0))) ≡ get_or (clause_at c.args.self.now.clauses c.args.number) 0 (pos 0) =
    read ∙ ap (λ (xs : List ℤ). get_or xs 0 (pos 0)) (sym is) in
    looked_true c.args.self.now c.args.number there some (subst (λ (m : ℤ). Contains (taken c.args.self.now) (neg_ℤ m)) same (c.if-is_true.ensures.0 refl))

pub take_up-requires-clause-in_range : goal.take_up-requires-clause-in_range
take_up-requires-clause-in_range c =
    let there = c.requires in
    let is = at_get c.args.self.now.clauses c.args.number c.clause-clause.result.now []
    (subst (λ (s : Searched). slice_get s.clauses c.args.number ≡ Some c.clause-clause.result.now) c.self.view_is c.clause-clause.ensures) in
    let some : 0 < length (clause_at c.args.self.now.clauses c.args.number) = some_length _ (λ e. nonempty c.is_empty.result c.if-is_empty.false (c.is_empty.ensures ∙ (Decides-eqb (length c.clause-clause.result.now) 0).1 (ap length (sym is ∙ e)))) in
    let state = subst IsSearch c.self.view_is c.self.invariant.search in
    let read : to_z w32 (of_z w32 (get_or c.clause-clause.result.now 0 (pos 0))) ≡ get_or c.clause-clause.result.now 0 (pos 0) = search rules in
    let same : to_z w32 (of_z w32 (get_or c.clause-clause.result.now 0 (pos 0))) ≡ get_or (clause_at c.args.self.now.clauses c.args.number) 0 (pos 0) =
    read ∙ ap (λ (xs : List ℤ). get_or xs 0 (pos 0)) (sym is) in
    subst (IsLiteral c.args.self.now.variables) (sym same) (All-contains (IsLiteral c.args.self.now.variables) (clause_at c.args.self.now.clauses c.args.number) _
    (state.clauses.in_range c.args.number [] there) (only c.args.self.now c.args.number there some))

pub take_up-requires-clause-last : goal.take_up-requires-clause-last
take_up-requires-clause-last c =
    let there = c.requires in
    let is = at_get c.args.self.now.clauses c.args.number c.clause-clause.result.now []
    (subst (λ (s : Searched). slice_get s.clauses c.args.number ≡ Some c.clause-clause.result.now) c.self.view_is c.clause-clause.ensures) in
    let some : 0 < length (clause_at c.args.self.now.clauses c.args.number) = some_length _ (λ e. nonempty c.is_empty.result c.if-is_empty.false (c.is_empty.ensures ∙ (Decides-eqb (length c.clause-clause.result.now) 0).1 (ap length (sym is ∙ e)))) in
    let state = subst IsSearch c.self.view_is c.self.invariant.search in
    let read : to_z w32 (of_z w32 (get_or c.clause-clause.result.now 0 (pos 0))) ≡ get_or c.clause-clause.result.now 0 (pos 0) = search rules in
    let same : to_z w32 (of_z w32 (get_or c.clause-clause.result.now 0 (pos 0))) ≡ get_or (clause_at c.args.self.now.clauses c.args.number) 0 (pos 0) =
    read ∙ ap (λ (xs : List ℤ). get_or xs 0 (pos 0)) (sym is) in
    subst (IsLast c.args.self.now c.args.number) (sym same) (only_last c.args.self.now c.args.number there some (omega (arith, c.if-clause-ge2.false, ap length is)))

pub returns-clause-found : goal.returns-clause-found
returns-clause-found c =
    let there = c.requires in
    let is = at_get c.args.self.now.clauses c.args.number c.clause-clause.result.now []
    (subst (λ (s : Searched). slice_get s.clauses c.args.number ≡ Some c.clause-clause.result.now) c.self.view_is c.clause-clause.ensures) in
    let some : 0 < length (clause_at c.args.self.now.clauses c.args.number) = some_length _ (λ e. nonempty c.is_empty.result c.if-is_empty.false (c.is_empty.ensures ∙ (Decides-eqb (length c.clause-clause.result.now) 0).1 (ap length (sym is ∙ e)))) in
    let state = subst IsSearch c.self.view_is c.self.invariant.search in
    let read : to_z w32 (of_z w32 (get_or c.clause-clause.result.now 0 (pos 0))) ≡ get_or c.clause-clause.result.now 0 (pos 0) = search rules in
    let same : to_z w32 (of_z w32 (get_or c.clause-clause.result.now 0 (pos 0))) ≡ get_or (clause_at c.args.self.now.clauses c.args.number) 0 (pos 0) =
    read ∙ ap (λ (xs : List ℤ). get_or xs 0 (pos 0)) (sym is) in
    looked_up c.args.self.now c.args.number there state c.take_up.new.self _ (only_last c.args.self.now c.args.number there some (omega (arith, c.if-clause-ge2.false, ap length is))) c.take_up.result
    (subst (λ (m : ℤ). IfOk c.take_up.result (IsTakenUp c.args.self.now c.take_up.new.self c.args.number m)) same c.take_up.ensures.found)
