use Rattle.std.proofs.Common.{rules, ◌≡◌, ◌-◌, [], List, sym, subst, refl, to_z, of_z, w32}
use Rattle.std.specs.Prelude.{ℤ, Contains, slice_get, Some, neg_ℤ, IfOk}
use Rattle.std.proofs.lemmas.List.Elements.{All-contains}
use Rattle.rup_checker.specs.Formulas.{IsLiteral}
use Rattle.rup_checker.specs.Stores.{clause_at}
use Rattle.cdcl_solver.specs.Watches.{IsWatched}
use Rattle.cdcl_solver.specs.Searches.{Searched, taken, IsSearch, IsLast, IsRewatch, IsTakenUp, IsRewatched}
use Rattle.cdcl_solver.proofs.States.{at_get}
use Rattle.cdcl_solver.proofs.Visiting.{watching_of, says, c_range, true_found, other_in, clause_last, rewatch_asked, rewatched_found, on_visited, on_found}
use Rattle.cdcl_solver.proofs.search.Search.visit_clause.Goals as goal

pub watching-mine-requires : goal.watching-mine-requires
watching-mine-requires c =
    let state = subst IsSearch c.self.view_is c.self.invariant.search in
    let own : to_z w32 (of_z w32 c.args.literal) ≡ c.args.literal = search rules in
    let is = subst (λ (s : Searched). slice_get s.clauses c.args.number ≡ Some c.clause.result.now) c.self.view_is c.clause.ensures in
    let at = at_get c.args.self.now.clauses c.args.number c.clause.result.now [] is in
    subst (IsWatched c.clause.result.now) (sym own) (subst (λ (xs : List ℤ). IsWatched xs c.args.literal) at (says c.args.self.now c.args.literal c.args.at c.args.number state c.requires.in_range c.requires.within c.requires.number c.requires.falsified).watched)

pub is_true-requires : goal.is_true-requires
is_true-requires c =
    let state = subst IsSearch c.self.view_is c.self.invariant.search in
    let own : to_z w32 (of_z w32 c.args.literal) ≡ c.args.literal = search rules in
    let read : to_z w32 (of_z w32 c.watching-mine.result.1) ≡ c.watching-mine.result.1 = search rules in
    let is = subst (λ (s : Searched). slice_get s.clauses c.args.number ≡ Some c.clause.result.now) c.self.view_is c.clause.ensures in
    let at = at_get c.args.self.now.clauses c.args.number c.clause.result.now [] is in
    let mine = watching_of c.args.self.now.clauses c.args.number c.clause.result.now c.args.literal (to_z w32 (of_z w32 c.args.literal)) c.watching-mine.result.0 at own c.watching-mine.ensures.literal in
    let other = watching_of c.args.self.now.clauses c.args.number c.clause.result.now c.watching-mine.result.1 c.watching-mine.result.1 (1 - c.watching-mine.result.0) at refl c.watching-mine.ensures.other in
    subst (IsLiteral c.args.self.now.variables) (sym read) (All-contains (IsLiteral c.args.self.now.variables) (clause_at c.args.self.now.clauses c.args.number) c.watching-mine.result.1
    (c_range c.args.self.now c.args.literal c.args.at c.args.number state c.requires.in_range c.requires.within c.requires.number c.requires.falsified) (other_in c.args.self.now c.args.literal c.args.at c.args.number state c.requires.in_range c.requires.within c.requires.number c.requires.falsified c.watching-mine.result.0 c.watching-mine.result.1 c.watching-mine.ensures.mine mine other))

pub returns-then-is_true-clause-found : goal.returns-then-is_true-clause-found
returns-then-is_true-clause-found c =
    let state = subst IsSearch c.self.view_is c.self.invariant.search in
    let own : to_z w32 (of_z w32 c.args.literal) ≡ c.args.literal = search rules in
    let read : to_z w32 (of_z w32 c.watching-mine.result.1) ≡ c.watching-mine.result.1 = search rules in
    let is = subst (λ (s : Searched). slice_get s.clauses c.args.number ≡ Some c.clause.result.now) c.self.view_is c.clause.ensures in
    let at = at_get c.args.self.now.clauses c.args.number c.clause.result.now [] is in
    let mine = watching_of c.args.self.now.clauses c.args.number c.clause.result.now c.args.literal (to_z w32 (of_z w32 c.args.literal)) c.watching-mine.result.0 at own c.watching-mine.ensures.literal in
    let other = watching_of c.args.self.now.clauses c.args.number c.clause.result.now c.watching-mine.result.1 c.watching-mine.result.1 (1 - c.watching-mine.result.0) at refl c.watching-mine.ensures.other in
    true_found c.args.self.now c.args.literal c.args.at c.args.number state c.requires.in_range c.requires.within c.requires.number c.requires.falsified c.watching-mine.result.1
    (other_in c.args.self.now c.args.literal c.args.at c.args.number state c.requires.in_range c.requires.within c.requires.number c.requires.falsified c.watching-mine.result.0 c.watching-mine.result.1 c.watching-mine.ensures.mine mine other)
    (subst (λ (m : ℤ). Contains (taken c.args.self.now) (neg_ℤ m)) read (c.if-is_true.ensures.0 refl))

pub rewatch-requires-clause-rewatch : goal.rewatch-requires-clause-rewatch
rewatch-requires-clause-rewatch c =
    let state = subst IsSearch c.self.view_is c.self.invariant.search in
    let own : to_z w32 (of_z w32 c.args.literal) ≡ c.args.literal = search rules in
    let read : to_z w32 (of_z w32 c.watching-mine.result.1) ≡ c.watching-mine.result.1 = search rules in
    let is = subst (λ (s : Searched). slice_get s.clauses c.args.number ≡ Some c.clause.result.now) c.self.view_is c.clause.ensures in
    let at = at_get c.args.self.now.clauses c.args.number c.clause.result.now [] is in
    let mine = watching_of c.args.self.now.clauses c.args.number c.clause.result.now c.args.literal (to_z w32 (of_z w32 c.args.literal)) c.watching-mine.result.0 at own c.watching-mine.ensures.literal in
    let other = watching_of c.args.self.now.clauses c.args.number c.clause.result.now c.watching-mine.result.1 c.watching-mine.result.1 (1 - c.watching-mine.result.0) at refl c.watching-mine.ensures.other in
    subst (λ (m : ℤ). IsRewatch c.args.self.now m (record { number = c.args.number; mine = c.watching-mine.result.0; other = to_z w32 (of_z w32 c.watching-mine.result.1); place = c.in-Some.place })) (sym own)
    (subst (λ (o : ℤ). IsRewatch c.args.self.now c.args.literal (record { number = c.args.number; mine = c.watching-mine.result.0; other = o; place = c.in-Some.place })) (sym read) (rewatch_asked c.args.self.now c.args.literal c.args.at c.args.number state c.requires.in_range c.requires.within c.requires.number c.requires.falsified c.watching-mine.result.0 c.watching-mine.result.1 c.watching-mine.ensures.mine mine other c.in-Some.place c.in-Some.ensures.found.0 c.in-Some.ensures.found.1 c.in-Some.ensures.found.2))

pub take_up-requires-clause-in_range : goal.take_up-requires-clause-in_range
take_up-requires-clause-in_range c =
    let state = subst IsSearch c.self.view_is c.self.invariant.search in
    let own : to_z w32 (of_z w32 c.args.literal) ≡ c.args.literal = search rules in
    let read : to_z w32 (of_z w32 c.watching-mine.result.1) ≡ c.watching-mine.result.1 = search rules in
    let is = subst (λ (s : Searched). slice_get s.clauses c.args.number ≡ Some c.clause.result.now) c.self.view_is c.clause.ensures in
    let at = at_get c.args.self.now.clauses c.args.number c.clause.result.now [] is in
    let mine = watching_of c.args.self.now.clauses c.args.number c.clause.result.now c.args.literal (to_z w32 (of_z w32 c.args.literal)) c.watching-mine.result.0 at own c.watching-mine.ensures.literal in
    let other = watching_of c.args.self.now.clauses c.args.number c.clause.result.now c.watching-mine.result.1 c.watching-mine.result.1 (1 - c.watching-mine.result.0) at refl c.watching-mine.ensures.other in
    subst (IsLiteral c.args.self.now.variables) (sym read) (All-contains (IsLiteral c.args.self.now.variables) (clause_at c.args.self.now.clauses c.args.number) c.watching-mine.result.1
    (c_range c.args.self.now c.args.literal c.args.at c.args.number state c.requires.in_range c.requires.within c.requires.number c.requires.falsified) (other_in c.args.self.now c.args.literal c.args.at c.args.number state c.requires.in_range c.requires.within c.requires.number c.requires.falsified c.watching-mine.result.0 c.watching-mine.result.1 c.watching-mine.ensures.mine mine other))

pub take_up-requires-clause-last : goal.take_up-requires-clause-last
take_up-requires-clause-last c =
    let state = subst IsSearch c.self.view_is c.self.invariant.search in
    let own : to_z w32 (of_z w32 c.args.literal) ≡ c.args.literal = search rules in
    let read : to_z w32 (of_z w32 c.watching-mine.result.1) ≡ c.watching-mine.result.1 = search rules in
    let is = subst (λ (s : Searched). slice_get s.clauses c.args.number ≡ Some c.clause.result.now) c.self.view_is c.clause.ensures in
    let at = at_get c.args.self.now.clauses c.args.number c.clause.result.now [] is in
    let mine = watching_of c.args.self.now.clauses c.args.number c.clause.result.now c.args.literal (to_z w32 (of_z w32 c.args.literal)) c.watching-mine.result.0 at own c.watching-mine.ensures.literal in
    let other = watching_of c.args.self.now.clauses c.args.number c.clause.result.now c.watching-mine.result.1 c.watching-mine.result.1 (1 - c.watching-mine.result.0) at refl c.watching-mine.ensures.other in
    subst (IsLast c.args.self.now c.args.number) (sym read) (clause_last c.args.self.now c.args.literal c.args.at c.args.number state c.requires.in_range c.requires.within c.requires.number c.requires.falsified c.watching-mine.result.0 c.watching-mine.result.1 c.watching-mine.ensures.mine mine other
    c.in-None.ensures.none)

pub returns-in_ok-rewatch-in-Some-clause-visited : goal.returns-in_ok-rewatch-in-Some-clause-visited
returns-in_ok-rewatch-in-Some-clause-visited c =
    let state = subst IsSearch c.self.view_is c.self.invariant.search in
    let own : to_z w32 (of_z w32 c.args.literal) ≡ c.args.literal = search rules in
    let read : to_z w32 (of_z w32 c.watching-mine.result.1) ≡ c.watching-mine.result.1 = search rules in
    let is = subst (λ (s : Searched). slice_get s.clauses c.args.number ≡ Some c.clause.result.now) c.self.view_is c.clause.ensures in
    let at = at_get c.args.self.now.clauses c.args.number c.clause.result.now [] is in
    let mine = watching_of c.args.self.now.clauses c.args.number c.clause.result.now c.args.literal (to_z w32 (of_z w32 c.args.literal)) c.watching-mine.result.0 at own c.watching-mine.ensures.literal in
    let other = watching_of c.args.self.now.clauses c.args.number c.clause.result.now c.watching-mine.result.1 c.watching-mine.result.1 (1 - c.watching-mine.result.0) at refl c.watching-mine.ensures.other in
    let done = subst (λ (o : ℤ). IsRewatched c.args.self.now c.rewatch.new.self c.args.literal c.args.at (record { number = c.args.number; mine = c.watching-mine.result.0; other = o; place = c.in-Some.place })) read
    (subst (λ (m : ℤ). IsRewatched c.args.self.now c.rewatch.new.self m c.args.at (record { number = c.args.number; mine = c.watching-mine.result.0; other = to_z w32 (of_z w32 c.watching-mine.result.1); place = c.in-Some.place })) own c.in_ok-rewatch-in-Some.ensures.ok) in
    (rewatched_found c.args.self.now c.args.literal c.args.at c.args.number state c.requires.in_range c.requires.within c.requires.number c.requires.falsified c.watching-mine.result.0 c.watching-mine.result.1 c.watching-mine.ensures.mine mine other c.rewatch.new.self c.in-Some.place c.in-Some.ensures.found.0 c.in-Some.ensures.found.1 c.in-Some.ensures.found.2 done).0

pub returns-in_ok-rewatch-in-Some-clause-found : goal.returns-in_ok-rewatch-in-Some-clause-found
returns-in_ok-rewatch-in-Some-clause-found c =
    let state = subst IsSearch c.self.view_is c.self.invariant.search in
    let own : to_z w32 (of_z w32 c.args.literal) ≡ c.args.literal = search rules in
    let read : to_z w32 (of_z w32 c.watching-mine.result.1) ≡ c.watching-mine.result.1 = search rules in
    let is = subst (λ (s : Searched). slice_get s.clauses c.args.number ≡ Some c.clause.result.now) c.self.view_is c.clause.ensures in
    let at = at_get c.args.self.now.clauses c.args.number c.clause.result.now [] is in
    let mine = watching_of c.args.self.now.clauses c.args.number c.clause.result.now c.args.literal (to_z w32 (of_z w32 c.args.literal)) c.watching-mine.result.0 at own c.watching-mine.ensures.literal in
    let other = watching_of c.args.self.now.clauses c.args.number c.clause.result.now c.watching-mine.result.1 c.watching-mine.result.1 (1 - c.watching-mine.result.0) at refl c.watching-mine.ensures.other in
    let done = subst (λ (o : ℤ). IsRewatched c.args.self.now c.rewatch.new.self c.args.literal c.args.at (record { number = c.args.number; mine = c.watching-mine.result.0; other = o; place = c.in-Some.place })) read
    (subst (λ (m : ℤ). IsRewatched c.args.self.now c.rewatch.new.self m c.args.at (record { number = c.args.number; mine = c.watching-mine.result.0; other = to_z w32 (of_z w32 c.watching-mine.result.1); place = c.in-Some.place })) own c.in_ok-rewatch-in-Some.ensures.ok) in
    (rewatched_found c.args.self.now c.args.literal c.args.at c.args.number state c.requires.in_range c.requires.within c.requires.number c.requires.falsified c.watching-mine.result.0 c.watching-mine.result.1 c.watching-mine.ensures.mine mine other c.rewatch.new.self c.in-Some.place c.in-Some.ensures.found.0 c.in-Some.ensures.found.1 c.in-Some.ensures.found.2 done).1

pub returns-in-None-clause-visited : goal.returns-in-None-clause-visited
returns-in-None-clause-visited c =
    let state = subst IsSearch c.self.view_is c.self.invariant.search in
    let own : to_z w32 (of_z w32 c.args.literal) ≡ c.args.literal = search rules in
    let read : to_z w32 (of_z w32 c.watching-mine.result.1) ≡ c.watching-mine.result.1 = search rules in
    let is = subst (λ (s : Searched). slice_get s.clauses c.args.number ≡ Some c.clause.result.now) c.self.view_is c.clause.ensures in
    let at = at_get c.args.self.now.clauses c.args.number c.clause.result.now [] is in
    let mine = watching_of c.args.self.now.clauses c.args.number c.clause.result.now c.args.literal (to_z w32 (of_z w32 c.args.literal)) c.watching-mine.result.0 at own c.watching-mine.ensures.literal in
    let other = watching_of c.args.self.now.clauses c.args.number c.clause.result.now c.watching-mine.result.1 c.watching-mine.result.1 (1 - c.watching-mine.result.0) at refl c.watching-mine.ensures.other in
    on_visited c.args.self.now c.args.literal c.args.at c.args.number state c.requires.in_range c.requires.within c.requires.number c.requires.falsified c.take_up.new.self c.watching-mine.result.1 (clause_last c.args.self.now c.args.literal c.args.at c.args.number state c.requires.in_range c.requires.within c.requires.number c.requires.falsified c.watching-mine.result.0 c.watching-mine.result.1 c.watching-mine.ensures.mine mine other c.in-None.ensures.none) c.take_up.result (subst (λ (m : ℤ). IfOk c.take_up.result (IsTakenUp c.args.self.now c.take_up.new.self c.args.number m)) read c.take_up.ensures.found)

pub returns-in-None-clause-found : goal.returns-in-None-clause-found
returns-in-None-clause-found c =
    let state = subst IsSearch c.self.view_is c.self.invariant.search in
    let own : to_z w32 (of_z w32 c.args.literal) ≡ c.args.literal = search rules in
    let read : to_z w32 (of_z w32 c.watching-mine.result.1) ≡ c.watching-mine.result.1 = search rules in
    let is = subst (λ (s : Searched). slice_get s.clauses c.args.number ≡ Some c.clause.result.now) c.self.view_is c.clause.ensures in
    let at = at_get c.args.self.now.clauses c.args.number c.clause.result.now [] is in
    let mine = watching_of c.args.self.now.clauses c.args.number c.clause.result.now c.args.literal (to_z w32 (of_z w32 c.args.literal)) c.watching-mine.result.0 at own c.watching-mine.ensures.literal in
    let other = watching_of c.args.self.now.clauses c.args.number c.clause.result.now c.watching-mine.result.1 c.watching-mine.result.1 (1 - c.watching-mine.result.0) at refl c.watching-mine.ensures.other in
    on_found c.args.self.now c.args.literal c.args.at c.args.number state c.requires.in_range c.requires.within c.requires.number c.requires.falsified c.take_up.new.self c.watching-mine.result.1 (clause_last c.args.self.now c.args.literal c.args.at c.args.number state c.requires.in_range c.requires.within c.requires.number c.requires.falsified c.watching-mine.result.0 c.watching-mine.result.1 c.watching-mine.ensures.mine mine other c.in-None.ensures.none) c.take_up.result (subst (λ (m : ℤ). IfOk c.take_up.result (IsTakenUp c.args.self.now c.take_up.new.self c.args.number m)) read c.take_up.ensures.found)
