use Rattle.std.proofs.Common.{rules, ◌≡◌, ◌∙◌, List, sym, ap, subst, refl, get_or, pos, to_z, of_z, w32, true, false}
use Rattle.std.specs.Prelude.{ℤ, Contains, neg_ℤ, IfOk, OnOk}
use Rattle.std.proofs.lemmas.List.Elements.{All-contains}
use Rattle.rup_checker.specs.Formulas.{IsLiteral}
use Rattle.rup_checker.specs.Stores.{clause_at}
use Rattle.cdcl_solver.specs.declared.watches.Watch.{Watch}
use Rattle.cdcl_solver.specs.Watches.{listed}
use Rattle.cdcl_solver.specs.Searches.{Searched, taken, IsSearch, IsLast, IsTakenUp, IsVisited, IsFound, number_at}
use Rattle.cdcl_solver.proofs.Visiting.{says, c_range, true_found, binary_last, on_visited, on_found}
use Rattle.cdcl_solver.proofs.search.Search.visit.Goals as goal

pub is_true-requires : goal.is_true-requires
is_true-requires c =
    let state = subst IsSearch c.self.view_is c.self.invariant.search in
    let own : to_z w32 (of_z w32 c.args.literal) ≡ c.args.literal = search rules in
    let ws : c.of.result.now ≡ listed c.args.self.now.lists c.args.literal =
    subst (λ (s : Searched). c.of.result.now ≡ listed s.lists c.args.literal) c.self.view_is (c.of.ensures ∙ ap (λ (m : ℤ). listed c.self.inside.watches m) own) in
    let is : get_or c.of.result.now c.args.at (record { number = 0; other = pos 0; binary = false }) ≡ get_or (listed c.args.self.now.lists c.args.literal) c.args.at (record { number = 0; other = pos 0; binary = false }) = ap (λ (vs : List Watch). get_or vs c.args.at (record { number = 0; other = pos 0; binary = false })) ws in
    let read : to_z w32 (of_z w32 (get_or c.of.result.now c.args.at (record { number = 0; other = pos 0; binary = false })).other) ≡ (get_or c.of.result.now c.args.at (record { number = 0; other = pos 0; binary = false })).other = search rules in
    let same = read ∙ ap (λ (w : Watch). w.other) is in
    subst (IsLiteral c.args.self.now.variables) (sym same) (All-contains (IsLiteral c.args.self.now.variables) (clause_at c.args.self.now.clauses (number_at c.args.self.now c.args.literal c.args.at)) (get_or (listed c.args.self.now.lists c.args.literal) c.args.at (record { number = 0; other = pos 0; binary = false })).other (c_range c.args.self.now c.args.literal c.args.at (number_at c.args.self.now c.args.literal c.args.at) state c.requires.in_range c.requires.within refl c.requires.falsified) (says c.args.self.now c.args.literal c.args.at (number_at c.args.self.now c.args.literal c.args.at) state c.requires.in_range c.requires.within refl c.requires.falsified).other)

pub returns-then-is_true-clause-found : goal.returns-then-is_true-clause-found
returns-then-is_true-clause-found c =
    let state = subst IsSearch c.self.view_is c.self.invariant.search in
    let own : to_z w32 (of_z w32 c.args.literal) ≡ c.args.literal = search rules in
    let ws : c.of.result.now ≡ listed c.args.self.now.lists c.args.literal =
    subst (λ (s : Searched). c.of.result.now ≡ listed s.lists c.args.literal) c.self.view_is (c.of.ensures ∙ ap (λ (m : ℤ). listed c.self.inside.watches m) own) in
    let is : get_or c.of.result.now c.args.at (record { number = 0; other = pos 0; binary = false }) ≡ get_or (listed c.args.self.now.lists c.args.literal) c.args.at (record { number = 0; other = pos 0; binary = false }) = ap (λ (vs : List Watch). get_or vs c.args.at (record { number = 0; other = pos 0; binary = false })) ws in
    let read : to_z w32 (of_z w32 (get_or c.of.result.now c.args.at (record { number = 0; other = pos 0; binary = false })).other) ≡ (get_or c.of.result.now c.args.at (record { number = 0; other = pos 0; binary = false })).other = search rules in
    let same = read ∙ ap (λ (w : Watch). w.other) is in
    true_found c.args.self.now c.args.literal c.args.at (number_at c.args.self.now c.args.literal c.args.at) state c.requires.in_range c.requires.within refl c.requires.falsified (get_or (listed c.args.self.now.lists c.args.literal) c.args.at (record { number = 0; other = pos 0; binary = false })).other (says c.args.self.now c.args.literal c.args.at (number_at c.args.self.now c.args.literal c.args.at) state c.requires.in_range c.requires.within refl c.requires.falsified).other (subst (λ (m : ℤ). Contains (taken c.args.self.now) (neg_ℤ m)) same (c.if-is_true.ensures.0 refl))

pub take_up-requires-clause-in_range : goal.take_up-requires-clause-in_range
take_up-requires-clause-in_range c =
    let state = subst IsSearch c.self.view_is c.self.invariant.search in
    let own : to_z w32 (of_z w32 c.args.literal) ≡ c.args.literal = search rules in
    let ws : c.of.result.now ≡ listed c.args.self.now.lists c.args.literal =
    subst (λ (s : Searched). c.of.result.now ≡ listed s.lists c.args.literal) c.self.view_is (c.of.ensures ∙ ap (λ (m : ℤ). listed c.self.inside.watches m) own) in
    let is : get_or c.of.result.now c.args.at (record { number = 0; other = pos 0; binary = false }) ≡ get_or (listed c.args.self.now.lists c.args.literal) c.args.at (record { number = 0; other = pos 0; binary = false }) = ap (λ (vs : List Watch). get_or vs c.args.at (record { number = 0; other = pos 0; binary = false })) ws in
    let read : to_z w32 (of_z w32 (get_or c.of.result.now c.args.at (record { number = 0; other = pos 0; binary = false })).other) ≡ (get_or c.of.result.now c.args.at (record { number = 0; other = pos 0; binary = false })).other = search rules in
    let same = read ∙ ap (λ (w : Watch). w.other) is in
    subst (IsLiteral c.args.self.now.variables) (sym same) (All-contains (IsLiteral c.args.self.now.variables) (clause_at c.args.self.now.clauses (number_at c.args.self.now c.args.literal c.args.at)) (get_or (listed c.args.self.now.lists c.args.literal) c.args.at (record { number = 0; other = pos 0; binary = false })).other (c_range c.args.self.now c.args.literal c.args.at (number_at c.args.self.now c.args.literal c.args.at) state c.requires.in_range c.requires.within refl c.requires.falsified) (says c.args.self.now c.args.literal c.args.at (number_at c.args.self.now c.args.literal c.args.at) state c.requires.in_range c.requires.within refl c.requires.falsified).other)

pub take_up-requires-clause-last : goal.take_up-requires-clause-last
take_up-requires-clause-last c =
    let state = subst IsSearch c.self.view_is c.self.invariant.search in
    let own : to_z w32 (of_z w32 c.args.literal) ≡ c.args.literal = search rules in
    let ws : c.of.result.now ≡ listed c.args.self.now.lists c.args.literal =
    subst (λ (s : Searched). c.of.result.now ≡ listed s.lists c.args.literal) c.self.view_is (c.of.ensures ∙ ap (λ (m : ℤ). listed c.self.inside.watches m) own) in
    let is : get_or c.of.result.now c.args.at (record { number = 0; other = pos 0; binary = false }) ≡ get_or (listed c.args.self.now.lists c.args.literal) c.args.at (record { number = 0; other = pos 0; binary = false }) = ap (λ (vs : List Watch). get_or vs c.args.at (record { number = 0; other = pos 0; binary = false })) ws in
    let read : to_z w32 (of_z w32 (get_or c.of.result.now c.args.at (record { number = 0; other = pos 0; binary = false })).other) ≡ (get_or c.of.result.now c.args.at (record { number = 0; other = pos 0; binary = false })).other = search rules in
    let same = read ∙ ap (λ (w : Watch). w.other) is in
    subst (λ (m : ℤ). IsLast c.args.self.now (get_or c.of.result.now c.args.at (record { number = 0; other = pos 0; binary = false })).number m) (sym read) (subst (λ (w : Watch). IsLast c.args.self.now w.number w.other) (sym is) (binary_last c.args.self.now c.args.literal c.args.at (number_at c.args.self.now c.args.literal c.args.at) state c.requires.in_range c.requires.within refl c.requires.falsified (subst (λ (w : Watch). w.binary ≡ true) is c.if-watch.true)))

pub returns-then-watch-clause-visited : goal.returns-then-watch-clause-visited
returns-then-watch-clause-visited c =
    let state = subst IsSearch c.self.view_is c.self.invariant.search in
    let own : to_z w32 (of_z w32 c.args.literal) ≡ c.args.literal = search rules in
    let ws : c.of.result.now ≡ listed c.args.self.now.lists c.args.literal =
    subst (λ (s : Searched). c.of.result.now ≡ listed s.lists c.args.literal) c.self.view_is (c.of.ensures ∙ ap (λ (m : ℤ). listed c.self.inside.watches m) own) in
    let is : get_or c.of.result.now c.args.at (record { number = 0; other = pos 0; binary = false }) ≡ get_or (listed c.args.self.now.lists c.args.literal) c.args.at (record { number = 0; other = pos 0; binary = false }) = ap (λ (vs : List Watch). get_or vs c.args.at (record { number = 0; other = pos 0; binary = false })) ws in
    let read : to_z w32 (of_z w32 (get_or c.of.result.now c.args.at (record { number = 0; other = pos 0; binary = false })).other) ≡ (get_or c.of.result.now c.args.at (record { number = 0; other = pos 0; binary = false })).other = search rules in
    let same = read ∙ ap (λ (w : Watch). w.other) is in
    on_visited c.args.self.now c.args.literal c.args.at (number_at c.args.self.now c.args.literal c.args.at) state c.requires.in_range c.requires.within refl c.requires.falsified c.take_up.new.self (get_or (listed c.args.self.now.lists c.args.literal) c.args.at (record { number = 0; other = pos 0; binary = false })).other (binary_last c.args.self.now c.args.literal c.args.at (number_at c.args.self.now c.args.literal c.args.at) state c.requires.in_range c.requires.within refl c.requires.falsified (subst (λ (w : Watch). w.binary ≡ true) is c.if-watch.true)) c.take_up.result (subst (λ (w : Watch). IfOk c.take_up.result (IsTakenUp c.args.self.now c.take_up.new.self w.number w.other)) is (subst (λ (m : ℤ). IfOk c.take_up.result (IsTakenUp c.args.self.now c.take_up.new.self (get_or c.of.result.now c.args.at (record { number = 0; other = pos 0; binary = false })).number m)) read c.take_up.ensures.found))

pub returns-then-watch-clause-found : goal.returns-then-watch-clause-found
returns-then-watch-clause-found c =
    let state = subst IsSearch c.self.view_is c.self.invariant.search in
    let own : to_z w32 (of_z w32 c.args.literal) ≡ c.args.literal = search rules in
    let ws : c.of.result.now ≡ listed c.args.self.now.lists c.args.literal =
    subst (λ (s : Searched). c.of.result.now ≡ listed s.lists c.args.literal) c.self.view_is (c.of.ensures ∙ ap (λ (m : ℤ). listed c.self.inside.watches m) own) in
    let is : get_or c.of.result.now c.args.at (record { number = 0; other = pos 0; binary = false }) ≡ get_or (listed c.args.self.now.lists c.args.literal) c.args.at (record { number = 0; other = pos 0; binary = false }) = ap (λ (vs : List Watch). get_or vs c.args.at (record { number = 0; other = pos 0; binary = false })) ws in
    let read : to_z w32 (of_z w32 (get_or c.of.result.now c.args.at (record { number = 0; other = pos 0; binary = false })).other) ≡ (get_or c.of.result.now c.args.at (record { number = 0; other = pos 0; binary = false })).other = search rules in
    let same = read ∙ ap (λ (w : Watch). w.other) is in
    on_found c.args.self.now c.args.literal c.args.at (number_at c.args.self.now c.args.literal c.args.at) state c.requires.in_range c.requires.within refl c.requires.falsified c.take_up.new.self (get_or (listed c.args.self.now.lists c.args.literal) c.args.at (record { number = 0; other = pos 0; binary = false })).other (binary_last c.args.self.now c.args.literal c.args.at (number_at c.args.self.now c.args.literal c.args.at) state c.requires.in_range c.requires.within refl c.requires.falsified (subst (λ (w : Watch). w.binary ≡ true) is c.if-watch.true)) c.take_up.result (subst (λ (w : Watch). IfOk c.take_up.result (IsTakenUp c.args.self.now c.take_up.new.self w.number w.other)) is (subst (λ (m : ℤ). IfOk c.take_up.result (IsTakenUp c.args.self.now c.take_up.new.self (get_or c.of.result.now c.args.at (record { number = 0; other = pos 0; binary = false })).number m)) read c.take_up.ensures.found))

pub visit_clause-requires-clause-number : goal.visit_clause-requires-clause-number
visit_clause-requires-clause-number c =
    let state = subst IsSearch c.self.view_is c.self.invariant.search in
    let own : to_z w32 (of_z w32 c.args.literal) ≡ c.args.literal = search rules in
    let ws : c.of.result.now ≡ listed c.args.self.now.lists c.args.literal =
    subst (λ (s : Searched). c.of.result.now ≡ listed s.lists c.args.literal) c.self.view_is (c.of.ensures ∙ ap (λ (m : ℤ). listed c.self.inside.watches m) own) in
    let is : get_or c.of.result.now c.args.at (record { number = 0; other = pos 0; binary = false }) ≡ get_or (listed c.args.self.now.lists c.args.literal) c.args.at (record { number = 0; other = pos 0; binary = false }) = ap (λ (vs : List Watch). get_or vs c.args.at (record { number = 0; other = pos 0; binary = false })) ws in
    ap (λ (m : ℤ). number_at c.args.self.now m c.args.at) own ∙ ap (λ (w : Watch). w.number) (sym is)

pub returns-clause-visited : goal.returns-clause-visited
returns-clause-visited c =
    let state = subst IsSearch c.self.view_is c.self.invariant.search in
    let own : to_z w32 (of_z w32 c.args.literal) ≡ c.args.literal = search rules in
    let ws : c.of.result.now ≡ listed c.args.self.now.lists c.args.literal =
    subst (λ (s : Searched). c.of.result.now ≡ listed s.lists c.args.literal) c.self.view_is (c.of.ensures ∙ ap (λ (m : ℤ). listed c.self.inside.watches m) own) in
    let is : get_or c.of.result.now c.args.at (record { number = 0; other = pos 0; binary = false }) ≡ get_or (listed c.args.self.now.lists c.args.literal) c.args.at (record { number = 0; other = pos 0; binary = false }) = ap (λ (vs : List Watch). get_or vs c.args.at (record { number = 0; other = pos 0; binary = false })) ws in
    subst (λ (m : ℤ). OnOk c.visit_clause.result (IsVisited c.args.self.now c.visit_clause.new.self m c.args.at (number_at c.args.self.now c.args.literal c.args.at))) own
    (subst (λ (w : Watch). OnOk c.visit_clause.result (IsVisited c.args.self.now c.visit_clause.new.self (to_z w32 (of_z w32 c.args.literal)) c.args.at w.number)) is c.visit_clause.ensures.visited)

pub returns-clause-found : goal.returns-clause-found
returns-clause-found c =
    let state = subst IsSearch c.self.view_is c.self.invariant.search in
    let own : to_z w32 (of_z w32 c.args.literal) ≡ c.args.literal = search rules in
    let ws : c.of.result.now ≡ listed c.args.self.now.lists c.args.literal =
    subst (λ (s : Searched). c.of.result.now ≡ listed s.lists c.args.literal) c.self.view_is (c.of.ensures ∙ ap (λ (m : ℤ). listed c.self.inside.watches m) own) in
    let is : get_or c.of.result.now c.args.at (record { number = 0; other = pos 0; binary = false }) ≡ get_or (listed c.args.self.now.lists c.args.literal) c.args.at (record { number = 0; other = pos 0; binary = false }) = ap (λ (vs : List Watch). get_or vs c.args.at (record { number = 0; other = pos 0; binary = false })) ws in
    subst (λ (m : ℤ). IfOk c.visit_clause.result (IsFound c.visit_clause.new.self m (number_at c.args.self.now c.args.literal c.args.at))) own
    (subst (λ (w : Watch). IfOk c.visit_clause.result (IsFound c.visit_clause.new.self (to_z w32 (of_z w32 c.args.literal)) w.number)) is c.visit_clause.ensures.found)
