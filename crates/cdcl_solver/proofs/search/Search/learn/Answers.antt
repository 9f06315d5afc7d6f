use Rattle.std.proofs.Common.{rules, ◌≡◌, ◌∙◌, ◌+◌, ◌<◌, ◌++◌, ◌∷◌, [], ℕ, List, sym, ap, subst, length, get_or, pos, to_z, of_z, w32}
use Rattle.std.specs.Prelude.{ℤ, neg_ℤ}
use Rattle.cdcl_solver.specs.Watches.{listed, AreWatched}
use Rattle.cdcl_solver.specs.Searches.{Searched, IsSettled, IsAsserting}
use Rattle.cdcl_solver.proofs.Asserting.{learnt_both}
use Rattle.cdcl_solver.proofs.search.Search.learn.Goals as goal

pub invariant_of-result : goal.invariant_of-result
invariant_of-result c =
    let clause = c.args.clause.now in
    let room = subst (λ (s : Searched). length s.clauses + 1 < 4294967295) (sym c.self.view_is) c.requires.room in
    let settled = subst IsSettled (sym c.self.view_is) c.requires.settled in
    let asks = subst (λ (s : Searched). IsAsserting s c.args.clause.now) (sym c.self.view_is) c.requires.asserting in
    let read : to_z w32 (of_z w32 (get_or c.args.clause.now 0 (pos 0))) ≡ get_or c.args.clause.now 0 (pos 0) = search rules in
    let same : to_z w32 (of_z w32 c.negation.result) ≡ c.negation.result = search rules in
    let lists = c.self.invariant.search.lists in
    let watched : AreWatched c.self.inside.falsified.variables (c.self.inside.clauses.clauses ++ c.args.clause.now ∷ []) (listed c.attach.new.watches) =
    subst (λ (n : ℕ). AreWatched n (c.self.inside.clauses.clauses ++ c.args.clause.now ∷ []) (listed c.attach.new.watches)) lists
    (subst (λ (cs : List (List ℤ)). AreWatched c.self.inside.watches.variables cs (listed c.attach.new.watches)) c.in_ok-number.ensures.clauses c.in_ok-number.ensures.watched) in
    learnt_both _ c.args.clause.now c.self.invariant.search settled asks room c.attach.new.watches (c.attach.ensures.variables ∙ lists) watched
    c.self.inside.falsified c.insert.new.self c.insert.new.self.variables c.attach.new.clauses.clauses c.push.new.self
    (to_z w32 (of_z w32 (get_or c.args.clause.now 0 (pos 0)))) c.in_ok-number.number (to_z w32 (of_z w32 c.negation.result))
    c.insert.ensures.variables c.in_ok-number.ensures.clauses c.in_ok-push.ensures.ok read c.in_ok-number.ensures.number (same ∙ c.negation.ensures ∙ ap neg_ℤ read)
    c.self.invariant.marks c.insert.ensures.variables c.insert.ensures.itself c.insert.ensures.others

pub returns-clause-search : goal.returns-clause-search
returns-clause-search c = (invariant_of-result c).search
