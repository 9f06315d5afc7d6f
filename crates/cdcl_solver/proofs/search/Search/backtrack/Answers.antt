use Rattle.std.proofs.Common.{rules, ◌≡◌, ◌∙◌, ◌<◌, ℕ, sym, ap, subst, length, take, get_or, arith, to_z, of_z, w32}
use Rattle.std.specs.Prelude.{neg_ℤ}
use Rattle.std.proofs.lemmas.List.{length_push}
use Rattle.rup_checker.specs.Stores.{Stored}
use Rattle.cdcl_solver.specs.declared.trail.Reason.TheVariants as reason
use Rattle.cdcl_solver.specs.Searches.{Searched, IsSearch}
use Rattle.cdcl_solver.proofs.Asserting.{nothing, backtracked}
use Rattle.cdcl_solver.proofs.Retracting.{still_front, still_marks, retracted_is}
use Rattle.cdcl_solver.proofs.search.Search.backtrack.Goals as goal

pub loop-self-preserved-in-Some : goal.loop-self-preserved-in-Some
loop-self-preserved-in-Some c =
    let t = c.self.invariant.search.justified in
    let i = c.loop-self.invariant in
    let same : to_z w32 (of_z w32 c.negation.result) ≡ c.negation.result = search rules in
    let read : to_z w32 (of_z w32 c.in-Some.assigned.literal) ≡ c.in-Some.assigned.literal = search rules in
    record {
      rest = still_front c.self.inside.falsified.variables c.self.inside.clauses.clauses c.self.inside.trail c.loop-self.self-inside.trail c.pop.new.self c.in-Some.assigned t i.rest c.in-Some.ensures;
      above = omega (arith, c.loop-self-test.true, ap length c.in-Some.ensures, length_push c.pop.new.self c.in-Some.assigned);
      marks = still_marks c.self.inside.falsified.variables c.self.inside.clauses.clauses c.self.inside.trail c.loop-self.self-inside.trail c.pop.new.self c.in-Some.assigned t i.rest c.in-Some.ensures
          c.loop-self.self-inside.falsified c.remove.new.self (to_z w32 (of_z w32 c.negation.result)) (same ∙ c.negation.ensures ∙ ap neg_ℤ read) i.marks c.remove.ensures.variables c.remove.ensures.itself c.remove.ensures.others;
      variables = c.remove.ensures.variables ∙ i.variables;
      clauses = i.clauses;
      watches = i.watches;
      started = i.started;
    }

pub invariant_of-self : goal.invariant_of-self
invariant_of-self c =
    let i = c.loop-self.invariant in
    let low = subst (λ (s : Searched). c.args.place < length s.trail) (sym c.self.view_is) c.requires.low in
    let decided = subst (λ (s : Searched). (get_or s.trail c.args.place nothing).reason ≡ reason.Decision) (sym c.self.view_is) c.requires.decided in
    let all : length c.loop-self.self-inside.trail ≡ c.args.place = omega (arith, i.above, c.loop-self-test.false) in
    let front : c.loop-self.self-inside.trail ≡ take c.args.place c.self.inside.trail = i.rest ∙ ap (λ (k : ℕ). take k c.self.inside.trail) all in
    record {
      search = subst IsSearch (sym (retracted_is (record { variables = c.self.inside.falsified.variables; clauses = c.self.inside.clauses.clauses; lists = c.self.inside.watches; trail = c.self.inside.trail; followed = c.self.inside.followed; started = c.self.inside.started }) _ _ _ _ _ c.args.place i.variables (ap (λ (s : Stored). s.clauses) i.clauses) i.watches front i.started))
          (backtracked (record { variables = c.self.inside.falsified.variables; clauses = c.self.inside.clauses.clauses; lists = c.self.inside.watches; trail = c.self.inside.trail; followed = c.self.inside.followed; started = c.self.inside.started }) c.args.place c.self.invariant.search low decided);
      marks = i.marks;
    }

pub returns-clause-state : goal.returns-clause-state
returns-clause-state c =
    let i = c.loop-self.invariant in
    let all : length c.loop-self.self-inside.trail ≡ c.args.place = omega (arith, i.above, c.loop-self-test.false) in
    let front : c.loop-self.self-inside.trail ≡ take c.args.place c.self.inside.trail = i.rest ∙ ap (λ (k : ℕ). take k c.self.inside.trail) all in
    retracted_is (record { variables = c.self.inside.falsified.variables; clauses = c.self.inside.clauses.clauses; lists = c.self.inside.watches; trail = c.self.inside.trail; followed = c.self.inside.followed; started = c.self.inside.started }) _ _ _ _ _ c.args.place i.variables (ap (λ (s : Stored). s.clauses) i.clauses) i.watches front i.started
    ∙ ap (λ (s : Searched). record s { trail = take c.args.place s.trail; followed = c.args.place }) c.self.view_is

pub returns-clause-search : goal.returns-clause-search
returns-clause-search c = (invariant_of-self c).search
