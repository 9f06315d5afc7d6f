use Rattle.std.proofs.Common.{◌≡◌, ◌∙◌, ◌++◌, ◌∷◌, [], ℕ, List, sym, ap, subst, refl, length, arith}
use Rattle.std.specs.Prelude.{ℤ, All}
use Rattle.std.proofs.lemmas.List.{length_push}
use Rattle.std.proofs.lemmas.List.Elements.{All-push}
use Rattle.rup_checker.specs.Formulas.{IsLiteral}
use Rattle.cdcl_solver.specs.Watches.{listed, AreApart, AreWatched}
use Rattle.cdcl_solver.proofs.States.{at_get}
use Rattle.cdcl_solver.proofs.Marking.{range_same, clauses_more, clauses_all}
use Rattle.cdcl_solver.proofs.search.Search.new.Goals as goal

pub attach-requires-clause-in_range : goal.attach-requires-clause-in_range
attach-requires-clause-in_range c =
    let i = c.loop-number.invariant in
    subst (λ (ls : List ℤ). All (IsLiteral c.loop-number.watches.variables) ls) (sym c.as_slice.ensures)
    (subst (λ (n : ℕ). All (IsLiteral n) c.in_ok-clause.clause) (sym i.lists) (range_same c.args.formula.now.variables c.in_ok-clause.clause c.clause.result.now c.in_ok-clause.ensures.same c.clause.ensures.in_range))

pub loop-number-preserved : goal.loop-number-preserved
loop-number-preserved c =
    let i = c.loop-number.invariant in
    let more : c.attach.new.clauses.clauses ≡ c.loop-number.clauses.clauses ++ c.in_ok-clause.clause ∷ [] =
    c.in_ok-attach.ensures.clauses ∙ ap (λ (ls : List ℤ). c.loop-number.clauses.clauses ++ ls ∷ []) c.as_slice.ensures in
    let range = range_same c.args.formula.now.variables c.in_ok-clause.clause c.clause.result.now c.in_ok-clause.ensures.same c.clause.ensures.in_range in
    record {
      set = c.in_ok-clause.ensures.variables ∙ i.set;
      clear = c.in_ok-clause.ensures.clear;
      lists = c.in_ok-attach.ensures.variables ∙ i.lists;
      count = omega (arith, ap length more, length_push c.loop-number.clauses.clauses c.in_ok-clause.clause, i.count);
      same = clauses_more c.args.formula.now.clauses c.loop-number.clauses.clauses c.attach.new.clauses.clauses c.in_ok-clause.clause c.clause.result.now c.loop-number.number i.count more
          (at_get c.args.formula.now.clauses c.loop-number.number c.clause.result.now [] c.clause.ensures.value) c.in_ok-clause.ensures.same i.same;
      in_range = subst (All (All (IsLiteral c.args.formula.now.variables))) (sym more) (All-push (All (IsLiteral c.args.formula.now.variables)) c.loop-number.clauses.clauses c.in_ok-clause.clause i.in_range range);
      apart = subst (All (AreApart (λ (l : ℤ). l))) (sym more) (All-push (AreApart (λ (l : ℤ). l)) c.loop-number.clauses.clauses c.in_ok-clause.clause i.apart c.in_ok-clause.ensures.apart);
      watched = subst (λ (n : ℕ). AreWatched n c.attach.new.clauses.clauses (listed c.attach.new.watches)) i.lists c.in_ok-attach.ensures.watched;
    }

pub returns-clause-fresh : goal.returns-clause-fresh
returns-clause-fresh c =
    let i = c.loop-number.invariant in
    let all : length c.args.formula.now.clauses ≡ c.loop-number.number = omega (arith, c.loop-number-test.false, c.len-number-end.ensures.value, c.loop-number.auto.number-end) in
    record {
      variables = i.set;
      clauses = clauses_all c.args.formula.now.clauses c.loop-number.clauses.clauses c.loop-number.number i.count all i.same;
      trail = c.new-3.ensures;
      followed = refl;
      started = refl;
    }
