use Rattle.std.proofs.Common.{rules, ◌≡◌, ◌∙◌, ◌+◌, sym, ap, subst, arith, to_z, of_z, w32}
use Rattle.std.specs.Prelude.{Contains}
use Rattle.cdcl_solver.specs.Searches.{Searched, taken, IsWaiting, GoesOn}
use Rattle.cdcl_solver.proofs.Settling.{waiting_false, waiting_kept, few_followed, advanced_goes_on, settled_quiet}
use Rattle.cdcl_solver.proofs.Visiting.{goes_on_trans}
use Rattle.cdcl_solver.proofs.search.Search.propagate_started.Goals as goal

pub follow-requires-clause-falsified : goal.follow-requires-clause-falsified
follow-requires-clause-falsified c =
    let read : to_z w32 (of_z w32 c.in-Some.literal) ≡ c.in-Some.literal = search rules in
    subst (Contains (taken c.loop-literal.self)) (sym read) (waiting_false c.loop-literal.self c.in-Some.literal c.in-Some.ensures.some)

pub returns-in_err-conflict-clause-goes_on : goal.returns-in_err-conflict-clause-goes_on
returns-in_err-conflict-clause-goes_on c = goes_on_trans c.args.self.now c.loop-literal.self c.follow.new.self c.loop-literal.invariant.goes_on c.follow.ensures.goes_on

pub returns-in-Some-2-clause-goes_on : goal.returns-in-Some-2-clause-goes_on
returns-in-Some-2-clause-goes_on c = goes_on_trans c.args.self.now c.loop-literal.self c.follow.new.self c.loop-literal.invariant.goes_on c.follow.ensures.goes_on

pub advance-requires-clause-waiting : goal.advance-requires-clause-waiting
advance-requires-clause-waiting c =
    let read : to_z w32 (of_z w32 c.in-Some.literal) ≡ c.in-Some.literal = search rules in
    subst (IsWaiting c.follow.new.self) (sym read) (waiting_kept c.loop-literal.self c.in-Some.literal c.in-Some.ensures.some c.follow.new.self c.follow.ensures.goes_on c.follow.ensures.followed)

pub loop-literal-smaller : goal.loop-literal-smaller
loop-literal-smaller c =
    let waits = waiting_kept c.loop-literal.self c.in-Some.literal c.in-Some.ensures.some c.follow.new.self c.follow.ensures.goes_on c.follow.ensures.followed in
    let few = few_followed c.follow.new.self c.in-Some.literal waits c.follow.ensures.search in
    omega (arith, few, c.follow.ensures.followed, c.follow.ensures.goes_on.variables, c.loop-literal.invariant.goes_on.variables, ap (λ (s : Searched). s.followed) c.advance.ensures.state)

pub loop-literal-preserved : goal.loop-literal-preserved
loop-literal-preserved c =
    let on = goes_on_trans c.args.self.now c.loop-literal.self c.follow.new.self c.loop-literal.invariant.goes_on c.follow.ensures.goes_on in
    record {
      goes_on = subst (GoesOn c.args.self.now) (sym c.advance.ensures.state)
          (goes_on_trans c.args.self.now c.follow.new.self (record c.follow.new.self { followed = c.follow.new.self.followed + 1 }) on (advanced_goes_on c.follow.new.self (c.follow.new.self.followed + 1)));
      started = ap (λ (s : Searched). s.started) c.advance.ensures.state ∙ c.follow.ensures.started ∙ c.loop-literal.invariant.started;
    }

pub returns-clause-quiet : goal.returns-clause-quiet
returns-clause-quiet c = settled_quiet c.loop-literal.self c.waiting.ensures.search (record { started = c.loop-literal.invariant.started; followed = c.in_default.ensures.none })
