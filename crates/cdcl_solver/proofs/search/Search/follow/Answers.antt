use Rattle.std.proofs.Common.{rules, ◌≡◌, ◌+◌, ◌-◌, ℕ, sym, ap, subst, length, arith, to_z, of_z, w32, Option}
use Rattle.std.specs.Prelude.{Contains}
use Rattle.rup_checker.specs.Formulas.{IsLiteral}
use Rattle.cdcl_solver.specs.Watches.{listed}
use Rattle.cdcl_solver.specs.Searches.{Searched, taken, IsSearch, IsFound, number_at}
use Rattle.cdcl_solver.proofs.Visiting.{goes_on_trans}
use Rattle.cdcl_solver.proofs.Following.{IsFollowing, following_starts, following_more}
use Rattle.cdcl_solver.proofs.search.Search.follow.Goals as goal

pub loop-at-init : goal.loop-at-init
loop-at-init c =
    let own : to_z w32 (of_z w32 c.args.literal) ≡ c.args.literal = search rules in
    let ws : c.of-at.result.now ≡ listed c.args.self.now.lists (to_z w32 (of_z w32 c.args.literal)) =
    subst (λ (s : Searched). c.of-at.result.now ≡ listed s.lists (to_z w32 (of_z w32 c.args.literal))) c.self.view_is c.of-at.ensures in
    subst (λ (k : ℕ). IsFollowing c.args.self.now c.args.self.now (to_z w32 (of_z w32 c.args.literal)) k) (ap length (sym ws))
    (following_starts c.args.self.now (to_z w32 (of_z w32 c.args.literal)) (subst IsSearch c.self.view_is c.self.invariant.search)
    (subst (IsLiteral c.args.self.now.variables) (sym own) c.requires.in_range) (subst (Contains (taken c.args.self.now)) (sym own) c.requires.falsified))

pub returns-in-Some-clause-goes_on : goal.returns-in-Some-clause-goes_on
returns-in-Some-clause-goes_on c = goes_on_trans c.args.self.now c.loop-at.self c.visit.new.self c.loop-at.invariant.goes_on c.in_ok-conflict.ensures.visited.goes_on

pub loop-at-preserved : goal.loop-at-preserved
loop-at-preserved c =
    let back : c.loop-at.at ≡ c.loop-at.at - 1 + 1 = omega arith in
    following_more c.args.self.now c.loop-at.self c.visit.new.self (to_z w32 (of_z w32 c.args.literal)) (c.loop-at.at - 1)
    (subst (λ (k : ℕ). IsFollowing c.args.self.now c.loop-at.self (to_z w32 (of_z w32 c.args.literal)) k) back c.loop-at.invariant)
    c.in_ok-conflict.ensures.search c.in_ok-conflict.ensures.visited
    (subst (λ (o : Option ℕ). IsFound c.visit.new.self (to_z w32 (of_z w32 c.args.literal)) (number_at c.loop-at.self (to_z w32 (of_z w32 c.args.literal)) (c.loop-at.at - 1)) o) c.in_default.is c.in_ok-conflict.ensures.found)
