use Rattle.std.proofs.Common.{◌≡◌, refl, rules, subst, to_z, of_z, w32}
use Rattle.std.specs.Prelude.{Contains}
use Rattle.cdcl_solver.specs.Searches.{taken}
use Rattle.cdcl_solver.proofs.States.{last_conflict}
use Rattle.cdcl_solver.proofs.search.Search.take_up.Goals as goal

pub returns-then-is_false-clause-found : goal.returns-then-is_false-clause-found
returns-then-is_false-clause-found c =
    let same : to_z w32 (of_z w32 c.args.literal) ≡ c.args.literal = search rules in
    (refl, refl, last_conflict c.args.self.now c.args.number c.args.literal c.requires.last (subst (Contains (taken c.args.self.now)) same (c.if-is_false.ensures.value.0 refl)))
