use Rattle.std.proofs.Common.{rules, ◌≡◌, List, sym, subst, refl, length, get_or, arith, pos, to_z, of_z, w32}
use Rattle.std.specs.Prelude.{ℤ}
use Rattle.std.proofs.lemmas.Bool.Decides.{Decides-eqb}
use Rattle.cdcl_solver.specs.Watches.{listed, AreWatched}
use Rattle.cdcl_solver.proofs.Attaching.{watched_short, watched_long}
use Rattle.cdcl_solver.proofs.search.attach.Goals as goal

pub returns-in_ok-push-2-clause-watched : goal.returns-in_ok-push-2-clause-watched
returns-in_ok-push-2-clause-watched c =
    let one : to_z w32 (of_z w32 (get_or c.args.clause.now 0 (pos 0))) ≡ get_or c.args.clause.now 0 (pos 0) = search rules in
    let other : to_z w32 (of_z w32 (get_or c.args.clause.now 1 (pos 0))) ≡ get_or c.args.clause.now 1 (pos 0) = search rules in
    subst (λ (cs : List (List ℤ)). AreWatched c.args.watches.now.variables cs (listed c.push-then-clause-ge2-2.new.self)) (sym c.in_ok-number.ensures.ok)
    (watched_long c.args.watches.now.variables c.args.clauses.now.clauses c.args.clause.now (to_z w32 (of_z w32 (get_or c.args.clause.now 0 (pos 0)))) (to_z w32 (of_z w32 (get_or c.args.clause.now 1 (pos 0)))) _ _
    c.args.watches.now c.push-then-clause-ge2.new.self c.push-then-clause-ge2-2.new.self c.requires.watched c.if-clause-ge2.true c.requires.apart (sym one) (sym other)
    c.in_ok-number.ensures.number refl (Decides-eqb (length c.args.clause.now) 2).0 c.in_ok-number.ensures.number refl (Decides-eqb (length c.args.clause.now) 2).0 c.in_ok-push.ensures.ok c.in_ok-push-2.ensures.ok)

pub returns-else-clause-ge2-clause-watched : goal.returns-else-clause-ge2-clause-watched
returns-else-clause-ge2-clause-watched c =
    subst (λ (cs : List (List ℤ)). AreWatched c.args.watches.now.variables cs (listed c.args.watches.now)) (sym c.in_ok-number.ensures.ok)
    (watched_short c.args.watches.now.variables c.args.clauses.now.clauses c.args.clause.now (listed c.args.watches.now) c.requires.watched (omega (arith, c.if-clause-ge2.false)))
