use Rattle.std.proofs.Common.{rules, ◌≡◌, take, get_or, pos, to_z, of_z, w32, sym, subst, ◌∙◌}
use Rattle.std.proofs.lemmas.Int.{to_z-of_z}
use Rattle.std.proofs.lemmas.List.{take_all, take_more}
use Rattle.rup_checker.specs.Marks.{Marks}
use Rattle.rup_checker.proofs.Sets.{Inserts, marks-push}
use Rattle.rup_checker.proofs.hints.take_false.Goals as goal

pub loop-literal-preserved : goal.loop-literal-preserved
loop-literal-preserved c =
    let i = c.loop-literal.literal-index in
    let clause = c.args.clause.now in
    let x = get_or clause i (pos 0) in
    let old = c.loop-literal.taken in
    let new = c.insert.new.self in
    let same : to_z w32 (of_z w32 x) ≡ x = to_z-of_z w32 x (search rules) in
    let inserts : Inserts old new x = subst (Inserts old new) same (record {
      variables = c.insert.ensures.variables;
      itself = c.insert.ensures.itself;
      others = c.insert.ensures.others;
    }) in
    (c.insert.ensures.variables ∙ c.loop-literal.invariant.0, subst (Marks new) (sym (take_more clause i (pos 0) c.loop-literal-test.true)) (marks-push old new x (take i clause) inserts c.loop-literal.invariant.1))

pub returns-clause-marks : goal.returns-clause-marks
returns-clause-marks c = subst (Marks c.loop-literal.taken) (take_all c.loop-literal.literal-index c.args.clause.now (search rules)) c.loop-literal.invariant.1
