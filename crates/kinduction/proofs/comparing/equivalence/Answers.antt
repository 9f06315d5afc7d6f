use Rattle.std.proofs.Common.{◌+◌, ◌<◌, ◌++◌, ◌∷◌, [], List, ap, sym, subst, ◌∙◌, arith, true, false, length}
use Rattle.std.specs.Prelude.{Option}
use Rattle.rup_checker.specs.declared.log.Log.{Log}
use Rattle.kinduction.specs.Shares.{TriesPart}
use Rattle.kinduction.proofs.PartLogs.{IsShownTo, one_more_shown, spent_on_base, spent_on_step}
use Rattle.kinduction.proofs.comparing.equivalence.Goals as goal

pub try_part-requires-clause-never_different : goal.try_part-requires-clause-never_different
try_part-requires-clause-never_different c =
    let lt : c.loop-part.part < length c.args.m.now.parts = omega (arith, c.loop-part-test.true, c.len-part-end.ensures) in
    c.requires.never_different c.loop-part.part lt false

pub returns-in-Some : goal.returns-in-Some
returns-in-Some c =
    let m = c.args.m.now in
    let n = c.loop-part.part in
    let lt : n < length m.parts = omega (arith, c.loop-part-test.true, c.len-part-end.ensures) in
    spent_on_base m c.args.budget n c.loop-part.logs c.in-Some.log lt c.loop-part.invariant
    (subst (λ (o : Option Log). TriesPart m n false c.args.budget c.loop-part.logs c.try_part.new.logs o) c.in-Some.is c.in_ok-log.ensures)

pub try_part-requires-in-loop-part-clause-never_different :
    goal.try_part-requires-in-loop-part-clause-never_different
try_part-requires-in-loop-part-clause-never_different c =
    let lt : c.loop-part.part < length c.args.m.now.parts = omega (arith, c.loop-part-test.true, c.len-part-end.ensures) in
    c.requires.never_different c.loop-part.part lt true

pub returns-in-Some-2 : goal.returns-in-Some-2
returns-in-Some-2 c =
    let m = c.args.m.now in
    let n = c.loop-part.part in
    let lt : n < length m.parts = omega (arith, c.loop-part-test.true, c.len-part-end.ensures) in
    let base = subst (λ (o : Option Log). TriesPart m n false c.args.budget c.loop-part.logs c.try_part.new.logs o) c.in_default.is c.in_ok-log.ensures in
    spent_on_step m c.args.budget n c.loop-part.logs base.0 c.in-Some-2.log lt c.loop-part.invariant base.2
    (subst (λ (o : Option Log). TriesPart m n true c.args.budget c.try_part.new.logs c.try_part-in-loop-part.new.logs o) c.in-Some-2.is c.in_ok-log-2.ensures)

pub loop-part-preserved : goal.loop-part-preserved
loop-part-preserved c =
    let m = c.args.m.now in
    let n = c.loop-part.part in
    let base = subst (λ (o : Option Log). TriesPart m n false c.args.budget c.loop-part.logs c.try_part.new.logs o) c.in_default.is c.in_ok-log.ensures in
    let step = subst (λ (o : Option Log). TriesPart m n true c.args.budget c.try_part.new.logs c.try_part-in-loop-part.new.logs o) c.in_default-2.is c.in_ok-log-2.ensures in
    subst (λ (logs : List Log). IsShownTo m c.args.budget (n + 1) logs) (sym (step.1 ∙ ap (λ (logs : List Log). logs ++ step.0 ∷ []) base.1))
    (one_more_shown m c.args.budget n c.loop-part.logs base.0 step.0 c.loop-part.invariant base.2 step.2)
