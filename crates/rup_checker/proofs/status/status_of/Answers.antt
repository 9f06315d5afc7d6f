use Rattle.std.proofs.Common.{rules, ◌≡◌, All, ◌+◌, List, take, get_or, ℤ, pos, to_z, of_z, w32, sym, ap, subst, ◌∙◌}
use Rattle.std.proofs.lemmas.Int.{to_z-of_z}
use Rattle.std.proofs.lemmas.List.{take_all}
use Rattle.std.specs.Prelude.{Some, None, IsTrue, ◌≢◌}
use Rattle.std.proofs.lemmas.List.Elements.{Contains-get_or}
use Rattle.rup_checker.specs.Steps.{IsUnit}
use Rattle.rup_checker.specs.Marks.{IsMarked}
use Rattle.rup_checker.proofs.Statuses.{IsLeft, next-taken, next-first, next-again, false_alarm, Contains-take}
use Rattle.rup_checker.proofs.status.status_of.Goals.{in-None, in-Some}
use Rattle.rup_checker.proofs.status.status_of.Goals as goal

pub loop-literal-preserved-then-contains : goal.loop-literal-preserved-then-contains
loop-literal-preserved-then-contains c =
    let x = get_or c.args.clause.now c.loop-literal.literal-index (pos 0) in
    let same : to_z w32 (of_z w32 x) ≡ x = to_z-of_z w32 x (search rules) in
    next-taken (IsMarked c.args.taken.now) c.args.clause.now c.loop-literal.literal-index (pos 0) c.loop-literal.left c.loop-literal-test.true c.loop-literal.invariant
    (subst (IsMarked c.args.taken.now) same (c.contains.ensures.0 c.if-contains.true))

pub returns-in-Some-2 : goal.returns-in-Some-2
returns-in-Some-2 c =
    let T = IsMarked c.args.taken.now in
    let x = get_or c.args.clause.now c.loop-literal.literal-index (pos 0) in
    let same : to_z w32 (of_z w32 x) ≡ x = to_z-of_z w32 x (search rules) in
    let unit : IsUnit T (take c.loop-literal.literal-index c.args.clause.now) c.in-Some.other = subst (IsLeft T (take c.loop-literal.literal-index c.args.clause.now)) c.in-Some.is c.loop-literal.invariant in
    let free : ¬ (T x) = λ m. (let yes : IsTrue c.contains.result = c.contains.ensures.1 (subst T (sym same) m) in false_alarm c.contains.result yes c.if-contains.false) in
    let other : c.in-Some.other ≢ x = λ e. c.if-other-literal.false (ap (of_z w32) e) in
    record {
      one = c.in-Some.other;
      other = x;
      one_stands = Contains-take c.args.clause.now c.loop-literal.literal-index c.in-Some.other unit.stands;
      other_stands = Contains-get_or c.args.clause.now c.loop-literal.literal-index (pos 0) c.loop-literal-test.true;
      one_left = unit.left;
      other_left = free;
      differ = other;
    }

pub loop-literal-preserved : goal.loop-literal-preserved
loop-literal-preserved c =
    let T = IsMarked c.args.taken.now in
    let i = c.loop-literal.literal-index in
    let clause = c.args.clause.now in
    let x = get_or clause i (pos 0) in
    let same : to_z w32 (of_z w32 x) ≡ x = to_z-of_z w32 x (search rules) in
    let free : ¬ (T x) = λ m. (let yes : IsTrue c.contains.result = c.contains.ensures.1 (subst T (sym same) m) in false_alarm c.contains.result yes c.if-contains.false) in
    elim c.match-left.branch [
      | in-None w ↦ (
          let all : All T (take i clause) = subst (IsLeft T (take i clause)) w.in-None.is c.loop-literal.invariant in
          let is : c.match-left.left ≡ Some x = w.left-is ∙ ap Some same in
          subst (IsLeft T (take (i + 1) clause)) (sym is) (next-first T clause i (pos 0) c.loop-literal-test.true all free))
      | in-Some w ↦ (
          let unit : IsUnit T (take i clause) w.in-Some.other = subst (IsLeft T (take i clause)) w.in-Some.is c.loop-literal.invariant in
          let again : x ≡ w.in-Some.other = sym same ∙ ap (to_z w32) (sym w.if-other-literal.true) ∙ to_z-of_z w32 w.in-Some.other (search rules) in
          let is : c.match-left.left ≡ Some w.in-Some.other = w.left-is in
          subst (IsLeft T (take (i + 1) clause)) (sym is) (next-again T clause i (pos 0) w.in-Some.other c.loop-literal-test.true unit again))
    ]

pub returns-in-None-left : goal.returns-in-None-left
returns-in-None-left c =
    let whole : take c.loop-literal.literal-index c.args.clause.now ≡ c.args.clause.now = take_all c.loop-literal.literal-index c.args.clause.now (search rules) in
    subst (λ (seen : List ℤ). IsLeft (IsMarked c.args.taken.now) seen None) whole (subst (IsLeft (IsMarked c.args.taken.now) (take c.loop-literal.literal-index c.args.clause.now)) c.in-None-left.is c.loop-literal.invariant)

pub returns-in-Some-left : goal.returns-in-Some-left
returns-in-Some-left c =
    let T = IsMarked c.args.taken.now in
    let whole : take c.loop-literal.literal-index c.args.clause.now ≡ c.args.clause.now = take_all c.loop-literal.literal-index c.args.clause.now (search rules) in
    let unit : IsUnit T c.args.clause.now c.in-Some-left.literal = subst (λ (seen : List ℤ). IsUnit T seen c.in-Some-left.literal) whole (subst (IsLeft T (take c.loop-literal.literal-index c.args.clause.now)) c.in-Some-left.is c.loop-literal.invariant) in
    subst (IsUnit T c.args.clause.now) (sym (to_z-of_z w32 c.in-Some-left.literal (search rules))) unit
