use Rattle.std.proofs.Common.{refl, sym, subst}
use Rattle.std.proofs.lemmas.Result.{err_from_is_err_and}
use Rattle.hll_meaning.specs.Types.{kind_of}
use Rattle.hll_meaning.specs.StaticRules.{declaring, item_faults}
use Rattle.hll_meaning.specs.Declarations.{variables_of}
use Rattle.hll_expressions.specs.Answers.{IsFaultAt}
use Rattle.hll_types.proofs.VariableAnswers.{names_there, variables_written, variables_wrong, variables_right}
use Rattle.hll_types.proofs.declare.Declared.variables.Goals as goal

pub returns-in_err-each : goal.returns-in_err-each
returns-in_err-each c =
    let p = err_from_is_err_and c.from_residual.result c.from_residual.ensures.1 in
    rw (p.1, p.2) (λ q further h. variables_written c.args.self.now q further h c.args.input c.args.decl.now _ (c.in_err-each.ensures q.names further h.names))

pub returns-in_err-kinds : goal.returns-in_err-kinds
returns-in_err-kinds c =
    let p = err_from_is_err_and c.from_residual-in_err-kinds.result c.from_residual-in_err-kinds.ensures.1 in
    rw (p.1, p.2) (λ q further h.
    let each = c.in_ok-each.ensures q.names further h.names in
    variables_wrong c.args.self.now q further h c.args.input c.args.decl.now (kind_of c.in_ok-each.each) _ each.0 each.1 ((rw c.as_slice.ensures at c.in_err-kinds.ensures) q.names further h.names))

pub returns-in_err-declare_all : goal.returns-in_err-declare_all
returns-in_err-declare_all c =
    let p = err_from_is_err_and c.from_residual-in_err-declare_all.result c.from_residual-in_err-declare_all.ensures.1 in
    rw (p.1, p.2) (λ q further h. subst (IsFaultAt (item_faults (declaring q.names further) q (variables_of c.args.input c.args.decl.now))) (sym c.in_err-declare_all.ensures) tt)

pub returns : goal.returns
returns c = λ q further h.
    let each = c.in_ok-each.ensures q.names further h.names in
    let own = (rw c.as_slice.ensures at c.in_ok-kinds.ensures) q.names further h.names in
    let all = rw (c.as_slice-2.ensures, c.as_slice-3.ensures.value) at c.in_ok-declare_all.ensures in
    variables_right c.args.self.now q further h c.args.input c.args.decl.now _ (kind_of c.in_ok-each.each) c.in_ok-kinds.kinds.items c.in_ok-kinds.total each.0 each.1 own.0 own.1 own.2
    (all.0 (names_there c.args.self.now q further h (kind_of c.in_ok-each.each) c.args.decl.now.names own.0)) all.1 refl
