use Rattle.std.proofs.Common.{◌≡◌, ◌∙◌, Bool, true, List, refl, sym, ap, subst, arith}
use Rattle.std.proofs.lemmas.List.{with_items_is}
use Rattle.std.specs.declared.vec.Vec.{Vec}
use Rattle.std.specs.declared.alloc.Global.{Global}
use Rattle.std.specs.Prelude.{◌↔◌, IsTrue}
use Rattle.lll_core.specs.Tables.{IsRow}
use Rattle.unroll_cnf.specs.Counterexamples.{IsAdmitted}
use Rattle.evidence.proofs.TraceLemmas.{more_run}
use Rattle.evidence.proofs.trace.Trace.row.Goals as goal
use Rattle.evidence.proofs.trace.Trace.row.Goals.{then-self, else-self}

pub returns-clause-run : goal.returns-clause-run
returns-clause-run c = λ rows has.
    let l = c.args.l.now in
    let old = c.args.self.now in
    let last : c.swap.new.x.items ≡ c.eval_into.new.now = ap (λ (v : Vec Bool Global). v.items) c.swap.ensures.x_after
    ∙ with_items_is old.next c.eval_into.new.now (omega (arith, c.eval_into.ensures.row.long, c.requires.sized.next, old.next.ok.0)) in
    let row : IsRow l.signals old.is_first c.args.inputs.now old.before.items c.swap.new.x.items =
    subst (λ (b : List Bool). IsRow l.signals old.is_first c.args.inputs.now b c.swap.new.x.items) c.deref.ensures.value
    (subst (λ (n : List Bool). IsRow l.signals old.is_first c.args.inputs.now c.deref.result.now n) (sym last) c.eval_into.ensures.row) in
    let admitted : IsTrue c.if-self.self ↔ (IsTrue old.is_admitted × IsAdmitted l c.swap.new.x.items) = elim c.if-self.branch [
      | then-self w ↦ (
        λ yes. (w.if-self.true, subst (IsAdmitted l) w.deref-then-self.ensures.value (w.is_admitted-self.ensures.0 (sym w.self-is ∙ yes))),
        λ both. w.self-is ∙ w.is_admitted-self.ensures.1 (subst (IsAdmitted l) (sym w.deref-then-self.ensures.value) both.1),
      )
      | else-self w ↦ (λ yes. cc, λ both. (let yes : old.is_admitted ≡ true = both.0 in cc))
    ] in
    more_run l rows c.args.inputs.now old _ has c.requires.inputs row refl admitted
