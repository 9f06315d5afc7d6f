use Rattle.std.proofs.Common.{◌++◌, ◌∷◌, [], ◌∙◌, Bool, List, ap, sym, subst, take}
use Rattle.std.proofs.lemmas.List.{take_all, take_more}
use Rattle.evidence.specs.Claims.{HasRun}
use Rattle.evidence.proofs.trace.breaks.Goals as goal

pub loop-row-preserved : goal.loop-row-preserved
loop-row-preserved c =
    let rows = c.args.rows.now in
    let i = c.loop-row.row-index in
    record {
      sized = c.row.ensures.sized;
      run = subst (λ (xs : List (List Bool)). HasRun c.args.l.now xs c.row.new.self)
          (ap (λ (r : List Bool). take i rows ++ r ∷ []) (c.as_slice.ensures ∙ c.row-item.is) ∙ sym (take_more rows i c.row-item.result c.loop-row-test.true))
          (c.row.ensures.run (take i rows) c.loop-row.invariant.run);
    }

pub returns : goal.returns
returns c = λ j count.
    let rows = c.args.rows.now in
    c.is_break.ensures rows j (subst (λ (xs : List (List Bool)). HasRun c.args.l.now xs c.loop-row.trace) (take_all c.loop-row.row-index rows c.loop-row-test.false) c.loop-row.invariant.run) count
