use Rattle.std.proofs.Common.{[], ◌∷◌, ◌++◌, map, ap, ◌∙◌}
use Rattle.hll_meaning.specs.Declarations.{is_among}
use Rattle.hll_types.proofs.VariableLists.{noted_further}
use Rattle.hll_types.proofs.variables.positions.Goals as goal

pub loop-variable-preserved : goal.loop-variable-preserved
loop-variable-preserved c =
    let keys = map (λ k. k.items) c.loop-variable.names.keys in
    noted_further (λ v. v.name) c.args.variables.now c.loop-variable.variable-index c.variable-item.result keys _ c.loop-variable-test.true c.variable-item.is c.requires c.loop-variable.invariant
    (λ new. c.in_ok-note.ensures (ap (is_among keys) c.bytes.ensures ∙ new) ∙ ap (λ n. keys ++ n ∷ []) c.bytes.ensures)
