use Rattle.std.proofs.Common.{ℕ, List, map, position, ap, ◌∙◌}
use Rattle.std.specs.Str.{bytes_eq}
use Rattle.hll_tree.specs.declared.tree.HllModel.{HllModel}
use Rattle.hll_meaning.specs.Kinds.{Kind}
use Rattle.hll_meaning.specs.Runs.{variables}
use Rattle.hll_types.proofs.RootNumbers.{position_named}
use Rattle.hll_types.proofs.checked.Checked.variable_of.Goals as goal

pub returns : goal.returns
returns c =
    c.get_index_of.ensures.index ∙ position_named (λ k. k.items) (bytes_eq c.args.name.now) c.self.inside.tables.positions.keys
    ∙ ap (position (bytes_eq c.args.name.now)) (c.self.invariant.checked.tables.positions ∙ ap (λ (m : HllModel). map (λ (x : List ℕ × Kind). x.0) (variables m)) c.self.view_is)
