use Rattle.std.proofs.Common.{map, sym, ap, ◌∙◌}
use Rattle.std.specs.List.{flat_map}
use Rattle.std.proofs.lemmas.List.{take_all}
use Rattle.hll_tree.specs.declared.tree.Section.{Section}
use Rattle.hll_tree.specs.declared.tree.Name.{Name}
use Rattle.hll_types.specs.Checked.{variables_in}
use Rattle.hll_types.proofs.VariableLists.{mapped_each}
use Rattle.hll_types.proofs.variables.places.Goals as goal

pub returns : goal.returns
returns c =
    c.loop-section.invariant
    ∙ ap (flat_map (λ (s : Section). map (λ (n : Name). n.at) (variables_in s))) (take_all c.loop-section.section-index c.as_slice-section-items.result.now c.loop-section-test.false ∙ c.as_slice-section-items.ensures)
    ∙ sym (mapped_each (λ (n : Name). n.at) variables_in c.args.model.now.sections)
