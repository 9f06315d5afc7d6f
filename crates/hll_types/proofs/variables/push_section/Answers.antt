use Rattle.std.proofs.Common.{◌≡◌, ℕ, List, ◌++◌, inl, inr, map, OnOk, sym, ap, subst, ◌∙◌}
use Rattle.std.specs.List.{flat_map}
use Rattle.hll_tree.specs.declared.tree.Decl.{Decl}
use Rattle.hll_tree.specs.declared.tree.Declarator.{Declarator}
use Rattle.hll_tree.specs.declared.tree.Name.{Name}
use Rattle.hll_tree.specs.declared.tree.Section.{Section}
use Rattle.hll_types.specs.Checked.{names_declared, variables_in}
use Rattle.hll_types.proofs.VariableLists.{places_declared}
use Rattle.hll_types.proofs.variables.push_section.Goals as goal

pub returns-in-Inputs : goal.returns-in-Inputs
returns-in-Inputs c =
    let of_section : (s : Section) → List ℕ = λ s. map (λ (n : Name). n.at) (variables_in s) in
    let declared : map (λ (n : Name). n.at) (names_declared c.in-Inputs.decls) ≡ of_section c.args.section.now = elim c.in-Inputs.is [ inl is ↦ ap of_section (sym is) | inr is ↦ ap of_section (sym is) ] in
    let all = ap (flat_map (λ (decl : Decl). map (λ (d : Declarator). d.name.at) decl.names)) c.as_slice.ensures ∙ places_declared c.in-Inputs.decls ∙ declared in
    subst (λ (more : List ℕ). OnOk c.push_declared.result (c.push_declared.new.places.items ≡ c.args.places.now.items ++ more)) all c.push_declared.ensures
