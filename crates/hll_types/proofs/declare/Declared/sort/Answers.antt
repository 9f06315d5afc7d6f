use Rattle.std.proofs.Common.{◌≡◌, [], ◌∷◌, ◌++◌, None, ap, subst, ◌∙◌}
use Rattle.std.specs.Str.{bytes_eq}
use Rattle.indexmap.specs.IndexMap.{insert_entry}
use Rattle.hll_meaning.specs.declared.ty.Ty.{Elem}
use Rattle.hll_meaning.specs.Kinds.{element}
use Rattle.hll_meaning.specs.Names.{type_of}
use Rattle.hll_meaning.specs.Types.{kind_of}
use Rattle.hll_meaning.specs.StaticRules.{taken_by}
use Rattle.hll_meaning.proofs.KindForms.{kind_of_elem}
use Rattle.hll_expressions.specs.Things.{declared_names, IsAdded}
use Rattle.hll_types.specs.Sorting.{codes_of_count}
use Rattle.hll_types.proofs.FreshNames.{new_name}
use Rattle.hll_types.proofs.NameAnswers.{declared_answer}
use Rattle.hll_types.proofs.declare.Declared.sort.Goals as goal

pub returns : goal.returns
returns c =
    let n = c.args.name.now in
    let kind : kind_of (Elem c.in_ok-root.root c.codes.result) ≡ element n.text (codes_of_count c.args.count) =
    kind_of_elem c.in_ok-root.root c.codes.result ∙ (λ i. element ((c.in_ok-root.ensures ∙ c.bytes-2.ensures) i) (c.codes.ensures i)) in
    declared_answer _ c.declare-2.result c.declare-2.ensures.declared c.declare-2.ensures.memory
    (λ adds. let added = adds (new_name (taken_by (declared_names c.args.self.now.names)) c.args.name.now c.in_ok-fresh.ensures) in (
      c.in_ok-fresh.ensures,
      subst (λ k. IsAdded c.args.self.now.names c.declare-2.new.self.names (declared_names c.args.self.now.names ++ (n.text, type_of k) ∷ [])) kind added,
      c.declare-2.ensures.others.0 ∙ c.in_ok-declare.ensures.declared
          ∙ ap (λ m. insert_entry bytes_eq c.args.self.now.sorts m (record { is_sort = c.args.is_sort; count = c.args.count; parent = None })) c.bytes.ensures,
      c.declare-2.ensures.others.1,
    ))
