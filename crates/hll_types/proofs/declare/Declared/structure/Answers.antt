use Rattle.std.proofs.Common.{[], ◌∷◌, ◌++◌, sym, ap, subst, ◌∙◌}
use Rattle.std.proofs.lemmas.Result.{err_from_is_err_and}
use Rattle.hll_meaning.specs.declared.fault.StaticKind.TheVariants as is
use Rattle.hll_meaning.specs.declared.ty.Ty.{Struct}
use Rattle.hll_meaning.specs.Kinds.{struct}
use Rattle.hll_meaning.specs.Names.{type_of}
use Rattle.hll_meaning.specs.Types.{kind_of}
use Rattle.hll_meaning.specs.Declarations.{field_kinds}
use Rattle.hll_meaning.specs.Judging.{fault_if}
use Rattle.hll_meaning.specs.StaticRules.{is_large, taken_by}
use Rattle.hll_expressions.specs.Things.{declared_names, IsAdded}
use Rattle.hll_expressions.proofs.FirstFaults.{fault_same}
use Rattle.hll_types.proofs.ItemAnswers.{struct_fields, struct_twice, struct_large, struct_right}
use Rattle.hll_types.proofs.LargeKinds.{large_measure}
use Rattle.hll_types.proofs.FreshNames.{new_name}
use Rattle.hll_types.proofs.NameAnswers.{declared_answer}
use Rattle.hll_types.proofs.declare.Declared.structure.Goals as goal

pub returns-in_err-fields : goal.returns-in_err-fields
returns-in_err-fields c =
    let p = err_from_is_err_and c.from_residual.result c.from_residual.ensures.1 in
    rw (p.1, p.2) (λ q further h. struct_fields c.args.self.now q further h c.args.items.now c.args.name.now _ (c.in_err-fields.ensures q.names further h.names))

pub returns-in_err-fresh : goal.returns-in_err-fresh
returns-in_err-fresh c =
    let p = err_from_is_err_and c.from_residual-in_err-fresh.result c.from_residual-in_err-fresh.ensures.1 in
    rw (p.1, p.2) (λ q further h. struct_twice c.args.self.now q further h c.args.items.now c.args.name.now _ (c.in_ok-fields.ensures q.names further h.names).0 c.in_err-fresh.ensures)

pub returns-in_err-refuse_if : goal.returns-in_err-refuse_if
returns-in_err-refuse_if c =
    let p = err_from_is_err_and c.from_residual-in_err-refuse_if.result c.from_residual-in_err-refuse_if.ensures.1 in
    rw (p.1, p.2) (λ q further h.
    let fields = c.in_ok-fields.ensures q.names further h.names in
    let large = c.is_large.ensures ∙ large_measure (struct [] (field_kinds q.names c.args.items.now)) c.in_ok-fields.size fields.1 in
    struct_large c.args.self.now q further h c.args.items.now c.args.name.now _ fields.0 c.in_ok-fresh.ensures
    (fault_same (fault_if c.is_large.result is.Cells c.args.name.now.at) (fault_if (is_large (struct c.args.name.now.text (field_kinds q.names c.args.items.now))) is.Cells c.args.name.now.at) _
    (ap (λ b. fault_if b is.Cells c.args.name.now.at) large) c.in_err-refuse_if.ensures.1))

pub returns : goal.returns
returns c = λ q further h.
    let fields = c.in_ok-fields.ensures q.names further h.names in
    let large = c.is_large.ensures ∙ large_measure (struct [] (field_kinds q.names c.args.items.now)) c.in_ok-fields.size fields.1 in
    let small = sym large ∙ c.in_ok-refuse_if.ensures in
    let own = c.in_ok-own.ensures ∙ c.bytes.ensures in
    declared_answer _ c.declare.result c.declare.ensures.declared c.declare.ensures.memory
    (λ adds. let added = adds (new_name (taken_by (declared_names c.args.self.now.names)) c.args.name.now c.in_ok-fresh.ensures) in struct_right c.args.self.now q further h c.declare.new.self c.args.items.now c.args.name.now c.in_ok-fields.fields fields.0 c.in_ok-fresh.ensures small (fields.2 small)
    (subst (λ w. IsAdded c.args.self.now.names c.declare.new.self.names (declared_names c.args.self.now.names ++ (c.args.name.now.text, type_of (kind_of (Struct w c.in_ok-fields.fields))) ∷ [])) own added)
    c.declare.ensures.others.0 c.declare.ensures.others.1)
