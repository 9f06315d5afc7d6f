use Rattle.std.proofs.Common.{◌≡◌, ◌++◌, ◌∷◌, [], ℕ, List, Bool, map, sym, subst, ◌∙◌}
use Rattle.hll_tree.specs.declared.tree.Slot.TheVariants.{Index as IndexSlot}
use Rattle.hll_meaning.specs.declared.fault.StaticKind.TheVariants.{Twice}
use Rattle.hll_meaning.specs.Declarations.{is_among}
use Rattle.hll_meaning.specs.Judging.{fault_if}
use Rattle.hll_meaning.specs.StaticRules.{with_slot}
use Rattle.hll_expressions.specs.declared.scope.Index.{Index}
use Rattle.hll_expressions.specs.Answers.{IsFaultAt}
use Rattle.hll_expressions.specs.Scopes.{index_names}
use Rattle.hll_types.specs.Defining.{left_of}
use Rattle.hll_expressions.proofs.Firsts.{no_memory}
use Rattle.hll_expressions.proofs.FaultFolds.{handed}
use Rattle.hll_types.proofs.LeftSides.{is_bound_so, index_twice, index_shape, index_added, no_array}
use Rattle.hll_types.proofs.define.index_name.Goals as goal

pub returns-in_err-refuse_if : goal.returns-in_err-refuse_if
returns-in_err-refuse_if c =
    let twice : c.is_some-is_bound.result ≡ is_among (map {B = List ℕ} (λ x. x.0) (index_names c.args.bound.now.items)) c.args.name.now.text =
    is_bound_so c.kind.result c.is_some-is_bound.result c.bytes.result.now c.args.name.now.text c.as_slice.result c.args.bound.now.items c.is_some-is_bound.ensures c.kind.ensures c.bytes.ensures c.as_slice.ensures.value in
    let f = c.in_err-refuse_if.field-0.0 in
    handed _ (IsFaultAt (with_slot (left_of c.args.kind.now c.args.bound.now.items) (IndexSlot c.args.name.now)).faults) c.from_residual.result f c.from_residual.ensures.1
    (index_twice c.args.kind.now c.args.bound.now.items c.args.name.now f (subst (λ (b : Bool). IsFaultAt (fault_if b Twice c.args.name.now.at) f) twice c.in_err-refuse_if.ensures.1))

pub returns-in_err-push-in-Array : goal.returns-in_err-push-in-Array
returns-in_err-push-in-Array c =
    let f = c.in_err-push-in-Array.field-0.0 in
    handed _ (IsFaultAt (with_slot (left_of c.args.kind.now c.args.bound.now.items) (IndexSlot c.args.name.now)).faults) c.from_residual-in_err-push-in-Array.result f c.from_residual-in_err-push-in-Array.ensures.1 (no_memory _ f c.in_err-push-in-Array.ensures.memory)

pub returns-in_ok-push-in-Array : goal.returns-in_ok-push-in-Array
returns-in_ok-push-in-Array c =
    let twice : c.is_some-is_bound.result ≡ is_among (map {B = List ℕ} (λ x. x.0) (index_names c.args.bound.now.items)) c.args.name.now.text =
    is_bound_so c.kind.result c.is_some-is_bound.result c.bytes.result.now c.args.name.now.text c.as_slice.result c.args.bound.now.items c.is_some-is_bound.ensures c.kind.ensures c.bytes.ensures c.as_slice.ensures.value in
    let i : Index = c.in_ok-index-in-Array.index in
    index_added c.args.kind.now c.in-Array.each c.in-Array.size c.args.bound.now.items c.args.name.now i c.in-Array.is (sym twice ∙ c.in_ok-refuse_if.ensures) c.in_ok-index-in-Array.ensures.name c.in_ok-index-in-Array.ensures.kind
    ∙ (let e : c.in-Array.each ≡ c.get.result.now = sym c.get.ensures in let p : c.args.bound.now.items ++ i ∷ [] ≡ c.push.new.list.items = sym c.in_ok-push-in-Array.ensures.pushed in λ j. left_of (e j) (p j))

pub returns-in-Bool : goal.returns-in-Bool
returns-in-Bool c =
    let twice : c.is_some-is_bound.result ≡ is_among (map {B = List ℕ} (λ x. x.0) (index_names c.args.bound.now.items)) c.args.name.now.text =
    is_bound_so c.kind.result c.is_some-is_bound.result c.bytes.result.now c.args.name.now.text c.as_slice.result c.args.bound.now.items c.is_some-is_bound.ensures c.kind.ensures c.bytes.ensures c.as_slice.ensures.value in
    subst (IsFaultAt (with_slot (left_of c.args.kind.now c.args.bound.now.items) (IndexSlot c.args.name.now)).faults) (sym c.fault.ensures)
    (index_shape c.args.kind.now c.args.bound.now.items c.args.name.now (sym twice ∙ c.in_ok-refuse_if.ensures) (no_array c.args.kind.now c.in-Bool.is))
