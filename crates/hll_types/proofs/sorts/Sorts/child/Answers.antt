use Rattle.std.proofs.Common.{not, Some, is_none, refl, sym, ap, subst, ◌∙◌}
use Rattle.std.specs.Str.{bytes_eq}
use Rattle.std.proofs.lemmas.Result.{err_from_is_err_and}
use Rattle.indexmap.specs.IndexMap.{insert_entry}
use Rattle.hll_meaning.specs.declared.fault.StaticKind.TheVariants as is
use Rattle.hll_meaning.specs.Names.{under}
use Rattle.hll_meaning.specs.Declarations.{is_among}
use Rattle.hll_meaning.specs.Judging.{fault_if}
use Rattle.hll_meaning.specs.StaticRules.{declaring}
use Rattle.hll_expressions.specs.declared.faults.StaticFault.TheVariants.{Fault}
use Rattle.hll_expressions.specs.Answers.{IsFaultAt}
use Rattle.hll_expressions.specs.Things.{names_of}
use Rattle.hll_types.proofs.ChildAnswers.{parent_some, child_unknown, child_twice, child_kind, child_fine, nothing_there, sort_there, parent_there, no_sort_there, no_parent_there}
use Rattle.hll_expressions.proofs.FirstFaults.{fault_same}
use Rattle.hll_types.proofs.sorts.Sorts.child.Goals as goal

pub returns-in_err-refuse_if : goal.returns-in_err-refuse_if
returns-in_err-refuse_if c =
    let p = err_from_is_err_and c.from_residual.result c.from_residual.ensures.1 in
    rw (p.1, p.2) (λ names further sorts joined h kinds parents.
    let n = c.args.name.now in
    let unknown = nothing_there c.args.names.now names further h n.text c.is_nothing-unknown.result (c.is_nothing-unknown.ensures ∙ ap is_none c.get.ensures ∙ ap (λ m. is_none (under m (names_of c.args.names.now))) c.bytes.ensures) in
    child_unknown (declaring names further) sorts joined n _
    (fault_same (fault_if c.is_nothing-unknown.result is.Unknown n.at) (fault_if (is_none (under n.text (declaring names further).names)) is.Unknown n.at) _ (ap (λ b. fault_if b is.Unknown n.at) unknown) c.in_err-refuse_if.ensures.1))

pub returns-in_default : goal.returns-in_default
returns-in_default c =
    rw c.fault.ensures (λ names further sorts joined h kinds parents.
    let n = c.args.name.now in
    let unknown = nothing_there c.args.names.now names further h n.text c.is_nothing-unknown.result (c.is_nothing-unknown.ensures ∙ ap is_none c.get.ensures ∙ ap (λ m. is_none (under m (names_of c.args.names.now))) c.bytes.ensures) in
    let none = sym (c.in_default.ensures ∙ ap (λ m. under m c.args.self.now) c.bytes-2.ensures) in
    child_kind (declaring names further) sorts joined n (Fault is.Kind n.at) (sym unknown ∙ c.in_ok-refuse_if.ensures) (no_parent_there c.args.self.now n.text joined parents none)
    (subst (λ b. IsFaultAt (fault_if (not b) is.Kind n.at) (Fault is.Kind n.at)) (sym (no_sort_there c.args.self.now n.text sorts kinds none)) refl))

pub returns-in_err-refuse_if-2 : goal.returns-in_err-refuse_if-2
returns-in_err-refuse_if-2 c =
    let p = err_from_is_err_and c.from_residual-in_err-refuse_if-2.result c.from_residual-in_err-refuse_if-2.ensures.1 in
    rw (p.1, p.2) (λ names further sorts joined h kinds parents.
    let n = c.args.name.now in
    let unknown = nothing_there c.args.names.now names further h n.text c.is_nothing-unknown.result (c.is_nothing-unknown.ensures ∙ ap is_none c.get.ensures ∙ ap (λ m. is_none (under m (names_of c.args.names.now))) c.bytes.ensures) in
    let found = sym (c.in-Some.ensures ∙ ap (λ m. under m c.args.self.now) c.bytes-2.ensures) in
    child_twice (declaring names further) sorts joined n _ (sym unknown ∙ c.in_ok-refuse_if.ensures)
    (fault_same (fault_if c.is_some.result is.Twice n.at) (fault_if (is_among joined n.text) is.Twice n.at) _
    (ap (λ b. fault_if b is.Twice n.at) (c.is_some.ensures ∙ parent_some c.in-Some.sort.parent ∙ sym (parent_there c.args.self.now n.text joined parents c.in-Some.sort found))) c.in_err-refuse_if-2.ensures.1))

pub returns-in_err-refuse_if-3 : goal.returns-in_err-refuse_if-3
returns-in_err-refuse_if-3 c =
    let p = err_from_is_err_and c.from_residual-in_err-refuse_if-3.result c.from_residual-in_err-refuse_if-3.ensures.1 in
    rw (p.1, p.2) (λ names further sorts joined h kinds parents.
    let n = c.args.name.now in
    let unknown = nothing_there c.args.names.now names further h n.text c.is_nothing-unknown.result (c.is_nothing-unknown.ensures ∙ ap is_none c.get.ensures ∙ ap (λ m. is_none (under m (names_of c.args.names.now))) c.bytes.ensures) in
    let found = sym (c.in-Some.ensures ∙ ap (λ m. under m c.args.self.now) c.bytes-2.ensures) in
    child_kind (declaring names further) sorts joined n _ (sym unknown ∙ c.in_ok-refuse_if.ensures)
    (parent_there c.args.self.now n.text joined parents c.in-Some.sort found ∙ sym (parent_some c.in-Some.sort.parent) ∙ sym c.is_some.ensures ∙ c.in_ok-refuse_if-2.ensures)
    (fault_same (fault_if (not c.in-Some.sort.is_sort) is.Kind n.at) (fault_if (not (is_among sorts n.text)) is.Kind n.at) _
    (ap (λ b. fault_if (not b) is.Kind n.at) (sym (sort_there c.args.self.now n.text sorts kinds c.in-Some.sort found))) c.in_err-refuse_if-3.ensures.1))

pub returns : goal.returns
returns c = λ names further sorts joined h kinds parents.
    let n = c.args.name.now in
    let unknown = nothing_there c.args.names.now names further h n.text c.is_nothing-unknown.result (c.is_nothing-unknown.ensures ∙ ap is_none c.get.ensures ∙ ap (λ m. is_none (under m (names_of c.args.names.now))) c.bytes.ensures) in
    let found = sym (c.in-Some.ensures ∙ ap (λ m. under m c.args.self.now) c.bytes-2.ensures) in (
      child_fine (declaring names further) sorts joined n (sym unknown ∙ c.in_ok-refuse_if.ensures)
          (parent_there c.args.self.now n.text joined parents c.in-Some.sort found ∙ sym (parent_some c.in-Some.sort.parent) ∙ sym c.is_some.ensures ∙ c.in_ok-refuse_if-2.ensures)
          (ap not (sort_there c.args.self.now n.text sorts kinds c.in-Some.sort found) ∙ c.in_ok-refuse_if-3.ensures),
      (
        c.in-Some.sort,
        found,
        refl,
        c.in_ok-put.ensures.put ∙ (λ i. insert_entry bytes_eq c.args.self.now (c.bytes-3.ensures i) (record { is_sort = c.in-Some.sort.is_sort; count = c.in-Some.sort.count; parent = Some (c.len.ensures i, c.args.before) })),
      ),
    )
