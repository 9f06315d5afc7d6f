use Rattle.std.proofs.Common.{refl}
use Rattle.std.proofs.lemmas.Result.{err_from_is_err_and}
use Rattle.hll_types.proofs.SortAnswers.{enumeration_elements, leaves_elements, enumeration_sort, leaves_sort, parent_children, parent_sort}
use Rattle.hll_types.proofs.declare.Declared.type_item.Goals as goal

pub returns-in_err-elements-in-Enumeration : goal.returns-in_err-elements-in-Enumeration
returns-in_err-elements-in-Enumeration c =
    let p = err_from_is_err_and c.from_residual.result c.from_residual.ensures.1 in
    rw (p.1, p.2, c.in-Enumeration.is) (λ q further h. enumeration_elements c.args.self.now q further h c.in-Enumeration.names c.in-Enumeration.name _ (rw c.as_slice.ensures at c.in_err-elements-in-Enumeration.ensures))

pub returns-in_ok-elements-in-Enumeration : goal.returns-in_ok-elements-in-Enumeration
returns-in_ok-elements-in-Enumeration c =
    rw c.in-Enumeration.is (λ q further h. enumeration_sort c.args.self.now c.elements.new.self c.sort.new.self q further h c.in-Enumeration.names c.in-Enumeration.name c.sort.result
    (rw c.as_slice.ensures at c.in_ok-elements-in-Enumeration.ensures) (rw c.len.ensures at c.sort.ensures))

pub returns-in_err-elements-in-Leaves : goal.returns-in_err-elements-in-Leaves
returns-in_err-elements-in-Leaves c =
    let p = err_from_is_err_and c.from_residual-in_err-elements-in-Leaves.result c.from_residual-in_err-elements-in-Leaves.ensures.1 in
    rw (p.1, p.2, c.in-Leaves.is) (λ q further h. leaves_elements c.args.self.now q further h c.in-Leaves.names c.in-Leaves.name _ (rw c.as_slice-in-Leaves.ensures at c.in_err-elements-in-Leaves.ensures))

pub returns-in_ok-elements-in-Leaves : goal.returns-in_ok-elements-in-Leaves
returns-in_ok-elements-in-Leaves c =
    rw c.in-Leaves.is (λ q further h. leaves_sort c.args.self.now c.elements-in-Leaves.new.self c.sort-in-Leaves.new.self q further h c.in-Leaves.names c.in-Leaves.name c.sort-in-Leaves.result
    (rw c.as_slice-in-Leaves.ensures at c.in_ok-elements-in-Leaves.ensures) (rw c.len-in-Leaves.ensures at c.sort-in-Leaves.ensures))

pub returns-in_err-count-in-Children : goal.returns-in_err-count-in-Children
returns-in_err-count-in-Children c =
    let p = err_from_is_err_and c.from_residual-in_err-count-in-Children.result c.from_residual-in_err-count-in-Children.ensures.1 in
    rw (p.1, p.2, c.in-Children.is) (λ q further h. parent_children c.args.self.now q further h c.in-Children.children c.in-Children.name _ ((rw c.as_slice-in-Children.ensures at c.in_err-count-in-Children.ensures) q.names further q.types h.names h.sorts))

pub returns-in_ok-count-in-Children : goal.returns-in_ok-count-in-Children
returns-in_ok-count-in-Children c =
    rw c.in-Children.is (λ q further h. parent_sort c.args.self.now _ c.sort-in-Children.new.self q further h c.in-Children.children c.in-Children.name c.in_ok-count-in-Children.count c.sort-in-Children.result refl refl
    ((rw c.as_slice-in-Children.ensures at c.in_ok-count-in-Children.ensures) q.names further q.types h.names h.sorts) c.sort-in-Children.ensures)
