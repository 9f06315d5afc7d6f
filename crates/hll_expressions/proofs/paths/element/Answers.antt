use Rattle.std.proofs.Common.{rules, ◌≡◌, Err, refl, ap, ◌∙◌}
use Rattle.hll_meaning.specs.Types.{kind_of}
use Rattle.hll_expressions.proofs.ElementLemmas.{no_element, index_not_whole, element_found}
use Rattle.hll_expressions.proofs.KindForms.{kind_of_bool, kind_of_int, kind_of_elem, kind_of_struct}
use Rattle.hll_expressions.proofs.paths.element.Goals as goal

pub returns-in_err-whole-in-Array : goal.returns-in_err-whole-in-Array
returns-in_err-whole-in-Array c =
    let f = c.in_err-whole-in-Array.field-0.0 in
    let is : c.from_residual.result ≡ Err f = search rules in
    rw is (index_not_whole c.args.at c.in-Array.field-0 c.args.from.now c.in-Array.of c.args.index.now f c.in-Array.is c.in_err-whole-in-Array.ensures)

pub returns-in_ok-whole-in-Array : goal.returns-in_ok-whole-in-Array
returns-in_ok-whole-in-Array c = element_found c.args.at c.in-Array.field-0 c.args.from.now c.in-Array.of c.args.index.now c.in_ok-whole-in-Array.field-0 c.get.result c.in-Array.is c.in_ok-whole-in-Array.ensures c.get.ensures

pub returns-in-Bool : goal.returns-in-Bool
returns-in-Bool c = no_element c.args.at c.args.from.now _ c.args.index.now c.fault.result (ap kind_of c.in-Bool.is ∙ kind_of_bool) refl c.fault.ensures

pub returns-in-Int : goal.returns-in-Int
returns-in-Int c = no_element c.args.at c.args.from.now _ c.args.index.now c.fault-in-Int.result (ap kind_of c.in-Int.is ∙ kind_of_int _) refl c.fault-in-Int.ensures

pub returns-in-Elem : goal.returns-in-Elem
returns-in-Elem c = no_element c.args.at c.args.from.now _ c.args.index.now c.fault-in-Elem.result (ap kind_of c.in-Elem.is ∙ kind_of_elem _ _) refl c.fault-in-Elem.ensures

pub returns-in-Struct : goal.returns-in-Struct
returns-in-Struct c = no_element c.args.at c.args.from.now _ c.args.index.now c.fault-in-Struct.result (ap kind_of c.in-Struct.is ∙ kind_of_struct _ _) refl c.fault-in-Struct.ensures
