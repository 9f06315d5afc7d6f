use Rattle.std.proofs.Common.{refl, ap, ◌∙◌}
use Rattle.hll_meaning.specs.Types.{kind_of}
use Rattle.hll_expressions.proofs.ElementLemmas.{no_member, member_found}
use Rattle.hll_expressions.proofs.KindForms.{kind_of_bool, kind_of_int, kind_of_elem, kind_of_array}
use Rattle.hll_expressions.proofs.paths.member.Goals as goal

pub returns-in-Struct : goal.returns-in-Struct
returns-in-Struct c = member_found c.args.at c.args.from.now c.in-Struct.field-0 c.in-Struct.fields c.as_slice.result.now c.args.name.now c.field.result c.in-Struct.is c.as_slice.ensures c.field.ensures

pub returns-in-Bool : goal.returns-in-Bool
returns-in-Bool c = no_member c.args.at c.args.from.now _ c.args.name.now c.fault.result (ap kind_of c.in-Bool.is ∙ kind_of_bool) refl c.fault.ensures

pub returns-in-Int : goal.returns-in-Int
returns-in-Int c = no_member c.args.at c.args.from.now _ c.args.name.now c.fault-in-Int.result (ap kind_of c.in-Int.is ∙ kind_of_int _) refl c.fault-in-Int.ensures

pub returns-in-Elem : goal.returns-in-Elem
returns-in-Elem c = no_member c.args.at c.args.from.now _ c.args.name.now c.fault-in-Elem.result (ap kind_of c.in-Elem.is ∙ kind_of_elem _ _) refl c.fault-in-Elem.ensures

pub returns-in-Array : goal.returns-in-Array
returns-in-Array c = no_member c.args.at c.args.from.now _ c.args.name.now c.fault-in-Array.result (ap kind_of c.in-Array.is ∙ kind_of_array _ _) refl c.fault-in-Array.ensures
