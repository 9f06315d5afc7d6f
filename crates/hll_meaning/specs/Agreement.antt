-- Names that agree but for the roots and codes of elements.
use Rattle.std.specs.Prelude.{◌≡◌, [], map}
use Rattle.hll_meaning.specs.Kinds.{Kind, truth, whole, element, array, struct, Fields, none, field, truths}
use Rattle.hll_meaning.specs.Names.{Thing, constant, type_of, code_in, variable, later, Names}

-- a kind in which no element has a root or codes of its own
abbrev mutual
  pub without_roots : Kind → Kind
  without_roots truth = truth
  without_roots (whole e) = whole e
  without_roots (element root e) = element [] truths
  without_roots (array n k) = array n (without_roots k)
  without_roots (struct name fields) = struct name (fields_without_roots fields)

  pub fields_without_roots : Fields → Fields
  fields_without_roots none = none
  fields_without_roots (field name k fields) = field name (without_roots k) (fields_without_roots fields)

-- the same of a thing
abbrev pub thing_without_roots : Thing → Thing
thing_without_roots (constant b x) = constant b x
thing_without_roots (type_of k) = type_of (without_roots k)
thing_without_roots (code_in root c) = code_in [] 0
thing_without_roots (variable input k) = variable input (without_roots k)
thing_without_roots later = later

-- the same of names
abbrev pub names_without_roots : Names → Names
names_without_roots = map (λ x. (x.0, thing_without_roots x.1))

-- the same names stand for the same in the same order, but for the roots and codes of elements
abbrev pub AgreeButElements : Names → Names → Type 0
AgreeButElements xs ys = names_without_roots xs ≡ names_without_roots ys
