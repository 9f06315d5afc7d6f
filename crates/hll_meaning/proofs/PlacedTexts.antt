-- The places of the expressions that stand in a text which tokens spell are within those of the tokens, so they differ.
use Rattle.std.proofs.Common.{◌≡◌, ℕ, ◌≤◌, Bool, true, false, List, [], ◌∷◌, ◌++◌, map, length, nat_eq, Option, Some, None, refl, sym, ap, subst, ◌∙◌, arith, append-nil}
use Rattle.std.specs.Prelude.{if◌then◌else◌}
use Rattle.std.specs.List.{IsDistinct, flat_map}
use Rattle.std.proofs.lemmas.List.{map-append}
use Rattle.std.proofs.lemmas.List.Folds.{flat_map-map}
use Rattle.hll_lexer.specs.Tokens.{AreInOrder}
use Rattle.hll_lexer.specs.declared.token.Reserved.{Reserved}
use Rattle.hll_lexer.specs.declared.token.Reserved.TheVariants as reserved
use Rattle.hll_lexer.specs.declared.token.Token.{Token}
use Rattle.hll_tree.specs.declared.tree.Declarator.{Declarator}
use Rattle.hll_tree.specs.declared.tree.Def.{Def}
use Rattle.hll_tree.specs.declared.tree.Expr.{Expr}
use Rattle.hll_tree.specs.declared.tree.Field.{Field}
use Rattle.hll_tree.specs.declared.tree.HllModel.{HllModel}
use Rattle.hll_tree.specs.declared.tree.Part.{Part}
use Rattle.hll_tree.specs.declared.tree.Part.TheVariants as part
use Rattle.hll_tree.specs.declared.tree.Section.{Section}
use Rattle.hll_tree.specs.declared.tree.Section.TheVariants as section
use Rattle.hll_tree.specs.declared.tree.Slot.{Slot}
use Rattle.hll_tree.specs.declared.tree.TypeItem.TheVariants as item
use Rattle.hll_tree.specs.declared.tree.TypeText.{TypeText}
use Rattle.hll_tree.specs.declared.tree.TypeText.TheVariants as ty
use Rattle.hll_tree.specs.Spells.{Spelling, Limit, Scope, scope, dims_of, named, IsDigits, IsIntegers, IsType, AreDims, IsDeclarator, IsDecl, IsConstant, IsMember, IsSort, IsTypeItem, part_of, IsPlainDefinition, IsMemoryDefinition, IsDefinition, IsSectionOf, IsSection, IsModel, SpellsUnder}
use Rattle.hll_meaning.specs.Kinds.{Kind}
use Rattle.hll_meaning.specs.Fitting.{is_scalar, ends_of}
use Rattle.hll_meaning.specs.Names.{Thing, constant, type_of, code_in, variable, later, Names, under}
use Rattle.hll_meaning.specs.Declarations.{Item, a_constant, a_type, variables_of, items_in, names}
use Rattle.hll_meaning.specs.Judging.{Context, In, judged}
use Rattle.hll_meaning.specs.Nodes.{Node, nodes, all_nodes, Placed, own_range, ranges_of, type_nodes, declarators_nodes, fields_nodes, type_item_nodes, item_nodes, defined_nodes, asked_nodes, where_declared, declared_nodes, text_nodes}
use Rattle.hll_meaning.specs.Places.{PlacesDiffer, PlacesOfRangesDiffer}
use Rattle.hll_meaning.specs.StaticRules.{Asked, defines, demands, asked_in, asking, left_side, part_expressions}
use Rattle.hll_meaning.proofs.PlacesWithin.{times, times_append, IsAmong, IsWithin, among_itself, among_regrouped, among_same, within_fewer, Stand, in_some, stand_none, stand_next, stand_then, stand_made, stand_same, stand_either, stand_behind, stand_before, stand_perhaps, stand_many, stand_listed, at_most_one, once}
use Rattle.hll_meaning.proofs.PlaceForms.{places_of, places_append, places_both, places_each, places_nested, places, all_places, all_each}
use Rattle.hll_meaning.proofs.PlacedExpressions.{Knows, knows, among_named, stand_name, stand_number, stand_parenthesised, stand_bounds, stand_expression}

-- ---- declarations

dims_same : (c : Context) (o : Option (List Expr)) → all_places (dims_of o) c ≡ in_some (λ es. all_places es c) o
dims_same c None = refl
dims_same c (Some es) = refl

-- a type as it is written
abbrev type_places : TypeText → In (List ℕ)
type_places t c = places_of (type_nodes t c)

-- a field of a struct
abbrev field_places : Field → In (List ℕ)
field_places f c = type_places f.ty c ++ all_places f.of.dims c

-- a type, and the dimensions behind it
typed_each : (t : TypeText) (dims : List Expr) (c : Context) → places_of (type_nodes t c ++ all_nodes dims c) ≡ type_places t c ++ all_places dims c
typed_each t dims c = places_both (type_nodes t c) (all_nodes dims c) _ _ refl (all_each dims c)

fields_each : (c : Context) (fs : List Field) → places_of (fields_nodes fs c) ≡ flat_map (λ f. field_places f c) fs
fields_each c fs = places_each (λ (f : Field). type_nodes f.ty c ++ all_nodes f.of.dims c) (λ f. field_places f c) (λ f. typed_each f.ty f.of.dims c) fs

-- the type of a declaration, and the dimensions of its names
variables_each : (c : Context) (t : TypeText) (ds : List Declarator) →
    places_of (type_nodes t c ++ declarators_nodes ds c) ≡ type_places t c ++ flat_map (λ d. all_places d.dims c) ds
variables_each c t ds =
    places_both (type_nodes t c) (declarators_nodes ds c) _ _ refl
    (places_each (λ (d : Declarator). all_nodes d.dims c) (λ d. all_places d.dims c) (λ d. all_each d.dims c) ds)

module _ (s : Scope) (k : Knows s) (c : Context) where
  stand_digits : Stand (IsDigits s) (λ e. places e c)
  stand_digits = stand_either (stand_number c) (stand_either (stand_made _ named (λ n. among_named n c) (stand_name s)) (stand_parenthesised s k c))

  stand_integers : Stand (IsIntegers s) (λ t. type_places t c)
  stand_integers =
      stand_either (stand_same _ (λ x. ty.Bounds x.0 x.1) (λ x. places_append (nodes x.0 c) (nodes x.1 c)) (stand_bounds s k c))
      (stand_either (stand_same _ ty.Signed (λ e. refl) (stand_behind _ stand_digits))
      (stand_same _ ty.Unsigned (λ e. refl) (stand_behind _ stand_digits)))

  stand_type : Stand (IsType s) (λ t. type_places t c)
  stand_type =
      stand_either (stand_same _ (λ t. ty.Bool) (λ t. refl) (stand_none _))
      (stand_either (stand_same _ ty.Named (λ n. refl) (stand_none _)) (stand_behind _ stand_integers))

  stand_dims : Stand (AreDims s) (λ es. all_places es c)
  stand_dims = stand_same _ dims_of (dims_same c) (stand_perhaps (stand_behind _ (stand_before _ (stand_listed (k.expression c)))))

  stand_declarator : Stand (IsDeclarator s) (λ d. all_places d.dims c)
  stand_declarator = stand_same _ (λ x. record { name = x.0; dims = x.1 }) (λ x. refl) (stand_then (stand_none _) stand_dims)

  stand_decl : (input : Bool) → Stand (IsDecl s) (λ d. places_of (item_nodes (variables_of input d) c))
  stand_decl input = stand_same _ (λ x. record { ty = x.0; names = x.1 }) (λ x. variables_each c x.0 x.1)
      (stand_then stand_type (stand_listed stand_declarator))

  stand_constant : Stand (IsConstant s) (λ d. places_of (item_nodes (a_constant d) c))
  stand_constant = stand_same _ (λ x. record { boolean = x.0; name = x.1.0; value = x.1.1 }) (λ x. refl)
      (stand_then (stand_none _) (stand_then (stand_none _) (stand_behind _ (stand_expression s k c))))

  stand_member : Stand (IsMember s) (λ f. field_places f c)
  stand_member = stand_same _ (λ x. record { ty = x.1.0; of = record { name = x.0; dims = x.1.1 } }) (λ x. refl)
      (stand_then (stand_none _) (stand_behind _ (stand_then stand_type stand_dims)))

  stand_sort : Stand (IsSort s) (λ t. places_of (type_item_nodes t c))
  stand_sort =
      stand_either (stand_same _ (λ x. item.Leaves x.0 x.1) (λ x. refl) (stand_none _))
      (stand_same _ (λ x. item.Children x.0 x.1) (λ x. refl) (stand_none _))

  stand_type_item : Stand (IsTypeItem s) (λ t. places_of (item_nodes (a_type t) c))
  stand_type_item =
      stand_either (stand_same _ (λ x. item.Alias x.0 x.1) (λ x. typed_each x.0 x.1.dims c) (stand_then stand_type stand_declarator))
      (stand_either (stand_same _ (λ x. item.Enumeration x.0 x.1) (λ x. refl) (stand_none _))
      (stand_either (stand_same _ (λ x. item.Structure x.0 x.1) (λ x. fields_each c x.0 ∙ sym (append-nil (flat_map (λ f. field_places f c) x.0)))
      (stand_behind _ (stand_then (stand_behind _ (stand_before _ (stand_listed stand_member))) (stand_none _))))
      (stand_behind _ stand_sort)))

-- ---- definitions

-- the places of what a definition gives
abbrev given_places : Part → In (List ℕ)
given_places p c = all_places (part_expressions p) c

part_same : (c : Context) (x : Expr × Option Expr) → given_places (part_of x) c ≡ places x.0 c ++ in_some (λ e. places e c) x.1
part_same c (e, None) = refl
part_same c (e, Some f) = ap (λ (ps : List ℕ). places e c ++ ps) (append-nil (places f c))

-- where it stands, by the left side and by what its name stands for; nothing is said to stand there where that is no variable
abbrev where_given : Names → List Slot → Option Thing → Context
where_given all slots None = asking all []
where_given all slots (Some (constant b x)) = asking all []
where_given all slots (Some (type_of k)) = asking all []
where_given all slots (Some (code_in root code)) = asking all []
where_given all slots (Some (variable input k)) = asking all (left_side slots k).bound
where_given all slots (Some later) = asking all []

defined_few : (all : Names) (d : Def) (o : Option Thing) (ps : List ℕ) →
    given_places d.part (where_given all d.indices o) ≡ ps → IsAmong (places_of (defined_nodes all d o)) ps
defined_few all d None ps is a = omega arith
defined_few all d (Some (constant b x)) ps is a = omega arith
defined_few all d (Some (type_of k)) ps is a = omega arith
defined_few all d (Some (code_in root code)) ps is a = omega arith
defined_few all d (Some (variable input k)) ps is a = among_same _ ps (all_each (part_expressions d.part) (asking all (left_side d.indices k).bound) ∙ is) a
defined_few all d (Some later) ps is a = omega arith

-- a definition, or a constraint or obligation
abbrev asked_places : Names → Asked → List ℕ
asked_places all q = places_of (asked_nodes all q)

module _ (s : Scope) (k : Knows s) (all : Names) where
  stand_plain : Stand (IsPlainDefinition s) (λ d. asked_places all (defines d))
  stand_plain =
      stand_made _ _ (λ x. defined_few all (record { at = x.0.0.at; name = x.0.0; indices = x.0.1; part = x.1 }) (under x.0.0.text all) _ refl)
      (stand_next (λ l p. given_places p (where_given all l.1 (under l.0.text all))) (stand_none _) (λ l.
      let here = where_given all l.1 (under l.0.text all) in
      stand_behind _ (stand_same (λ p. given_places p here) part_of (part_same here)
      (stand_then (stand_expression s k here) (stand_perhaps (stand_behind _ (stand_expression s k here)))))))

  stand_memory : (w : Reserved) (made : Expr → Part) →
      ((c : Context) (e : Expr) → given_places (made e) c ≡ places e c) → Stand (IsMemoryDefinition s w made) (λ d. asked_places all (defines d))
  stand_memory w made same =
      stand_made _ _
      (λ x. defined_few all (record { at = x.0.from; name = x.1.0.0; indices = x.1.0.1; part = made x.1.1 }) (under x.1.0.0.text all) _ (same _ x.1.1))
      (stand_then (stand_none _) (stand_next (λ l e. places e (where_given all l.1 (under l.0.text all))) (stand_none _) (λ l.
      stand_behind _ (stand_expression s k (where_given all l.1 (under l.0.text all))))))

  stand_definition : Stand (IsDefinition s) (λ d. asked_places all (defines d))
  stand_definition = stand_either stand_plain (stand_either
      (stand_memory reserved.First part.First (λ c e. append-nil (places e c)))
      (stand_memory reserved.Next part.Next (λ c e. append-nil (places e c))))

-- ---- sections

-- a section: what it declares, and what it defines and demands
abbrev section_places : Names → Section → List ℕ
section_places all part = places_of (declared_nodes all (items_in part)) ++ places_of (flat_map (asked_nodes all) (asked_in part))

declared_each : {X : Type 0} (all : Names) (made : X → Item) (xs : List X) →
    places_of (declared_nodes all (map made xs)) ++ [] ≡ flat_map (λ x. places_of (item_nodes (made x) (where_declared all))) xs
declared_each all made xs =
    append-nil (places_of (declared_nodes all (map made xs)))
    ∙ places_each (λ it. item_nodes it (where_declared all)) (λ it. places_of (item_nodes it (where_declared all))) (λ it. refl) (map made xs)
    ∙ flat_map-map (λ it. places_of (item_nodes it (where_declared all))) made xs

asked_each : {X : Type 0} (all : Names) (made : X → Asked) (xs : List X) →
    places_of (flat_map (asked_nodes all) (map made xs)) ≡ flat_map (λ x. asked_places all (made x)) xs
asked_each all made xs =
    places_each (asked_nodes all) (asked_places all) (λ q. refl) (map made xs)
    ∙ flat_map-map (asked_places all) made xs

module _ (s : Scope) (k : Knows s) (all : Names) where
  stand_section_of : {X : Type 0} {P : Spelling X} (w : Reserved) (made : List X → Section) (f : X → List ℕ) →
      ((xs : List X) → section_places all (made xs) ≡ flat_map f xs) → Stand P f → Stand (IsSectionOf w made P) (section_places all)
  stand_section_of w made f same each = stand_behind _ (stand_behind _ (stand_same (section_places all) made same (stand_many (stand_before _ each))))

  stand_section : Stand (IsSection s) (section_places all)
  stand_section =
      stand_either (stand_section_of reserved.Constants section.Constants _ (declared_each all a_constant) (stand_constant s k (where_declared all)))
      (stand_either (stand_section_of reserved.Types section.Types _ (declared_each all a_type) (stand_type_item s k (where_declared all)))
      (stand_either (stand_section_of reserved.Inputs section.Inputs _ (declared_each all (variables_of true)) (stand_decl s k (where_declared all) true))
      (stand_either (stand_section_of reserved.Declarations section.Declarations _ (declared_each all (variables_of false)) (stand_decl s k (where_declared all) false))
      (stand_either (stand_section_of reserved.Definitions section.Definitions _ (asked_each all defines) (stand_definition s k all))
      (stand_either (stand_section_of reserved.Constraints section.Constraints _ (asked_each all demands) (stand_expression s k (asking all [])))
      (stand_behind _ (stand_section_of reserved.Obligations section.Obligations _ (asked_each all demands) (stand_expression s k (asking all [])))))))))

  stand_model : Stand (IsModel s) (λ m. flat_map (section_places all) m.sections)
  stand_model = stand_same _ (λ x. record { sections = x }) (λ x. refl) (stand_many stand_section)

-- ---- texts

-- what its sections declare comes first, and behind it what they define and demand
text_same : (m : HllModel) → let all = names m in
    places_of (text_nodes m)
    ≡ flat_map (λ part. places_of (declared_nodes all (items_in part))) m.sections
    ++ flat_map (λ part. places_of (flat_map (asked_nodes all) (asked_in part))) m.sections
text_same m =
    let all = names m in
    places_both (declared_nodes all (flat_map items_in m.sections)) (flat_map (asked_nodes all) (flat_map asked_in m.sections)) _ _
    (places_nested (λ it. item_nodes it (where_declared all)) items_in m.sections) (places_nested (asked_nodes all) asked_in m.sections)

-- so the places are those of section by section
sections_few : (m : HllModel) → IsAmong (places_of (text_nodes m)) (flat_map (section_places (names m)) m.sections)
sections_few m = subst (λ ps. IsAmong ps (flat_map (section_places (names m)) m.sections)) (sym (text_same m)) (among_regrouped _ _ m.sections)

-- none of the places of a text more often than tokens begin there
pub text_within : (limit : Limit) (text : List ℕ) (ts : List Token) (m : HllModel) → SpellsUnder limit text ts m → IsWithin (places_of (text_nodes m)) ts
text_within limit text ts m spelled =
    let stands = stand_model (scope text limit spelled.0 0) (knows text limit spelled.0 0) (names m) in
    within_fewer _ _ ts (sections_few m) (stands.within ts m spelled.1)

-- where the tokens stand in order, that is at most once
among_differ : (limit : Limit) (text : List ℕ) (ts : List Token) (m : HllModel) (ps : List ℕ) →
    AreInOrder 0 (length text) ts → SpellsUnder limit text ts m → IsAmong ps (places_of (text_nodes m)) → IsDistinct nat_eq ps
among_differ limit text ts m ps order spelled few =
    once ps (λ a.
    let own = few a in
    let some = text_within limit text ts m spelled a in
    let one = at_most_one a 0 (length text) ts order in
    omega arith)

pub differ : PlacesDiffer
differ limit text ts m order spelled = among_differ limit text ts m _ order spelled (among_itself (places_of (text_nodes m)))

-- ---- ranges

-- the places of ranges
abbrev places_in : List Placed → List ℕ
places_in = map (λ p. p.at)

-- a node has its range at its place, or none
own_few : (n : Node) → IsAmong (places_in (own_range n)) (n.expr.at ∷ [])
own_few n a = by_kind (is_scalar k)
  where
    k : Kind
    k = (judged n.expr n.where_).kind

    by_kind : (b : Bool) → times a (places_in (if b then record { at = n.expr.at; range = ends_of k } ∷ [] else [])) ≤ times a (n.expr.at ∷ [])
    by_kind true = omega arith
    by_kind false = omega arith

ranges_few : (ns : List Node) → IsAmong (places_in (ranges_of ns)) (places_of ns)
ranges_few [] a = omega arith
ranges_few (n ∷ ns) a =
    let own = own_few n a in
    let others = ranges_few ns a in
    let whole = ap (times a) (map-append (λ (p : Placed). p.at) (own_range n) (ranges_of ns)) in
    omega (arith, whole, times_append a (places_in (own_range n)) (places_in (ranges_of ns)))

pub ranges_differ : PlacesOfRangesDiffer
ranges_differ limit text ts m order spelled = among_differ limit text ts m _ order spelled (ranges_few (text_nodes m))
