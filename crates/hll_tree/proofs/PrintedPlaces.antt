-- Models that are equal but for places are printed alike.
use Rattle.std.proofs.Common.{◌≡◌, Bool, List, [], ◌∷◌, ◌++◌, map, codes, refl, sym, ap, ◌∙◌}
use Rattle.std.specs.Prelude.{if◌then◌else◌}
use Rattle.std.specs.List.{flat_map}
use Rattle.hll_tree.specs.declared.tree.ConstItem.{ConstItem}
use Rattle.hll_tree.specs.declared.tree.Decl.{Decl}
use Rattle.hll_tree.specs.declared.tree.Declarator.{Declarator}
use Rattle.hll_tree.specs.declared.tree.Def.{Def}
use Rattle.hll_tree.specs.declared.tree.Expr.{Expr}
use Rattle.hll_tree.specs.declared.tree.Field.{Field}
use Rattle.hll_tree.specs.declared.tree.HllModel.{HllModel}
use Rattle.hll_tree.specs.declared.tree.Name.{Name}
use Rattle.hll_tree.specs.declared.tree.Part.{Part}
use Rattle.hll_tree.specs.declared.tree.Part.TheVariants as part
use Rattle.hll_tree.specs.declared.tree.Section.{Section}
use Rattle.hll_tree.specs.declared.tree.Section.TheVariants as section
use Rattle.hll_tree.specs.declared.tree.Slot.{Slot}
use Rattle.hll_tree.specs.declared.tree.Slot.TheVariants as slot
use Rattle.hll_tree.specs.declared.tree.TypeItem.{TypeItem}
use Rattle.hll_tree.specs.declared.tree.TypeItem.TheVariants as item
use Rattle.hll_tree.specs.declared.tree.TypeText.{TypeText}
use Rattle.hll_tree.specs.declared.tree.TypeText.TheVariants as ty
use Rattle.hll_tree.specs.Printing.{Text, plainly, joined, name_text, names_text, expression_text, dims_text, is_bare, size_text, type_text, declarator_text, decl_text, constant_text, field_text, type_item_text, slot_text, slots_text, left_side_text, part_text, definition_text, items_text, section_text, model_text}
use Rattle.hll_tree.specs.WithoutPlaces.{name_without, expression_without, type_without, declarator_without, decl_without, constant_without, field_without, type_item_without, slot_without, part_without, definition_without, section_without, model_without, SameButPlaces}
use Rattle.hll_tree.proofs.PrintedWithout.{same_without}

-- texts of things that are printed alike
all_alike : {X : Type 0} (f : X → Text) (u : X → X) → ((x : X) → f (u x) ≡ f x) → (xs : List X) → map f (map u xs) ≡ map f xs
all_alike f u each [] = refl
all_alike f u each (x ∷ xs) = ap (λ z. z ∷ map f (map u xs)) (each x) ∙ ap (λ zs. f x ∷ zs) (all_alike f u each xs)

alike : (e : Expr) → expression_text (expression_without e) ≡ expression_text e
alike e = ap (λ p. plainly p) (same_without e).0

dims_alike : (es : List Expr) → dims_text (map expression_without es) ≡ dims_text es
dims_alike [] = refl
dims_alike (e ∷ es) = ap (λ (ts : List Text). codes "[" ++ joined (codes ", ") ts ++ codes "]") (all_alike expression_text expression_without alike (e ∷ es))

size_alike : (e : Expr) → size_text (expression_without e) ≡ size_text e
size_alike e =
    ap (λ (bare : Bool). if bare then expression_text (expression_without e) else codes "(" ++ expression_text (expression_without e) ++ codes ")") (same_without e).1
    ∙ ap (λ (t : Text). if is_bare e then t else codes "(" ++ t ++ codes ")") (alike e)

type_alike : (t : TypeText) → type_text (type_without t) ≡ type_text t
type_alike ty.Bool = refl
type_alike (ty.Bounds a b) = λ i. codes "int [" ++ alike a i ++ codes ", " ++ alike b i ++ codes "]"
type_alike (ty.Signed e) = ap (λ (t : Text). codes "int signed " ++ t) (size_alike e)
type_alike (ty.Unsigned e) = ap (λ (t : Text). codes "int unsigned " ++ t) (size_alike e)
type_alike (ty.Named m) = refl

declarator_alike : (d : Declarator) → declarator_text (declarator_without d) ≡ declarator_text d
declarator_alike d = ap (λ (t : Text). name_text d.name.text ++ t) (dims_alike d.dims)

decl_alike : (d : Decl) → decl_text (decl_without d) ≡ decl_text d
decl_alike d = λ i. type_alike d.ty i ++ codes " " ++ joined (codes ", ") (all_alike declarator_text declarator_without declarator_alike d.names i)

constant_alike : (c : ConstItem) → constant_text (constant_without c) ≡ constant_text c
constant_alike c = ap (λ (t : Text). (if c.boolean then codes "bool " else codes "int ") ++ name_text c.name.text ++ codes " := " ++ t) (alike c.value)

field_alike : (f : Field) → field_text (field_without f) ≡ field_text f
field_alike f = λ i. name_text f.of.name.text ++ codes ": " ++ type_alike f.ty i ++ dims_alike f.of.dims i

names_alike : (names : List Name) → names_text (map name_without names) ≡ names_text names
names_alike names = ap (λ (ts : List Text). joined (codes ", ") ts) (all_alike (λ m. name_text m.text) name_without (λ m. refl) names)

type_item_alike : (t : TypeItem) → type_item_text (type_item_without t) ≡ type_item_text t
type_item_alike (item.Alias t d) = λ i. type_alike t i ++ codes " " ++ declarator_alike d i
type_item_alike (item.Enumeration names m) = ap (λ (t : Text). codes "enum {" ++ t ++ codes "} " ++ name_text m.text) (names_alike names)
type_item_alike (item.Structure fields m) = ap (λ (ts : List Text). codes "struct {" ++ joined (codes ", ") ts ++ codes "} " ++ name_text m.text) (all_alike field_text field_without field_alike fields)
type_item_alike (item.Leaves names m) = ap (λ (t : Text). codes "sort {" ++ t ++ codes "} " ++ name_text m.text) (names_alike names)
type_item_alike (item.Children names m) = ap (λ (t : Text). codes "sort " ++ t ++ codes " < " ++ name_text m.text) (names_alike names)

slot_alike : (s : Slot) → slot_text (slot_without s) ≡ slot_text s
slot_alike (slot.Index m) = refl
slot_alike (slot.Fixed at value) = refl

slots_alike : (ss : List Slot) → slots_text (map slot_without ss) ≡ slots_text ss
slots_alike [] = refl
slots_alike (s ∷ ss) = ap (λ (ts : List Text). codes "[" ++ joined (codes ", ") ts ++ codes "]") (all_alike slot_text slot_without slot_alike (s ∷ ss))

part_alike : (left : Text) (p : Part) → part_text left (part_without p) ≡ part_text left p
part_alike left (part.Value e) = ap (λ (t : Text). left ++ codes " := " ++ t) (alike e)
part_alike left (part.Both e f) = λ i. left ++ codes " := " ++ alike e i ++ codes ", " ++ alike f i
part_alike left (part.First e) = ap (λ (t : Text). codes "I(" ++ left ++ codes ") := " ++ t) (alike e)
part_alike left (part.Next e) = ap (λ (t : Text). codes "X(" ++ left ++ codes ") := " ++ t) (alike e)

definition_alike : (d : Def) → definition_text (definition_without d) ≡ definition_text d
definition_alike d =
    ap (λ (t : Text). part_text (name_text d.name.text ++ t) (part_without d.part)) (slots_alike d.indices) ∙ part_alike (left_side_text d) d.part

section_alike : (x : Section) → section_text (section_without x) ≡ section_text x
section_alike (section.Constants cs) = ap (λ (ts : List Text). codes "Constants:\n" ++ items_text ts) (all_alike constant_text constant_without constant_alike cs)
section_alike (section.Types ts) = ap (λ (us : List Text). codes "Types:\n" ++ items_text us) (all_alike type_item_text type_item_without type_item_alike ts)
section_alike (section.Inputs ds) = ap (λ (ts : List Text). codes "Inputs:\n" ++ items_text ts) (all_alike decl_text decl_without decl_alike ds)
section_alike (section.Declarations ds) = ap (λ (ts : List Text). codes "Declarations:\n" ++ items_text ts) (all_alike decl_text decl_without decl_alike ds)
section_alike (section.Definitions ds) = ap (λ (ts : List Text). codes "Definitions:\n" ++ items_text ts) (all_alike definition_text definition_without definition_alike ds)
section_alike (section.Constraints es) = ap (λ (ts : List Text). codes "Constraints:\n" ++ items_text ts) (all_alike expression_text expression_without alike es)
section_alike (section.Obligations es) = ap (λ (ts : List Text). codes "Proof Obligations:\n" ++ items_text ts) (all_alike expression_text expression_without alike es)

sections_alike : (xs : List Section) → flat_map section_text (map section_without xs) ≡ flat_map section_text xs
sections_alike [] = refl
sections_alike (x ∷ xs) = λ i. section_alike x i ++ sections_alike xs i

model_alike : (m : HllModel) → model_text (model_without m) ≡ model_text m
unfolding model_text
model_alike m = sections_alike m.sections

pub printed_alike : (m m' : HllModel) → SameButPlaces m m' → model_text m ≡ model_text m'
printed_alike m m' same = sym (model_alike m) ∙ ap model_text same ∙ model_alike m'
