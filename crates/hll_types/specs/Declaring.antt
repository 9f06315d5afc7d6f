-- What pass 1 has declared so far, as the definitions say it.
use Rattle.std.specs.Prelude.{◌≡◌, ℕ, ◌+◌, nat_lt, ℤ, pos, Bool, true, false, not, ◌||◌, List, [], ◌∷◌, ◌++◌, map, fold, None, Some, Result, MatchResult}
use Rattle.std.specs.Ordering.{int_eq}
use Rattle.std.specs.List.{flat_map}
use Rattle.std.specs.Str.{bytes_eq}
use Rattle.std.specs.declared.alloc.Global.{Global}
use Rattle.std.specs.declared.vec.Vec.{Vec}
use Rattle.indexmap.specs.IndexMap.{insert_entry}
use Rattle.intervals.specs.declared.interval.Interval.{Interval}
use Rattle.hll_tree.specs.declared.tree.ConstItem.{ConstItem}
use Rattle.hll_tree.specs.declared.tree.Declarator.{Declarator}
use Rattle.hll_tree.specs.declared.tree.Field.{Field}
use Rattle.hll_tree.specs.declared.tree.HllModel.{HllModel}
use Rattle.hll_tree.specs.declared.tree.Name.{Name}
use Rattle.hll_tree.specs.declared.tree.Section.{Section}
use Rattle.hll_meaning.specs.declared.fault.StaticKind.TheVariants as is
use Rattle.hll_meaning.specs.declared.ty.FieldTy.{FieldTy}
use Rattle.hll_meaning.specs.declared.ty.Ty.{Ty}
use Rattle.hll_meaning.specs.Kinds.{Kind, truth, whole, element, struct, cells}
use Rattle.hll_meaning.specs.Names.{Names, constant, type_of, code_in, variable}
use Rattle.hll_meaning.specs.Types.{ends, kind_of}
use Rattle.hll_meaning.specs.Values.{of_truth, number}
use Rattle.hll_meaning.specs.Judging.{Fault, fault_if, wants_truth, wants_whole, judged}
use Rattle.hll_meaning.specs.Declarations.{Item, items_in, is_among, with_dims, declared_kind, field_kinds, element_table, constant_number, names}
use Rattle.hll_meaning.specs.StaticRules.{Pass1, declaring, fresh, fresh_name, taken_by, written_faults, dims_faults, is_large, fields_faults, wants_constant, item_faults, pass1_item, pass1, pass1_faults, early_in, early, children_of}
use Rattle.hll_types.specs.declared.declare.Declared.{Declared}
use Rattle.hll_expressions.specs.declared.faults.StaticFault.{StaticFault}
use Rattle.hll_expressions.specs.declared.faults.StaticFault.TheVariants as answer
use Rattle.hll_expressions.specs.declared.given.Given.{Given}
use Rattle.hll_types.specs.declared.measure.Measure.{Measure}
use Rattle.hll_types.specs.declared.sorts.Sort.{Sort}
use Rattle.hll_expressions.specs.declared.things.Thing.{Thing}
use Rattle.hll_expressions.specs.declared.things.Things.{Things}
use Rattle.hll_expressions.specs.Answers.{IsFaultAt}
use Rattle.hll_expressions.specs.Described.{known, number_of}
use Rattle.hll_types.specs.Measures.{kind_measure, field_kinds_of}
use Rattle.hll_types.specs.Sorting.{codes_of_count}
use Rattle.hll_types.specs.Standing.{Stand, AreSorts}
use Rattle.hll_expressions.specs.Things.{declared_names, IsAdded}
use Rattle.hll_expressions.specs.Things.{names_of, said_of}

-- ---- items

-- nothing is declared
abbrev pub start : Pass1
start = record { names = []; types = []; cells = 0; faults = [] }

-- what is declared is what the definitions have so far, without faults
pub record IsAfter (d : Declared) (p : Pass1) (further : List (List ℕ)) : Type 0 where
  pub names : Stand d.names p.names further
  pub sorts : AreSorts d.sorts p.types (flat_map children_of p.types)
  pub known : (n : List ℕ) → is_among (map (λ x. x.0) (element_table p.types)) n ≡ true → is_among (map (λ x. x.0) p.names) n ≡ true
  pub cells : d.cells ≡ p.cells
  pub faultless : p.faults ≡ []

-- an item is declared, or there is its first fault
abbrev pub Declares : Declared → Declared → Item → Result Unit StaticFault → Type 0
Declares old new it result =
    (p : Pass1) (further : List (List ℕ)) → IsAfter old p further →
    MatchResult result (λ u. IsAfter new (pass1_item further p it) further) (IsFaultAt (item_faults (declaring p.names further) p it))

-- so are several, one after the other
abbrev pub AreDeclared : Declared → Declared → List Item → Result Unit StaticFault → Type 0
AreDeclared old new its result =
    (p : Pass1) (further : List (List ℕ)) → IsAfter old p further →
    MatchResult result (λ u. IsAfter new (fold (pass1_item further) p its) further) (IsFaultAt (fold (pass1_item further) p its).faults)

-- ---- parts of items

-- the value of a constant after these names, or its first fault
abbrev pub IsConstant : Names → List (List ℕ) → ConstItem → Result Thing StaticFault → Type 0
IsConstant names further k result =
    let j = judged k.value (declaring names further) in
    MatchResult result (λ t. (j.faults ++ wants_constant k.boolean j ≡ []) × (said_of t ≡ constant k.boolean (constant_number names k.value))) (IsFaultAt (j.faults ++ wants_constant k.boolean j))

-- the value of a constant that is a truth value, or the fault of one that isn't
abbrev pub IsTruthValue : Given → Result Thing StaticFault → Type 0
IsTruthValue g result =
    MatchResult result (λ t. ((known g).kind ≡ truth) × ((x : ℤ) × (number_of g ≡ Some x) × (said_of t ≡ constant true (number (of_truth (not (int_eq x (pos 0)))))))) (IsFaultAt (wants_truth (known g)))

-- the same of one that is a whole number
abbrev pub IsWholeNumber : Given → Result Thing StaticFault → Type 0
IsWholeNumber g result =
    MatchResult result (λ t. ((i : Interval) × ((known g).kind ≡ whole (ends i))) × ((x : ℤ) × (number_of g ≡ Some x) × (said_of t ≡ constant false x))) (IsFaultAt (wants_whole (known g)))

-- elements with the codes of their places, from a code on
abbrev pub with_codes : List ℕ → ℕ → List Name → Names
with_codes sort code [] = []
with_codes sort code (e ∷ es) = (e.text, code_in sort code) ∷ with_codes sort (code + 1) es

-- elements are declared with the codes of their places, or there is the first fault
abbrev pub AreElements : Declared → Declared → List Name → Name → Result Unit StaticFault → Type 0
AreElements old new es sort result =
    let before = declared_names old.names in
    MatchResult result
    (λ u. (fresh (taken_by before) es ≡ []) × IsAdded old.names new.names (before ++ with_codes sort.text 0 es) × (new.sorts ≡ old.sorts) × (new.cells ≡ old.cells))
    (IsFaultAt (fresh (taken_by before) es))

-- an enumeration or a sort of so many elements is declared, or its name isn't new
abbrev pub SortIsDeclared : Declared → Declared → Name → Bool → ℕ → Result Unit StaticFault → Type 0
SortIsDeclared old new n is_sort count result =
    let before = declared_names old.names in
    MatchResult result
    (λ u. (fresh_name (taken_by before) n ≡ []) × IsAdded old.names new.names (before ++ (n.text, type_of (element n.text (codes_of_count count))) ∷ [])
    × (new.sorts ≡ insert_entry bytes_eq old.sorts n.text (record { is_sort = is_sort; count = count; parent = None })) × (new.cells ≡ old.cells))
    (IsFaultAt (fresh_name (taken_by before) n))

-- the faults of one field, after others
abbrev pub field_faults : Names → List (List ℕ) → List (List ℕ) → Field → List Fault
field_faults names further seen f = fresh_name seen f.of.name ++ (written_faults (declaring names further) f.ty ++ dims_faults (declaring names further) f.of.dims)

-- a field has its kind, or there is its first fault
abbrev pub IsField : Names → List (List ℕ) → List (List ℕ) → List (List ℕ) → Field → Result Ty StaticFault → Type 0
IsField names further old new f result =
    MatchResult result
    (λ t. (field_faults names further old f ≡ []) × (new ≡ old ++ f.of.name.text ∷ []) × (kind_of t ≡ declared_kind names f.ty f.of))
    (IsFaultAt (field_faults names further old f))

-- fields have their measure together, and, where that isn't large, their kinds; or there is their first fault
abbrev pub AreFields : Names → List (List ℕ) → List Field → Result (List FieldTy × Measure) StaticFault → Type 0
AreFields names further fs result =
    MatchResult result
    (λ r. (fields_faults (declaring names further) [] fs ≡ []) × (r.1 ≡ kind_measure (struct [] (field_kinds names fs)))
    × (is_large (struct [] (field_kinds names fs)) ≡ false → field_kinds_of r.0 ≡ field_kinds names fs))
    (IsFaultAt (fields_faults (declaring names further) [] fs))

-- the faults of one variable of a declaration, after others of it and so many cells
abbrev pub variable_faults : Names → List (List ℕ) → List (List ℕ) → ℕ → Kind → Declarator → List Fault
variable_faults names further seen total each d =
    let k = with_dims names d.dims each in
    fresh_name (taken_by names) d.name ++ (fresh_name seen d.name ++ (dims_faults (declaring names further) d.dims ++ fault_if (is_large k || nat_lt 100000 (total + cells k)) is.Cells d.name.at))

-- a variable has its kind and cells, or there is its first fault
abbrev pub IsVariable : Names → List (List ℕ) → List (List ℕ) → List (List ℕ) → ℕ → Kind → Declarator → Result (Ty × ℕ) StaticFault → Type 0
IsVariable names further old new total each d result =
    let k = with_dims names d.dims each in
    MatchResult result
    (λ r. (variable_faults names further old total each d ≡ []) × (new ≡ old ++ d.name.text ∷ []) × (kind_of r.0 ≡ k) × (r.1 ≡ total + cells k))
    (IsFaultAt (variable_faults names further old total each d))

-- the faults of the variables of a declaration after these names, whose type without dimensions is a kind
abbrev pub variables_faults : Names → List (List ℕ) → List (List ℕ) → ℕ → Kind → List Declarator → List Fault
variables_faults names further taken total each [] = []
variables_faults names further taken total each (d ∷ ds) =
    let k = with_dims names d.dims each in
    fresh_name taken d.name ++ (dims_faults (declaring names further) d.dims ++
    (fault_if (is_large k || nat_lt 100000 (total + cells k)) is.Cells d.name.at ++
    variables_faults names further (d.name.text ∷ taken) (total + cells k) each ds))

-- variables have their kinds and cells, or there is the first fault
abbrev pub AreVariables : Names → List (List ℕ) → ℕ → Kind → List Declarator → Result (Vec Ty Global × ℕ) StaticFault → Type 0
AreVariables names further total each ds result =
    let faults = variables_faults names further (taken_by names) total each ds in
    MatchResult result
    (λ r. (faults ≡ []) × (map kind_of r.0.items ≡ map (λ d. with_dims names d.dims each) ds) × (r.1 ≡ fold (λ n d. n + cells (with_dims names d.dims each)) total ds))
    (IsFaultAt faults)

-- variables with their kinds, as they are declared
abbrev pub with_kinds : Bool → List Declarator → List Ty → Names
with_kinds input [] ts = []
with_kinds input (d ∷ ds) [] = []
with_kinds input (d ∷ ds) (t ∷ ts) = (d.name.text, variable input (kind_of t)) ∷ with_kinds input ds ts

-- variables whose names are new are declared with these kinds, or memory is wanting
abbrev pub AreAllDeclared : Declared → Declared → Bool → List Declarator → List Ty → Result Unit StaticFault → Type 0
AreAllDeclared old new input ds ts result =
    MatchResult result
    (λ u. (fresh (taken_by (declared_names old.names)) (map (λ d. d.name) ds) ≡ [] → IsAdded old.names new.names (declared_names old.names ++ with_kinds input ds ts)) × (new.sorts ≡ old.sorts) × (new.cells ≡ old.cells))
    (λ wrong. wrong ≡ answer.Memory)

-- ---- texts

-- the names of the variables and elements of a section
abbrev pub early_in_section : Section → List (List ℕ)
early_in_section s = flat_map early_in (items_in s)

-- names are noted that stand further on
abbrev pub AreExpected : Declared → Declared → List (List ℕ) → Result Unit StaticFault → Type 0
AreExpected old new more result =
    (further : List (List ℕ)) → IsAfter old start further → MatchResult result (λ u. IsAfter new start (further ++ more)) (λ wrong. wrong ≡ answer.Memory)

-- pass 1 over a text: it has declared all, or there is its first fault
abbrev pub IsPassed : HllModel → Result Declared StaticFault → Type 0
IsPassed m result = MatchResult result (λ d. IsAfter d (pass1 m) (early m)) (IsFaultAt (pass1_faults m))

-- names with the roots of their elements
abbrev pub IsSettled : Things → List (List ℕ × Sort) → Result Things StaticFault → Type 0
IsSettled old sorts result =
    (m : HllModel) → pass1_faults m ≡ [] → declared_names old ≡ (pass1 m).names → AreSorts sorts (pass1 m).types (flat_map children_of (pass1 m).types) →
    MatchResult result (λ t. (names_of t ≡ names m) × (declared_names t ≡ names m)) (λ wrong. wrong ≡ answer.Memory)
