-- The cells of types and of variables, part by part, and how many they are.
use Rattle.std.proofs.Common.{◌≡◌, ℕ, ◌+◌, ◌*◌, ◌-◌, ◌^◌, min, Bool, true, false, List, [], ◌∷◌, ◌++◌, map, length, refl, sym, ap, ◌∙◌, if◌then◌else◌}
use Rattle.std.specs.Prelude.{codes, decimal}
use Rattle.std.specs.List.{flat_map, list_any, range_with_len}
use Rattle.std.proofs.lemmas.List.{append-nil, length-append, map-append}
use Rattle.std.proofs.lemmas.Grind.{flat_map-append}
use Rattle.hll_tree.specs.declared.tree.Def.{Def}
use Rattle.hll_tree.specs.declared.tree.HllModel.{HllModel}
use Rattle.hll_tree.specs.Printing.{Text, name_text}
use Rattle.hll_meaning.specs.declared.ty.FieldTy.{FieldTy}
use Rattle.hll_meaning.specs.Kinds.{Kind, truth, whole, element, array, struct, Fields, none, field, cells, ranges, field_ranges}
use Rattle.hll_meaning.specs.Names.{constant, type_of, code_in, variable, later, Names}
use Rattle.hll_meaning.specs.Types.{kind_of}
use Rattle.hll_meaning.specs.Declarations.{names}
use Rattle.hll_meaning.specs.Runs.{definitions, variables_among}
use Rattle.hll_meaning.specs.StaticRules.{definitions_of, part_kind}
use Rattle.hll_meaning.specs.Cells.{Cell, named_cells, field_cells, cells_of_all, text_cells, input_kind, input_cells}
use Rattle.hll_types.specs.declared.variables.Role.{Role}
use Rattle.hll_types.specs.declared.variables.Role.TheVariants as role
use Rattle.hll_types.specs.declared.variables.Variable.{Variable}
use Rattle.hll_types.specs.declared.measure.Measure.{Measure}
use Rattle.hll_types.specs.Measures.{capped, field_kinds_of, fields_measure, kind_measure}
use Rattle.hll_types.specs.Checked.{is_memory, role_by, roles_among, AreVariables}
use Rattle.hll_types.proofs.Measuring.{measure-array, measure_further, sum_within}
use Rattle.cell_columns.specs.Columns.{all_columns}
use Rattle.trace_text.specs.Parts.{cells_by_role, own_cells}

-- ---- variables

-- a variable with its kind
abbrev pub kind_pair : Variable → List ℕ × Kind
kind_pair v = (v.name, kind_of v.ty)

abbrev inputs_among : Names → List (List ℕ × Kind)
inputs_among = flat_map (λ x. flat_map (λ k. (x.0, k) ∷ []) (input_kind x.1))

no_input : (b : Bool) (r : Role) (cs : List Cell) → r ≡ (if b then role.Memory else role.Value) → cells_by_role r cs ≡ []
no_input true r cs h = ap (λ (q : Role). cells_by_role q cs) h
no_input false r cs h = ap (λ (q : Role). cells_by_role q cs) h

cons_parts : {A : Type 0} (x y : A) (xs ys : List A) → x ∷ xs ≡ y ∷ ys → (x ≡ y) × (xs ≡ ys)
cons_parts x y xs ys h = (cc h, cc h)

inputs_by_role : (defs : List Def) (all : Names) (vs : List Variable) → map kind_pair vs ≡ variables_among all → map {B = List ℕ × Role} (λ v. (v.name, v.role)) vs ≡ roles_among defs all → cells_of_all (inputs_among all) ≡ flat_map own_cells vs
inputs_by_role defs [] [] p q = refl
inputs_by_role defs [] (v ∷ vs) p q = absurd (cc p)
inputs_by_role defs ((n, constant b x) ∷ all) vs p q = inputs_by_role defs all vs p q
inputs_by_role defs ((n, type_of k) ∷ all) vs p q = inputs_by_role defs all vs p q
inputs_by_role defs ((n, code_in root c) ∷ all) vs p q = inputs_by_role defs all vs p q
inputs_by_role defs ((n, later) ∷ all) vs p q = inputs_by_role defs all vs p q
inputs_by_role defs ((n, variable true k) ∷ all) [] p q = absurd (cc p)
inputs_by_role defs ((n, variable false k) ∷ all) [] p q = absurd (cc p)
inputs_by_role defs ((n, variable true k) ∷ all) (v ∷ vs) p q =
    let kinds = cons_parts (kind_pair v) (n, k) (map kind_pair vs) (variables_among all) p in
    let roles = cons_parts {A = List ℕ × Role} (v.name, v.role) (n, role.Input) (map {B = List ℕ × Role} (λ v. (v.name, v.role)) vs) (roles_among defs all) q in
    (λ i. cells_by_role ((sym roles.0 i).1) (named_cells (name_text ((sym kinds.0 i).0)) ((sym kinds.0 i).1)) ++ inputs_by_role defs all vs kinds.1 roles.1 i)
inputs_by_role defs ((n, variable false k) ∷ all) (v ∷ vs) p q =
    let kinds = cons_parts (kind_pair v) (n, k) (map kind_pair vs) (variables_among all) p in
    let roles = cons_parts {A = List ℕ × Role} (v.name, v.role) (n, role_by (definitions_of defs n) false) (map {B = List ℕ × Role} (λ v. (v.name, v.role)) vs) (roles_among defs all) q in
    let nothing = no_input (list_any (λ d. is_memory (part_kind d.part)) (definitions_of defs n)) v.role (named_cells (name_text v.name) (kind_of v.ty)) (ap (λ (x : List ℕ × Role). x.1) roles.0) in
    (λ i. sym nothing i ++ inputs_by_role defs all vs kinds.1 roles.1 i)

-- the cells of the inputs of a text
pub input_cells_are : (m : HllModel) (vs : List Variable) → AreVariables m vs → flat_map own_cells vs ≡ input_cells m
input_cells_are m vs h = sym (inputs_by_role (definitions m) (names m) vs h.kinds h.roles)

-- the cells of one variable more
pub own_more : (vs : List Variable) (v : Variable) → flat_map own_cells (vs ++ v ∷ []) ≡ flat_map own_cells vs ++ own_cells v
own_more vs v = flat_map-append own_cells vs (v ∷ []) ∙ ap (λ cs. flat_map own_cells vs ++ cs) (append-nil (own_cells v))

-- the cells of all variables of a text
pub text_cells_are : (m : HllModel) (vs : List Variable) → AreVariables m vs → flat_map all_columns vs ≡ text_cells m
text_cells_are m vs h = pairs vs ∙ ap cells_of_all h.kinds
  where
    pairs : (vs : List Variable) → flat_map all_columns vs ≡ cells_of_all (map kind_pair vs)
    pairs [] = refl
    pairs (v ∷ vs) = ap (λ cs. all_columns v ++ cs) (pairs vs)

-- the same with one variable more
pub all_more : (vs : List Variable) (v : Variable) → flat_map all_columns (vs ++ v ∷ []) ≡ flat_map all_columns vs ++ all_columns v
all_more vs v = flat_map-append all_columns vs (v ∷ []) ∙ ap (λ cs. flat_map all_columns vs ++ cs) (append-nil (all_columns v))

-- ---- how many they are

-- the cells of an array, held
pub array_held : (size : ℕ) (k : Kind) (a : ℕ) → a ≡ capped (cells k) → min (a * size) (2 ^ 64 - 1) ≡ capped (cells (array size k))
array_held size k a p =
    ap (λ (n : ℕ). min (n * size) (2 ^ 64 - 1)) p ∙ ap (λ (m : Measure). m.cells) (measure-array size k (kind_measure k) refl)

-- the cells of fields
abbrev pub fields_count : List FieldTy → ℕ
fields_count fields = length (field_ranges (field_kinds_of fields))

-- one field more, held
pub fields_held : (fields : List FieldTy) (f : FieldTy) (a b : ℕ) → a ≡ capped (fields_count fields) → b ≡ capped (cells (kind_of f.ty)) → min (a + b) (2 ^ 64 - 1) ≡ capped (fields_count (fields ++ f ∷ []))
fields_held fields f a b p q =
    (λ i. min (p i + q i) (2 ^ 64 - 1)) ∙ ap (λ (m : Measure). m.cells) (measure_further fields f (fields_measure (field_kinds_of fields)) (kind_measure (kind_of f.ty)) refl refl)

length_flat : {A B C : Type 0} (f : A → List B) (g : A → List C) → ((x : A) → length (f x) ≡ length (g x)) → (xs : List A) → length (flat_map f xs) ≡ length (flat_map g xs)
length_flat f g same [] = refl
length_flat f g same (x ∷ xs) = length-append (f x) (flat_map f xs) ∙ (λ i. same x i + length_flat f g same xs i) ∙ sym (length-append (g x) (flat_map g xs))

mutual
  -- a value has as many named cells as it has cells
  pub length-named : (name : Text) (k : Kind) → length (named_cells name k) ≡ cells k
  length-named name truth = refl
  length-named name (whole e) = refl
  length-named name (element root e) = refl
  length-named name (array size k) =
      length_flat (λ (i : ℕ). named_cells (name ++ codes "[" ++ decimal i ++ codes "]") k) (λ (i : ℕ). ranges k) (λ i. length-named (name ++ codes "[" ++ decimal i ++ codes "]") k) (range_with_len 0 size)
  length-named name (struct s fields) = length-fields name fields

  length-fields : (name : Text) (fields : Fields) → length (field_cells name fields) ≡ length (field_ranges fields)
  length-fields name none = refl
  length-fields name (field f k fields) =
      length-append (named_cells (name ++ codes "." ++ name_text f) k) (field_cells name fields)
      ∙ (λ i. length-named (name ++ codes "." ++ name_text f) k i + length-fields name fields i)
      ∙ sym (length-append (ranges k) (field_ranges fields))

-- the cells of some variables
abbrev pub count_of : List Variable → ℕ
count_of vs = length (cells_of_all (map kind_pair vs))

-- one variable more
pub count_more : (vs : List Variable) (v : Variable) (a b : ℕ) → a ≡ capped (count_of vs) → b ≡ capped (cells (kind_of v.ty)) → min (a + b) (2 ^ 64 - 1) ≡ capped (count_of (vs ++ v ∷ []))
count_more vs v a b p q =
    let one = λ (x : List ℕ × Kind). named_cells (name_text x.0) x.1 in
    let all = map-append kind_pair vs (v ∷ []) in
    let parts : cells_of_all (map kind_pair (vs ++ v ∷ [])) ≡ cells_of_all (map kind_pair vs) ++ one (kind_pair v) =
    ap cells_of_all all ∙ flat_map-append one (map kind_pair vs) (kind_pair v ∷ []) ∙ ap (λ cs. cells_of_all (map kind_pair vs) ++ cs) (append-nil (one (kind_pair v))) in
    let count : count_of (vs ++ v ∷ []) ≡ count_of vs + cells (kind_of v.ty) =
    ap length parts ∙ length-append (cells_of_all (map kind_pair vs)) (one (kind_pair v)) ∙ ap (λ (n : ℕ). count_of vs + n) (length-named (name_text v.name) (kind_of v.ty)) in
    (λ i. min (p i + q i) (2 ^ 64 - 1)) ∙ sum_within (2 ^ 64 - 1) (count_of vs) (cells (kind_of v.ty)) ∙ ap capped (sym count)

pub count_all : (m : HllModel) (vs : List Variable) → AreVariables m vs → count_of vs ≡ length (text_cells m)
count_all m vs h = ap (λ xs. length (cells_of_all xs)) h.kinds
