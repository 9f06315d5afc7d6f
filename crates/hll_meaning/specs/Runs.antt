-- The runs of a text, and what it is for an obligation to hold or to break.
use Rattle.std.specs.Prelude.{◌≡◌, ℕ, ◌+◌, ◌-◌, ◌*◌, ◌<◌, ◌≤◌, ℤ, pos, Bool, true, false, List, [], ◌∷◌, ◌++◌, length, map, Contains, Some, if◌then◌else◌}
use Rattle.std.specs.List.{AllByRecursion, flat_map, range_with_len, slice_index_or}
use Rattle.std.specs.Str.{bytes_eq}
use Rattle.hll_tree.specs.declared.tree.Def.{Def}
use Rattle.hll_tree.specs.declared.tree.Expr.{Expr}
use Rattle.hll_tree.specs.declared.tree.HllModel.{HllModel}
use Rattle.hll_tree.specs.declared.tree.Part.{Part}
use Rattle.hll_tree.specs.declared.tree.Part.TheVariants as part
use Rattle.hll_tree.specs.declared.tree.Section.{Section}
use Rattle.hll_tree.specs.declared.tree.Section.TheVariants as section
use Rattle.hll_tree.specs.declared.tree.Slot.{Slot}
use Rattle.hll_tree.specs.declared.tree.Slot.TheVariants as slot
use Rattle.hll_meaning.specs.Kinds.{Kind, truth, whole, element, array, struct, Value, cells, cells_from, place_in, IsOf, fit}
use Rattle.hll_meaning.specs.Names.{Thing, constant, type_of, code_in, variable, later, Names, under}
use Rattle.hll_meaning.specs.Declarations.{names}
use Rattle.hll_meaning.specs.Values.{Instant, History, Scene, is_true, worth}

-- ---- what a text defines and asks

-- the definitions of a section
abbrev pub definitions_in : Section → List Def
definitions_in (section.Constants items) = []
definitions_in (section.Types items) = []
definitions_in (section.Inputs decls) = []
definitions_in (section.Declarations decls) = []
definitions_in (section.Definitions defs) = defs
definitions_in (section.Constraints es) = []
definitions_in (section.Obligations es) = []

-- the definitions of a text, in text order
abbrev pub definitions : HllModel → List Def
definitions m = flat_map definitions_in m.sections

-- the constraints of a section
abbrev pub constraints_in : Section → List Expr
constraints_in (section.Constants items) = []
constraints_in (section.Types items) = []
constraints_in (section.Inputs decls) = []
constraints_in (section.Declarations decls) = []
constraints_in (section.Definitions defs) = []
constraints_in (section.Constraints es) = es
constraints_in (section.Obligations es) = []

-- the constraints of a text, in text order
abbrev pub constraints : HllModel → List Expr
constraints m = flat_map constraints_in m.sections

-- the obligations of a section
abbrev pub obligations_in : Section → List Expr
obligations_in (section.Constants items) = []
obligations_in (section.Types items) = []
obligations_in (section.Inputs decls) = []
obligations_in (section.Declarations decls) = []
obligations_in (section.Definitions defs) = []
obligations_in (section.Constraints es) = []
obligations_in (section.Obligations es) = es

-- the obligations of a text, in text order
abbrev pub obligations : HllModel → List Expr
obligations m = flat_map obligations_in m.sections

-- ---- what a definition defines

-- an element that a definition picks: the numbers of its index names, the innermost first, its first cell, and its kind
pub record Element : Type 0 where
  pub bound : List (List ℕ × ℤ)
  pub start : ℕ
  pub kind : Kind

-- the index name of a slot stands for a place of its dimension
abbrev pub bound_by : Slot → ℕ → List (List ℕ × ℤ)
bound_by (slot.Index n) place = (n.text, pos place) ∷ []
bound_by (slot.Fixed at value) place = []

-- the places of a dimension that a slot stands for: all of them, or one
abbrev pub places_of : Slot → ℕ → List ℕ
places_of (slot.Index n) size = range_with_len 0 size
places_of (slot.Fixed at value) size = place_in size value ∷ []

-- an element of a part that begins at a cell, seen from the whole
abbrev pub within : Slot → ℕ → ℕ → Element → Element
within s place start e = record { bound = e.bound ++ bound_by s place; start = start + e.start; kind = e.kind }

-- the elements that slots pick in a value of a kind, for every choice of the index names
abbrev pub picked : List Slot → Kind → List Element
picked [] k = record { bound = []; start = 0; kind = k } ∷ []
picked (s ∷ ss) truth = []
picked (s ∷ ss) (whole e) = []
picked (s ∷ ss) (element root e) = []
picked (s ∷ ss) (array size k) = flat_map (λ place. map (within s place (place * cells k)) (picked ss k)) (places_of s size)
picked (s ∷ ss) (struct n fields) = []

-- the value of an element of a variable's value
abbrev pub element_value : Element → Value → Value
element_value e v = cells_from e.start (cells e.kind) v

-- the kind of a thing that is a variable
abbrev pub variable_kind : Thing → List Kind
variable_kind (constant b x) = []
variable_kind (type_of k) = []
variable_kind (code_in root c) = []
variable_kind (variable input k) = k ∷ []
variable_kind later = []

-- the variables among names, with their kinds
abbrev pub variables_among : Names → List (List ℕ × Kind)
variables_among = flat_map (λ x. map (λ k. (x.0, k)) (variable_kind x.1))

-- the variables of a text with their kinds, in text order
abbrev pub variables : HllModel → List (List ℕ × Kind)
variables m = variables_among (names m)

-- ---- runs

-- where an expression of a text stands
abbrev pub scene : HllModel → History → ℕ → List (List ℕ × ℤ) → Scene
scene m h t bound = record { names = names m; history = h; time = t; bound = bound }

-- the value at a time of the variable of this name
abbrev pub value_under : List (List ℕ × Kind) → Instant → List ℕ → Value
value_under [] values sought = []
value_under (x ∷ xs) [] sought = []
value_under (x ∷ xs) (v ∷ vs) sought = if bytes_eq x.0 sought then v else value_under xs vs sought

-- what an element of the variable of this name has at a time
abbrev pub has_at : HllModel → History → ℕ → List ℕ → Element → Value
has_at m h t name e = element_value e (value_under (variables m) (slice_index_or h t []) name)

-- what an expression gives to an element at a time
abbrev pub given_at : HllModel → History → ℕ → Element → Expr → Value
given_at m h t e expr = fit e.kind (worth expr (scene m h t e.bound))

-- at every time the element has what the expression gives it then
abbrev pub IsAlways : HllModel → History → List ℕ → Element → Expr → Type 0
IsAlways m h x e expr = (t : ℕ) → t < length h → has_at m h t x e ≡ given_at m h t e expr

-- at time 0 it has
abbrev pub IsFirst : HllModel → History → List ℕ → Element → Expr → Type 0
IsFirst m h x e expr = 0 < length h → has_at m h 0 x e ≡ given_at m h 0 e expr

-- at every time but 0 it has what the expression gave it at the time before
abbrev pub IsNext : HllModel → History → List ℕ → Element → Expr → Type 0
IsNext m h x e expr = (t : ℕ) → t + 1 < length h → has_at m h (t + 1) x e ≡ given_at m h t e expr

-- what a definition says of an element
abbrev pub Defines : HllModel → History → List ℕ → Element → Part → Type 0
Defines m h x e (part.Value expr) = IsAlways m h x e expr
Defines m h x e (part.Both first next) = IsFirst m h x e first × IsNext m h x e next
Defines m h x e (part.First first) = IsFirst m h x e first
Defines m h x e (part.Next next) = IsNext m h x e next

-- what a definition says of the elements that it picks in a variable of a kind
abbrev pub DefinesAll : HllModel → History → Def → Kind → Type 0
DefinesAll m h d k = AllByRecursion (λ e. Defines m h d.name.text e d.part) (picked d.indices k)

-- each variable has a value of its kind
abbrev pub AreOfKinds : List (List ℕ × Kind) → Instant → Type 0
AreOfKinds [] [] = Unit {0}
AreOfKinds [] (v ∷ vs) = ⊥
AreOfKinds (x ∷ xs) [] = ⊥
AreOfKinds (x ∷ xs) (v ∷ vs) = IsOf x.1 v × AreOfKinds xs vs

-- at every instant each variable has a value of its kind, and each definition holds of every element that it picks; inputs are free
pub record IsRun (m : HllModel) (h : History) : Type 0 where
  pub of_kinds : AllByRecursion (AreOfKinds (variables m)) h
  pub defined : (d : Def) (k : Kind) → Contains (definitions m) d → under d.name.text (variables m) ≡ Some k → DefinesAll m h d k

-- an expression of a text is true at a time
abbrev pub is_true_at : HllModel → History → ℕ → Expr → Bool
is_true_at m h t e = is_true (worth e (scene m h t []))

-- every constraint is true at every instant
abbrev pub Meets : HllModel → History → Type 0
Meets m h = (t : ℕ) → t < length h → AllByRecursion (λ c. is_true_at m h t c ≡ true) (constraints m)

-- the time of the last instant
abbrev pub last_time : History → ℕ
last_time h = length h - 1

-- true at the last instant of every run that meets the constraints throughout
abbrev pub Holds : HllModel → Expr → Type 0
Holds m p = (h : History) → 0 < length h → IsRun m h → Meets m h → is_true_at m h (last_time h) p ≡ true

-- a run that meets the constraints throughout, and has the obligation false at its last instant
pub record Breaks (m : HllModel) (p : Expr) (h : History) : Type 0 where
  pub some : 0 < length h
  pub run : IsRun m h
  pub meets : Meets m h
  pub broken : is_true_at m h (last_time h) p ≡ false

-- no run that breaks the obligation has fewer instants
pub record IsShortest (m : HllModel) (p : Expr) (h : History) : Type 0 where
  pub breaks : Breaks m p h
  pub least : (other : History) → Breaks m p other → length h ≤ length other
