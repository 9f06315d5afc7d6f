-- Kinds of values: what cells a value has, and which numbers each of them may hold.
use Rattle.std.specs.Prelude.{◌≡◌, ℕ, ◌+◌, ◌*◌, max, nat_lt, ℤ, pos, negsuc, int_le, Bool, true, ◌&&◌, List, [], ◌∷◌, ◌++◌, length, take, drop, Option, Some, None, option_and_then, if◌then◌else◌}
use Rattle.std.specs.List.{flat_map, range_with_len}
use Rattle.std.specs.Str.{bytes_eq}
use Rattle.intervals.specs.Ends.{Ends}

-- the kinds: a truth value, a whole number, an element of an enumeration or a sort by the name of its root and codes there, so
-- many values of one kind, and the fields of a struct in their order
mutual
  pub data Kind : Type 0 where
    truth : Kind
    whole : Ends → Kind
    element : List ℕ → Ends → Kind
    array : ℕ → Kind → Kind
    struct : List ℕ → Fields → Kind

  pub data Fields : Type 0 where
    none : Fields
    field : List ℕ → Kind → Fields → Fields

-- the numbers of truth values
abbrev pub truths : Ends
truths = record { lo = pos 0; hi = pos 1 }

-- whether a number lies between ends
abbrev pub is_in : Ends → ℤ → Bool
is_in e x = int_le e.lo x && int_le x e.hi

-- ---- cells

-- so many times the same list, one after the other
abbrev pub repeated : {A : Type 0} → ℕ → List A → List A
repeated n xs = flat_map (λ k. xs) (range_with_len 0 n)

-- the ends of a kind's cells in their order: of an array by its elements, of a struct by its fields
abbrev mutual
  pub ranges : Kind → List Ends
  ranges truth = truths ∷ []
  ranges (whole e) = e ∷ []
  ranges (element root e) = e ∷ []
  ranges (array n k) = repeated n (ranges k)
  ranges (struct name fields) = field_ranges fields

  pub field_ranges : Fields → List Ends
  field_ranges none = []
  field_ranges (field name k fields) = ranges k ++ field_ranges fields

-- how many cells a value of a kind has
abbrev pub cells : Kind → ℕ
cells k = length (ranges k)

-- how deep arrays and structs stand in one another
abbrev mutual
  pub levels : Kind → ℕ
  levels truth = 0
  levels (whole e) = 0
  levels (element root e) = 0
  levels (array n k) = 1 + levels k
  levels (struct name fields) = 1 + field_levels fields

  pub field_levels : Fields → ℕ
  field_levels none = 0
  field_levels (field name k fields) = max (levels k) (field_levels fields)

-- ---- values

-- a value: the numbers of its cells in their order; a truth value is 1 or 0, an element its code
abbrev pub Value : Type 0
Value = List ℤ

-- each number lies between its ends
abbrev pub AreIn : List Ends → Value → Type 0
AreIn [] [] = Unit {0}
AreIn [] (x ∷ xs) = ⊥
AreIn (e ∷ es) [] = ⊥
AreIn (e ∷ es) (x ∷ xs) = (is_in e x ≡ true) × AreIn es xs

-- the value is one of the kind
abbrev pub IsOf : Kind → Value → Type 0
IsOf k v = AreIn (ranges k) v

-- a number that lies between its ends stays; else the lower end stands for it
abbrev pub fit_one : Ends → ℤ → ℤ
fit_one e x = if is_in e x then x else e.lo

-- the same cell by cell
abbrev pub fit_all : List Ends → Value → Value
fit_all [] xs = []
fit_all (e ∷ es) [] = []
fit_all (e ∷ es) (x ∷ xs) = fit_one e x ∷ fit_all es xs

-- what a value becomes that is given to a variable of a kind
abbrev pub fit : Kind → Value → Value
fit k v = fit_all (ranges k) v

-- ---- parts of values

-- a value with its kind
pub record Typed : Type 0 where
  pub kind : Kind
  pub value : Value

-- a step into a value: by an index, or by the name of a field
pub data Step : Type 0 where
  index : ℤ → Step
  name : List ℕ → Step

-- the place of an index in a dimension: one that lies outside is 0
abbrev pub place_in : ℕ → ℤ → ℕ
place_in n (pos i) = if nat_lt i n then i else 0
place_in n (negsuc i) = 0

-- so many cells from a cell on
abbrev pub cells_from : ℕ → ℕ → Value → Value
cells_from start count v = take count (drop start v)

-- the field of this name, among fields whose cells stand one after the other
abbrev pub field_of : Fields → List ℕ → Value → Option Typed
field_of none sought v = None
field_of (field own k fields) sought v = if bytes_eq own sought then Some (record { kind = k; value = take (cells k) v }) else field_of fields sought (drop (cells k) v)

-- one step into a value
abbrev pub step_into : Kind → Value → Step → Option Typed
step_into truth v s = None
step_into (whole e) v s = None
step_into (element root e) v s = None
step_into (array n k) v (index i) = Some (record { kind = k; value = cells_from (place_in n i * cells k) (cells k) v })
step_into (array n k) v (name sought) = None
step_into (struct own fields) v (index i) = None
step_into (struct own fields) v (name sought) = field_of fields sought v

-- step by step into a value
abbrev pub steps_into : Option Typed → List Step → Option Typed
steps_into t [] = t
steps_into t (s ∷ ss) = steps_into (option_and_then (λ x. step_into x.kind x.value s) t) ss
