-- Which kinds go together.
use Rattle.std.specs.Prelude.{ℕ, ◌==◌, ◌^◌, ◌-◌, pos, negsuc, int_lt, Bool, true, false, ◌&&◌, ◌||◌, List, [], ◌∷◌, map, length, if◌then◌else◌}
use Rattle.std.specs.List.{list_any}
use Rattle.std.specs.Str.{bytes_eq}
use Rattle.intervals.specs.Ends.{Ends}
use Rattle.intervals.specs.Rules.{hull}
use Rattle.hll_meaning.specs.Kinds.{Kind, truth, whole, element, array, struct, Fields, none, field, truths, repeated}

-- a truth value
abbrev pub is_truth : Kind → Bool
is_truth truth = true
is_truth (whole e) = false
is_truth (element root e) = false
is_truth (array n k) = false
is_truth (struct name fields) = false

-- a whole number
abbrev pub is_whole : Kind → Bool
is_whole truth = false
is_whole (whole e) = true
is_whole (element root e) = false
is_whole (array n k) = false
is_whole (struct name fields) = false

-- an element of this root
abbrev pub is_element_of : List ℕ → Kind → Bool
is_element_of root truth = false
is_element_of root (whole e) = false
is_element_of root (element other e) = bytes_eq root other
is_element_of root (array n k) = false
is_element_of root (struct name fields) = false

-- so many values of which each passes a test
abbrev pub is_array_of : ℕ → (Kind → Bool) → Kind → Bool
is_array_of n test truth = false
is_array_of n test (whole e) = false
is_array_of n test (element root e) = false
is_array_of n test (array m k) = n == m && test k
is_array_of n test (struct name fields) = false

-- the struct of this name
abbrev pub is_struct : List ℕ → Kind → Bool
is_struct name truth = false
is_struct name (whole e) = false
is_struct name (element root e) = false
is_struct name (array n k) = false
is_struct name (struct other fields) = bytes_eq name other

-- one cell: no array and no struct
abbrev pub is_scalar : Kind → Bool
is_scalar truth = true
is_scalar (whole e) = true
is_scalar (element root e) = true
is_scalar (array n k) = false
is_scalar (struct name fields) = false

-- What goes where another kind is wanted: a truth value, any whole number, an element of the root, an array of as many
-- elements each of which does, the same struct.
abbrev pub accepts : Kind → Kind → Bool
accepts truth given = is_truth given
accepts (whole e) given = is_whole given
accepts (element root e) given = is_element_of root given
accepts (array n k) given = is_array_of n (accepts k) given
accepts (struct name fields) given = is_struct name given

-- the numbers that a scalar may have
abbrev pub ends_of : Kind → Ends
ends_of truth = truths
ends_of (whole e) = e
ends_of (element root e) = e
ends_of (array n k) = truths
ends_of (struct name fields) = truths

-- whether numbers lie neither in 0 to 2^64 - 1 nor in -2^63 to 2^63 - 1
abbrev pub is_wide : Ends → Bool
is_wide e = (int_lt e.lo (pos 0) || int_lt (pos (2 ^ 64 - 1)) e.hi) && (int_lt e.lo (negsuc (2 ^ 63 - 1)) || int_lt (pos (2 ^ 63 - 1)) e.hi)

-- ---- parts

-- the kinds of fields
abbrev pub field_list : Fields → List Kind
field_list none = []
field_list (field name k fields) = k ∷ field_list fields

-- the kinds of the parts of an array or a struct
abbrev pub parts : Kind → List Kind
parts truth = []
parts (whole e) = []
parts (element root e) = []
parts (array n k) = repeated n (k ∷ [])
parts (struct name fields) = field_list fields

-- fields without names
abbrev pub unnamed : List Kind → Fields
unnamed [] = none
unnamed (k ∷ ks) = field [] k (unnamed ks)

-- what parts in braces make: a struct without a name
abbrev pub group_of : List Kind → Kind
group_of ks = struct [] (unnamed ks)

-- ---- joining

-- what two branches make together, and whether they are of different kinds, whether numbers of both are wide, and whether lists
-- have different lengths
pub record Joined : Type 0 where
  pub kind : Kind
  pub mismatched : Bool
  pub wide : Bool
  pub uneven : Bool

-- they go together
abbrev pub together : Kind → Joined
together k = record { kind = k; mismatched = false; wide = false; uneven = false }

-- they are of different kinds
abbrev pub apart : Kind → Joined
apart k = record { kind = k; mismatched = true; wide = false; uneven = false }

-- they have different lengths
abbrev pub of_lengths : Kind → Joined
of_lengths k = record { kind = k; mismatched = false; wide = false; uneven = true }

-- numbers of both are wide
abbrev pub too_wide : Kind → Joined
too_wide k = record { kind = k; mismatched = false; wide = true; uneven = false }

-- a truth value with another kind
abbrev pub with_truth : Kind → Joined
with_truth given = if is_truth given then together truth else apart truth

-- a whole number with another kind: the hull of both; where that is wide, the first one stands
abbrev pub with_whole : Ends → Kind → Joined
with_whole e truth = apart (whole e)
with_whole e (whole other) = if is_wide (hull e other) then too_wide (whole e) else together (whole (hull e other))
with_whole e (element root other) = apart (whole e)
with_whole e (array n k) = apart (whole e)
with_whole e (struct name fields) = apart (whole e)

-- an element with another kind: elements of one root
abbrev pub with_element : List ℕ → Ends → Kind → Joined
with_element root e truth = apart (element root e)
with_element root e (whole other) = apart (element root e)
with_element root e (element root' other) = if bytes_eq root root' then together (element root (hull e other)) else apart (element root e)
with_element root e (array n k) = apart (element root e)
with_element root e (struct name fields) = apart (element root e)

-- parts that were joined, as one list
abbrev pub gathered : List Joined → Joined
gathered js = record {
  kind = group_of (map (λ j. j.kind) js);
  mismatched = list_any (λ j. j.mismatched) js;
  wide = list_any (λ j. j.wide) js;
  uneven = list_any (λ j. j.uneven) js;
}

-- a list of so many parts with another kind, whose parts are joined one by one where it has as many
abbrev pub with_parts : Kind → ℕ → (List Kind → List Joined) → Kind → Joined
with_parts own count each given =
    if is_scalar given then apart own
    else (if length (parts given) == count then gathered (each (parts given)) else of_lengths own)

-- Branches of one `if` join: truth values, whole numbers to their hull, elements of one root to their hull, and lists, which are
-- arrays, structs and groups, part by part.
abbrev mutual
  pub join : Kind → Kind → Joined
  join truth given = with_truth given
  join (whole e) given = with_whole e given
  join (element root e) given = with_element root e given
  join (array n k) given = with_parts (array n k) n (map (join k)) given
  join (struct name fields) given = with_parts (struct name fields) (length (field_list fields)) (join_fields fields) given

  pub join_fields : Fields → List Kind → List Joined
  join_fields none ks = []
  join_fields (field name k fields) [] = []
  join_fields (field name k fields) (given ∷ ks) = join k given ∷ join_fields fields ks
