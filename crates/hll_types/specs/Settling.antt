-- Words for the contracts of private parts: sorts with their roots, and things with the roots of their elements.
use Rattle.std.specs.Prelude.{◌≡◌, ℕ, ◌+◌, ◌-◌, ◌<◌, nat_eq, pos, ◌+ℤ◌, List, [], ◌∷◌, map, position, slice_get, Option, Some, None, option_and_then, if◌then◌else◌}
use Rattle.std.specs.Option.{option_map_or}
use Rattle.std.specs.Str.{bytes_eq}
use Rattle.hll_meaning.specs.Kinds.{Kind, truth, whole, element, array, struct, Fields, none, field}
use Rattle.hll_meaning.specs.Names.{Thing, constant, type_of, code_in, variable, later, Names}
use Rattle.hll_types.specs.declared.settle.Rooted.{Rooted}
use Rattle.hll_types.specs.declared.sorts.Sort.{Sort}

-- ---- things

-- the name of each sort's root, and how many of the root's elements stand before its own
abbrev pub Roots : Type 0
Roots = List ℕ → List ℕ × ℕ

-- a kind with the roots of its elements
abbrev mutual
  pub kind_in : Roots → Kind → Kind
  kind_in r truth = truth
  kind_in r (whole e) = whole e
  kind_in r (element sort e) = element (r sort).0 (record { lo = e.lo +ℤ pos (r sort).1; hi = e.hi +ℤ pos (r sort).1 })
  kind_in r (array n k) = array n (kind_in r k)
  kind_in r (struct name fields) = struct name (fields_in r fields)

  pub fields_in : Roots → Fields → Fields
  fields_in r none = none
  fields_in r (field name k fields) = field name (kind_in r k) (fields_in r fields)

-- what a name stands for, with the roots of its elements
abbrev pub thing_in : Roots → Thing → Thing
thing_in r (constant b x) = constant b x
thing_in r (type_of k) = type_of (kind_in r k)
thing_in r (code_in sort c) = code_in (r sort).0 (c + (r sort).1)
thing_in r (variable input k) = variable input (kind_in r k)
thing_in r later = later

-- so all names
abbrev pub names_in : Roots → Names → Names
names_in r = map (λ x. (x.0, thing_in r x.1))

-- ---- roots

-- the name and the place that are found for a sort: a name that is no sort stays
abbrev pub root_at : List (List ℕ × Sort) → List ℕ → Option Rooted → List ℕ × ℕ
root_at sorts sort None = (sort, 0)
root_at sorts sort (Some r) = (option_map_or (λ e. e.0) (slice_get sorts r.root) sort, r.before)

-- the root of a sort, and how many elements stand before its own there
abbrev pub root_in : List (List ℕ × Sort) → List Rooted → Roots
root_in sorts roots sort = root_at sorts sort (option_and_then (slice_get roots) (position (bytes_eq sort) (map (λ e. e.0) sorts)))

-- the sort of this number and of so many elements stands in the root of its parent, which is one of those behind it
abbrev pub IsRootedBy : List Rooted → ℕ → ℕ → Option (ℕ × ℕ) → Rooted → Type 0
IsRootedBy behind number count None r = r ≡ record { root = number; before = 0 }
IsRootedBy behind number count (Some (parent, before)) r =
    number < parent → (above : Rooted) → slice_get behind (parent - number - 1) ≡ Some above →
    r ≡ record { root = above.root; before = if nat_eq count 0 then 0 else above.before + before }

-- so do all from this number on
abbrev pub AreRooted : ℕ → List (List ℕ × Sort) → List Rooted → Type 0
AreRooted number [] [] = Unit {0}
AreRooted number [] (r ∷ roots) = ⊥
AreRooted number (e ∷ sorts) [] = ⊥
AreRooted number (e ∷ sorts) (r ∷ roots) = IsRootedBy roots number e.1.count e.1.parent r × AreRooted (number + 1) sorts roots
