-- What the names of a text stand for.
use Rattle.std.specs.Prelude.{ℕ, ℤ, Bool, List, Option, option_map, find}
use Rattle.std.specs.Str.{bytes_eq}
use Rattle.hll_meaning.specs.Kinds.{Kind}

-- what a name stands for: a constant, which is a truth value or not, with its number; a type; an element, by its root and its
-- code there; a variable, which is an input or not; or a variable or an element that stands further on
pub data Thing : Type 0 where
  constant : Bool → ℤ → Thing
  type_of : Kind → Thing
  code_in : List ℕ → ℕ → Thing
  variable : Bool → Kind → Thing
  later : Thing

-- names with what they stand for, in the order of the text
abbrev pub Names : Type 0
Names = List (List ℕ × Thing)

-- what stands under a name
abbrev pub under : {A : Type 0} → List ℕ → List (List ℕ × A) → Option A
under name xs = option_map (λ x. x.1) (find (λ x. bytes_eq x.0 name) xs)
