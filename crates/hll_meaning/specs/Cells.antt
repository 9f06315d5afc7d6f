-- The cells of a text's variables, in their order: what they are called, and which values they have.
use Rattle.std.specs.Prelude.{ℕ, true, false, List, [], ◌∷◌, ◌++◌, codes, decimal}
use Rattle.std.specs.List.{flat_map, range_with_len}
use Rattle.hll_tree.specs.declared.tree.HllModel.{HllModel}
use Rattle.hll_tree.specs.Printing.{Text, name_text}
use Rattle.hll_meaning.specs.Kinds.{Kind, truth, whole, element, array, struct, Fields, none, field}
use Rattle.hll_meaning.specs.Names.{Thing, constant, type_of, code_in, variable, later}
use Rattle.hll_meaning.specs.Declarations.{names}
use Rattle.hll_meaning.specs.Runs.{variables}

-- a cell: its name as it is printed, and its kind, which is scalar
pub record Cell : Type 0 where
  pub name : Text
  pub kind : Kind

-- the cells of a value of a kind that is called so: of an array by its elements, of a struct by its fields
abbrev mutual
  pub named_cells : Text → Kind → List Cell
  named_cells n truth = record { name = n; kind = truth } ∷ []
  named_cells n (whole e) = record { name = n; kind = whole e } ∷ []
  named_cells n (element root e) = record { name = n; kind = element root e } ∷ []
  named_cells n (array size k) = flat_map (λ i. named_cells (n ++ codes "[" ++ decimal i ++ codes "]") k) (range_with_len 0 size)
  named_cells n (struct s fields) = field_cells n fields

  pub field_cells : Text → Fields → List Cell
  field_cells n none = []
  field_cells n (field f k fields) = named_cells (n ++ codes "." ++ name_text f) k ++ field_cells n fields

-- the cells of variables, one variable after the other
abbrev pub cells_of_all : List (List ℕ × Kind) → List Cell
cells_of_all = flat_map (λ x. named_cells (name_text x.0) x.1)

-- the cells of all variables of a text
abbrev pub text_cells : HllModel → List Cell
text_cells m = cells_of_all (variables m)

-- the kind of a thing that is an input
abbrev pub input_kind : Thing → List Kind
input_kind (constant b x) = []
input_kind (type_of k) = []
input_kind (code_in root c) = []
input_kind (variable true k) = k ∷ []
input_kind (variable false k) = []
input_kind later = []

-- the inputs of a text with their kinds, in text order
abbrev pub inputs : HllModel → List (List ℕ × Kind)
inputs m = flat_map (λ x. flat_map (λ k. (x.0, k) ∷ []) (input_kind x.1)) (names m)

-- the cells of all inputs of a text
abbrev pub input_cells : HllModel → List Cell
input_cells m = cells_of_all (inputs m)
