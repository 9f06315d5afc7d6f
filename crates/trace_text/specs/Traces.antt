-- The text of a trace: one line for each instant, with the value of each input cell.
use Rattle.std.specs.Prelude.{◌≡◌, ℕ, ◌+◌, ◌*◌, ◌≤◌, ℤ, pos, Bool, false, ◌&&◌, List, [], ◌∷◌, ◌++◌, codes, decimal, length, map, find, option_map, unwrap_or, if◌then◌else◌}
use Rattle.std.specs.Fmt.{signed_decimal}
use Rattle.std.specs.List.{AllByRecursion}
use Rattle.std.specs.Ordering.{int_eq}
use Rattle.std.specs.Str.{bytes_eq}
use Rattle.std.specs.declared.alloc.Global.{Global}
use Rattle.std.specs.declared.vec.Vec.{Vec}
use Rattle.hll_tree.specs.declared.tree.HllModel.{HllModel}
use Rattle.hll_tree.specs.Printing.{Text, name_text}
use Rattle.hll_meaning.specs.Kinds.{Kind, truth, whole, element, array, struct, IsOf}
use Rattle.hll_meaning.specs.Names.{Thing, constant, type_of, code_in, variable, later, Names}
use Rattle.hll_meaning.specs.Declarations.{names}
use Rattle.hll_meaning.specs.Cells.{Cell, input_cells, text_cells}
use Rattle.trace_text.specs.declared.trace.Trace.{Trace}

-- ---- values

-- whether a thing is the element of a root with this code
abbrev pub has_code : List ℕ → ℤ → Thing → Bool
has_code root x (constant b y) = false
has_code root x (type_of k) = false
has_code root x (code_in own c) = bytes_eq own root && int_eq (pos c) x
has_code root x (variable input k) = false
has_code root x later = false

-- the name of the element of a root with a code
abbrev pub element_name : Names → List ℕ → ℤ → List ℕ
element_name all root x = unwrap_or (option_map (λ e. e.0) (find (λ e. has_code root x e.1) all)) []

-- a value of a scalar kind as it is written: a truth value, a number, or the name of an element
abbrev pub value_text : Names → Kind → ℤ → Text
value_text all truth x = if int_eq x (pos 0) then codes "false" else codes "true"
value_text all (whole e) x = signed_decimal x
value_text all (element root e) x = name_text (element_name all root x)
value_text all (array n k) x = []
value_text all (struct n fields) x = []

-- ---- lines

-- cells with their values, each behind a space
abbrev pub cells_text : Names → List Cell → List ℤ → Text
cells_text all [] xs = []
cells_text all (c ∷ cs) [] = []
cells_text all (c ∷ cs) (x ∷ xs) = codes " " ++ c.name ++ codes "=" ++ value_text all c.kind x ++ cells_text all cs xs

-- the line of an instant
abbrev pub line_text : Names → List Cell → ℕ → List ℤ → Text
line_text all cs t xs = decimal t ++ codes ":" ++ cells_text all cs xs ++ codes "\n"

-- the lines of instants from a time on
abbrev pub lines_text : Names → List Cell → ℕ → List (List ℤ) → Text
lines_text all cs t [] = []
lines_text all cs t (row ∷ rows) = line_text all cs t row ++ lines_text all cs (t + 1) rows

-- ---- traces

-- the numbers of rows
abbrev pub numbers_of : List (Vec ℤ Global) → List (List ℤ)
numbers_of = map (λ row. row.items)

-- the rows of a trace
abbrev pub rows_of : Trace → List (List ℤ)
rows_of trace = numbers_of trace.rows.items

-- each cell has a value of its kind
abbrev pub AreValues : List Cell → List ℤ → Type 0
AreValues [] [] = Unit {0}
AreValues [] (x ∷ xs) = ⊥
AreValues (c ∷ cs) [] = ⊥
AreValues (c ∷ cs) (x ∷ xs) = IsOf c.kind (x ∷ []) × AreValues cs xs

-- so many instants are few enough: at most 65,536, and at most 4,000,000 values of all cells of the text
pub record AreFew (m : HllModel) (count : ℕ) : Type 0 where
  pub instants : count ≤ 65536
  pub values : count * length (text_cells m) ≤ 4000000

-- rows of values of a text's input cells, one row for each instant
pub record IsTrace (m : HllModel) (rows : List (List ℤ)) : Type 0 where
  pub values : AllByRecursion (AreValues (input_cells m)) rows
  pub few : AreFew m (length rows)

-- the text of a trace
abbrev pub trace_text : HllModel → List (List ℤ) → Text
trace_text m rows = lines_text (names m) (input_cells m) 0 rows

-- bytes spell a trace
pub record Spells (m : HllModel) (text : Text) (rows : List (List ℤ)) : Type 0 where
  pub trace : IsTrace m rows
  pub text_is : text ≡ trace_text m rows
