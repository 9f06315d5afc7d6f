-- Words for the contracts of private parts: the cells of inputs, and what is read at the front of some bytes.
use Rattle.std.specs.Prelude.{◌≡◌, ℕ, ◌+◌, ◌-◌, ◌^◌, ◌<◌, ◌*◌, ◌==◌, ℤ, unsigned_abs, Bool, true, false, not, fold, List, [], ◌∷◌, ◌++◌, decimal, length, Some, slice_get}
use Rattle.std.specs.Fmt.{signed_decimal}
use Rattle.hll_lexer.specs.Numbers.{is_digit}
use Rattle.hll_lexer.specs.Pieces.{Stops}
use Rattle.hll_tree.specs.declared.tree.HllModel.{HllModel}
use Rattle.hll_tree.specs.Printing.{Text, name_text}
use Rattle.hll_meaning.specs.Names.{Names}
use Rattle.hll_meaning.specs.Types.{kind_of}
use Rattle.hll_meaning.specs.Declarations.{names}
use Rattle.hll_meaning.specs.Cells.{Cell, input_cells, named_cells}
use Rattle.hll_types.specs.declared.variables.Role.{Role}
use Rattle.hll_types.specs.declared.variables.Role.TheVariants as role
use Rattle.hll_types.specs.declared.variables.Variable.{Variable}
use Rattle.trace_text.specs.declared.fault.TraceFault.{TraceFault}
use Rattle.trace_text.specs.declared.fault.TraceFault.TheVariants as answer
use Rattle.trace_text.specs.declared.fault.TraceKind.{TraceKind}
use Rattle.trace_text.specs.declared.fault.TraceKind.TheVariants as wrong
use Rattle.trace_text.specs.declared.fault.Unread.{Unread}
use Rattle.trace_text.specs.declared.fault.Unread.TheVariants as unread
use Rattle.trace_text.specs.Traces.{line_text, lines_text, AreValues, AreFew, IsTrace}
use Rattle.trace_text.specs.Faults.{Ends, HasValue, IsDue, IsWrong, Never, Stand}

-- ---- inputs

-- the cells of a variable of this role, where it is an input
abbrev pub cells_by_role : Role → List Cell → List Cell
cells_by_role role.Input cs = cs
cells_by_role role.Value cs = []
cells_by_role role.Memory cs = []

-- the cells of a variable that is an input
abbrev pub own_cells : Variable → List Cell
own_cells v = cells_by_role v.role (named_cells (name_text v.name) (kind_of v.ty))

-- ---- words

-- what decimal digits are worth
abbrev pub digits_value : Text → ℕ
digits_value = fold (λ n b. n * 10 + (b - 48)) 0

-- digits without a leading zero
abbrev pub is_numeral : Text → Bool
is_numeral [] = false
is_numeral (d ∷ []) = true
is_numeral (d ∷ e ∷ ds) = not (d == 48)

-- a whole number of at most 64 binary digits and a sign
abbrev pub IsShort : ℤ → Type 0
IsShort x = unsigned_abs x < 2 ^ 64

-- a number without a sign stands there, and these bytes follow
pub record StandsNumber (bytes : Text) (n : ℕ) (after : Text) : Type 0 where
  pub written : bytes ≡ decimal n ++ after
  pub ends : Stops (is_digit 10) after

-- a whole number stands there, and these bytes follow
pub record StandsWhole (bytes : Text) (x : ℤ) (after : Text) : Type 0 where
  pub written : bytes ≡ signed_decimal x ++ after
  pub ends : Stops (is_digit 10) after

-- a name stands there as it is printed, and these bytes follow
pub record StandsName (bytes : Text) (name : List ℕ) (after : Text) : Type 0 where
  pub written : bytes ≡ name_text name ++ after
  pub ends : Ends (name_text name) after

-- ---- cells and lines

-- a cell stands there with this value, and these bytes follow
pub record IsRead (all : Names) (c : Cell) (bytes : Text) (x : ℤ) (after : Text) : Type 0 where
  pub value : Text
  pub due : IsDue c bytes value
  pub has : HasValue all c.kind value x after

-- what is wrong with a cell: it isn't there, or has no value
abbrev pub IsWrongCell : Names → Cell → Text → TraceKind → Type 0
IsWrongCell all c bytes wrong.Long = ⊥
IsWrongCell all c bytes wrong.Instant = ⊥
IsWrongCell all c bytes wrong.Cell = Never (IsDue c bytes)
IsWrongCell all c bytes wrong.Value = (value : Text) × IsDue c bytes value × ((x : ℤ) → Never (HasValue all c.kind value x))
IsWrongCell all c bytes wrong.Ending = ⊥

-- the same of an answer
abbrev pub IsUnreadCell : Names → Cell → Text → Unread → Type 0
IsUnreadCell all c bytes unread.Memory = ⊥
IsUnreadCell all c bytes (unread.Wrong kind) = IsWrongCell all c bytes kind

-- all cells stand there with these values, and these bytes follow
pub record AreRead (all : Names) (cs : List Cell) (bytes : Text) (xs : List ℤ) (after : Text) : Type 0 where
  pub stand : Stand all cs xs bytes after
  pub count : length xs ≡ length cs

-- the first cells stand there, and the next one is wrong
pub record AreWrong (all : Names) (cs : List Cell) (bytes : Text) (kind : TraceKind) : Type 0 where
  pub xs : List ℤ
  pub after : Text
  pub stand : Stand all cs xs bytes after
  pub next : Cell
  pub is_next : slice_get cs (length xs) ≡ Some next
  pub is_wrong : IsWrongCell all next after kind

-- the same of an answer; want of memory is free
abbrev pub AreUnread : Names → List Cell → Text → Unread → Type 0
AreUnread all cs bytes unread.Memory = Unit {0}
AreUnread all cs bytes (unread.Wrong kind) = AreWrong all cs bytes kind

-- the line of an instant stands there with these values, and these bytes follow
pub record IsLine (m : HllModel) (t : ℕ) (bytes : Text) (xs : List ℤ) (after : Text) : Type 0 where
  pub few : AreFew m (t + 1)
  pub values : AreValues (input_cells m) xs
  pub written : bytes ≡ line_text (names m) (input_cells m) t xs ++ after

-- what is wrong with the line of an instant; want of memory is free
abbrev pub IsUnreadLine : HllModel → ℕ → Text → Unread → Type 0
IsUnreadLine m t bytes unread.Memory = Unit {0}
IsUnreadLine m t bytes (unread.Wrong kind) = IsWrong m t bytes kind

-- these rows stand in the lines at the front of a text, and these bytes follow
pub record AreLines (m : HllModel) (text : Text) (rows : List (List ℤ)) (after : Text) : Type 0 where
  pub trace : IsTrace m rows
  pub written : text ≡ lines_text (names m) (input_cells m) 0 rows ++ after

-- the fault of the line of an instant
abbrev pub fault_in : ℕ → Unread → TraceFault
fault_in t (unread.Wrong kind) = answer.Fault (t + 1) kind
fault_in t unread.Memory = answer.Memory
