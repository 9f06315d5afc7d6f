-- The first wrong line of a text that spells no trace, and what is wrong there.
use Rattle.std.specs.Prelude.{◌≡◌, ℕ, ◌+◌, ◌^◌, ◌<◌, ◌==◌, ℤ, unsigned_abs, List, [], ◌∷◌, ◌++◌, codes, decimal, length, Contains, Some, slice_get, MatchBool}
use Rattle.std.specs.List.{AllByRecursion}
use Rattle.hll_lexer.specs.Numbers.{is_digit}
use Rattle.hll_lexer.specs.Pieces.{IsQuoted, Stops}
use Rattle.hll_lexer.specs.Words.{begins_word, continues_word}
use Rattle.hll_tree.specs.declared.tree.HllModel.{HllModel}
use Rattle.hll_tree.specs.Printing.{Text}
use Rattle.hll_meaning.specs.Kinds.{Kind, truth, whole, element, array, struct, IsOf}
use Rattle.hll_meaning.specs.Names.{Names}
use Rattle.hll_meaning.specs.Declarations.{names}
use Rattle.hll_meaning.specs.Cells.{Cell, input_cells}
use Rattle.trace_text.specs.declared.fault.TraceFault.{TraceFault}
use Rattle.trace_text.specs.declared.fault.TraceFault.TheVariants as answer
use Rattle.trace_text.specs.declared.fault.TraceKind.{TraceKind}
use Rattle.trace_text.specs.declared.fault.TraceKind.TheVariants as wrong
use Rattle.trace_text.specs.Traces.{value_text, lines_text, AreValues, AreFew}

-- ---- what stands in a line

-- a word ends where these bytes follow: a plain name where no byte of a name does, one in quotes behind them, a number where no
-- digit does
abbrev pub Ends : Text → Text → Type 0
Ends [] after = ⊥
Ends (b ∷ bs) after = MatchBool (begins_word b) (Stops continues_word after) (MatchBool (b == 39) (IsQuoted (b ∷ bs)) (Stops (is_digit 10) after))

-- a value of a scalar kind, where it ends, and what follows
pub record HasValue (all : Names) (k : Kind) (bytes : Text) (x : ℤ) (after : Text) : Type 0 where
  pub value : IsOf k (x ∷ [])
  pub written : bytes ≡ value_text all k x ++ after
  pub ends : Ends (value_text all k x) after

-- a cell's name is due, and stands there with its value to come
abbrev pub IsDue : Cell → Text → Text → Type 0
IsDue c bytes after = bytes ≡ codes " " ++ c.name ++ codes "=" ++ after

-- the first cells stand there with these values, and these bytes follow
abbrev pub Stand : Names → List Cell → List ℤ → Text → Text → Type 0
Stand all cs [] bytes after = bytes ≡ after
Stand all [] (x ∷ xs) bytes after = ⊥
Stand all (c ∷ cs) (x ∷ xs) bytes after = (value : Text) × (rest : Text) × IsDue c bytes value × HasValue all c.kind value x rest × Stand all cs xs rest after

-- ---- what is wrong with a line

-- the line of an instant is right up to here: its number, and the first cells with their values
pub record IsRightUpTo (m : HllModel) (t : ℕ) (line : Text) (xs : List ℤ) (after : Text) : Type 0 where
  pub few : AreFew m (t + 1)
  pub cells : Text
  pub begins : line ≡ decimal t ++ codes ":" ++ cells
  pub stand : Stand (names m) (input_cells m) xs cells after

-- nothing begins so
abbrev pub Never : (Text → Type 0) → Type 0
Never P = (after : Text) → P after → ⊥

-- the next cell isn't there
pub record LacksCell (m : HllModel) (t : ℕ) (line : Text) : Type 0 where
  pub xs : List ℤ
  pub after : Text
  pub right : IsRightUpTo m t line xs after
  pub next : Cell
  pub is_next : slice_get (input_cells m) (length xs) ≡ Some next
  pub missing : Never (IsDue next after)

-- the next cell is there, without a value of its kind
pub record LacksValue (m : HllModel) (t : ℕ) (line : Text) : Type 0 where
  pub xs : List ℤ
  pub after : Text
  pub right : IsRightUpTo m t line xs after
  pub next : Cell
  pub is_next : slice_get (input_cells m) (length xs) ≡ Some next
  pub bytes : Text
  pub due : IsDue next after bytes
  pub missing : (x : ℤ) → Never (HasValue (names m) next.kind bytes x)

-- all cells are there, without a line feed behind them
pub record LacksEnd (m : HllModel) (t : ℕ) (line : Text) : Type 0 where
  pub xs : List ℤ
  pub after : Text
  pub right : IsRightUpTo m t line xs after
  pub all_there : length xs ≡ length (input_cells m)
  pub missing : Never (λ more. after ≡ codes "\n" ++ more)

-- what is wrong with the line of an instant, the first from the left
abbrev pub IsWrong : HllModel → ℕ → Text → TraceKind → Type 0
IsWrong m t line wrong.Long = AreFew m (t + 1) → ⊥
IsWrong m t line wrong.Instant = AreFew m (t + 1) × Never (λ more. line ≡ decimal t ++ codes ":" ++ more)
IsWrong m t line wrong.Cell = LacksCell m t line
IsWrong m t line wrong.Value = LacksValue m t line
IsWrong m t line wrong.Ending = LacksEnd m t line

-- the lines before it are right, and this line is wrong: its number is one more than its instant
pub record IsFaultAt (m : HllModel) (text : Text) (number : ℕ) (kind : TraceKind) : Type 0 where
  pub rows : List (List ℤ)
  pub before : AllByRecursion (AreValues (input_cells m)) rows
  pub few : AreFew m (length rows)
  pub line : Text
  pub whole : text ≡ lines_text (names m) (input_cells m) 0 rows ++ line
  pub some : line ≡ [] → ⊥
  pub is_wrong : IsWrong m (length rows) line kind
  pub counted : number ≡ length rows + 1

-- the fault that is answered is there; want of memory is free
abbrev pub IsFaultOf : HllModel → Text → TraceFault → Type 0
IsFaultOf m text (answer.Fault number kind) = IsFaultAt m text number kind
IsFaultOf m text answer.Memory = Unit {0}

-- ---- texts whose traces are read in one way

-- a number of a scalar kind that is written with digits has at most 64 binary ones
abbrev pub IsShortIn : Kind → ℤ → Type 0
IsShortIn truth x = Unit {0}
IsShortIn (whole e) x = unsigned_abs x < 2 ^ 64
IsShortIn (element root e) x = Unit {0}
IsShortIn (array n k) x = Unit {0}
IsShortIn (struct n fields) x = Unit {0}

-- each value of an input cell can be read again: it is a word, so that each element has a name of its own that is plain or may stand
-- between quotes, and no number is too long
pub record IsReadable (m : HllModel) : Type 0 where
  pub words : (c : Cell) (x : ℤ) → Contains (input_cells m) c → IsOf c.kind (x ∷ []) → Ends (value_text (names m) c.kind x) []
  pub short : (c : Cell) (x : ℤ) → Contains (input_cells m) c → IsOf c.kind (x ∷ []) → IsShortIn c.kind x
