-- Which line may stand after those before it, and the first wrong line of a text.
use Rattle.std.specs.Prelude.{◌≡◌, ◌==◌, ◌⊎◌, ℕ, zero, suc, ◌+◌, ◌-◌, ◌^◌, ◌<◌, Bool, true, false, not, ◌&&◌, nat_lt, List, [], ◌∷◌, ◌++◌, length, position, slice_get, All, Option, Some, None, is_some, Result, Ok, Err, if◌then◌else◌, codes}
use Rattle.lll_core.specs.Signals.{signal_of, nexts, signal_names}
use Rattle.lll_core.specs.declared.signal.Signal.{Signal}
use Rattle.lll_core.specs.declared.signal.Signal.TheVariants.{One, Input, Latch, Imp, Eqv}
use Rattle.lll_text.specs.declared.draft.Draft.{Draft}
use Rattle.lll_text.specs.declared.draft.Stage.{Stage}
use Rattle.lll_text.specs.declared.draft.Stage.TheVariants as stage
use Rattle.lll_text.specs.declared.draft.Entry.{Entry}
use Rattle.lll_text.specs.declared.draft.Entry.TheVariants as entry
use Rattle.lll_text.specs.declared.fault.LllFault.{LllFault}
use Rattle.lll_text.specs.declared.fault.LllFault.TheVariants as fault
use Rattle.lll_text.specs.declared.fault.LllKind.{LllKind}
use Rattle.lll_text.specs.declared.fault.LllKind.TheVariants as kind
use Rattle.lll_text.specs.declared.fault.Unread.{Unread}
use Rattle.lll_text.specs.declared.fault.Unread.TheVariants as unread
use Rattle.lll_text.specs.Fields.{◌>>=◌, after, due, line_end, or_else, literal_at, name_at, signal_line_at}

-- what a call answers, seen by view, is what this line says, unless memory ran out
abbrev pub FailsInLine : {Y : Type 0} → LllFault → Result Y LllFault → Type 0
FailsInLine fault.Memory read = Unit {0}
FailsInLine (fault.Fault line kind) read = read ≡ Err (fault.Fault line kind)

-- the same of an answer that may be right
abbrev pub GivesLine : {X Y : Type 0} → (X → Y) → Result X LllFault → Result Y LllFault → Type 0
GivesLine view (Ok x) read = read ≡ Ok (view x)
GivesLine view (Err e) read = FailsInLine e read

-- the fault of a line that isn't read
abbrev pub fault_in : ℕ → Unread → LllFault
fault_in line (unread.Wrong kind) = fault.Fault line kind
fault_in line unread.Memory = fault.Memory

-- what the lines so far say, and the text after them, or what is wrong with the line that stands here
abbrev pub LineReading : Type 0
LineReading = List ℕ → Result (Draft × List ℕ) LllKind

-- nothing is said yet
abbrev pub no_lines : Draft
no_lines = record { stage = stage.Header; signals = []; assume = 0; keep = 0; constraints = []; obligations = []; names = [] }

-- the first line
unfoldable pub header_line_at : Draft → LineReading
header_line_at draft text = do
  rest ← due kind.Word (codes "lll 1") text
  next ← line_end rest
  Ok (record draft { stage = stage.Signals }, next)

-- the line of one more signal
unfoldable pub next_signal_at : Draft → LineReading
next_signal_at draft text = do
  s ← signal_line_at (length draft.signals) (signal_names draft.signals) text
  Ok (record draft { signals = draft.signals ++ s.0 ∷ [] }, s.1)

-- a word, a literal that names a signal, and the line's end
unfoldable pub literal_line_at : List ℕ → ℕ → List ℕ → Result (ℕ × List ℕ) LllKind
literal_line_at word count text = do
  rest ← due kind.Word word text
  literal ← literal_at kind.Number count rest
  next ← line_end literal.1
  Ok (literal.0, next)

-- what is assumed
unfoldable pub assume_line_at : Draft → LineReading
assume_line_at draft text = do
  literal ← literal_line_at (codes "assume") (length draft.signals) text
  Ok (record draft { stage = stage.Keep; assume = literal.0 }, literal.1)

-- what is kept
unfoldable pub keep_line_at : Draft → LineReading
keep_line_at draft text = do
  literal ← literal_line_at (codes "keep") (length draft.signals) text
  Ok (record draft { stage = stage.Lists; keep = literal.0 }, literal.1)

-- the word of a line that stands here: constraints come before obligations, these before names, and `end` is last
unfoldable pub entry_at : List ℕ → Result (Entry × List ℕ) LllKind
entry_at text = or_else entry.Constraint (after (codes "constraint") text)
    (or_else entry.Obligation (after (codes "obligation") text) (or_else entry.Name (after (codes "name") text) (or_else entry.End (after (codes "end") text) (Err kind.Word))))

-- whether a list has no items
abbrev pub is_empty : {A : Type 0} → List A → Bool
is_empty [] = true
is_empty (x ∷ xs) = false

-- such a line may stand after those before it
abbrev pub may_stand : Draft → Entry → Bool
may_stand draft entry.Constraint = is_empty draft.obligations && is_empty draft.names
may_stand draft entry.Obligation = is_empty draft.names
may_stand draft entry.Name = true
may_stand draft entry.End = true

-- one constraint more
unfoldable pub constraint_at : Draft → LineReading
constraint_at draft text = do
  literal ← literal_at kind.Number (length draft.signals) text
  Ok (record draft { constraints = draft.constraints ++ literal.0 ∷ [] }, literal.1)

-- one obligation more
unfoldable pub obligation_at : Draft → LineReading
obligation_at draft text = do
  literal ← literal_at kind.Number (length draft.signals) text
  Ok (record draft { obligations = draft.obligations ++ literal.0 ∷ [] }, literal.1)

-- one name more for the reader
unfoldable pub naming_at : Draft → LineReading
naming_at draft text = do
  literal ← literal_at kind.Number (length draft.signals) text
  name ← name_at literal.1
  Ok (record draft { names = draft.names ++ record { name = name.0; literal = literal.0 } ∷ [] }, name.1)

-- what stands behind the word of a line
abbrev pub after_word : Draft → Entry → LineReading
after_word draft entry.Constraint text = constraint_at draft text
after_word draft entry.Obligation text = obligation_at draft text
after_word draft entry.Name text = naming_at draft text
after_word draft entry.End text = Ok (record draft { stage = stage.End }, text)

-- a line of the lists, or the last line
unfoldable pub list_line_at : Draft → LineReading
list_line_at draft text = do
  word ← entry_at text
  said ← if may_stand draft word.0 then after_word draft word.0 word.1 else Err kind.Word
  next ← line_end said.1
  Ok (said.0, next)

-- a latch whose next names none of so many signals
abbrev pub is_open : ℕ → Signal → Bool
is_open count (Latch name init next) = not (nat_lt (signal_of next) count)
is_open count One = false
is_open count (Input name) = false
is_open count (Imp a b) = false
is_open count (Eqv a b) = false

-- the first of them
abbrev pub first_open : List Signal → Option ℕ
first_open signals = position (is_open (length signals)) signals

-- what is wrong, in this line
abbrev pub in_line : {A : Type 0} → ℕ → Result A LllKind → Result A LllFault
in_line line (Ok x) = Ok x
in_line line (Err kind) = Err (fault.Fault line kind)

-- The signals end here. Now each next has to name one; signal k stands in line k + 2.
abbrev pub closing : ℕ → Option ℕ → Draft → List ℕ → Result (Draft × List ℕ) LllFault
closing line (Some k) draft text = Err (fault.Fault (k + 2) kind.Number)
closing line None draft text = in_line line (assume_line_at draft text)

-- the signals end here: there are some, and the line begins with `assume`
abbrev pub ends_signals : Draft → List ℕ → Bool
ends_signals draft text = not (is_empty draft.signals) && is_some (after (codes "assume") text)

-- the line after some signals: the line after the last, or that of one more
unfoldable pub signals_line_at : ℕ → Draft → List ℕ → Result (Draft × List ℕ) LllFault
signals_line_at line draft text =
    if ends_signals draft text then closing line (first_open draft.signals) draft text else in_line line (next_signal_at draft text)

-- a line that is there, by what is due
abbrev pub some_line_at : Stage → ℕ → Draft → List ℕ → Result (Draft × List ℕ) LllFault
some_line_at stage.Header line draft text = in_line line (header_line_at draft text)
some_line_at stage.Signals line draft text = signals_line_at line draft text
some_line_at stage.Keep line draft text = in_line line (keep_line_at draft text)
some_line_at stage.Lists line draft text = in_line line (list_line_at draft text)
some_line_at stage.End line draft text = Err (fault.Fault line kind.Ending)

-- where no line stands: nothing is due after the last one alone
abbrev pub no_line_at : Stage → ℕ → Draft → Result (Draft × List ℕ) LllFault
no_line_at stage.End line draft = Ok (draft, [])
no_line_at stage.Header line draft = Err (fault.Fault line kind.Ending)
no_line_at stage.Signals line draft = Err (fault.Fault line kind.Ending)
no_line_at stage.Keep line draft = Err (fault.Fault line kind.Ending)
no_line_at stage.Lists line draft = Err (fault.Fault line kind.Ending)

-- the line of this number, after what the lines before it say
unfoldable pub line_at : ℕ → Draft → List ℕ → Result (Draft × List ℕ) LllFault
line_at line draft [] = no_line_at draft.stage line draft
line_at line draft (b ∷ bs) = some_line_at draft.stage line draft (b ∷ bs)

-- what so many lines at the front of a text say, with the text after them, or the first of them that is wrong
unfoldable pub after_lines : ℕ → List ℕ → Result (Draft × List ℕ) LllFault
after_lines zero text = Ok (no_lines, text)
after_lines (suc k) text = after_lines k text >>= λ so_far. line_at (k + 1) so_far.0 so_far.1

-- the first wrong line of a text, and what is wrong there
abbrev pub IsFaultOf : List ℕ → ℕ → LllKind → Type 0
IsFaultOf text line kind = (k : ℕ) × (after_lines k text ≡ Err (fault.Fault line kind))

-- a fault that isn't want of memory is the text's
abbrev pub IsFaultIn : List ℕ → LllFault → Type 0
IsFaultIn text (fault.Fault line kind) = IsFaultOf text line kind
IsFaultIn text fault.Memory = Unit {0}

-- the lines of a text say this, and nothing follows the last
pub record IsReadAs (text : List ℕ) (draft : Draft) : Type 0 where
  pub lines : ℕ
  pub reads : after_lines lines text ≡ Ok (draft, [])
  pub ended : draft.stage ≡ stage.End

-- how many line feeds these bytes have
unfoldable pub line_feeds : List ℕ → ℕ
line_feeds [] = 0
line_feeds (b ∷ bs) = if b == 10 then 1 + line_feeds bs else line_feeds bs

-- a text after its first so many lines, each up to its line feed
pub record FirstLines (lines : ℕ) (text rest : List ℕ) : Type 0 where
  pub front : List ℕ
  pub parts : text ≡ front ++ rest
  pub count : line_feeds front ≡ lines
  pub whole : (front ≡ []) ⊎ ((before : List ℕ) × (front ≡ before ++ codes "\n"))

-- the signal that a latch's next names may still come: there are at most 2 ^ 31 - 1 signals
abbrev pub NextsMayCome : List Signal → Type 0
NextsMayCome signals = (n : ℕ) (s : Signal) → slice_get signals n ≡ Some s → All (λ a. signal_of a < 2 ^ 31 - 1) (nexts s)
