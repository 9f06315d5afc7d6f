-- The fields of a line, from left to right. A reading says what stands at the front of a text, and what
-- follows it, or what is wrong there.
use Rattle.std.specs.Prelude.{◌≡◌, ℕ, ◌+◌, ◌-◌, ◌*◌, ◌^◌, min, Bool, true, false, not, ◌&&◌, ◌==◌, nat_lt, nat_le, List, [], ◌∷◌, length, drop, Option, Some, None, Result, Ok, Err, if◌then◌else◌, codes}
use Rattle.std.specs.List.{list_all, list_any}
use Rattle.std.specs.Str.{bytes_eq}
use Rattle.lll_core.specs.Signals.{signal_of}
use Rattle.lll_core.specs.declared.signal.Signal.{Signal}
use Rattle.lll_core.specs.declared.signal.Signal.TheVariants.{One, Input, Latch, Imp, Eqv}
use Rattle.lll_text.specs.declared.fault.LllKind.{LllKind}
use Rattle.lll_text.specs.declared.fault.LllKind.TheVariants as kind
use Rattle.lll_text.specs.declared.fault.Unread.{Unread}
use Rattle.lll_text.specs.declared.fault.Unread.TheVariants as unread
use Rattle.lll_text.specs.declared.signal.Form.{Form}
use Rattle.lll_text.specs.declared.signal.Form.TheVariants as word

-- what stands at the front of a text with the text after it, or what is wrong there
abbrev pub Reading : Type 0 → Type 0
Reading A = List ℕ → Result (A × List ℕ) LllKind

-- the first of two steps, and the second of what it gave
infixl 10 ◌>>=◌
abbrev pub ◌>>=◌ : {A B F : Type 0} → Result A F → (A → Result B F) → Result B F
(Ok x) >>= f = f x
(Err e) >>= f = Err e

-- what a call answers, seen by view, is what stands there, unless memory ran out
abbrev pub Fails : {Y : Type 0} → Unread → Result Y LllKind → Type 0
Fails unread.Memory read = Unit {0}
Fails (unread.Wrong kind) read = read ≡ Err kind

-- the same of an answer that may be right
abbrev pub Gives : {X Y : Type 0} → (X → Y) → Result X Unread → Result Y LllKind → Type 0
Gives view (Ok x) read = read ≡ Ok (view x)
Gives view (Err e) read = Fails e read

-- ---- words

-- what follows these bytes, where the text begins with them
unfoldable pub after : List ℕ → List ℕ → Option (List ℕ)
after [] text = Some text
after (b ∷ bs) [] = None
after (b ∷ bs) (c ∷ cs) = if c == b then after bs cs else None

-- what follows bytes that are due here, or what is wrong where others stand
abbrev pub given : LllKind → Option (List ℕ) → Result (List ℕ) LllKind
given wrong (Some rest) = Ok rest
given wrong None = Err wrong

-- these bytes are due here
abbrev pub due : LllKind → List ℕ → List ℕ → Result (List ℕ) LllKind
due wrong bytes text = given wrong (after bytes text)

-- the line ends here
abbrev pub line_end : List ℕ → Result (List ℕ) LllKind
line_end text = due kind.Ending (codes "\n") text

-- the word that stands here, of those with which the line may go on
abbrev pub or_else : {A : Type 0} → A → Option (List ℕ) → Result (A × List ℕ) LllKind → Result (A × List ℕ) LllKind
or_else meaning (Some rest) others = Ok (meaning, rest)
or_else meaning None others = others

-- ---- numbers

-- a decimal digit
abbrev pub is_digit : ℕ → Bool
is_digit b = nat_le 48 b && nat_le b 57

-- the digits that stand here
unfoldable pub digits : List ℕ → List ℕ
digits [] = []
digits (b ∷ bs) = if is_digit b then b ∷ digits bs else []

-- the number that digits go on to, after those of n
unfoldable pub value_on : ℕ → List ℕ → ℕ
value_on n [] = n
value_on n (d ∷ ds) = value_on (10 * n + (d - 48)) ds

-- digits without a leading zero
abbrev pub is_numeral : List ℕ → Bool
is_numeral [] = false
is_numeral (d ∷ []) = true
is_numeral (d ∷ e ∷ ds) = not (d == 48)

-- Numbers from 2 ^ 32 - 1 on stand for one another: none of them names a signal.
abbrev pub held : ℕ → ℕ
held n = min n (2 ^ 32 - 1)

-- a number: all digits that stand here
unfoldable pub number_at : Reading ℕ
number_at text = if is_numeral (digits text) then Ok (held (value_on 0 (digits text)), drop (length (digits text)) text) else Err kind.Number

-- a space and a number
unfoldable pub number_field_at : Reading ℕ
number_field_at text = do
  rest ← due kind.Number (codes " ") text
  number_at rest

-- a space and a literal that names one of so many signals
unfoldable pub literal_at : LllKind → ℕ → Reading ℕ
literal_at wrong count text = do
  n ← number_field_at text
  if nat_lt (signal_of n.0) count then Ok n else Err wrong

-- ---- names

-- a byte that a name may have
abbrev pub is_printable : ℕ → Bool
is_printable b = nat_le 0x20 b && nat_le b 0x7E

-- what stands here up to the line's end
unfoldable pub to_line_end : List ℕ → List ℕ
to_line_end [] = []
to_line_end (b ∷ bs) = if b == 10 then [] else b ∷ to_line_end bs

-- a name isn't empty, and has printable bytes alone
abbrev pub is_name : List ℕ → Bool
is_name [] = false
is_name (b ∷ bs) = list_all is_printable (b ∷ bs)

-- a space and a name, which runs to the line's end
unfoldable pub name_at : Reading (List ℕ)
name_at text = do
  rest ← due kind.Name (codes " ") text
  if is_name (to_line_end rest) then Ok (to_line_end rest, drop (length (to_line_end rest)) rest) else Err kind.Name

-- a space and a name that is none of these
unfoldable pub new_name_at : List (List ℕ) → Reading (List ℕ)
new_name_at names text = do
  name ← name_at text
  if list_any (bytes_eq name.0) names then Err kind.Name else Ok name

-- ---- signals

-- the word that says what a signal is
unfoldable pub form_at : Reading Form
form_at text = or_else word.Input (after (codes " input") text)
    (or_else word.Latch (after (codes " latch") text) (or_else word.Imp (after (codes " imp") text) (or_else word.Eqv (after (codes " eqv") text) (Err kind.Word))))

-- an input
unfoldable pub input_at : List (List ℕ) → Reading Signal
input_at names text = do
  name ← new_name_at names text
  Ok (Input name.0, name.1)

-- a latch that follows so many signals: its init is one of them, while its next may be any number yet
unfoldable pub latch_at : ℕ → List (List ℕ) → Reading Signal
latch_at count names text = do
  init ← literal_at kind.Order count text
  next ← number_field_at init.1
  name ← new_name_at names next.1
  Ok (Latch name.0 init.0 next.0, name.1)

-- the operands of a gate that follows so many signals: they are among them
unfoldable pub operands_at : ℕ → List ℕ → Result (ℕ × ℕ × List ℕ) LllKind
operands_at count text = do
  a ← literal_at kind.Order count text
  b ← literal_at kind.Order count a.1
  Ok (a.0, b.0, b.1)

-- a gate that follows so many signals
abbrev pub gate_at : (ℕ → ℕ → Signal) → ℕ → Reading Signal
gate_at gate count text = do
  x ← operands_at count text
  Ok (gate x.0 x.1, x.2)

-- what a signal is, of this form
abbrev pub signal_of_form : Form → ℕ → List (List ℕ) → Reading Signal
signal_of_form word.Input count names text = input_at names text
signal_of_form word.Latch count names text = latch_at count names text
signal_of_form word.Imp count names text = gate_at Imp count text
signal_of_form word.Eqv count names text = gate_at Eqv count text

-- the first signal is `one`
unfoldable pub first_at : Reading Signal
first_at text = do
  rest ← due kind.Word (codes " one") text
  Ok (One, rest)

-- and no other is
unfoldable pub later_at : ℕ → List (List ℕ) → Reading Signal
later_at count names text = do
  form ← form_at text
  signal_of_form form.0 count names form.1

-- what a signal is that follows so many, with these names
abbrev pub signal_at : ℕ → List (List ℕ) → Reading Signal
signal_at count names text = if count == 0 then first_at text else later_at count names text

-- the line begins with a digit
abbrev pub begins_number : List ℕ → Bool
begins_number [] = false
begins_number (b ∷ bs) = is_digit b

-- the number of a signal that follows so many, of which there may be 2 ^ 31 - 1
unfoldable pub signal_number_at : ℕ → List ℕ → Result (List ℕ) LllKind
signal_number_at count text = do
  n ← number_at text
  if n.0 == count && nat_lt count (2 ^ 31 - 1) then Ok n.1 else Err kind.Number

-- the line of a signal that follows so many
unfoldable pub signal_line_at : ℕ → List (List ℕ) → Reading Signal
signal_line_at count names text =
    if begins_number text then (do
      rest ← signal_number_at count text
      s ← signal_at count names rest
      next ← line_end s.1
      Ok (s.0, next))
    else Err kind.Word
