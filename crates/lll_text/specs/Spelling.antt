-- The one spelling of a value, line by line.
use Rattle.std.specs.Prelude.{ℕ, ◌+◌, List, [], ◌∷◌, ◌++◌, codes, decimal}
use Rattle.std.specs.List.{flat_map}
use Rattle.lll_core.specs.declared.lll.Lll.{Lll}
use Rattle.lll_core.specs.declared.signal.Named.{Named}
use Rattle.lll_core.specs.declared.signal.Signal.{Signal}
use Rattle.lll_core.specs.declared.signal.Signal.TheVariants.{One, Input, Latch, Imp, Eqv}

-- a line: what stands in it, and a line feed
abbrev pub line : List ℕ → List ℕ
line text = text ++ codes "\n"

-- a space and a number
abbrev pub number_field : ℕ → List ℕ
number_field n = codes " " ++ decimal n

-- a space and a name
abbrev pub name_field : List ℕ → List ℕ
name_field name = codes " " ++ name

-- what stands after the number in a signal's line
unfoldable pub form : Signal → List ℕ
form One = codes " one"
form (Input name) = codes " input" ++ name_field name
form (Latch name init next) = codes " latch" ++ number_field init ++ number_field next ++ name_field name
form (Imp a b) = codes " imp" ++ number_field a ++ number_field b
form (Eqv a b) = codes " eqv" ++ number_field a ++ number_field b

-- the line of a signal with this number
abbrev pub signal_line : ℕ → Signal → List ℕ
signal_line n s = line (decimal n ++ form s)

-- a line for each signal, numbered from here on
unfoldable pub signal_lines : ℕ → List Signal → List ℕ
signal_lines n [] = []
signal_lines n (s ∷ ss) = signal_line n s ++ signal_lines (n + 1) ss

-- a line of a word and a literal
abbrev pub literal_line : List ℕ → ℕ → List ℕ
literal_line word literal = line (word ++ number_field literal)

-- the line of a name for the reader
abbrev pub name_line : Named → List ℕ
name_line n = line (codes "name" ++ number_field n.literal ++ name_field n.name)

-- the lines that say what a model is for: what is assumed, kept and constrained, its obligations, and names for the reader
unfoldable pub list_lines : List ℕ → List ℕ → List Named → List ℕ
list_lines constraints obligations names =
    flat_map (literal_line (codes "constraint")) constraints ++ flat_map (literal_line (codes "obligation")) obligations ++ flat_map name_line names

-- the one spelling of a value
unfoldable pub spelling : Lll → List ℕ
spelling l =
    line (codes "lll 1") ++ signal_lines 0 l.signals ++ literal_line (codes "assume") l.assume ++ literal_line (codes "keep") l.keep
    ++ list_lines l.constraints l.obligations l.names ++ line (codes "end")
