-- How values are printed, and the lines that stand in place of a report.
use Rattle.std.specs.Prelude.{ℕ, Bool, true, false, List, [], ◌∷◌, ◌++◌, codes}
use Rattle.std.specs.Fmt.{decimal}
use Rattle.hll_lexer.specs.declared.places.LineColumn.{LineColumn}
use Rattle.hll_meaning.specs.declared.fault.StaticKind.{StaticKind}
use Rattle.hll_meaning.specs.declared.fault.StaticKind.TheVariants as is
use Rattle.hll_cli.specs.declared.fault.Refusal.{Refusal}
use Rattle.hll_cli.specs.declared.fault.Refusal.TheVariants.{Unread, Long, Misplaced, Unbuilt}
use Rattle.hll_cli.specs.declared.fault.Mistake.{Mistake}
use Rattle.hll_cli.specs.declared.fault.Mistake.TheVariants.{Stray, Unclosed, Number, Unexpected, Deep, Static}

-- the end of a line
abbrev pub line_feed : List ℕ
line_feed = 10 ∷ []

-- a truth value
abbrev pub truth_text : Bool → List ℕ
truth_text true = codes "true"
truth_text false = codes "false"

-- a line and a column
unfoldable pub place_text : LineColumn → List ℕ
place_text place = decimal place.line ++ codes ":" ++ decimal place.column

-- what stands before the verdict on an obligation: its number and its place
unfoldable pub heading_text : ℕ → LineColumn → List ℕ
heading_text number place = codes "obligation " ++ decimal number ++ codes " at " ++ place_text place ++ codes ": "

-- the last line of a report: how many obligations have each verdict
unfoldable pub totals_text : (proved falsified undecided : ℕ) → List ℕ
totals_text proved falsified undecided =
    codes "proved " ++ decimal proved ++ codes " falsified " ++ decimal falsified ++ codes " undecided " ++ decimal undecided ++ line_feed

-- the line on how the program is called
abbrev pub usage_line : List ℕ
usage_line = codes "usage: hll prove MODEL | hll check EVIDENCE | hll format MODEL" ++ line_feed

-- the word for a static fault
abbrev pub kind_text : StaticKind → List ℕ
kind_text is.Unknown = codes "Unknown"
kind_text is.Twice = codes "Twice"
kind_text is.Kind = codes "Kind"
kind_text is.Mismatch = codes "Mismatch"
kind_text is.Range = codes "Range"
kind_text is.Constant = codes "Constant"
kind_text is.Wide = codes "Wide"
kind_text is.Shape = codes "Shape"
kind_text is.Cells = codes "Cells"
kind_text is.Undefined = codes "Undefined"
kind_text is.FirstMissing = codes "FirstMissing"

-- the word for a mistake
abbrev pub mistake_text : Mistake → List ℕ
mistake_text Stray = codes "Stray"
mistake_text Unclosed = codes "Unclosed"
mistake_text Number = codes "Number"
mistake_text Unexpected = codes "Unexpected"
mistake_text Deep = codes "Deep"
mistake_text (Static why) = kind_text why

-- the line on why the file of this name has no answer of its own
abbrev pub refusal_line : List ℕ → Refusal → List ℕ
refusal_line name Unread = codes "refused read " ++ name ++ line_feed
refusal_line name Long = codes "refused Long" ++ line_feed
refusal_line name (Misplaced mistake place) = codes "refused " ++ mistake_text mistake ++ codes " at " ++ place_text place ++ line_feed
refusal_line name Unbuilt = codes "refused Unbuilt" ++ line_feed
