-- What the program answers: its exit status, and what it writes for it.
use Rattle.std.specs.Prelude.{◌≡◌, ℕ, ◌<◌, List, ◌++◌, length, take, Option, Some, None, ◌⊎◌}
use Rattle.hll_cli.specs.declared.answer.Status.{Status}
use Rattle.hll_cli.specs.declared.answer.Status.TheVariants.{Done, Falsified, Undecided, Refused, Usage, ReadFault, WriteFault, Memory, Unaccepted}
use Rattle.hll_cli.specs.Check.{IsCheckAnswer}
use Rattle.hll_cli.specs.Lines.{usage_line}
use Rattle.hll_cli.specs.Format.{IsFormatAnswer}
use Rattle.hll_cli.specs.Prove.{IsProveAnswer}
use Rattle.hll_cli.specs.Reading.{DeskView}
use Rattle.command_line.specs.Words.{Request, Prove, Check, Format}

-- the exit status as a number
abbrev pub code_of : Status → ℕ
code_of Done = 0
code_of Falsified = 1
code_of Undecided = 2
code_of Refused = 3
code_of Usage = 4
code_of ReadFault = 5
code_of WriteFault = 6
code_of Memory = 7
code_of Unaccepted = 8

-- the exit statuses of a report, and that of want of memory
abbrev pub IsReported : ℕ → Type 0
IsReported n = (n ≡ 0) ⊎ (n ≡ 1) ⊎ (n ≡ 7)

-- the exit status of a command that is done, and that of want of memory
abbrev pub IsDone : ℕ → Type 0
IsDone n = (n ≡ 0) ⊎ (n ≡ 7)

-- the exit statuses of a summary of evidence, and that of want of memory
abbrev pub IsSummarized : ℕ → Type 0
IsSummarized n = (n ≡ 0) ⊎ (n ≡ 1) ⊎ (n ≡ 2) ⊎ (n ≡ 7)

-- the exit statuses of wrong words
abbrev pub IsUsageStatus : ℕ → Type 0
IsUsageStatus n = (n ≡ 4) ⊎ (n ≡ 6) ⊎ (n ≡ 7)

-- the numbers that an exit status may be, by what is asked
abbrev pub IsStatus : Option Request → ℕ → Type 0
IsStatus None n = IsUsageStatus n
IsStatus (Some (Prove name)) n = (n ≡ 0) ⊎ (n ≡ 1) ⊎ (n ≡ 3) ⊎ (n ≡ 5) ⊎ (n ≡ 6) ⊎ (n ≡ 7)
IsStatus (Some (Check name)) n = (n ≡ 0) ⊎ (n ≡ 1) ⊎ (n ≡ 2) ⊎ (n ≡ 5) ⊎ (n ≡ 6) ⊎ (n ≡ 7) ⊎ (n ≡ 8)
IsStatus (Some (Format name)) n = (n ≡ 0) ⊎ (n ≡ 3) ⊎ (n ≡ 5) ⊎ (n ≡ 6) ⊎ (n ≡ 7)

-- wrong words have the line on how the program is called
abbrev pub IsUsageAnswer : Status → List ℕ → Type 0
IsUsageAnswer Usage output = output ≡ usage_line
IsUsageAnswer Done output = ⊥
IsUsageAnswer Falsified output = ⊥
IsUsageAnswer Undecided output = ⊥
IsUsageAnswer Refused output = ⊥
IsUsageAnswer ReadFault output = ⊥
IsUsageAnswer WriteFault output = ⊥
IsUsageAnswer Memory output = ⊥
IsUsageAnswer Unaccepted output = ⊥

-- what is to be written with a status, by what is asked
abbrev pub IsAnswer : Option Request → DeskView → Status → List ℕ → Type 0
IsAnswer None view status output = IsUsageAnswer status output
IsAnswer (Some (Prove name)) view status output = IsProveAnswer view name status output
IsAnswer (Some (Check name)) view status output = IsCheckAnswer view name status output
IsAnswer (Some (Format name)) view status output = IsFormatAnswer view name status output

-- there is something to be written with this status, where it is one of an answer
abbrev pub HasAnswer : (Status → List ℕ → Type 0) → Status → Type 0
HasAnswer Is WriteFault = Unit {0}
HasAnswer Is Memory = Unit {0}
HasAnswer Is Done = (output : List ℕ) × Is Done output
HasAnswer Is Falsified = (output : List ℕ) × Is Falsified output
HasAnswer Is Undecided = (output : List ℕ) × Is Undecided output
HasAnswer Is Refused = (output : List ℕ) × Is Refused output
HasAnswer Is Usage = (output : List ℕ) × Is Usage output
HasAnswer Is ReadFault = (output : List ℕ) × Is ReadFault output
HasAnswer Is Unaccepted = (output : List ℕ) × Is Unaccepted output

-- this number is the exit status of an answer to what is asked, or of none for a write fault or want of memory
abbrev pub IsAnswered : Option Request → DeskView → ℕ → Type 0
IsAnswered request view n = (status : Status) × (n ≡ code_of status) × HasAnswer (IsAnswer request view) status

-- something of this kind is written, whole
abbrev pub Writes : (List ℕ → Type 0) → List ℕ → List ℕ → Type 0
Writes Is before now = (output : List ℕ) × Is output × (now ≡ before ++ output)

-- a front of an answer is written, and not all of it
pub record WritesFront (Is : Status → List ℕ → Type 0) (before now : List ℕ) : Type 0 where
  pub status : Status
  pub output : List ℕ
  pub count : ℕ
  pub answer : Is status output
  pub part : count < length output
  pub written : now ≡ before ++ take count output

-- what is written with a status: the whole answer, with a write fault a front of one, for want of memory that or nothing
abbrev pub Ends : (Status → List ℕ → Type 0) → Status → List ℕ → List ℕ → Type 0
Ends Is WriteFault before now = WritesFront Is before now
Ends Is Memory before now = (now ≡ before) ⊎ WritesFront Is before now
Ends Is Done before now = Writes (Is Done) before now
Ends Is Falsified before now = Writes (Is Falsified) before now
Ends Is Undecided before now = Writes (Is Undecided) before now
Ends Is Refused before now = Writes (Is Refused) before now
Ends Is Usage before now = Writes (Is Usage) before now
Ends Is ReadFault before now = Writes (Is ReadFault) before now
Ends Is Unaccepted before now = Writes (Is Unaccepted) before now
