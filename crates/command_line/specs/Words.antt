-- The words of a command line, and what they ask for.
use Rattle.std.specs.Prelude.{ℕ, List, [], ◌∷◌, true, Option, Some, None, option_and_then, if◌then◌else◌, codes}
use Rattle.std.specs.Str.{bytes_eq}
use Rattle.clap.specs.Walk.{Text, Row, first_of}
use Rattle.clap.specs.Simple.{App, new_app, new_rule, on_top, with_rule, with_subcommand, subcommand_of}
use Rattle.clap.specs.Faults.{fault_of}
use Rattle.clap.specs.Kinds.{Kinds}
use Rattle.command_line.specs.declared.command.Command.{Command}
use Rattle.command_line.specs.declared.command.Command.TheVariants as command

-- what is asked of the file of this name: the obligations of its model, whether its evidence is accepted, or its model's one layout
pub data Request : Type 0 where
  Prove Check Format : (file : Text) → Request

-- the name of the file that is asked about
abbrev pub file_of : Request → Text
file_of (Prove file) = file
file_of (Check file) = file
file_of (Format file) = file

-- what a command asks for
abbrev pub asked_by : Command → Request
asked_by (command.Prove model) = Prove model.now
asked_by (command.Check evidence) = Check evidence.now
asked_by (command.Format model) = Format model.now

-- a command that is given one word, the name of a file
abbrev pub on_file : Text → App
on_file name = with_rule (new_app name) (record (new_rule (codes "FILE")) { required = true })

-- the program: a word for one of its commands, with what that command is given; it has no help
abbrev pub program : App
program =
    with_subcommand (with_subcommand (with_subcommand
    (on_top (λ s. record s { no_binary_name = true; disable_help_flag = true; disable_help_subcommand = true; subcommand_required = true })
    (new_app (codes "hll")))
    (on_file (codes "prove")).top) (on_file (codes "check")).top) (on_file (codes "format")).top

-- what is asked by the name of a command and the name of a file
abbrev pub request_on : Text → Text → Option Request
request_on name file =
    if bytes_eq name (codes "prove") then Some (Prove file)
    else (if bytes_eq name (codes "check") then Some (Check file)
    else (if bytes_eq name (codes "format") then Some (Format file) else None))

-- what a command with the values that were found for it asks for
abbrev pub request_in : Option (Text × List Row) → Option Request
request_in None = None
request_in (Some found) = option_and_then (request_on found.0) (first_of (codes "FILE") found.1)

-- what is asked where `clap` finds no fault
abbrev pub unless : Kinds → Option Request → Option Request
unless [] request = request
unless (k ∷ ks) request = None

-- what the words after the program's name ask for: what `clap` finds in them, where it finds no fault
unfoldable pub request_of : List Text → Option Request
request_of words = unless (fault_of program words) (request_in (subcommand_of program words))
