use Rattle.std.proofs.Common.{sym, ap, ◌∙◌}
use Rattle.clap.specs.Matches.{found_of}
use Rattle.command_line.specs.Words.{request_on}
use Rattle.command_line.proofs.Commands.{found_file, without_file}
use Rattle.command_line.proofs.command.Command.matched.Goals as goal

pub returns-in_default-get_str-clause-none : goal.returns-in_default-get_str-clause-none
returns-in_default-get_str-clause-none c =
    without_file c.args.matches.now (found_of c.in-Some.given.now) c.in-Some.name.now (sym c.in-Some.ensures.name) (sym c.in-Some.ensures.rows) (sym c.in_default-get_str.ensures)

pub returns-in-prove-clause-found : goal.returns-in-prove-clause-found
returns-in-prove-clause-found c =
    found_file c.args.matches.now (found_of c.in-Some.given.now) c.in-Some.name.now c.in-Some-get_str.file.now (sym c.in-Some.ensures.name) (sym c.in-Some.ensures.rows) (sym c.in-Some-get_str.ensures)
    ∙ ap (λ name. request_on name c.in-Some-get_str.file.now) c.in-prove.is

pub returns-in-format-clause-found : goal.returns-in-format-clause-found
returns-in-format-clause-found c =
    found_file c.args.matches.now (found_of c.in-Some.given.now) c.in-Some.name.now c.in-Some-get_str.file.now (sym c.in-Some.ensures.name) (sym c.in-Some.ensures.rows) (sym c.in-Some-get_str.ensures)
    ∙ ap (λ name. request_on name c.in-Some-get_str.file.now) c.in-format.is

pub returns-in-check-clause-found : goal.returns-in-check-clause-found
returns-in-check-clause-found c =
    found_file c.args.matches.now (found_of c.in-Some.given.now) c.in-Some.name.now c.in-Some-get_str.file.now (sym c.in-Some.ensures.name) (sym c.in-Some.ensures.rows) (sym c.in-Some-get_str.ensures)
    ∙ ap (λ name. request_on name c.in-Some-get_str.file.now) c.in-check.is
