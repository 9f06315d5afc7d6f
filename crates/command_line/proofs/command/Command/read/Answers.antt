use Rattle.std.proofs.Common.{sym, ◌∙◌}
use Rattle.command_line.proofs.Commands.{asked, refused}
use Rattle.command_line.proofs.command.Command.read.Goals as goal

pub returns-in-Ok-clause-found : goal.returns-in-Ok-clause-found
returns-in-Ok-clause-found c =
    let e = asked _ _ c.in-Ok.matches c.in_ok-program.ensures c.in-Ok.ensures.kinds c.in-Ok.ensures.matches in
    rw e c.matched.ensures.found

pub returns-in-Ok-clause-none : goal.returns-in-Ok-clause-none
returns-in-Ok-clause-none c =
    let e = asked _ _ c.in-Ok.matches c.in_ok-program.ensures c.in-Ok.ensures.kinds c.in-Ok.ensures.matches in
    rw e c.matched.ensures.none

pub returns : goal.returns
returns c = record {
  found = tt;
  none = refused _ _ c.in-Err.error c.in_ok-program.ensures c.in-Err.ensures.kinds (λ memory. c.in_default.not-OutOfMemory (c.kind.ensures ∙ memory));
}
