use Rattle.std.proofs.Common.{refl}
use Rattle.hll_tree.specs.Spells.{at_most}
use Rattle.hll_cli.specs.Accepted.{level_limit}
use Rattle.hll_cli.proofs.Refusals.{refused_alone}
use Rattle.hll_cli.proofs.rules.check_rules.Goals as goal

pub returns-in-Err-Fault-clause-refused : goal.returns-in-Err-Fault-clause-refused
returns-in-Err-Fault-clause-refused c = λ r failed.
    refused_alone c.args.text.now _ r (rw c.faulty.ensures at failed)
    (record { model = c.args.model; spelled = c.requires; at = c.in-Err-Fault.at; first = rw c.in-Err-Fault.field-0-is at c.in-Err-Fault.ensures; placed = refl })

pub check-requires : goal.check-requires
check-requires c = record { limit = at_most level_limit; text = c.args.text.now; tokens = c.requires.tokens; split = c.requires.split; spelled = c.requires.spelled }
