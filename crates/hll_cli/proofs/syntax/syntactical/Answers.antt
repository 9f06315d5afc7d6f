use Rattle.hll_cli.proofs.MistakeLemmas.{unexpected_at, deep_at}
use Rattle.hll_cli.proofs.syntax.syntactical.Goals as goal

pub misplaced-requires : goal.misplaced-requires
misplaced-requires c = unexpected_at c.args.text.now c.args.parsing c.in-Unexpected.at c.in-Unexpected.is c.requires

pub misplaced-requires-in-Deep : goal.misplaced-requires-in-Deep
misplaced-requires-in-Deep c = deep_at c.args.text.now c.args.parsing c.in-Deep.at c.in-Deep.is c.requires
