use Rattle.std.proofs.Common.{ap, ◌∙◌}
use Rattle.hll_lexer.specs.Place.{place_of}
use Rattle.hll_cli.proofs.MistakeLemmas.{place_at_most}
use Rattle.hll_cli.proofs.rules.place_or_end.Goals as goal

pub returns : goal.returns
returns c = c.place.ensures ∙ ap (place_of c.args.text.now) c.min.ensures ∙ place_at_most c.args.text.now c.args.at
