use Rattle.std.proofs.Common.{arith}
use Rattle.hll_grammar.proofs.Within.{within_spells}
use Rattle.hll_cli.proofs.MistakeLemmas.{split_within, spelled_places, only_reading}
use Rattle.hll_cli.proofs.syntax.model_of.Goals as goal

pub parse-requires : goal.parse-requires
parse-requires c = rw c.deref.ensures.value (split_within c.args.text.now c.in-Ok.tokens.items c.in-Ok.ensures.split)

pub returns-in-Ok-parse-clause-spelled : goal.returns-in-Ok-parse-clause-spelled
returns-in-Ok-parse-clause-spelled c =
    let spelled = rw c.deref.ensures.value at c.in-Ok-parse.ensures.spelled in
    (record { tokens = c.in-Ok.tokens.items; split = c.in-Ok.ensures.split; spelled = spelled }, omega (arith, c.in-Ok.tokens.ok.0, c.len.ensures))

pub returns-in-Ok-parse-clause-only : goal.returns-in-Ok-parse-clause-only
returns-in-Ok-parse-clause-only c = λ other is.
    let only = rw c.deref.ensures.value at c.in-Ok-parse.ensures.only in
    let one = only_reading c.args.text.now c.in-Ok.tokens.items c.in-Ok-parse.model c.in-Ok.ensures.split c.in-Ok.ensures.only only
    (within_spells 200 c.args.text.now c.in-Ok.tokens.items) other is in
    let count = one.1 in
    (one.0, omega (arith, c.in-Ok.tokens.ok.0, c.len.ensures))

pub returns-in-Ok-parse-clause-places : goal.returns-in-Ok-parse-clause-places
returns-in-Ok-parse-clause-places c =
    spelled_places c.args.text.now c.in-Ok.tokens.items c.in-Ok-parse.model c.in-Ok.ensures.split (rw c.deref.ensures.value at c.in-Ok-parse.ensures.spelled)
