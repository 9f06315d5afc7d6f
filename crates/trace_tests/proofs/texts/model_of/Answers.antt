use Rattle.std.proofs.Common.{subst}
use Rattle.hll_tree.specs.Spells.{at_most, SpellsWithin}
use Rattle.hll_grammar.proofs.TokensWithin.{split_within}
use Rattle.trace_tests.proofs.texts.model_of.Goals as goal

pub parse-requires : goal.parse-requires
parse-requires c = rw c.deref.ensures.value (split_within c.args.text.now c.in_ok-tokens.tokens.items c.in_ok-tokens.ensures.split)

pub returns : goal.returns
returns c =
    let spelled = subst (λ ts. SpellsWithin 200 c.args.text.now ts c.in_ok-parse.field-0) c.deref.ensures.value c.in_ok-parse.ensures.spelled in
    record { limit = at_most 200; text = c.args.text.now; tokens = c.in_ok-tokens.tokens.items; split = c.in_ok-tokens.ensures.split; spelled = spelled }
