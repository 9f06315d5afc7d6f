use Rattle.std.proofs.Common.{Option, Some, sym, subst, ◌∙◌}
use Rattle.hll_lexer.specs.Pieces.{IsFront}
use Rattle.hll_lexer.specs.declared.token.Reserved.{Reserved}
use Rattle.hll_lexer.proofs.FormLemmas.{word_kind}
use Rattle.hll_lexer.proofs.FrontLemmas.{word_front}
use Rattle.hll_lexer.proofs.front.word.Goals as goal

pub returns-in-Some : goal.returns-in-Some
returns-in-Some c =
    let text = c.args.text.now in
    let n = c.word_length-length.result in
    subst (λ (w : Option Reserved). IsFront text (Some (word_kind w)) n) (sym c.reserved.ensures ∙ c.in-Some.is) (word_front text n c.requires c.word_length-length.ensures)

pub returns-in-None : goal.returns-in-None
returns-in-None c =
    let text = c.args.text.now in
    let n = c.word_length-length.result in
    subst (λ (w : Option Reserved). IsFront text (Some (word_kind w)) n) (sym c.reserved.ensures ∙ c.in-None.is) (word_front text n c.requires c.word_length-length.ensures)
