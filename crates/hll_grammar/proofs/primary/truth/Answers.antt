use Rattle.std.proofs.Common.{◌≡◌, true, false, ◌∙◌}
use Rattle.hll_lexer.specs.declared.token.Reserved.TheVariants as reserved
use Rattle.hll_grammar.proofs.Taking.{truth_read, truth_second, truth_refused}
use Rattle.hll_grammar.proofs.primary.truth.Goals as goal

pub returns-in-Some-clause-reads : goal.returns-in-Some-clause-reads
returns-in-Some-clause-reads c = λ room.
    rw c.at_token.ensures (truth_read true reserved.True (λ t is. is) c.args.cursor.now.text room c.args.cursor.now.rest c.accept_word.new.self.rest c.in-Some.token c.in-Some.ensures.taken)

pub returns-in-Some-accept_word-clause-reads : goal.returns-in-Some-accept_word-clause-reads
returns-in-Some-accept_word-clause-reads c = λ room.
    rw c.at_token-in-Some-accept_word.ensures (truth_second c.args.cursor.now.text room c.args.cursor.now.rest c.accept_word.new.self.rest c.accept_word-2.new.self.rest _ c.in_default.ensures.taken c.in-Some-accept_word.ensures.taken)

pub returns-clause-reads : goal.returns-clause-reads
returns-clause-reads c = λ room.
    truth_refused c.args.cursor.now.text c.accept_word-2.new.self.text room c.args.cursor.now.rest c.accept_word.new.self.rest c.accept_word-2.new.self.rest c.unexpected.result
    c.in_default.ensures.taken c.in_default-accept_word.ensures.taken (c.accept_word-2.ensures.text ∙ c.accept_word.ensures.text) c.unexpected.ensures
