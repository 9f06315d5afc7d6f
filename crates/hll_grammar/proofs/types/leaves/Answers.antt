use Rattle.hll_tree.specs.declared.tree.TypeItem.TheVariants as item
use Rattle.hll_grammar.proofs.Sets.{follows_end}
use Rattle.hll_grammar.proofs.Tokens.{name_part}
use Rattle.hll_grammar.proofs.Sections.{elements_part}
use Rattle.hll_grammar.proofs.Readings.{made_fails, made_read, then_fails_early, then_fails_late, then_read}
use Rattle.hll_grammar.proofs.Answering.{got, lost}
use Rattle.hll_grammar.proofs.Exits.{exits}
use Rattle.hll_grammar.proofs.types.leaves.Goals as goal

pub returns-in_err-elements-clause-reads : goal.returns-in_err-elements-clause-reads
returns-in_err-elements-clause-reads c =
    exits c.elements.new.cursor.rest c.from_residual.result c.from_residual.ensures.1
    (made_fails (λ x. item.Leaves x.0 x.1) (then_fails_early elements_part name_part (follows_end _ _ _) c.in_err-elements.ensures.reads))

pub returns-in_err-name-clause-reads : goal.returns-in_err-name-clause-reads
returns-in_err-name-clause-reads c =
    exits c.name.new.self.rest c.from_residual-in_err-name.result c.from_residual-in_err-name.ensures.1
    (made_fails (λ x. item.Leaves x.0 x.1)
    (then_fails_late elements_part name_part (follows_end _ _ _) c.in_ok-elements.ensures.reads
    (lost c.elements.ensures.text (c.in_err-name.ensures.reads 200))))

pub returns-clause-reads : goal.returns-clause-reads
returns-clause-reads c =
    (made_read (λ x. item.Leaves x.0 x.1)
    (then_read elements_part name_part (follows_end _ _ _) c.in_ok-elements.ensures.reads
    (got c.elements.ensures.text (c.in_ok-name.ensures.reads 200))))
