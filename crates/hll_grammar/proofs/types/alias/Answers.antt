use Rattle.hll_tree.specs.declared.tree.TypeItem.TheVariants as item
use Rattle.hll_grammar.proofs.Sets.{follows_end}
use Rattle.hll_grammar.proofs.Sections.{declarator_part, type_part}
use Rattle.hll_grammar.proofs.Readings.{made_fails, made_read, then_fails_early, then_fails_late, then_read}
use Rattle.hll_grammar.proofs.Answering.{got, lost}
use Rattle.hll_grammar.proofs.Exits.{exits}
use Rattle.hll_grammar.proofs.types.alias.Goals as goal

pub returns-in_err-ty-clause-reads : goal.returns-in_err-ty-clause-reads
returns-in_err-ty-clause-reads c =
    exits c.type_text.new.cursor.rest c.from_residual.result c.from_residual.ensures.1
    (made_fails (λ x. item.Alias x.0 x.1) (then_fails_early type_part declarator_part (follows_end _ _ _) c.in_err-ty.ensures.reads))

pub returns-in_err-declared-clause-reads : goal.returns-in_err-declared-clause-reads
returns-in_err-declared-clause-reads c =
    exits c.read.new.cursor.rest c.from_residual-in_err-declared.result c.from_residual-in_err-declared.ensures.1
    (made_fails (λ x. item.Alias x.0 x.1)
    (then_fails_late type_part declarator_part (follows_end _ _ _) c.in_ok-ty.ensures.reads
    (lost c.type_text.ensures.text c.in_err-declared.ensures.reads)))

pub returns-clause-reads : goal.returns-clause-reads
returns-clause-reads c =
    (made_read (λ x. item.Alias x.0 x.1)
    (then_read type_part declarator_part (follows_end _ _ _) c.in_ok-ty.ensures.reads (got c.type_text.ensures.text c.in_ok-declared.ensures.reads)))
