use Rattle.hll_grammar.proofs.Sets.{follows_end}
use Rattle.hll_grammar.proofs.Sections.{declarators_part, type_part}
use Rattle.hll_grammar.proofs.Readings.{made_fails, made_read, then_fails_early, then_fails_late, then_read}
use Rattle.hll_grammar.proofs.Answering.{got, lost}
use Rattle.hll_grammar.proofs.Exits.{exits}
use Rattle.hll_grammar.proofs.Lists.{declarator_lists}
use Rattle.hll_grammar.proofs.types.DeclRead.read.Goals as goal

pub returns-in_err-ty-clause-reads : goal.returns-in_err-ty-clause-reads
returns-in_err-ty-clause-reads c =
    exits c.type_text.new.cursor.rest c.from_residual.result c.from_residual.ensures.1
    (made_fails (λ x. record { ty = x.0; names = x.1 }) (then_fails_early type_part declarators_part (follows_end _ _ _) c.in_err-ty.ensures.reads))

pub returns-in_err-names-clause-reads : goal.returns-in_err-names-clause-reads
returns-in_err-names-clause-reads c =
    exits c.listed.new.cursor.rest c.from_residual-in_err-names.result c.from_residual-in_err-names.ensures.1
    (made_fails (λ x. record { ty = x.0; names = x.1 })
    (then_fails_late type_part declarators_part (follows_end _ _ _) c.in_ok-ty.ensures.reads
    (lost c.type_text.ensures.text c.in_err-names.ensures.reads)))

pub returns-clause-reads : goal.returns-clause-reads
returns-clause-reads c =
    (made_read (λ x. record { ty = x.0; names = x.1 })
    (then_read type_part declarators_part (follows_end _ _ _) c.in_ok-ty.ensures.reads (got c.type_text.ensures.text c.in_ok-names.ensures.reads)))

pub listed-requires : goal.listed-requires
listed-requires c = declarator_lists
