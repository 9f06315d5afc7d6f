use Rattle.hll_tree.specs.Spells.{IsName, Perhaps, dims_of}
use Rattle.hll_grammar.specs.Pieces.{AreSlotsInBrackets}
use Rattle.hll_grammar.proofs.Sets.{follows_end}
use Rattle.hll_grammar.proofs.Tokens.{name_part}
use Rattle.hll_grammar.proofs.Readings.{made_fails, made_read, then_fails_early, then_fails_late, then_read}
use Rattle.hll_grammar.proofs.Answering.{got, lost}
use Rattle.hll_grammar.proofs.Exits.{exits, fails_alike, made_behind, read_alike}
use Rattle.hll_grammar.proofs.Optional.{are_slots_part}
use Rattle.hll_grammar.proofs.definitions.left_side.Goals as goal

pub returns-in_err-name-clause-reads : goal.returns-in_err-name-clause-reads
returns-in_err-name-clause-reads c =
    exits c.name.new.self.rest c.from_residual.result c.from_residual.ensures.1
    (fails_alike
    (made_behind (λ x. x) dims_of IsName (λ s. Perhaps (AreSlotsInBrackets s)))
    (made_fails (λ x. x) (then_fails_early name_part are_slots_part (follows_end _ _ _) (c.in_err-name.ensures.reads 200))))

pub returns-in_err-indices-clause-reads : goal.returns-in_err-indices-clause-reads
returns-in_err-indices-clause-reads c =
    exits c.slots.new.cursor.rest c.from_residual-in_err-indices.result c.from_residual-in_err-indices.ensures.1
    (fails_alike
    (made_behind (λ x. x) dims_of IsName (λ s. Perhaps (AreSlotsInBrackets s)))
    (made_fails (λ x. x)
    (then_fails_late name_part are_slots_part (follows_end _ _ _) (c.in_ok-name.ensures.reads 200)
    (lost c.name.ensures.text c.in_err-indices.ensures.reads))))

pub returns-clause-reads : goal.returns-clause-reads
returns-clause-reads c =
    (read_alike
    (made_behind (λ x. x) dims_of IsName (λ s. Perhaps (AreSlotsInBrackets s)))
    (made_read (λ x. x)
    (then_read name_part are_slots_part (follows_end _ _ _) (c.in_ok-name.ensures.reads 200)
    (got c.name.ensures.text c.in_ok-indices.ensures.reads))))
