use Rattle.std.proofs.Common.{refl, sym, ◌∙◌}
use Rattle.hll_tree.specs.declared.tree.Slot.TheVariants as slot
use Rattle.hll_tree.specs.Spells.{IsSlot}
use Rattle.hll_grammar.specs.Lookahead.{a_name, a_number, mark_number, nothing, word_number}
use Rattle.hll_grammar.specs.Pieces.{IsFixed}
use Rattle.hll_grammar.proofs.Sets.{covers, without}
use Rattle.hll_grammar.proofs.Sections.{begins_slot}
use Rattle.hll_grammar.proofs.Readings.{made_fails, made_read}
use Rattle.hll_grammar.proofs.Alternatives.{fails_as, fails_as_last, fixed_in_slot, index_in_slot, read_as}
use Rattle.hll_grammar.proofs.Answering.{passed}
use Rattle.hll_grammar.proofs.Exits.{exits}
use Rattle.hll_grammar.proofs.Lists.{starts_begins, starts_stops}
use Rattle.hll_grammar.proofs.Fronts.{stops_covered}
use Rattle.hll_grammar.proofs.definitions.SlotRead.read.Goals as goal

pub returns-in_err-name-clause-reads : goal.returns-in_err-name-clause-reads
returns-in_err-name-clause-reads c =
    exits c.name.new.self.rest c.from_residual.result c.from_residual.ensures.1
    (fails_as index_in_slot
    (starts_begins a_name c.args.cursor.now.rest (sym c.sees_name.ensures ∙ c.if-sees_name.true))
    (made_fails slot.Index (c.in_err-name.ensures.reads 200)))

pub returns-in_ok-name-clause-reads : goal.returns-in_ok-name-clause-reads
returns-in_ok-name-clause-reads c = read_as index_in_slot (made_read slot.Index (c.in_ok-name.ensures.reads 200))

pub returns-else-sees_name-clause-reads : goal.returns-else-sees_name-clause-reads
unfolding mark_number word_number
returns-else-sees_name-clause-reads c =
    passed IsSlot IsFixed nothing nothing c.args.cursor.now.text 200 c.args.cursor.now.rest c.fixed.new.cursor.rest c.fixed.result
    (c.fixed.ensures.reads 200)
    (λ x r. read_as fixed_in_slot r)
    (λ fault f. fails_as_last fixed_in_slot
    (stops_covered (covers a_name (without begins_slot a_number) refl) c.args.cursor.now.rest
    (starts_stops a_name c.args.cursor.now.rest (sym c.sees_name.ensures ∙ c.if-sees_name.false)))
    f)
