use Rattle.std.proofs.Common.{refl, sym, ◌∷◌, [], ◌∙◌}
use Rattle.hll_lexer.specs.declared.token.Mark.TheVariants as mark
use Rattle.hll_tree.specs.Spells.{IsSort}
use Rattle.hll_grammar.specs.Lookahead.{a_name, mark_number, marks_of, nothing, word_number}
use Rattle.hll_grammar.specs.Pieces.{AreChildren, AreLeaves}
use Rattle.hll_grammar.proofs.Sets.{covers, without}
use Rattle.hll_grammar.proofs.Sections.{begins_sort}
use Rattle.hll_grammar.proofs.Alternatives.{children_in_sort, fails_as, fails_as_last, leaves_in_sort, read_as}
use Rattle.hll_grammar.proofs.Answering.{passed}
use Rattle.hll_grammar.proofs.Lists.{starts_begins, starts_stops}
use Rattle.hll_grammar.proofs.Fronts.{stops_covered}
use Rattle.hll_grammar.proofs.types.sort.Goals as goal

pub returns-then-sees-clause-reads : goal.returns-then-sees-clause-reads
returns-then-sees-clause-reads c =
    passed IsSort AreLeaves nothing nothing c.args.cursor.now.text 200 c.args.cursor.now.rest c.leaves.new.cursor.rest c.leaves.result
    c.leaves.ensures.reads (λ x r. read_as leaves_in_sort r)
    (λ fault f. fails_as leaves_in_sort
    (starts_begins (marks_of (mark.OpenBrace ∷ [])) c.args.cursor.now.rest (sym c.sees.ensures ∙ c.if-sees.true))
    f)

pub returns-else-sees-clause-reads : goal.returns-else-sees-clause-reads
unfolding mark_number word_number
returns-else-sees-clause-reads c =
    passed IsSort AreChildren nothing nothing c.args.cursor.now.text 200 c.args.cursor.now.rest c.children.new.cursor.rest c.children.result
    c.children.ensures.reads (λ x r. read_as children_in_sort r)
    (λ fault f. fails_as_last children_in_sort
    (stops_covered
    (covers (marks_of (mark.OpenBrace ∷ [])) (without begins_sort a_name) refl)
    c.args.cursor.now.rest (starts_stops (marks_of (mark.OpenBrace ∷ [])) c.args.cursor.now.rest (sym c.sees.ensures ∙ c.if-sees.false)))
    f)
