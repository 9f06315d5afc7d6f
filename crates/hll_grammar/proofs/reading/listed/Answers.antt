use Rattle.std.proofs.Common.{sym, ◌∙◌, subst}
use Rattle.hll_lexer.specs.declared.token.Mark.TheVariants as mark
use Rattle.hll_tree.specs.Spells.{Listed}
use Rattle.hll_grammar.specs.Lookahead.{list_goes_on}
use Rattle.hll_grammar.specs.Reading.{IsRead}
use Rattle.hll_grammar.specs.Repetition.{ListSoFar}
use Rattle.hll_grammar.proofs.Answering.{got, lost}
use Rattle.hll_grammar.proofs.Exits.{exits}
use Rattle.hll_grammar.proofs.Taking.{mark_stops}
use Rattle.hll_grammar.proofs.reading.listed.Goals as goal

pub returns-in_err-item-clause-reads : goal.returns-in_err-item-clause-reads
returns-in_err-item-clause-reads g c =
    let taken = c.in-Some.ensures.taken in
    exits c.read-in-Some.new.cursor.rest c.from_residual-in_err-item.result c.from_residual-in_err-item.ensures.1
    (c.requires.further_fails c.args.cursor.now.text 200 c.args.cursor.now.rest c.further.cursor.rest c.accept.new.self.rest c.further.items c.in-Some._comma c.in_err-item.field-0.0
    c.further.invariant.list taken.0 taken.1 (lost (c.accept.ensures.text ∙ c.further.invariant.text) c.in_err-item.ensures.reads))

pub further-preserved : goal.further-preserved
further-preserved g c =
    let taken = c.in-Some.ensures.taken in
    record {
      text = c.read-in-Some.ensures.text ∙ c.accept.ensures.text ∙ c.further.invariant.text;
      list = subst (λ xs. ListSoFar g.T.Read.form g.T.Read.goes_on c.args.cursor.now.text 200 c.args.cursor.now.rest c.read-in-Some.new.cursor.rest xs) (sym c.in_ok-push-2.ensures.pushed)
          (c.requires.further c.args.cursor.now.text 200 c.args.cursor.now.rest c.further.cursor.rest c.accept.new.self.rest c.read-in-Some.new.cursor.rest c.further.items c.in-Some._comma c.in_ok-item.item
          c.further.invariant.list taken.0 taken.1 (got (c.accept.ensures.text ∙ c.further.invariant.text) c.in_ok-item.ensures.reads));
    }

pub returns-clause-reads : goal.returns-clause-reads
returns-clause-reads g c =
    let taken = c.in_default.ensures.taken in
    subst (λ ts. IsRead (λ s. Listed (g.T.Read.form s)) (list_goes_on g.T.Read.goes_on) c.args.cursor.now.text 200 c.args.cursor.now.rest ts c.further.items) (sym taken.0)
    (c.requires.end c.args.cursor.now.text 200 c.args.cursor.now.rest c.further.cursor.rest c.further.items c.further.invariant.list
    (mark_stops mark.Comma c.further.cursor.rest c.accept.new.self.rest taken))
