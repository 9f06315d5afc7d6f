use Rattle.std.proofs.Common.{refl, sym, ◌∙◌, subst, arith}
use Rattle.hll_grammar.specs.Reading.{ManySoFar}
use Rattle.hll_grammar.specs.Repetition.{IsEnded}
use Rattle.hll_grammar.proofs.Answering.{got, lost}
use Rattle.hll_grammar.proofs.Exits.{exits}
use Rattle.hll_grammar.proofs.Readings.{many_start}
use Rattle.hll_grammar.proofs.Whole.{not_longer, shorter}
use Rattle.hll_grammar.proofs.model.items.Goals as goal

pub loop-alloc-init : goal.loop-alloc-init
loop-alloc-init g c = record {
  text = refl;
  many = subst (λ xs. ManySoFar (IsEnded g.T.Read.form) g.T.Item.begins c.args.cursor.now.text 200 c.args.cursor.now.rest c.args.cursor.now.rest xs) (sym c.new-items.ensures)
      (many_start (IsEnded g.T.Read.form) g.T.Item.begins c.args.cursor.now.text 200 c.args.cursor.now.rest);
}

pub returns-in_err-item-clause-text : goal.returns-in_err-item-clause-text
returns-in_err-item-clause-text g c = c.read.ensures.text ∙ c.loop-alloc.invariant.text

pub returns-in_err-item-clause-reads : goal.returns-in_err-item-clause-reads
returns-in_err-item-clause-reads g c =
    exits c.read.new.cursor.rest c.from_residual.result c.from_residual.ensures.1
    (c.requires.item_fails c.args.cursor.now.text 200 c.args.cursor.now.rest c.loop-alloc.cursor.rest c.loop-alloc.items c.in_err-item.field-0.0 c.loop-alloc.invariant.many
    (sym c.is_next.ensures ∙ c.loop-alloc-test.true) (lost c.loop-alloc.invariant.text c.in_err-item.ensures.reads))

pub returns-in_err-expect-clause-text : goal.returns-in_err-expect-clause-text
returns-in_err-expect-clause-text g c = c.expect.ensures.text ∙ c.read.ensures.text ∙ c.loop-alloc.invariant.text

pub returns-in_err-expect-clause-reads : goal.returns-in_err-expect-clause-reads
returns-in_err-expect-clause-reads g c =
    exits c.expect.new.self.rest c.from_residual-in_err-expect.result c.from_residual-in_err-expect.ensures.1
    (c.requires.end_fails c.args.cursor.now.text 200 c.args.cursor.now.rest c.loop-alloc.cursor.rest c.read.new.cursor.rest c.loop-alloc.items c.in_ok-item.item c.in_err-expect.field-0.0
    c.loop-alloc.invariant.many (sym c.is_next.ensures ∙ c.loop-alloc-test.true) (got c.loop-alloc.invariant.text c.in_ok-item.ensures.reads)
    (lost (c.read.ensures.text ∙ c.loop-alloc.invariant.text) (c.in_err-expect.ensures.reads 200)))

pub loop-alloc-smaller : goal.loop-alloc-smaller
loop-alloc-smaller g c =
    let a = not_longer c.in_ok-item.ensures.reads in
    let b = shorter (c.in_ok-expect.ensures.reads 200) in
    omega arith

pub loop-alloc-preserved : goal.loop-alloc-preserved
loop-alloc-preserved g c = record {
  text = c.expect.ensures.text ∙ c.read.ensures.text ∙ c.loop-alloc.invariant.text;
  many = subst (λ xs. ManySoFar (IsEnded g.T.Read.form) g.T.Item.begins c.args.cursor.now.text 200 c.args.cursor.now.rest c.expect.new.self.rest xs) (sym c.in_ok-push.ensures.pushed)
      (c.requires.further c.args.cursor.now.text 200 c.args.cursor.now.rest c.loop-alloc.cursor.rest c.read.new.cursor.rest c.expect.new.self.rest c.loop-alloc.items c.in_ok-item.item
      c.in_ok-expect.field-0 c.loop-alloc.invariant.many (got c.loop-alloc.invariant.text c.in_ok-item.ensures.reads)
      (got (c.read.ensures.text ∙ c.loop-alloc.invariant.text) (c.in_ok-expect.ensures.reads 200)));
}

pub returns-in_err-push-clause-text : goal.returns-in_err-push-clause-text
returns-in_err-push-clause-text g c = c.expect.ensures.text ∙ c.read.ensures.text ∙ c.loop-alloc.invariant.text

pub returns-clause-text : goal.returns-clause-text
returns-clause-text g c = c.loop-alloc.invariant.text

pub returns-clause-reads : goal.returns-clause-reads
returns-clause-reads g c =
    c.requires.end c.args.cursor.now.text 200 c.args.cursor.now.rest c.loop-alloc.cursor.rest c.loop-alloc.items c.loop-alloc.invariant.many
    (sym c.is_next.ensures ∙ c.loop-alloc-test.false)
