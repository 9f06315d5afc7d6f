use Rattle.std.proofs.Common.{refl, sym, ◌∙◌, subst}
use Rattle.hll_tree.specs.Spells.{IsSection}
use Rattle.hll_grammar.specs.Reading.{ManySoFar}
use Rattle.hll_grammar.proofs.Answering.{got, lost}
use Rattle.hll_grammar.proofs.Exits.{exits}
use Rattle.hll_grammar.proofs.Readings.{many_start}
use Rattle.hll_grammar.proofs.Sections.{section_part}
use Rattle.hll_grammar.proofs.Whole.{after_sections, part_shorter, section_more, section_fails, section_end}
use Rattle.hll_grammar.proofs.model.sections.Goals as goal

pub loop-alloc-init : goal.loop-alloc-init
loop-alloc-init c = record {
  text = refl;
  many = subst (λ xs. ManySoFar IsSection after_sections c.args.cursor.now.text 200 c.args.cursor.now.rest c.args.cursor.now.rest xs) (sym c.new-sections.ensures) (many_start IsSection after_sections c.args.cursor.now.text 200 c.args.cursor.now.rest);
}

pub returns-in_err-section-clause-text : goal.returns-in_err-section-clause-text
returns-in_err-section-clause-text c = c.section.ensures.text ∙ c.loop-alloc.invariant.text

pub returns-in_err-section-clause-reads : goal.returns-in_err-section-clause-reads
returns-in_err-section-clause-reads c =
    exits c.section.new.cursor.rest c.from_residual.result c.from_residual.ensures.1
    (section_fails c.loop-alloc.invariant.many (sym c.is_section_next.ensures ∙ c.loop-alloc-test.true) (lost c.loop-alloc.invariant.text c.in_err-section.ensures.reads))

pub loop-alloc-smaller : goal.loop-alloc-smaller
loop-alloc-smaller c = part_shorter section_part c.in_ok-section.ensures.reads

pub loop-alloc-preserved : goal.loop-alloc-preserved
loop-alloc-preserved c = record {
  text = c.section.ensures.text ∙ c.loop-alloc.invariant.text;
  many = subst (λ xs. ManySoFar IsSection after_sections c.args.cursor.now.text 200 c.args.cursor.now.rest c.section.new.cursor.rest xs) (sym c.in_ok-push.ensures.pushed)
      (section_more c.loop-alloc.invariant.many (got c.loop-alloc.invariant.text c.in_ok-section.ensures.reads));
}

pub returns-in_err-push-clause-text : goal.returns-in_err-push-clause-text
returns-in_err-push-clause-text c = c.section.ensures.text ∙ c.loop-alloc.invariant.text

pub returns-clause-text : goal.returns-clause-text
returns-clause-text c = c.loop-alloc.invariant.text

pub returns-clause-reads : goal.returns-clause-reads
returns-clause-reads c = section_end c.loop-alloc.invariant.many (sym c.is_section_next.ensures ∙ c.loop-alloc-test.false)
