use Rattle.std.proofs.Common.{◌≡◌, length}
use Rattle.hll_tree.specs.Spells.{IsSection}
use Rattle.hll_grammar.specs.Reading.{ManySoFar}
use Rattle.hll_grammar.proofs.Whole.{after_sections}
use Rattle.hll_grammar.proofs.model.sections.Given as goal

abbrev pub invariant-loop-alloc : goal.invariant-loop-alloc
invariant-loop-alloc l = record {
  text : l.cursor.text ≡ l.fn.cursor.text;
  many : ManySoFar IsSection after_sections l.fn.cursor.text 200 l.fn.cursor.rest l.cursor.rest l.sections;
}

abbrev pub decreases-loop-alloc : goal.decreases-loop-alloc
decreases-loop-alloc l = length l.cursor.rest
