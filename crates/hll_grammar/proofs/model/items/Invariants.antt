use Rattle.std.proofs.Common.{◌≡◌, length}
use Rattle.hll_grammar.specs.Reading.{ManySoFar}
use Rattle.hll_grammar.specs.Repetition.{IsEnded}
use Rattle.hll_grammar.proofs.model.items.Given as goal

abbrev pub invariant-loop-alloc : goal.invariant-loop-alloc
invariant-loop-alloc g l = record {
  text : l.cursor.text ≡ l.fn.cursor.text;
  many : ManySoFar (IsEnded g.T.Read.form) g.T.Item.begins l.fn.cursor.text 200 l.fn.cursor.rest l.cursor.rest l.items;
}

abbrev pub decreases-loop-alloc : goal.decreases-loop-alloc
decreases-loop-alloc g l = length l.cursor.rest
