use Rattle.std.proofs.Common.{◌≡◌, length}
use Rattle.hll_grammar.specs.Repetition.{ListSoFar}
use Rattle.hll_grammar.proofs.reading.listed.Given as goal

abbrev pub invariant-further : goal.invariant-further
invariant-further g l = record {
  text : l.cursor.text ≡ l.fn.cursor.text;
  list : ListSoFar g.T.Read.form g.T.Read.goes_on l.fn.cursor.text 200 l.fn.cursor.rest l.cursor.rest l.items;
}

abbrev pub decreases-further : goal.decreases-further
decreases-further g l = length l.cursor.rest
