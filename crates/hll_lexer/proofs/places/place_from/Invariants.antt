use Rattle.std.proofs.Common.{◌≡◌, ◌+◌}
use Rattle.hll_lexer.specs.Place.{place_of}
use Rattle.hll_lexer.proofs.places.place_from.Given as goal

abbrev pub invariant-loop-byte : goal.invariant-loop-byte
invariant-loop-byte l = l.here ≡ place_of l.text (l.from + l.byte-index)
