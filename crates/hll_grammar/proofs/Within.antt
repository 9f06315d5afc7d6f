-- What is spelled within some levels is spelled.
use Rattle.std.proofs.Common.{◌≡◌, ℕ, ◌≤◌, nat_le, nat_lt, Bool, true, false, List, refl, arith}
use Rattle.std.specs.Prelude.{if◌then◌else◌}
use Rattle.hll_lexer.specs.declared.token.Token.{Token}
use Rattle.hll_tree.specs.declared.tree.HllModel.{HllModel}
use Rattle.hll_tree.specs.Spells.{SpellsWithin, SpellsUnder, Spells, at_most, at_most_before}
use Rattle.hll_grammar.proofs.Alive.{widened, unlimited_too}
use Rattle.hll_grammar.proofs.Sections.{model_part}

pub within_spells : (levels : ℕ) (text : List ℕ) (tokens : List Token) (m : HllModel) → SpellsWithin levels text tokens m → Spells text tokens m
within_spells levels text tokens m is = (is.0, unlimited_too model_part text (at_most levels) is.0 is.0 0 (omega arith) tokens m is.1)

-- what opens no level above a limit opens none above it before any place
pub within_before : (levels at : ℕ) (text : List ℕ) (tokens : List Token) (m : HllModel) → SpellsWithin levels text tokens m → SpellsUnder (at_most_before at levels) text tokens m
within_before levels at text tokens m is =
    (is.0, widened model_part text (at_most levels) (at_most_before at levels) is.0 is.0 0 (λ t level low. either (nat_lt t.from at) (nat_le level levels) low) (omega arith) tokens m is.1)
  where
    either : (b c : Bool) → c ≡ true → (if b then c else true) ≡ true
    either true c is = is
    either false c is = refl
