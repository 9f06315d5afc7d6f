use Rattle.std.proofs.Common.{◌≡◌, refl, sym, ◌∙◌, ap}
use Rattle.std.proofs.lemmas.Slice.{first_rest}
use Rattle.hll_grammar.specs.Unread.{Unread}
use Rattle.hll_grammar.proofs.Signing.{no_comparison_sign}
use Rattle.hll_grammar.proofs.cursor.Cursor.accept_comparison.Goals as goal

pub returns-in_err-comparison-in-len1-up-clause-taken : goal.returns-in_err-comparison-in-len1-up-clause-taken
returns-in_err-comparison-in-len1-up-clause-taken c =
    rw c.from_residual.ensures (refl, no_comparison_sign c.args.self.now.rest _ _ (ap (λ (u : Unread). u.rest) (sym c.self.view_is) ∙ first_rest _ _ c.in-len1-up.len_at_least) (sym c.comparison.ensures ∙ c.in_err-comparison-in-len1-up.was))
