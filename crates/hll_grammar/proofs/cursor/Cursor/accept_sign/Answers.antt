use Rattle.std.proofs.Common.{◌≡◌, refl, sym, ◌∙◌, ap}
use Rattle.std.proofs.lemmas.Slice.{first_rest}
use Rattle.hll_grammar.specs.Unread.{Unread}
use Rattle.hll_grammar.proofs.Signing.{no_sign, other_sign}
use Rattle.hll_grammar.proofs.cursor.Cursor.accept_sign.Goals as goal

pub returns-in_err-op-in-len1-up-clause-taken : goal.returns-in_err-op-in-len1-up-clause-taken
returns-in_err-op-in-len1-up-clause-taken c =
    rw c.from_residual.ensures (refl, no_sign c.args.precedence c.args.self.now.rest _ _ (ap (λ (u : Unread). u.rest) (sym c.self.view_is) ∙ first_rest _ _ c.in-len1-up.len_at_least) (sym c.operator.ensures ∙ c.in_err-op-in-len1-up.was))

pub returns-then-not-binds-clause-taken : goal.returns-then-not-binds-clause-taken
returns-then-not-binds-clause-taken c =
    (refl, other_sign c.args.precedence c.args.self.now.rest _ _ c.in_ok-op-in-len1-up.op (ap (λ (u : Unread). u.rest) (sym c.self.view_is) ∙ first_rest _ _ c.in-len1-up.len_at_least) (sym c.operator.ensures ∙ c.in_ok-op-in-len1-up.was) (λ is. let yes = c.binds.ensures.1 is in cc (yes, c.if-not-binds.true)))
