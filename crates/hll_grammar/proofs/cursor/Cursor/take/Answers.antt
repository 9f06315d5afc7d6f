use Rattle.std.proofs.Common.{◌≡◌, refl, sym, ◌∙◌, ap}
use Rattle.std.proofs.lemmas.Slice.{first_rest}
use Rattle.hll_grammar.specs.Unread.{Unread}
use Rattle.hll_grammar.proofs.cursor.Cursor.take.Goals as goal

pub returns-in-len1-up-clause-taken : goal.returns-in-len1-up-clause-taken
returns-in-len1-up-clause-taken c =
    (ap (λ (u : Unread). u.rest) (sym c.self.view_is) ∙ first_rest _ _ c.in-len1-up.len_at_least, c.if-is_kind.ensures.0 refl)
