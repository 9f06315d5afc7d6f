use Rattle.std.proofs.Common.{refl, inl, sym, subst, All, []}
use Rattle.lll_core.specs.declared.draft.Draft.TheVariants.{Whole}
use Rattle.lll_core.specs.declared.signal.Signal.TheVariants.{One}
use Rattle.std.proofs.lemmas.List.Elements.{All-nil, All-cons}
use Rattle.lll_core.specs.Drafts.{IsWhole}
use Rattle.lll_core.proofs.DraftLemmas.{latch_literal, next_last, whole_push, whole_gains}
use Rattle.lll_core.proofs.tests.model.Goals as goal

pub set_next-requires-clause-latch : goal.set_next-requires-clause-latch
set_next-requires-clause-latch c = latch_literal _ _ _ _ c.in_ok-latch.ensures.added c.in_ok-latch.ensures.literal (_, _, inl refl)

pub finish-requires-clause-whole : goal.finish-requires-clause-whole
finish-requires-clause-whole c =
    let start = subst (All IsWhole) (sym c.in_ok-builder.ensures) (All-cons IsWhole (Whole One) [] (One, refl) (All-nil IsWhole)) in
    let inputs = whole_push _ _ _ (whole_push _ _ _ start c.in_ok-a.ensures.added) c.in_ok-b.ensures.added in
    let latch = whole_push _ _ _ inputs (next_last _ _ _ _ _ _ _ c.in_ok-latch.ensures.added c.in_ok-latch.ensures.literal c.set_next.ensures.next) in
    let gates = whole_gains _ _ _ (whole_gains _ _ _ latch c.in_ok-implied.ensures.added) c.in_ok-equal.ensures.added in
    subst (All IsWhole) (sym c.builder-5.view_is) gates
