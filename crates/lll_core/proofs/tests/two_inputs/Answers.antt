use Rattle.std.proofs.Common.{sym, subst, refl, All, []}
use Rattle.std.proofs.lemmas.List.Elements.{All-nil, All-cons}
use Rattle.lll_core.specs.declared.draft.Draft.TheVariants.{Whole}
use Rattle.lll_core.specs.declared.signal.Signal.TheVariants.{One}
use Rattle.lll_core.specs.Drafts.{IsWhole}
use Rattle.lll_core.proofs.DraftLemmas.{whole_push}
use Rattle.lll_core.proofs.tests.two_inputs.Goals as goal

pub returns-clause-whole : goal.returns-clause-whole
returns-clause-whole c =
    let start = subst (All IsWhole) (sym c.in_ok-builder.ensures) (All-cons IsWhole (Whole One) [] (One, refl) (All-nil IsWhole)) in
    whole_push _ _ _ (whole_push _ _ _ start c.in_ok-input.ensures.added) c.in_ok-input-2.ensures.added
