use Rattle.std.proofs.Common.{length, length-set, ap, sym, ◌∙◌, subst, slice_set, slice_get, ◌/◌}
use Rattle.std.proofs.lemmas.Option.{get_or_from_slice_get}
use Rattle.lll_core.specs.Signals.{NamesSignal}
use Rattle.lll_core.specs.Drafts.{with_next}
use Rattle.lll_core.proofs.NextLemmas.{IsBuilding-next}
use Rattle.lll_core.proofs.builder.Builder.set_next.Goals as goal

pub invariant_of-self : goal.invariant_of-self
invariant_of-self c =
    let view = c.self.view_is in
    let l = c.requires.latch.latch in
    let at = ap (λ ds. slice_get ds (c.args.latch / 2)) view ∙ l.1 in
    IsBuilding-next _ _ _ c.args.next l.0 _ c.self.invariant at l.2 (subst (λ ds. NamesSignal ds c.args.next) (sym view) c.requires.next)
    (c.with_next.ensures ∙ ap (with_next c.args.next) (c.replace-draft.ensures.value ∙ c.index_mut-slot.ensures.value ∙ get_or_from_slice_get c.self.inside.drafts.items (c.args.latch / 2) l.0 c.index_mut-slot.result.now at))

pub returns-clause-long : goal.returns-clause-long
returns-clause-long c = length-set c.self.inside.drafts.items (c.args.latch / 2) c.with_next.result ∙ ap length c.self.view_is

pub returns-clause-next : goal.returns-clause-next
returns-clause-next c = λ d at.
    let view = c.self.view_is in
    let here = ap (λ ds. slice_get ds (c.args.latch / 2)) view ∙ at in
    ap (λ ds. slice_set ds (c.args.latch / 2) c.with_next.result) view
    ∙ ap (slice_set c.args.self.now (c.args.latch / 2)) (c.with_next.ensures ∙ ap (with_next c.args.next)
    (c.replace-draft.ensures.value ∙ c.index_mut-slot.ensures.value ∙ get_or_from_slice_get c.self.inside.drafts.items (c.args.latch / 2) d c.index_mut-slot.result.now here))
