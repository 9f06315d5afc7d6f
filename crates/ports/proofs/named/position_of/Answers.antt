use Rattle.std.proofs.Common.{◌≡◌, sym, ap, ◌∙◌, arith, get_or}
use Rattle.std.proofs.lemmas.Slice.Eq.{bytes_eq-Decides}
use Rattle.ports.proofs.NamedLemmas.{IsFirst-from_places, first_named-from_none}
use Rattle.ports.proofs.named.position_of.Goals as goal

pub returns-then-eq-clause-place : goal.returns-then-eq-clause-place
returns-then-eq-clause-place g c =
    let entry = c.index-entries-place.result in
    let named : g.E.Named.key (get_or c.args.entries.now c.loop-place.place entry) ≡ c.args.name.now =
    sym (ap g.E.Named.key c.index-entries-place.is) ∙ sym c.name.ensures ∙ (bytes_eq-Decides _ _).0 (sym c.eq.ensures ∙ c.if-eq.true) in
    IsFirst-from_places g.E.Named.key _ _ _ entry (omega arith) named (λ k h. c.loop-place.invariant k entry h)

pub returns-clause-place : goal.returns-clause-place
returns-clause-place g c = first_named-from_none g.E.Named.key _ _ (λ k d h. c.loop-place.invariant k d (omega arith))
