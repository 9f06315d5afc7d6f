-- Drafts that stay, and what holds of them.
use Rattle.std.proofs.Common.{◌≡◌, ℕ, Bool, List, [], ◌∷◌, ◌++◌, Some, slice_get, slice_set, length, All, ◌*◌, ◌%◌, ◌==◌, refl, sym, ap, subst, ◌∙◌, inl, inr, arith}
use Rattle.std.proofs.lemmas.Option.{same_Some}
use Rattle.std.proofs.lemmas.List.Elements.{All-push}
use Rattle.lll_core.specs.Signals.{signal_of}
use Rattle.lll_core.specs.declared.signal.Signal.{Signal}
use Rattle.lll_core.specs.declared.signal.Signal.TheVariants.{One, Input, Latch, Imp, Eqv}
use Rattle.lll_core.specs.declared.draft.Draft.{Draft}
use Rattle.lll_core.specs.declared.draft.Draft.TheVariants.{Whole, Waiting}
use Rattle.lll_core.specs.Tables.{Instant, signal_value, HoldsNow, GatesHold}
use Rattle.lll_core.specs.Drafts.{signal_in, signals_in, with_next, without_next, KeepsDrafts, IsLatch, IsLatchLiteral, IsWhole, GainsAtMost}
use Rattle.lll_core.proofs.ListLemmas.{slice_get-append, slice_get-map_back, slice_get-map_at, slice_get-set_there, slice_get-last}

-- the equations at one instant don't look at nexts
pub holds_without : (now : Instant) (d : Draft) (x : Bool) → HoldsNow now (signal_in d) x → HoldsNow now (signal_in (without_next d)) x
holds_without now (Waiting name init) x holds = holds
holds_without now (Whole (Latch name init next)) x holds = tt
holds_without now (Whole One) x holds = holds
holds_without now (Whole (Input name)) x holds = holds
holds_without now (Whole (Imp a b)) x holds = holds
holds_without now (Whole (Eqv a b)) x holds = holds

pub holds_with : (now : Instant) (d : Draft) (x : Bool) → HoldsNow now (signal_in (without_next d)) x → HoldsNow now (signal_in d) x
holds_with now (Waiting name init) x holds = holds
holds_with now (Whole (Latch name init next)) x holds = tt
holds_with now (Whole One) x holds = holds
holds_with now (Whole (Input name)) x holds = holds
holds_with now (Whole (Imp a b)) x holds = holds
holds_with now (Whole (Eqv a b)) x holds = holds

pub earlier_gates : (old new : List Draft) (now : Instant) → KeepsDrafts old new → GatesHold (signals_in new) now → GatesHold (signals_in old) now
earlier_gates old new now keeps holds n s at =
    let d = slice_get-map_back signal_in old n s at in
    let e = keeps n d.0 d.1 in
    let there = holds n (signal_in e.0) (slice_get-map_at signal_in new n e.0 e.1) in
    subst (λ t. HoldsNow now t (signal_value now n)) d.2
    (holds_with now d.0 (signal_value now n) (subst (λ f. HoldsNow now (signal_in f) (signal_value now n)) e.2 (holds_without now e.0 (signal_value now n) there)))

pub keeps_same : (drafts : List Draft) → KeepsDrafts drafts drafts
keeps_same drafts n d at = (d, at, refl)

pub keeps_added : (old more : List Draft) → KeepsDrafts old (old ++ more)
keeps_added old more n d at = (d, slice_get-append old more n d at, refl)

pub without_with : (next : ℕ) (d : Draft) → without_next (with_next next d) ≡ without_next d
without_with next (Waiting name init) = refl
without_with next (Whole (Latch name init old)) = refl
without_with next (Whole One) = refl
without_with next (Whole (Input name)) = refl
without_with next (Whole (Imp a b)) = refl
without_with next (Whole (Eqv a b)) = refl

pub keeps_next : (old : List Draft) (n next : ℕ) (d : Draft) → slice_get old n ≡ Some d → KeepsDrafts old (slice_set old n (with_next next d))
keeps_next old n next d at k e at_k = elim (slice_get-set_there old n (with_next next d) k e at_k) [
  | inl p ↦ (e, p, refl)
  | inr p ↦ (with_next next d, p.1, without_with next d ∙ ap without_next (same_Some d e (sym at ∙ ap (slice_get old) (sym p.0) ∙ at_k)))
]

pub keeps_chain : (old later new : List Draft) → KeepsDrafts old later → KeepsDrafts later new → KeepsDrafts old new
keeps_chain old later new keeps others n d at =
    let e = keeps n d at in
    let f = others n e.0 e.1 in
    (f.0, f.1, f.2 ∙ e.2)

-- ---- latches that came last

-- the literal of a latch that came last
pub latch_literal : (old new : List Draft) (d : Draft) (literal : ℕ) → new ≡ old ++ d ∷ [] → literal ≡ 2 * length old → IsLatch d → IsLatchLiteral new literal
latch_literal old new d literal added is latch =
    let signal : signal_of literal ≡ length old = omega (arith, is) in
    let parity : literal % 2 ≡ 0 = omega (arith, is) in
    record {
      positive = ap (λ r. r == 1) parity;
      latch = (d, ap (λ ds. slice_get ds (signal_of literal)) added ∙ ap (slice_get (old ++ d ∷ [])) signal ∙ slice_get-last old d, latch);
    }

pub set_last : (old : List Draft) (d e : Draft) → slice_set (old ++ d ∷ []) (length old) e ≡ old ++ e ∷ []
set_last [] d e = refl
set_last (x ∷ old) d e = ap (λ ds. x ∷ ds) (set_last old d e)

-- its next
pub next_last : (old before new : List Draft) (name : List ℕ) (init next literal : ℕ) → before ≡ old ++ Waiting name init ∷ [] → literal ≡ 2 * length old
    → ((d : Draft) → slice_get before (signal_of literal) ≡ Some d → new ≡ slice_set before (signal_of literal) (with_next next d))
    → new ≡ old ++ Whole (Latch name init next) ∷ []
next_last old before new name init next literal added is set =
    let signal : signal_of literal ≡ length old = omega (arith, is) in
    set (Waiting name init) (ap (λ ds. slice_get ds (signal_of literal)) added ∙ ap (slice_get (old ++ Waiting name init ∷ [])) signal ∙ slice_get-last old (Waiting name init))
    ∙ ap (λ ds. slice_set ds (signal_of literal) (Whole (Latch name init next))) added
    ∙ ap (λ k. slice_set (old ++ Waiting name init ∷ []) k (Whole (Latch name init next))) signal
    ∙ set_last old (Waiting name init) (Whole (Latch name init next))

-- drafts that are whole, as a signal comes
pub whole_push : (old new : List Draft) (s : Signal) → All IsWhole old → new ≡ old ++ Whole s ∷ [] → All IsWhole new
whole_push old new s all added = subst (All IsWhole) (sym added) (All-push IsWhole old (Whole s) all (s, refl))

pub whole_gains : (old new : List Draft) (s : Signal) → All IsWhole old → GainsAtMost s old new → All IsWhole new
whole_gains old new s all gains = elim gains [ inl e ↦ subst (All IsWhole) (sym e) all | inr e ↦ whole_push old new s all e ]
