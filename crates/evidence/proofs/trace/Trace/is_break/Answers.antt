use Rattle.std.proofs.Common.{◌≡◌, ◌∙◌, ℕ, true, List, ap}
use Rattle.std.specs.Prelude.{IsTrue, not, slice_index}
use Rattle.lll_core.specs.Tables.{Instant, value as value_of}
use Rattle.unroll_cnf.specs.Unrollings.{obligation}
use Rattle.evidence.proofs.TraceLemmas.{run_breaks, break_then}
use Rattle.evidence.proofs.trace.Trace.is_break.Goals as goal

pub returns-then-self : goal.returns-then-self
returns-then-self c = λ rows j has count.
    let l = c.args.l.now in
    let p = c.args.p in
    let last = c.args.self.now.before.items in
    let same : c.value.result ≡ value_of last (obligation l p) =
    c.value.ensures ∙ ap (λ (now : Instant). value_of now (slice_index c.as_slice.result.now p)) c.deref.ensures.value ∙ ap (λ (xs : List ℕ). value_of last (slice_index xs p)) c.as_slice.ensures in
    run_breaks l p j rows c.args.self.now (not c.value.result) has count (break_then c.value.result (value_of last (obligation l p)) (IsTrue c.args.self.now.is_admitted) c.if-self.true same)

pub returns-else-self : goal.returns-else-self
returns-else-self c = λ rows j has count.
    run_breaks c.args.l.now c.args.p j rows c.args.self.now c.args.self.now.is_admitted has count
    (λ yes. (let t : c.args.self.now.is_admitted ≡ true = yes in cc), λ both. both.0)
