use Rattle.std.proofs.Common.{◌≡◌, ◌-◌, ◌+◌, ◌≤◌, ap, ◌∙◌, sym, subst, arith, ℕ, ◌<◌, ◌++◌, ◌∷◌, [], List, length}
use Rattle.kinduction.specs.declared.found.Found.{Found}
use Rattle.kinduction.specs.Shares.{share_start, DecidesFrom}
use Rattle.kinduction.proofs.Answering.{start-more, answers-push}
use Rattle.kinduction.proofs.sharing.decide_share.Goals as goal

pub returns : goal.returns
returns c =
    let all = length c.args.l.now.obligations in
    let first : c.start_of-first.result ≡ share_start all c.args.workers c.args.worker = c.start_of-first.ensures.value ∙ ap (λ n. share_start n c.args.workers c.args.worker) c.len-count.ensures in
    let last : c.start_of-p-end.result ≡ share_start all c.args.workers (c.args.worker + 1) = c.start_of-p-end.ensures.value ∙ ap (λ n. share_start n c.args.workers (c.args.worker + 1)) c.len-count.ensures in
    let ordered : c.start_of-first.result ≤ c.start_of-p-end.result = omega (arith, first, last, start-more all c.args.workers c.args.worker (omega (arith, c.requires.worker))) in
    let ended : c.loop-p.p - c.start_of-first.result ≡ share_start all c.args.workers (c.args.worker + 1) - share_start all c.args.workers c.args.worker =
    omega (arith, first, last, ordered, c.loop-p.auto.p, c.loop-p.auto.p-end ordered, c.loop-p-test.false) in
    subst (λ k. DecidesFrom c.args.l.now c.args.depth c.args.budget k (share_start all c.args.workers (c.args.worker + 1) - share_start all c.args.workers c.args.worker) c.loop-p.answers) first
    (subst (λ k. DecidesFrom c.args.l.now c.args.depth c.args.budget c.start_of-first.result k c.loop-p.answers) ended c.loop-p.invariant)

pub decide-requires-clause-size : goal.decide-requires-clause-size
decide-requires-clause-size c =
    let lt : c.loop-p.p < length c.args.l.now.obligations = omega (arith, c.loop-p-test.true, c.start_of-p-end.ensures.bound, c.len-count.ensures) in
    c.requires.size c.loop-p.p lt

pub loop-p-preserved : goal.loop-p-preserved
loop-p-preserved c =
    let first = c.start_of-first.result in
    let n = c.loop-p.p - first in
    let here : first + n ≡ c.loop-p.p = omega (arith, c.loop-p.auto.p) in
    let count : n + 1 ≡ c.loop-p.p + 1 - first = omega (arith, c.loop-p.auto.p) in
    subst (λ (answers : List Found). DecidesFrom c.args.l.now c.args.depth c.args.budget first (c.loop-p.p + 1 - first) answers) (sym c.in_ok-push.ensures.ok)
    (subst (λ (k : ℕ). DecidesFrom c.args.l.now c.args.depth c.args.budget first k (c.loop-p.answers ++ c.in_ok-decide.field-0 ∷ [])) count
    (answers-push c.args.l.now c.args.depth c.args.budget first n c.loop-p.p c.loop-p.answers c.in_ok-decide.field-0 here c.loop-p.invariant c.in_ok-decide.ensures))
