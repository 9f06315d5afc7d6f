use Rattle.std.proofs.Common.{◌<◌, ◌++◌, ◌∷◌, [], List, ℕ, sym, subst, length, get_or, take, arith}
use Rattle.std.proofs.lemmas.List.{take_more}
use Rattle.graphs.specs.Spreading.{AddsSource}
use Rattle.graphs.proofs.Spread.{adds_more}
use Rattle.graphs.proofs.distances.add_sources.Goals as goal

pub loop-target-preserved : goal.loop-target-preserved
loop-target-preserved c =
    let targets = c.args.row.now in
    let i = c.loop-target.target-index in
    let t = get_or targets i 0 in
    let old = c.args.sources.now.items in
    let mid = c.loop-target.sources.items in
    let within : i < length targets = c.loop-target-test.true in
    let low : t < length mid = (let all = c.requires i 0 within in omega (arith, all, c.loop-target.invariant.size)) in
    subst (λ (xs : List ℕ). AddsSource old c.push_at.new.lists.items c.args.node xs) (sym (take_more targets i 0 within))
    (subst (λ (lists : List (List ℕ)). AddsSource old lists c.args.node (take i targets ++ t ∷ [])) (sym c.in_ok-push_at.ensures)
    (adds_more old mid c.args.node t (take i targets) c.loop-target.invariant low))
