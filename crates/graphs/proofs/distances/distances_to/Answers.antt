use Rattle.std.proofs.Common.{◌≡◌, ◌<◌, ◌≤◌, ◌+◌, [], List, ℕ, Some, None, Option, refl, sym, ap, subst, ◌∙◌, length, get_or, replicate, arith}
use Rattle.std.proofs.lemmas.List.{length-set, length-replicate, get_or_default}
use Rattle.graphs.specs.Graphs.{row}
use Rattle.graphs.specs.Spreading.{HasSource, Reaching, IsSpread, IsVisiting, reaching}
use Rattle.graphs.proofs.Spread.{spread_first, spread_all, distance_read, visited_next, same_some, visiting_more}
use Rattle.graphs.proofs.distances.distances_to.Goals.{in-Some+in_ok-visit, in_default}
use Rattle.graphs.proofs.distances.distances_to.Goals as goal

pub loop-visited-init : goal.loop-visited-init
loop-visited-init c =
    let n = length c.args.sources.now in
    let is = c.in_ok-distances.ensures in
    let none : Option ℕ = None in
    record {
      size = ap (λ (r : Reaching). length r.known) is ∙ length-set (replicate n none) c.args.start (Some 0) ∙ length-replicate n none;
      within = omega arith;
      spread = subst (λ (r : Reaching). IsSpread (HasSource c.args.sources.now) c.args.start r 0) (sym is) (spread_first (HasSource c.args.sources.now) c.args.start n c.requires.start);
    }

pub index-requires-in-loop-visited : goal.index-requires-in-loop-visited
index-requires-in-loop-visited c =
    let r = reaching c.loop-visited.distances in
    let within : c.loop-visited.visited < length r.reached = omega (arith, c.loop-visited-test.true, c.len.ensures, c.loop-visited.distances.reached.ok.0) in
    let next = visited_next (HasSource c.args.sources.now) c.args.start r c.loop-visited.visited c.index.result.now c.loop-visited.invariant.spread within c.index.ensures in
    omega (arith, next.1, c.loop-visited.distances.known.ok.0)

pub bounds-sources-node : goal.bounds-sources-node
bounds-sources-node c =
    let r = reaching c.loop-visited.distances in
    let within : c.loop-visited.visited < length r.reached = omega (arith, c.loop-visited-test.true, c.len.ensures, c.loop-visited.distances.reached.ok.0) in
    let next = visited_next (HasSource c.args.sources.now) c.args.start r c.loop-visited.visited c.index.result.now c.loop-visited.invariant.spread within c.index.ensures in
    omega (arith, next.1, c.loop-visited.invariant.size)

pub overflow_add-distance : goal.overflow_add-distance
overflow_add-distance c =
    let r = reaching c.loop-visited.distances in
    let within : c.loop-visited.visited < length r.reached = omega (arith, c.loop-visited-test.true, c.len.ensures, c.loop-visited.distances.reached.ok.0) in
    let next = visited_next (HasSource c.args.sources.now) c.args.start r c.loop-visited.visited c.index.result.now c.loop-visited.invariant.spread within c.index.ensures in
    let is = distance_read r.known c.index.result.now c.index-in-loop-visited.result.now next.1 c.index-in-loop-visited.ensures ∙ c.in-Some.is in
    let same : c.in-Some.distance ≡ next.2.0 = same_some is next.2.1 in
    let low : next.2.0 ≤ c.loop-visited.visited = next.2.2 in
    omega (arith, same, low, c.loop-visited-test.true, c.len.type_inv)

pub visit-requires : goal.visit-requires
visit-requires c = λ k d inside.
    let r = reaching c.loop-visited.distances in
    let within : c.loop-visited.visited < length r.reached = omega (arith, c.loop-visited-test.true, c.len.ensures, c.loop-visited.distances.reached.ok.0) in
    let next = visited_next (HasSource c.args.sources.now) c.args.start r c.loop-visited.visited c.index.result.now c.loop-visited.invariant.spread within c.index.ensures in
    let low : c.index.result.now < length c.args.sources.now = omega (arith, next.1, c.loop-visited.invariant.size) in
    let read : c.as_slice.result.now ≡ get_or c.args.sources.now c.index.result.now c.as_slice.result.now = c.as_slice.ensures ∙ c.index-sources-node.is ∙ get_or_default c.args.sources.now c.index.result.now c.index-sources-node.result c.as_slice.result.now low in
    let all = c.requires.nodes c.index.result.now c.as_slice.result.now low in
    let here = subst (λ (xs : List ℕ). (k d : ℕ) → k < length xs → get_or xs k d < length c.args.sources.now) (sym read) all in
    omega (arith, here k d inside, c.loop-visited.invariant.size)

pub loop-visited-preserved : goal.loop-visited-preserved
loop-visited-preserved c =
    let r = reaching c.loop-visited.distances in
    let visited = c.loop-visited.visited in
    let node = c.index.result.now in
    let within : visited < length r.reached = omega (arith, c.loop-visited-test.true, c.len.ensures, c.loop-visited.distances.reached.ok.0) in
    let next = visited_next (HasSource c.args.sources.now) c.args.start r visited node c.loop-visited.invariant.spread within c.index.ensures in
    let read = distance_read r.known node c.index-in-loop-visited.result.now next.1 c.index-in-loop-visited.ensures in
    elim c.match-index.branch [
      | in-Some+in_ok-visit w ↦ (
          let low : node < length c.args.sources.now = omega (arith, next.1, c.loop-visited.invariant.size) in
          let listed : w.as_slice.result.now ≡ row c.args.sources.now node = w.as_slice.ensures ∙ w.index-sources-node.is ∙ get_or_default c.args.sources.now node w.index-sources-node.result [] low in
          subst (λ (t : Reaching). IsVisiting c.args.sources.now c.args.start t (visited + 1)) (sym (ap reaching w.distances-is))
          (visiting_more c.args.sources.now c.args.start r (reaching w.visit.new.self) visited node w.in-Some.distance (w.in-Some.distance + 1) w.as_slice.result.now
          c.loop-visited.invariant within next.0 (read ∙ w.in-Some.is) refl listed w.in_ok-visit.ensures))
      | in_default w ↦ absurd (w.in_default.not-Some next.2.0 (sym read ∙ next.2.1))
    ]

pub returns-clause-distances : goal.returns-clause-distances
returns-clause-distances c =
    let r = reaching c.loop-visited.distances in
    spread_all (HasSource c.args.sources.now) c.args.start r c.loop-visited.visited c.loop-visited.invariant.spread (omega (arith, c.loop-visited-test.false, c.len.ensures, c.loop-visited.distances.reached.ok.0))
