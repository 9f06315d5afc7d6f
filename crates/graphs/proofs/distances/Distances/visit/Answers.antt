use Rattle.std.proofs.Common.{◌<◌, ◌++◌, ◌∷◌, [], List, ℕ, sym, ap, subst, ◌∙◌, length, get_or, take, arith}
use Rattle.std.proofs.lemmas.List.{take_more}
use Rattle.graphs.specs.Spreading.{Reaching, Spreads, reaching}
use Rattle.graphs.proofs.Spread.{spreads_more, spreads_past, distance_read, none_is, some_is}
use Rattle.graphs.proofs.distances.Distances.visit.Goals.{then-is_none+in_ok-reach, else-is_none}
use Rattle.graphs.proofs.distances.Distances.visit.Goals as goal

pub loop-source-preserved : goal.loop-source-preserved
loop-source-preserved c =
    let sources = c.args.sources.now in
    let i = c.loop-source.source-index in
    let a = get_or sources i 0 in
    let old = reaching c.args.self.now in
    let mid = reaching c.loop-source.self in
    let within : i < length sources = c.loop-source-test.true in
    let low : a < length mid.known = (let all = c.requires i 0 within in omega (arith, all, c.loop-source.invariant.size)) in
    let read = distance_read mid.known a c.index.result.now low c.index.ensures in
    subst (λ (xs : List ℕ). Spreads old (reaching c.if-is_none.self) xs c.args.distance) (sym (take_more sources i 0 within))
    (elim c.if-is_none.branch [
      | then-is_none+in_ok-reach w ↦
          subst (λ (r : Reaching). Spreads old r (take i sources ++ a ∷ []) c.args.distance) (sym (ap reaching w.self-is ∙ w.in_ok-reach.ensures))
          (spreads_more old mid (take i sources) c.args.distance a c.loop-source.invariant low (read ∙ none_is c.index.result.now w.if-is_none.ensures))
      | else-is_none w ↦ (
          let known = some_is c.index.result.now w.if-is_none.ensures in
          subst (λ (r : Reaching). Spreads old r (take i sources ++ a ∷ []) c.args.distance) (sym (ap reaching w.self-is))
          (spreads_past old mid (take i sources) c.args.distance a known.0 c.loop-source.invariant (read ∙ known.1)))
    ])
