use Rattle.std.proofs.Common.{◌≡◌, ◌++◌, ◌∷◌, [], List, ℕ, refl, sym, ap, subst, ◌∙◌, drop}
use Rattle.graphs.specs.Graphs.{HasArrow}
use Rattle.graphs.specs.Searches.{AreFinished, IsLeastOnCycle}
use Rattle.graphs.proofs.Segments.{without_last}
use Rattle.graphs.proofs.search.Search.leave.Goals as goal

pub returns : goal.returns
returns c =
    let s = c.args.self.now in
    let last = c.args.last in
    let nodes : c.nodes_from-nodes.result.now ≡ drop last.nodes s.path.items = c.nodes_from-nodes.ensures ∙ ap (drop last.nodes) c.deref.ensures.value in
    let rest = c.pop.ensures.rest ∙ without_last s.segments.items c.requires.last.0 last s.segments.len c.requires.last.1 s.segments.ok.0 in
    record {
      path = c.truncate.ensures.items;
      segments = c.requires.last.1 ∙ ap (λ xs. xs ++ last ∷ []) (sym rest);
      waiting = refl;
      order = c.in_ok-extend_from_slice.ensures.items ∙ ap (λ (xs : List ℕ). s.order.items ++ xs) nodes;
      places = subst (AreFinished s.places.items c.mark_finished.new.places.items) nodes c.mark_finished.ensures;
      found = c.least_on_cycle.result;
      is_found = subst (λ (xs : List ℕ). IsLeastOnCycle (HasArrow c.args.graph.now.rows) xs c.least_on_cycle.result) nodes c.least_on_cycle.ensures;
      start = c.least-self.ensures;
    }
