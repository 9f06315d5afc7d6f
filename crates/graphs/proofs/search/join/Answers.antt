use Rattle.std.proofs.Common.{◌≡◌, ◌++◌, ◌∷◌, [], ap, sym, ◌∙◌}
use Rattle.graphs.proofs.Segments.{joined_here, removed_more, without_last}
use Rattle.graphs.proofs.search.join.Goals as goal

pub loop-last-preserved : goal.loop-last-preserved
loop-last-preserved c =
    let now = c.loop-last.segments.items in
    let split = c.loop-last.invariant in
    let is : now ≡ c.in-Some.ensures.0 ++ c.in-Some.last ∷ [] = sym c.deref.ensures.value ∙ c.in-Some.ensures.1 in
    let rest = c.pop.ensures.rest ∙ without_last now c.in-Some.ensures.0 c.in-Some.last c.loop-last.segments.len is c.loop-last.segments.ok.0 in
    removed_more c.args.segments.now.items now c.pop.new.self.items split.0 c.in-Some.last c.args.place split.1 (is ∙ ap (λ xs. xs ++ c.in-Some.last ∷ []) (sym rest)) split.2 c.if-last-place.false

pub returns-then-last-place : goal.returns-then-last-place
returns-then-last-place c =
    let split = c.loop-last.invariant in
    joined_here c.args.segments.now.items c.loop-last.segments.items c.in-Some.ensures.0 split.0 c.in-Some.last c.args.place c.requires split.1 (sym c.deref.ensures.value ∙ c.in-Some.ensures.1) split.2 c.if-last-place.true
