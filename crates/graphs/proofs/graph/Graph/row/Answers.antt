use Rattle.std.proofs.Common.{◌≡◌, ◌∷◌, ◌<◌, ℕ, List, ap, sym, ◌∙◌, length, get_or, arith}
use Rattle.std.specs.Prelude.{slice_range}
use Rattle.std.proofs.lemmas.List.{get_or_default}
use Rattle.graphs.specs.Graphs.{Arrows, row}
use Rattle.graphs.proofs.Pieces.{piece_at, ends_at, length-pieces}
use Rattle.graphs.proofs.graph.Graph.row.Goals as goal

pub start-from-requires : goal.start-from-requires
start-from-requires c = grind (arith, length-pieces, c.self.view_is, c.requires)

pub index-to-requires : goal.index-to-requires
index-to-requires c = grind (arith, length-pieces, c.self.view_is, c.requires)

pub part-requires-clause-ordered : goal.part-requires-clause-ordered
part-requires-clause-ordered c =
    let ends = c.self.inside.ends.items in
    let within : c.args.node < length ends = grind (arith, length-pieces, c.self.view_is, c.requires) in
    let bounds = ends_at 0 ends (length c.self.inside.targets.items) c.args.node c.self.invariant within in
    let from : c.start-from.result ≡ get_or (0 ∷ ends) c.args.node 0 = c.start-from.ensures ∙ ap (λ (e : List ℕ). get_or (0 ∷ e) c.args.node 0) c.deref.ensures.value in
    let to : c.index-to.result.now ≡ get_or ends c.args.node 0 = c.index-to.ensures ∙ get_or_default ends c.args.node c.index-to.result.now 0 within in
    omega (arith, bounds.0, from, to)

pub part-requires-clause-within : goal.part-requires-clause-within
part-requires-clause-within c =
    let ends = c.self.inside.ends.items in
    let within : c.args.node < length ends = grind (arith, length-pieces, c.self.view_is, c.requires) in
    let bounds = ends_at 0 ends (length c.self.inside.targets.items) c.args.node c.self.invariant within in
    let to : c.index-to.result.now ≡ get_or ends c.args.node 0 = c.index-to.ensures ∙ get_or_default ends c.args.node c.index-to.result.now 0 within in
    let all : length c.deref-2.result.now ≡ length c.self.inside.targets.items = ap length c.deref-2.ensures.value in
    omega (arith, bounds.1, to, all)

pub returns : goal.returns
returns c =
    let ends = c.self.inside.ends.items in
    let targets = c.self.inside.targets.items in
    let within : c.args.node < length ends = grind (arith, length-pieces, c.self.view_is, c.requires) in
    let from : c.start-from.result ≡ get_or (0 ∷ ends) c.args.node 0 = c.start-from.ensures ∙ ap (λ (e : List ℕ). get_or (0 ∷ e) c.args.node 0) c.deref.ensures.value in
    let to : c.index-to.result.now ≡ get_or ends c.args.node 0 = c.index-to.ensures ∙ get_or_default ends c.args.node c.index-to.result.now 0 within in
    c.part.ensures ∙ ap (λ (xs : List ℕ). slice_range xs c.start-from.result c.index-to.result.now) c.deref-2.ensures.value
    ∙ ap (λ (n : ℕ). slice_range targets n c.index-to.result.now) from ∙ ap (λ (n : ℕ). slice_range targets (get_or (0 ∷ ends) c.args.node 0) n) to
    ∙ sym (piece_at targets 0 ends c.args.node within) ∙ ap (λ (s : Arrows). row s.rows c.args.node) c.self.view_is
