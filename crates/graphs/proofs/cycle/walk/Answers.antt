use Rattle.std.proofs.Common.{◌<◌, ◌++◌, ◌∷◌, [], List, Option, ℕ, Some, sym, ap, subst, ◌∙◌, length}
use Rattle.graphs.specs.Graphs.{HasArrow}
use Rattle.graphs.specs.Spreading.{IsFollowing, IsWalked, left}
use Rattle.graphs.proofs.Walking.{walked_first, walked_more, walked_end, walked_nearer, walked_none}
use Rattle.graphs.proofs.cycle.walk.Goals.{in-Some+then-node-start, in_default}
use Rattle.graphs.proofs.cycle.walk.Goals as goal

pub loop-after-init : goal.loop-after-init
loop-after-init c =
    let rows = c.args.graph.now.rows in
    let known = c.args.distances.now in
    let follows = subst (λ (xs : List ℕ). IsFollowing xs known c.next-after.result) c.row.ensures c.next-after.ensures in
    subst (λ (cells : List ℕ). IsWalked (HasArrow rows) c.args.start cells c.next-after.result) (sym (c.in_ok-push.ensures.items ∙ ap (λ (xs : List ℕ). xs ++ c.args.start ∷ []) c.new-cells.ensures.items))
    (walked_first rows c.args.start known c.requires.distances (length rows) c.next-after.result c.requires.start follows)

pub loop-after-smaller : goal.loop-after-smaller
loop-after-smaller c =
    let rows = c.args.graph.now.rows in
    let known = c.args.distances.now in
    let follows = subst (λ (xs : List ℕ). IsFollowing xs known c.next-after-in-Some.result) c.row-in-Some.ensures c.next-after-in-Some.ensures in
    let walked = subst (λ (o : Option ℕ). IsWalked (HasArrow rows) c.args.start c.loop-after.cells.items o) c.in-Some.is c.loop-after.invariant in
    subst (λ (o : Option ℕ). left known c.next-after-in-Some.result < left known o) (sym c.in-Some.is)
    (walked_nearer rows c.args.start known c.requires.distances c.loop-after.cells.items c.in-Some.node c.next-after-in-Some.result walked c.if-node-start.false follows)

pub loop-after-preserved : goal.loop-after-preserved
loop-after-preserved c =
    let rows = c.args.graph.now.rows in
    let known = c.args.distances.now in
    let follows = subst (λ (xs : List ℕ). IsFollowing xs known c.next-after-in-Some.result) c.row-in-Some.ensures c.next-after-in-Some.ensures in
    let walked = subst (λ (o : Option ℕ). IsWalked (HasArrow rows) c.args.start c.loop-after.cells.items o) c.in-Some.is c.loop-after.invariant in
    subst (λ (cells : List ℕ). IsWalked (HasArrow rows) c.args.start cells c.next-after-in-Some.result) (sym c.in_ok-push-2.ensures.items)
    (walked_more rows c.args.start known c.requires.distances c.loop-after.cells.items c.in-Some.node c.next-after-in-Some.result walked c.if-node-start.false follows)

pub returns : goal.returns
returns c =
    let rows = c.args.graph.now.rows in
    elim c.match-after.branch [
      | in-Some+then-node-start w ↦ walked_end rows c.args.start c.args.distances.now c.requires.distances (length rows) c.loop-after.cells.items c.requires.start
          (subst (λ (o : Option ℕ). IsWalked (HasArrow rows) c.args.start c.loop-after.cells.items o) (w.in-Some.is ∙ ap Some w.if-node-start.true) c.loop-after.invariant)
      | in_default w ↦ absurd (walked_none rows c.args.start c.args.distances.now c.requires.distances c.loop-after.cells.items
          (subst (λ (o : Option ℕ). IsWalked (HasArrow rows) c.args.start c.loop-after.cells.items o) w.in_default.is c.loop-after.invariant))
    ]
