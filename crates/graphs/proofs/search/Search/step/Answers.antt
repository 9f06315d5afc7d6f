use Rattle.std.proofs.Common.{◌<◌, ◌≤◌, ℕ, length, subst, arith}
use Rattle.std.proofs.lemmas.List.{get_or_default}
use Rattle.graphs.specs.Searches.{shown}
use Rattle.graphs.proofs.SearchLemmas.{arrow_node, path_node, last_component, search_take, step_leave, waits_under, OnOk_then}
use Rattle.graphs.proofs.search.Search.step.Goals as goal

pub follow-requires-clause-target : goal.follow-requires-clause-target
follow-requires-clause-target c =
    let s = shown c.args.self.now in
    let under = waits_under s.waiting c.pop.new.self.items c.in-Some.target c.args.self.now.waiting.len c.len.result c.args.last.targets c.in-Some.ensures.items c.len.ensures c.args.self.now.waiting.ok.0 c.if-last-len.true in
    let taken = search_take c.args.graph.now.rows s c.requires.last.0 c.args.last c.in-Some.target c.pop.new.self.items c.requires.search c.requires.last.1 c.in-Some.ensures.items under in
    arrow_node c.args.graph.now.rows taken.2.0 c.in-Some.target c.requires.targets taken.2.1

pub follow-requires-clause-search : goal.follow-requires-clause-search
follow-requires-clause-search c =
    let s = shown c.args.self.now in
    let under = waits_under s.waiting c.pop.new.self.items c.in-Some.target c.args.self.now.waiting.len c.len.result c.args.last.targets c.in-Some.ensures.items c.len.ensures c.args.self.now.waiting.ok.0 c.if-last-len.true in
    (search_take c.args.graph.now.rows s c.requires.last.0 c.args.last c.in-Some.target c.pop.new.self.items c.requires.search c.requires.last.1 c.in-Some.ensures.items under).0

pub follow-requires-clause-leads : goal.follow-requires-clause-leads
follow-requires-clause-leads c =
    let s = shown c.args.self.now in
    let under = waits_under s.waiting c.pop.new.self.items c.in-Some.target c.args.self.now.waiting.len c.len.result c.args.last.targets c.in-Some.ensures.items c.len.ensures c.args.self.now.waiting.ok.0 c.if-last-len.true in
    (search_take c.args.graph.now.rows s c.requires.last.0 c.args.last c.in-Some.target c.pop.new.self.items c.requires.search c.requires.last.1 c.in-Some.ensures.items under).1

pub leave-requires-clause-some : goal.leave-requires-clause-some
leave-requires-clause-some c =
    let s = shown c.args.self.now in
    let none : length s.waiting ≤ c.args.last.targets = omega (arith, c.if-last-len.false, c.len.ensures, c.args.self.now.waiting.ok.0) in
    (last_component c.args.graph.now.rows s c.requires.last.0 c.args.last c.requires.search c.requires.last.1 none).0

pub leave-requires-clause-nodes : goal.leave-requires-clause-nodes
leave-requires-clause-nodes c = λ k d within.
    let s = shown c.args.self.now in
    subst (λ (x : ℕ). x < length c.args.graph.now.rows) (get_or_default s.path k 0 d within) (path_node c.args.graph.now.rows s c.requires.search k within)

pub returns : goal.returns
returns c =
    let s = shown c.args.self.now in
    let none : length s.waiting ≤ c.args.last.targets = omega (arith, c.if-last-len.false, c.len.ensures, c.args.self.now.waiting.ok.0) in
    OnOk_then c.leave.result c.leave.ensures (step_leave c.args.graph.now.rows s (shown c.leave.new.self) c.args.last c.requires.search none)
