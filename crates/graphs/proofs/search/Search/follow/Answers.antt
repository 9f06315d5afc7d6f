use Rattle.std.proofs.Common.{◌<◌, sym, ap, subst, ◌∙◌, length, arith}
use Rattle.graphs.specs.Searches.{Searching, shown, entered, IsSearch}
use Rattle.graphs.proofs.Placing.{place_read}
use Rattle.graphs.proofs.SearchLemmas.{search_enter, search_join}
use Rattle.graphs.proofs.search.Search.follow.Goals as goal

pub returns-in_ok-enter-in-Unseen-clause-search : goal.returns-in_ok-enter-in-Unseen-clause-search
returns-in_ok-enter-in-Unseen-clause-search c =
    let rows = c.args.graph.now.rows in
    let s = shown c.args.self.now in
    let low : c.args.target < length s.places = (let size = c.requires.search.size in omega (arith, size, c.requires.target)) in
    let unseen = place_read s.places c.args.target c.index.result.now low c.index.ensures ∙ c.in-Unseen.is in
    subst (λ (t : Searching). IsSearch rows (λ b. ⊥) t) (sym (c.in_ok-enter-in-Unseen.ensures ∙ ap (entered s c.args.target) c.row.ensures))
    (search_enter rows s c.args.target c.requires.search c.requires.target unseen c.requires.leads)

pub returns-in-OnPath-clause-search : goal.returns-in-OnPath-clause-search
returns-in-OnPath-clause-search c =
    let rows = c.args.graph.now.rows in
    let s = shown c.args.self.now in
    let low : c.args.target < length s.places = (let size = c.requires.search.size in omega (arith, size, c.requires.target)) in
    let on = place_read s.places c.args.target c.index.result.now low c.index.ensures ∙ c.in-OnPath.is in
    search_join rows s c.join.new.segments.items c.args.target c.in-OnPath.place c.requires.search on c.requires.leads c.join.ensures
