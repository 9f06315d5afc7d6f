use Rattle.std.proofs.Common.{◌≡◌, ◌<◌, length, sym, ap, subst, ◌∙◌, arith}
use Rattle.std.specs.Prelude.{◌≢◌}
use Rattle.graphs.specs.Graphs.{row}
use Rattle.graphs.specs.Searches.{Searching, shown, entered, place, IsSearch}
use Rattle.graphs.specs.declared.search.Place.TheVariants.{Unseen}
use Rattle.graphs.proofs.Placing.{seen_enter}
use Rattle.graphs.proofs.SearchLemmas.{search_owed, search_enter, entered_seen}
use Rattle.graphs.proofs.search.Search.finish.Goals as goal

pub loop-last-init : goal.loop-last-init
loop-last-init c =
    let rows = c.args.graph.now.rows in
    let s = shown c.args.self.now in
    let root = c.args.root in
    let low : root < length s.places = (let size = c.requires.search.size in omega (arith, size, c.requires.root)) in
    let is = c.in_ok-enter.ensures ∙ ap (entered s root) c.row.ensures in
    record {
      search = subst (λ (t : Searching). IsSearch rows (λ b. ⊥) t) (sym is)
          (search_enter rows s root (search_owed rows (λ b. b ≡ root) s c.requires.search) c.requires.root c.requires.unseen
          (λ i within. absurd (let none = ap length c.requires.none in omega (arith, within, none))));
      root = subst (λ (t : Searching). place t.places root ≢ Unseen) (sym is) (entered_seen rows s root (row rows root) low);
      seen = λ v marked. subst (λ (t : Searching). place t.places v ≢ Unseen) (sym is) (seen_enter s.places root (length s.path) v low marked);
    }
