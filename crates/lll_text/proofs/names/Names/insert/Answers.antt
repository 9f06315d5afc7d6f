use Rattle.std.proofs.Common.{◌≡◌, List, [], ◌∷◌, map, Bool, not, ◌||◌, refl, ap, sym, ◌∙◌}
use Rattle.std.specs.List.{list_any}
use Rattle.std.specs.Str.{bytes_eq}
use Rattle.lll_text.proofs.names.Names.insert.Goals as goal
use Rattle.lll_text.proofs.names.Names.insert.Goals.{in-Ok, in-Err}

list_any-map : {K X : Type 0} (p : X → Bool) (f : K → X) (ks : List K) → list_any p (map f ks) ≡ list_any (λ k. p (f k)) ks
list_any-map p f [] = refl
list_any-map p f (k ∷ ks) = ap (λ b. p (f k) || b) (list_any-map p f ks)

pub returns-clause-is_new : goal.returns-clause-is_new
returns-clause-is_new c =
    elim c.match-insert_full.branch [
      | in-Ok w ↦ rw w.result-is (w.in-Ok.ensures.added ∙ ap not (sym (list_any-map (bytes_eq c.args.name.now) (λ k. k.now) c.self.inside.seen.keys)) ∙ ap (λ names. not (list_any (bytes_eq c.args.name.now) names)) c.self.view_is)
      | in-Err w ↦ rw w.result-is tt
    ]
