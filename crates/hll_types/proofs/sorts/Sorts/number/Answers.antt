use Rattle.std.proofs.Common.{◌≡◌, ℕ, List, [], ◌∷◌, map, position, refl, ap, ◌∙◌}
use Rattle.std.specs.Str.{bytes_eq}
use Rattle.hll_types.specs.declared.sorts.Sort.{Sort}
use Rattle.hll_expressions.proofs.ByName.{position_named}
use Rattle.hll_types.proofs.sorts.Sorts.number.Goals as goal

names : {K X : Type 0} (name : K → List ℕ) (es : List (K × X)) → map name (map (λ e. e.0) es) ≡ map (λ (e : List ℕ × X). e.0) (map {B = List ℕ × X} (λ e. (name e.0, e.1)) es)
names name [] = refl
names name (e ∷ es) = ap (λ ns. name e.0 ∷ ns) (names name es)

pub returns : goal.returns
returns c =
    c.get_index_of.ensures.index ∙ position_named (λ k. k.now) c.args.name.now (map (λ e. e.0) c.self.inside.by_name.entries)
    ∙ ap (position (bytes_eq c.args.name.now)) (names (λ k. k.now) c.self.inside.by_name.entries ∙ ap (map (λ (e : List ℕ × Sort). e.0)) c.self.view_is)
