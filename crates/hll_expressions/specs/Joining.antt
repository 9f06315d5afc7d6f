-- Words for the contracts of private parts: what is joined, as the definitions say it.
use Rattle.std.specs.Prelude.{◌≡◌, ℕ, List, [], ◌∷◌, map}
use Rattle.std.specs.List.{list_any}
use Rattle.hll_meaning.specs.Kinds.{Kind}
use Rattle.hll_meaning.specs.Fitting.{Joined as Said, join}
use Rattle.hll_meaning.specs.Types.{kind_of}
use Rattle.hll_expressions.specs.declared.join.Gathered.{Gathered}
use Rattle.hll_expressions.specs.declared.join.Joined.{Joined}

-- what is joined, as the definitions say it
abbrev pub said : Joined → Said
said j = record { kind = kind_of j.kind; mismatched = j.mismatched; wide = j.wide; uneven = j.uneven }

-- part by part, as far as both go
abbrev pub join_each : List Kind → List Kind → List Said
join_each [] gs = []
join_each (k ∷ ks) [] = []
join_each (k ∷ ks) (g ∷ gs) = join k g ∷ join_each ks gs

-- what was gathered is what these parts make
pub record HasGathered (all : Gathered) (js : List Said) : Type 0 where
  pub fields : map {B = List ℕ × Kind} (λ f. (f.name, kind_of f.ty)) all.fields ≡ map {B = List ℕ × Kind} (λ k. ([], k)) (map (λ j. j.kind) js)
  pub mismatched : all.mismatched ≡ list_any (λ j. j.mismatched) js
  pub wide : all.wide ≡ list_any (λ j. j.wide) js
  pub uneven : all.uneven ≡ list_any (λ j. j.uneven) js
