-- The context that a scope stands for.
use Rattle.std.specs.Prelude.{ℕ, List, ◌∷◌, map, reverse}
use Rattle.hll_meaning.specs.Kinds.{Kind}
use Rattle.hll_meaning.specs.Types.{kind_of}
use Rattle.hll_meaning.specs.Judging.{Context}
use Rattle.hll_expressions.specs.Things.{names_of}
use Rattle.hll_expressions.specs.declared.scope.Bounds.{Bounds, Bounds-F, fold-Bounds}
use Rattle.hll_expressions.specs.declared.scope.Index.{Index}
use Rattle.hll_expressions.specs.declared.scope.Scope.{Scope}

-- index names with their kinds, the innermost first
abbrev pub index_names : List Index → List (List ℕ × Kind)
index_names indices = reverse (map (λ i. (i.name, kind_of i.kind)) indices)

-- the bound names of one level, with those around them
abbrev pub bound_form : Bounds-F (List (List ℕ × Kind)) → List (List ℕ × Kind)
bound_form (Bounds-F.Indices indices) = index_names indices.now
bound_form (Bounds-F.Bind name kind outer) = (name.now, kind_of kind.now) ∷ outer.now

-- bound and index names with their kinds, the innermost first
unfoldable pub bound_names : Bounds → List (List ℕ × Kind)
bound_names = fold-Bounds (List (List ℕ × Kind)) bound_form

-- where an expression stands
abbrev pub context : Scope → Context
context s = record { names = names_of s.names.now; bound = bound_names s.bound; needs_constant = s.needs_constant }
