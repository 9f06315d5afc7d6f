use Rattle.std.proofs.Common.{◌≡◌, true, false, sym, ap, ◌∙◌}
use Rattle.std.specs.Str.{bytes_eq}
use Rattle.hll_meaning.specs.Names.{under}
use Rattle.hll_meaning.specs.Types.{kind_of}
use Rattle.hll_expressions.specs.Scopes.{bound_names}
use Rattle.hll_expressions.proofs.ScopeLemmas.{found_here, found_behind, bound_indices, bound_bind}
use Rattle.hll_expressions.proofs.scope.Bounds.+kind.Goals as goal

pub returns-in-Indices : goal.returns-in-Indices
returns-in-Indices t c = c.index_kind.ensures ∙ ap (under c.args.name.now) (sym (ap bound_names c.in-Indices.is ∙ bound_indices c.in-Indices.indices))

pub returns-then-eq : goal.returns-then-eq
returns-then-eq t c =
    let here : bytes_eq c.in-Bind.own.now c.args.name.now ≡ true = cc in
    sym (ap (λ b. under c.args.name.now (bound_names b)) c.in-Bind.is ∙ ap (under c.args.name.now) (bound_bind c.in-Bind.own c.in-Bind.kind c.in-Bind.outer) ∙ found_here c.args.name.now (c.in-Bind.own.now, kind_of c.in-Bind.kind.now) (bound_names c.in-Bind.outer.now) here)

pub returns-else-eq : goal.returns-else-eq
returns-else-eq t c =
    let other : bytes_eq c.in-Bind.own.now c.args.name.now ≡ false = cc in
    c.kind.ensures ∙ sym (ap (λ b. under c.args.name.now (bound_names b)) c.in-Bind.is ∙ ap (under c.args.name.now) (bound_bind c.in-Bind.own c.in-Bind.kind c.in-Bind.outer) ∙ found_behind c.args.name.now (c.in-Bind.own.now, kind_of c.in-Bind.kind.now) (bound_names c.in-Bind.outer.now) other)
