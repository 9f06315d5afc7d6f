use Rattle.std.proofs.Common.{◌≡◌, ◌-◌, length, ap, ◌∙◌, arith}
use Rattle.hll_meaning.specs.Kinds.{cells}
use Rattle.hll_meaning.specs.Types.{kind_of}
use Rattle.dependence.specs.Ways.{way_by}
use Rattle.cell_definitions.specs.Ways.{way_of}
use Rattle.cell_definitions.specs.Parts.{first_two}
use Rattle.cell_definitions.proofs.OwnedCells.{copies_are, more_columns, on_ok}
use Rattle.cell_definitions.proofs.owners.push_variable.Goals as goal

pub returns-clause-owners : goal.returns-clause-owners
returns-clause-owners c = λ defs kept_so.
    let v = c.args.variable.now in
    let old = c.args.columns.now.items in
    let start : c.len-start.result ≡ length old = c.len-start.ensures ∙ c.args.columns.now.ok.0 in
    let count : c.len.result - c.len-start.result ≡ cells (kind_of v.ty) = omega (arith, start, c.len.ensures, c.push_columns.new.columns.ok.0, more_columns old c.push_columns.new.columns.items v c.in_ok-push_columns.ensures) in
    let way : way_of c.definitions.result ≡ way_by (first_two defs v.name) = c.definitions.ensures ∙ ap way_by kept_so in
    on_ok c.push_copies.result _ _ (λ more. copies_are defs c.args.owners.now.items c.push_copies.new.owners.items _ (length old) (v.name, kind_of v.ty) more
    (λ i. record { stretch = record { start = start i; kind = kind_of v.ty }; count = count i; way = way i })) c.push_copies.ensures
