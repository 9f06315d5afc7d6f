use Rattle.std.proofs.Common.{◌≡◌, ◌++◌, ℤ, List, ℕ, rules, FitsSigned, to_z-of_z, Some, sym, ap, subst, ◌∙◌}
use Rattle.std.specs.Int.{w128}
use Rattle.std.specs.Prelude.{OnOk}
use Rattle.hll_meaning.specs.Kinds.{index, name}
use Rattle.hll_meaning.specs.Types.{kind_of}
use Rattle.cell_layout.specs.declared.reaching.Pick.{Pick}
use Rattle.cell_layout.specs.declared.reaching.Pick.TheVariants.{One, Every, Named}
use Rattle.cell_layout.specs.Parts.{picks_of}
use Rattle.cell_layout.proofs.PartSteps.{led}
use Rattle.cell_layout.proofs.PickedCells.{reached_from, picked_some, picked_none, picked_every, every_nowhere, left_of, one_left, nothing_appended}
use Rattle.cell_layout.proofs.reaching.+push_in.Goals as goal

pub returns-in-Some : goal.returns-in-Some
returns-in-Some t c =
    let fits : FitsSigned w128 c.in-One.index = search rules in
    let start = c.args.start in
    let k = kind_of c.args.ty.now in
    let part = c.in-Some.element in
    let rest = left_of c.args.picks.now in
    let all = one_left c.args.picks.now _ (One c.in-One.index) c.in-len1-up.len_at_least c.in-One.is in
    let leads = subst (λ (i : ℤ). Some (record { start = part.start; kind = kind_of part.ty.now }) ≡ led start k (index i)) (to_z-of_z fits) c.in-Some.ensures in
    subst (λ (xs : List ℕ). OnOk c.push_in.result (c.push_in.new.starts.items ≡ c.args.starts.now.items ++ xs))
    (picked_some start part.start k (kind_of part.ty.now) (index c.in-One.index) (picks_of rest) leads ∙ ap (λ (ps : List Pick). reached_from start k (picks_of ps)) (sym all))
    c.push_in.ensures

pub returns-in_ok-push_in-in-Array : goal.returns-in_ok-push_in-in-Array
returns-in_ok-push_in-in-Array t c =
    let start = c.args.start in
    let k = kind_of c.args.ty.now in
    let got = c.get-each.result.now in
    let rest = left_of c.args.picks.now in
    let all = one_left c.args.picks.now _ Every c.in-len1-up.len_at_least c.in-Every.is in
    let firsts : c.as_slice.result.now ≡ reached_from start (kind_of got) (picks_of rest) =
    c.as_slice.ensures.value ∙ c.in_ok-push_in-in-Array.ensures ∙ ap (λ (xs : List ℕ). xs ++ reached_from start (kind_of got) (picks_of rest)) c.new-firsts.ensures.items in
    subst (λ (xs : List ℕ). OnOk c.push_elements.result (c.push_elements.new.starts.items ≡ c.args.starts.now.items ++ xs))
    (picked_every start c.in-Array.size c.cells_of_type.result c.args.ty.now c.in-Array.each got (picks_of rest) c.as_slice.result.now c.in-Array.is c.get-each.ensures c.cells_of_type.ensures firsts
    ∙ ap (λ (ps : List Pick). reached_from start k (picks_of ps)) (sym all))
    c.push_elements.ensures

pub returns-in-Bool : goal.returns-in-Bool
returns-in-Bool t c = every_nowhere c.args.starts.now.items c.args.start c.args.ty.now c.args.picks.now _ c.in-len1-up.len_at_least c.in-Every.is c.in-Bool.is

pub returns-in-Bool-2 : goal.returns-in-Bool-2
returns-in-Bool-2 t c = every_nowhere c.args.starts.now.items c.args.start c.args.ty.now c.args.picks.now _ c.in-len1-up.len_at_least c.in-Every.is c.in-Bool.is

pub returns-in-Bool-3 : goal.returns-in-Bool-3
returns-in-Bool-3 t c = every_nowhere c.args.starts.now.items c.args.start c.args.ty.now c.args.picks.now _ c.in-len1-up.len_at_least c.in-Every.is c.in-Bool.is

pub returns-in-Bool-4 : goal.returns-in-Bool-4
returns-in-Bool-4 t c = every_nowhere c.args.starts.now.items c.args.start c.args.ty.now c.args.picks.now _ c.in-len1-up.len_at_least c.in-Every.is c.in-Bool.is

pub returns-in-Some-field_in : goal.returns-in-Some-field_in
returns-in-Some-field_in t c =
    let start = c.args.start in
    let k = kind_of c.args.ty.now in
    let part = c.in-Some-field_in.field in
    let rest = left_of c.args.picks.now in
    let all = one_left c.args.picks.now _ (Named c.in-Named.name) c.in-len1-up.len_at_least c.in-Named.is in
    subst (λ (xs : List ℕ). OnOk c.push_in-in-Some-field_in.result (c.push_in-in-Some-field_in.new.starts.items ≡ c.args.starts.now.items ++ xs))
    (picked_some start part.start k (kind_of part.ty.now) (name c.in-Named.name.now) (picks_of rest) c.in-Some-field_in.ensures ∙ ap (λ (ps : List Pick). reached_from start k (picks_of ps)) (sym all))
    c.push_in-in-Some-field_in.ensures

pub returns-in-None-field_in : goal.returns-in-None-field_in
returns-in-None-field_in t c =
    let start = c.args.start in
    let k = kind_of c.args.ty.now in
    let rest = left_of c.args.picks.now in
    let all = one_left c.args.picks.now _ (Named c.in-Named.name) c.in-len1-up.len_at_least c.in-Named.is in
    nothing_appended c.args.starts.now.items (reached_from start k (picks_of c.args.picks.now))
    (ap (λ (ps : List Pick). reached_from start k (picks_of ps)) all ∙ picked_none start k (name c.in-Named.name.now) (picks_of rest) c.in-None-field_in.ensures)
