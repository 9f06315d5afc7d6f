use Rattle.std.proofs.Common.{◌≡◌, [], ◌∷◌, ◌++◌, sym, ap, ◌∙◌}
use Rattle.std.proofs.lemmas.List.{append-nil}
use Rattle.hll_meaning.specs.Names.{Names}
use Rattle.hll_meaning.specs.Declarations.{is_among, names}
use Rattle.hll_meaning.specs.StaticRules.{taken_by}
use Rattle.hll_types.specs.Settling.{names_in, root_in, thing_in}
use Rattle.hll_expressions.specs.Things.{declared_names}
use Rattle.hll_expressions.specs.Things.{said_of}
use Rattle.hll_types.proofs.Apart.{apart_distinct}
use Rattle.hll_types.proofs.RootedThings.{next_new, next_settled}
use Rattle.hll_types.proofs.SettledNames.{names_settled}
use Rattle.hll_expressions.proofs.ThingNames.{as_names}
use Rattle.hll_types.proofs.settle.settled.Goals as goal

pub loop-name-preserved : goal.loop-name-preserved
loop-name-preserved c =
    let r = root_in c.args.sorts.now c.in_ok-roots.roots.items in
    let all = declared_names c.args.names.now in
    let before = declared_names c.loop-name.all in
    let more = as_names (λ k. k.items) said_of c.next.new.self in
    let n = c.in-Some.name.now.items in
    let t = said_of c.in-Some.thing.now in
    let inv = c.loop-name.invariant in
    let apart = apart_distinct (taken_by all) c.iter-name-items.ensures.distinct in
    let step : as_names (λ k. k.items) said_of c.loop-name.name-iterator ≡ (n, t) ∷ more = ap (as_names (λ k. k.items) said_of) c.in-Some.ensures.steps in
    let whole : before ++ names_in r ((n, t) ∷ more) ≡ names_in r all = ap (λ (xs : Names). before ++ names_in r xs) (sym step) ∙ inv.0 in
    let name = c.as_slice-in-loop-name.ensures.value in
    let said = c.in_ok-thing.ensures ∙ ap (λ rs. thing_in (root_in c.args.sorts.now rs) t) c.as_slice.ensures.value in
    let added = c.in_ok-declare.ensures (ap (is_among (taken_by before)) name ∙ next_new r all before more n t apart whole) in
    (next_settled r all before more n t apart whole (declared_names c.declare.new.self) c.as_slice-in-loop-name.result.now (said_of c.in_ok-thing.thing) added.declared name said, added.further ∙ inv.1)

pub returns : goal.returns
returns c = λ m none declared sorts.
    let r = root_in c.args.sorts.now c.in_ok-roots.roots.items in
    let before = declared_names c.loop-name.all in
    let inv = c.loop-name.invariant in
    let all : before ++ [] ≡ names m =
    ap (λ xs. before ++ names_in r (as_names (λ k. k.items) said_of xs)) (sym c.in-None.ensures.steps.0)
    ∙ inv.0
    ∙ ap (names_in r) declared
    ∙ names_settled m c.args.sorts.now c.in_ok-roots.roots.items none sorts c.in_ok-roots.ensures in
    (ap (λ (xs : Names). before ++ xs) inv.1 ∙ all, sym (append-nil before) ∙ all)
