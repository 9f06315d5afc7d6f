use Rattle.std.proofs.Common.{rules, ◌≡◌, ◌∙◌, ◌∷◌, ◌++◌, ◌+◌, ◌<◌, [], ℕ, List, ap, sym, subst, arith, to_z, of_z, w32, get_or, set, length}
use Rattle.std.proofs.lemmas.Int.{ints}
use Rattle.std.proofs.lemmas.List.{get_or_default}
use Rattle.rup_checker.specs.Formulas.{IsLiteral}
use Rattle.rup_checker.specs.declared.occurrences.Cell.{Cell}
use Rattle.rup_checker.specs.Occurrences.{Listing, AddsNumber}
use Rattle.rup_checker.specs.Marks.{place_of}
use Rattle.rup_checker.proofs.OccurrenceLemmas.{adds_here}
use Rattle.rup_checker.proofs.occurrences.Occurrences.add.Goals as goal

pub returns : goal.returns
returns c =
    let inside = c.self.inside in
    let same : to_z w32 (of_z w32 c.args.literal) ≡ c.args.literal = omega (arith, ints) in
    let known : IsLiteral inside.variables c.args.literal = subst (λ (t : Listing). IsLiteral t.variables c.args.literal) (sym c.self.view_is) c.requires in
    let at : c.place-place.result ≡ place_of inside.variables c.args.literal = c.place-place.ensures.value ∙ ap (place_of inside.variables) same in
    let the_old : Listing = record { variables = inside.variables; heads = inside.heads.items; cells = inside.cells.items } in
    let adds = adds_here inside.variables inside.heads.items inside.cells.items c.args.literal c.args.number c.place-place.result c.self.invariant known at in
    let within : c.place-place.result < length inside.heads.items = omega (arith, c.place-place.ensures.within, c.self.invariant.places) in
    let read : c.index-rest.result.now ≡ get_or inside.heads.items c.place-place.result 0 = c.index-rest.ensures ∙ get_or_default inside.heads.items c.place-place.result c.index-rest.result.now 0 within in
    let count : c.len-count.result ≡ length inside.cells.items = search rules in
    let cells : c.push.new.self.items ≡ inside.cells.items ++ record { number = c.args.number; rest = get_or inside.heads.items c.place-place.result 0 } ∷ [] =
    c.in_ok-push.ensures.items ∙ ap (λ (r : ℕ). inside.cells.items ++ record { number = c.args.number; rest = r } ∷ []) read in
    subst (λ (t : Listing). AddsNumber t (record { variables = inside.variables; heads = set inside.heads.items c.place-place.result (c.len-count.result + 1); cells = c.push.new.self.items }) (c.args.literal ∷ []) c.args.number) c.self.view_is
    (subst (λ (cs : List Cell). AddsNumber the_old (record { variables = inside.variables; heads = set inside.heads.items c.place-place.result (c.len-count.result + 1); cells = cs }) (c.args.literal ∷ []) c.args.number) (sym cells)
    (subst (λ (n : ℕ). AddsNumber the_old (record { variables = inside.variables; heads = set inside.heads.items c.place-place.result (n + 1); cells = inside.cells.items ++ record { number = c.args.number; rest = get_or inside.heads.items c.place-place.result 0 } ∷ [] }) (c.args.literal ∷ []) c.args.number) (sym count) adds))
