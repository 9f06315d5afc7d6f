use Rattle.std.proofs.Common.{◌≡◌, ◌∷◌, ◌+◌, ◌<◌, ◌∙◌, ℕ, List, ap, sym, subst, length, get_or, set, arith}
use Rattle.std.specs.Prelude.{ℤ, swap}
use Rattle.rup_checker.specs.Stores.{Stored, pieces, clause_at}
use Rattle.rup_checker.proofs.Pieces.{length-pieces, ends_at, pieces-swap, clause_is, place_inside}
use Rattle.rup_checker.proofs.store.Store.swap.Goals as goal

pub start-from-requires : goal.start-from-requires
start-from-requires c = grind (arith, length-pieces, c.self.view_is, c.requires)

pub overflow_add-from : goal.overflow_add-from
overflow_add-from c =
    let literals = c.self.inside.literals.items in
    let ends = c.self.inside.ends.items in
    let there : c.args.number < length ends = grind (arith, length-pieces, c.self.view_is, c.requires.there) in
    let place : c.args.one < length (clause_at (pieces literals 0 ends) c.args.number) = subst (λ (s : Stored). c.args.one < length (clause_at s.clauses c.args.number)) (sym c.self.view_is) c.requires.one in
    let inside = place_inside literals ends c.args.number c.args.one c.self.invariant there place in
    let bounds = ends_at 0 ends (length literals) c.args.number c.self.invariant there in
    let from : c.start-from.result ≡ get_or (0 ∷ ends) c.args.number 0 = c.start-from.ensures ∙ ap (λ (e : List ℕ). get_or (0 ∷ e) c.args.number 0) c.deref.ensures.value in
    omega (arith, inside, bounds.1, from)

pub overflow_add-from-2 : goal.overflow_add-from-2
overflow_add-from-2 c =
    let literals = c.self.inside.literals.items in
    let ends = c.self.inside.ends.items in
    let there : c.args.number < length ends = grind (arith, length-pieces, c.self.view_is, c.requires.there) in
    let place : c.args.other < length (clause_at (pieces literals 0 ends) c.args.number) = subst (λ (s : Stored). c.args.other < length (clause_at s.clauses c.args.number)) (sym c.self.view_is) c.requires.other in
    let inside = place_inside literals ends c.args.number c.args.other c.self.invariant there place in
    let bounds = ends_at 0 ends (length literals) c.args.number c.self.invariant there in
    let from : c.start-from.result ≡ get_or (0 ∷ ends) c.args.number 0 = c.start-from.ensures ∙ ap (λ (e : List ℕ). get_or (0 ∷ e) c.args.number 0) c.deref.ensures.value in
    omega (arith, inside, bounds.1, from)

pub swap-requires-clause-i_in_bounds : goal.swap-requires-clause-i_in_bounds
swap-requires-clause-i_in_bounds c =
    let literals = c.self.inside.literals.items in
    let ends = c.self.inside.ends.items in
    let there : c.args.number < length ends = grind (arith, length-pieces, c.self.view_is, c.requires.there) in
    let one : c.args.one < length (clause_at (pieces literals 0 ends) c.args.number) = subst (λ (s : Stored). c.args.one < length (clause_at s.clauses c.args.number)) (sym c.self.view_is) c.requires.one in
    let inside = place_inside literals ends c.args.number c.args.one c.self.invariant there one in
    let bounds = ends_at 0 ends (length literals) c.args.number c.self.invariant there in
    let from : c.start-from.result ≡ get_or (0 ∷ ends) c.args.number 0 = c.start-from.ensures ∙ ap (λ (e : List ℕ). get_or (0 ∷ e) c.args.number 0) c.deref.ensures.value in
    omega (arith, inside, bounds.1, from)

pub swap-requires-clause-j_in_bounds : goal.swap-requires-clause-j_in_bounds
swap-requires-clause-j_in_bounds c =
    let literals = c.self.inside.literals.items in
    let ends = c.self.inside.ends.items in
    let there : c.args.number < length ends = grind (arith, length-pieces, c.self.view_is, c.requires.there) in
    let other : c.args.other < length (clause_at (pieces literals 0 ends) c.args.number) = subst (λ (s : Stored). c.args.other < length (clause_at s.clauses c.args.number)) (sym c.self.view_is) c.requires.other in
    let inside = place_inside literals ends c.args.number c.args.other c.self.invariant there other in
    let bounds = ends_at 0 ends (length literals) c.args.number c.self.invariant there in
    let from : c.start-from.result ≡ get_or (0 ∷ ends) c.args.number 0 = c.start-from.ensures ∙ ap (λ (e : List ℕ). get_or (0 ∷ e) c.args.number 0) c.deref.ensures.value in
    omega (arith, inside, bounds.1, from)

pub returns-clause-swapped : goal.returns-clause-swapped
returns-clause-swapped c =
    let literals = c.self.inside.literals.items in
    let ends = c.self.inside.ends.items in
    let k = c.args.number in
    let there : k < length ends = grind (arith, length-pieces, c.self.view_is, c.requires.there) in
    let one : c.args.one < length (clause_at (pieces literals 0 ends) k) = subst (λ (s : Stored). c.args.one < length (clause_at s.clauses k)) (sym c.self.view_is) c.requires.one in
    let other : c.args.other < length (clause_at (pieces literals 0 ends) k) = subst (λ (s : Stored). c.args.other < length (clause_at s.clauses k)) (sym c.self.view_is) c.requires.other in
    let inside = place_inside literals ends k c.args.one c.self.invariant there one in
    let inside' = place_inside literals ends k c.args.other c.self.invariant there other in
    let from : c.start-from.result ≡ get_or (0 ∷ ends) k 0 = c.start-from.ensures ∙ ap (λ (e : List ℕ). get_or (0 ∷ e) k 0) c.deref.ensures.value in
    ap (λ (xs : List ℤ). pieces xs 0 ends) c.swap.ensures.items
    ∙ ap (λ (n : ℕ). pieces (swap literals (n + c.args.one) (n + c.args.other)) 0 ends) from
    ∙ pieces-swap literals ends k c.args.one c.args.other c.self.invariant there inside inside'
    ∙ ap (λ (p : List ℤ). set (pieces literals 0 ends) k (swap p c.args.one c.args.other)) (sym (clause_is literals ends k there))
    ∙ ap (λ (s : Stored). set s.clauses k (swap (clause_at s.clauses k) c.args.one c.args.other)) c.self.view_is
