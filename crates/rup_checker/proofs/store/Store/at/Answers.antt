use Rattle.std.proofs.Common.{◌≡◌, ◌∷◌, ◌<◌, ℕ, List, ap, sym, ◌∙◌, length, get_or, arith}
use Rattle.std.specs.Prelude.{ℤ, Some, slice_get, slice_range}
use Rattle.std.proofs.lemmas.List.{get_or_default}
use Rattle.rup_checker.specs.Stores.{Stored}
use Rattle.rup_checker.proofs.Pieces.{piece_at, ends_at, length-pieces}
use Rattle.rup_checker.proofs.store.Store.at.Goals as goal

pub start-from-requires : goal.start-from-requires
start-from-requires c = grind (arith, length-pieces, c.self.view_is, c.requires)

pub index-to-requires : goal.index-to-requires
index-to-requires c = grind (arith, length-pieces, c.self.view_is, c.requires)

pub part-requires-clause-ordered : goal.part-requires-clause-ordered
part-requires-clause-ordered c =
    let ends = c.self.inside.ends.items in
    let within : c.args.number < length ends = grind (arith, length-pieces, c.self.view_is, c.requires) in
    let bounds = ends_at 0 ends (length c.self.inside.literals.items) c.args.number c.self.invariant within in
    let from : c.start-from.result ≡ get_or (0 ∷ ends) c.args.number 0 = c.start-from.ensures ∙ ap (λ (e : List ℕ). get_or (0 ∷ e) c.args.number 0) c.deref.ensures.value in
    let to : c.index-to.result.now ≡ get_or ends c.args.number 0 = c.index-to.ensures ∙ get_or_default ends c.args.number c.index-to.result.now 0 within in
    omega (arith, bounds.0, from, to)

pub part-requires-clause-within : goal.part-requires-clause-within
part-requires-clause-within c =
    let ends = c.self.inside.ends.items in
    let within : c.args.number < length ends = grind (arith, length-pieces, c.self.view_is, c.requires) in
    let bounds = ends_at 0 ends (length c.self.inside.literals.items) c.args.number c.self.invariant within in
    let to : c.index-to.result.now ≡ get_or ends c.args.number 0 = c.index-to.ensures ∙ get_or_default ends c.args.number c.index-to.result.now 0 within in
    let all : length c.deref-2.result.now ≡ length c.self.inside.literals.items = ap length c.deref-2.ensures.value in
    omega (arith, bounds.1, to, all)

pub returns : goal.returns
returns c =
    let ends = c.self.inside.ends.items in
    let literals = c.self.inside.literals.items in
    let within : c.args.number < length ends = grind (arith, length-pieces, c.self.view_is, c.requires) in
    let from : c.start-from.result ≡ get_or (0 ∷ ends) c.args.number 0 = c.start-from.ensures ∙ ap (λ (e : List ℕ). get_or (0 ∷ e) c.args.number 0) c.deref.ensures.value in
    let to : c.index-to.result.now ≡ get_or ends c.args.number 0 = c.index-to.ensures ∙ get_or_default ends c.args.number c.index-to.result.now 0 within in
    let part : c.part.result.now ≡ slice_range literals (get_or (0 ∷ ends) c.args.number 0) (get_or ends c.args.number 0) =
    c.part.ensures ∙ ap (λ (xs : List ℤ). slice_range xs c.start-from.result c.index-to.result.now) c.deref-2.ensures.value
    ∙ ap (λ (n : ℕ). slice_range literals n c.index-to.result.now) from ∙ ap (λ (n : ℕ). slice_range literals (get_or (0 ∷ ends) c.args.number 0) n) to in
    ap (λ (s : Stored). slice_get s.clauses c.args.number) (sym c.self.view_is) ∙ piece_at literals 0 ends c.args.number within ∙ ap Some (sym part)
