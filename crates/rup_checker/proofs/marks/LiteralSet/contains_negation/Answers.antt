use Rattle.std.proofs.Common.{◌≡◌, ◌-ℤ◌, ◌<◌, ℕ, pos, neg_ℤ, sym, ap, subst, ◌∙◌, to_z, of_z, w32, arith, length, get_or, false}
use Rattle.std.proofs.lemmas.Int.{ints}
use Rattle.std.proofs.lemmas.List.{get_or_default}
use Rattle.rup_checker.specs.Marks.{LiteralMarks, IsMarked, place_of}
use Rattle.rup_checker.proofs.marks.LiteralSet.contains_negation.Goals as goal

pub overflow_sub-literal : goal.overflow_sub-literal
overflow_sub-literal c =
    let bound = c.self.invariant.0 in
    let same : c.self.inside.variables ≡ c.args.self.now.variables = ap (λ (s : LiteralMarks). s.variables) c.self.view_is in
    omega (arith, ints, c.requires.known)

pub returns : goal.returns
returns c =
    let bound = c.self.invariant.0 in
    let variables : c.self.inside.variables ≡ c.args.self.now.variables = ap (λ (s : LiteralMarks). s.variables) c.self.view_is in
    let negation : to_z w32 (of_z w32 (pos 0 -ℤ to_z w32 (of_z w32 c.args.literal))) ≡ neg_ℤ c.args.literal = omega (arith, ints, c.requires.known) in
    let at : c.place.result ≡ place_of c.self.inside.variables (neg_ℤ c.args.literal) = c.place.ensures.value ∙ ap (place_of c.self.inside.variables) negation in
    let within : c.place.result < length c.self.inside.flags.items = omega (arith, c.place.ensures.within, c.self.invariant.1) in
    let read : c.index.result.now ≡ get_or c.self.inside.flags.items (place_of c.self.inside.variables (neg_ℤ c.args.literal)) false = c.index.ensures ∙ get_or_default c.self.inside.flags.items c.place.result c.index.result.now false within ∙ ap (λ (p : ℕ). get_or c.self.inside.flags.items p false) at in (
      λ yes. subst (λ (s : LiteralMarks). IsMarked s (neg_ℤ c.args.literal)) c.self.view_is (sym read ∙ yes),
      λ marked. read ∙ subst (λ (s : LiteralMarks). IsMarked s (neg_ℤ c.args.literal)) (sym c.self.view_is) marked,
    )
