use Rattle.std.proofs.Common.{◌≡◌, ℕ, List, [], ◌∷◌, ◌++◌, None, refl, sym, ap, subst, ◌∙◌, rules, w32, to_z, of_z}
use Rattle.std.specs.Prelude.{ℤ}
use Rattle.std.specs.Fmt.{signed_decimal}
use Rattle.evidence.specs.Counts.{IsLiteralNumber}
use Rattle.evidence.proofs.ReadFields.{HasRead, nothing_read, one_more, none_read, are_literals, after_byte, literals_read}
use Rattle.evidence.proofs.ReadLines.{is_something}
use Rattle.evidence.proofs.reader_fields.literals.Goals as goal

pub returns-in-None : goal.returns-in-None
returns-in-None c =
    let text = c.args.text.now in
    literals_read text None (is_something text c.is_empty.result c.is_empty.ensures c.if-is_empty.false)
    (none_read IsLiteralNumber signed_decimal (32 ∷ text) [] (32 ∷ text) (nothing_read IsLiteralNumber signed_decimal (32 ∷ text)) (λ e. absurd cc)
    (after_byte IsLiteralNumber signed_decimal 32 (32 ∷ text) text None refl c.in-None.ensures))

pub loop-rest-init : goal.loop-rest-init
loop-rest-init c =
    let text = c.args.text.now in
    let first = c.in-Some.first in
    let read : to_z w32 (of_z w32 first) ≡ first = search rules in
    let now : c.push.new.self.items ≡ first ∷ [] =
    c.in_ok-push-in-Some.ensures.items ∙ ap (λ (l : List ℤ). l ++ to_z w32 (of_z w32 first) ∷ []) c.clear.ensures.items ∙ ap (λ (x : ℤ). x ∷ []) read in
    let found = c.in-Some.ensures in
    subst (λ (ls : List ℤ). HasRead IsLiteralNumber signed_decimal (32 ∷ text) ls c.in-Some.next.now) (sym now)
    (one_more IsLiteralNumber signed_decimal are_literals (32 ∷ text) [] (32 ∷ text) first c.in-Some.next.now (nothing_read IsLiteralNumber signed_decimal (32 ∷ text)) found.0 (ap (λ (t : List ℕ). 32 ∷ t) found.1) found.2)

pub loop-rest-preserved : goal.loop-rest-preserved
loop-rest-preserved c =
    let text = c.args.text.now in
    let literal = c.in-Some-literal_field.literal in
    let read : to_z w32 (of_z w32 literal) ≡ literal = search rules in
    let now : c.push-in-Some-literal_field.new.self.items ≡ c.loop-rest.literals.items ++ literal ∷ [] =
    c.in_ok-push-in-Some-literal_field.ensures.items ∙ ap (λ (x : ℤ). c.loop-rest.literals.items ++ x ∷ []) read in
    let found = c.in-Some-literal_field.ensures in
    subst (λ (ls : List ℤ). HasRead IsLiteralNumber signed_decimal (32 ∷ text) ls c.in-Some-literal_field.next.now) (sym now)
    (one_more IsLiteralNumber signed_decimal are_literals (32 ∷ text) c.loop-rest.literals.items c.loop-rest.rest.now literal c.in-Some-literal_field.next.now c.loop-rest.invariant found.0 found.1 found.2)

pub returns-in-None-literal_field : goal.returns-in-None-literal_field
returns-in-None-literal_field c =
    let text = c.args.text.now in
    literals_read text None (is_something text c.is_empty.result c.is_empty.ensures c.if-is_empty.false)
    (none_read IsLiteralNumber signed_decimal (32 ∷ text) c.loop-rest.literals.items c.loop-rest.rest.now c.loop-rest.invariant
    (is_something c.loop-rest.rest.now c.is_empty-in-loop-rest.result c.is_empty-in-loop-rest.ensures c.loop-rest-test.true) c.in-None-literal_field.ensures)
