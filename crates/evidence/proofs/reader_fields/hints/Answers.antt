use Rattle.std.proofs.Common.{◌≤◌, ◌<◌, ◌^◌, List, ℕ, None, sym, subst, arith}
use Rattle.std.specs.Prelude.{decimal}
use Rattle.lll_text.specs.Spelling.{number_field}
use Rattle.evidence.proofs.ReadFields.{HasRead, one_more, none_read, are_hints, refitted}
use Rattle.evidence.proofs.ReadLines.{is_something}
use Rattle.evidence.proofs.reader_fields.hints.Goals as goal

pub loop-rest-preserved : goal.loop-rest-preserved
loop-rest-preserved c =
    let read = c.in-Some.ensures in
    subst (λ (hs : List ℕ). HasRead (λ h. h < 2 ^ 32) decimal c.args.text.now hs c.in-Some.next.now) (sym c.in_ok-push-in-Some.ensures.items)
    (one_more (λ h. h < 2 ^ 32) decimal are_hints c.args.text.now c.loop-rest.hints.items c.loop-rest.rest.now c.in-Some.hint c.in-Some.next.now c.loop-rest.invariant (omega (arith, read.0)) read.1 read.2)

pub returns-in-None : goal.returns-in-None
returns-in-None c =
    none_read (λ h. h < 2 ^ 32) decimal c.args.text.now c.loop-rest.hints.items c.loop-rest.rest.now c.loop-rest.invariant
    (is_something c.loop-rest.rest.now c.is_empty.result c.is_empty.ensures c.loop-rest-test.true)
    (refitted (λ n. n ≤ 4294967295) (λ n. n < 2 ^ 32) number_field c.loop-rest.rest.now None (λ x h. omega (arith, h)) (λ x h. omega (arith, h)) c.in-None.ensures)
