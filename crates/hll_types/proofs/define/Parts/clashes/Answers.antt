use Rattle.std.proofs.Common.{◌≡◌, ◌||◌, Bool, is_some, ap, ◌∙◌}
use Rattle.hll_types.proofs.KeptParts.{clash_of_first, clash_of_next, clash_of_whole, either_left, either_right}
use Rattle.hll_types.proofs.define.Parts.clashes.Goals as goal
use Rattle.hll_types.proofs.define.Parts.clashes.Goals.{then-self-3, else-self-3}

pub returns-then-self : goal.returns-then-self
returns-then-self c own has = either_left c.args.self.whole c.args.self.first c.if-self.true ∙ clash_of_first own c.args.self c.args.part.now c.in-First.field-0 c.in-First.is has

pub returns-else-self : goal.returns-else-self
returns-else-self c own has = either_right c.args.self.whole c.args.self.first c.if-self.false ∙ clash_of_first own c.args.self c.args.part.now c.in-First.field-0 c.in-First.is has

pub returns-then-self-2 : goal.returns-then-self-2
returns-then-self-2 c own has = either_left c.args.self.whole (is_some c.args.self.next) c.if-self-2.true ∙ clash_of_next own c.args.self c.args.part.now c.in-Next.field-0 c.in-Next.is has

pub returns-else-self-2 : goal.returns-else-self-2
returns-else-self-2 c own has = c.is_some.ensures ∙ either_right c.args.self.whole (is_some c.args.self.next) c.if-self-2.false ∙ clash_of_next own c.args.self c.args.part.now c.in-Next.field-0 c.in-Next.is has

pub returns-then-self-4 : goal.returns-then-self-4
returns-then-self-4 c own has =
    let either : c.if-self-3.value ≡ (c.args.self.whole || c.args.self.first) = elim c.if-self-3.branch [
      | then-self-3 w ↦ w.value-is ∙ either_left c.args.self.whole c.args.self.first w.if-self-3.true
      | else-self-3 w ↦ w.value-is ∙ either_right c.args.self.whole c.args.self.first w.if-self-3.false
    ] in
    either_left c.if-self-3.value (is_some c.args.self.next) c.if-self-4.true ∙ ap (λ (b : Bool). b || is_some c.args.self.next) either ∙ clash_of_whole own c.args.self c.args.part.now c.in-Value.is has

pub returns-else-self-4 : goal.returns-else-self-4
returns-else-self-4 c own has =
    let either : c.if-self-3.value ≡ (c.args.self.whole || c.args.self.first) = elim c.if-self-3.branch [
      | then-self-3 w ↦ w.value-is ∙ either_left c.args.self.whole c.args.self.first w.if-self-3.true
      | else-self-3 w ↦ w.value-is ∙ either_right c.args.self.whole c.args.self.first w.if-self-3.false
    ] in
    c.is_some-else-self-4.ensures ∙ either_right c.if-self-3.value (is_some c.args.self.next) c.if-self-4.false ∙ ap (λ (b : Bool). b || is_some c.args.self.next) either ∙ clash_of_whole own c.args.self c.args.part.now c.in-Value.is has
