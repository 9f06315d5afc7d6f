use Rattle.std.proofs.Common.{◌-◌, ◌^◌, ℤ, pos, ◌≤ℤ◌, sym, subst}
use Rattle.trace_text.proofs.SignedNumbers.{below_greatest, passed}
use Rattle.trace_text.proofs.values.push_value.Goals as goal

pub element_name-requires-clause-within : goal.element_name-requires-clause-within
element_name-requires-clause-within c =
    subst (λ (x : ℤ). x ≤ℤ pos (2 ^ 64 - 1)) (sym (passed c.args.value c.ranges.value))
    (below_greatest c.args.values.now c.in-Elements.root c.in-Elements.field-1 c.args.value c.in-Elements.is c.requires.value)
