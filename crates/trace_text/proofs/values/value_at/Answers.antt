use Rattle.std.proofs.Common.{ℤ, List, ℕ, Option, Bor, sym, ap, subst, ◌∙◌}
use Rattle.std.specs.Prelude.{MatchOption}
use Rattle.hll_tree.specs.Printing.{Text}
use Rattle.hll_meaning.specs.Declarations.{names}
use Rattle.hll_meaning.specs.Kinds.{Kind, element}
use Rattle.hll_meaning.specs.Names.{Names}
use Rattle.hll_meaning.specs.Types.{ends}
use Rattle.trace_text.specs.Faults.{HasValue, Never}
use Rattle.cell_columns.specs.Columns.{kind_of_values}
use Rattle.trace_text.proofs.values.value_at.Goals as goal

-- a value of a kind is answered
abbrev IsAnswered : Names → Text → Option (ℤ × Bor Text) → Kind → Type 0
IsAnswered all text r k = MatchOption r ((x : ℤ) → Never (HasValue all k text x)) (λ v. HasValue all k text v.0 v.1.now)

pub returns-in-Truth : goal.returns-in-Truth
returns-in-Truth c =
    let all = names c.args.checked.now in
    subst (IsAnswered all c.args.text.now c.truth_at.result) (sym (ap kind_of_values c.in-Truth.is)) (c.truth_at.ensures all)

pub returns-in-Whole : goal.returns-in-Whole
returns-in-Whole c =
    let all = names c.args.checked.now in
    subst (IsAnswered all c.args.text.now c.whole_within.result) (sym (ap kind_of_values c.in-Whole.is)) (c.whole_within.ensures all)

pub returns-in-Elements : goal.returns-in-Elements
returns-in-Elements c =
    let all = names c.args.checked.now in
    subst (IsAnswered all c.args.text.now c.element_within.result)
    (ap (λ (root : List ℕ). element root (ends c.in-Elements.codes)) c.bytes.ensures ∙ sym (ap kind_of_values c.in-Elements.is)) c.element_within.ensures
