use Rattle.std.proofs.Common.{◌≡◌, ℕ, ◌+◌, true, false, List, length, take, drop, Option, Some, None, sym, ap, ◌∙◌}
use Rattle.std.specs.Option.{MatchOption, option_map}
use Rattle.std.specs.Str.{bytes_eq}
use Rattle.lll_text.specs.Fields.{after}
use Rattle.lll_text.proofs.FieldLemmas.{after_is, after_none}
use Rattle.lll_text.proofs.field.after.Goals as goal

is_rest : {R : Type 0} (now : R → List ℕ) (bytes text : List ℕ) (r : Option R) → MatchOption r (bytes_eq (take (length bytes) text) bytes ≡ false) (λ x. (bytes_eq (take (length bytes) text) bytes ≡ true) × (now x ≡ drop (length bytes) text) × (length (now x) + length bytes ≡ length text))
    → option_map now r ≡ after bytes text
is_rest now bytes text None h = sym (after_none bytes text h)
is_rest now bytes text (Some x) h = ap Some h.1 ∙ sym (after_is bytes text h.0)

pub returns-clause-rest : goal.returns-clause-rest
returns-clause-rest c = is_rest (λ r. r.now) c.args.bytes.now c.args.text.now c.strip_prefix.result c.strip_prefix.ensures.cases
