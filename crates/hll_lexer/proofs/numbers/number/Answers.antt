use Rattle.std.proofs.Common.{◌≡◌, ◌+◌, ◌-◌, ◌<◌, ◌≤◌, ℕ, ℤ, Option, Some, MatchOption, FitsSigned, to_z, of_z, to_z-of_z, rules, List, length, take, drop, get_or, true, pos, sym, ap, subst, ◌∙◌, arith}
use Rattle.std.specs.Int.{w128}
use Rattle.hll_lexer.specs.Numbers.{is_digit, number_worth, digits_worth}
use Rattle.hll_lexer.specs.Pieces.{IsFront, IsTooGreat, greatest}
use Rattle.hll_lexer.specs.declared.front.Front.{Front}
use Rattle.hll_lexer.specs.declared.token.TokenKind.TheVariants.{Number}
use Rattle.hll_lexer.proofs.NumberLemmas.{IsFoundNumber, found_number, front_number, number_length}
use Rattle.hll_lexer.proofs.FrontLemmas.{number_front, number_great}
use Rattle.hll_lexer.proofs.numbers.number.Goals as goal

within_text : (text : List ℕ) (base prefix count : ℕ) → is_digit 10 (get_or text 0 0) ≡ true → IsFoundNumber text base prefix count → prefix + count ≤ length text
within_text text base prefix count first found =
    let front = front_number text first in
    let fits = front.fits in
    let whole = found.whole in
    omega arith

worth_is : (text : List ℕ) (base prefix count : ℕ) → is_digit 10 (get_or text 0 0) ≡ true → IsFoundNumber text base prefix count → number_worth (take (number_length text) text) ≡ digits_worth base (take (prefix + count - prefix) (drop prefix text))
worth_is text base prefix count first found = (front_number text first).worth ∙ sym found.digits

too_great : (text : List ℕ) (base prefix count : ℕ) → is_digit 10 (get_or text 0 0) ≡ true → IsFoundNumber text base prefix count → greatest < digits_worth base (take (prefix + count - prefix) (drop prefix text)) → IsTooGreat text
too_great text base prefix count first found above =
    number_great text first (subst (λ (n : ℕ). greatest < n) (sym (worth_is text base prefix count first found)) above)

back : (n : ℕ) → n ≤ greatest → to_z w128 (of_z w128 (pos n)) ≡ pos n
back n small = let f : FitsSigned w128 (pos n) = record { sfits = omega arith } in to_z-of_z f

small_enough : (text : List ℕ) (base prefix count : ℕ) (value : ℤ) → is_digit 10 (get_or text 0 0) ≡ true → IsFoundNumber text base prefix count → value ≡ pos (digits_worth base (take (prefix + count - prefix) (drop prefix text))) → digits_worth base (take (prefix + count - prefix) (drop prefix text)) ≤ greatest → IsFront text (Some (Number (to_z w128 (of_z w128 value)))) (prefix + count)
small_enough text base prefix count value first found is small =
    let same = worth_is text base prefix count first found in
    let within : number_worth (take (number_length text) text) ≤ greatest = subst (λ (n : ℕ). n ≤ greatest) (sym same) small in
    let front = number_front text first within in
    let named : to_z w128 (of_z w128 value) ≡ pos (number_worth (take (number_length text) text)) = ap (λ (z : ℤ). to_z w128 (of_z w128 z)) is ∙ back _ small ∙ ap (λ (n : ℕ). pos n) (sym same) in
    subst (λ (n : ℕ). IsFront text (Some (Number (to_z w128 (of_z w128 value)))) n) (sym found.whole) (subst (λ (z : ℤ). IsFront text (Some (Number z)) (number_length text)) (sym named) front)

pub overflow_add-length : goal.overflow_add-length
overflow_add-length c =
    let found = found_number c.args.text.now c.base_of-base.result c.prefix_of-prefix.result c.digits_length.result c.base_of-base.ensures c.prefix_of-prefix.ensures c.digits_length.ensures in
    let within = within_text c.args.text.now c.base_of-base.result c.prefix_of-prefix.result c.digits_length.result c.requires found in
    omega arith

pub slice_bounds-digits_worth-end : goal.slice_bounds-digits_worth-end
slice_bounds-digits_worth-end c =
    let found = found_number c.args.text.now c.base_of-base.result c.prefix_of-prefix.result c.digits_length.result c.base_of-base.ensures c.prefix_of-prefix.ensures c.digits_length.ensures in
    let within : c.prefix_of-prefix.result + c.digits_length.result ≤ length c.args.text.now = within_text c.args.text.now c.base_of-base.result c.prefix_of-prefix.result c.digits_length.result c.requires found in
    search rules

pub returns-in_err-value : goal.returns-in_err-value
returns-in_err-value c =
    let text = c.args.text.now in
    let found = found_number text c.base_of-base.result c.prefix_of-prefix.result c.digits_length.result c.base_of-base.ensures c.prefix_of-prefix.ensures c.digits_length.ensures in
    let P : Option Front → Type 0 = λ r. MatchOption r (IsTooGreat text) (λ front. IsFront text front.kind front.length) in
    subst P (sym c.from_residual.ensures) (too_great text c.base_of-base.result c.prefix_of-prefix.result c.digits_length.result c.requires found c.in_err-value.ensures)

pub returns : goal.returns
returns c =
    let text = c.args.text.now in
    let found = found_number text c.base_of-base.result c.prefix_of-prefix.result c.digits_length.result c.base_of-base.ensures c.prefix_of-prefix.ensures c.digits_length.ensures in
    let ensures = c.in_ok-value.ensures in
    small_enough text c.base_of-base.result c.prefix_of-prefix.result c.digits_length.result c.in_ok-value.value c.requires found ensures.0 ensures.1
