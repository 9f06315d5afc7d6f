use Rattle.std.proofs.Common.{◌≡◌, ◌+◌, ◌∷◌, ◌++◌, ℕ, List, [], Option, None, MatchOption, length, ◌-◌, take, drop, sym, ap, subst, ◌∙◌, arith, take-append-drop}
use Rattle.std.proofs.lemmas.List.{take_rest}
use Rattle.hll_lexer.specs.Pieces.{ClosesAt, IsFront, IsOpen, IsUnclosed}
use Rattle.hll_lexer.specs.declared.front.Front.{Front}
use Rattle.hll_lexer.proofs.FrontLemmas.{block_front, block_open}
use Rattle.hll_lexer.proofs.comments.block_comment.Goals as goal

-- a text that begins with these two bytes
after_two : (text : List ℕ) (a b : ℕ) → take 2 text ≡ a ∷ b ∷ [] → text ≡ a ∷ b ∷ drop 2 text
after_two text a b e = sym (take-append-drop 2 text) ∙ ap (λ (s : List ℕ). s ++ drop 2 text) e

closed : (text : List ℕ) (n : ℕ) → take 2 text ≡ 47 ∷ 42 ∷ [] → ClosesAt (take (length text - 2) (drop 2 text)) n → IsFront text None (2 + n)
closed text n begins c =
    subst (λ (t : List ℕ). IsFront t None (2 + n)) (sym (after_two text 47 42 begins)) (block_front (drop 2 text) n (subst (λ (s : List ℕ). ClosesAt s n) (take_rest text 2) c))

pub returns-in_err-length : goal.returns-in_err-length
returns-in_err-length c =
    let text = c.args.text.now in
    let unclosed = subst IsOpen (sym (after_two text 47 42 c.requires)) (block_open (drop 2 text) (subst IsUnclosed (take_rest text 2) c.in_err-length.ensures)) in
    let P : Option Front → Type 0 = λ r. MatchOption r (IsOpen text) (λ front. IsFront text front.kind front.length) in
    subst P (sym c.from_residual.ensures) unclosed

pub overflow_add-length : goal.overflow_add-length
overflow_add-length c =
    let front = closed c.args.text.now c.in_ok-length.field-0 c.requires c.in_ok-length.ensures in
    let fits = front.fits in omega arith

pub returns : goal.returns
returns c = closed c.args.text.now c.in_ok-length.field-0 c.requires c.in_ok-length.ensures
