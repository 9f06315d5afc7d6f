use Rattle.std.proofs.Common.{◌≡◌, ◌+◌, ◌∷◌, ℕ, List, None, ◌++◌, length, drop, not, sym, ap, subst, ◌∙◌, arith, take-append-drop}
use Rattle.std.proofs.lemmas.List.{take_rest}
use Rattle.std.proofs.lemmas.List.Sums.{prefix_len-le-length}
use Rattle.std.specs.List.{prefix_len}
use Rattle.hll_lexer.specs.Place.{is_line_feed}
use Rattle.hll_lexer.specs.Pieces.{IsFront}
use Rattle.hll_lexer.proofs.FrontLemmas.{line_front}
use Rattle.hll_lexer.proofs.comments.line_comment.Goals as goal

pub overflow_add-result : goal.overflow_add-result
overflow_add-result c =
    let text = c.args.text.now in
    let inner = drop 2 text in
    let is : c.line_length.result ≡ prefix_len (λ b. not (is_line_feed b)) inner = c.line_length.ensures ∙ ap (prefix_len (λ b. not (is_line_feed b))) (take_rest text 2) in
    let whole : text ≡ 47 ∷ 47 ∷ inner = sym (take-append-drop 2 text) ∙ ap (λ (s : List ℕ). s ++ inner) c.requires in
    let short = prefix_len-le-length (λ (b : ℕ). not (is_line_feed b)) inner in
    omega (arith, ap length whole)

pub returns : goal.returns
returns c =
    let text = c.args.text.now in
    let inner = drop 2 text in
    let is : c.line_length.result ≡ prefix_len (λ b. not (is_line_feed b)) inner = c.line_length.ensures ∙ ap (prefix_len (λ b. not (is_line_feed b))) (take_rest text 2) in
    let whole : text ≡ 47 ∷ 47 ∷ inner = sym (take-append-drop 2 text) ∙ ap (λ (s : List ℕ). s ++ inner) c.requires in
    subst (λ (t : List ℕ). IsFront t None (2 + c.line_length.result)) (sym whole) (line_front inner c.line_length.result is)
