use Rattle.std.proofs.Common.{ℕ, List, Option, Some, None, MatchOption, option_map, find, sym, ap, subst, ◌∙◌}
use Rattle.hll_lexer.specs.Pieces.{IsFront, IsStray}
use Rattle.hll_lexer.specs.declared.front.Front.{Front}
use Rattle.hll_lexer.specs.declared.token.Mark.{Mark}
use Rattle.hll_lexer.proofs.TableLemmas.{fronting}
use Rattle.hll_lexer.proofs.FrontLemmas.{mark_result, with_length}
use Rattle.hll_lexer.proofs.marks.mark.Goals as goal

pub returns-in_err-mark : goal.returns-in_err-mark
returns-in_err-mark c =
    let text = c.args.text.now in
    let is = c.mark_in.ensures ∙ ap (λ (rows : List (List ℕ × Mark)). option_map with_length (find (fronting text) rows)) c.marks_from.ensures in
    let none = mark_result text None c.requires.some c.requires.sign c.requires.apart (sym c.in_err-mark.was ∙ is) in
    let P : Option Front → Type 0 = λ r. MatchOption r (IsStray text) (λ front. IsFront text front.kind front.length) in
    subst P (sym c.from_residual.ensures) none

pub returns : goal.returns
returns c =
    let text = c.args.text.now in
    let is = c.mark_in.ensures ∙ ap (λ (rows : List (List ℕ × Mark)). option_map with_length (find (fronting text) rows)) c.marks_from.ensures in
    mark_result text (Some (c.in_ok-mark.mark, c.in_ok-mark.length)) c.requires.some c.requires.sign c.requires.apart (sym c.in_ok-mark.was ∙ is)
