use Rattle.std.proofs.Common.{◌≡◌, ◌+◌, ◌++◌, ◌∷◌, [], sym, subst, ◌∙◌}
use Rattle.std.proofs.lemmas.Bool.{cond-true}
use Rattle.hll_lexer.proofs.SplitLemmas.{IsCutTo, token_made, cut_token, cut_gap, cut_ends, one_split}
use Rattle.hll_lexer.proofs.lexer.tokens.Goals as goal

pub loop-from-preserved-in_ok-map_err : goal.loop-from-preserved-in_ok-map_err
loop-from-preserved-in_ok-map_err c =
    let text = c.args.text.now in
    let from = c.loop-from.from in
    let front = c.in-Ok.front in
    let token = token_made c.in-Some.kind from (from + front.length) in
    let pushed : c.push.new.self.items ≡ c.loop-from.tokens.items ++ token ∷ [] = c.push.ensures.items ∙ cond-true _ _ _ (sym c.in_ok-map_err.ensures.variant) in
    subst (IsCutTo text (from + front.length)) (sym pushed)
    (cut_token text from c.loop-from.tokens.items front.kind c.in-Some.kind front.length c.loop-from.invariant c.in-Some.is c.in-Ok.ensures)

pub loop-from-preserved : goal.loop-from-preserved
loop-from-preserved c =
    let front = c.in-Ok.front in
    cut_gap c.args.text.now c.loop-from.from c.loop-from.tokens.items front.kind front.length c.loop-from.invariant c.in_default.is c.in-Ok.ensures

pub returns-clause-only : goal.returns-clause-only
returns-clause-only c = λ others s. (
    let text = c.args.text.now in
    let tokens = c.loop-from.tokens.items in
    one_split text others tokens s (cut_ends text c.loop-from.from tokens c.loop-from.invariant c.loop-from-test.false))
