-- The tokens of a text are fine: what they name and what they are worth can be printed.
use Rattle.std.proofs.Common.{◌≡◌, ◌+◌, ℕ, true, List, [], ◌∷◌, ◌++◌, length, Option, Some, None, inl, inr, refl, sym, ap, subst, ◌∙◌, arith, append_assoc, append-nil, length-append, option_map, option_to_list}
use Rattle.std.specs.List.{slice_range}
use Rattle.hll_lexer.specs.Names.{unquoted}
use Rattle.hll_lexer.specs.Numbers.{number_worth}
use Rattle.hll_lexer.specs.Pieces.{IsToken, IsWithin, Stands}
use Rattle.hll_lexer.specs.Tokens.{Piece, text_of, AllStand, tokens_of, Splits}
use Rattle.hll_lexer.specs.Words.{is_plain_name}
use Rattle.hll_lexer.specs.declared.token.Token.{Token}
use Rattle.hll_lexer.specs.declared.token.TokenKind.{TokenKind}
use Rattle.hll_lexer.specs.declared.token.TokenKind.TheVariants as kind
use Rattle.hll_tree.specs.Printing.{Text}
use Rattle.hll_tree.proofs.LaidTokens.{IsNameText, plain_begins, range_of, unquoted_plain, unquoted_quoted}
use Rattle.hll_tree.proofs.Gives.{FineAs, AllFine}

name_fine : (bytes : Text) → IsToken bytes kind.Name → IsNameText (unquoted bytes)
name_fine bytes (inl h) = inl (subst (λ (b : Text). is_plain_name b ≡ true) (sym (unquoted_plain bytes (plain_begins bytes h))) h)
name_fine bytes (inr q) = subst IsNameText (sym (ap unquoted q.whole ∙ unquoted_quoted q.inner)) (inr (q.some, q.quotable))

piece_fine : (k : TokenKind) (bytes : Text) → IsToken bytes k → IsWithin k bytes → FineAs k (unquoted bytes)
piece_fine kind.Name bytes is within = name_fine bytes is
piece_fine (kind.Number n) bytes is within = (number_worth bytes, is.1, within)
piece_fine (kind.Reserved w) bytes is within = tt
piece_fine (kind.Mark m) bytes is within = tt

fine_step : (src : Text) (k : Option TokenKind) (bytes rest : Text) (at : ℕ) (ts : List Token) → Stands k bytes rest → slice_range src at (at + length bytes) ≡ bytes → AllFine src ts →
    AllFine src (option_to_list (option_map (λ k. record { kind = k; from = at; to = at + length bytes }) k) ++ ts)
fine_step src None bytes rest at ts s there others = others
fine_step src (Some k) bytes rest at ts s there others = (subst (λ (b : Text). FineAs k (unquoted b)) (sym there) (piece_fine k bytes s.0.token s.1), others)

fine_from : (before : Text) (ps : List Piece) (rest : Text) (at : ℕ) → at ≡ length before → AllStand ps rest → AllFine (before ++ (text_of ps ++ rest)) (tokens_of at ps)
fine_from before [] rest at place s = tt
fine_from before (p ∷ ps) rest at place s =
    let src = before ++ (text_of (p ∷ ps) ++ rest) in
    let whole : src ≡ before ++ (p.bytes ++ (text_of ps ++ rest)) = ap (λ (t : Text). before ++ t) (append_assoc p.bytes (text_of ps) rest) in
    let there : slice_range src at (at + length p.bytes) ≡ p.bytes =
    ap (λ (n : ℕ). slice_range src n (n + length p.bytes)) place ∙ ap (λ (t : Text). slice_range t (length before) (length before + length p.bytes)) whole ∙ range_of before p.bytes (text_of ps ++ rest) in
    let next : at + length p.bytes ≡ length (before ++ p.bytes) = omega (arith, length-append before p.bytes) in
    let others = fine_from (before ++ p.bytes) ps rest (at + length p.bytes) next s.1 in
    fine_step src p.kind p.bytes (text_of ps ++ rest) at (tokens_of (at + length p.bytes) ps) s.0 there
    (subst (λ (t : Text). AllFine t (tokens_of (at + length p.bytes) ps)) (append_assoc before p.bytes (text_of ps ++ rest) ∙ sym whole) others)

pub tokens_fine : (text : Text) (ts : List Token) → Splits text ts → AllFine text ts
tokens_fine text ts s =
    let all = fine_from [] s.pieces [] 0 refl s.stand in
    subst (λ (t : Text). AllFine t ts) (append-nil (text_of s.pieces) ∙ sym s.whole) (subst (AllFine (text_of s.pieces ++ [])) (sym s.tokens) all)
