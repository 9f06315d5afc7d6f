-- The tokens of a text stand in it one behind the other.
use Rattle.std.proofs.Common.{◌≡◌, ◌+◌, ◌-◌, ◌<◌, ◌≤◌, ℕ, List, [], ◌∷◌, ◌++◌, length, take, drop, Option, Some, None, refl, sym, ap, subst, ◌∙◌, arith, append_assoc, append-nil, length-append, option_map, option_to_list, take_at}
use Rattle.std.proofs.lemmas.List.{drop_at}
use Rattle.std.specs.List.{slice_range}
use Rattle.hll_lexer.specs.Pieces.{IsToken, Stands}
use Rattle.hll_lexer.specs.Tokens.{Piece, text_of, AllStand, tokens_of, Splits, AreInOrder, AreTokens}
use Rattle.hll_lexer.specs.declared.token.Token.{Token}
use Rattle.hll_lexer.specs.declared.token.TokenKind.{TokenKind}
use Rattle.hll_lexer.proofs.PieceLemmas.{piece_some}

from_earlier : (at later end : ℕ) (ts : List Token) → at ≤ later → AreInOrder later end ts → AreInOrder at end ts
from_earlier at later end [] h order = tt
from_earlier at later end (t ∷ ts) h order = let first = order.0 in (omega arith, order.1, order.2, order.3)

order_step : (kind : Option TokenKind) (at len end : ℕ) (ts : List Token) → 0 < len → at + len ≤ end → AreInOrder (at + len) end ts → AreInOrder at end (option_to_list (option_map (λ k. record { kind = k; from = at; to = at + len }) kind) ++ ts)
order_step None at len end ts some within order = from_earlier at (at + len) end ts (omega arith) order
order_step (Some kind) at len end ts some within order = (omega arith, omega arith, within, order)

order_from : (at end : ℕ) (ps : List Piece) (rest : List ℕ) → AllStand ps rest → at + length (text_of ps) ≤ end → AreInOrder at end (tokens_of at ps)
order_from at end [] rest s within = tt
order_from at end (p ∷ ps) rest s within =
    let lengths = length-append p.bytes (text_of ps) in
    order_step p.kind at (length p.bytes) end (tokens_of (at + length p.bytes) ps) (piece_some p.kind p.bytes (text_of ps ++ rest) s.0) (omega arith)
    (order_from (at + length p.bytes) end ps rest s.1 (omega arith))

-- each token lies within the text, and begins no earlier than the one before it ends
pub tokens_in_order : (text : List ℕ) (ts : List Token) → Splits text ts → AreInOrder 0 (length text) ts
tokens_in_order text ts s =
    let whole = ap length s.whole in
    subst (AreInOrder 0 (length text)) (sym s.tokens) (order_from 0 (length text) s.pieces [] s.stand (omega arith))

range_of : (before bytes after : List ℕ) (from : ℕ) → from ≡ length before → slice_range (before ++ (bytes ++ after)) from (from + length bytes) ≡ bytes
range_of before bytes after from place =
    let long : from + length bytes - from ≡ length bytes = omega arith in
    ap (λ (n : ℕ). take n (drop from (before ++ (bytes ++ after)))) long
    ∙ ap (take (length bytes)) (drop_at before (bytes ++ after) from (sym place)) ∙ take_at bytes after (length bytes) refl

token_step : (text : List ℕ) (kind : Option TokenKind) (bytes rest : List ℕ) (at : ℕ) (ts : List Token) → Stands kind bytes rest → slice_range text at (at + length bytes) ≡ bytes → AreTokens text ts → AreTokens text (option_to_list (option_map (λ k. record { kind = k; from = at; to = at + length bytes }) kind) ++ ts)
token_step text None bytes rest at ts s there others = others
token_step text (Some kind) bytes rest at ts s there others = (subst (λ (b : List ℕ). IsToken b kind) (sym there) s.0.token, others)

tokens_from : (before : List ℕ) (ps : List Piece) (rest : List ℕ) (at : ℕ) → at ≡ length before → AllStand ps rest → AreTokens (before ++ (text_of ps ++ rest)) (tokens_of at ps)
tokens_from before [] rest at place s = tt
tokens_from before (p ∷ ps) rest at place s =
    let text = before ++ (text_of (p ∷ ps) ++ rest) in
    let whole : text ≡ before ++ (p.bytes ++ (text_of ps ++ rest)) = ap (λ (s : List ℕ). before ++ s) (append_assoc p.bytes (text_of ps) rest) in
    let there : slice_range text at (at + length p.bytes) ≡ p.bytes = ap (λ (t : List ℕ). slice_range t at (at + length p.bytes)) whole ∙ range_of before p.bytes (text_of ps ++ rest) at place in
    let next : at + length p.bytes ≡ length (before ++ p.bytes) = omega (arith, length-append before p.bytes) in
    let others = tokens_from (before ++ p.bytes) ps rest (at + length p.bytes) next s.1 in
    token_step text p.kind p.bytes (text_of ps ++ rest) at (tokens_of (at + length p.bytes) ps) s.0 there
    (subst (λ (t : List ℕ). AreTokens t (tokens_of (at + length p.bytes) ps)) (append_assoc before p.bytes (text_of ps ++ rest) ∙ sym whole) others)

-- the bytes of each token are one of its kind
pub tokens_are_tokens : (text : List ℕ) (ts : List Token) → Splits text ts → AreTokens text ts
tokens_are_tokens text ts s =
    let all = tokens_from [] s.pieces [] 0 refl s.stand in
    subst (λ (t : List ℕ). AreTokens t ts) (append-nil (text_of s.pieces) ∙ sym s.whole) (subst (AreTokens (text_of s.pieces ++ [])) (sym s.tokens) all)
