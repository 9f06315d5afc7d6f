-- A text is put together from pieces in one way, up to its end or its first fault.
use Rattle.std.proofs.Common.{◌≡◌, ◌+◌, ◌-◌, ◌≤◌, ℕ, List, [], ◌∷◌, ◌++◌, length, Option, Some, None, ◌⊎◌, inl, inr, refl, sym, ap, subst, ◌∙◌, arith, append_assoc, append-nil, length-append, add-zero, option_map, option_to_list, take, drop, zero-add, take-add, take-append-drop, length-take-le, length-drop, drop-drop}
use Rattle.std.proofs.lemmas.List.{take_all, drop_all, take_rest}
use Rattle.hll_lexer.specs.Pieces.{Stands, IsFault, IsFront}
use Rattle.hll_lexer.specs.Tokens.{Piece, text_of, AllStand, token_at, tokens_of, Splits, fault_at, HasFault}
use Rattle.hll_lexer.specs.declared.fault.Fault.{Fault}
use Rattle.hll_lexer.specs.declared.fault.LexFault.{LexFault}
use Rattle.hll_lexer.specs.declared.token.Token.{Token}
use Rattle.hll_lexer.specs.declared.token.TokenKind.{TokenKind}
use Rattle.hll_lexer.proofs.PieceLemmas.{one_piece, piece_some, fault_no_piece, one_fault, fault_some}

-- ---- pieces one after another

pub text_of-append : (ps qs : List Piece) → text_of (ps ++ qs) ≡ text_of ps ++ text_of qs
text_of-append [] qs = refl
text_of-append (p ∷ ps) qs = ap (λ (s : List ℕ). p.bytes ++ s) (text_of-append ps qs) ∙ sym (append_assoc p.bytes (text_of ps) (text_of qs))

-- what stands before a text that is put together itself
pub AllStand-append : (ps qs : List Piece) (rest : List ℕ) → AllStand ps (text_of qs ++ rest) → AllStand qs rest → AllStand (ps ++ qs) rest
AllStand-append [] qs rest front back = back
AllStand-append (p ∷ ps) qs rest front back =
    let same : text_of (ps ++ qs) ++ rest ≡ text_of ps ++ (text_of qs ++ rest) = ap (λ (s : List ℕ). s ++ rest) (text_of-append ps qs) ∙ append_assoc (text_of ps) (text_of qs) rest in
    (subst (Stands p.kind p.bytes) (sym same) front.0, AllStand-append ps qs rest front.1 back)

pub tokens_of-append : (at : ℕ) (ps qs : List Piece) → tokens_of at (ps ++ qs) ≡ tokens_of at ps ++ tokens_of (at + length (text_of ps)) qs
tokens_of-append at [] qs = ap (λ (n : ℕ). tokens_of n qs) (sym (add-zero at))
tokens_of-append at (p ∷ ps) qs =
    let place : at + length p.bytes + length (text_of ps) ≡ at + length (p.bytes ++ text_of ps) = omega (arith, length-append p.bytes (text_of ps)) in
    ap (λ (ts : List Token). option_to_list (token_at at p) ++ ts) (tokens_of-append (at + length p.bytes) ps qs ∙ ap (λ (n : ℕ). tokens_of (at + length p.bytes) ps ++ tokens_of n qs) place)
    ∙ sym (append_assoc (option_to_list (token_at at p)) (tokens_of (at + length p.bytes) ps) (tokens_of (at + length (p.bytes ++ text_of ps)) qs))

-- ---- one way

-- of two ways to put one text together, one goes on from the other
pub record GoesOn (ps : List Piece) (rest : List ℕ) (qs : List Piece) (rest' : List ℕ) : Type 0 where
  pub more : List Piece
  pub pieces : qs ≡ ps ++ more
  pub whole : rest ≡ text_of more ++ rest'
  pub stand : AllStand more rest'

one_head : (p q : Piece) → p.kind ≡ q.kind → p.bytes ≡ q.bytes → p ≡ q
one_head p q kind bytes =
    let made : List ℕ → Option TokenKind → Piece = λ b k. record { bytes = b; kind = k } in
    ap (λ (b : List ℕ). made b p.kind) bytes ∙ ap (made q.bytes) kind

ways : (ps : List Piece) (rest : List ℕ) (qs : List Piece) (rest' : List ℕ) → AllStand ps rest → AllStand qs rest' → text_of ps ++ rest ≡ text_of qs ++ rest' → GoesOn ps rest qs rest' ⊎ GoesOn qs rest' ps rest
ways [] rest qs rest' s s' e = inl (record { more = qs; pieces = refl; whole = e; stand = s' })
ways (p ∷ ps) rest [] rest' s s' e = inr (record { more = p ∷ ps; pieces = refl; whole = sym e; stand = s })
ways (p ∷ ps) rest (q ∷ qs) rest' s s' e =
    let whole = sym (append_assoc p.bytes (text_of ps) rest) ∙ e ∙ append_assoc q.bytes (text_of qs) rest' in
    let same = one_piece p.kind p.bytes (text_of ps ++ rest) q.kind q.bytes (text_of qs ++ rest') s.0 s'.0 whole in
    let head = one_head p q same.same_kind same.same_bytes in
    elim (ways ps rest qs rest' s.1 s'.1 same.same_rest) [
      | inl w ↦ inl (record {
        more = w.more;
        pieces = ap (λ (x : Piece). x ∷ qs) (sym head) ∙ ap (λ (xs : List Piece). p ∷ xs) w.pieces;
        whole = w.whole;
        stand = w.stand;
      })
      | inr w ↦ inr (record {
        more = w.more;
        pieces = ap (λ (x : Piece). x ∷ ps) head ∙ ap (λ (xs : List Piece). q ∷ xs) w.pieces;
        whole = w.whole;
        stand = w.stand;
      })
    ]

-- no pieces make up the empty text
no_pieces : (ps : List Piece) (rest : List ℕ) → AllStand ps rest → length (text_of ps ++ rest) ≡ 0 → ps ≡ []
no_pieces [] rest s e = refl
no_pieces (p ∷ ps) rest s e =
    let some = piece_some p.kind p.bytes (text_of ps ++ rest) s.0 in
    absurd (omega (arith, length-append (p.bytes ++ text_of ps) rest, length-append p.bytes (text_of ps)))

-- where one goes on to the end, there is no more of it
ended : (ps qs : List Piece) (rest : List ℕ) → GoesOn ps [] qs rest → (qs ≡ ps) × (rest ≡ [])
ended ps qs rest w =
    let none = no_pieces w.more rest w.stand (sym (ap length w.whole)) in (
      w.pieces ∙ ap (λ (us : List Piece). ps ++ us) none ∙ append-nil ps,
      sym (w.whole ∙ ap (λ (us : List Piece). text_of us ++ rest) none),
    )

-- a text is split in one way at most
pub one_split : (text : List ℕ) (one other : List Token) → Splits text one → Splits text other → one ≡ other
one_split text one other s t =
    let whole = ap (λ (x : List ℕ). x ++ []) (sym s.whole ∙ t.whole) in
    let same : s.pieces ≡ t.pieces = elim (ways s.pieces [] t.pieces [] s.stand t.stand whole) [
      | inl w ↦ sym (ended s.pieces t.pieces [] w).0
      | inr w ↦ (ended t.pieces s.pieces [] w).0
    ] in
    s.tokens ∙ ap (tokens_of 0) same ∙ sym t.tokens

-- ---- faults

-- no piece stands where a fault does
fault_ends : (rest : List ℕ) (kind : Fault) (more : List Piece) (rest' : List ℕ) → IsFault rest kind → rest ≡ text_of more ++ rest' → AllStand more rest' → more ≡ []
fault_ends rest kind [] rest' f whole s = refl
fault_ends rest kind (p ∷ ps) rest' f whole s =
    absurd (fault_no_piece rest kind p.kind p.bytes (text_of ps ++ rest') f (whole ∙ append_assoc p.bytes (text_of ps) rest') s.0)

-- nothing goes on from a fault
same_place : (ps : List Piece) (rest : List ℕ) (qs : List Piece) (rest' : List ℕ) (kind : Fault) → IsFault rest kind → GoesOn ps rest qs rest' → (qs ≡ ps) × (rest ≡ rest')
same_place ps rest qs rest' kind f w =
    let none = fault_ends rest kind w.more rest' f w.whole w.stand in (
      w.pieces ∙ ap (λ (us : List Piece). ps ++ us) none ∙ append-nil ps,
      w.whole ∙ ap (λ (us : List Piece). text_of us ++ rest') none,
    )

-- a text with a fault isn't split
pub split_or_fault : (text : List ℕ) (ts : List Token) (why : LexFault) → Splits text ts → HasFault text why → ⊥
split_or_fault text ts why s f =
    let some = fault_some f.rest f.kind f.fault in
    let whole = append-nil (text_of s.pieces) ∙ sym s.whole ∙ f.whole in
    let none : f.rest ≡ [] = elim (ways s.pieces [] f.pieces f.rest s.stand f.stand whole) [
      | inl w ↦ (ended s.pieces f.pieces f.rest w).1
      | inr w ↦ (same_place f.pieces f.rest s.pieces [] f.kind f.fault w).1
    ] in
    omega (arith, ap length none)

same_fault : (text : List ℕ) (one other : LexFault) (f : HasFault text one) (g : HasFault text other) → (g.pieces ≡ f.pieces) × (f.rest ≡ g.rest) → one ≡ other
same_fault text one other f g same =
    let kinds = one_fault f.rest f.kind g.kind f.fault (subst (λ (r : List ℕ). IsFault r g.kind) (sym same.1) g.fault) in
    f.place ∙ ap (fault_at (length (text_of f.pieces))) kinds ∙ ap (λ (us : List Piece). fault_at (length (text_of us)) g.kind) (sym same.0) ∙ sym g.place

-- a text has one first fault at most
pub one_first_fault : (text : List ℕ) (one other : LexFault) → HasFault text one → HasFault text other → one ≡ other
one_first_fault text one other f g =
    elim (ways f.pieces f.rest g.pieces g.rest f.stand g.stand (sym f.whole ∙ g.whole)) [
      | inl w ↦ same_fault text one other f g (same_place f.pieces f.rest g.pieces g.rest f.kind f.fault w)
      | inr w ↦ sym (same_fault text other one g f (same_place g.pieces g.rest f.pieces f.rest g.kind g.fault w))
    ]

-- ---- found from the front

-- the text is put together up to a place, with these tokens
pub record IsCutTo (text : List ℕ) (from : ℕ) (tokens : List Token) : Type 0 where
  pub pieces : List Piece
  pub within : from ≤ length text
  pub whole : text_of pieces ≡ take from text
  pub stand : AllStand pieces (drop from text)
  pub found : tokens ≡ tokens_of 0 pieces

pub cut_first : (text : List ℕ) → IsCutTo text 0 []
cut_first text = record { pieces = []; within = omega arith; whole = refl; stand = tt; found = refl }

cut_place : (text : List ℕ) (from : ℕ) (ps : List Piece) → text_of ps ≡ take from text → from ≤ length text → length (text_of ps) ≡ from
cut_place text from ps whole within = ap length whole ∙ length-take-le from text within

abbrev pub token_made : TokenKind → ℕ → ℕ → Token
token_made kind from to = record { kind = kind; from = from; to = to }

-- one piece further
pub cut_more : (text : List ℕ) (from : ℕ) (tokens : List Token) (kind : Option TokenKind) (n : ℕ) → IsCutTo text from tokens → IsFront (drop from text) kind n → IsCutTo text (from + n) (tokens ++ option_to_list (option_map (λ k. record { kind = k; from = from; to = from + n }) kind))
cut_more text from tokens kind n so_far front =
    let bytes = take n (drop from text) in
    let piece : Piece = record { bytes = bytes; kind = kind } in
    let ps = so_far.pieces in
    let lengths = length-drop from text in
    let fits = front.fits in
    let within = so_far.within in
    let back : drop n (drop from text) ≡ drop (from + n) text = drop-drop n from text in
    let long : length bytes ≡ n = length-take-le n (drop from text) front.fits in
    let here : length (text_of ps) ≡ from = cut_place text from ps so_far.whole so_far.within in
    let rest : drop from text ≡ text_of (piece ∷ []) ++ drop (from + n) text =
    sym (take-append-drop n (drop from text)) ∙ ap (λ (s : List ℕ). bytes ++ s) back ∙ ap (λ (s : List ℕ). s ++ drop (from + n) text) (sym (append-nil bytes)) in
    let stands : Stands kind bytes (drop (from + n) text) = subst (Stands kind bytes) back front.stands in
    let token : option_to_list (token_at from piece) ≡ option_to_list (option_map (λ k. record { kind = k; from = from; to = from + n }) kind) =
    ap (λ (m : ℕ). option_to_list (option_map (λ k. token_made k from (from + m)) kind)) long in
    record {
      pieces = ps ++ piece ∷ [];
      within = omega arith;
      whole = text_of-append ps (piece ∷ []) ∙ ap (λ (s : List ℕ). s ++ (bytes ++ [])) so_far.whole ∙ ap (λ (s : List ℕ). take from text ++ s) (append-nil bytes) ∙ sym (take-add from n text);
      stand = AllStand-append ps (piece ∷ []) (drop (from + n) text) (subst (AllStand ps) rest so_far.stand) (stands, tt);
      found = ap (λ (ts : List Token). ts ++ option_to_list (option_map (λ k. token_made k from (from + n)) kind)) so_far.found
          ∙ ap (λ (ts : List Token). tokens_of 0 ps ++ ts) (sym token ∙ sym (append-nil (option_to_list (token_at from piece))))
          ∙ ap (λ (m : ℕ). tokens_of 0 ps ++ (option_to_list (token_at m piece) ++ [])) (sym (zero-add (length (text_of ps)) ∙ here))
          ∙ sym (tokens_of-append 0 ps (piece ∷ []));
    }

-- the same of a token, and of a blank or a comment
pub cut_token : (text : List ℕ) (from : ℕ) (tokens : List Token) (kind : Option TokenKind) (k : TokenKind) (n : ℕ) → IsCutTo text from tokens → kind ≡ Some k → IsFront (take (length text - from) (drop from text)) kind n → IsCutTo text (from + n) (tokens ++ token_made k from (from + n) ∷ [])
cut_token text from tokens kind k n so_far is front =
    let there = subst (λ (s : List ℕ). IsFront s kind n) (take_rest text from) front in
    cut_more text from tokens (Some k) n so_far (subst (λ (o : Option TokenKind). IsFront (drop from text) o n) is there)

pub cut_gap : (text : List ℕ) (from : ℕ) (tokens : List Token) (kind : Option TokenKind) (n : ℕ) → IsCutTo text from tokens → kind ≡ None → IsFront (take (length text - from) (drop from text)) kind n → IsCutTo text (from + n) tokens
cut_gap text from tokens kind n so_far is front =
    let there = subst (λ (s : List ℕ). IsFront s kind n) (take_rest text from) front in
    subst (IsCutTo text (from + n)) (append-nil tokens) (cut_more text from tokens None n so_far (subst (λ (o : Option TokenKind). IsFront (drop from text) o n) is there))

-- at the end of the text these are its tokens
pub cut_ends : (text : List ℕ) (from : ℕ) (tokens : List Token) → IsCutTo text from tokens → length text ≤ from → Splits text tokens
cut_ends text from tokens so_far end = record {
  pieces = so_far.pieces;
  whole = sym (so_far.whole ∙ take_all from text end);
  stand = subst (AllStand so_far.pieces) (drop_all from text end) so_far.stand;
  tokens = so_far.found;
}

-- a fault there is the first
pub cut_fault : (text : List ℕ) (from : ℕ) (tokens : List Token) (kind : Fault) → IsCutTo text from tokens → IsFault (drop from text) kind → HasFault text (fault_at from kind)
cut_fault text from tokens kind so_far f = record {
  pieces = so_far.pieces;
  rest = drop from text;
  kind = kind;
  whole = sym (take-append-drop from text) ∙ ap (λ (s : List ℕ). s ++ drop from text) (sym so_far.whole);
  stand = so_far.stand;
  fault = f;
  place = ap (λ (n : ℕ). fault_at n kind) (sym (cut_place text from so_far.pieces so_far.whole so_far.within));
}
