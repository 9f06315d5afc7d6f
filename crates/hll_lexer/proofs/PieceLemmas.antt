-- One piece or one fault stands at the front of a text.
use Rattle.std.proofs.Common.{◌≡◌, ◌<◌, ◌≤◌, ℕ, Bool, true, false, ◌||◌, eqb, List, [], ◌∷◌, ◌++◌, length, get_or, Option, Some, None, inl, inr, refl, sym, ap, subst, ◌∙◌, arith, codes, append_assoc, append-nil, length-append, pos}
use Rattle.std.proofs.lemmas.Bool.{both_ways}
use Rattle.hll_lexer.specs.Numbers.{number_worth}
use Rattle.hll_lexer.specs.Pieces.{is_blank, is_quotable, AllPass, Stops, IsBlank, IsLineComment, IsBlockComment, IsUnclosed, BeginsComment, IsQuoted, IsToken, IsLongestToken, IsWithin, greatest, Stands, IsOpen, IsTooGreat, IsFault}
use Rattle.hll_lexer.specs.declared.fault.Fault.{Fault}
use Rattle.hll_lexer.specs.declared.fault.Fault.TheVariants as fault
use Rattle.hll_lexer.specs.declared.token.TokenKind.{TokenKind}
use Rattle.hll_lexer.specs.declared.token.TokenKind.TheVariants.{Name, Number}
use Rattle.hll_lexer.proofs.RunLemmas.{cuts, one_cut, one_run}
use Rattle.hll_lexer.proofs.FormLemmas.{Start, start_of, blank_starts, token_form, one_kind, form_here}

-- these two pieces, with what follows each, are one
pub record AreSame (kind : Option TokenKind) (bytes rest : List ℕ) (kind' : Option TokenKind) (bytes' rest' : List ℕ) : Type 0 where
  pub same_kind : kind ≡ kind'
  pub same_bytes : bytes ≡ bytes'
  pub same_rest : rest ≡ rest'

-- ---- tokens

-- a text begins with one longest token at most
pub one_longest : (bytes rest : List ℕ) (kind : TokenKind) (bytes' rest' : List ℕ) (kind' : TokenKind) → IsLongestToken bytes kind rest → IsLongestToken bytes' kind' rest' → bytes ++ rest ≡ bytes' ++ rest' → AreSame (Some kind) bytes rest (Some kind') bytes' rest'
one_longest bytes rest kind bytes' rest' kind' l l' e =
    let above = l.longest bytes' rest' kind' e l'.token in
    let below = l'.longest bytes rest kind (sym e) l.token in
    let same = one_cut bytes rest bytes' rest' e (omega arith) in
    record {
      same_kind = ap (λ (k : TokenKind). Some k) (one_kind bytes kind kind' l.token (subst (λ (b : List ℕ). IsToken b kind') (sym same.0) l'.token));
      same_bytes = same.0;
      same_rest = same.1;
    }

-- ---- comments

-- a place of a `*/`
pub closes_at : (before after : List ℕ) → before ++ codes "*/" ++ after ≡ before ++ 42 ∷ 47 ∷ after
closes_at before after = append_assoc before (codes "*/") after

pub line_text : (bytes rest : List ℕ) (l : IsLineComment bytes rest) → bytes ++ rest ≡ 47 ∷ 47 ∷ (l.inner ++ rest)
line_text bytes rest l = ap (λ (b : List ℕ). b ++ rest) l.whole

pub block_text : (bytes rest : List ℕ) (b : IsBlockComment bytes) → bytes ++ rest ≡ 47 ∷ 42 ∷ (b.inner ++ 42 ∷ 47 ∷ rest)
block_text bytes rest b = ap (λ (s : List ℕ). s ++ rest) b.whole ∙ ap (λ (s : List ℕ). 47 ∷ 42 ∷ s) (closes_at b.inner rest)

-- a `*/` behind some bytes, none of which belongs to an earlier one
no_later : (inner more rest rest' : List ℕ) → IsUnclosed (inner ++ more ++ codes "*") → 42 ∷ 47 ∷ rest ≡ more ++ 42 ∷ 47 ∷ rest' → more ≡ []
no_later inner [] rest rest' first e = refl
no_later inner (c ∷ []) rest rest' first e =
    let second : ◌≡◌ {A = ℕ} 47 42 = ap (λ (s : List ℕ). get_or s 1 0) e in absurd (omega arith)
no_later inner (c ∷ d ∷ more) rest rest' first e =
    let one : 42 ≡ c = ap (λ (s : List ℕ). get_or s 0 0) e in
    let two : 47 ≡ d = ap (λ (s : List ℕ). get_or s 1 0) e in
    absurd (first inner (more ++ codes "*") (
    append_assoc inner (c ∷ d ∷ more) (codes "*") ∙ ap (λ (x : ℕ). inner ++ x ∷ d ∷ (more ++ codes "*")) (sym one)
    ∙ ap (λ (x : ℕ). inner ++ 42 ∷ x ∷ (more ++ codes "*")) (sym two) ∙ sym (closes_at inner (more ++ codes "*"))))

-- the first `*/` is one
one_close : (inner rest inner' rest' : List ℕ) → IsUnclosed (inner ++ codes "*") → IsUnclosed (inner' ++ codes "*") → inner ++ 42 ∷ 47 ∷ rest ≡ inner' ++ 42 ∷ 47 ∷ rest' → length inner ≡ length inner'
one_close inner rest inner' rest' first first' e =
    elim (cuts inner (42 ∷ 47 ∷ rest) inner' (42 ∷ 47 ∷ rest') e) [
      | inl w ↦ (
          let none = no_later inner w.0 rest rest' (subst (λ (s : List ℕ). IsUnclosed (s ++ codes "*")) w.1 first') w.2 in
          sym (ap length w.1 ∙ ap (λ (m : List ℕ). length (inner ++ m)) none ∙ ap length (append-nil inner)))
      | inr w ↦ (
          let none = no_later inner' w.0 rest' rest (subst (λ (s : List ℕ). IsUnclosed (s ++ codes "*")) w.1 first) w.2 in
          ap length w.1 ∙ ap (λ (m : List ℕ). length (inner' ++ m)) none ∙ ap length (append-nil inner'))
    ]

-- ---- blanks and comments

-- the first bytes of these
blank_first : (bytes rest : List ℕ) → IsBlank bytes → is_blank (get_or (bytes ++ rest) 0 0) ≡ true
blank_first bytes rest b = ap (λ (s : List ℕ). is_blank (get_or (s ++ rest) 0 0)) b.1 ∙ b.2

pub space_some : (bytes rest : List ℕ) → Stands None bytes rest → 0 < length bytes
space_some bytes rest s =
    elim s [
      | inl b ↦ omega (arith, ap length b.1)
      | inr c ↦ elim c [ inl l ↦ omega (arith, ap length l.whole) | inr b ↦ omega (arith, ap length b.whole) ]
    ]

-- where a blank or a comment stands, no token does
space_no_token : (bytes rest : List ℕ) (kind : TokenKind) (bytes' rest' : List ℕ) → Stands None bytes rest → IsLongestToken bytes' kind rest' → bytes ++ rest ≡ bytes' ++ rest' → ⊥
space_no_token bytes rest kind bytes' rest' s l e =
    elim s [
      | inl b ↦ (
          let first = ap (λ (t : List ℕ). is_blank (get_or t 0 0)) (sym e) ∙ blank_first bytes rest b in
          form_here (bytes' ++ rest') bytes' rest' kind Start.Blank refl l.token (blank_starts (get_or (bytes' ++ rest') 0 0) first))
      | inr c ↦ elim c [
        | inl w ↦ l.apart (BeginsComment.line (w.inner ++ rest) (sym e ∙ line_text bytes rest w))
        | inr w ↦ l.apart (BeginsComment.block (w.inner ++ 42 ∷ 47 ∷ rest) (sym e ∙ block_text bytes rest w))
      ]
    ]

-- two pieces that are as long are one
as_long : (bytes rest bytes' rest' : List ℕ) → bytes ++ rest ≡ bytes' ++ rest' → length bytes ≡ length bytes' → AreSame None bytes rest None bytes' rest'
as_long bytes rest bytes' rest' e n =
    let same = one_cut bytes rest bytes' rest' e n in record { same_kind = refl; same_bytes = same.0; same_rest = same.1 }

no_blank_comment : (bytes rest text : List ℕ) → IsBlank bytes → bytes ++ rest ≡ 47 ∷ text → ⊥
no_blank_comment bytes rest text b e =
    both_ways (is_blank 47) refl (sym (ap (λ (t : List ℕ). is_blank (get_or t 0 0)) e) ∙ blank_first bytes rest b)

one_line : (bytes rest bytes' rest' : List ℕ) → IsLineComment bytes rest → IsLineComment bytes' rest' → bytes ++ rest ≡ bytes' ++ rest' → length bytes ≡ length bytes'
one_line bytes rest bytes' rest' l l' e =
    let whole = sym (line_text bytes rest l) ∙ e ∙ line_text bytes' rest' l' in
    let tails : l.inner ++ rest ≡ l'.inner ++ rest' = cc in
    let same = one_run _ l.inner rest l'.inner rest' l.line l.ends l'.line l'.ends tails in
    ap length l.whole ∙ ap (λ (s : List ℕ). length (47 ∷ 47 ∷ s)) same.0 ∙ sym (ap length l'.whole)

one_block : (bytes rest bytes' rest' : List ℕ) → IsBlockComment bytes → IsBlockComment bytes' → bytes ++ rest ≡ bytes' ++ rest' → length bytes ≡ length bytes'
one_block bytes rest bytes' rest' b b' e =
    let whole = sym (block_text bytes rest b) ∙ e ∙ block_text bytes' rest' b' in
    let tails : b.inner ++ 42 ∷ 47 ∷ rest ≡ b'.inner ++ 42 ∷ 47 ∷ rest' = cc in
    let same = one_close b.inner rest b'.inner rest' b.first b'.first tails in
    omega (arith, ap length b.whole, ap length b'.whole, length-append b.inner (codes "*/"), length-append b'.inner (codes "*/"))

line_or_block : (bytes rest bytes' rest' : List ℕ) → IsLineComment bytes rest → IsBlockComment bytes' → bytes ++ rest ≡ bytes' ++ rest' → ⊥
line_or_block bytes rest bytes' rest' l b e =
    let second : ◌≡◌ {A = ℕ} 47 42 = ap (λ (t : List ℕ). get_or t 1 0) (sym (line_text bytes rest l) ∙ e ∙ block_text bytes' rest' b) in omega arith

one_space : (bytes rest bytes' rest' : List ℕ) → Stands None bytes rest → Stands None bytes' rest' → bytes ++ rest ≡ bytes' ++ rest' → AreSame None bytes rest None bytes' rest'
one_space bytes rest bytes' rest' s s' e =
    elim s [
      | inl b ↦ elim s' [
        | inl b' ↦ as_long bytes rest bytes' rest' e (ap length b.1 ∙ sym (ap length b'.1))
        | inr c' ↦ elim c' [
          | inl l' ↦ absurd (no_blank_comment bytes rest _ b (e ∙ line_text bytes' rest' l'))
          | inr b' ↦ absurd (no_blank_comment bytes rest _ b (e ∙ block_text bytes' rest' b'))
        ]
      ]
      | inr c ↦ elim c [
        | inl l ↦ elim s' [
          | inl b' ↦ absurd (no_blank_comment bytes' rest' _ b' (sym e ∙ line_text bytes rest l))
          | inr c' ↦ elim c' [
            | inl l' ↦ as_long bytes rest bytes' rest' e (one_line bytes rest bytes' rest' l l' e)
            | inr b' ↦ absurd (line_or_block bytes rest bytes' rest' l b' e)
          ]
        ]
        | inr b ↦ elim s' [
          | inl b' ↦ absurd (no_blank_comment bytes' rest' _ b' (sym e ∙ block_text bytes rest b))
          | inr c' ↦ elim c' [
            | inl l' ↦ absurd (line_or_block bytes' rest' bytes rest l' b (sym e))
            | inr b' ↦ as_long bytes rest bytes' rest' e (one_block bytes rest bytes' rest' b b' e)
          ]
        ]
      ]
    ]

-- ---- one piece

-- a text begins with one piece at most
pub one_piece : (kind : Option TokenKind) (bytes rest : List ℕ) (kind' : Option TokenKind) (bytes' rest' : List ℕ) → Stands kind bytes rest → Stands kind' bytes' rest' → bytes ++ rest ≡ bytes' ++ rest' → AreSame kind bytes rest kind' bytes' rest'
one_piece None bytes rest None bytes' rest' s s' e = one_space bytes rest bytes' rest' s s' e
one_piece None bytes rest (Some kind) bytes' rest' s s' e = absurd (space_no_token bytes rest kind bytes' rest' s s'.0 e)
one_piece (Some kind) bytes rest None bytes' rest' s s' e = absurd (space_no_token bytes' rest' kind bytes rest s' s.0 (sym e))
one_piece (Some kind) bytes rest (Some kind') bytes' rest' s s' e = one_longest bytes rest kind bytes' rest' kind' s.0 s'.0 e

-- a piece has a byte
pub piece_some : (kind : Option TokenKind) (bytes rest : List ℕ) → Stands kind bytes rest → 0 < length bytes
piece_some None bytes rest s = space_some bytes rest s
piece_some (Some kind) bytes rest s = (token_form bytes kind s.0.token).some

-- ---- faults

not_left : (a b : Bool) → (a || b) ≡ false → a ≡ false
not_left true b h = cc
not_left false b h = refl

no_both : (n m most : ℕ) → n ≡ m → n ≤ most → most < m → ⊥
no_both n m most e h k = omega arith

-- a run that ends at no quote is as long as it can be
pub stops_run : (rest : List ℕ) → Stops (λ b. is_quotable b || eqb b 39) rest → Stops is_quotable rest
stops_run [] st = tt
stops_run (b ∷ rest) st = not_left (is_quotable b) (eqb b 39) st

-- a quote that isn't closed isn't a name
pub open_no_quoted : (run rest bytes after : List ℕ) → AllPass is_quotable run → Stops (λ b. is_quotable b || eqb b 39) rest → (q : IsQuoted bytes) → 39 ∷ (run ++ rest) ≡ bytes ++ after → ⊥
open_no_quoted run rest bytes after pass st q e =
    let whole = e ∙ ap (λ (s : List ℕ). s ++ after) q.whole ∙ ap (λ (s : List ℕ). 39 ∷ s) (append_assoc q.inner (codes "'") after) in
    let tails : run ++ rest ≡ q.inner ++ 39 ∷ after = cc in
    let same = one_run is_quotable run rest q.inner (39 ∷ after) pass (stops_run rest st) q.quotable refl tails in
    both_ways true (subst (Stops (λ b. is_quotable b || eqb b 39)) same.1 st) refl

quote_no_space : (text bytes rest : List ℕ) → Stands None bytes rest → 39 ∷ text ≡ bytes ++ rest → ⊥
quote_no_space text bytes rest s e =
    elim s [
      | inl b ↦ both_ways (is_blank 39) refl (ap (λ (t : List ℕ). is_blank (get_or t 0 0)) e ∙ blank_first bytes rest b)
      | inr c ↦ elim c [
        | inl l ↦ (let first : ◌≡◌ {A = ℕ} 39 47 = ap (λ (t : List ℕ). get_or t 0 0) (e ∙ line_text bytes rest l) in omega arith)
        | inr b ↦ (let first : ◌≡◌ {A = ℕ} 39 47 = ap (λ (t : List ℕ). get_or t 0 0) (e ∙ block_text bytes rest b) in omega arith)
      ]
    ]

comment_no_space : (after bytes rest : List ℕ) → IsUnclosed after → Stands None bytes rest → 47 ∷ 42 ∷ after ≡ bytes ++ rest → ⊥
comment_no_space after bytes rest u s e =
    elim s [
      | inl b ↦ no_blank_comment bytes rest (42 ∷ after) b (sym e)
      | inr c ↦ elim c [
        | inl l ↦ (let second : ◌≡◌ {A = ℕ} 42 47 = ap (λ (t : List ℕ). get_or t 1 0) (e ∙ line_text bytes rest l) in omega arith)
        | inr b ↦ (
            let whole = e ∙ block_text bytes rest b in
            let tails : after ≡ b.inner ++ 42 ∷ 47 ∷ rest = cc in
            u b.inner rest (tails ∙ sym (closes_at b.inner rest)))
      ]
    ]

-- where something isn't closed, nothing stands
open_no_piece : (text : List ℕ) (kind : Option TokenKind) (bytes rest : List ℕ) → IsOpen text → text ≡ bytes ++ rest → Stands kind bytes rest → ⊥
open_no_piece text None bytes rest (IsOpen.comment after e u) cut s = comment_no_space after bytes rest u s (sym e ∙ cut)
open_no_piece text None bytes rest (IsOpen.quote run others e pass st) cut s = quote_no_space (run ++ others) bytes rest s (sym e ∙ cut)
open_no_piece text (Some kind) bytes rest (IsOpen.comment after e u) cut s = s.0.apart (BeginsComment.block after (sym cut ∙ e))
open_no_piece text (Some kind) bytes rest (IsOpen.quote run others e pass st) cut s =
    let form = form_here text bytes rest kind Start.Quote cut s.0.token (ap (λ (t : List ℕ). start_of (get_or t 0 0)) e) in
    open_no_quoted run others bytes rest pass st form.0 (sym e ∙ cut)

-- nor does a number that is too great
pub open_not_great : (text : List ℕ) → IsOpen text → IsTooGreat text → ⊥
open_not_great text (IsOpen.comment after e u) g = g.number.apart (BeginsComment.block after (sym g.whole ∙ e))
open_not_great text (IsOpen.quote run others e pass st) g =
    let form = form_here text g.bytes g.rest (Number (pos (number_worth g.bytes))) Start.Quote g.whole g.number.token (ap (λ (t : List ℕ). start_of (get_or t 0 0)) e) in
    let no : Number (pos (number_worth g.bytes)) ≡ Name = form.1 in
    cc

great_no_piece : (text : List ℕ) (kind : Option TokenKind) (bytes rest : List ℕ) → IsTooGreat text → text ≡ bytes ++ rest → Stands kind bytes rest → ⊥
great_no_piece text None bytes rest g cut s = space_no_token bytes rest (Number (pos (number_worth g.bytes))) g.bytes g.rest s g.number (sym cut ∙ g.whole)
great_no_piece text (Some kind) bytes rest g cut s =
    let same = one_longest bytes rest kind g.bytes g.rest (Number (pos (number_worth g.bytes))) s.0 g.number (sym cut ∙ g.whole) in
    let one = same.same_kind in
    let number : kind ≡ Number (pos (number_worth g.bytes)) = cc in
    let within : number_worth bytes ≤ greatest = subst (λ (k : TokenKind). IsWithin k bytes) number s.1 in
    no_both (number_worth bytes) (number_worth g.bytes) greatest (ap number_worth same.same_bytes) within g.above

-- where a fault stands, nothing else does
pub fault_no_piece : (text : List ℕ) (f : Fault) (kind : Option TokenKind) (bytes rest : List ℕ) → IsFault text f → text ≡ bytes ++ rest → Stands kind bytes rest → ⊥
fault_no_piece text fault.Stray kind bytes rest f cut s = f.nothing kind bytes rest cut s
fault_no_piece text fault.Unclosed kind bytes rest f cut s = open_no_piece text kind bytes rest f cut s
fault_no_piece text fault.Number kind bytes rest f cut s = great_no_piece text kind bytes rest f cut s

-- one fault stands at a place at most
pub one_fault : (text : List ℕ) (f g : Fault) → IsFault text f → IsFault text g → f ≡ g
one_fault text fault.Stray fault.Stray f g = refl
one_fault text fault.Stray fault.Unclosed f g = absurd (f.not_open g)
one_fault text fault.Stray fault.Number f g = absurd (f.not_great g)
one_fault text fault.Unclosed fault.Stray f g = absurd (g.not_open f)
one_fault text fault.Unclosed fault.Unclosed f g = refl
one_fault text fault.Unclosed fault.Number f g = absurd (open_not_great text f g)
one_fault text fault.Number fault.Stray f g = absurd (g.not_great f)
one_fault text fault.Number fault.Unclosed f g = absurd (open_not_great text g f)
one_fault text fault.Number fault.Number f g = refl

-- a fault stands where a byte does
pub fault_some : (text : List ℕ) (f : Fault) → IsFault text f → 0 < length text
fault_some text fault.Stray f = f.some
fault_some text fault.Unclosed (IsOpen.comment after e u) = omega (arith, ap length e)
fault_some text fault.Unclosed (IsOpen.quote run others e pass st) = omega (arith, ap length e)
fault_some text fault.Number f =
    let some = (token_form f.bytes (Number (pos (number_worth f.bytes))) f.number.token).some in
    omega (arith, ap length f.whole, length-append f.bytes f.rest)
