-- Bytes that are laid out so that their tokens spell something, wherever in a text they stand, and how such bytes are put together.
use Rattle.std.proofs.Common.{◌≡◌, ℕ, ◌+◌, Bool, true, false, List, [], ◌∷◌, ◌++◌, length, Option, Some, None, inl, inr, refl, sym, ap, subst, ◌∙◌, append_assoc, length-append}
use Rattle.hll_lexer.specs.Pieces.{Stops, is_blank}
use Rattle.hll_lexer.specs.Tokens.{Piece, text_of, AllStand, tokens_of}
use Rattle.hll_lexer.specs.declared.token.Token.{Token}
use Rattle.hll_lexer.proofs.SplitLemmas.{text_of-append, AllStand-append, tokens_of-append}
use Rattle.hll_lexer.proofs.SeamLemmas.{blank_stands}
use Rattle.hll_tree.specs.Printing.{Text}
use Rattle.hll_tree.specs.Spells.{Spelling, Then, Made, Either, Perhaps, Many, Behind, Before}

-- what is spelled in a text
abbrev pub InText : Type 0 → Type 1
InText A = Text → Spelling A

-- these bytes, between a front and a rest, are pieces whose tokens spell a value
pub record Reads {A : Type 0} (P : InText A) (R : A → Type 0) (front bytes rest : Text) : Type 0 where
  pub pieces : List Piece
  pub whole : bytes ≡ text_of pieces
  pub stand : AllStand pieces rest
  pub value : A
  pub spelled : P (front ++ (bytes ++ rest)) (tokens_of (length front) pieces) value
  pub right : R value

-- these bytes are so wherever they stand before a byte that can't go on with them
abbrev pub Laid : {A : Type 0} → (ℕ → Bool) → Text → InText A → (A → Type 0) → Type 0
Laid p bytes P R = (front rest : Text) → Stops p rest → Reads P R front bytes rest

-- no byte goes on
abbrev pub never : ℕ → Bool
never b = false

pub never_stops : (rest : Text) → Stops never rest
never_stops [] = tt
never_stops (b ∷ bs) = refl

-- any value will do
abbrev pub Any : {A : Type 0} → A → Type 0
Any x = Unit {0}

-- ---- one thing behind another

reads_then : {A B : Type 0} {P : InText A} {Q : InText B} {R : A → Type 0} {S : B → Type 0} (front t u rest : Text) → Reads P R front t (u ++ rest) → Reads Q S (front ++ t) u rest →
    Reads (λ w. Then (P w) (Q w)) (λ x. R x.0 × S x.1) front (t ++ u) rest
reads_then {P = P} {Q = Q} front t u rest a b =
    let first : front ++ (t ++ (u ++ rest)) ≡ front ++ (t ++ u ++ rest) = ap (λ (s : Text). front ++ s) (sym (append_assoc t u rest)) in
    let second : front ++ t ++ (u ++ rest) ≡ front ++ (t ++ u ++ rest) = append_assoc front t (u ++ rest) ∙ first in
    let place : length front + length (text_of a.pieces) ≡ length (front ++ t) = ap (λ (s : Text). length front + length s) (sym a.whole) ∙ sym (length-append front t) in
    record {
      pieces = a.pieces ++ b.pieces;
      whole = ap (λ (s : Text). s ++ u) a.whole ∙ ap (λ (s : Text). text_of a.pieces ++ s) b.whole ∙ sym (text_of-append a.pieces b.pieces);
      stand = AllStand-append a.pieces b.pieces rest (subst (λ (s : Text). AllStand a.pieces (s ++ rest)) b.whole a.stand) b.stand;
      value = (a.value, b.value);
      spelled = (
        tokens_of (length front) a.pieces,
        tokens_of (length (front ++ t)) b.pieces,
        tokens_of-append (length front) a.pieces b.pieces ∙ ap (λ (n : ℕ). tokens_of (length front) a.pieces ++ tokens_of n b.pieces) place,
        subst (λ (w : Text). P w (tokens_of (length front) a.pieces) a.value) first a.spelled,
        subst (λ (w : Text). Q w (tokens_of (length (front ++ t)) b.pieces) b.value) second b.spelled,
      );
      right = (a.right, b.right);
    }

pub laid_then : {A B : Type 0} {P : InText A} {Q : InText B} {R : A → Type 0} {S : B → Type 0} (p q : ℕ → Bool) (t u : Text) → Laid p t P R → Laid q u Q S →
    ((rest : Text) → Stops q rest → Stops p (u ++ rest)) → Laid q (t ++ u) (λ w. Then (P w) (Q w)) (λ x. R x.0 × S x.1)
laid_then p q t u a b follow = λ front rest h. reads_then front t u rest (a front (u ++ rest) (follow rest h)) (b (front ++ t) rest h)

pub laid_made : {A B : Type 0} {P : InText A} {R : A → Type 0} {S : B → Type 0} (p : ℕ → Bool) (t : Text) (f : A → B) → ((x : A) → R x → S (f x)) → Laid p t P R →
    Laid p t (λ w. Made f (P w)) S
laid_made p t f so a = λ front rest h.
    let r = a front rest h in
    record { pieces = r.pieces; whole = r.whole; stand = r.stand; value = f r.value; spelled = (r.value, r.spelled, refl); right = so r.value r.right }

pub laid_behind : {A B : Type 0} {P : InText A} {Q : InText B} {R : A → Type 0} {S : B → Type 0} (p q : ℕ → Bool) (t u : Text) → Laid p t P R → Laid q u Q S →
    ((rest : Text) → Stops q rest → Stops p (u ++ rest)) → Laid q (t ++ u) (λ w. Behind (P w) (Q w)) S
laid_behind p q t u a b follow = laid_made q (t ++ u) (λ x. x.1) (λ x r. r.1) (laid_then p q t u a b follow)

pub laid_before : {A B : Type 0} {P : InText A} {Q : InText B} {R : A → Type 0} {S : B → Type 0} (p q : ℕ → Bool) (t u : Text) → Laid p t P R → Laid q u Q S →
    ((rest : Text) → Stops q rest → Stops p (u ++ rest)) → Laid q (t ++ u) (λ w. Before (P w) (Q w)) R
laid_before p q t u a b follow = laid_made q (t ++ u) (λ x. x.0) (λ x r. r.0) (laid_then p q t u a b follow)

-- ---- one of two things, and things that are known better

pub laid_weaker : {A : Type 0} {P Q : InText A} {R S : A → Type 0} (p : ℕ → Bool) (t : Text) → ((w : Text) (ts : List Token) (x : A) → P w ts x → Q w ts x) → ((x : A) → R x → S x) →
    Laid p t P R → Laid p t Q S
laid_weaker p t looser so a = λ front rest h.
    let r = a front rest h in
    record { pieces = r.pieces; whole = r.whole; stand = r.stand; value = r.value; spelled = looser _ _ _ r.spelled; right = so r.value r.right }

pub laid_left : {A : Type 0} {P Q : InText A} {R : A → Type 0} (p : ℕ → Bool) (t : Text) → Laid p t P R → Laid p t (λ w. Either (P w) (Q w)) R
laid_left p t a = laid_weaker p t (λ w ts x is. inl is) (λ x r. r) a

pub laid_right : {A : Type 0} {P Q : InText A} {R : A → Type 0} (p : ℕ → Bool) (t : Text) → Laid p t Q R → Laid p t (λ w. Either (P w) (Q w)) R
laid_right p t a = laid_weaker p t (λ w ts x is. inr is) (λ x r. r) a

-- fewer bytes may follow
pub laid_narrower : {A : Type 0} {P : InText A} {R : A → Type 0} (p q : ℕ → Bool) (t : Text) → ((rest : Text) → Stops q rest → Stops p rest) → Laid p t P R → Laid q t P R
laid_narrower p q t narrow a = λ front rest h. a front rest (narrow rest h)

-- the same bytes
pub laid_as : {A : Type 0} {P : InText A} {R : A → Type 0} (p : ℕ → Bool) (t u : Text) → t ≡ u → Laid p t P R → Laid p u P R
laid_as {P = P} {R = R} p t u same a = subst (λ (s : Text). Laid p s P R) same a

-- ---- nothing, or something

pub laid_none : {A : Type 0} {P : InText A} {R : Option A → Type 0} → R None → Laid never [] (λ w. Perhaps (P w)) R
laid_none so = λ front rest h. record { pieces = []; whole = refl; stand = tt; value = None; spelled = refl; right = so }

pub laid_some : {A : Type 0} {P : InText A} {R : A → Type 0} {S : Option A → Type 0} (p : ℕ → Bool) (t : Text) → ((x : A) → R x → S (Some x)) → Laid p t P R → Laid p t (λ w. Perhaps (P w)) S
laid_some p t so a = λ front rest h.
    let r = a front rest h in
    record { pieces = r.pieces; whole = r.whole; stand = r.stand; value = Some r.value; spelled = r.spelled; right = so r.value r.right }

-- ---- many things

pub laid_nil : {A : Type 0} {P : InText A} {R : List A → Type 0} (p : ℕ → Bool) → R [] → Laid p [] (λ w. Many (P w)) R
laid_nil p so = λ front rest h. record { pieces = []; whole = refl; stand = tt; value = []; spelled = refl; right = so }

pub laid_cons : {A : Type 0} {P : InText A} {R : A → Type 0} {S T : List A → Type 0} (p q : ℕ → Bool) (t u : Text) → ((x : A) (xs : List A) → R x → S xs → T (x ∷ xs)) →
    Laid p t P R → Laid q u (λ w. Many (P w)) S → ((rest : Text) → Stops q rest → Stops p (u ++ rest)) → Laid q (t ++ u) (λ w. Many (P w)) T
laid_cons p q t u so a b follow = λ front rest h.
    let r = laid_then p q t u a b follow front rest h in
    record { pieces = r.pieces; whole = r.whole; stand = r.stand; value = r.value.0 ∷ r.value.1; spelled = r.spelled; right = so r.value.0 r.value.1 r.right.0 r.right.1 }

-- ---- blanks

reads_blank : {A : Type 0} {P : InText A} {R : A → Type 0} (b : ℕ) (front t rest : Text) → is_blank b ≡ true → Reads P R (front ++ b ∷ []) t rest → Reads P R front (b ∷ t) rest
reads_blank {P = P} b front t rest blank r =
    let at : length (front ++ b ∷ []) ≡ length front + 1 = length-append front (b ∷ []) in
    record {
      pieces = record { bytes = b ∷ []; kind = None } ∷ r.pieces;
      whole = ap (λ (s : Text). b ∷ s) r.whole;
      stand = (blank_stands b (text_of r.pieces ++ rest) blank, r.stand);
      value = r.value;
      spelled = subst (λ (w : Text). P w (tokens_of (length front + 1) r.pieces) r.value) (append_assoc front (b ∷ []) (t ++ rest))
          (subst (λ (n : ℕ). P (front ++ b ∷ [] ++ (t ++ rest)) (tokens_of n r.pieces) r.value) at r.spelled);
      right = r.right;
    }

-- a blank before
pub laid_blank : {A : Type 0} {P : InText A} {R : A → Type 0} (p : ℕ → Bool) (b : ℕ) (t : Text) → is_blank b ≡ true → Laid p t P R → Laid p (b ∷ t) P R
laid_blank p b t blank a = λ front rest h. reads_blank b front t rest blank (a (front ++ b ∷ []) rest h)
