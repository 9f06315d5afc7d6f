-- Parts that are put together are parts.
use Rattle.std.proofs.Common.{◌≡◌, ℕ, Bool, true, false, List, [], ◌∷◌, ◌++◌, Some, None, inl, inr, refl, sym, ◌∙◌, subst}
use Rattle.std.proofs.lemmas.Bool.{false≢true, or_left, eq-eqb}
use Rattle.std.specs.Prelude.{IsTrue}
use Rattle.hll_lexer.specs.declared.token.Mark.{Mark}
use Rattle.hll_lexer.specs.declared.token.Mark.TheVariants as mark
use Rattle.hll_lexer.specs.declared.token.Reserved.{Reserved}
use Rattle.hll_lexer.specs.declared.token.Token.{Token}
use Rattle.hll_lexer.specs.declared.token.TokenKind.{TokenKind}
use Rattle.hll_lexer.specs.declared.token.TokenKind.TheVariants as kind
use Rattle.hll_tree.specs.Spells.{Scope, One, Then, Made, Either, Perhaps, Many, Marked, Worded, Behind, Before, Listed, Opening, Enclosed, Items}
use Rattle.hll_grammar.specs.Lookahead.{Kinds, holds, with, nothing, marks_of, words_of, list_goes_on, mark_number, word_number}
use Rattle.hll_grammar.specs.Reading.{Form}
use Rattle.hll_grammar.proofs.Sets.{Apart, Covers, Follows, covers_left, covers_right, covers_same, apart_nothing, follows_end, ends_with}
use Rattle.hll_grammar.proofs.Parts.{IsWithin, IsWider, IsRoomy, Part}
use Rattle.hll_grammar.proofs.Lawful.{resized_lawful, one_lawful, then_lawful, made_lawful, either_lawful, perhaps_lawful, many_lawful}

-- the sets may grow
pub resized : {A : Type 0} {P : Form A} {k l g h : Kinds} {e : Bool} → Covers l k → Covers h g → Part P k e g → Part P l e h
resized c d p = record { lawful = λ s laws. resized_lawful c d (p.lawful s laws); wider = p.wider; some = p.some }

-- one token: its kinds, that it has one value, that it has it in a wider scope too, and some such token
pub one_part : {A : Type 0} (R : Scope → Token → A → Type 0) {begins : Kinds} →
    ((s : Scope) (t : Token) (x : A) → R s t x → holds begins t.kind ≡ true) →
    ((s : Scope) (t : Token) (x y : A) → R s t x → R s t y → x ≡ y) →
    ((s s' : Scope) → IsWider s s' → (t : Token) (x : A) → R s t x → R s' t x) →
    ((s : Scope) → IsRoomy s → (t : Token) × (x : A) × R s t x) → Part (λ s. One (R s)) begins false nothing
one_part R of_kind single wider some = record {
  lawful = λ s laws. one_lawful (of_kind s) (single s);
  wider = λ s s' w ts x is. (is.0, is.1, wider s s' w is.0 x is.2);
  some = λ s roomy. let one = some s roomy in (one.0 ∷ [], one.1, (one.0, refl, one.2));
}

module _ {A B : Type 0} {P : Form A} {Q : Form B} {k l g h w : Kinds} where
  pub then_part : {f : Bool} → Part P k false g → Part Q l f h → Follows g l f h w → Part (λ s. Then (P s) (Q s)) k false w
  then_part p q follows = record {
    lawful = λ s laws. then_lawful (p.lawful s laws) (q.lawful s laws) follows (covers_same k) (λ e. absurd (false≢true e));
    wider = λ s s' w ts x is. (is.0, is.1, is.2, p.wider s s' w is.0 x.0 is.3, q.wider s s' w is.1 x.1 is.4);
    some = λ s roomy. let a = p.some s roomy in let b = q.some s roomy in (a.0 ++ b.0, (a.1, b.1), (a.0, b.0, refl, a.2, b.2));
  }

  -- where the first may be empty
  pub open_then_part : Part P k true g → Part Q l false h → Follows g l false h w → Part (λ s. Then (P s) (Q s)) (with k l) false w
  open_then_part p q follows = record {
    lawful = λ s laws. then_lawful (p.lawful s laws) (q.lawful s laws) follows (covers_left k l) (λ e. covers_right k l);
    wider = λ s s' w ts x is. (is.0, is.1, is.2, p.wider s s' w is.0 x.0 is.3, q.wider s s' w is.1 x.1 is.4);
    some = λ s roomy. let a = p.some s roomy in let b = q.some s roomy in (a.0 ++ b.0, (a.1, b.1), (a.0, b.0, refl, a.2, b.2));
  }

pub made_part : {A B : Type 0} {P : Form A} {k g : Kinds} {e : Bool} (f : A → B) → Part P k e g → Part (λ s. Made f (P s)) k e g
made_part f p = record {
  lawful = λ s laws. made_lawful f (p.lawful s laws);
  wider = λ s s' w ts y is. (is.0, p.wider s s' w ts is.0 is.1, is.2);
  some = λ s roomy. let a = p.some s roomy in (a.0, f a.1, (a.1, a.2, refl));
}

module _ {A B : Type 0} {P : Form A} {Q : Form B} {k l g h w : Kinds} {f : Bool} (p : Part P k false g) (q : Part Q l f h) (follows : Follows g l f h w) where
  pub behind_part : Part (λ s. Behind (P s) (Q s)) k false w
  behind_part = made_part (λ x. x.1) (then_part p q follows)

  pub before_part : Part (λ s. Before (P s) (Q s)) k false w
  before_part = made_part (λ x. x.0) (then_part p q follows)

module _ {A : Type 0} {P Q : Form A} {k l g h : Kinds} where
  pub either_part : Part P k false g → Part Q l false h → Apart k l → Part (λ s. Either (P s) (Q s)) (with k l) false (with g h)
  either_part p q apart = record {
    lawful = λ s laws. either_lawful (p.lawful s laws) (q.lawful s laws) apart;
    wider = wider;
    some = λ s roomy. let a = p.some s roomy in (a.0, a.1, inl a.2);
  }
    where
      wider : (s s' : Scope) → IsWider s s' → IsWithin (Either (P s) (Q s)) (Either (P s') (Q s'))
      wider s s' w ts x (inl is) = inl (p.wider s s' w ts x is)
      wider s s' w ts x (inr is) = inr (q.wider s s' w ts x is)

module _ {A : Type 0} {P : Form A} {k g : Kinds} (p : Part P k false g) where
  pub perhaps_part : Part (λ s. Perhaps (P s)) k true (with k g)
  perhaps_part = record {
    lawful = λ s laws. perhaps_lawful (p.lawful s laws);
    wider = wider;
    some = λ s roomy. ([], None, refl);
  }
    where
      wider : (s s' : Scope) → IsWider s s' → IsWithin (Perhaps (P s)) (Perhaps (P s'))
      wider s s' w ts None is = is
      wider s s' w ts (Some x) is = p.wider s s' w ts x is

  pub many_wider : (s s' : Scope) → IsWider s s' → (xs : List A) (ts : List Token) → Many (P s) ts xs → Many (P s') ts xs
  many_wider s s' w [] ts is = is
  many_wider s s' w (x ∷ xs) ts is = (is.0, is.1, is.2, p.wider s s' w is.0 x is.3, many_wider s s' w xs is.1 is.4)

  pub many_part : Apart g k → Part (λ s. Many (P s)) k true (with k g)
  many_part apart = record {
    lawful = λ s laws. many_lawful (p.lawful s laws) apart;
    wider = λ s s' w ts xs. many_wider s s' w xs ts;
    some = λ s roomy. ([], [], refl);
  }

-- ---- marks and words

-- a token of a kind at a place
abbrev pub token_at : ℕ → TokenKind → Token
token_at at c = record { kind = c; from = at; to = at }

pub holds_mark : (m : Mark) → holds (marks_of (m ∷ [])) (kind.Mark m) ≡ true
holds_mark m = or_left _ _ (eq-eqb (mark_number m) (mark_number m) refl)

pub holds_word : (w : Reserved) → holds (words_of (w ∷ [])) (kind.Reserved w) ≡ true
holds_word w = or_left _ _ (eq-eqb (word_number w) (word_number w) refl)

pub marked_part : (m : Mark) → Part (λ s. Marked m) (marks_of (m ∷ [])) false nothing
marked_part m = one_part (λ s t x. (t.kind ≡ kind.Mark m) × (x ≡ t))
    (λ s t x is. subst (λ c. holds (marks_of (m ∷ [])) c ≡ true) (sym is.0) (holds_mark m))
    (λ s t x y is is'. is.1 ∙ sym is'.1)
    (λ s s' w t x is. is)
    (λ s roomy. let t = token_at 0 (kind.Mark m) in (t, t, (refl, refl)))

pub worded_part : (w : Reserved) → Part (λ s. Worded w) (words_of (w ∷ [])) false nothing
worded_part w = one_part (λ s t x. (t.kind ≡ kind.Reserved w) × (x ≡ t))
    (λ s t x is. subst (λ c. holds (words_of (w ∷ [])) c ≡ true) (sym is.0) (holds_word w))
    (λ s t x y is is'. is.1 ∙ sym is'.1)
    (λ s s' w t x is. is)
    (λ s roomy. let t = token_at 0 (kind.Reserved w) in (t, t, (refl, refl)))

pub opening_part : (m : Mark) → Part (λ s. Opening s m) (marks_of (m ∷ [])) false nothing
opening_part m = one_part (λ s t x. (t.kind ≡ kind.Mark m) × IsTrue (s.may_open t) × (x ≡ t))
    (λ s t x is. subst (λ c. holds (marks_of (m ∷ [])) c ≡ true) (sym is.0) (holds_mark m))
    (λ s t x y is is'. is.2 ∙ sym is'.2)
    (λ s s' w t x is. (is.0, w.may_open t is.1, is.2))
    (λ s roomy. let t = token_at roomy.place (kind.Mark m) in (t, t, (refl, roomy.may_open t refl, refl)))

-- ---- lists, and what stands between marks

module _ {A : Type 0} {P : Form A} {k g : Kinds} (p : Part P k false g) where
  pub listed_part : Apart g (marks_of (mark.Comma ∷ [])) → Part (λ s. Listed (P s)) k false (list_goes_on g)
  listed_part apart = made_part (λ x. x.0 ∷ x.1) (then_part p more (record {
    apart = apart;
    last = covers_same (list_goes_on g);
    past = λ e. covers_right (marks_of (mark.Comma ∷ [])) g;
  }))
    where
      more : Part (λ s. Many (Behind (Marked mark.Comma) (P s))) (marks_of (mark.Comma ∷ [])) true (list_goes_on g)
      more = many_part (behind_part (marked_part mark.Comma) p (follows_end k false g)) apart

  pub enclosed_part : (m n : Mark) → Apart g (marks_of (n ∷ [])) → Part (λ s. Enclosed s m n (P s)) (marks_of (m ∷ [])) false nothing
  enclosed_part m n apart = behind_part (opening_part m) (before_part p (marked_part n) (ends_with nothing apart)) (follows_end k false nothing)

  pub items_part : Apart g (marks_of (mark.Semicolon ∷ [])) → Part (λ s. Items (P s)) k true (with k nothing)
  items_part apart = many_part (before_part p (marked_part mark.Semicolon) (ends_with nothing apart)) (apart_nothing k)
