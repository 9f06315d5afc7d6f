-- What a `?` hands on, what is handed on as it is, and forms that spell the same.
use Rattle.std.proofs.Common.{◌≡◌, ℕ, List, [], ◌∷◌, Option, Some, None, Result, Ok, Err, refl, sym, ◌∙◌, ap, subst}
use Rattle.std.specs.Result.{IsErrAnd}
use Rattle.std.proofs.lemmas.Result.{err_from_is_err_and}
use Rattle.hll_lexer.specs.declared.token.Token.{Token}
use Rattle.hll_tree.specs.Spells.{Scope, Then, Made, Behind}
use Rattle.hll_grammar.specs.Lookahead.{Kinds}
use Rattle.hll_grammar.specs.Reading.{Form, IsRead, Reads, Fails}
use Rattle.hll_grammar.specs.declared.fault.SyntaxFault.{SyntaxFault}
use Rattle.hll_grammar.proofs.Alive.{carry}
use Rattle.hll_grammar.proofs.Parts.{IsWithin}

-- a refusal that a `?` hands on is the whole's
pub exits : {A : Type 0} {P : Form A} {goes_on : Kinds} {text : List ℕ} {room : ℕ} {old : List Token} {fault : SyntaxFault} (new : List Token) (result : Result A SyntaxFault) →
    IsErrAnd result (λ e. e ≡ fault) → Fails P goes_on text room old fault → Reads P goes_on text room old new result
exits {P = P} {goes_on} {text} {room} {old} {fault} new result h f =
    let e = err_from_is_err_and result h in
    subst (λ r. Reads P goes_on text room old new r) (sym (e.1 ∙ ap (λ x. Err x) e.2)) f

-- what a clause says over a text that has stayed
pub same_text : {A : Type 0} (P : Form A) (goes_on : Kinds) {text text' : List ℕ} (room : ℕ) (old new : List Token) (result : Result A SyntaxFault) →
    text' ≡ text → Reads P goes_on text' room old new result → Reads P goes_on text room old new result
same_text P goes_on room old new result e h = subst (λ t. Reads P goes_on t room old new result) e h

-- a whole that is read and refused as a part of it is answers as the part does
pub answers : {A : Type 0} (P : Form A) (g : Kinds) (Q : Form A) (h : Kinds) (text : List ℕ) (room : ℕ) (mid old new : List Token) (result : Result A SyntaxFault) →
    ((x : A) → IsRead P g text room mid new x → IsRead Q h text room old new x) →
    ((fault : SyntaxFault) → Fails P g text room mid fault → Fails Q h text room old fault) →
    Reads P g text room mid new result → Reads Q h text room old new result
answers P g Q h text room mid old new (Ok x) read fails r = read x r
answers P g Q h text room mid old new (Err fault) read fails r = fails fault r

-- forms that spell the same
pub record IsAlike {A : Type 0} (P Q : Form A) : Type 1 where
  pub there : (s : Scope) → IsWithin (P s) (Q s)
  pub back : (s : Scope) → IsWithin (Q s) (P s)

module _ {A : Type 0} {P Q : Form A} (alike : IsAlike P Q) {goes_on : Kinds} {text : List ℕ} {room : ℕ} {old : List Token} where
  pub read_alike : {new : List Token} {x : A} → IsRead P goes_on text room old new x → IsRead Q goes_on text room old new x
  read_alike {x = x} r = record {
    front = r.front;
    parts = r.parts;
    spelled = alike.there _ r.front x r.spelled;
    only = λ room' whole us vs y e same ends is. r.only room' whole us vs y e same ends (alike.back _ us y is);
  }

  pub fails_alike : {fault : SyntaxFault} → Fails P goes_on text room old fault → Fails Q goes_on text room old fault
  fails_alike {fault} f = carry (record {
    before = [];
    parts = refl;
    alive = λ limit front free h. (h.0, h.1, h.2, alike.there _ _ h.2 h.3);
    dead = λ limit front rest parts dead room' whole us vs y e same ends is. dead room' whole us vs y e same ends (alike.back _ us y is);
  }) fault f

-- a value that is made behind another part may be made of both
pub made_behind : {A B C D : Type 0} (f : A × C → D) (h : B → C) (P : Form A) (Q : Form B) →
    IsAlike (λ s. Made f (Then (P s) (Made h (Q s)))) (λ s. Made (λ x. f (x.0, h x.1)) (Then (P s) (Q s)))
made_behind f h P Q = record {
  there = λ s ts y is.
      ((is.0.0, is.1.4.0), (is.1.0, is.1.1, is.1.2, is.1.3, is.1.4.1), is.2 ∙ ap (λ z. f (is.0.0, z)) is.1.4.2);
  back = λ s ts y is.
      ((is.0.0, h is.0.1), (is.1.0, is.1.1, is.1.2, is.1.3, (is.0.1, is.1.4, refl)), is.2);
}

-- a value that is made of what stands behind a part that leaves no trace
pub made_of_behind : {A B C : Type 0} (h : B → C) (P : Form A) (Q : Form B) →
    IsAlike (λ s. Made h (Behind (P s) (Q s))) (λ s. Behind (P s) (Made h (Q s)))
made_of_behind h P Q = record {
  there = λ s ts y is.
      ((is.1.0.0, y), (is.1.1.0, is.1.1.1, is.1.1.2, is.1.1.3, (is.1.0.1, is.1.1.4, is.2 ∙ ap h is.1.2)), refl);
  back = λ s ts y is.
      (is.1.4.0, ((is.0.0, is.1.4.0), (is.1.0, is.1.1, is.1.2, is.1.3, is.1.4.1), refl), is.2 ∙ is.1.4.2);
}
