-- From the clauses of the readers to what they read, and back.
use Rattle.std.proofs.Common.{◌≡◌, ℕ, List, [], ◌∷◌, ◌++◌, Result, Ok, Err, refl, sym, ◌∙◌, ap, subst}
use Rattle.std.specs.Result.{IsErrAnd, IfOk, IsOkUnless}
use Rattle.std.proofs.lemmas.Result.{err_from_is_err_and}
use Rattle.hll_lexer.specs.declared.token.Token.{Token}
use Rattle.hll_grammar.specs.Lookahead.{Kinds}
use Rattle.hll_grammar.specs.Reading.{Form, IsRead, Fails, Reads}
use Rattle.hll_grammar.specs.declared.fault.SyntaxFault.{SyntaxFault}
use Rattle.hll_grammar.specs.declared.fault.SyntaxFault.TheVariants.{Memory}

module _ {A : Type 0} {P : Form A} {goes_on : Kinds} {text text' : List ℕ} {room : ℕ} {old : List Token} where
  -- what was read or refused in a text that is the same
  pub got : {new : List Token} {x : A} → text' ≡ text → IsRead P goes_on text' room old new x → IsRead P goes_on text room old new x
  got {new} {x} e h = subst (λ (t : List ℕ). IsRead P goes_on t room old new x) e h

  pub lost : {fault : SyntaxFault} → text' ≡ text → Fails P goes_on text' room old fault → Fails P goes_on text room old fault
  lost {fault} e h = subst (λ (t : List ℕ). Fails P goes_on t room old fault) e h

-- a refusal for want of memory says nothing
pub no_memory : {A : Type 0} {P : Form A} {goes_on : Kinds} {text : List ℕ} {room : ℕ} {old : List Token} {fault : SyntaxFault} → fault ≡ Memory → Fails P goes_on text room old fault
no_memory {P = P} {goes_on = goes_on} {text = text} {room = room} {old = old} {fault = fault} e =
    subst (λ (f : SyntaxFault). Fails P goes_on text room old f) (sym e) (record { because = tt })

-- a refusal that is handed on
pub exit : {A : Type 0} (P : Form A) (goes_on : Kinds) (text : List ℕ) (room : ℕ) (old new : List Token) (fault : SyntaxFault) (result : Result A SyntaxFault) →
    IsErrAnd result (λ x. x ≡ fault) → Fails P goes_on text room old fault → Reads P goes_on text room old new result
exit {A = A} P goes_on text room old new fault result e f =
    let p : (x : SyntaxFault) × (result ≡ Err x) × (x ≡ fault) = err_from_is_err_and result e in
    subst (λ (r : Result A SyntaxFault). Reads P goes_on text room old new r) (sym (p.1 ∙ ap Err p.2)) f

-- the answer of another reader, handed on as it is
pub passed : {A : Type 0} (P Q : Form A) (goes_p goes_q : Kinds) (text : List ℕ) (room : ℕ) (old new : List Token) (result : Result A SyntaxFault) → Reads Q goes_q text room old new result →
    ((x : A) → IsRead Q goes_q text room old new x → IsRead P goes_p text room old new x) →
    ((fault : SyntaxFault) → Fails Q goes_q text room old fault → Fails P goes_p text room old fault) → Reads P goes_p text room old new result
passed P Q goes_p goes_q text room old new (Ok x) h ok err = ok x h
passed P Q goes_p goes_q text room old new (Err fault) h ok err = err fault h

-- what is made where there is memory for it
pub made_answer : {A : Type 0} (P : Form A) (goes_on : Kinds) (text : List ℕ) (room : ℕ) (old new : List Token) (x : A) (result : Result A SyntaxFault) →
    IfOk result (λ y. y ≡ x) → IsOkUnless result Memory → IsRead P goes_on text room old new x → Reads P goes_on text room old new result
made_answer P goes_on text room old new x (Ok y) is memory r = subst (λ z. IsRead P goes_on text room old new z) (sym is) r
made_answer P goes_on text room old new x (Err fault) is memory r = no_memory memory
