-- What a token that was taken, or one that stays, says of the reading of a part of one token.
use Rattle.std.proofs.Common.{◌≡◌, ◌≤◌, ℕ, zero, suc, ℤ, Bool, true, false, List, [], ◌∷◌, ◌++◌, length, Option, Some, None, Result, Ok, Err, ◌⊎◌, inl, inr, refl, sym, ◌∙◌, ap, subst, arith}
use Rattle.std.proofs.lemmas.Bool.{false≢true, eq-eqb, eqb-true, or_cases}
use Rattle.std.specs.Prelude.{◌==◌, ◌||◌, ◌↔◌, IsTrue}
use Rattle.std.specs.Option.{ok_or}
use Rattle.std.specs.Result.{IfOk, IsOkUnless}
use Rattle.hll_lexer.specs.declared.token.Mark.{Mark}
use Rattle.hll_lexer.specs.declared.token.Mark.TheVariants as mark
use Rattle.hll_lexer.specs.declared.token.Reserved.{Reserved}
use Rattle.hll_lexer.specs.declared.token.Reserved.TheVariants as reserved
use Rattle.hll_lexer.specs.declared.token.Token.{Token}
use Rattle.hll_lexer.specs.declared.token.TokenKind.{TokenKind}
use Rattle.hll_lexer.specs.declared.token.TokenKind.TheVariants as kind
use Rattle.hll_tree.specs.declared.tree.Name.{Name}
use Rattle.hll_tree.specs.Prefixes.{begin_of}
use Rattle.hll_tree.specs.declared.tree.Form.TheVariants as form
use Rattle.hll_tree.specs.Spells.{IsNumber, IsTruth, IsTruthWord, expression_at, Scope, One, Marked, Worded, Opening, IsIf, IsName, IsBoundName, name_at, scope}
use Rattle.hll_grammar.specs.Lookahead.{Kinds, holds, nothing, a_name, a_number, words_of, marks_of, mark_number, word_number}
use Rattle.hll_grammar.specs.Reading.{Form, Stops, IsRead, Fails, Reads, within}
use Rattle.hll_grammar.specs.Unread.{Unread, AreWithin, Takes, Opens, starts, next_kind}
use Rattle.hll_grammar.specs.declared.fault.SyntaxFault.{SyntaxFault}
use Rattle.hll_grammar.specs.declared.fault.SyntaxFault.TheVariants.{Unexpected, Deep, Memory}
use Rattle.hll_grammar.proofs.Answering.{no_memory}
use Rattle.hll_grammar.proofs.Numbers.{mark_by_number, word_by_number}
use Rattle.hll_grammar.proofs.Parts.{Part}
use Rattle.hll_grammar.proofs.Combined.{holds_mark, holds_word, marked_part, worded_part, opening_part}
use Rattle.hll_grammar.proofs.Fronts.{stops_both}
use Rattle.hll_grammar.proofs.Tokens.{name_part, bound_name_part, if_part, number_part, truth_part}
use Rattle.hll_grammar.proofs.Readings.{refused, fault_of, one_read, opening_read, if_read, bound_name_read, opening_too_deep, if_too_deep, bound_name_too_deep}

-- no token of the one kind stands next
pub not_next : (k : TokenKind) (kinds : Kinds) (ts : List Token) → ((c : TokenKind) → holds kinds c ≡ true → c ≡ k) →
    ((t : Token) (us : List Token) → ts ≡ t ∷ us → t.kind ≡ k → ⊥) → Stops kinds ts
not_next k kinds [] only isn't = tt
not_next k kinds (t ∷ ts) only isn't = elim (holds kinds t.kind) as (λ b. (holds kinds t.kind ≡ b) → b ≡ false) [
  | true ↦ λ e. absurd (isn't t ts refl (only t.kind e))
  | false ↦ λ e. refl
] refl

first_or_none : (b : Bool) → (b || false) ≡ true → b ≡ true
first_or_none true h = refl
first_or_none false h = h

only_mark : (m : Mark) (c : TokenKind) → holds (marks_of (m ∷ [])) c ≡ true → c ≡ kind.Mark m
only_mark m kind.Name h = absurd (false≢true h)
only_mark m (kind.Number n) h = absurd (false≢true h)
only_mark m (kind.Reserved w) h = absurd (false≢true h)
only_mark m (kind.Mark n) h = ap kind.Mark (sym (mark_by_number m n (eqb-true (mark_number m) (mark_number n) (first_or_none (mark_number m == mark_number n) h))))

only_word : (w : Reserved) (c : TokenKind) → holds (words_of (w ∷ [])) c ≡ true → c ≡ kind.Reserved w
only_word w kind.Name h = absurd (false≢true h)
only_word w (kind.Number n) h = absurd (false≢true h)
only_word w (kind.Mark m) h = absurd (false≢true h)
only_word w (kind.Reserved v) h = ap kind.Reserved (sym (word_by_number w v (eqb-true (word_number w) (word_number v) (first_or_none (word_number w == word_number v) h))))

only_name : (c : TokenKind) → holds a_name c ≡ true → c ≡ kind.Name
only_name kind.Name h = refl
only_name (kind.Number n) h = absurd (false≢true h)
only_name (kind.Reserved w) h = absurd (false≢true h)
only_name (kind.Mark m) h = absurd (false≢true h)

-- ---- one token

pub mark_stops : (m : Mark) (ts us : List Token) → Takes (kind.Mark m) ts us None → Stops (marks_of (m ∷ [])) ts
mark_stops m ts us h = not_next (kind.Mark m) (marks_of (m ∷ [])) ts (only_mark m) h.1

pub word_stops : (w : Reserved) (ts us : List Token) → Takes (kind.Reserved w) ts us None → Stops (words_of (w ∷ [])) ts
word_stops w ts us h = not_next (kind.Reserved w) (words_of (w ∷ [])) ts (only_word w) h.1

-- in which text a thing stands
within_text : (text : List ℕ) (room : ℕ) → (within text room).text ≡ text
unfolding scope
within_text text zero = refl
within_text text (suc room) = refl

-- a token that was taken is read
module _ {text : List ℕ} {room : ℕ} {old new : List Token} where
  pub mark_taken : (m : Mark) (t : Token) → Takes (kind.Mark m) old new (Some t) → IsRead (λ s. Marked m) nothing text room old new t
  mark_taken m t h = subst (λ (us : List Token). IsRead (λ s. Marked m) nothing text room us new t) (sym h.0)
      (one_read (λ s t x. (t.kind ≡ kind.Mark m) × (x ≡ t)) (marked_part m) text room t new t (h.1, refl))

  pub word_taken : (w : Reserved) (t : Token) → Takes (kind.Reserved w) old new (Some t) → IsRead (λ s. Worded w) nothing text room old new t
  word_taken w t h = subst (λ (us : List Token). IsRead (λ s. Worded w) nothing text room us new t) (sym h.0)
      (one_read (λ s t x. (t.kind ≡ kind.Reserved w) × (x ≡ t)) (worded_part w) text room t new t (h.1, refl))

  pub name_taken : (t : Token) → Takes kind.Name old new (Some t) → IsRead IsName nothing text room old new (name_at text t)
  name_taken t h = subst (λ (us : List Token). IsRead IsName nothing text room us new (name_at text t)) (sym h.0)
      (one_read (λ s t x. (t.kind ≡ kind.Name) × (x ≡ name_at s.text t)) name_part text room t new (name_at text t) (h.1, ap (λ (bytes : List ℕ). name_at bytes t) (sym (within_text text room))))

-- ---- answers

pub expected : (m : Mark) (text text' : List ℕ) (room : ℕ) (old new : List Token) (taken : Option Token) (fault : SyntaxFault) (result : Result Token SyntaxFault) →
    Takes (kind.Mark m) old new taken → text' ≡ text → fault ≡ Unexpected (begin_of text' new) → result ≡ ok_or taken fault →
    Reads (λ s. Marked m) nothing text room old new result
expected m text text' room old new (Some t) fault result h same is e =
    subst (λ (r : Result Token SyntaxFault). Reads (λ s. Marked m) nothing text room old new r) (sym e) (mark_taken m t h)
expected m text text' room old new None fault result h same is e =
    let place : fault ≡ Unexpected (begin_of text old) = cc h.0 in
    subst (λ (r : Result Token SyntaxFault). Reads (λ s. Marked m) nothing text room old new r) (sym e)
    (fault_of (λ s. Marked m) nothing text room old new fault
    (subst (λ (f : SyntaxFault). Fails (λ s. Marked m) nothing text room old f) (sym place) (refused (marked_part m) text room old (mark_stops m old new h))))

pub expected_word : (w : Reserved) (text text' : List ℕ) (room : ℕ) (old new : List Token) (taken : Option Token) (fault : SyntaxFault) (result : Result Token SyntaxFault) →
    Takes (kind.Reserved w) old new taken → text' ≡ text → fault ≡ Unexpected (begin_of text' new) → result ≡ ok_or taken fault →
    Reads (λ s. Worded w) nothing text room old new result
expected_word w text text' room old new (Some t) fault result h same is e =
    subst (λ (r : Result Token SyntaxFault). Reads (λ s. Worded w) nothing text room old new r) (sym e) (word_taken w t h)
expected_word w text text' room old new None fault result h same is e =
    let place : fault ≡ Unexpected (begin_of text old) = cc h.0 in
    subst (λ (r : Result Token SyntaxFault). Reads (λ s. Worded w) nothing text room old new r) (sym e)
    (fault_of (λ s. Worded w) nothing text room old new fault
    (subst (λ (f : SyntaxFault). Fails (λ s. Worded w) nothing text room old f) (sym place) (refused (worded_part w) text room old (word_stops w old new h))))

some_injective : (c d : TokenKind) → Some c ≡ Some d → c ≡ d
some_injective c d e = cc

-- a test of what stands next
seen : (k : TokenKind) (kinds : Kinds) → ((c : TokenKind) → holds kinds c ≡ true → c ≡ k) → holds kinds k ≡ true →
    (ts : List Token) (b : Bool) → (IsTrue b ↔ (next_kind ts ≡ Some k)) → b ≡ starts kinds ts
seen k kinds only is [] true h = cc (h.0 refl)
seen k kinds only is [] false h = refl
seen k kinds only is (t ∷ ts) true h = sym (subst (λ (c : TokenKind). holds kinds c ≡ true) (sym (some_injective t.kind k (h.0 refl))) is)
seen k kinds only is (t ∷ ts) false h = sym (not_next k kinds (t ∷ ts) only (λ u us e of_kind. false≢true (h.1 (ap Some (cc (e, of_kind))))))

pub mark_seen : (m : Mark) (ts : List Token) (b : Bool) → (IsTrue b ↔ (next_kind ts ≡ Some (kind.Mark m))) → b ≡ starts (marks_of (m ∷ [])) ts
mark_seen m = seen (kind.Mark m) (marks_of (m ∷ [])) (only_mark m) (holds_mark m)

pub word_seen : (w : Reserved) (ts : List Token) (b : Bool) → (IsTrue b ↔ (next_kind ts ≡ Some (kind.Reserved w))) → b ≡ starts (words_of (w ∷ [])) ts
word_seen w = seen (kind.Reserved w) (words_of (w ∷ [])) (only_word w) (holds_word w)

pub name_seen : (ts : List Token) (b : Bool) → (IsTrue b ↔ (next_kind ts ≡ Some kind.Name)) → b ≡ starts a_name ts
name_seen = seen kind.Name a_name only_name refl

-- a token that may open a level
record Opener {A : Type 0} (P : Form A) (k : TokenKind) (value : List ℕ → Token → A) (kinds : Kinds) : Type 1 where
  pub part : Part P kinds false nothing
  pub only : (c : TokenKind) → holds kinds c ≡ true → c ≡ k
  pub read : (text : List ℕ) (room : ℕ) (t : Token) (rest : List Token) → 1 ≤ room → t.kind ≡ k → IsRead P nothing text room (t ∷ rest) rest (value text t)
  pub too_deep : (text : List ℕ) (t : Token) (rest : List Token) → t.kind ≡ k → Fails P nothing text 0 (t ∷ rest) (Deep t.from)

module _ {A : Type 0} {P : Form A} {k : TokenKind} {value : List ℕ → Token → A} {kinds : Kinds} (o : Opener P k value kinds) where
  opened : (room : ℕ) (old : Unread) (new : List Token) (t : Token) → Opens k room old new (Ok t) → IsRead P nothing old.text room old.rest new (value old.text t)
  opened room old new t h = subst (λ (us : List Token). IsRead P nothing old.text room us new (value old.text t)) (sym h.0) (o.read old.text room t new h.2 h.1)

  not_opened : (room : ℕ) (old : Unread) (new : List Token) (fault : SyntaxFault) → Opens k room old new (Err fault) → Fails P nothing old.text room old.rest fault
  not_opened room old new fault (inl h) =
      subst (λ (f : SyntaxFault). Fails P nothing old.text room old.rest f) (sym h.0) (refused o.part old.text room old.rest (not_next k kinds old.rest o.only h.1))
  not_opened room old new fault (inr h) =
      subst (λ (f : SyntaxFault). Fails P nothing old.text room old.rest f) (sym h.4)
      (subst (λ (n : ℕ). Fails P nothing old.text n old.rest (Deep h.0.from)) (sym h.3)
      (subst (λ (us : List Token). Fails P nothing old.text 0 us (Deep h.0.from)) (sym h.1) (o.too_deep old.text h.0 new h.2)))

mark_opener : (m : Mark) → Opener (λ s. Opening s m) (kind.Mark m) (λ text t. t) (marks_of (m ∷ []))
mark_opener m = record { part = opening_part m; only = only_mark m; read = opening_read m; too_deep = opening_too_deep m }

if_opener : Opener IsIf (kind.Reserved reserved.If) (λ text t. t) (words_of (reserved.If ∷ []))
if_opener = record { part = if_part; only = only_word reserved.If; read = if_read; too_deep = if_too_deep }

name_opener : Opener IsBoundName kind.Name name_at a_name
name_opener = record { part = bound_name_part; only = only_name; read = bound_name_read; too_deep = bound_name_too_deep }

pub opening_answer : (m : Mark) (room : ℕ) (old : Unread) (new : List Token) (result : Result Token SyntaxFault) → Opens (kind.Mark m) room old new result →
    Reads (λ s. Opening s m) nothing old.text room old.rest new result
opening_answer m room old new (Ok t) h = opened (mark_opener m) room old new t h
opening_answer m room old new (Err fault) h = fault_of (λ s. Opening s m) nothing old.text room old.rest new fault (not_opened (mark_opener m) room old new fault h)

pub if_answer : (room : ℕ) (old : Unread) (new : List Token) (result : Result Token SyntaxFault) → Opens (kind.Reserved reserved.If) room old new result →
    Reads IsIf nothing old.text room old.rest new result
if_answer room old new (Ok t) h = opened if_opener room old new t h
if_answer room old new (Err fault) h = fault_of IsIf nothing old.text room old.rest new fault (not_opened if_opener room old new fault h)

pub bound_name_opened : (room : ℕ) (old : Unread) (new : List Token) (t : Token) → Opens kind.Name room old new (Ok t) →
    IsRead IsBoundName nothing old.text room old.rest new (name_at old.text t)
bound_name_opened room old new t h = opened name_opener room old new t h

pub bound_name_refused : (room : ℕ) (old : Unread) (new : List Token) (fault : SyntaxFault) → Opens kind.Name room old new (Err fault) →
    Fails IsBoundName nothing old.text room old.rest fault
bound_name_refused room old new fault h = not_opened name_opener room old new fault h

pub name_refused : (text : List ℕ) (room : ℕ) (old new : List Token) → Takes kind.Name old new None → Fails IsName nothing text room old (Unexpected (begin_of text old))
name_refused text room old new h = refused name_part text room old (not_next kind.Name a_name old only_name h.1)

-- a name, where there was memory for it
pub name_answer : (text text' : List ℕ) (room : ℕ) (old new : List Token) (t : Token) (result : Result Name SyntaxFault) → Takes kind.Name old new (Some t) → text' ≡ text →
    IfOk result (λ n. n ≡ name_at text' t) → IsOkUnless result Memory → Reads IsName nothing text room old new result
name_answer text text' room old new t (Ok n) h same is memory =
    subst (λ (m : Name). IsRead IsName nothing text room old new m) (sym (is ∙ ap (λ (bytes : List ℕ). name_at bytes t) same)) (name_taken t h)
name_answer text text' room old new t (Err fault) h same is memory = no_memory memory

pub no_name_answer : (text text' : List ℕ) (room : ℕ) (old new : List Token) (fault : SyntaxFault) → Takes kind.Name old new None → text' ≡ text →
    fault ≡ Unexpected (begin_of text' new) → Reads IsName nothing text room old new (Err fault)
no_name_answer text text' room old new fault h same is =
    let place : fault ≡ Unexpected (begin_of text old) = cc h.0 in
    fault_of IsName nothing text room old new fault
    (subst (λ (f : SyntaxFault). Fails IsName nothing text room old f) (sym place) (name_refused text room old new h))

pub bound_name_answer : (room : ℕ) (old : Unread) (text' : List ℕ) (new : List Token) (t : Token) (result : Result Name SyntaxFault) → Opens kind.Name room old new (Ok t) →
    text' ≡ old.text → IfOk result (λ n. n ≡ name_at text' t) → IsOkUnless result Memory → Reads IsBoundName nothing old.text room old.rest new result
bound_name_answer room old text' new t (Ok n) h same is memory =
    subst (λ (m : Name). IsRead IsBoundName nothing old.text room old.rest new m) (sym (is ∙ ap (λ (bytes : List ℕ). name_at bytes t) same)) (bound_name_opened room old new t h)
bound_name_answer room old text' new t (Err fault) h same is memory =
    no_memory memory

pub no_bound_name_answer : (room : ℕ) (old : Unread) (new : List Token) (fault : SyntaxFault) (result : Result Name SyntaxFault) → result ≡ Err fault →
    Opens kind.Name room old new (Err fault) → Reads IsBoundName nothing old.text room old.rest new result
no_bound_name_answer room old new fault result e h =
    subst (λ (r : Result Name SyntaxFault). Reads IsBoundName nothing old.text room old.rest new r) (sym e)
    (fault_of IsBoundName nothing old.text room old.rest new fault (bound_name_refused room old new fault h))

-- a number, and a truth value
pub number_read : (text : List ℕ) (room : ℕ) (old new : List Token) (t token : Token) (n : ℤ) → old ≡ t ∷ new → t.kind ≡ kind.Number n → token ≡ t →
    IsRead (λ s. IsNumber) nothing text room old new (expression_at token (form.Number n))
number_read text room old new t token n e is same =
    subst (λ (us : List Token). IsRead (λ s. IsNumber) nothing text room us new (expression_at token (form.Number n))) (sym e)
    (one_read (λ s u x. (m : ℤ) × (u.kind ≡ kind.Number m) × (x ≡ expression_at u (form.Number m))) number_part text room t new (expression_at token (form.Number n))
    (n, is, ap (λ (u : Token). expression_at u (form.Number n)) same))

pub number_refused : (text text' : List ℕ) (room : ℕ) (old new : List Token) (fault : SyntaxFault) → Stops a_number old → new ≡ old → text' ≡ text → fault ≡ Unexpected (begin_of text' new) →
    Fails (λ s. IsNumber) nothing text room old fault
number_refused text text' room old new fault stops same e is =
    let place : fault ≡ Unexpected (begin_of text old) = cc in
    subst (λ (f : SyntaxFault). Fails (λ s. IsNumber) nothing text room old f) (sym place) (refused number_part text room old stops)

pub truth_read : (value : Bool) (w : Reserved) → ((t : Token) → t.kind ≡ kind.Reserved w → IsTruthWord t value) → (text : List ℕ) (room : ℕ) (old new : List Token) (t : Token) → Takes (kind.Reserved w) old new (Some t) →
    IsRead (λ s. IsTruth) nothing text room old new (expression_at t (form.Truth value))
truth_read value w says text room old new t h =
    subst (λ (us : List Token). IsRead (λ s. IsTruth) nothing text room us new (expression_at t (form.Truth value))) (sym h.0)
    (one_read (λ s u x. (v : Bool) × IsTruthWord u v × (x ≡ expression_at u (form.Truth v))) truth_part text room t new (expression_at t (form.Truth value)) (value, says t h.1, refl))

pub truth_second : (text : List ℕ) (room : ℕ) (old mid new : List Token) (t : Token) → Takes (kind.Reserved reserved.True) old mid None → Takes (kind.Reserved reserved.False) mid new (Some t) →
    IsRead (λ s. IsTruth) nothing text room old new (expression_at t (form.Truth false))
truth_second text room old mid new t h h' =
    subst (λ (us : List Token). IsRead (λ s. IsTruth) nothing text room us new (expression_at t (form.Truth false))) h.0
    (truth_read false reserved.False (λ t is. is) text room mid new t h')

pub truth_refused : (text text' : List ℕ) (room : ℕ) (old mid new : List Token) (fault : SyntaxFault) → Takes (kind.Reserved reserved.True) old mid None → Takes (kind.Reserved reserved.False) mid new None →
    text' ≡ text → fault ≡ Unexpected (begin_of text' new) → Fails (λ s. IsTruth) nothing text room old fault
truth_refused text text' room old mid new fault h h' e is =
    let place : fault ≡ Unexpected (begin_of text old) = cc (h.0, h'.0) in
    let second : Stops (words_of (reserved.False ∷ [])) old = subst (Stops (words_of (reserved.False ∷ []))) h.0 (word_stops reserved.False mid new h') in
    subst (λ (f : SyntaxFault). Fails (λ s. IsTruth) nothing text room old f) (sym place)
    (refused truth_part text room old (stops_both (words_of (reserved.True ∷ [])) (words_of (reserved.False ∷ [])) old (word_stops reserved.True old mid h) second))
