-- How a part is read from how its parts are read.
use Rattle.std.proofs.Common.{◌≡◌, ℕ, zero, suc, ◌+◌, ◌≤◌, Bool, true, false, cond, List, [], ◌∷◌, ◌++◌, Some, None, inl, inr, Result, Ok, Err, refl, sym, ◌∙◌, ap, subst, append_assoc, arith}
use Rattle.std.specs.Prelude.{IsTrue, nat_le}
use Rattle.std.proofs.lemmas.Bool.{false≢true, le-leb, lt-ltb}
use Rattle.std.proofs.lemmas.List.{append-nil, append_cancel_left}
use Rattle.hll_lexer.specs.declared.token.Token.{Token}
use Rattle.hll_lexer.specs.declared.token.Mark.{Mark}
use Rattle.hll_lexer.specs.declared.token.Reserved.TheVariants as reserved
use Rattle.hll_lexer.specs.declared.token.TokenKind.TheVariants as kind
use Rattle.hll_tree.specs.declared.tree.Domain.{Domain}
use Rattle.hll_tree.specs.declared.tree.Expr.{Expr}
use Rattle.hll_tree.specs.declared.tree.HllModel.{HllModel}
use Rattle.hll_tree.specs.declared.tree.Quant.{Quant}
use Rattle.hll_tree.specs.Spells.{Spelling, Scope, One, Then, Made, Either, Perhaps, Many, Behind, Before, Opening, IsOperand, IsExpression, IsDomain, IsBound, IsIf, IsBoundName, IsModel, name_at, SpellsWithin, Spells, Limit, Bound, scope, at_most, at_most_before}
use Rattle.hll_tree.specs.Prefixes.{begin_of, Extends, IsUnexpected, IsDeep}
use Rattle.hll_grammar.specs.Lookahead.{Kinds, nothing, anything}
use Rattle.hll_grammar.specs.Reading.{Fails, ManySoFar, Form, Stops, IsRead, Reads, IsOnly, IsDead, within, unlimited, level_limit, depth_of}
use Rattle.hll_grammar.specs.declared.fault.SyntaxFault.{SyntaxFault}
use Rattle.hll_grammar.specs.declared.fault.SyntaxFault.TheVariants.{Unexpected, Deep, Memory}
use Rattle.hll_grammar.proofs.Alive.{lawful_in, widened, unlimited_too, alive_some, alive_early, alive_late, free_before, carry}
use Rattle.hll_grammar.proofs.Combined.{opening_part, many_part, many_wider}
use Rattle.hll_grammar.proofs.Extensions.{extends_less, extends_behind, extends_stops, extends_begins, extends_stopped, front_begins}
use Rattle.hll_grammar.proofs.Fronts.{same_heads, same_rests, stops_covered, stops_before, no_stop, stops_nothing, never_both, front_apart}
use Rattle.hll_grammar.proofs.Scopes.{scope_wider}
use Rattle.hll_grammar.proofs.Sets.{Apart, Covers, Follows, covers_same, apart_swapped}
use Rattle.hll_grammar.proofs.Tokens.{if_part, bound_name_part}
use Rattle.hll_grammar.proofs.Parts.{Begins, Part}

-- ---- refusals

-- from and to the clause on a reader's answer
pub failed : {A : Type 0} (P : Form A) (goes_on : Kinds) (text : List ℕ) (room : ℕ) (old new : List Token) (fault : SyntaxFault) →
    Reads P goes_on text room old new (Err fault) → Fails P goes_on text room old fault
failed P goes_on text room old new fault h = h

pub fault_of : {A : Type 0} (P : Form A) (goes_on : Kinds) (text : List ℕ) (room : ℕ) (old new : List Token) (fault : SyntaxFault) →
    Fails P goes_on text room old fault → Reads P goes_on text room old new (Err fault)
fault_of P goes_on text room old new fault h = h

-- a part breaks off at once where the next token doesn't begin it
pub refused : {A : Type 0} {P : Form A} {begins goes_on : Kinds} → Part P begins false goes_on →
    (text : List ℕ) (room : ℕ) (old : List Token) → Stops begins old → Fails P goes_on text room old (Unexpected (begin_of text old))
refused {P = P} {begins} {goes_on} p text room old stops = record {
  because = record {
    front = [];
    rest = old;
    parts = refl;
    place = refl;
    alive = alive_some p text (at_most_before (begin_of text old) level_limit) (depth_of room) (free_before (begin_of text old));
    dead = λ room' whole us vs x e same ends is.
        no_stop (covers_same begins) us vs ((lawful_in p text unlimited room' (depth_of room)).first us x is)
        (subst (Stops begins) same (extends_stops begins [] old whole e stops));
  };
}

-- the tokens that were read begin as the part does
pub read_begins : {A : Type 0} {P : Form A} {begins goes_on : Kinds} → Part P begins false goes_on →
    {text : List ℕ} {room : ℕ} {old new : List Token} {x : A} → IsRead P goes_on text room old new x → Begins begins false old
read_begins {begins = begins} p {text} {room} {old} {new} {x} r =
    subst (Begins begins false) (sym r.parts)
    (front_begins begins r.front new ((lawful_in p text (at_most level_limit) room (depth_of room)).first r.front x r.spelled))

-- a part is read where it is spelled, and doesn't go on with the next token
pub spelled_read : {A : Type 0} {P : Form A} {begins goes_on : Kinds} {empty : Bool} → Part P begins empty goes_on →
    (text : List ℕ) (room : ℕ) (old front new : List Token) (x : A) → old ≡ front ++ new → P (within text room) front x → Stops goes_on new →
    IsRead P goes_on text room old new x
spelled_read {goes_on = goes_on} p text room old front new x parts is stops = record {
  front = front;
  parts = parts;
  spelled = is;
  only = λ room' whole us vs y e same ends is'.
      let s = extends_stopped goes_on front new whole e stops in
      (lawful_in p text unlimited (room + room') (depth_of room)).one us vs front s.tail y x (sym same ∙ s.parts) ends s.stops
      (unlimited_too p text unlimited room' (room + room') (depth_of room) (omega arith) us y is')
      (unlimited_too p text (at_most level_limit) room (room + room') (depth_of room) (omega arith) front x is);
}

-- ---- one token

pub one_read : {A : Type 0} (R : Scope → Token → A → Type 0) {begins : Kinds} → Part (λ s. One (R s)) begins false nothing →
    (text : List ℕ) (room : ℕ) (t : Token) (rest : List Token) (x : A) → R (within text room) t x →
    IsRead (λ s. One (R s)) nothing text room (t ∷ rest) rest x
one_read R p text room t rest x is = spelled_read p text room (t ∷ rest) (t ∷ []) rest x refl (t, refl, is) (stops_nothing rest)

-- the text of every scope
scope_text : (text : List ℕ) (limit : Limit) (room depth : ℕ) → text ≡ (scope text limit room depth).text
unfolding scope
scope_text text limit zero depth = refl
scope_text text limit (suc room) depth = refl

-- where there is room, a further level is within the limit
level_free : (text : List ℕ) (room : ℕ) (t : Token) → 1 ≤ room → IsTrue ((within text room).may_open t)
unfolding scope
level_free text zero t some = absurd (omega arith)
level_free text (suc room) t some = le-leb (suc (depth_of (suc room))) 200 (omega arith)

level_unlimited : (text : List ℕ) (t : Token) → IsTrue ((scope text unlimited 1 (depth_of 0)).may_open t)
unfolding scope
level_unlimited text t = refl

-- at the last level no token may open another
level_shut : (text : List ℕ) (room : ℕ) (t : Token) → (scope text (at_most_before (suc t.from) level_limit) room (depth_of 0)).may_open t ≡ true → ⊥
unfolding scope
level_shut text zero t is = false≢true is
level_shut text (suc room) t is = false≢true (sym (ap (λ b. cond b (nat_le 201 200) true) (lt-ltb t.from (suc t.from) (omega arith))) ∙ is)

-- a token that would open a level too many
too_deep : {A : Type 0} (R : Scope → Token → A → Type 0) {begins : Kinds} → Part (λ s. One (R s)) begins false nothing →
    ((s : Scope) (t : Token) (x : A) → R s t x → IsTrue (s.may_open t)) → (text : List ℕ) (t : Token) (rest : List Token) (x : A) →
    R (scope text unlimited 1 (depth_of 0)) t x → Fails (λ s. One (R s)) nothing text 0 (t ∷ rest) (Deep t.from)
too_deep R p opens text t rest x is = record {
  because = record {
    front = [];
    token = t;
    rest = rest;
    parts = refl;
    place = refl;
    alive = alive_some p text (at_most_before t.from level_limit) (depth_of 0) (free_before t.from);
    opens = (1, [], x, (t, refl, is));
    dead = λ room whole us vs y e same ends h.
        let heads = same_heads t h.0 e.0 vs (sym e.1 ∙ same ∙ ap (λ ts. ts ++ vs) h.1) in
        level_shut text room t
        (subst (λ u. (scope text (at_most_before (suc t.from) level_limit) room (depth_of 0)).may_open u ≡ true) (sym heads.0)
        (opens (scope text (at_most_before (suc t.from) level_limit) room (depth_of 0)) h.0 y h.2));
  };
}

-- a token opens a level where there is room
pub opening_read : (m : Mark) (text : List ℕ) (room : ℕ) (t : Token) (rest : List Token) → 1 ≤ room → t.kind ≡ kind.Mark m →
    IsRead (λ s. Opening s m) nothing text room (t ∷ rest) rest t
opening_read m text room t rest some is =
    one_read (λ s t x. (t.kind ≡ kind.Mark m) × IsTrue (s.may_open t) × (x ≡ t)) (opening_part m) text room t rest t (is, level_free text room t some, refl)

pub if_read : (text : List ℕ) (room : ℕ) (t : Token) (rest : List Token) → 1 ≤ room → t.kind ≡ kind.Reserved reserved.If →
    IsRead IsIf nothing text room (t ∷ rest) rest t
if_read text room t rest some is =
    one_read (λ s t x. (t.kind ≡ kind.Reserved reserved.If) × IsTrue (s.may_open t) × (x ≡ t)) if_part text room t rest t (is, level_free text room t some, refl)

pub bound_name_read : (text : List ℕ) (room : ℕ) (t : Token) (rest : List Token) → 1 ≤ room → t.kind ≡ kind.Name →
    IsRead IsBoundName nothing text room (t ∷ rest) rest (name_at text t)
bound_name_read text room t rest some is =
    one_read (λ s t x. (t.kind ≡ kind.Name) × IsTrue (s.may_open t) × (x ≡ name_at s.text t)) bound_name_part text room t rest (name_at text t)
    (is, level_free text room t some, ap (λ w. name_at w t) (scope_text text (at_most level_limit) room (depth_of room)))

pub opening_too_deep : (m : Mark) (text : List ℕ) (t : Token) (rest : List Token) → t.kind ≡ kind.Mark m →
    Fails (λ s. Opening s m) nothing text 0 (t ∷ rest) (Deep t.from)
opening_too_deep m text t rest is =
    too_deep (λ s t x. (t.kind ≡ kind.Mark m) × IsTrue (s.may_open t) × (x ≡ t)) (opening_part m) (λ s t x h. h.1) text t rest t
    (is, level_unlimited text t, refl)

pub if_too_deep : (text : List ℕ) (t : Token) (rest : List Token) → t.kind ≡ kind.Reserved reserved.If → Fails IsIf nothing text 0 (t ∷ rest) (Deep t.from)
if_too_deep text t rest is =
    too_deep (λ s t x. (t.kind ≡ kind.Reserved reserved.If) × IsTrue (s.may_open t) × (x ≡ t)) if_part (λ s t x h. h.1) text t rest t
    (is, level_unlimited text t, refl)

pub bound_name_too_deep : (text : List ℕ) (t : Token) (rest : List Token) → t.kind ≡ kind.Name →
    Fails IsBoundName nothing text 0 (t ∷ rest) (Deep t.from)
bound_name_too_deep text t rest is =
    too_deep (λ s t x. (t.kind ≡ kind.Name) × IsTrue (s.may_open t) × (x ≡ name_at s.text t)) bound_name_part (λ s t x h. h.1) text t rest (name_at text t)
    (is, level_unlimited text t, ap (λ w. name_at w t) (scope_text text unlimited 1 (depth_of 0)))

-- ---- a value that is made from a part's

pub made_read : {A B : Type 0} {P : Form A} (f : A → B) {goes_on : Kinds} {text : List ℕ} {room : ℕ} {old new : List Token} {x : A} →
    IsRead P goes_on text room old new x → IsRead (λ s. Made f (P s)) goes_on text room old new (f x)
made_read f {x = x} a = record {
  front = a.front;
  parts = a.parts;
  spelled = (x, a.spelled, refl);
  only = λ room' whole us vs y e same ends is.
      let only = a.only room' whole us vs is.0 e same ends is.1 in (only.0, is.2 ∙ ap f only.1);
}

pub made_fails : {A B : Type 0} {P : Form A} (f : A → B) {goes_on : Kinds} {text : List ℕ} {room : ℕ} {old : List Token} {fault : SyntaxFault} →
    Fails P goes_on text room old fault → Fails (λ s. Made f (P s)) goes_on text room old fault
made_fails f {fault = fault} a = carry (record {
  before = [];
  parts = refl;
  alive = λ limit front free h. (h.0, h.1, f h.2, (h.2, h.3, refl));
  dead = λ limit front rest parts dead room' whole us vs y e same ends is. dead room' whole us vs is.0 e same ends is.1;
}) fault a

-- the set of what may follow may grow
pub read_covered : {A : Type 0} {P : Form A} {goes_on whole : Kinds} {text : List ℕ} {room : ℕ} {old new : List Token} {x : A} →
    Covers whole goes_on → IsRead P goes_on text room old new x → IsRead P whole text room old new x
read_covered c a = record {
  front = a.front;
  parts = a.parts;
  spelled = a.spelled;
  only = λ room' whole us vs y e same ends is. a.only room' whole us vs y e same (stops_covered c vs ends) is;
}

pub fails_covered : {A : Type 0} {P : Form A} {goes_on whole : Kinds} {text : List ℕ} {room : ℕ} {old : List Token} {fault : SyntaxFault} →
    Covers whole goes_on → Fails P goes_on text room old fault → Fails P whole text room old fault
fails_covered {fault = fault} c a = carry (record {
  before = [];
  parts = refl;
  alive = λ limit front free h. h;
  dead = λ limit front rest parts dead room' whole us vs y e same ends is. dead room' whole us vs y e same (stops_covered c vs ends) is;
}) fault a

-- ---- one part after another

-- what the second part spells isn't what the first goes on with
stops_first : {B : Type 0} {Q : Form B} {goes_p begins_q goes_q goes_on : Kinds} {empty_q : Bool} → Part Q begins_q empty_q goes_q →
    Follows goes_p begins_q empty_q goes_q goes_on → (text : List ℕ) (limit : Limit) (room depth : ℕ) (us vs : List Token) (y : B) →
    Q (scope text limit room depth) us y → Stops goes_on vs → Stops goes_p (us ++ vs)
stops_first {empty_q = empty} q f text limit room depth us vs y is ends =
    stops_before empty f.apart us vs ((lawful_in q text limit room depth).first us y is) (λ e. stops_covered (f.past e) vs ends)

module _ {A B : Type 0} {P : Form A} {Q : Form B} {begins_p begins_q goes_p goes_q goes_on : Kinds} {empty_p empty_q : Bool}
    (p : Part P begins_p empty_p goes_p) (q : Part Q begins_q empty_q goes_q) (f : Follows goes_p begins_q empty_q goes_q goes_on)
    {text : List ℕ} {room : ℕ} {old mid : List Token} where
  pub then_read : {new : List Token} {x : A} {y : B} → IsRead P goes_p text room old mid x → IsRead Q goes_q text room mid new y →
      IsRead (λ s. Then (P s) (Q s)) goes_on text room old new (x, y)
  then_read {new} {x} {y} a b = record {
    front = a.front ++ b.front;
    parts = a.parts ∙ ap (λ ts. a.front ++ ts) b.parts ∙ sym (append_assoc a.front b.front new);
    spelled = (a.front, b.front, refl, a.spelled, b.spelled);
    only = λ room' whole us vs z e same ends is.
        let apart : whole ≡ is.0 ++ (is.1 ++ vs) = same ∙ ap (λ ts. ts ++ vs) is.2 ∙ append_assoc is.0 is.1 vs in
        let left = a.only room' whole is.0 (is.1 ++ vs) z.0
        (subst (λ ts. Extends a.front ts whole) (sym b.parts) (extends_less a.front b.front new whole e))
        apart (stops_first q f text unlimited room' (depth_of room) is.1 vs z.1 is.4 ends) is.3
        in
        let rest = extends_behind a.front b.front new whole e in
        let right = b.only room' rest.tail is.1 vs z.1 rest.extends
        (sym (same_rests is.0 (is.1 ++ vs) a.front rest.tail left.0 (sym apart ∙ rest.parts))) (stops_covered f.last vs ends) is.4
        in
        (is.2 ∙ (λ i. left.0 i ++ right.0 i), λ i. (left.1 i, right.1 i));
  }

  pub then_fails_late : {x : A} {fault : SyntaxFault} → IsRead P goes_p text room old mid x → Fails Q goes_q text room mid fault →
      Fails (λ s. Then (P s) (Q s)) goes_on text room old fault
  then_fails_late {x} {fault} a b = carry (record {
    before = a.front;
    parts = a.parts;
    alive = λ limit front free h. alive_late p q text limit room (depth_of room) a.front front x free a.spelled h;
    dead = λ limit front rest parts dead room' whole us vs z e same ends is.
        let apart : whole ≡ is.0 ++ (is.1 ++ vs) = same ∙ ap (λ ts. ts ++ vs) is.2 ∙ append_assoc is.0 is.1 vs in
        let left = a.only room' whole is.0 (is.1 ++ vs) z.0
        (subst (λ ts. Extends a.front ts whole) (sym parts) (extends_less a.front front rest whole e))
        apart (stops_first q f text limit room' (depth_of room) is.1 vs z.1 is.4 ends)
        (unlimited_too p text limit room' room' (depth_of room) (omega arith) is.0 z.0 is.3)
        in
        let behind = extends_behind a.front front rest whole e in
        dead room' behind.tail is.1 vs z.1 behind.extends
        (sym (same_rests is.0 (is.1 ++ vs) a.front behind.tail left.0 (sym apart ∙ behind.parts))) (stops_covered f.last vs ends) is.4;
  }) fault b

  pub behind_read : {new : List Token} {x : A} {y : B} → IsRead P goes_p text room old mid x → IsRead Q goes_q text room mid new y →
      IsRead (λ s. Behind (P s) (Q s)) goes_on text room old new y
  behind_read a b = made_read (λ x. x.1) (then_read a b)

  pub behind_fails_late : {x : A} {fault : SyntaxFault} → IsRead P goes_p text room old mid x → Fails Q goes_q text room mid fault →
      Fails (λ s. Behind (P s) (Q s)) goes_on text room old fault
  behind_fails_late a b = made_fails (λ x. x.1) (then_fails_late a b)

  pub before_read : {new : List Token} {x : A} {y : B} → IsRead P goes_p text room old mid x → IsRead Q goes_q text room mid new y →
      IsRead (λ s. Before (P s) (Q s)) goes_on text room old new x
  before_read a b = made_read (λ x. x.0) (then_read a b)

  pub before_fails_late : {x : A} {fault : SyntaxFault} → IsRead P goes_p text room old mid x → Fails Q goes_q text room mid fault →
      Fails (λ s. Before (P s) (Q s)) goes_on text room old fault
  before_fails_late a b = made_fails (λ x. x.0) (then_fails_late a b)

module _ {A B : Type 0} {P : Form A} {Q : Form B} {begins_p begins_q goes_p goes_q goes_on : Kinds} {empty_p empty_q : Bool}
    (p : Part P begins_p empty_p goes_p) (q : Part Q begins_q empty_q goes_q) (f : Follows goes_p begins_q empty_q goes_q goes_on)
    {text : List ℕ} {room : ℕ} {old : List Token} {fault : SyntaxFault} where
  pub then_fails_early : Fails P goes_p text room old fault → Fails (λ s. Then (P s) (Q s)) goes_on text room old fault
  then_fails_early a = carry (record {
    before = [];
    parts = refl;
    alive = λ limit front free h. alive_early p q text limit (depth_of room) front free h;
    dead = λ limit front rest parts dead room' whole us vs z e same ends is.
        dead room' whole is.0 (is.1 ++ vs) z.0 e (same ∙ ap (λ ts. ts ++ vs) is.2 ∙ append_assoc is.0 is.1 vs)
        (stops_first q f text limit room' (depth_of room) is.1 vs z.1 is.4 ends) is.3;
  }) fault a

  pub behind_fails_early : Fails P goes_p text room old fault → Fails (λ s. Behind (P s) (Q s)) goes_on text room old fault
  behind_fails_early a = made_fails (λ x. x.1) (then_fails_early a)

  pub before_fails_early : Fails P goes_p text room old fault → Fails (λ s. Before (P s) (Q s)) goes_on text room old fault
  before_fails_early a = made_fails (λ x. x.0) (then_fails_early a)

-- ---- one of two parts

module _ {A : Type 0} {P Q : Form A} {begins_p begins_q goes_p goes_q goes_on : Kinds}
    (p : Part P begins_p false goes_p) (q : Part Q begins_q false goes_q) (apart : Apart begins_p begins_q)
    {text : List ℕ} {room : ℕ} {old : List Token} where
  pub either_left_read : {new : List Token} {x : A} → Covers goes_on goes_p → IsRead P goes_p text room old new x →
      IsRead (λ s. Either (P s) (Q s)) goes_on text room old new x
  either_left_read {new} {x} c a = record {
    front = a.front;
    parts = a.parts;
    spelled = inl a.spelled;
    only = λ room' whole us vs y e same ends is. elim is [
      | inl h ↦ a.only room' whole us vs y e same (stops_covered c vs ends) h
      | inr h ↦ absurd (front_apart apart us vs
          (subst (Begins begins_p false) same (extends_begins begins_p a.front new whole e (subst (Begins begins_p false) a.parts (read_begins p a))))
          ((lawful_in q text unlimited room' (depth_of room)).first us y h))
    ];
  }

  pub either_left_fails : {fault : SyntaxFault} → Covers goes_on goes_p → Begins begins_p false old → Fails P goes_p text room old fault →
      Fails (λ s. Either (P s) (Q s)) goes_on text room old fault
  either_left_fails {fault} c begins a = carry (record {
    before = [];
    parts = refl;
    alive = λ limit front free h. (h.0, h.1, h.2, inl h.3);
    dead = λ limit front rest parts dead room' whole us vs y e same ends is. elim is [
      | inl h ↦ dead room' whole us vs y e same (stops_covered c vs ends) h
      | inr h ↦ front_apart apart us vs
          (subst (Begins begins_p false) same (extends_begins begins_p front rest whole e (subst (Begins begins_p false) parts begins)))
          ((lawful_in q text limit room' (depth_of room)).first us y h)
    ];
  }) fault a

  pub either_right_read : {new : List Token} {x : A} → Covers goes_on goes_q → IsRead Q goes_q text room old new x →
      IsRead (λ s. Either (P s) (Q s)) goes_on text room old new x
  either_right_read {new} {x} c a = record {
    front = a.front;
    parts = a.parts;
    spelled = inr a.spelled;
    only = λ room' whole us vs y e same ends is. elim is [
      | inl h ↦ absurd (front_apart (apart_swapped apart) us vs
          (subst (Begins begins_q false) same (extends_begins begins_q a.front new whole e (subst (Begins begins_q false) a.parts (read_begins q a))))
          ((lawful_in p text unlimited room' (depth_of room)).first us y h))
      | inr h ↦ a.only room' whole us vs y e same (stops_covered c vs ends) h
    ];
  }

  -- where the next token begins neither, both say one thing
  pub either_right_fails : {fault : SyntaxFault} → Covers goes_on goes_q → Stops begins_p old → Fails Q goes_q text room old fault →
      Fails (λ s. Either (P s) (Q s)) goes_on text room old fault
  either_right_fails {fault} c stops a = carry (record {
    before = [];
    parts = refl;
    alive = λ limit front free h. (h.0, h.1, h.2, inr h.3);
    dead = λ limit front rest parts dead room' whole us vs y e same ends is. elim is [
      | inl h ↦ no_stop (covers_same begins_p) us vs ((lawful_in p text limit room' (depth_of room)).first us y h)
          (subst (Stops begins_p) same (extends_stops begins_p front rest whole e (subst (Stops begins_p) parts stops)))
      | inr h ↦ dead room' whole us vs y e same (stops_covered c vs ends) h
    ];
  }) fault a

-- ---- a part or nothing

module _ {A : Type 0} {P : Form A} {begins goes_p goes_on : Kinds} (p : Part P begins false goes_p) {text : List ℕ} {room : ℕ} {old : List Token} where
  pub perhaps_none : Stops begins old → IsRead (λ s. Perhaps (P s)) goes_on text room old old None
  perhaps_none stops = record { front = []; parts = refl; spelled = refl; only = only }
    where
      only : IsOnly (λ s. Perhaps (P s)) goes_on text (depth_of room) [] old None
      only room' whole us vs None e same ends is = (is, refl)
      only room' whole us vs (Some y) e same ends is = absurd (no_stop (covers_same begins) us vs
          ((lawful_in p text unlimited room' (depth_of room)).first us y is) (subst (Stops begins) same (extends_stops begins [] old whole e stops)))

  pub perhaps_read : {new : List Token} {x : A} → Covers goes_on begins → Covers goes_on goes_p → IsRead P goes_p text room old new x →
      IsRead (λ s. Perhaps (P s)) goes_on text room old new (Some x)
  perhaps_read {new} {x} b c a = record { front = a.front; parts = a.parts; spelled = a.spelled; only = only }
    where
      only : IsOnly (λ s. Perhaps (P s)) goes_on text (depth_of room) a.front new (Some x)
      only room' whole us vs None e same ends is = absurd (never_both begins vs
          (subst (Begins begins false) (same ∙ ap (λ ts. ts ++ vs) is)
          (extends_begins begins a.front new whole e (subst (Begins begins false) a.parts (read_begins p a)))) (stops_covered b vs ends))
      only room' whole us vs (Some y) e same ends is =
          let one = a.only room' whole us vs y e same (stops_covered c vs ends) is in (one.0, ap (λ z. Some z) one.1)

  pub perhaps_fails : {fault : SyntaxFault} → Covers goes_on goes_p → Begins goes_on false old → Fails P goes_p text room old fault →
      Fails (λ s. Perhaps (P s)) goes_on text room old fault
  perhaps_fails {fault} c begins a = carry (record {
    before = [];
    parts = refl;
    alive = λ limit front free h. (h.0, h.1, Some h.2, h.3);
    dead = λ limit front rest parts h. dead limit front rest parts h;
  }) fault a
    where
      dead : (limit : Limit) (front rest : List Token) → old ≡ front ++ rest → IsDead P goes_p limit text (depth_of room) front rest →
          IsDead (λ s. Perhaps (P s)) goes_on limit text (depth_of room) front rest
      dead limit front rest parts h room' whole us vs None e same ends is = never_both goes_on vs
          (subst (Begins goes_on false) (same ∙ ap (λ ts. ts ++ vs) is) (extends_begins goes_on front rest whole e (subst (Begins goes_on false) parts begins))) ends
      dead limit front rest parts h room' whole us vs (Some y) e same ends is = h room' whole us vs y e same (stops_covered c vs ends) is

-- ---- many

pub many_start : {A : Type 0} (P : Form A) (goes_on : Kinds) (text : List ℕ) (room : ℕ) (old : List Token) → ManySoFar P goes_on text room old old []
many_start P goes_on text room old = record {
  front = [];
  parts = refl;
  spelled = refl;
  goes = λ limit room' whole us vs ys e same ends is. (us, ys, refl, refl, is);
}

-- what stands behind one of many isn't what it goes on with
stops_at : {A : Type 0} {P : Form A} {begins goes_p goes_on : Kinds} → Part P begins false goes_p → Covers goes_on goes_p → Apart goes_p begins →
    (text : List ℕ) (limit : Limit) (room depth : ℕ) (us vs : List Token) (xs : List A) → Many (P (scope text limit room depth)) us xs →
    Stops goes_on vs → Stops goes_p (us ++ vs)
stops_at p c apart text limit room depth us vs xs is ends =
    stops_before true apart us vs ((lawful_in (many_part p apart) text limit room depth).first us xs is) (λ e. stops_covered c vs ends)

-- one more at the end
many_push : {A : Type 0} (P : Spelling A) (xs : List A) (us vs : List Token) (x : A) → Many P us xs → P vs x → Many P (us ++ vs) (xs ++ x ∷ [])
many_push P [] us vs x is h = (vs, [], ap (λ ts. ts ++ vs) is ∙ sym (append-nil vs), h, refl)
many_push P (y ∷ xs) us vs x is h = (is.0, is.1 ++ vs, ap (λ ts. ts ++ vs) is.2 ∙ append_assoc is.0 is.1 vs, is.3, many_push P xs is.1 vs x is.4 h)

module _ {A : Type 0} {P : Form A} {begins goes_p goes_on : Kinds} (p : Part P begins false goes_p)
    (b : Covers goes_on begins) (c : Covers goes_on goes_p) (apart : Apart goes_p begins)
    {text : List ℕ} {room : ℕ} {old mid : List Token} {xs : List A} where
  pub many_more : {new : List Token} {x : A} → ManySoFar P goes_on text room old mid xs → IsRead P goes_p text room mid new x →
      ManySoFar P goes_on text room old new (xs ++ x ∷ [])
  many_more {new} {x} m a = record {
    front = m.front ++ a.front;
    parts = m.parts ∙ ap (λ ts. m.front ++ ts) a.parts ∙ sym (append_assoc m.front a.front new);
    spelled = many_push (P (within text room)) xs m.front a.front x m.spelled a.spelled;
    goes = λ limit room' whole us vs ys e same ends is.
        let g = m.goes limit room' whole us vs ys (subst (λ ts. Extends m.front ts whole) (sym a.parts) (extends_less m.front a.front new whole e)) same ends is in
        let behind = extends_behind m.front a.front new whole e in
        let rest : behind.tail ≡ g.0 ++ vs =
        append_cancel_left m.front behind.tail (g.0 ++ vs) (sym behind.parts ∙ same ∙ ap (λ ts. ts ++ vs) g.2 ∙ append_assoc m.front g.0 vs) in
        let next = step limit room' behind.tail g.0 vs g.1 behind.extends rest ends g.4 in (
          next.0,
          next.1,
          g.2 ∙ ap (λ ts. m.front ++ ts) next.2 ∙ sym (append_assoc m.front a.front next.0),
          g.3 ∙ ap (λ zs. xs ++ zs) next.3 ∙ sym (append_assoc xs (x ∷ []) next.1),
          next.4,
        );
  }
    where
      step : (limit : Limit) (room' : ℕ) (tail ws vs : List Token) (zs : List A) → Extends a.front new tail → tail ≡ ws ++ vs → Stops goes_on vs →
          Many (P (scope text limit room' (depth_of room))) ws zs →
          (ws' : List Token) × (zs' : List A) × (ws ≡ a.front ++ ws') × (zs ≡ x ∷ zs') × Many (P (scope text limit room' (depth_of room))) ws' zs'
      step limit room' tail ws vs [] e same ends is = absurd (never_both begins vs
          (subst (Begins begins false) (same ∙ ap (λ ts. ts ++ vs) is)
          (extends_begins begins a.front new tail e (subst (Begins begins false) a.parts (read_begins p a)))) (stops_covered b vs ends))
      step limit room' tail ws vs (z ∷ zs) e same ends is =
          let one = a.only room' tail is.0 (is.1 ++ vs) z e (same ∙ ap (λ ts. ts ++ vs) is.2 ∙ append_assoc is.0 is.1 vs)
          (stops_at p c apart text limit room' (depth_of room) is.1 vs zs is.4 ends) (unlimited_too p text limit room' room' (depth_of room) (omega arith) is.0 z is.3)
          in
          (is.1, zs, is.2 ∙ ap (λ ts. ts ++ is.1) one.0, ap (λ y. y ∷ zs) one.1, is.4)

  pub many_end : ManySoFar P goes_on text room old mid xs → Stops begins mid → IsRead (λ s. Many (P s)) goes_on text room old mid xs
  many_end m stops = record {
    front = m.front;
    parts = m.parts;
    spelled = m.spelled;
    only = λ room' whole us vs ys e same ends is.
        let g = m.goes unlimited room' whole us vs ys e same ends is in
        let behind = extends_behind m.front [] mid whole (subst (λ ts. Extends ts mid whole) (sym (append-nil m.front)) e) in
        let rest : behind.tail ≡ g.0 ++ vs =
        append_cancel_left m.front behind.tail (g.0 ++ vs) (sym behind.parts ∙ same ∙ ap (λ ts. ts ++ vs) g.2 ∙ append_assoc m.front g.0 vs) in
        let none = nothing_more room' g.0 vs g.1 (subst (Stops begins) rest (extends_stops begins [] mid behind.tail behind.extends stops)) g.4 in
        (g.2 ∙ ap (λ ts. m.front ++ ts) none.0 ∙ append-nil m.front, g.3 ∙ ap (λ zs. xs ++ zs) none.1 ∙ append-nil xs);
  }
    where
      nothing_more : (room' : ℕ) (ws vs : List Token) (zs : List A) → Stops begins (ws ++ vs) → Many (P (scope text unlimited room' (depth_of room))) ws zs →
          (ws ≡ []) × (zs ≡ [])
      nothing_more room' ws vs [] s is = (is, refl)
      nothing_more room' ws vs (z ∷ zs) s is = absurd (no_stop (covers_same begins) is.0 (is.1 ++ vs)
          ((lawful_in p text unlimited room' (depth_of room)).first is.0 z is.3) (subst (Stops begins) (ap (λ ts. ts ++ vs) is.2 ∙ append_assoc is.0 is.1 vs) s))

  pub many_fails : {fault : SyntaxFault} → ManySoFar P goes_on text room old mid xs → Begins goes_on false mid → Fails P goes_p text room mid fault →
      Fails (λ s. Many (P s)) goes_on text room old fault
  many_fails {fault} m begin a = carry (record {
    before = m.front;
    parts = m.parts;
    alive = λ limit front free h. (
      room + h.0,
      h.1,
      xs ++ h.2 ∷ [],
      subst (λ ts. Many (P (scope text limit (room + h.0) (depth_of room))) ts (xs ++ h.2 ∷ [])) (sym (append_assoc m.front front h.1))
          (many_push (P (scope text limit (room + h.0) (depth_of room))) xs m.front (front ++ h.1) h.2
          (many_wider p (within text room) (scope text limit (room + h.0) (depth_of room))
          (scope_wider text (at_most level_limit) limit room (room + h.0) (depth_of room) free.looser (omega arith)) xs m.front m.spelled)
          (widened p text limit limit h.0 (room + h.0) (depth_of room) (λ t level is. is) (omega arith) (front ++ h.1) h.2 h.3)),
    );
    dead = λ limit front rest parts h room' whole us vs ys e same ends is.
        let g = m.goes limit room' whole us vs ys (subst (λ ts. Extends m.front ts whole) (sym parts) (extends_less m.front front rest whole e)) same ends is in
        let behind = extends_behind m.front front rest whole e in
        let rest' : behind.tail ≡ g.0 ++ vs =
        append_cancel_left m.front behind.tail (g.0 ++ vs) (sym behind.parts ∙ same ∙ ap (λ ts. ts ++ vs) g.2 ∙ append_assoc m.front g.0 vs) in
        step limit front rest parts h room' behind.tail g.0 vs g.1 behind.extends rest' ends g.4;
  }) fault a
    where
      step : (limit : Limit) (front rest : List Token) → mid ≡ front ++ rest → IsDead P goes_p limit text (depth_of room) front rest →
          (room' : ℕ) (tail ws vs : List Token) (zs : List A) → Extends front rest tail → tail ≡ ws ++ vs → Stops goes_on vs →
          Many (P (scope text limit room' (depth_of room))) ws zs → ⊥
      step limit front rest parts h room' tail ws vs [] e same ends is = never_both goes_on vs
          (subst (Begins goes_on false) (same ∙ ap (λ ts. ts ++ vs) is) (extends_begins goes_on front rest tail e (subst (Begins goes_on false) parts begin))) ends
      step limit front rest parts h room' tail ws vs (z ∷ zs) e same ends is =
          h room' tail is.0 (is.1 ++ vs) z e (same ∙ ap (λ ts. ts ++ vs) is.2 ∙ append_assoc is.0 is.1 vs)
          (stops_at p c apart text limit room' (depth_of room) is.1 vs zs is.4 ends) is.3

-- ---- inside a level

-- what the first form spells the second spells one level further out, and nothing else
pub record IsInside {A : Type 0} (P Q : Form A) : Type 0 where
  pub out : (text : List ℕ) (limit : Limit) (room depth : ℕ) (ts : List Token) (x : A) →
      P (scope text limit room (suc depth)) ts x → Q (scope text limit (suc room) depth) ts x
  pub in_again : (text : List ℕ) (limit : Limit) (room depth : ℕ) (ts : List Token) (x : A) →
      Q (scope text limit (suc room) depth) ts x → P (scope text limit room (suc depth)) ts x
  pub none : (text : List ℕ) (limit : Limit) (depth : ℕ) (ts : List Token) (x : A) → Q (scope text limit zero depth) ts x → ⊥

-- one level further in
deeper : (room : ℕ) → suc room ≤ 200 → suc (depth_of (suc room)) ≡ depth_of room
deeper room few = omega arith

module _ {A : Type 0} {P Q : Form A} {goes_on : Kinds} (inside : IsInside P Q) (text : List ℕ) (room : ℕ) (few : suc room ≤ 200) (old new : List Token) where
  inside_read : (x : A) → IsRead P goes_on text room old new x → IsRead Q goes_on text (suc room) old new x
  inside_read x a = record {
    front = a.front;
    parts = a.parts;
    spelled = inside.out text (at_most level_limit) room (depth_of (suc room)) a.front x
        (subst (λ d. P (scope text (at_most level_limit) room d) a.front x) (sym (deeper room few)) a.spelled);
    only = only;
  }
    where
      only : IsOnly Q goes_on text (depth_of (suc room)) a.front new x
      only zero whole us vs y e same ends is = absurd (inside.none text unlimited (depth_of (suc room)) us y is)
      only (suc room') whole us vs y e same ends is = a.only room' whole us vs y e same ends
          (subst (λ d. P (scope text unlimited room' d) us y) (deeper room few) (inside.in_again text unlimited room' (depth_of (suc room)) us y is))

  inside_fails : (fault : SyntaxFault) → Fails P goes_on text room old fault → Fails Q goes_on text (suc room) old fault
  inside_fails fault a = carry (record {
    before = [];
    parts = refl;
    alive = λ limit front free h. (
      suc h.0,
      h.1,
      h.2,
      inside.out text limit h.0 (depth_of (suc room)) (front ++ h.1) h.2
          (subst (λ d. P (scope text limit h.0 d) (front ++ h.1) h.2) (sym (deeper room few)) h.3),
    );
    dead = λ limit front rest parts h. dead limit front rest h;
  }) fault a
    where
      dead : (limit : Limit) (front rest : List Token) → IsDead P goes_on limit text (depth_of room) front rest →
          IsDead Q goes_on limit text (depth_of (suc room)) front rest
      dead limit front rest h zero whole us vs y e same ends is = inside.none text limit (depth_of (suc room)) us y is
      dead limit front rest h (suc room') whole us vs y e same ends is = h room' whole us vs y e same ends
          (subst (λ d. P (scope text limit room' d) us y) (deeper room few) (inside.in_again text limit room' (depth_of (suc room)) us y is))

inside_reads : {A : Type 0} {P Q : Form A} → IsInside P Q → (goes_on : Kinds) (text : List ℕ) (room room' : ℕ) (old new : List Token) (result : Result A SyntaxFault) →
    room ≡ suc room' → room ≤ 200 → Reads P goes_on text room' old new result → Reads Q goes_on text room old new result
inside_reads {P = P} {Q = Q} inside goes_on text room room' old new (Ok x) is few h =
    subst (λ r. IsRead Q goes_on text r old new x) (sym is) (inside_read inside text room' (omega arith) old new x h)
inside_reads {P = P} {Q = Q} inside goes_on text room room' old new (Err fault) is few h =
    subst (λ r. Reads Q goes_on text r old new (Err fault)) (sym is)
    (fault_of Q goes_on text (suc room') old new fault
    (inside_fails inside text room' (omega arith) old new fault (failed P goes_on text room' old new fault h)))

pub operand_inside : IsInside IsOperand (λ s. s.operand)
unfolding scope
operand_inside = record { out = λ text limit room depth ts x is. is; in_again = λ text limit room depth ts x is. is; none = λ text limit depth ts x is. is }

pub expression_inside : IsInside IsExpression (λ s. s.expression)
unfolding scope
expression_inside = record { out = λ text limit room depth ts x is. is; in_again = λ text limit room depth ts x is. is; none = λ text limit depth ts x is. is }

pub domain_inside : IsInside IsDomain (λ s. s.domain)
unfolding scope
domain_inside = record { out = λ text limit room depth ts x is. is; in_again = λ text limit room depth ts x is. is; none = λ text limit depth ts x is. is }

pub bound_inside : (q : Quant) → IsInside (λ s. IsBound s q) (λ s. s.bound q)
unfolding scope
bound_inside q = record { out = λ text limit room depth ts x is. is; in_again = λ text limit room depth ts x is. is; none = λ text limit depth ts x is. is }

module _ {A : Type 0} {P Q : Form A} (inside : IsInside P Q) {goes_on : Kinds} {text : List ℕ} {room room' : ℕ} {old : List Token} where
  pub read_inside : {new : List Token} {x : A} → room ≡ suc room' → room ≤ 200 → IsRead P goes_on text room' old new x → IsRead Q goes_on text room old new x
  read_inside {new} {x} is few r = subst (λ n. IsRead Q goes_on text n old new x) (sym is) (inside_read inside text room' (omega arith) old new x r)

  pub fails_inside : {fault : SyntaxFault} → room ≡ suc room' → room ≤ 200 → Fails P goes_on text room' old fault → Fails Q goes_on text room old fault
  fails_inside {fault} is few f = subst (λ n. Fails Q goes_on text n old fault) (sym is) (inside_fails inside text room' (omega arith) old [] fault f)

pub inside_operand : (goes_on : Kinds) (text : List ℕ) (room room' : ℕ) (old new : List Token) (result : Result Expr SyntaxFault) → room ≡ suc room' → room ≤ 200 →
    Reads IsOperand goes_on text room' old new result → Reads (λ s. s.operand) goes_on text room old new result
inside_operand = inside_reads operand_inside

pub inside_expression : (goes_on : Kinds) (text : List ℕ) (room room' : ℕ) (old new : List Token) (result : Result Expr SyntaxFault) → room ≡ suc room' → room ≤ 200 →
    Reads IsExpression goes_on text room' old new result → Reads (λ s. s.expression) goes_on text room old new result
inside_expression = inside_reads expression_inside

pub inside_domain : (goes_on : Kinds) (text : List ℕ) (room room' : ℕ) (old new : List Token) (result : Result Domain SyntaxFault) → room ≡ suc room' → room ≤ 200 →
    Reads IsDomain goes_on text room' old new result → Reads (λ s. s.domain) goes_on text room old new result
inside_domain = inside_reads domain_inside

pub inside_bound : (goes_on : Kinds) (q : Quant) (text : List ℕ) (room room' : ℕ) (old new : List Token) (result : Result Bound SyntaxFault) → room ≡ suc room' → room ≤ 200 →
    Reads (λ s. IsBound s q) goes_on text room' old new result → Reads (λ s. s.bound q) goes_on text room old new result
inside_bound goes_on q = inside_reads (bound_inside q) goes_on

-- ---- the whole

module _ {text : List ℕ} {tokens : List Token} where
  pub whole_spelled : {m : HllModel} → IsRead IsModel anything text 200 tokens [] m → SpellsWithin 200 text tokens m
  whole_spelled {m} r = (200, subst (λ ts. IsModel (within text 200) ts m) (sym (r.parts ∙ append-nil r.front)) r.spelled)

  pub whole_only : {m : HllModel} → IsRead IsModel anything text 200 tokens [] m → (other : HllModel) → Spells text tokens other → other ≡ m
  whole_only r other is = (r.only is.0 tokens tokens [] other (r.parts ∙ append-nil r.front) (sym (append-nil tokens)) tt is.1).1

  pub whole_unexpected : {at : ℕ} → Fails IsModel anything text 200 tokens (Unexpected at) → IsUnexpected text tokens at
  whole_unexpected h =
      let f = h.because in
      record {
        front = f.front;
        rest = f.rest;
        parts = f.parts;
        place = f.place;
        viable = (f.alive.1, f.alive.2, (f.alive.0, f.alive.3));
        refused = λ whole m e is. f.dead is.0 whole whole [] m e (sym (append-nil whole)) tt is.1;
      }

  pub whole_deep : {at : ℕ} → Fails IsModel anything text 200 tokens (Deep at) → IsDeep text tokens at
  whole_deep h =
      let f = h.because in
      record {
        front = f.front;
        token = f.token;
        rest = f.rest;
        parts = f.parts;
        place = f.place;
        viable = (f.alive.1, f.alive.2, (f.alive.0, f.alive.3));
        goes_on = (f.opens.1, f.opens.2, (f.opens.0, f.opens.3));
        refused = λ whole m e is. f.dead is.0 whole whole [] m e (sym (append-nil whole)) tt is.1;
      }
