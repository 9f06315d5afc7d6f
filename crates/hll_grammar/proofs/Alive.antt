-- What goes on from tokens under a limit, and how a refusal of a part becomes one of a larger part.
use Rattle.std.proofs.Common.{◌≡◌, ℕ, suc, ◌+◌, ◌≤◌, Bool, true, false, cond, List, [], ◌∷◌, ◌++◌, refl, sym, ◌∙◌, ap, subst, append_assoc, arith}
use Rattle.std.specs.Prelude.{nat_lt, nat_le}
use Rattle.std.proofs.lemmas.Bool.{le-ltb}
use Rattle.hll_lexer.specs.declared.token.Token.{Token}
use Rattle.hll_tree.specs.Spells.{Limit, scope, at_most, at_most_before, Then}
use Rattle.hll_grammar.specs.Lookahead.{Kinds}
use Rattle.hll_grammar.specs.Reading.{Fails, Form, IsAlive, IsDead, unlimited, level_limit, depth_of}
use Rattle.hll_grammar.specs.declared.fault.SyntaxFault.{SyntaxFault}
use Rattle.hll_grammar.specs.declared.fault.SyntaxFault.TheVariants.{Unexpected, Deep, Memory}
use Rattle.hll_grammar.proofs.Parts.{IsLawful, Part}
use Rattle.hll_grammar.proofs.Scopes.{scope_laws, scope_wider, scope_roomy, IsLooser, OpensAt}

-- ---- limits

-- a limit that allows what is within the levels, and every level to the tokens at some place
pub record IsFree (limit : Limit) : Type 0 where
  pub place : ℕ
  pub opens : OpensAt place limit
  pub looser : IsLooser (at_most level_limit) limit

pub free_before : (at : ℕ) → IsFree (at_most_before at level_limit)
free_before at = record {
  place = at;
  opens = λ t level e. ap (λ (b : Bool). cond b (nat_le level 200) true) (le-ltb t.from at (omega arith));
  looser = λ t level is. either (nat_lt t.from at) (nat_le level 200) is;
}
  where
    either : (b c : Bool) → c ≡ true → cond b c true ≡ true
    either true c is = is
    either false c is = refl

pub free_unlimited : IsFree unlimited
free_unlimited = record { place = 0; opens = λ t level e. refl; looser = λ t level is. refl }

-- ---- parts in scopes

module _ {A : Type 0} {P : Form A} {begins goes_on : Kinds} {empty : Bool} (p : Part P begins empty goes_on) where
  pub lawful_in : (text : List ℕ) (limit : Limit) (room depth : ℕ) → IsLawful (P (scope text limit room depth)) begins empty goes_on
  lawful_in text limit room depth = p.lawful (scope text limit room depth) (scope_laws text limit room depth)

  pub widened : (text : List ℕ) (limit limit' : Limit) (room room' depth : ℕ) → IsLooser limit limit' → room ≤ room' →
      (ts : List Token) (x : A) → P (scope text limit room depth) ts x → P (scope text limit' room' depth) ts x
  widened text limit limit' room room' depth looser more = p.wider _ _ (scope_wider text limit limit' room room' depth looser more)

  pub unlimited_too : (text : List ℕ) (limit : Limit) (room room' depth : ℕ) → room ≤ room' →
      (ts : List Token) (x : A) → P (scope text limit room depth) ts x → P (scope text unlimited room' depth) ts x
  unlimited_too text limit room room' depth = widened text limit unlimited room room' depth (λ t level is. refl)

  -- something is spelled in any scope with two levels more
  pub some_in : (text : List ℕ) (limit : Limit) (room depth : ℕ) → IsFree limit →
      (ts : List Token) × (x : A) × P (scope text limit (suc (suc room)) depth) ts x
  some_in text limit room depth free = p.some _ (scope_roomy text limit room depth free.place free.opens)

  pub alive_some : (text : List ℕ) (limit : Limit) (depth : ℕ) → IsFree limit → IsAlive P limit text depth []
  alive_some text limit depth free = let a = some_in text limit 0 depth free in (suc (suc 0), a.0, a.1, a.2)

module _ {A B : Type 0} {P : Form A} {Q : Form B} {begins_p begins_q goes_p goes_q : Kinds} {empty_p empty_q : Bool}
    (p : Part P begins_p empty_p goes_p) (q : Part Q begins_q empty_q goes_q) where
  -- where the first part goes on, the second goes on behind it
  pub alive_early : (text : List ℕ) (limit : Limit) (depth : ℕ) (front : List Token) → IsFree limit → IsAlive P limit text depth front →
      IsAlive (λ s. Then (P s) (Q s)) limit text depth front
  alive_early text limit depth front free a =
      let b = some_in q text limit a.0 depth free in (
        suc (suc a.0),
        a.1 ++ b.0,
        (a.2, b.1),
        (
          front ++ a.1,
          b.0,
          sym (append_assoc front a.1 b.0),
          widened p text limit limit a.0 (suc (suc a.0)) depth (λ t level is. is) (omega arith) (front ++ a.1) a.2 a.3,
          b.2,
        ),
      )

  -- behind a first part that was read, what goes on from the second goes on from both
  pub alive_late : (text : List ℕ) (limit : Limit) (room depth : ℕ) (us front : List Token) (x : A) → IsFree limit →
      P (scope text (at_most level_limit) room depth) us x → IsAlive Q limit text depth front →
      IsAlive (λ s. Then (P s) (Q s)) limit text depth (us ++ front)
  alive_late text limit room depth us front x free is a = (
    room + a.0,
    a.1,
    (x, a.2),
    (
      us,
      front ++ a.1,
      append_assoc us front a.1,
      widened p text (at_most level_limit) limit room (room + a.0) depth free.looser (omega arith) us x is,
      widened q text limit limit a.0 (room + a.0) depth (λ t level is. is) (omega arith) (front ++ a.1) a.2 a.3,
    ),
  )

-- ---- refusals

-- what goes on from tokens by the first part goes on from them by the second behind others, and what doesn't doesn't
pub record Carries {A B : Type 0} (P : Form A) (goes_on : Kinds) (Q : Form B) (goes_on' : Kinds) (text : List ℕ) (room room' : ℕ)
    (old old' : List Token) : Type 0 where
  pub before : List Token
  pub parts : old' ≡ before ++ old
  pub alive : (limit : Limit) (front : List Token) → IsFree limit → IsAlive P limit text (depth_of room) front →
      IsAlive Q limit text (depth_of room') (before ++ front)
  pub dead : (limit : Limit) (front rest : List Token) → old ≡ front ++ rest → IsDead P goes_on limit text (depth_of room) front rest →
      IsDead Q goes_on' limit text (depth_of room') (before ++ front) rest

pub carry : {A B : Type 0} {P : Form A} {goes_on : Kinds} {Q : Form B} {goes_on' : Kinds} {text : List ℕ} {room room' : ℕ} {old old' : List Token} →
    Carries P goes_on Q goes_on' text room room' old old' → (fault : SyntaxFault) → Fails P goes_on text room old fault →
    Fails Q goes_on' text room' old' fault
carry {Q = Q} {text = text} {room' = room'} c (Unexpected at) h =
    let f = h.because in
    record {
      because = record {
        front = c.before ++ f.front;
        rest = f.rest;
        parts = c.parts ∙ ap (λ ts. c.before ++ ts) f.parts ∙ sym (append_assoc c.before f.front f.rest);
        place = f.place;
        alive = c.alive (at_most_before at level_limit) f.front (free_before at) f.alive;
        dead = c.dead unlimited f.front f.rest f.parts f.dead;
      };
    }
carry {Q = Q} {text = text} {room' = room'} c (Deep at) h =
    let f = h.because in
    record {
      because = record {
        front = c.before ++ f.front;
        token = f.token;
        rest = f.rest;
        parts = c.parts ∙ ap (λ ts. c.before ++ ts) f.parts ∙ sym (append_assoc c.before f.front (f.token ∷ f.rest));
        place = f.place;
        alive = c.alive (at_most_before at level_limit) f.front (free_before at) f.alive;
        opens = subst (λ ts. IsAlive Q unlimited text (depth_of room') ts) (sym (append_assoc c.before f.front (f.token ∷ [])))
            (c.alive unlimited (f.front ++ f.token ∷ []) free_unlimited f.opens);
        dead = c.dead (at_most_before (suc at) level_limit) f.front (f.token ∷ f.rest) f.parts f.dead;
      };
    }
carry c Memory h = record { because = tt }
