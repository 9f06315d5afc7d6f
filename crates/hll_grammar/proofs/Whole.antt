-- A whole text: what was read to its end, and what stands behind what was read.
use Rattle.std.proofs.Common.{◌≡◌, ℕ, zero, suc, ◌+◌, ◌≤◌, ◌<◌, Bool, true, false, List, [], ◌∷◌, ◌++◌, length, Option, Some, None, Result, Ok, Err, ◌⊎◌, ⊎_elim, refl, sym, ◌∙◌, ap, subst, length-append, arith}
use Rattle.std.specs.Prelude.{is_some}
use Rattle.std.specs.Result.{IsErrAnd}
use Rattle.std.proofs.lemmas.Bool.{false≢true, false_from_ne_true, both_ways}
use Rattle.std.proofs.lemmas.Result.{err_from_is_err_and}
use Rattle.std.proofs.lemmas.List.{append-nil}
use Rattle.hll_lexer.specs.declared.token.Mark.{Mark}
use Rattle.hll_lexer.specs.declared.token.Mark.TheVariants as mark
use Rattle.hll_lexer.specs.declared.token.Reserved.{Reserved}
use Rattle.hll_lexer.specs.declared.token.Reserved.TheVariants as reserved
use Rattle.hll_lexer.specs.declared.token.Token.{Token}
use Rattle.hll_lexer.specs.declared.token.TokenKind.{TokenKind}
use Rattle.hll_lexer.specs.declared.token.TokenKind.TheVariants as kind
use Rattle.hll_tree.specs.declared.tree.HllModel.{HllModel}
use Rattle.hll_tree.specs.declared.tree.Section.{Section}
use Rattle.hll_tree.specs.Spells.{Many, Marked, IsSection, IsModel, Spells, SpellsWithin, at_most, at_most_before, scope}
use Rattle.hll_tree.specs.Prefixes.{begin_of, Extends, IsUnexpected, IsDeep}
use Rattle.hll_grammar.specs.Lookahead.{Kinds, holds, with, anything, begins_section, after_section, nothing, mark_number, word_number}
use Rattle.hll_grammar.specs.Reading.{Form, Stops, IsRead, Fails, ManySoFar, Reads, unlimited, level_limit, depth_of}
use Rattle.hll_grammar.specs.Unread.{starts, next_kind}
use Rattle.hll_grammar.specs.declared.fault.SyntaxFault.{SyntaxFault}
use Rattle.hll_grammar.specs.declared.fault.SyntaxFault.TheVariants.{Unexpected, Deep, Memory}
use Rattle.hll_grammar.proofs.Alive.{lawful_in, widened, free_before}
use Rattle.hll_grammar.proofs.Combined.{many_part}
use Rattle.hll_grammar.proofs.Parts.{Begins, Part}
use Rattle.hll_grammar.proofs.Lists.{starts_begins, starts_stops}
use Rattle.hll_grammar.proofs.Fronts.{begins_covered}
use Rattle.hll_grammar.proofs.Readings.{many_start, many_more, many_end, many_fails, made_read, made_fails, read_covered, fails_covered, whole_spelled, whole_only, whole_unexpected, whole_deep}
use Rattle.hll_grammar.proofs.Sections.{section_part}
use Rattle.hll_grammar.proofs.Sets.{Covers, with_either, apart, covers, covers_left, covers_right}

-- ---- lengths

pub not_longer : {A : Type 0} {P : Form A} {g : Kinds} {text : List ℕ} {room : ℕ} {old new : List Token} {x : A} → IsRead P g text room old new x → length new ≤ length old
not_longer {new = new} r = omega (arith, ap length r.parts, length-append r.front new)

pub shorter : {m : Mark} {g : Kinds} {text : List ℕ} {room : ℕ} {old new : List Token} {t : Token} → IsRead (λ s. Marked m) g text room old new t → length new < length old
shorter {new = new} r =
    let e : length r.front ≡ 1 = ap length r.spelled.1 in
    omega (arith, ap length r.parts, length-append r.front new)

pub part_shorter : {A : Type 0} {P : Form A} {k g : Kinds} → Part P k false g → {text : List ℕ} {room : ℕ} {old new : List Token} {x : A} → IsRead P g text room old new x → length new < length old
part_shorter {k = k} p {text} {room} {old} {new} {x} r =
    let some = not_empty r.front ((lawful_in p text (at_most level_limit) room (depth_of room)).first r.front x r.spelled) in
    omega (arith, ap length r.parts, length-append r.front new)
  where
    not_empty : (us : List Token) → Begins k false us → 1 ≤ length us
    not_empty [] begins = absurd (false≢true begins)
    not_empty (t ∷ us) begins = omega arith

-- ---- every kind

any_word : (w : Reserved) → holds anything (kind.Reserved w) ≡ true
unfolding word_number
any_word reserved.Constants = refl
any_word reserved.Types = refl
any_word reserved.Inputs = refl
any_word reserved.Declarations = refl
any_word reserved.Definitions = refl
any_word reserved.Constraints = refl
any_word reserved.Proof = refl
any_word reserved.Obligations = refl
any_word reserved.Bool = refl
any_word reserved.Int = refl
any_word reserved.Signed = refl
any_word reserved.Unsigned = refl
any_word reserved.Enum = refl
any_word reserved.Sort = refl
any_word reserved.Struct = refl
any_word reserved.True = refl
any_word reserved.False = refl
any_word reserved.If = refl
any_word reserved.Then = refl
any_word reserved.Elif = refl
any_word reserved.Else = refl
any_word reserved.All = refl
any_word reserved.Some = refl
any_word reserved.Sum = refl
any_word reserved.Pre = refl
any_word reserved.Next = refl
any_word reserved.First = refl

any_mark : (m : Mark) → holds anything (kind.Mark m) ≡ true
unfolding mark_number
any_mark mark.Assign = refl
any_mark mark.Colon = refl
any_mark mark.Semicolon = refl
any_mark mark.Comma = refl
any_mark mark.Open = refl
any_mark mark.Close = refl
any_mark mark.OpenBracket = refl
any_mark mark.CloseBracket = refl
any_mark mark.OpenBrace = refl
any_mark mark.CloseBrace = refl
any_mark mark.Dot = refl
any_mark mark.Implies = refl
any_mark mark.Same = refl
any_mark mark.Differ = refl
any_mark mark.Or = refl
any_mark mark.And = refl
any_mark mark.Not = refl
any_mark mark.Equal = refl
any_mark mark.Unequal = refl
any_mark mark.Less = refl
any_mark mark.LessEqual = refl
any_mark mark.Greater = refl
any_mark mark.GreaterEqual = refl
any_mark mark.Plus = refl
any_mark mark.Minus = refl
any_mark mark.Times = refl
any_mark mark.Over = refl
any_mark mark.Rest = refl
any_mark mark.Min = refl
any_mark mark.Max = refl
any_mark mark.Abs = refl

any_kind : (c : TokenKind) → holds anything c ≡ true
any_kind kind.Name = refl
any_kind (kind.Number n) = refl
any_kind (kind.Reserved w) = any_word w
any_kind (kind.Mark m) = any_mark m

nothing_follows : (vs : List Token) → Stops anything vs → vs ≡ []
nothing_follows [] stops = refl
nothing_follows (t ∷ vs) stops = absurd (false≢true (sym stops ∙ any_kind t.kind))

longer : (us more : List Token) (t : Token) → us ≡ us ++ t ∷ more → ⊥
longer us more t e = omega (arith, ap length e, length-append us (t ∷ more))

-- what was read is all that there may be, so the token behind it is the first that may not stand there
pub rest_refused : {A : Type 0} {P : Form A} {begins g : Kinds} {empty : Bool} → Part P begins empty g → {text : List ℕ} {room : ℕ} {old : List Token} {x : A}
    (t : Token) (rest : List Token) → IsRead P g text room old (t ∷ rest) x → Fails P anything text room old (Unexpected t.from)
rest_refused {P = P} p {text} {room} {old} {x} t rest r = record {
  because = record {
    front = r.front;
    rest = t ∷ rest;
    parts = r.parts;
    place = refl;
    alive = (
      room,
      [],
      x,
      subst (λ ts. P (scope text (at_most_before t.from level_limit) room (depth_of room)) ts x) (sym (append-nil r.front))
          (widened p text (at_most level_limit) (at_most_before t.from level_limit) room room (depth_of room) (free_before t.from).looser (omega arith) r.front x r.spelled),
    );
    dead = λ room' whole us vs y e same ends is.
        let none = nothing_follows vs ends in
        let all : whole ≡ us = same ∙ ap (λ ts. us ++ ts) none ∙ append-nil us in
        let only = r.only room' whole us [] y e (all ∙ sym (append-nil us)) tt is in
        longer r.front e.0 t (sym only.0 ∙ sym all ∙ e.1);
  };
}

-- ---- sections, one after another

abbrev pub after_sections : Kinds
after_sections = with begins_section after_section

module _ {text : List ℕ} {old now : List Token} {xs : List Section} (m : ManySoFar IsSection after_sections text 200 old now xs) where
  pub section_more : {new : List Token} {x : Section} → IsRead IsSection after_section text 200 now new x → ManySoFar IsSection after_sections text 200 old new (xs ++ x ∷ [])
  unfolding mark_number word_number
  section_more r = many_more section_part (covers_left begins_section after_section) (covers_right begins_section after_section) (apart _ _ refl) m r

  pub section_fails : {fault : SyntaxFault} → starts begins_section now ≡ true → Fails IsSection after_section text 200 now fault → Fails (λ s. Many (IsSection s)) after_sections text 200 old fault
  unfolding mark_number word_number
  section_fails next f =
      many_fails section_part (covers_left begins_section after_section) (covers_right begins_section after_section) (apart _ _ refl) m
      (begins_covered false (covers_left begins_section after_section) now (starts_begins begins_section now next)) f

  pub section_end : starts begins_section now ≡ false → IsRead (λ s. Many (IsSection s)) after_sections text 200 old now xs
  unfolding mark_number word_number
  section_end next =
      many_end section_part (covers_left begins_section after_section) (covers_right begins_section after_section) (apart _ _ refl) m (starts_stops begins_section now next)

-- ---- the whole

pub sections_part : Part (λ s. Many (IsSection s)) begins_section true after_sections
unfolding mark_number word_number
sections_part = many_part section_part (apart _ _ refl)

covers_anything : (k : Kinds) → Covers anything k
covers_anything k = record { all = λ c h. any_kind c }

module _ {text : List ℕ} {tokens : List Token} where
  pub model_read : {xs : List Section} → IsRead (λ s. Many (IsSection s)) after_sections text 200 tokens [] xs → IsRead IsModel anything text 200 tokens [] (record { sections = xs })
  model_read r = read_covered (covers_anything after_sections) (made_read (λ x. record { sections = x }) r)

  pub model_fails : {fault : SyntaxFault} → Fails (λ s. Many (IsSection s)) after_sections text 200 tokens fault → Fails IsModel anything text 200 tokens fault
  model_fails f = fails_covered (covers_anything after_sections) (made_fails (λ x. record { sections = x }) f)

  pub model_left : {xs : List Section} (t : Token) (rest : List Token) → IsRead (λ s. Many (IsSection s)) after_sections text 200 tokens (t ∷ rest) xs → Fails IsModel anything text 200 tokens (Unexpected t.from)
  model_left t rest r = made_fails (λ x. record { sections = x }) (rest_refused sections_part t rest r)

-- ---- what the reader of a text answers

no_more : (ts : List Token) → is_some (next_kind ts) ≡ false → ts ≡ []
no_more [] e = refl
no_more (t ∷ ts) e = absurd (false≢true (sym e))

abbrev pub the_error : SyntaxFault → Result HllModel SyntaxFault
the_error f = Err f

err_part : Result HllModel SyntaxFault → SyntaxFault
err_part (Ok m) = Memory
err_part (Err f) = f

pub same_fault : (f g : SyntaxFault) → the_error f ≡ the_error g → f ≡ g
unfolding err_part
same_fault f g e = ap err_part e

module _ {text text' : List ℕ} {tokens tokens' : List Token} (e : text' ≡ text) (d : tokens' ≡ tokens) where
  here : {A : Type 0} {P : Form A} {g : Kinds} {new : List Token} {x : A} → IsRead P g text' 200 tokens' new x → IsRead P g text 200 tokens new x
  here {P = P} {g} {new} {x} r = subst (λ ts. IsRead P g text 200 ts new x) d (subst (λ t. IsRead P g t 200 tokens' new x) e r)

  fails_here : {A : Type 0} {P : Form A} {g : Kinds} {fault : SyntaxFault} → Fails P g text' 200 tokens' fault → Fails P g text 200 tokens fault
  fails_here {P = P} {g} {fault} f = subst (λ ts. Fails P g text 200 ts fault) d (subst (λ t. Fails P g t 200 tokens' fault) e f)

  all_read : {xs : List Section} (new : List Token) → is_some (next_kind new) ≡ false → IsRead (λ s. Many (IsSection s)) after_sections text' 200 tokens' new xs →
      IsRead IsModel anything text 200 tokens [] (record { sections = xs })
  all_read {xs} new none r = model_read (subst (λ ts. IsRead (λ s. Many (IsSection s)) after_sections text 200 tokens ts xs) (no_more new none) (here r))

  pub parse_spelled : {xs : List Section} (new : List Token) → is_some (next_kind new) ≡ false → IsRead (λ s. Many (IsSection s)) after_sections text' 200 tokens' new xs →
      SpellsWithin 200 text tokens (record { sections = xs })
  parse_spelled new none r = whole_spelled (all_read new none r)

  pub parse_only : {xs : List Section} (new : List Token) → is_some (next_kind new) ≡ false → IsRead (λ s. Many (IsSection s)) after_sections text' 200 tokens' new xs →
      (other : HllModel) → Spells text tokens other → other ≡ record { sections = xs }
  parse_only new none r = whole_only (all_read new none r)

  pub parse_unexpected : {fault : SyntaxFault} (at : ℕ) → Fails (λ s. Many (IsSection s)) after_sections text' 200 tokens' fault → fault ≡ Unexpected at → IsUnexpected text tokens at
  parse_unexpected at f is = whole_unexpected (subst (λ x. Fails IsModel anything text 200 tokens x) is (model_fails (fails_here f)))

  pub parse_deep : {fault : SyntaxFault} (at : ℕ) → Fails (λ s. Many (IsSection s)) after_sections text' 200 tokens' fault → fault ≡ Deep at → IsDeep text tokens at
  parse_deep at f is = whole_deep (subst (λ x. Fails IsModel anything text 200 tokens x) is (model_fails (fails_here f)))

  pub parse_left : {xs : List Section} (new : List Token) (at : ℕ) (text2 : List ℕ) (fault : SyntaxFault) → is_some (next_kind new) ≡ true →
      IsRead (λ s. Many (IsSection s)) after_sections text' 200 tokens' new xs → fault ≡ Unexpected (begin_of text2 new) → fault ≡ Unexpected at → IsUnexpected text tokens at
  parse_left [] at text2 fault some r is is' = absurd (false≢true some)
  parse_left (t ∷ rest) at text2 fault some r is is' =
      whole_unexpected (subst (λ x. Fails IsModel anything text 200 tokens x) (sym is ∙ is') (model_left t rest (here r)))

pub not_deep : {text : List ℕ} {tokens : List Token} (at place : ℕ) (fault : SyntaxFault) → fault ≡ Unexpected place → fault ≡ Deep at → IsDeep text tokens at
not_deep at place fault is is' = absurd (apart place at (sym is ∙ is'))
  where
    apart : (p q : ℕ) → Unexpected p ≡ Deep q → ⊥
    apart p q e = cc

-- the fault that a `?` hands on
pub handed : (result : Result HllModel SyntaxFault) (fault other : SyntaxFault) → IsErrAnd result (λ x. x ≡ fault) → result ≡ Err other → fault ≡ other
handed result fault other h e =
    let p = err_from_is_err_and result h in
    sym p.2 ∙ same_fault p.0 other (sym p.1 ∙ e)

-- ---- the next token

with_else : (k l : Kinds) (c : TokenKind) → holds k c ≡ false → holds l c ≡ holds (with k l) c
with_else k l c none = elim (holds l c) as (λ b. (holds l c ≡ b) → b ≡ holds (with k l) c) [
  | true ↦ λ e. sym ((covers_right k l).all c e)
  | false ↦ λ e. sym (false_from_ne_true (holds (with k l) c) (λ h. ⊎_elim (λ i. both_ways (holds k c) none i) (λ i. both_ways (holds l c) e i) (with_either k l c h)))
] refl

-- what isn't of the first kinds begins both sets as it begins the second
pub starts_else : (k l : Kinds) (ts : List Token) → starts k ts ≡ false → starts l ts ≡ starts (with k l) ts
starts_else k l [] none = refl
starts_else k l (t ∷ ts) none = with_else k l t.kind none
