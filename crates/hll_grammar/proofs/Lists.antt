-- Lists of things parted by commas, and the items of sections, read one after another.
use Rattle.std.proofs.Common.{◌≡◌, ℕ, Bool, true, false, List, [], ◌∷◌, ◌++◌, refl, sym, ◌∙◌, subst}
use Rattle.hll_lexer.specs.declared.token.Mark.{Mark}
use Rattle.hll_lexer.specs.declared.token.Mark.TheVariants as mark
use Rattle.hll_lexer.specs.declared.token.Token.{Token}
use Rattle.hll_lexer.specs.declared.token.TokenKind.TheVariants as kind
use Rattle.hll_tree.specs.Spells.{Spelling, Scope, Many, Marked, Behind, Before, Listed, Items, IsName, IsSlot, IsDeclarator, IsMember, IsDecl, IsConstant, IsTypeItem, IsDefinition, IsExpression}
use Rattle.hll_grammar.specs.Lookahead.{Kinds, holds, nothing, marks_of, with, list_goes_on, after_declarator, after_expression, begins_constant, begins_type, begins_type_item, begins_definition, begins_expression, mark_number, word_number}
use Rattle.hll_grammar.specs.Reading.{Form, Stops, IsRead, Fails, ManySoFar, within}
use Rattle.hll_grammar.specs.Repetition.{a_comma, IsFurtherItem, IsEnded, ListSoFar, Lists, Repeats}
use Rattle.hll_grammar.specs.Unread.{starts}
use Rattle.hll_grammar.specs.declared.fault.SyntaxFault.{SyntaxFault}
use Rattle.hll_grammar.proofs.Operations.{expression_part}
use Rattle.hll_grammar.proofs.Sections.{declarator_part, decl_part, constant_part, member_part, type_item_part, slot_part, definition_part}
use Rattle.hll_grammar.proofs.Tokens.{name_part}
use Rattle.hll_grammar.proofs.Sets.{Apart, apart, Covers, Follows, covers_left, covers_right, covers_same, apart_nothing, follows_end, ends_with, covers_nothing}
use Rattle.hll_grammar.proofs.Parts.{Begins, Part}
use Rattle.hll_grammar.proofs.Combined.{many_part, behind_part, before_part, marked_part, holds_mark}
use Rattle.hll_grammar.proofs.Readings.{many_start, many_more, many_end, many_fails, made_read, made_fails, then_read, then_fails_early, then_fails_late, behind_read, behind_fails_early, behind_fails_late, before_read, before_fails_early, before_fails_late, one_read}

-- ---- the next token

pub starts_begins : (kinds : Kinds) (ts : List Token) → starts kinds ts ≡ true → Begins kinds false ts
starts_begins kinds [] h = h
starts_begins kinds (t ∷ ts) h = h

pub starts_stops : (kinds : Kinds) (ts : List Token) → starts kinds ts ≡ false → Stops kinds ts
starts_stops kinds [] h = tt
starts_stops kinds (t ∷ ts) h = h

-- a mark that stands next is read
pub mark_read : (m : Mark) (text : List ℕ) (room : ℕ) (ts : List Token) (t : Token) (rest : List Token) → ts ≡ t ∷ rest → t.kind ≡ kind.Mark m →
    IsRead (λ s. Marked m) nothing text room ts rest t
mark_read m text room ts t rest e is =
    subst (λ (us : List Token). IsRead (λ s. Marked m) nothing text room us rest t) (sym e)
    (one_read (λ s t x. (t.kind ≡ kind.Mark m) × (x ≡ t)) (marked_part m) text room t rest t (is, refl))

-- a list may go on where a comma stands next
comma_begins : {goes_on : Kinds} → Covers goes_on a_comma → (ts : List Token) (t : Token) (rest : List Token) → ts ≡ t ∷ rest → t.kind ≡ kind.Mark mark.Comma →
    Begins goes_on false ts
comma_begins {goes_on} c ts t rest e is =
    subst (Begins goes_on false) (sym e) (subst (λ k. holds goes_on k ≡ true) (sym is) (c.all (kind.Mark mark.Comma) (holds_mark mark.Comma)))

module _ {A : Type 0} {P : Form A} {k g : Kinds} (p : Part P k false g) (no_comma : Apart g a_comma) where
  further_part : Part (IsFurtherItem P) a_comma false g
  further_part = behind_part (marked_part mark.Comma) p (follows_end k false g)

  others_part : Part (λ s. Many (IsFurtherItem P s)) a_comma true (list_goes_on g)
  others_part = many_part further_part no_comma

  others_follow : Follows g a_comma true (list_goes_on g) (list_goes_on g)
  others_follow = record { apart = no_comma; last = covers_same (list_goes_on g); past = λ e. covers_right a_comma g }

  pub lists : Lists P g
  lists = record {
    start = λ text room old now x r. record {
      first = x;
      others = [];
      all = refl;
      behind_first = now;
      read = r;
      more = many_start (IsFurtherItem P) (list_goes_on g) text room now;
    };
    start_fails = λ text room old fault f. made_fails (λ x. x.0 ∷ x.1) (then_fails_early p others_part others_follow f);
    further = λ text room old now rest new items t x l e is r. record {
      first = l.first;
      others = l.others ++ x ∷ [];
      all = cc l.all;
      behind_first = l.behind_first;
      read = l.read;
      more = many_more further_part (covers_left a_comma g) (covers_right a_comma g) no_comma l.more
          (behind_read (marked_part mark.Comma) p (follows_end k false g) (mark_read mark.Comma text room now t rest e is) r);
    };
    further_fails = λ text room old now rest items t fault l e is f.
        made_fails (λ x. x.0 ∷ x.1) (then_fails_late p others_part others_follow l.read
        (many_fails further_part (covers_left a_comma g) (covers_right a_comma g) no_comma l.more (comma_begins (covers_left a_comma g) now t rest e is)
        (behind_fails_late (marked_part mark.Comma) p (follows_end k false g) (mark_read mark.Comma text room now t rest e is) f)));
    end = λ text room old now items l stops.
        subst (λ (xs : List A). IsRead (λ s. Listed (P s)) (list_goes_on g) text room old now xs) (sym l.all)
        (made_read (λ x. x.0 ∷ x.1) (then_read p others_part others_follow l.read
        (many_end further_part (covers_left a_comma g) (covers_right a_comma g) no_comma l.more stops)));
  }

-- ---- the items of sections

module _ {A : Type 0} {P : Form A} {k g : Kinds} (p : Part P k false g) (no_semicolon : Apart g (marks_of (mark.Semicolon ∷ []))) where
  ended_part : Part (IsEnded P) k false nothing
  ended_part = before_part p (marked_part mark.Semicolon) (ends_with nothing no_semicolon)

  pub repeats : Repeats P g k
  repeats = record {
    further = λ text room old now mid new items x t m r e.
        many_more ended_part (covers_same k) (covers_nothing k) (apart_nothing k) m
        (before_read p (marked_part mark.Semicolon) (ends_with nothing no_semicolon) r e);
    item_fails = λ text room old now items fault m next f.
        many_fails ended_part (covers_same k) (covers_nothing k) (apart_nothing k) m (starts_begins k now next)
        (before_fails_early p (marked_part mark.Semicolon) (ends_with nothing no_semicolon) f);
    end_fails = λ text room old now mid items x fault m next r f.
        many_fails ended_part (covers_same k) (covers_nothing k) (apart_nothing k) m (starts_begins k now next)
        (before_fails_late p (marked_part mark.Semicolon) (ends_with nothing no_semicolon) r f);
    end = λ text room old now items m next.
        many_end ended_part (covers_same k) (covers_nothing k) (apart_nothing k) m (starts_stops k now next);
  }

-- ---- what stands in lists and in sections

pub name_lists : Lists IsName nothing
unfolding mark_number word_number
name_lists = lists name_part (apart _ _ refl)

pub slot_lists : Lists IsSlot nothing
unfolding mark_number word_number
slot_lists = lists slot_part (apart _ _ refl)

pub declarator_lists : Lists IsDeclarator after_declarator
unfolding mark_number word_number
declarator_lists = lists declarator_part (apart _ _ refl)

pub member_lists : Lists IsMember after_declarator
unfolding mark_number word_number
member_lists = lists member_part (apart _ _ refl)

pub constant_lists : Lists IsConstant after_expression
unfolding mark_number word_number
constant_lists = lists constant_part (apart _ _ refl)

pub type_item_lists : Lists IsTypeItem after_declarator
unfolding mark_number word_number
type_item_lists = lists type_item_part (apart _ _ refl)

pub expression_lists : Lists IsExpression after_expression
unfolding mark_number word_number
expression_lists = lists expression_part (apart _ _ refl)

pub constant_repeats : Repeats IsConstant after_expression begins_constant
unfolding mark_number word_number
constant_repeats = repeats constant_part (apart _ _ refl)

pub type_item_repeats : Repeats IsTypeItem after_declarator begins_type_item
unfolding mark_number word_number
type_item_repeats = repeats type_item_part (apart _ _ refl)

pub decl_repeats : Repeats IsDecl (list_goes_on after_declarator) begins_type
unfolding mark_number word_number
decl_repeats = repeats decl_part (apart _ _ refl)

pub definition_repeats : Repeats IsDefinition (list_goes_on after_expression) begins_definition
unfolding mark_number word_number
definition_repeats = repeats definition_part (apart _ _ refl)

pub expression_repeats : Repeats IsExpression after_expression begins_expression
unfolding mark_number word_number
expression_repeats = repeats expression_part (apart _ _ refl)
