-- What is one of several things is read as the one that its first token begins.
use Rattle.std.proofs.Common.{◌≡◌, ℕ, Bool, true, false, List, [], ◌∷◌, ◌++◌, ◌⊎◌, inl, inr, refl, sym, ◌∙◌, subst, cond}
use Rattle.std.specs.Prelude.{not, ◌&&◌, ◌==◌}
use Rattle.std.specs.List.{list_any}
use Rattle.std.proofs.lemmas.Bool.{false≢true}
use Rattle.hll_lexer.specs.declared.token.Mark.TheVariants as mark
use Rattle.hll_lexer.specs.declared.token.Reserved.{Reserved}
use Rattle.hll_lexer.specs.declared.token.Reserved.TheVariants as reserved
use Rattle.hll_lexer.specs.declared.token.Token.{Token}
use Rattle.hll_tree.specs.declared.tree.Expr.{Expr}
use Rattle.hll_tree.specs.declared.tree.Domain.TheVariants as domain
use Rattle.hll_tree.specs.declared.tree.Part.TheVariants as def
use Rattle.hll_tree.specs.declared.tree.Quant.{Quant}
use Rattle.hll_tree.specs.declared.tree.Quant.TheVariants as quant
use Rattle.hll_tree.specs.declared.tree.Section.TheVariants as section
use Rattle.hll_tree.specs.declared.tree.Slot.TheVariants as slot
use Rattle.hll_tree.specs.declared.tree.TypeItem.TheVariants as item
use Rattle.hll_tree.specs.declared.tree.TypeText.TheVariants as ty
use Rattle.hll_tree.specs.Prefixes.{Extends}
use Rattle.hll_tree.specs.Spells.{Made, Either, Worded, Behind, Scope, IsName, IsNumber, IsTruth, named, AreIndices, IsField, IsPath, IsParenthesised, IsGroup, IsMinus, IsNot, IsPre, IsLeast, IsGreatest, IsSize, word_of, AreBounds, IsDomain, IsQuantifierOf, IsQuantifier, IsOperand, IsOperation, IsChoice, IsExpression, IsDigits, IsIntegers, IsType, IsDecl, IsConstantKind, IsConstant, IsSort, IsTypeItem, IsSlot, IsPlainDefinition, IsMemoryDefinition, IsDefinition, IsSectionOf, IsSection}
use Rattle.hll_grammar.specs.Lookahead.{Kinds, mark_number, word_number, nothing, a_name, a_number, words_of, marks_of, with, after_operand, after_expression, after_declarator, list_goes_on, begins_operand, begins_expression, begins_type, begins_domain, begins_type_item, begins_constant, begins_definition, begins_section, after_section}
use Rattle.hll_grammar.specs.Pieces.{IsReach, InParentheses, IsFurther, IsBody, IsRange, IsSigned, IsUnsigned, IsAlias, IsEnumeration, IsStructure, IsSortItem, AreLeaves, AreChildren, IsFixed, AreObligations}
use Rattle.hll_grammar.specs.Reading.{Form, Stops, IsRead, Fails, IsDead, unlimited, depth_of}
use Rattle.hll_grammar.specs.declared.fault.SyntaxFault.{SyntaxFault}
use Rattle.hll_grammar.proofs.Sets.{apart, covers, covers_left, covers_right, covers_same, apart_swapped, ends_with, follows_end, without, Apart, Covers}
use Rattle.hll_grammar.proofs.Parts.{Begins, IsWithin, HasLaws, Part}
use Rattle.hll_grammar.proofs.Fronts.{begins_covered, stops_covered, no_stop, front_apart, begins_stops}
use Rattle.hll_grammar.proofs.Extensions.{extends_begins, extends_stops}
use Rattle.hll_grammar.proofs.Scopes.{scope_laws}
use Rattle.hll_grammar.proofs.Alive.{carry}
use Rattle.hll_grammar.proofs.Readings.{read_begins}
use Rattle.hll_grammar.proofs.Combined.{resized, then_part, made_part, behind_part, worded_part}
use Rattle.hll_grammar.proofs.Tokens.{name_part, number_part, fixed_slot_part, a_truth, truth_part}
use Rattle.hll_grammar.proofs.Forms.{indices_part, field_part, path_part, parenthesised_part, group_part, minus_part, not_part, pre_part, least_part, greatest_part, size_part, bounds_part, bool_domain_part, over_part, further_bind_part, quantifier_of_part, a_quantifier, quantifier_part}
use Rattle.hll_grammar.proofs.Operations.{operation_part, choice_part, expression_part}
use Rattle.hll_grammar.proofs.Sections.{begins_digits, begins_integers, digits_behind_part, integers_part, decl_part, constant_part, names_part, elements_part, begins_sort, less_name_part, alias_part, enumeration_part, structure_part, sort_item_part, type_item_part, begins_slot, plain_definition_part, memory_definition_part, definition_part, section_of_part, obligations_part}

-- ---- one of several

-- with what a form begins
record Firsts {A : Type 0} (P : Form A) (begins : Kinds) : Type 1 where
  pub first : (s : Scope) → HasLaws s → (ts : List Token) (x : A) → P s ts x → Begins begins false ts

first_of : {A : Type 0} {P : Form A} {k g : Kinds} → Part P k false g → Firsts P k
first_of p = record { first = λ s laws. (p.lawful s laws).first }

-- the first, or one of the others
first_or : {A : Type 0} {P Q : Form A} {k l g : Kinds} → Part P k false g → Firsts Q l → Firsts (λ s. Either (P s) (Q s)) (with k l)
first_or {P = P} {Q = Q} {k = k} {l = l} p q = record {
  first = λ s laws ts x is. elim is [
    | inl h ↦ begins_covered false (covers_left k l) ts ((p.lawful s laws).first ts x h)
    | inr h ↦ begins_covered false (covers_right k l) ts (q.first s laws ts x h)
  ];
}

-- what a whole spells one of its alternatives spells, or it begins as the others do
record IsOneOf {A : Type 0} (X : Form A) (others : Kinds) (W : Form A) : Type 1 where
  pub within : (s : Scope) → IsWithin (X s) (W s)
  pub or_other : (s : Scope) → HasLaws s → (ts : List Token) (x : A) → W s ts x → (X s ts x) ⊎ Begins others false ts

here : {A : Type 0} {P Q : Form A} {l : Kinds} → Firsts Q l → IsOneOf P l (λ s. Either (P s) (Q s))
here q = record {
  within = λ s ts x is. inl is;
  or_other = λ s laws ts x is. elim is [ inl h ↦ inl h | inr h ↦ inr (q.first s laws ts x h) ];
}

last : {A : Type 0} {P Q : Form A} {k g : Kinds} → Part P k false g → IsOneOf Q k (λ s. Either (P s) (Q s))
last p = record {
  within = λ s ts x is. inr is;
  or_other = λ s laws ts x is. elim is [ inl h ↦ inr ((p.lawful s laws).first ts x h) | inr h ↦ inl h ];
}

later : {A : Type 0} {P Q X : Form A} {k g others : Kinds} → Part P k false g → IsOneOf X others Q → IsOneOf X (with k others) (λ s. Either (P s) (Q s))
later {k = k} {others = others} p q = record {
  within = λ s ts x is. inr (q.within s ts x is);
  or_other = λ s laws ts x is. elim is [
    | inl h ↦ inr (begins_covered false (covers_left k others) ts ((p.lawful s laws).first ts x h))
    | inr h ↦ elim (q.or_other s laws ts x h) [ inl i ↦ inl i | inr i ↦ inr (begins_covered false (covers_right k others) ts i) ]
  ];
}

-- an alternative of a whole: with what it begins and goes on, with what the others begin, and with what the whole goes on
pub record IsAlternative {A : Type 0} (X : Form A) (begins goes_on : Kinds) (W : Form A) (others whole : Kinds) : Type 1 where
  is_one : IsOneOf X others W
  part : Part X begins false goes_on
  apart : Apart begins others
  covers : Covers whole goes_on

alternative : {A : Type 0} {X W : Form A} {begins goes_on some others whole : Kinds} → Part X begins false goes_on → IsOneOf X some W →
    Covers others some → Apart begins others → Covers whole goes_on → IsAlternative X begins goes_on W others whole
alternative {some = some} {others = others} p o c a d = record {
  is_one = record {
    within = o.within;
    or_other = λ s laws ts x is. elim (o.or_other s laws ts x is) [ inl i ↦ inl i | inr i ↦ inr (begins_covered false c ts i) ];
  };
  part = p;
  apart = a;
  covers = d;
}

module _ {A : Type 0} {X W : Form A} {begins goes_on others whole : Kinds} (a : IsAlternative X begins goes_on W others whole)
    {text : List ℕ} {room : ℕ} {old : List Token} where
  pub read_as : {new : List Token} {x : A} → IsRead X goes_on text room old new x → IsRead W whole text room old new x
  read_as {new} {x} r = record {
    front = r.front;
    parts = r.parts;
    spelled = a.is_one.within _ r.front x r.spelled;
    only = λ room' whole us vs y e same ends is. elim (a.is_one.or_other _ (scope_laws text unlimited room' (depth_of room)) us y is) [
      | inl h ↦ r.only room' whole us vs y e same (stops_covered a.covers vs ends) h
      | inr h ↦ absurd (front_apart a.apart us vs
          (subst (Begins begins false) same (extends_begins begins r.front new whole e (subst (Begins begins false) r.parts (read_begins a.part r)))) h)
    ];
  }

  -- where no other alternative begins with the next token
  pub fails_as_last : {fault : SyntaxFault} → Stops others old → Fails X goes_on text room old fault → Fails W whole text room old fault
  fails_as_last {fault} stops f = carry (record {
    before = [];
    parts = refl;
    alive = λ limit front free h. (h.0, h.1, h.2, a.is_one.within _ (front ++ h.1) h.2 h.3);
    dead = λ limit front rest parts dead room' whole us vs y e same ends is. elim (a.is_one.or_other _ (scope_laws text limit room' (depth_of room)) us y is) [
      | inl h ↦ dead room' whole us vs y e same (stops_covered a.covers vs ends) h
      | inr h ↦ no_stop (covers_same others) us vs h (subst (Stops others) same (extends_stops others front rest whole e (subst (Stops others) parts stops)))
    ];
  }) fault f

  -- where the next token begins the alternative
  pub fails_as : {fault : SyntaxFault} → Begins begins false old → Fails X goes_on text room old fault → Fails W whole text room old fault
  fails_as begin f = fails_as_last (begins_stops (apart_swapped a.apart) old begin) f

-- ---- the alternatives of `operand`

pub minus_in_operand : IsAlternative IsMinus (marks_of (mark.Minus ∷ [])) after_operand IsOperand (without begins_operand (marks_of (mark.Minus ∷ []))) after_operand
unfolding mark_number word_number
minus_in_operand = alternative minus_part (here (first_or not_part (first_or number_part (first_or truth_part (first_or path_part (first_or parenthesised_part (first_or group_part (first_or quantifier_part (first_or pre_part (first_or least_part (first_or greatest_part (first_of size_part)))))))))))) (covers _ _ refl) (apart _ _ refl) (covers _ _ refl)

pub not_in_operand : IsAlternative IsNot (marks_of (mark.Not ∷ [])) after_operand IsOperand (without begins_operand (marks_of (mark.Not ∷ []))) after_operand
unfolding mark_number word_number
not_in_operand = alternative not_part (later minus_part (here (first_or number_part (first_or truth_part (first_or path_part (first_or parenthesised_part (first_or group_part (first_or quantifier_part (first_or pre_part (first_or least_part (first_or greatest_part (first_of size_part)))))))))))) (covers _ _ refl) (apart _ _ refl) (covers _ _ refl)

pub number_in_operand : IsAlternative (λ s. IsNumber) a_number nothing IsOperand (without begins_operand a_number) after_operand
unfolding mark_number word_number
number_in_operand = alternative number_part (later minus_part (later not_part (here (first_or truth_part (first_or path_part (first_or parenthesised_part (first_or group_part (first_or quantifier_part (first_or pre_part (first_or least_part (first_or greatest_part (first_of size_part)))))))))))) (covers _ _ refl) (apart _ _ refl) (covers _ _ refl)

pub truth_in_operand : IsAlternative (λ s. IsTruth) a_truth nothing IsOperand (without begins_operand a_truth) after_operand
unfolding mark_number word_number
truth_in_operand = alternative truth_part (later minus_part (later not_part (later number_part (here (first_or path_part (first_or parenthesised_part (first_or group_part (first_or quantifier_part (first_or pre_part (first_or least_part (first_or greatest_part (first_of size_part)))))))))))) (covers _ _ refl) (apart _ _ refl) (covers _ _ refl)

pub path_in_operand : IsAlternative IsPath a_name after_operand IsOperand (without begins_operand a_name) after_operand
unfolding mark_number word_number
path_in_operand = alternative path_part (later minus_part (later not_part (later number_part (later truth_part (here (first_or parenthesised_part (first_or group_part (first_or quantifier_part (first_or pre_part (first_or least_part (first_or greatest_part (first_of size_part)))))))))))) (covers _ _ refl) (apart _ _ refl) (covers _ _ refl)

pub parenthesised_in_operand : IsAlternative IsParenthesised (marks_of (mark.Open ∷ [])) nothing IsOperand (without begins_operand (marks_of (mark.Open ∷ []))) after_operand
unfolding mark_number word_number
parenthesised_in_operand = alternative parenthesised_part (later minus_part (later not_part (later number_part (later truth_part (later path_part (here (first_or group_part (first_or quantifier_part (first_or pre_part (first_or least_part (first_or greatest_part (first_of size_part)))))))))))) (covers _ _ refl) (apart _ _ refl) (covers _ _ refl)

pub group_in_operand : IsAlternative IsGroup (marks_of (mark.OpenBrace ∷ [])) nothing IsOperand (without begins_operand (marks_of (mark.OpenBrace ∷ []))) after_operand
unfolding mark_number word_number
group_in_operand = alternative group_part (later minus_part (later not_part (later number_part (later truth_part (later path_part (later parenthesised_part (here (first_or quantifier_part (first_or pre_part (first_or least_part (first_or greatest_part (first_of size_part)))))))))))) (covers _ _ refl) (apart _ _ refl) (covers _ _ refl)

pub some_quantifier_in_operand : IsAlternative IsQuantifier a_quantifier nothing IsOperand (without begins_operand a_quantifier) after_operand
unfolding mark_number word_number
some_quantifier_in_operand = alternative quantifier_part (later minus_part (later not_part (later number_part (later truth_part (later path_part (later parenthesised_part (later group_part (here (first_or pre_part (first_or least_part (first_or greatest_part (first_of size_part)))))))))))) (covers _ _ refl) (apart _ _ refl) (covers _ _ refl)

pub pre_in_operand : IsAlternative IsPre (words_of (reserved.Pre ∷ [])) nothing IsOperand (without begins_operand (words_of (reserved.Pre ∷ []))) after_operand
unfolding mark_number word_number
pre_in_operand = alternative pre_part (later minus_part (later not_part (later number_part (later truth_part (later path_part (later parenthesised_part (later group_part (later quantifier_part (here (first_or least_part (first_or greatest_part (first_of size_part)))))))))))) (covers _ _ refl) (apart _ _ refl) (covers _ _ refl)

pub least_in_operand : IsAlternative IsLeast (marks_of (mark.Min ∷ [])) nothing IsOperand (without begins_operand (marks_of (mark.Min ∷ []))) after_operand
unfolding mark_number word_number
least_in_operand = alternative least_part (later minus_part (later not_part (later number_part (later truth_part (later path_part (later parenthesised_part (later group_part (later quantifier_part (later pre_part (here (first_or greatest_part (first_of size_part)))))))))))) (covers _ _ refl) (apart _ _ refl) (covers _ _ refl)

pub greatest_in_operand : IsAlternative IsGreatest (marks_of (mark.Max ∷ [])) nothing IsOperand (without begins_operand (marks_of (mark.Max ∷ []))) after_operand
unfolding mark_number word_number
greatest_in_operand = alternative greatest_part (later minus_part (later not_part (later number_part (later truth_part (later path_part (later parenthesised_part (later group_part (later quantifier_part (later pre_part (later least_part (here (first_of size_part)))))))))))) (covers _ _ refl) (apart _ _ refl) (covers _ _ refl)

pub size_in_operand : IsAlternative IsSize (marks_of (mark.Abs ∷ [])) nothing IsOperand (without begins_operand (marks_of (mark.Abs ∷ []))) after_operand
unfolding mark_number word_number
size_in_operand = alternative size_part (later minus_part (later not_part (later number_part (later truth_part (later path_part (later parenthesised_part (later group_part (later quantifier_part (later pre_part (later least_part (last greatest_part))))))))))) (covers _ _ refl) (apart _ _ refl) (covers _ _ refl)

-- ---- the alternatives of `quantifier`

pub all_in_quantifier : IsAlternative (λ s. IsQuantifierOf s quant.All) (words_of (reserved.All ∷ [])) nothing IsQuantifier (without a_quantifier (words_of (reserved.All ∷ []))) nothing
unfolding mark_number word_number
all_in_quantifier = alternative (quantifier_of_part quant.All) (here (first_or (quantifier_of_part quant.Any) (first_of (quantifier_of_part quant.Sum)))) (covers _ _ refl) (apart _ _ refl) (covers _ _ refl)

pub any_in_quantifier : IsAlternative (λ s. IsQuantifierOf s quant.Any) (words_of (reserved.Some ∷ [])) nothing IsQuantifier (without a_quantifier (words_of (reserved.Some ∷ []))) nothing
unfolding mark_number word_number
any_in_quantifier = alternative (quantifier_of_part quant.Any) (later (quantifier_of_part quant.All) (here (first_of (quantifier_of_part quant.Sum)))) (covers _ _ refl) (apart _ _ refl) (covers _ _ refl)

pub sum_in_quantifier : IsAlternative (λ s. IsQuantifierOf s quant.Sum) (words_of (reserved.Sum ∷ [])) nothing IsQuantifier (without a_quantifier (words_of (reserved.Sum ∷ []))) nothing
unfolding mark_number word_number
sum_in_quantifier = alternative (quantifier_of_part quant.Sum) (later (quantifier_of_part quant.All) (last (quantifier_of_part quant.Any))) (covers _ _ refl) (apart _ _ refl) (covers _ _ refl)

-- ---- the alternatives of `domain`

range_part : Part IsRange (marks_of (mark.OpenBracket ∷ [])) false nothing
range_part = made_part (λ x. domain.Bounds x.0 x.1) bounds_part

pub range_in_domain : IsAlternative IsRange (marks_of (mark.OpenBracket ∷ [])) nothing IsDomain (without begins_domain (marks_of (mark.OpenBracket ∷ []))) nothing
unfolding mark_number word_number
range_in_domain = alternative range_part (here (first_or bool_domain_part (first_of (made_part domain.Named name_part)))) (covers _ _ refl) (apart _ _ refl) (covers _ _ refl)

pub bool_in_domain : IsAlternative (λ s. Made (λ t. domain.Bool) (Worded reserved.Bool)) (words_of (reserved.Bool ∷ [])) nothing IsDomain (without begins_domain (words_of (reserved.Bool ∷ []))) nothing
unfolding mark_number word_number
bool_in_domain = alternative bool_domain_part (later range_part (here (first_of (made_part domain.Named name_part)))) (covers _ _ refl) (apart _ _ refl) (covers _ _ refl)

pub named_in_domain : IsAlternative (λ s. Made domain.Named (IsName s)) a_name nothing IsDomain (without begins_domain a_name) nothing
unfolding mark_number word_number
named_in_domain = alternative (made_part domain.Named name_part) (later range_part (last bool_domain_part)) (covers _ _ refl) (apart _ _ refl) (covers _ _ refl)

-- ---- the alternatives of `expression`

pub choice_in_expression : IsAlternative IsChoice (words_of (reserved.If ∷ [])) after_expression IsExpression (without begins_expression (words_of (reserved.If ∷ []))) after_expression
unfolding mark_number word_number
choice_in_expression = alternative choice_part (here (first_of operation_part)) (covers _ _ refl) (apart _ _ refl) (covers _ _ refl)

pub operation_in_expression : IsAlternative (λ s. IsOperation (IsOperand s)) begins_operand after_expression IsExpression (without begins_expression begins_operand) after_expression
unfolding mark_number word_number
operation_in_expression = alternative operation_part (last choice_part) (covers _ _ refl) (apart _ _ refl) (covers _ _ refl)

-- ---- the alternatives of `reach`

pub indices_in_reach : IsAlternative AreIndices (marks_of (mark.OpenBracket ∷ [])) nothing IsReach (without after_operand (marks_of (mark.OpenBracket ∷ []))) nothing
unfolding mark_number word_number
indices_in_reach = alternative indices_part (here (first_of field_part)) (covers _ _ refl) (apart _ _ refl) (covers _ _ refl)

pub field_in_reach : IsAlternative IsField (marks_of (mark.Dot ∷ [])) nothing IsReach (without after_operand (marks_of (mark.Dot ∷ []))) nothing
unfolding mark_number word_number
field_in_reach = alternative field_part (last indices_part) (covers _ _ refl) (apart _ _ refl) (covers _ _ refl)

-- ---- the alternatives of `digits`

pub number_in_digits : IsAlternative (λ s. IsNumber) a_number nothing IsDigits (without begins_digits a_number) nothing
unfolding mark_number word_number
number_in_digits = alternative number_part (here (first_or (made_part named name_part) (first_of parenthesised_part))) (covers _ _ refl) (apart _ _ refl) (covers _ _ refl)

pub named_in_digits : IsAlternative (λ s. Made named (IsName s)) a_name nothing IsDigits (without begins_digits a_name) nothing
unfolding mark_number word_number
named_in_digits = alternative (made_part named name_part) (later number_part (here (first_of parenthesised_part))) (covers _ _ refl) (apart _ _ refl) (covers _ _ refl)

pub parenthesised_in_digits : IsAlternative IsParenthesised (marks_of (mark.Open ∷ [])) nothing IsDigits (without begins_digits (marks_of (mark.Open ∷ []))) nothing
unfolding mark_number word_number
parenthesised_in_digits = alternative parenthesised_part (later number_part (last (made_part named name_part))) (covers _ _ refl) (apart _ _ refl) (covers _ _ refl)

-- ---- the alternatives of `integers`

integer_bounds_part : Part (λ s. Made (λ x. ty.Bounds x.0 x.1) (AreBounds s)) (marks_of (mark.OpenBracket ∷ [])) false nothing
integer_bounds_part = made_part (λ x. ty.Bounds x.0 x.1) bounds_part

pub bounds_in_integers : IsAlternative (λ s. Made (λ x. ty.Bounds x.0 x.1) (AreBounds s)) (marks_of (mark.OpenBracket ∷ [])) nothing IsIntegers (without begins_integers (marks_of (mark.OpenBracket ∷ []))) nothing
unfolding mark_number word_number
bounds_in_integers = alternative integer_bounds_part (here (first_or (made_part ty.Signed (digits_behind_part reserved.Signed)) (first_of (made_part ty.Unsigned (digits_behind_part reserved.Unsigned))))) (covers _ _ refl) (apart _ _ refl) (covers _ _ refl)

pub signed_in_integers : IsAlternative IsSigned (words_of (reserved.Signed ∷ [])) nothing IsIntegers (without begins_integers (words_of (reserved.Signed ∷ []))) nothing
unfolding mark_number word_number
signed_in_integers = alternative (made_part ty.Signed (digits_behind_part reserved.Signed)) (later integer_bounds_part (here (first_of (made_part ty.Unsigned (digits_behind_part reserved.Unsigned))))) (covers _ _ refl) (apart _ _ refl) (covers _ _ refl)

pub unsigned_in_integers : IsAlternative IsUnsigned (words_of (reserved.Unsigned ∷ [])) nothing IsIntegers (without begins_integers (words_of (reserved.Unsigned ∷ []))) nothing
unfolding mark_number word_number
unsigned_in_integers = alternative (made_part ty.Unsigned (digits_behind_part reserved.Unsigned)) (later integer_bounds_part (last (made_part ty.Signed (digits_behind_part reserved.Signed)))) (covers _ _ refl) (apart _ _ refl) (covers _ _ refl)

-- ---- the alternatives of `type`

bool_type_part : Part (λ s. Made (λ t. ty.Bool) (Worded reserved.Bool)) (words_of (reserved.Bool ∷ [])) false nothing
bool_type_part = made_part (λ t. ty.Bool) (worded_part reserved.Bool)

pub int_part : Part (λ s. Behind (Worded reserved.Int) (IsIntegers s)) (words_of (reserved.Int ∷ [])) false nothing
int_part = behind_part (worded_part reserved.Int) integers_part (follows_end _ _ _)

pub bool_in_type : IsAlternative (λ s. Made (λ t. ty.Bool) (Worded reserved.Bool)) (words_of (reserved.Bool ∷ [])) nothing IsType (without begins_type (words_of (reserved.Bool ∷ []))) nothing
unfolding mark_number word_number
bool_in_type = alternative bool_type_part (here (first_or (made_part ty.Named name_part) (first_of int_part))) (covers _ _ refl) (apart _ _ refl) (covers _ _ refl)

pub named_in_type : IsAlternative (λ s. Made ty.Named (IsName s)) a_name nothing IsType (without begins_type a_name) nothing
unfolding mark_number word_number
named_in_type = alternative (made_part ty.Named name_part) (later bool_type_part (here (first_of int_part))) (covers _ _ refl) (apart _ _ refl) (covers _ _ refl)

pub int_in_type : IsAlternative (λ s. Behind (Worded reserved.Int) (IsIntegers s)) (words_of (reserved.Int ∷ [])) nothing IsType (without begins_type (words_of (reserved.Int ∷ []))) nothing
unfolding mark_number word_number
int_in_type = alternative int_part (later bool_type_part (last (made_part ty.Named name_part))) (covers _ _ refl) (apart _ _ refl) (covers _ _ refl)

-- ---- the alternatives of `constant_kind`

constant_word_part : (w : Reserved) (boolean : Bool) → Part (λ s. Made (λ t. boolean) (Worded w)) (words_of (w ∷ [])) false nothing
constant_word_part w boolean = made_part (λ t. boolean) (worded_part w)

pub bool_in_constant_kind : IsAlternative (λ s. Made (λ t. true) (Worded reserved.Bool)) (words_of (reserved.Bool ∷ [])) nothing (λ s. IsConstantKind) (without begins_constant (words_of (reserved.Bool ∷ []))) nothing
unfolding mark_number word_number
bool_in_constant_kind = alternative (constant_word_part reserved.Bool true) (here (first_of (constant_word_part reserved.Int false))) (covers _ _ refl) (apart _ _ refl) (covers _ _ refl)

pub int_in_constant_kind : IsAlternative (λ s. Made (λ t. false) (Worded reserved.Int)) (words_of (reserved.Int ∷ [])) nothing (λ s. IsConstantKind) (without begins_constant (words_of (reserved.Int ∷ []))) nothing
unfolding mark_number word_number
int_in_constant_kind = alternative (constant_word_part reserved.Int false) (last (constant_word_part reserved.Bool true)) (covers _ _ refl) (apart _ _ refl) (covers _ _ refl)

-- ---- the alternatives of `sort`

pub leaves_part : Part AreLeaves (marks_of (mark.OpenBrace ∷ [])) false nothing
leaves_part = made_part (λ x. item.Leaves x.0 x.1) (then_part elements_part name_part (follows_end _ _ _))

pub children_part : Part AreChildren a_name false nothing
unfolding mark_number word_number
children_part = made_part (λ x. item.Children x.0 x.1) (then_part names_part less_name_part (ends_with nothing (apart _ _ refl)))

pub leaves_in_sort : IsAlternative AreLeaves (marks_of (mark.OpenBrace ∷ [])) nothing IsSort (without begins_sort (marks_of (mark.OpenBrace ∷ []))) nothing
unfolding mark_number word_number
leaves_in_sort = alternative leaves_part (here (first_of children_part)) (covers _ _ refl) (apart _ _ refl) (covers _ _ refl)

pub children_in_sort : IsAlternative AreChildren a_name nothing IsSort (without begins_sort a_name) nothing
unfolding mark_number word_number
children_in_sort = alternative children_part (last leaves_part) (covers _ _ refl) (apart _ _ refl) (covers _ _ refl)

-- ---- the alternatives of `type_item`

pub alias_in_type_item : IsAlternative IsAlias begins_type after_declarator IsTypeItem (without begins_type_item begins_type) after_declarator
unfolding mark_number word_number
alias_in_type_item = alternative alias_part (here (first_or enumeration_part (first_or structure_part (first_of sort_item_part)))) (covers _ _ refl) (apart _ _ refl) (covers _ _ refl)

pub enumeration_in_type_item : IsAlternative IsEnumeration (words_of (reserved.Enum ∷ [])) nothing IsTypeItem (without begins_type_item (words_of (reserved.Enum ∷ []))) after_declarator
unfolding mark_number word_number
enumeration_in_type_item = alternative enumeration_part (later alias_part (here (first_or structure_part (first_of sort_item_part)))) (covers _ _ refl) (apart _ _ refl) (covers _ _ refl)

pub structure_in_type_item : IsAlternative IsStructure (words_of (reserved.Struct ∷ [])) nothing IsTypeItem (without begins_type_item (words_of (reserved.Struct ∷ []))) after_declarator
unfolding mark_number word_number
structure_in_type_item = alternative structure_part (later alias_part (later enumeration_part (here (first_of sort_item_part)))) (covers _ _ refl) (apart _ _ refl) (covers _ _ refl)

pub sort_in_type_item : IsAlternative IsSortItem (words_of (reserved.Sort ∷ [])) nothing IsTypeItem (without begins_type_item (words_of (reserved.Sort ∷ []))) after_declarator
unfolding mark_number word_number
sort_in_type_item = alternative sort_item_part (later alias_part (later enumeration_part (last structure_part))) (covers _ _ refl) (apart _ _ refl) (covers _ _ refl)

-- ---- the alternatives of `slot`

pub index_in_slot : IsAlternative (λ s. Made slot.Index (IsName s)) a_name nothing IsSlot (without begins_slot a_name) nothing
unfolding mark_number word_number
index_in_slot = alternative (made_part slot.Index name_part) (here (first_of fixed_slot_part)) (covers _ _ refl) (apart _ _ refl) (covers _ _ refl)

pub fixed_in_slot : IsAlternative IsFixed a_number nothing IsSlot (without begins_slot a_number) nothing
unfolding mark_number word_number
fixed_in_slot = alternative fixed_slot_part (last (made_part slot.Index name_part)) (covers _ _ refl) (apart _ _ refl) (covers _ _ refl)

-- ---- the alternatives of `definition`

pub plain_in_definition : IsAlternative IsPlainDefinition a_name (list_goes_on after_expression) IsDefinition (without begins_definition a_name) (list_goes_on after_expression)
unfolding mark_number word_number
plain_in_definition = alternative plain_definition_part (here (first_or (memory_definition_part reserved.First def.First) (first_of (memory_definition_part reserved.Next def.Next)))) (covers _ _ refl) (apart _ _ refl) (covers _ _ refl)

pub first_in_definition : IsAlternative (λ s. IsMemoryDefinition s reserved.First def.First) (words_of (reserved.First ∷ [])) after_expression IsDefinition (without begins_definition (words_of (reserved.First ∷ []))) (list_goes_on after_expression)
unfolding mark_number word_number
first_in_definition = alternative (memory_definition_part reserved.First def.First) (later plain_definition_part (here (first_of (memory_definition_part reserved.Next def.Next)))) (covers _ _ refl) (apart _ _ refl) (covers _ _ refl)

pub next_in_definition : IsAlternative (λ s. IsMemoryDefinition s reserved.Next def.Next) (words_of (reserved.Next ∷ [])) after_expression IsDefinition (without begins_definition (words_of (reserved.Next ∷ []))) (list_goes_on after_expression)
unfolding mark_number word_number
next_in_definition = alternative (memory_definition_part reserved.Next def.Next) (later plain_definition_part (last (memory_definition_part reserved.First def.First))) (covers _ _ refl) (apart _ _ refl) (covers _ _ refl)

-- ---- the alternatives of `section`

pub constants_part : Part (λ s. IsSectionOf reserved.Constants section.Constants (IsConstant s)) (words_of (reserved.Constants ∷ [])) false begins_constant
unfolding mark_number word_number
constants_part = resized (covers_same _) (covers _ _ refl) (section_of_part reserved.Constants section.Constants constant_part (apart _ _ refl))

pub types_part : Part (λ s. IsSectionOf reserved.Types section.Types (IsTypeItem s)) (words_of (reserved.Types ∷ [])) false begins_type_item
unfolding mark_number word_number
types_part = resized (covers_same _) (covers _ _ refl) (section_of_part reserved.Types section.Types type_item_part (apart _ _ refl))

pub inputs_part : Part (λ s. IsSectionOf reserved.Inputs section.Inputs (IsDecl s)) (words_of (reserved.Inputs ∷ [])) false begins_type
unfolding mark_number word_number
inputs_part = resized (covers_same _) (covers _ _ refl) (section_of_part reserved.Inputs section.Inputs decl_part (apart _ _ refl))

pub declarations_part : Part (λ s. IsSectionOf reserved.Declarations section.Declarations (IsDecl s)) (words_of (reserved.Declarations ∷ [])) false begins_type
unfolding mark_number word_number
declarations_part = resized (covers_same _) (covers _ _ refl) (section_of_part reserved.Declarations section.Declarations decl_part (apart _ _ refl))

pub definitions_part : Part (λ s. IsSectionOf reserved.Definitions section.Definitions (IsDefinition s)) (words_of (reserved.Definitions ∷ [])) false begins_definition
unfolding mark_number word_number
definitions_part = resized (covers_same _) (covers _ _ refl) (section_of_part reserved.Definitions section.Definitions definition_part (apart _ _ refl))

pub constraints_part : Part (λ s. IsSectionOf reserved.Constraints section.Constraints (IsExpression s)) (words_of (reserved.Constraints ∷ [])) false begins_expression
unfolding mark_number word_number
constraints_part = resized (covers_same _) (covers _ _ refl) (section_of_part reserved.Constraints section.Constraints expression_part (apart _ _ refl))

pub proof_part : Part AreObligations (words_of (reserved.Proof ∷ [])) false begins_expression
unfolding mark_number word_number
proof_part = resized (covers_same _) (covers _ _ refl) obligations_part

pub constants_in_section : IsAlternative (λ s. IsSectionOf reserved.Constants section.Constants (IsConstant s)) (words_of (reserved.Constants ∷ [])) begins_constant IsSection (without begins_section (words_of (reserved.Constants ∷ []))) after_section
unfolding mark_number word_number
constants_in_section = alternative constants_part (here (first_or types_part (first_or inputs_part (first_or declarations_part (first_or definitions_part (first_or constraints_part (first_of proof_part))))))) (covers _ _ refl) (apart _ _ refl) (covers _ _ refl)

pub types_in_section : IsAlternative (λ s. IsSectionOf reserved.Types section.Types (IsTypeItem s)) (words_of (reserved.Types ∷ [])) begins_type_item IsSection (without begins_section (words_of (reserved.Types ∷ []))) after_section
unfolding mark_number word_number
types_in_section = alternative types_part (later constants_part (here (first_or inputs_part (first_or declarations_part (first_or definitions_part (first_or constraints_part (first_of proof_part))))))) (covers _ _ refl) (apart _ _ refl) (covers _ _ refl)

pub inputs_in_section : IsAlternative (λ s. IsSectionOf reserved.Inputs section.Inputs (IsDecl s)) (words_of (reserved.Inputs ∷ [])) begins_type IsSection (without begins_section (words_of (reserved.Inputs ∷ []))) after_section
unfolding mark_number word_number
inputs_in_section = alternative inputs_part (later constants_part (later types_part (here (first_or declarations_part (first_or definitions_part (first_or constraints_part (first_of proof_part))))))) (covers _ _ refl) (apart _ _ refl) (covers _ _ refl)

pub declarations_in_section : IsAlternative (λ s. IsSectionOf reserved.Declarations section.Declarations (IsDecl s)) (words_of (reserved.Declarations ∷ [])) begins_type IsSection (without begins_section (words_of (reserved.Declarations ∷ []))) after_section
unfolding mark_number word_number
declarations_in_section = alternative declarations_part (later constants_part (later types_part (later inputs_part (here (first_or definitions_part (first_or constraints_part (first_of proof_part))))))) (covers _ _ refl) (apart _ _ refl) (covers _ _ refl)

pub definitions_in_section : IsAlternative (λ s. IsSectionOf reserved.Definitions section.Definitions (IsDefinition s)) (words_of (reserved.Definitions ∷ [])) begins_definition IsSection (without begins_section (words_of (reserved.Definitions ∷ []))) after_section
unfolding mark_number word_number
definitions_in_section = alternative definitions_part (later constants_part (later types_part (later inputs_part (later declarations_part (here (first_or constraints_part (first_of proof_part))))))) (covers _ _ refl) (apart _ _ refl) (covers _ _ refl)

pub constraints_in_section : IsAlternative (λ s. IsSectionOf reserved.Constraints section.Constraints (IsExpression s)) (words_of (reserved.Constraints ∷ [])) begins_expression IsSection (without begins_section (words_of (reserved.Constraints ∷ []))) after_section
unfolding mark_number word_number
constraints_in_section = alternative constraints_part (later constants_part (later types_part (later inputs_part (later declarations_part (later definitions_part (here (first_of proof_part))))))) (covers _ _ refl) (apart _ _ refl) (covers _ _ refl)

pub obligations_in_section : IsAlternative AreObligations (words_of (reserved.Proof ∷ [])) begins_expression IsSection (without begins_section (words_of (reserved.Proof ∷ []))) after_section
unfolding mark_number word_number
obligations_in_section = alternative proof_part (later constants_part (later types_part (later inputs_part (later declarations_part (later definitions_part (last constraints_part)))))) (covers _ _ refl) (apart _ _ refl) (covers _ _ refl)

-- ---- the alternatives of `body`

pub over_in_body : (q : Quant) → IsAlternative InParentheses (marks_of (mark.Open ∷ [])) nothing (IsBody q) (without (marks_of (mark.Open ∷ mark.Comma ∷ [])) (marks_of (mark.Open ∷ []))) nothing
unfolding mark_number word_number
over_in_body q = alternative over_part (here (first_of (further_bind_part q))) (covers _ _ refl) (apart _ _ refl) (covers _ _ refl)

pub further_in_body : (q : Quant) → IsAlternative (IsFurther q) (marks_of (mark.Comma ∷ [])) nothing (IsBody q) (without (marks_of (mark.Open ∷ mark.Comma ∷ [])) (marks_of (mark.Comma ∷ []))) nothing
unfolding mark_number word_number
further_in_body q = alternative (further_bind_part q) (last over_part) (covers _ _ refl) (apart _ _ refl) (covers _ _ refl)

-- ---- a quantifier by its word

abbrev pub IsThisQuantifier : Quant → Form Expr
IsThisQuantifier q s = IsQuantifierOf s q

quantifier_in_quantifier : (q : Quant) → IsAlternative (IsThisQuantifier q) (words_of (word_of q ∷ [])) nothing IsQuantifier (without a_quantifier (words_of (word_of q ∷ []))) nothing
quantifier_in_quantifier quant.All = all_in_quantifier
quantifier_in_quantifier quant.Any = any_in_quantifier
quantifier_in_quantifier quant.Sum = sum_in_quantifier

-- what a quantifier of this kind begins with, an operand begins with
begins_some : (q : Quant) → Covers a_quantifier (words_of (word_of q ∷ []))
unfolding word_number mark_number
begins_some quant.All = covers _ _ refl
begins_some quant.Any = covers _ _ refl
begins_some quant.Sum = covers _ _ refl

module _ (q : Quant) {text : List ℕ} {room : ℕ} {old : List Token} where
  pub quantifier_operand_read : {new : List Token} {x : Expr} → IsRead (λ s. IsQuantifierOf s q) nothing text room old new x → IsRead IsOperand after_operand text room old new x
  quantifier_operand_read r = read_as some_quantifier_in_operand (read_as (quantifier_in_quantifier q) r)

  pub quantifier_operand_fails : {fault : SyntaxFault} → Begins (words_of (word_of q ∷ [])) false old → Fails (λ s. IsQuantifierOf s q) nothing text room old fault →
      Fails IsOperand after_operand text room old fault
  quantifier_operand_fails begins f =
      fails_as some_quantifier_in_operand (begins_covered false (begins_some q) old begins) (fails_as (quantifier_in_quantifier q) begins f)
