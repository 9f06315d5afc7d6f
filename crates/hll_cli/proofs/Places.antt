-- Every spelled expression has the place of one of its own tokens, so no place lies beyond all of them.
use Rattle.std.proofs.Common.{◌≡◌, ℕ, zero, suc, ◌≤◌, List, [], ◌∷◌, ◌++◌, Some, None, refl, inl, inr, ap, ◌∙◌, sym, subst}
use Rattle.std.specs.List.{flat_map, AllByRecursion}
use Rattle.hll_lexer.specs.declared.token.Mark.TheVariants as mark
use Rattle.hll_lexer.specs.declared.token.Reserved.{Reserved}
use Rattle.hll_lexer.specs.declared.token.Reserved.TheVariants as reserved
use Rattle.hll_lexer.specs.declared.token.Token.{Token}
use Rattle.hll_tree.specs.declared.tree.Expr.{Expr}
use Rattle.hll_tree.specs.declared.tree.HllModel.{HllModel}
use Rattle.hll_tree.specs.declared.tree.Precedence.{Precedence}
use Rattle.hll_tree.specs.declared.tree.Precedence.TheVariants as precedence
use Rattle.hll_tree.specs.declared.tree.Quant.{Quant}
use Rattle.hll_tree.specs.declared.tree.Quant.TheVariants as quant
use Rattle.hll_tree.specs.declared.tree.Section.{Section}
use Rattle.hll_tree.specs.declared.tree.Section.TheVariants as section
use Rattle.hll_tree.specs.Spells.{Spelling, One, Then, Made, Either, Perhaps, Many, Marked, Before, Limit, Scope, IsName, IsNumber, IsTruth, IsPath, IsParenthesised, IsGroup, IsMinus, IsNot, IsPre, IsLeast, IsGreatest, IsSize, IsQuantifierOf, IsQuantifier, IsPrimary, IsOperand, IsSign, IsComparisonSign, IsLink, chain_of, IsChain, comparison_of, IsComparison, IsOperation, IsChoice, IsExpression, scope, IsConstant, IsTypeItem, IsDecl, IsDefinition, Items, IsSectionOf, IsSection, SpellsUnder}
use Rattle.hll_meaning.specs.Runs.{obligations, obligations_in}
use Rattle.hll_cli.proofs.Columns.{all_front, all_back, all_append}

-- ---- tokens and what they spell

-- no token begins beyond this place
abbrev BeginBy : ℕ → List Token → Type 0
BeginBy n ts = AllByRecursion (λ t. t.from ≤ n) ts

begin_front : (n : ℕ) (ts us vs : List Token) → ts ≡ us ++ vs → BeginBy n ts → BeginBy n us
begin_front n ts us vs spelled h = all_front (λ t. t.from ≤ n) us vs (subst (BeginBy n) spelled h)

begin_back : (n : ℕ) (ts us vs : List Token) → ts ≡ us ++ vs → BeginBy n ts → BeginBy n vs
begin_back n ts us vs spelled h = all_back (λ t. t.from ≤ n) us vs (subst (BeginBy n) spelled h)

-- nor has what they spell a place beyond it
abbrev PlacedBy : {A : Type 0} → ℕ → (A → ℕ) → Spelling A → Type 0
PlacedBy n at P = (ts : List Token) (x : _) → BeginBy n ts → P ts x → at x ≤ n

one_placed : {A : Type 0} (n : ℕ) (at : A → ℕ) (R : Token → A → Type 0) → ((t : Token) (x : A) → R t x → at x ≡ t.from) → PlacedBy n at (One R)
one_placed n at R there ts x h is =
    let all : BeginBy n (is.0 ∷ []) = subst (BeginBy n) is.1 h in
    subst (λ k. k ≤ n) (sym (there is.0 x is.2)) all.0

left_placed : {A B : Type 0} (n : ℕ) (at : A → ℕ) (P : Spelling A) (Q : Spelling B) → PlacedBy n at P → PlacedBy n (λ x. at x.0) (Then P Q)
left_placed n at P Q each ts x h is = each is.0 x.0 (begin_front n ts is.0 is.1 is.2 h) is.3

right_placed : {A B : Type 0} (n : ℕ) (at : B → ℕ) (P : Spelling A) (Q : Spelling B) → PlacedBy n at Q → PlacedBy n (λ x. at x.1) (Then P Q)
right_placed n at P Q each ts x h is = each is.1 x.1 (begin_back n ts is.0 is.1 is.2 h) is.4

made_placed : {A B : Type 0} (n : ℕ) (at : B → ℕ) (f : A → B) (P : Spelling A) → PlacedBy n (λ x. at (f x)) P → PlacedBy n at (Made f P)
made_placed n at f P each ts y h is = subst (λ k. k ≤ n) (sym (ap at is.2)) (each ts is.0 h is.1)

either_placed : {A : Type 0} (n : ℕ) (at : A → ℕ) (P Q : Spelling A) → PlacedBy n at P → PlacedBy n at Q → PlacedBy n at (Either P Q)
either_placed n at P Q p q ts x h (inl is) = p ts x h is
either_placed n at P Q p q ts x h (inr is) = q ts x h is

-- ---- expressions

-- where a token begins
abbrev start : Token → ℕ
start t = t.from

-- where an expression stands
abbrev place : Expr → ℕ
place e = e.at

-- the token that comes first doesn't begin beyond the place
first_begins : (n : ℕ) (ts us vs : List Token) (t : Token) → ts ≡ us ++ vs → us ≡ t ∷ [] → BeginBy n ts → t.from ≤ n
first_begins n ts us vs t spelled first h =
    let all : BeginBy n (t ∷ []) = subst (BeginBy n) first (begin_front n ts us vs spelled h) in
    all.0

number_placed : (n : ℕ) → PlacedBy n place IsNumber
number_placed n = one_placed n place _ (λ t x r. ap place r.2)

truth_placed : (n : ℕ) → PlacedBy n place IsTruth
truth_placed n = one_placed n place _ (λ t x r. ap place r.2)

path_placed : (n : ℕ) (s : Scope) → PlacedBy n place (IsPath s)
path_placed n s = made_placed n place _ _ (left_placed n (λ m. m.at) (IsName s) _ (one_placed n (λ m. m.at) _ (λ t x r. ap (λ m. m.at) r.1)))

module _ (n : ℕ) (s : Scope) (inner : PlacedBy n place s.expression) where
  parenthesised_placed : PlacedBy n place (IsParenthesised s)
  parenthesised_placed =
      made_placed n place _ _ (right_placed n place _ _ (made_placed n place _ _ (left_placed n place _ _ inner)))

  group_placed : PlacedBy n place (IsGroup s)
  group_placed ts e h is = subst (λ k. k ≤ n) (sym (ap place is.2 ∙ ap start is.1.3.2.2)) (first_begins n ts is.1.0 is.1.1 is.1.3.0 is.1.2 is.1.3.1 h)

  minus_placed : PlacedBy n place (IsMinus s)
  minus_placed ts e h is = subst (λ k. k ≤ n) (sym (ap place is.2 ∙ ap start is.1.3.2.2)) (first_begins n ts is.1.0 is.1.1 is.1.3.0 is.1.2 is.1.3.1 h)

  not_placed : PlacedBy n place (IsNot s)
  not_placed ts e h is = subst (λ k. k ≤ n) (sym (ap place is.2 ∙ ap start is.1.3.2.2)) (first_begins n ts is.1.0 is.1.1 is.1.3.0 is.1.2 is.1.3.1 h)

  pre_placed : PlacedBy n place (IsPre s)
  pre_placed ts e h is = subst (λ k. k ≤ n) (sym (ap place is.2 ∙ ap start is.1.3.2.1)) (first_begins n ts is.1.0 is.1.1 is.1.3.0 is.1.2 is.1.3.1 h)

  least_placed : PlacedBy n place (IsLeast s)
  least_placed ts e h is = subst (λ k. k ≤ n) (sym (ap place is.2 ∙ ap start is.1.3.2.1)) (first_begins n ts is.1.0 is.1.1 is.1.3.0 is.1.2 is.1.3.1 h)

  greatest_placed : PlacedBy n place (IsGreatest s)
  greatest_placed ts e h is = subst (λ k. k ≤ n) (sym (ap place is.2 ∙ ap start is.1.3.2.1)) (first_begins n ts is.1.0 is.1.1 is.1.3.0 is.1.2 is.1.3.1 h)

  size_placed : PlacedBy n place (IsSize s)
  size_placed ts e h is = subst (λ k. k ≤ n) (sym (ap place is.2 ∙ ap start is.1.3.2.1)) (first_begins n ts is.1.0 is.1.1 is.1.3.0 is.1.2 is.1.3.1 h)

  quantifier_of_placed : (q : Quant) → PlacedBy n place (IsQuantifierOf s q)
  quantifier_of_placed q ts e h is = subst (λ k. k ≤ n) (sym (ap place is.2 ∙ ap start is.1.3.2.1)) (first_begins n ts is.1.0 is.1.1 is.1.3.0 is.1.2 is.1.3.1 h)

  quantifier_placed : PlacedBy n place (IsQuantifier s)
  quantifier_placed =
      either_placed n place _ _ (quantifier_of_placed quant.All) (either_placed n place _ _ (quantifier_of_placed quant.Any) (quantifier_of_placed quant.Sum))

  primary_placed : PlacedBy n place (IsPrimary s)
  primary_placed =
      either_placed n place _ _ (number_placed n) (either_placed n place _ _ (truth_placed n) (either_placed n place _ _ (path_placed n s)
      (either_placed n place _ _ parenthesised_placed (either_placed n place _ _ group_placed (either_placed n place _ _ quantifier_placed
      (either_placed n place _ _ pre_placed (either_placed n place _ _ least_placed (either_placed n place _ _ greatest_placed size_placed))))))))

  operand_placed : PlacedBy n place (IsOperand s)
  operand_placed = either_placed n place _ _ minus_placed (either_placed n place _ _ not_placed primary_placed)

  choice_placed : PlacedBy n place (IsChoice s)
  choice_placed ts e h is = subst (λ k. k ≤ n) (sym (ap place is.2 ∙ ap start is.1.3.2.2)) (first_begins n ts is.1.0 is.1.1 is.1.3.0 is.1.2 is.1.3.1 h)

-- an operator's right operand is linked at the place of the operator
link_placed : (n : ℕ) (p : Precedence) (Operand : Spelling Expr) → PlacedBy n (λ l. l.at) (IsLink p Operand)
link_placed n p Operand =
    made_placed n (λ l. l.at) _ _ (left_placed n (λ x. x.0.from) (IsSign p) Operand (one_placed n (λ x. x.0.from) _ (λ t x r. ap start r.2)))

chain_placed : (n : ℕ) (p : Precedence) (Operand : Spelling Expr) → PlacedBy n place Operand → PlacedBy n place (IsChain p Operand)
chain_placed n p Operand each = made_placed n place chain_of _ cases
  where
    cases : PlacedBy n (λ x. place (chain_of x)) (Then Operand (Many (IsLink p Operand)))
    cases ts (first, []) h is = left_placed n place Operand (Many (IsLink p Operand)) each ts (first, []) h is
    cases ts (first, link ∷ links) h is =
        let rest = begin_back n ts is.0 is.1 is.2 h in
        link_placed n p Operand is.4.0 link (begin_front n is.1 is.4.0 is.4.1 is.4.2 rest) is.4.3

comparison_placed : (n : ℕ) (Operand : Spelling Expr) → PlacedBy n place Operand → PlacedBy n place (IsComparison Operand)
comparison_placed n Operand each = made_placed n place comparison_of _ cases
  where
    sign : PlacedBy n (λ x. x.0.from) IsComparisonSign
    sign = one_placed n (λ x. x.0.from) _ (λ t x r. ap start r.1)

    cases : PlacedBy n (λ x. place (comparison_of x)) (Then Operand (Perhaps (Then IsComparisonSign Operand)))
    cases ts (left, None) h is = left_placed n place Operand (Perhaps (Then IsComparisonSign Operand)) each ts (left, None) h is
    cases ts (left, Some x) h is =
        left_placed n (λ x. x.0.from) IsComparisonSign Operand sign is.1 x (begin_back n ts is.0 is.1 is.2 h) is.4

operation_placed : (n : ℕ) (Operand : Spelling Expr) → PlacedBy n place Operand → PlacedBy n place (IsOperation Operand)
operation_placed n Operand each =
    chain_placed n precedence.Equivalence _ (chain_placed n precedence.Implication _ (chain_placed n precedence.Disjunction _
    (chain_placed n precedence.Conjunction _ (comparison_placed n _ (chain_placed n precedence.Sum _ (chain_placed n precedence.Product Operand each))))))

expression_placed : (n : ℕ) (s : Scope) → PlacedBy n place s.expression → PlacedBy n place (IsExpression s)
expression_placed n s inner = either_placed n place _ _ (choice_placed n s inner) (operation_placed n (IsOperand s) (operand_placed n s inner))

inside_placed : (n : ℕ) (text : List ℕ) (limit : Limit) (room depth : ℕ) → PlacedBy n place (scope text limit room depth).expression
unfolding scope
inside_placed n text limit zero depth ts e h is = absurd is
inside_placed n text limit (suc room) depth ts e h is =
    expression_placed n (scope text limit room (suc depth)) (inside_placed n text limit room (suc depth)) ts e h is

-- ---- sections

each_placed : (n : ℕ) (P : Spelling Expr) → PlacedBy n place P → (ts : List Token) (es : List Expr) → BeginBy n ts → Items P ts es → AllByRecursion (λ e. e.at ≤ n) es
each_placed n P each ts [] h is = tt
each_placed n P each ts (e ∷ es) h is =
    let ended : PlacedBy n place (Before P (Marked mark.Semicolon)) = made_placed n place _ _ (left_placed n place P _ each) in
    (ended is.0 e (begin_front n ts is.0 is.1 is.2 h) is.3, each_placed n P each is.1 es (begin_back n ts is.0 is.1 is.2 h) is.4)

-- the obligations of a section do not stand beyond the place
abbrev ObligationsBy : ℕ → Section → Type 0
ObligationsBy n x = AllByRecursion (λ e. e.at ≤ n) (obligations_in x)

-- the items of a section
module _ {A : Type 0} (n : ℕ) (made : List A → Section) (P : Spelling A) (w : Reserved) (ts : List Token) (x : Section) (is : IsSectionOf w made P ts x) where
  abbrev listed : List A
  listed = is.1.4.1.4.0

  made_of : x ≡ made listed
  made_of = is.2 ∙ is.1.4.2 ∙ is.1.4.1.4.2

  -- a section of another kind has no obligations
  other_section : ((xs : List A) → obligations_in (made xs) ≡ []) → ObligationsBy n x
  other_section none = subst (AllByRecursion (λ e. e.at ≤ n)) (sym (ap obligations_in made_of ∙ none listed)) tt

  -- the tokens of the items
  items_by : BeginBy n ts → BeginBy n is.1.4.1.1
  items_by h = begin_back n is.1.1 is.1.4.1.0 is.1.4.1.1 is.1.4.1.2 (begin_back n ts is.1.0 is.1.1 is.1.2 h)

obligation_section : (n : ℕ) (P : Spelling Expr) → PlacedBy n place P → (ts : List Token) (x : Section) → BeginBy n ts →
    IsSectionOf reserved.Obligations section.Obligations P ts x → ObligationsBy n x
obligation_section n P each ts x h is =
    subst (ObligationsBy n) (sym (made_of n section.Obligations P reserved.Obligations ts x is))
    (each_placed n P each is.1.4.1.1 is.1.4.1.4.0 (items_by n section.Obligations P reserved.Obligations ts x is h) is.1.4.1.4.1)

section_placed : (n : ℕ) (s : Scope) → PlacedBy n place s.expression → (ts : List Token) (x : Section) → BeginBy n ts → IsSection s ts x → ObligationsBy n x
section_placed n s inner ts x h (inl is) = other_section n section.Constants (IsConstant s) reserved.Constants ts x is (λ xs. refl)
section_placed n s inner ts x h (inr (inl is)) = other_section n section.Types (IsTypeItem s) reserved.Types ts x is (λ xs. refl)
section_placed n s inner ts x h (inr (inr (inl is))) = other_section n section.Inputs (IsDecl s) reserved.Inputs ts x is (λ xs. refl)
section_placed n s inner ts x h (inr (inr (inr (inl is)))) = other_section n section.Declarations (IsDecl s) reserved.Declarations ts x is (λ xs. refl)
section_placed n s inner ts x h (inr (inr (inr (inr (inl is))))) = other_section n section.Definitions (IsDefinition s) reserved.Definitions ts x is (λ xs. refl)
section_placed n s inner ts x h (inr (inr (inr (inr (inr (inl is)))))) = other_section n section.Constraints (IsExpression s) reserved.Constraints ts x is (λ xs. refl)
section_placed n s inner ts x h (inr (inr (inr (inr (inr (inr is)))))) =
    subst (ObligationsBy n) (sym is.2)
    (obligation_section n (IsExpression s) (expression_placed n s inner) is.1.1 is.0.1 (begin_back n ts is.1.0 is.1.1 is.1.2 h) is.1.4)

sections_placed : (n : ℕ) (s : Scope) → PlacedBy n place s.expression → (ts : List Token) (sections : List Section) → BeginBy n ts →
    Many (IsSection s) ts sections → AllByRecursion (λ e. e.at ≤ n) (flat_map obligations_in sections)
sections_placed n s inner ts [] h is = tt
sections_placed n s inner ts (x ∷ sections) h is =
    all_append (λ e. e.at ≤ n) (obligations_in x) (flat_map obligations_in sections)
    (section_placed n s inner is.0 x (begin_front n ts is.0 is.1 is.2 h) is.3)
    (sections_placed n s inner is.1 sections (begin_back n ts is.0 is.1 is.2 h) is.4)

-- where no token begins beyond a place, no obligation that they spell is beyond it
pub places_within : (limit : Limit) (text : List ℕ) (ts : List Token) (m : HllModel) (n : ℕ) → AllByRecursion (λ t. t.from ≤ n) ts →
    SpellsUnder limit text ts m → AllByRecursion (λ e. e.at ≤ n) (obligations m)
places_within limit text ts m n h is =
    subst (λ (k : HllModel). AllByRecursion (λ e. e.at ≤ n) (obligations k)) (sym is.1.2)
    (sections_placed n (scope text limit is.0 0) (inside_placed n text limit is.0 0) ts is.1.0 h is.1.1)
