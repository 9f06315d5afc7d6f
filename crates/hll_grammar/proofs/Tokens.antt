-- The parts that are one token.
use Rattle.std.proofs.Common.{◌≡◌, ℤ, pos, Bool, true, false, [], ◌∷◌, refl, sym, ◌∙◌, ap, subst}
use Rattle.std.specs.Prelude.{IsTrue}
use Rattle.hll_lexer.specs.declared.token.Mark.{Mark}
use Rattle.hll_lexer.specs.declared.token.Mark.TheVariants as mark
use Rattle.hll_lexer.specs.declared.token.Reserved.TheVariants as reserved
use Rattle.hll_lexer.specs.declared.token.Token.{Token}
use Rattle.hll_lexer.specs.declared.token.TokenKind.TheVariants as kind
use Rattle.hll_tree.specs.declared.tree.Cmp.{Cmp}
use Rattle.hll_tree.specs.declared.tree.Cmp.TheVariants as cmp
use Rattle.hll_tree.specs.declared.tree.Form.TheVariants as form
use Rattle.hll_tree.specs.declared.tree.Op.{Op}
use Rattle.hll_tree.specs.declared.tree.Op.TheVariants as op
use Rattle.hll_tree.specs.declared.tree.Precedence.{Precedence}
use Rattle.hll_tree.specs.declared.tree.Precedence.TheVariants as precedence
use Rattle.hll_tree.specs.declared.tree.Slot.TheVariants as slot
use Rattle.hll_tree.specs.Spells.{One, IsName, IsNumber, IsTruth, IsTruthWord, IsBoundName, IsIf, IsSign, IsComparisonSign, name_at, expression_at, mark_of, precedence_of, mark_of_comparison}
use Rattle.hll_grammar.specs.Lookahead.{Kinds, holds, nothing, a_name, a_number, marks_of, words_of, signs, comparison_signs, mark_number, word_number}
use Rattle.hll_grammar.proofs.Parts.{Part}
use Rattle.hll_grammar.proofs.Combined.{one_part, token_at, holds_word}

-- ---- names and numbers

pub name_part : Part IsName a_name false nothing
name_part = one_part (λ s t x. (t.kind ≡ kind.Name) × (x ≡ name_at s.text t))
    (λ s t x is. subst (λ c. holds a_name c ≡ true) (sym is.0) refl)
    (λ s t x y is is'. is.1 ∙ sym is'.1)
    (λ s s' w t x is. (is.0, is.1 ∙ ap (λ text. name_at text t) w.text))
    (λ s roomy. let t = token_at 0 kind.Name in (t, name_at s.text t, (refl, refl)))

pub bound_name_part : Part IsBoundName a_name false nothing
bound_name_part = one_part (λ s t x. (t.kind ≡ kind.Name) × IsTrue (s.may_open t) × (x ≡ name_at s.text t))
    (λ s t x is. subst (λ c. holds a_name c ≡ true) (sym is.0) refl)
    (λ s t x y is is'. is.2 ∙ sym is'.2)
    (λ s s' w t x is. (is.0, w.may_open t is.1, is.2 ∙ ap (λ text. name_at text t) w.text))
    (λ s roomy. let t = token_at roomy.place kind.Name in (t, name_at s.text t, (refl, roomy.may_open t refl, refl)))

same_number : (n m : ℤ) → kind.Number n ≡ kind.Number m → n ≡ m
same_number n m e = cc

pub number_part : Part (λ s. IsNumber) a_number false nothing
number_part = one_part (λ s t x. (n : ℤ) × (t.kind ≡ kind.Number n) × (x ≡ expression_at t (form.Number n)))
    (λ s t x is. subst (λ c. holds a_number c ≡ true) (sym is.1) refl)
    (λ s t x y is is'. is.2 ∙ ap (λ n. expression_at t (form.Number n)) (same_number is.0 is'.0 (sym is.1 ∙ is'.1)) ∙ sym is'.2)
    (λ s s' w t x is. is)
    (λ s roomy. let t = token_at 0 (kind.Number (pos 0)) in (t, expression_at t (form.Number (pos 0)), (pos 0, refl, refl)))

pub fixed_slot_part : Part (λ s. One (λ t x. (n : ℤ) × (t.kind ≡ kind.Number n) × (x ≡ slot.Fixed t.from n))) a_number false nothing
fixed_slot_part = one_part (λ s t x. (n : ℤ) × (t.kind ≡ kind.Number n) × (x ≡ slot.Fixed t.from n))
    (λ s t x is. subst (λ c. holds a_number c ≡ true) (sym is.1) refl)
    (λ s t x y is is'. is.2 ∙ ap (λ n. slot.Fixed t.from n) (same_number is.0 is'.0 (sym is.1 ∙ is'.1)) ∙ sym is'.2)
    (λ s s' w t x is. is)
    (λ s roomy. let t = token_at 0 (kind.Number (pos 0)) in (t, slot.Fixed t.from (pos 0), (pos 0, refl, refl)))

-- ---- words

-- the words for truth values
abbrev pub a_truth : Kinds
a_truth = words_of (reserved.True ∷ reserved.False ∷ [])

truth_begins : (t : Token) (value : Bool) → IsTruthWord t value → holds a_truth t.kind ≡ true
unfolding word_number
truth_begins t true is = subst (λ c. holds a_truth c ≡ true) (sym is) refl
truth_begins t false is = subst (λ c. holds a_truth c ≡ true) (sym is) refl

same_truth : (t : Token) (value value' : Bool) → IsTruthWord t value → IsTruthWord t value' → value ≡ value'
same_truth t true true is is' = refl
same_truth t true false is is' = cc
same_truth t false true is is' = cc
same_truth t false false is is' = refl

pub truth_part : Part (λ s. IsTruth) a_truth false nothing
truth_part = one_part (λ s t x. (value : Bool) × IsTruthWord t value × (x ≡ expression_at t (form.Truth value)))
    (λ s t x is. truth_begins t is.0 is.1)
    (λ s t x y is is'. is.2 ∙ ap (λ value. expression_at t (form.Truth value)) (same_truth t is.0 is'.0 is.1 is'.1) ∙ sym is'.2)
    (λ s s' w t x is. is)
    (λ s roomy. let t = token_at 0 (kind.Reserved reserved.True) in (t, expression_at t (form.Truth true), (true, refl, refl)))

pub if_part : Part IsIf (words_of (reserved.If ∷ [])) false nothing
if_part = one_part (λ s t x. (t.kind ≡ kind.Reserved reserved.If) × IsTrue (s.may_open t) × (x ≡ t))
    (λ s t x is. subst (λ c. holds (words_of (reserved.If ∷ [])) c ≡ true) (sym is.0) (holds_word reserved.If))
    (λ s t x y is is'. is.2 ∙ sym is'.2)
    (λ s s' w t x is. (is.0, w.may_open t is.1, is.2))
    (λ s roomy. let t = token_at roomy.place (kind.Reserved reserved.If) in (t, t, (refl, roomy.may_open t refl, refl)))

-- ---- signs

same_mark : (m n : Mark) → kind.Mark m ≡ kind.Mark n → m ≡ n
same_mark m n e = cc

-- the operator of a mark, and any for other marks
op_of : Mark → Op
op_of mark.Same = op.Same
op_of mark.Differ = op.Differ
op_of mark.Implies = op.Implies
op_of mark.Or = op.Or
op_of mark.And = op.And
op_of mark.Plus = op.Plus
op_of mark.Minus = op.Less
op_of mark.Times = op.Times
op_of mark.Over = op.Over
op_of mark.Rest = op.Rest
op_of _ = op.Same

op_back : (o : Op) → op_of (mark_of o) ≡ o
unfolding op_of
op_back op.Same = refl
op_back op.Differ = refl
op_back op.Implies = refl
op_back op.Or = refl
op_back op.And = refl
op_back op.Plus = refl
op_back op.Less = refl
op_back op.Times = refl
op_back op.Over = refl
op_back op.Rest = refl

same_op : (o o' : Op) → mark_of o ≡ mark_of o' → o ≡ o'
same_op o o' e = sym (op_back o) ∙ ap op_of e ∙ op_back o'

sign_begins : (o : Op) → holds (marks_of (signs (precedence_of o))) (kind.Mark (mark_of o)) ≡ true
unfolding mark_number
sign_begins op.Same = refl
sign_begins op.Differ = refl
sign_begins op.Implies = refl
sign_begins op.Or = refl
sign_begins op.And = refl
sign_begins op.Plus = refl
sign_begins op.Less = refl
sign_begins op.Times = refl
sign_begins op.Over = refl
sign_begins op.Rest = refl

some_sign : (p : Precedence) → (o : Op) × (precedence_of o ≡ p)
some_sign precedence.Equivalence = (op.Same, refl)
some_sign precedence.Implication = (op.Implies, refl)
some_sign precedence.Disjunction = (op.Or, refl)
some_sign precedence.Conjunction = (op.And, refl)
some_sign precedence.Sum = (op.Plus, refl)
some_sign precedence.Product = (op.Times, refl)

pub sign_part : (p : Precedence) → Part (λ s. IsSign p) (marks_of (signs p)) false nothing
sign_part p = one_part (λ s t x. (t.kind ≡ kind.Mark (mark_of x.1)) × (precedence_of x.1 ≡ p) × (x.0 ≡ t))
    (λ s t x is. subst (λ c. holds (marks_of (signs p)) c ≡ true) (sym is.0)
    (subst (λ q. holds (marks_of (signs q)) (kind.Mark (mark_of x.1)) ≡ true) is.1 (sign_begins x.1)))
    (λ s t x y is is'. let o = same_op x.1 y.1 (same_mark (mark_of x.1) (mark_of y.1) (sym is.0 ∙ is'.0)) in let at = is.2 ∙ sym is'.2 in λ i. (at i, o i))
    (λ s s' w t x is. is)
    (λ s roomy. let o = some_sign p in let t = token_at 0 (kind.Mark (mark_of o.0)) in (t, (t, o.0), (refl, o.1, refl)))

-- the comparison of a mark, and any for other marks
cmp_of : Mark → Cmp
cmp_of mark.Equal = cmp.Eq
cmp_of mark.Unequal = cmp.Ne
cmp_of mark.Less = cmp.Lt
cmp_of mark.LessEqual = cmp.Le
cmp_of mark.Greater = cmp.Gt
cmp_of mark.GreaterEqual = cmp.Ge
cmp_of _ = cmp.Eq

cmp_back : (c : Cmp) → cmp_of (mark_of_comparison c) ≡ c
unfolding cmp_of
cmp_back cmp.Eq = refl
cmp_back cmp.Ne = refl
cmp_back cmp.Lt = refl
cmp_back cmp.Le = refl
cmp_back cmp.Gt = refl
cmp_back cmp.Ge = refl

same_cmp : (c c' : Cmp) → mark_of_comparison c ≡ mark_of_comparison c' → c ≡ c'
same_cmp c c' e = sym (cmp_back c) ∙ ap cmp_of e ∙ cmp_back c'

comparison_begins : (c : Cmp) → holds (marks_of comparison_signs) (kind.Mark (mark_of_comparison c)) ≡ true
unfolding mark_number
comparison_begins cmp.Eq = refl
comparison_begins cmp.Ne = refl
comparison_begins cmp.Lt = refl
comparison_begins cmp.Le = refl
comparison_begins cmp.Gt = refl
comparison_begins cmp.Ge = refl

pub comparison_sign_part : Part (λ s. IsComparisonSign) (marks_of comparison_signs) false nothing
comparison_sign_part = one_part (λ s t x. (t.kind ≡ kind.Mark (mark_of_comparison x.1)) × (x.0 ≡ t))
    (λ s t x is. subst (λ c. holds (marks_of comparison_signs) c ≡ true) (sym is.0) (comparison_begins x.1))
    (λ s t x y is is'. let c = same_cmp x.1 y.1 (same_mark (mark_of_comparison x.1) (mark_of_comparison y.1) (sym is.0 ∙ is'.0)) in let at = is.1 ∙ sym is'.1 in λ i. (at i, c i))
    (λ s s' w t x is. is)
    (λ s roomy. let t = token_at 0 (kind.Mark mark.Equal) in (t, (t, cmp.Eq), (refl, refl)))
