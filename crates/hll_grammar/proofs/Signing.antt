-- The marks of operators and of comparisons.
use Rattle.std.proofs.Common.{◌≡◌, ℕ, Bool, true, false, List, [], ◌∷◌, Option, Some, None, refl, sym, ◌∙◌, ap, subst, ⊎_elim}
use Rattle.std.proofs.lemmas.Bool.{false≢true, eqb-true, or_cases}
use Rattle.std.specs.Prelude.{◌==◌}
use Rattle.hll_lexer.specs.declared.token.Mark.{Mark}
use Rattle.hll_lexer.specs.declared.token.Mark.TheVariants as mark
use Rattle.hll_lexer.specs.declared.token.Token.{Token}
use Rattle.hll_lexer.specs.declared.token.TokenKind.{TokenKind}
use Rattle.hll_lexer.specs.declared.token.TokenKind.TheVariants as kind
use Rattle.hll_tree.specs.declared.tree.Cmp.{Cmp}
use Rattle.hll_tree.specs.declared.tree.Op.{Op}
use Rattle.hll_tree.specs.declared.tree.Op.TheVariants as op
use Rattle.hll_tree.specs.declared.tree.Precedence.{Precedence}
use Rattle.hll_tree.specs.declared.tree.Precedence.TheVariants as precedence
use Rattle.hll_tree.specs.Spells.{precedence_of}
use Rattle.hll_grammar.specs.Lookahead.{Kinds, holds, marks_of, signs, comparison_signs, mark_number}
use Rattle.hll_grammar.specs.Reading.{Stops}
use Rattle.hll_grammar.specs.Signs.{operator_of, operator_of_kind, comparison_of, comparison_of_kind}
use Rattle.hll_grammar.proofs.Numbers.{mark_by_number}

-- so of each mark of a list
abbrev Each : (Mark → Type 0) → List Mark → Type 0
Each P [] = Unit {0}
Each P (m ∷ ms) = P m × Each P ms

-- what is so of each mark of a list is so of a mark that it holds
each_mark : (P : Mark → Type 0) (ms : List Mark) → Each P ms → (m : Mark) → holds (marks_of ms) (kind.Mark m) ≡ true → P m
each_mark P [] all m h = absurd (false≢true h)
each_mark P (n ∷ ns) all m h =
    ⊎_elim
    (λ (is : (mark_number n == mark_number m) ≡ true). subst P (mark_by_number n m (eqb-true (mark_number n) (mark_number m) is)) all.0)
    (λ more. each_mark P ns all.1 m more)
    (or_cases _ _ h)

is_false : (b : Bool) → (b ≡ true → ⊥) → b ≡ false
is_false true isn't = absurd (isn't refl)
is_false false isn't = refl

the_value : {A : Type 0} (x y : A) → Some x ≡ Some y → x ≡ y
the_value x y e = cc

-- the operator of a mark that binds so binds so
IsSignOf : Precedence → Mark → Type 0
IsSignOf p m = (operator_of m ≡ None → ⊥) × ((o : Op) → operator_of m ≡ Some o → precedence_of o ≡ p)

one_sign : (p : Precedence) (m : Mark) (o : Op) → operator_of m ≡ Some o → precedence_of o ≡ p → IsSignOf p m
unfolding IsSignOf
one_sign p m o is binds = (λ none. cc, λ o' is'. subst (λ (x : Op). precedence_of x ≡ p) (the_value o o' (sym is ∙ is')) binds)

signs_are : (p : Precedence) → Each (IsSignOf p) (signs p)
signs_are precedence.Equivalence = (one_sign _ mark.Same op.Same refl refl, (one_sign _ mark.Differ op.Differ refl refl, tt))
signs_are precedence.Implication = (one_sign _ mark.Implies op.Implies refl refl, tt)
signs_are precedence.Disjunction = (one_sign _ mark.Or op.Or refl refl, tt)
signs_are precedence.Conjunction = (one_sign _ mark.And op.And refl refl, tt)
signs_are precedence.Sum = (one_sign _ mark.Plus op.Plus refl refl, (one_sign _ mark.Minus op.Less refl refl, tt))
signs_are precedence.Product = (one_sign _ mark.Times op.Times refl refl, (one_sign _ mark.Over op.Over refl refl, (one_sign _ mark.Rest op.Rest refl refl, tt)))

no_operator : (p : Precedence) (k : TokenKind) → operator_of_kind k ≡ None → holds (marks_of (signs p)) k ≡ false
unfolding IsSignOf
no_operator p kind.Name e = refl
no_operator p (kind.Number n) e = refl
no_operator p (kind.Reserved w) e = refl
no_operator p (kind.Mark m) e = is_false _ (λ h. (each_mark (IsSignOf p) (signs p) (signs_are p) m h).0 e)

other_operator : (p : Precedence) (k : TokenKind) (o : Op) → operator_of_kind k ≡ Some o → (precedence_of o ≡ p → ⊥) → holds (marks_of (signs p)) k ≡ false
unfolding IsSignOf
other_operator p kind.Name o e isn't = refl
other_operator p (kind.Number n) o e isn't = refl
other_operator p (kind.Reserved w) o e isn't = refl
other_operator p (kind.Mark m) o e isn't = is_false _ (λ h. isn't ((each_mark (IsSignOf p) (signs p) (signs_are p) m h).1 o e))

-- a mark that is no comparison isn't among the marks of comparisons
comparisons_are : Each (λ m. comparison_of m ≡ None → ⊥) comparison_signs
comparisons_are = ((λ e. cc), ((λ e. cc), ((λ e. cc), ((λ e. cc), ((λ e. cc), ((λ e. cc), tt))))))

no_comparison : (k : TokenKind) → comparison_of_kind k ≡ None → holds (marks_of comparison_signs) k ≡ false
no_comparison kind.Name e = refl
no_comparison (kind.Number n) e = refl
no_comparison (kind.Reserved w) e = refl
no_comparison (kind.Mark m) e = is_false _ (λ h. each_mark (λ m. comparison_of m ≡ None → ⊥) comparison_signs comparisons_are m h e)

stops_at_first : (kinds : Kinds) (ts : List Token) (t : Token) (us : List Token) → ts ≡ t ∷ us → holds kinds t.kind ≡ false → Stops kinds ts
stops_at_first kinds ts t us e h = subst (Stops kinds) (sym e) h

pub no_sign : (p : Precedence) (ts : List Token) (t : Token) (us : List Token) → ts ≡ t ∷ us → operator_of_kind t.kind ≡ None → Stops (marks_of (signs p)) ts
no_sign p ts t us e none = stops_at_first (marks_of (signs p)) ts t us e (no_operator p t.kind none)

pub other_sign : (p : Precedence) (ts : List Token) (t : Token) (us : List Token) (o : Op) → ts ≡ t ∷ us → operator_of_kind t.kind ≡ Some o → (precedence_of o ≡ p → ⊥) →
    Stops (marks_of (signs p)) ts
other_sign p ts t us o e is isn't = stops_at_first (marks_of (signs p)) ts t us e (other_operator p t.kind o is isn't)

pub no_comparison_sign : (ts : List Token) (t : Token) (us : List Token) → ts ≡ t ∷ us → comparison_of_kind t.kind ≡ None → Stops (marks_of comparison_signs) ts
no_comparison_sign ts t us e none = stops_at_first (marks_of comparison_signs) ts t us e (no_comparison t.kind none)
