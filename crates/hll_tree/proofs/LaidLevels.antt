-- Expressions as they are printed where a level is wanted.
use Rattle.std.proofs.Common.{◌≡◌, ℕ, zero, suc, ◌≤◌, Bool, true, false, eqb, List, [], ◌∷◌, ◌++◌, map, None, ◌⊎◌, inl, inr, refl, sym, ap, subst, ◌∙◌, arith, codes, append-nil, pos}
use Rattle.std.specs.Prelude.{nat_lt, if◌then◌else◌, IsTrue}
use Rattle.std.specs.List.{flat_map, AllByRecursion}
use Rattle.std.proofs.lemmas.Bool.{ltb-true, ltb-false, both_ways}
use Rattle.hll_lexer.specs.Pieces.{Stops, greatest}
use Rattle.hll_lexer.specs.Words.{continues_word}
use Rattle.hll_lexer.specs.declared.token.Mark.{Mark}
use Rattle.hll_lexer.specs.declared.token.Mark.TheVariants as mark
use Rattle.hll_lexer.specs.declared.token.Token.{Token}
use Rattle.hll_lexer.specs.declared.token.TokenKind.TheVariants as kind
use Rattle.hll_lexer.proofs.SeamLemmas.{extends}
use Rattle.hll_tree.specs.declared.tree.Expr.{Expr}
use Rattle.hll_tree.specs.declared.tree.Form.{Form, Number, Path, out-Form}
use Rattle.hll_tree.specs.declared.tree.Form.TheVariants.{outs-Number, outs-Path}
use Rattle.hll_tree.specs.declared.tree.Name.{Name}
use Rattle.hll_tree.specs.declared.tree.Precedence.{Precedence}
use Rattle.hll_tree.specs.declared.tree.Precedence.TheVariants as precedence
use Rattle.hll_tree.specs.Printing.{Text, Printed, printed, at_level, is_bare, is_bare_form}
use Rattle.hll_tree.specs.Spells.{Spelling, Scope, scope, Opening, Enclosed, IsChain, IsComparison, IsOperand, IsExpression, Many}
use Rattle.hll_tree.specs.WithoutPlaces.{expression_without}
use Rattle.hll_tree.proofs.Laid.{InText, Laid, Any, never, never_stops, laid_behind, laid_before, laid_weaker, laid_narrower, laid_nil, laid_cons}
use Rattle.hll_tree.proofs.LaidTokens.{IsNameText, token_there, mark_text, IsClosed, closed_also, laid_marked, laid_mark, close_closed, open_closed}

-- ---- spellings by level

abbrev pub IsProduct : Scope → Spelling Expr
IsProduct s = IsChain precedence.Product (IsOperand s)

abbrev pub IsSum : Scope → Spelling Expr
IsSum s = IsChain precedence.Sum (IsProduct s)

abbrev pub IsCompared : Scope → Spelling Expr
IsCompared s = IsComparison (IsSum s)

abbrev pub IsConjunction : Scope → Spelling Expr
IsConjunction s = IsChain precedence.Conjunction (IsCompared s)

abbrev pub IsDisjunction : Scope → Spelling Expr
IsDisjunction s = IsChain precedence.Disjunction (IsConjunction s)

abbrev pub IsImplication : Scope → Spelling Expr
IsImplication s = IsChain precedence.Implication (IsDisjunction s)

abbrev pub IsEquivalence : Scope → Spelling Expr
IsEquivalence s = IsChain precedence.Equivalence (IsImplication s)

-- what is spelled where a level is wanted
abbrev pub IsAt : Scope → ℕ → Spelling Expr
IsAt s zero = IsExpression s
IsAt s (suc zero) = IsEquivalence s
IsAt s (suc (suc zero)) = IsImplication s
IsAt s (suc (suc (suc zero))) = IsDisjunction s
IsAt s (suc (suc (suc (suc zero)))) = IsConjunction s
IsAt s (suc (suc (suc (suc (suc zero))))) = IsCompared s
IsAt s (suc (suc (suc (suc (suc (suc zero)))))) = IsSum s
IsAt s (suc (suc (suc (suc (suc (suc (suc zero))))))) = IsProduct s
IsAt s (suc (suc (suc (suc (suc (suc (suc (suc n)))))))) = IsOperand s

-- an operand alone is a chain, and a comparison
pub chain_alone : (p : Precedence) (Operand : Spelling Expr) (ts : List Token) (e : Expr) → Operand ts e → IsChain p Operand ts e
chain_alone p Operand ts e is = ((e, []), (ts, [], sym (append-nil ts), is, refl), refl)

pub comparison_alone : (Operand : Spelling Expr) (ts : List Token) (e : Expr) → Operand ts e → IsComparison Operand ts e
comparison_alone Operand ts e is = ((e, None), (ts, [], sym (append-nil ts), is, refl), refl)

step_down : (s : Scope) (n : ℕ) → suc n ≤ 8 → (ts : List Token) (e : Expr) → IsAt s (suc n) ts e → IsAt s n ts e
step_down s zero h ts e is = inr is
step_down s (suc zero) h ts e is = chain_alone precedence.Equivalence (IsImplication s) ts e is
step_down s (suc (suc zero)) h ts e is = chain_alone precedence.Implication (IsDisjunction s) ts e is
step_down s (suc (suc (suc zero))) h ts e is = chain_alone precedence.Disjunction (IsConjunction s) ts e is
step_down s (suc (suc (suc (suc zero)))) h ts e is = chain_alone precedence.Conjunction (IsCompared s) ts e is
step_down s (suc (suc (suc (suc (suc zero))))) h ts e is = comparison_alone (IsSum s) ts e is
step_down s (suc (suc (suc (suc (suc (suc zero)))))) h ts e is = chain_alone precedence.Sum (IsProduct s) ts e is
step_down s (suc (suc (suc (suc (suc (suc (suc zero))))))) h ts e is = chain_alone precedence.Product (IsOperand s) ts e is
step_down s (suc (suc (suc (suc (suc (suc (suc (suc n)))))))) h ts e is = absurd (omega arith)

below_or_same : (w n : ℕ) → w ≤ suc n → (w ≡ suc n) ⊎ (w ≤ n)
below_or_same w n h = grind arith

-- what holds together more tightly may stand
pub looser : (s : Scope) (n w : ℕ) → w ≤ n → n ≤ 8 → (ts : List Token) (e : Expr) → IsAt s n ts e → IsAt s w ts e
looser s zero w h k ts e is =
    let same : w ≡ 0 = omega arith in
    subst (λ (v : ℕ). IsAt s v ts e) (sym same) is
looser s (suc n) w h k ts e is = elim (below_or_same w n h) [
  | inl same ↦ subst (λ (v : ℕ). IsAt s v ts e) (sym same) is
  | inr less ↦ looser s n w less (omega arith) ts e (step_down s n k ts e is)
]

-- ---- first bytes

-- these bytes begin with one that doesn't go on with `-`
pub record Begins (t : Text) : Type 0 where
  pub byte : ℕ
  pub after : Text
  pub whole : t ≡ byte ∷ after
  pub apart : eqb byte 62 ≡ false

pub begins_before : (t u : Text) → Begins t → Begins (t ++ u)
begins_before t u b = record { byte = b.byte; after = b.after ++ u; whole = ap (λ (s : Text). s ++ u) b.whole; apart = b.apart }

-- ---- scopes

-- inside so many levels of a text, with room for so many more, and no limit
abbrev pub inside : ℕ → ℕ → Text → Scope
inside room depth w = scope w (λ t level. true) room depth

pub laid_opening : (m : Mark) → IsClosed m → (room depth : ℕ) → Laid never (mark_text m) (λ w. Opening (inside (suc room) depth w) m) Any
unfolding scope
laid_opening m closed room depth =
    laid_narrower (extends (mark_text m)) never (mark_text m) (closed_also m closed)
    (laid_marked m (λ w t x. (t.kind ≡ kind.Mark m) × IsTrue ((inside (suc room) depth w).may_open t) × (x ≡ t)) Any
    (λ front rest. (token_there (kind.Mark m) front (mark_text m), (refl, refl, refl), tt)))

-- between two marks of which the first opens a level
pub laid_enclosed : {A : Type 0} {P : InText A} {R : A → Type 0} (m n : Mark) → IsClosed m → IsClosed n → (room depth : ℕ) (p : ℕ → Bool) (t : Text) → ((rest : Text) → Stops p (mark_text n ++ rest)) →
    Laid p t P R → Laid never (mark_text m ++ (t ++ mark_text n)) (λ w. Enclosed (inside (suc room) depth w) m n (P w)) R
laid_enclosed m n opens closes room depth p t ends a =
    laid_behind never never (mark_text m) (t ++ mark_text n) (laid_opening m opens room depth)
    (laid_before p never t (mark_text n) a (laid_mark n closes) (λ rest h. ends rest))
    (λ rest h. never_stops (t ++ mark_text n ++ rest))

-- ---- expressions

-- equal to an expression but for places
abbrev pub Same : Expr → Expr → Type 0
Same e y = expression_without y ≡ expression_without e

-- a number, or a name alone, that can be printed
pub data IsBare (e : Expr) : Type 0 where
  bare_number : (k : ℕ) → k ≤ greatest → e.form ≡ Number (pos k) → IsBare e
  bare_name : (m : Name) → IsNameText m.text → e.form ≡ Path m [] → IsBare e

pub not_bare : (e : Expr) (f : Form) → e.form ≡ f → is_bare_form (out-Form f) ≡ false → is_bare e ≡ true → IsBare e
not_bare e f is other h = absurd (both_ways (is_bare e) (ap (λ g. is_bare_form (out-Form g)) is ∙ other) h)

pub bare_is : (e : Expr) → IsBare e → is_bare e ≡ true
bare_is e (IsBare.bare_number k less is) = ap (λ g. is_bare_form (out-Form g)) is ∙ rw (outs-Number (pos k)) refl
bare_is e (IsBare.bare_name m named is) = ap (λ g. is_bare_form (out-Form g)) is ∙ rw (outs-Path m []) refl

-- what is printed so is spelled at its level, with room for so many levels or more
pub record IsPlain (n : ℕ) (p : Printed) (e : Expr) : Type 0 where
  pub tight : p.level ≤ 8
  pub bare : is_bare e ≡ true → IsBare e
  pub begins : Begins p.text
  pub laid : (room depth : ℕ) → n ≤ room → Laid continues_word p.text (λ w. IsAt (inside room depth w) p.level) (Same e)

abbrev pub Plain : ℕ → Expr → Type 0
Plain n e = IsPlain n (printed e) e

-- where a level is wanted: the expression holds together so tightly, or it was spelled in parentheses, with room for one level less
abbrev pub Fit : ℕ → ℕ → Expr → Type 0
Fit w n e = ((w ≤ (printed e).level) × Plain n e) ⊎ ((k : ℕ) × (n ≡ suc k) × Plain k e)

pub plain_more : (n m : ℕ) (e : Expr) → n ≤ m → Plain n e → Plain m e
plain_more n m e h p = record { tight = p.tight; bare = p.bare; begins = p.begins; laid = λ room depth k. p.laid room depth (omega arith) }

pub fit_plain : (w n : ℕ) (e : Expr) → Fit w n e → Plain n e
fit_plain w n e (inl f) = f.1
fit_plain w n e (inr f) = let is = f.1 in plain_more f.0 n e (omega arith) f.2

pub fit_lower : (w v n : ℕ) (e : Expr) → w ≤ v → Fit v n e → Fit w n e
fit_lower w v n e h (inl f) = let is = f.0 in inl (omega arith, f.1)
fit_lower w v n e h (inr f) = inr f

-- in parentheses or not
abbrev enclosed_if : Bool → Text → Text
enclosed_if loose t = if loose then codes "(" ++ t ++ codes ")" else t

begins_if : (loose : Bool) (t : Text) → Begins t → Begins (enclosed_if loose t)
begins_if true t b = record { byte = 40; after = t ++ codes ")"; whole = refl; apart = refl }
begins_if false t b = b

pub fit_begins : (w n : ℕ) (e : Expr) → Fit w n e → Begins (at_level w (printed e))
fit_begins w n e f = begins_if (nat_lt (printed e).level w) (printed e).text (fit_plain w n e f).begins

-- in parentheses an expression is an operand
enclosed_operand : (k room depth w : ℕ) (e : Expr) → w ≤ 8 → k ≤ room → Plain k e → Laid continues_word (codes "(" ++ (printed e).text ++ codes ")") (λ t. IsAt (inside (suc room) depth t) w) (Same e)
unfolding scope
enclosed_operand k room depth w e h less p =
    let inner : Laid continues_word (printed e).text (λ t. IsExpression (inside room (suc depth) t)) (Same e) =
    laid_weaker continues_word (printed e).text (λ t ts x is. looser (inside room (suc depth) t) (printed e).level 0 (omega arith) p.tight ts x is) (λ x r. r) (p.laid room (suc depth) less) in
    laid_narrower never continues_word (codes "(" ++ (printed e).text ++ codes ")") (λ rest h. never_stops rest)
    (laid_weaker never (codes "(" ++ (printed e).text ++ codes ")") (λ t ts x is. looser (inside (suc room) depth t) 8 w h (omega arith) ts x (inr (inr (inr (inr (inr (inl is))))))) (λ x r. r)
    (laid_enclosed mark.Open mark.Close open_closed close_closed room depth continues_word (printed e).text (λ rest. refl) inner))

fit_laid_by : (loose : Bool) (w n room depth : ℕ) (e : Expr) → nat_lt (printed e).level w ≡ loose → w ≤ 8 → n ≤ room → Fit w n e →
    Laid continues_word (enclosed_if loose (printed e).text) (λ t. IsAt (inside room depth t) w) (Same e)
fit_laid_by false w n room depth e is h less f =
    let p = fit_plain w n e f in
    laid_weaker continues_word (printed e).text (λ t ts x is'. looser (inside room depth t) (printed e).level w (ltb-false (printed e).level w is) p.tight ts x is') (λ x r. r) (p.laid room depth less)
fit_laid_by true w n room depth e is h less (inl f) = let low = ltb-true (printed e).level w is in let high = f.0 in absurd (omega arith)
fit_laid_by true w n zero depth e is h less (inr f) = let one = f.1 in absurd (omega arith)
fit_laid_by true w n (suc room) depth e is h less (inr f) = let one = f.1 in enclosed_operand f.0 room depth w e h (omega arith) f.2

pub fit_laid : (w n room depth : ℕ) (e : Expr) → w ≤ 8 → n ≤ room → Fit w n e → Laid continues_word (at_level w (printed e)) (λ t. IsAt (inside room depth t) w) (Same e)
fit_laid w n room depth e h less f = fit_laid_by (nat_lt (printed e).level w) w n room depth e refl h less f

-- ---- lists

-- many things, each of which begins with a byte that ends what stands before it
pub laid_many : {X A B : Type 0} {P : InText A} (f : X → Text) (u : A → B) (v : X → B) → ((x : X) (m rest : Text) → Stops continues_word (f x ++ m ++ rest)) → (xs : List X) →
    AllByRecursion (λ x. Laid continues_word (f x) P (λ y. u y ≡ v x)) xs → Laid continues_word (flat_map f xs) (λ w. Many (P w)) (λ ys. map u ys ≡ map v xs)
laid_many f u v ends [] all = laid_nil continues_word refl
laid_many f u v ends (x ∷ xs) all =
    laid_cons continues_word continues_word (f x) (flat_map f xs) (λ y ys r s. ap (λ b. b ∷ map u ys) r ∙ ap (λ bs. v x ∷ bs) s) all.0 (laid_many f u v ends xs all.1)
    (many_ends xs)
  where
    many_ends : (ys : List _) (rest : Text) → Stops continues_word rest → Stops continues_word (flat_map f ys ++ rest)
    many_ends [] rest h = h
    many_ends (y ∷ ys) rest h = ends y (flat_map f ys) rest
