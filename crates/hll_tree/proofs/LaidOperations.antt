-- Quantifiers, `pre`, choices, comparisons and chains are spelled as they are printed.
use Rattle.std.proofs.Common.{◌≡◌, ℕ, suc, ◌≤◌, List, [], ◌∷◌, ◌++◌, map, Option, Some, None, inl, inr, refl, sym, ap, subst, ◌∙◌, arith, codes, append_assoc}
use Rattle.std.specs.Prelude.{IsTrue, option_map}
use Rattle.std.specs.List.{flat_map, AllByRecursion}
use Rattle.hll_lexer.specs.Pieces.{Stops}
use Rattle.hll_lexer.specs.Words.{continues_word}
use Rattle.hll_lexer.specs.declared.token.Mark.TheVariants as mark
use Rattle.hll_lexer.specs.declared.token.Reserved.TheVariants as reserved
use Rattle.hll_lexer.specs.declared.token.Token.{Token}
use Rattle.hll_lexer.specs.declared.token.TokenKind.TheVariants as kind
use Rattle.hll_tree.specs.declared.tree.Branch.{Branch, roll-Branch}
use Rattle.hll_tree.specs.declared.tree.Cmp.{Cmp}
use Rattle.hll_tree.specs.declared.tree.Cmp.TheVariants as cmp
use Rattle.hll_tree.specs.declared.tree.Domain.{Domain, Bounds, Bool as DomainBool, Named as NamedDomain}
use Rattle.hll_tree.specs.declared.tree.Expr.{Expr}
use Rattle.hll_tree.specs.declared.tree.Form.{Form-F, Chain, Compare, Choice, Quant as Quantified, Pre}
use Rattle.hll_tree.specs.declared.tree.Form.TheVariants.{outs-Chain, outs-Compare, outs-Choice, outs-Quant, outs-Pre}
use Rattle.hll_tree.specs.declared.tree.Link.{Link, roll-Link}
use Rattle.hll_tree.specs.declared.tree.Name.{Name}
use Rattle.hll_tree.specs.declared.tree.Op.{Op}
use Rattle.hll_tree.specs.declared.tree.Op.TheVariants as op
use Rattle.hll_tree.specs.declared.tree.Precedence.{Precedence}
use Rattle.hll_tree.specs.declared.tree.Precedence.TheVariants as precedence
use Rattle.hll_tree.specs.declared.tree.Quant.{Quant}
use Rattle.hll_tree.specs.declared.tree.Quant.TheVariants as quant
use Rattle.hll_tree.specs.Printing.{Text, printed, plainly, at_level, form_text, name_text, quantifier_text, first_value_text, sign_text, comparison_text, chain_level, links_text, link_text, branch_text, branches_text}
use Rattle.hll_tree.specs.PrintedParts.{printed_domain, printed_link, printed_branch}
use Rattle.hll_tree.specs.Spells.{Scope, scope, Perhaps, Behind, Marked, Worded, expression_at, word_of, mark_of, mark_of_comparison, precedence_of, quantified, AreBounds, IsDomain, IsBound, IsQuantifierOf, IsQuantifier, IsSign, IsComparisonSign, IsLink, IsChain, chain_of, comparison_of, IsBranch, IsIf, IsOperand, IsExpression}
use Rattle.hll_tree.specs.WithoutPlaces.{name_without, expression_without}
use Rattle.hll_tree.proofs.PrintedLists.{branches_text_parts, links_text_parts}
use Rattle.hll_tree.proofs.PrintedTexts.{domain_bounds, domain_bool, domain_named}
use Rattle.hll_tree.proofs.Laid.{Laid, Any, never, never_stops, laid_then, laid_made, laid_behind, laid_before, laid_weaker, laid_narrower, laid_left, laid_right, laid_as, laid_none, laid_some, laid_blank}
use Rattle.hll_tree.proofs.LaidTokens.{IsNameText, token_there, word_text, mark_text, laid_worded, laid_word, laid_word_and, laid_and_blank, laid_mark, laid_mark_and, laid_spaced, laid_name, open_closed, close_closed, open_bracket_closed, close_bracket_closed}
use Rattle.hll_tree.proofs.LaidLevels.{Begins, begins_before, inside, IsAt, laid_enclosed, Same, not_bare, IsPlain, Fit, fit_begins, fit_laid, laid_many}
use Rattle.hll_tree.proofs.LaidForms.{with_room, laid_further}
use Rattle.hll_tree.proofs.LaidPaths.{same_name}
use Rattle.hll_tree.proofs.Without.{at_zero, domain_without, link_without, branch_without, without-chain, without-compare, without-choice, without-quant, without-pre, without-bounds, without-named}

-- ---- `pre`

-- a value that fits, if there is one
abbrev pub FitOption : ℕ → Option Expr → Type 0
FitOption n None = Unit {0}
FitOption n (Some e) = Fit 0 n e

first_laid : (n room depth : ℕ) (first : Option Expr) → n ≤ room → FitOption n first →
    Laid continues_word (first_value_text (option_map printed first)) (λ w. Perhaps (Behind (Marked mark.Comma) (IsExpression (inside room depth w)))) (λ y. option_map expression_without y ≡ option_map expression_without first)
first_laid n room depth None less f = laid_narrower never continues_word [] (λ rest h. never_stops rest) (laid_none refl)
first_laid n room depth (Some e) less f =
    laid_some continues_word (codes ", " ++ plainly (printed e)) (λ y r. ap (λ z. Some z) r) (laid_further n room depth e less f)

first_ends : (first : Option Expr) (rest : Text) → Stops continues_word rest → Stops continues_word (first_value_text (option_map printed first) ++ rest)
first_ends None rest h = h
first_ends (Some e) rest h = refl

pub plain_pre : (n : ℕ) (e x : Expr) (first : Option Expr) → e.form ≡ Pre x first → Fit 0 n x → FitOption n first → IsPlain (suc n) (form_text (Form-F.Pre (printed x) (option_map printed first))) e
unfolding scope
plain_pre n e x first is f g =
    let value : Text = first_value_text (option_map printed first) in
    let inner : Text = plainly (printed x) ++ value in
    let t : Text = codes "pre" ++ (codes "(" ++ (inner ++ codes ")")) in
    record {
      tight = omega arith;
      bare = not_bare e (Pre x first) is (rw (outs-Pre x first) refl);
      begins = record { byte = 112; after = codes "re(" ++ inner ++ codes ")"; whole = refl; apart = refl };
      laid = λ room depth h. (with_room n (λ r. Laid continues_word t (λ w. IsOperand (inside r depth w)) (Same e))
          (λ r less. laid_narrower never continues_word t (λ rest _. never_stops rest)
          (laid_weaker never t (λ w ts y s. inr (inr (inr (inr (inr (inr (inr (inr (inl s))))))))) (λ y r. r)
          (laid_made {S = Same e} never t (λ y. expression_at y.0 (Pre y.1.0 y.1.1))
          (λ y r. without-pre (expression_at y.0 (Pre y.1.0 y.1.1)) y.1.0 y.1.1 refl ∙ ap (λ z. at_zero (Pre z (option_map expression_without y.1.1))) r.1.0 ∙ ap (λ z. at_zero (Pre (expression_without x) z)) r.1.1 ∙ sym (without-pre e x first is))
          (laid_then continues_word never (codes "pre") (codes "(" ++ (inner ++ codes ")")) (laid_word reserved.Pre)
          (laid_enclosed mark.Open mark.Close open_closed close_closed r depth continues_word inner (λ rest. refl)
          (laid_then continues_word continues_word (plainly (printed x)) value (fit_laid 0 n r (suc depth) x (omega arith) less f) (first_laid n r (suc depth) first less g) (first_ends first)))
          (λ rest _. refl)))))
          room h);
    }

-- ---- domains

-- the domain is spelled as it is printed
abbrev pub FitDomain : ℕ → Domain → Type 0
FitDomain n d = (room depth : ℕ) → n ≤ room → Laid continues_word (printed_domain d) (λ w. IsDomain (inside room depth w)) (λ y. domain_without y ≡ domain_without d)

-- two bounds in brackets
pub laid_bounds : (n room depth : ℕ) (a b : Expr) → n ≤ room → Fit 0 n a → Fit 0 n b →
    Laid never (codes "[" ++ (plainly (printed a) ++ codes ", " ++ plainly (printed b) ++ codes "]")) (λ w. AreBounds (inside (suc room) depth w)) (λ y. Same a y.0 × Same b y.1)
unfolding scope
laid_bounds n room depth a b less f g =
    let inner : Text = plainly (printed a) ++ codes ", " ++ plainly (printed b) in
    laid_enclosed mark.OpenBracket mark.CloseBracket open_bracket_closed close_bracket_closed room depth continues_word inner (λ rest. refl)
    (laid_as continues_word (plainly (printed a) ++ (codes ", " ++ plainly (printed b))) inner (sym (append_assoc (plainly (printed a)) (codes ", ") (plainly (printed b))))
    (laid_then continues_word continues_word (plainly (printed a)) (codes ", " ++ plainly (printed b)) (fit_laid 0 n room (suc depth) a (omega arith) less f) (laid_further n room (suc depth) b less g) (λ rest _. refl)))

pub fit_bounds : (n : ℕ) (d : Domain) (a b : Expr) → d ≡ Bounds a b → Fit 0 n a → Fit 0 n b → FitDomain (suc n) d
fit_bounds n d a b is f g = λ room depth h.
    with_room n (λ r. Laid continues_word (printed_domain d) (λ w. IsDomain (inside r depth w)) (λ y. domain_without y ≡ domain_without d))
    (λ r less.
    let t : Text = codes "[" ++ (plainly (printed a) ++ codes ", " ++ plainly (printed b) ++ codes "]") in
    laid_as continues_word t (printed_domain d) (sym (domain_bounds d a b is))
    (laid_narrower never continues_word t (λ rest _. never_stops rest)
    (laid_left never t (laid_made {S = λ (y : Domain). domain_without y ≡ domain_without d} never t (λ y. Bounds y.0 y.1)
    (λ y q. without-bounds y.0 y.1 ∙ ap (λ z. Bounds z (expression_without y.1)) q.0 ∙ ap (λ z. Bounds (expression_without a) z) q.1 ∙ sym (without-bounds a b) ∙ ap domain_without (sym is))
    (laid_bounds n r depth a b less f g)))))
    room h

pub fit_bool : (n : ℕ) (d : Domain) → d ≡ DomainBool → FitDomain n d
fit_bool n d is = λ room depth h.
    laid_as continues_word (codes "bool") (printed_domain d) (sym (domain_bool d is))
    (laid_right continues_word (codes "bool") (laid_left continues_word (codes "bool")
    (laid_made {S = λ (y : Domain). domain_without y ≡ domain_without d} continues_word (codes "bool") (λ y. DomainBool) (λ y q. ap domain_without (sym is)) (laid_word reserved.Bool))))

pub fit_named : (n : ℕ) (d : Domain) (m : Name) → d ≡ NamedDomain m → IsNameText m.text → FitDomain (suc n) d
unfolding scope
fit_named n d m is named = λ room depth h.
    with_room n (λ r. Laid continues_word (printed_domain d) (λ w. IsDomain (inside r depth w)) (λ y. domain_without y ≡ domain_without d))
    (λ r less.
    laid_as continues_word (name_text m.text) (printed_domain d) (sym (domain_named d m is))
    (laid_right continues_word (name_text m.text) (laid_right continues_word (name_text m.text)
    (laid_made {S = λ (y : Domain). domain_without y ≡ domain_without d} continues_word (name_text m.text) NamedDomain
    (λ y q. without-named y ∙ ap (λ z. NamedDomain z) (same_name m y q) ∙ sym (without-named m) ∙ ap domain_without (sym is)) (laid_name m.text named)))))
    room h

-- ---- quantifiers

word_printed : (q : Quant) → quantifier_text q ≡ word_text (word_of q)
word_printed quant.All = refl
word_printed quant.Any = refl
word_printed quant.Sum = refl

in_quantifier : (s : Scope) (q : Quant) (ts : List Token) (y : Expr) → IsQuantifierOf s q ts y → IsQuantifier s ts y
in_quantifier s quant.All ts y is = inl is
in_quantifier s quant.Any ts y is = inr (inl is)
in_quantifier s quant.Sum ts y is = inr (inr is)

word_begins : (q : Quant) (u : Text) → Begins (quantifier_text q ++ u)
word_begins quant.All u = record { byte = 65; after = codes "LL" ++ u; whole = refl; apart = refl }
word_begins quant.Any u = record { byte = 83; after = codes "OME" ++ u; whole = refl; apart = refl }
word_begins quant.Sum u = record { byte = 83; after = codes "UM" ++ u; whole = refl; apart = refl }

-- a bind, and in parentheses what the quantifier is over
bound_laid : (n room depth : ℕ) (q : Quant) (m : Name) (d : Domain) (x : Expr) → n ≤ room → IsNameText m.text → FitDomain n d → Fit 0 n x →
    Laid never (name_text m.text ++ (codes " : " ++ (printed_domain d ++ (codes " (" ++ (plainly (printed x) ++ codes ")"))))) (λ w. IsBound (inside (suc room) depth w) q)
    (λ y. (y.0.text ≡ m.text) × ((domain_without y.1.0 ≡ domain_without d) × Same x y.1.1))
unfolding scope
bound_laid n room depth q m d x less named domain f =
    let body : Text = codes " (" ++ (plainly (printed x) ++ codes ")") in
    laid_then continues_word never (name_text m.text) (codes " : " ++ (printed_domain d ++ body))
    (laid_weaker continues_word (name_text m.text) (λ w ts y s. (s.0, s.1, (s.2.0, refl, s.2.1))) (λ y r. r) (laid_name m.text named))
    (laid_behind never never (codes " : ") (printed_domain d ++ body) (laid_blank never 32 (codes ": ") refl (laid_spaced mark.Colon))
    (laid_then continues_word never (printed_domain d) body (domain room (suc depth) less)
    (laid_left never body (laid_behind never never (codes " (") (plainly (printed x) ++ codes ")") (laid_blank never 32 (codes "(") refl (laid_mark mark.Open open_closed))
    (laid_before continues_word never (plainly (printed x)) (codes ")") (fit_laid 0 n room (suc depth) x (omega arith) less f) (laid_mark mark.Close close_closed) (λ rest _. refl))
    (λ rest _. never_stops (plainly (printed x) ++ codes ")" ++ rest))))
    (λ rest _. refl))
    (λ rest _. never_stops (printed_domain d ++ body ++ rest)))
    (λ rest _. refl)

pub plain_quant : (n : ℕ) (e : Expr) (q : Quant) (m : Name) (d : Domain) (x : Expr) → e.form ≡ Quantified q m d x → IsNameText m.text → FitDomain n d → Fit 0 n x →
    IsPlain (suc n) (form_text (Form-F.Quant q m (printed_domain d) (printed x))) e
unfolding scope
plain_quant n e q m d x is named domain f =
    let bound : Text = name_text m.text ++ (codes " : " ++ (printed_domain d ++ (codes " (" ++ (plainly (printed x) ++ codes ")")))) in
    let t : Text = word_text (word_of q) ++ codes " " ++ bound in
    let u : Text = quantifier_text q ++ codes " " ++ name_text m.text ++ codes " : " ++ printed_domain d ++ codes " (" ++ plainly (printed x) ++ codes ")" in
    let same : t ≡ u = ap (λ (k : Text). k ++ codes " " ++ bound) (sym (word_printed q)) ∙ simp append_assoc in
    let begins : Begins (quantifier_text q ++ (codes " " ++ bound)) = word_begins q (codes " " ++ bound) in
    record {
      tight = omega arith;
      bare = not_bare e (Quantified q m d x) is (rw (outs-Quant q m d x) refl);
      begins = subst Begins (simp append_assoc) begins;
      laid = λ room depth h. (with_room n (λ r. Laid continues_word u (λ w. IsOperand (inside r depth w)) (Same e))
          (λ r less. laid_as continues_word t u same (laid_narrower never continues_word t (λ rest _. never_stops rest)
          (laid_weaker never t (λ w ts y s. inr (inr (inr (inr (inr (inr (inr (inl (in_quantifier (inside (suc r) depth w) q ts y s))))))))) (λ y k. k)
          (laid_made {S = Same e} never t (λ y. quantified q y.0.from y.1)
          (λ y k. without-quant (quantified q y.0.from y.1) q y.1.0 y.1.1.0 y.1.1.1 refl
          ∙ ap (λ z. at_zero (Quantified q z (domain_without y.1.1.0) (expression_without y.1.1.1))) (same_name m y.1.0 k.1.0)
          ∙ ap (λ z. at_zero (Quantified q (name_without m) z (expression_without y.1.1.1))) k.1.1.0
          ∙ ap (λ z. at_zero (Quantified q (name_without m) (domain_without d) z)) k.1.1.1
          ∙ sym (without-quant e q m d x is))
          (laid_then never never (word_text (word_of q) ++ codes " ") bound (laid_word_and (word_of q)) (bound_laid n r depth q m d x less named domain f) (λ rest _. never_stops (bound ++ rest)))))))
          room h);
    }

-- ---- comparisons

sign_compared : (c : Cmp) → comparison_text c ≡ mark_text (mark_of_comparison c)
sign_compared cmp.Eq = refl
sign_compared cmp.Ne = refl
sign_compared cmp.Lt = refl
sign_compared cmp.Le = refl
sign_compared cmp.Gt = refl
sign_compared cmp.Ge = refl

laid_compared : (c : Cmp) → Laid never (mark_text (mark_of_comparison c) ++ 32 ∷ []) (λ w. IsComparisonSign) (λ y. y.1 ≡ c)
laid_compared c = laid_mark_and (mark_of_comparison c) (λ _ t (x : Token × Cmp). (t.kind ≡ kind.Mark (mark_of_comparison x.1)) × (x.0 ≡ t)) (λ y. y.1 ≡ c)
    (λ front rest. ((token_there (kind.Mark (mark_of_comparison c)) front (mark_text (mark_of_comparison c)), c), (refl, refl), refl))

-- a sign and the right operand, of some comparison
abbrev IsRight : Cmp → Expr → Option ((Token × Cmp) × Expr) → Type 0
IsRight c b None = ⊥
IsRight c b (Some y) = (y.0.1 ≡ c) × Same b y.1

same_comparison : (e : Expr) (c : Cmp) (a b : Expr) → e.form ≡ Compare c a b → (y : Expr × Option ((Token × Cmp) × Expr)) → Same a y.0 × IsRight c b y.1 → Same e (comparison_of y)
same_comparison e c a b is (left, None) r = absurd r.1
same_comparison e c a b is (left, Some y) r =
    without-compare (comparison_of (left, Some y)) y.0.1 left y.1 refl ∙ ap (λ z. at_zero (Compare z (expression_without left) (expression_without y.1))) r.1.0
    ∙ ap (λ z. at_zero (Compare c z (expression_without y.1))) r.0 ∙ ap (λ z. at_zero (Compare c (expression_without a) z)) r.1.1 ∙ sym (without-compare e c a b is)

pub plain_compare : (n : ℕ) (e : Expr) (c : Cmp) (a b : Expr) → e.form ≡ Compare c a b → Fit 6 n a → Fit 6 n b → IsPlain n (form_text (Form-F.Compare c (printed a) (printed b))) e
plain_compare n e c a b is f g =
    let sign : Text = mark_text (mark_of_comparison c) in
    let left : Text = at_level 6 (printed a) in
    let right : Text = at_level 6 (printed b) in
    let t : Text = left ++ (32 ∷ (sign ++ codes " " ++ right)) in
    let u : Text = left ++ codes " " ++ comparison_text c ++ codes " " ++ right in
    let same : t ≡ u = ap (λ (k : Text). left ++ (32 ∷ (k ++ codes " " ++ right))) (sym (sign_compared c)) ∙ simp append_assoc in
    record {
      tight = omega arith;
      bare = not_bare e (Compare c a b) is (rw (outs-Compare c a b) refl);
      begins = subst Begins same (begins_before left (32 ∷ (sign ++ codes " " ++ right)) (fit_begins 6 n a f));
      laid = λ room depth h.
          (laid_as continues_word t u same
          (laid_made {S = Same e} continues_word t comparison_of (same_comparison e c a b is)
          (laid_then continues_word continues_word left (32 ∷ (sign ++ codes " " ++ right)) (fit_laid 6 n room depth a (omega arith) h f)
          (laid_some {S = IsRight c b} continues_word (32 ∷ (sign ++ codes " " ++ right)) (λ y r. r)
          (laid_blank continues_word 32 (sign ++ codes " " ++ right) refl
          (laid_then never continues_word (sign ++ codes " ") right (laid_compared c) (fit_laid 6 n room depth b (omega arith) h g) (λ rest _. never_stops (right ++ rest)))))
          (λ rest _. refl))));
    }

-- ---- chains

sign_printed : (o : Op) → sign_text o ≡ mark_text (mark_of o)
sign_printed op.Same = refl
sign_printed op.Differ = refl
sign_printed op.Implies = refl
sign_printed op.Or = refl
sign_printed op.And = refl
sign_printed op.Plus = refl
sign_printed op.Less = refl
sign_printed op.Times = refl
sign_printed op.Over = refl
sign_printed op.Rest = refl

pub chain_tight : (p : Precedence) → suc (chain_level p) ≤ 8
chain_tight precedence.Equivalence = omega arith
chain_tight precedence.Implication = omega arith
chain_tight precedence.Disjunction = omega arith
chain_tight precedence.Conjunction = omega arith
chain_tight precedence.Sum = omega arith
chain_tight precedence.Product = omega arith

in_chain : (s : Scope) (p : Precedence) (ts : List Token) (e : Expr) → IsChain p (IsAt s (suc (chain_level p))) ts e → IsAt s (chain_level p) ts e
in_chain s precedence.Equivalence ts e is = is
in_chain s precedence.Implication ts e is = is
in_chain s precedence.Disjunction ts e is = is
in_chain s precedence.Conjunction ts e is = is
in_chain s precedence.Sum ts e is = is
in_chain s precedence.Product ts e is = is

laid_sign : (p : Precedence) (o : Op) → precedence_of o ≡ p → Laid never (mark_text (mark_of o) ++ 32 ∷ []) (λ w. IsSign p) (λ y. y.1 ≡ o)
laid_sign p o is = laid_mark_and (mark_of o) (λ _ t (x : Token × Op). (t.kind ≡ kind.Mark (mark_of x.1)) × (precedence_of x.1 ≡ p) × (x.0 ≡ t)) (λ y. y.1 ≡ o)
    (λ front rest. ((token_there (kind.Mark (mark_of o)) front (mark_text (mark_of o)), o), (refl, is, refl), refl))

-- an operator of a chain, whose operand fits
abbrev pub FitLink : ℕ → Precedence → Link → Type 0
FitLink n p k = (precedence_of k.op ≡ p) × Fit (suc (chain_level (precedence_of k.op))) n k.with

link_laid : (n room depth : ℕ) (p : Precedence) (k : Link) → n ≤ room → FitLink n p k →
    Laid continues_word (link_text (printed_link k)) (λ w. IsLink p (IsAt (inside room depth w) (suc (chain_level p)))) (λ y. link_without y ≡ link_without k)
link_laid n room depth p k less f =
    let v : ℕ = suc (chain_level (precedence_of k.op)) in
    let right : Text = at_level v (printed k.with) in
    let sign : Text = mark_text (mark_of k.op) in
    let t : Text = 32 ∷ (sign ++ codes " " ++ right) in
    laid_as continues_word t (link_text (printed_link k)) (ap (λ (m : Text). codes " " ++ m ++ codes " " ++ right) (sym (sign_printed k.op)))
    (laid_blank continues_word 32 (sign ++ codes " " ++ right) refl
    (laid_made {S = λ (y : Link). link_without y ≡ link_without k} continues_word (sign ++ codes " " ++ right) (λ x. roll-Link (record { op = x.0.1; at = x.0.0.from; with = x.1 }))
    (λ y r. ap (λ o. roll-Link (record { op = o; at = 0; with = expression_without y.1 })) r.0 ∙ ap (λ z. roll-Link (record { op = k.op; at = 0; with = z })) r.1)
    (laid_then never continues_word (sign ++ codes " ") right (laid_sign p k.op f.0)
    (laid_weaker continues_word right (λ w ts y s. subst (λ q. IsAt (inside room depth w) (suc (chain_level q)) ts y) f.0 s) (λ y r. r)
    (fit_laid v n room depth k.with (chain_tight (precedence_of k.op)) less f.1))
    (λ rest _. never_stops (right ++ rest)))))

all_links : (n room depth : ℕ) (p : Precedence) (ks : List Link) → n ≤ room → AllByRecursion (FitLink n p) ks →
    AllByRecursion (λ k. Laid continues_word (link_text (printed_link k)) (λ w. IsLink p (IsAt (inside room depth w) (suc (chain_level p)))) (λ y. link_without y ≡ link_without k)) ks
all_links n room depth p [] less all = tt
all_links n room depth p (k ∷ ks) less all = (link_laid n room depth p k less all.0, all_links n room depth p ks less all.1)

same_chain : (e first : Expr) (k : Link) (ks : List Link) → e.form ≡ Chain first (k ∷ ks) → (y : Expr × List Link) → Same first y.0 × (map link_without y.1 ≡ map link_without (k ∷ ks)) → Same e (chain_of y)
same_chain e first k ks is (x, []) r = absurd cc
same_chain e first k ks is (x, j ∷ js) r =
    without-chain (chain_of (x, j ∷ js)) x (j ∷ js) refl ∙ ap (λ z. at_zero (Chain z (map link_without (j ∷ js)))) r.0
    ∙ ap (λ z. at_zero (Chain (expression_without first) z)) r.1 ∙ sym (without-chain e first (k ∷ ks) is)

links_end : (k : Link) (ks : List Link) (rest : Text) → Stops continues_word (flat_map (λ k. link_text (printed_link k)) (k ∷ ks) ++ rest)
links_end k ks rest = refl

pub plain_chain : (n : ℕ) (e first : Expr) (k : Link) (ks : List Link) → e.form ≡ Chain first (k ∷ ks) → Fit (suc (chain_level (precedence_of k.op))) n first → AllByRecursion (FitLink n (precedence_of k.op)) (k ∷ ks) →
    IsPlain n (form_text (Form-F.Chain (printed first) (map printed_link (k ∷ ks)))) e
plain_chain n e first k ks is f all =
    let p : Precedence = precedence_of k.op in
    let left : Text = at_level (suc (chain_level p)) (printed first) in
    let links : Text = flat_map (λ j. link_text (printed_link j)) (k ∷ ks) in
    let same : left ++ links ≡ left ++ links_text (map printed_link (k ∷ ks)) = ap (λ (t : Text). left ++ t) (sym (links_text_parts (k ∷ ks))) in
    let tight = chain_tight p in
    record {
      tight = omega arith;
      bare = not_bare e (Chain first (k ∷ ks)) is (rw (outs-Chain first (k ∷ ks)) refl);
      begins = begins_before left (links_text (map printed_link (k ∷ ks))) (fit_begins (suc (chain_level p)) n first f);
      laid = λ room depth h.
          (laid_as continues_word (left ++ links) (left ++ links_text (map printed_link (k ∷ ks))) same
          (laid_weaker continues_word (left ++ links) (λ w ts y s. in_chain (inside room depth w) p ts y s) (λ y r. r)
          (laid_made {S = Same e} continues_word (left ++ links) chain_of (same_chain e first k ks is)
          (laid_then continues_word continues_word left links (fit_laid (suc (chain_level p)) n room depth first tight h f)
          (laid_many (λ j. link_text (printed_link j)) link_without link_without (λ j m rest. refl) (k ∷ ks) (all_links n room depth p (k ∷ ks) h all))
          (λ rest _. links_end k ks rest)))));
    }

-- ---- choices

-- a condition that fits, with what stands for it
abbrev pub FitBranch : ℕ → Branch → Type 0
FitBranch n b = Fit 0 n b.when × Fit 0 n b.gives

laid_if : (room depth : ℕ) → Laid never (codes "if ") (λ w. IsIf (inside (suc room) depth w)) Any
unfolding scope
laid_if room depth =
    laid_and_blank continues_word 32 (codes "if") refl refl
    (laid_worded reserved.If (λ w t x. (t.kind ≡ kind.Reserved reserved.If) × IsTrue ((inside (suc room) depth w).may_open t) × (x ≡ t)) Any
    (λ front rest. (token_there (kind.Reserved reserved.If) front (word_text reserved.If), (refl, refl, refl), tt)))

branch_laid : (n room depth : ℕ) (b : Branch) → n ≤ room → FitBranch n b →
    Laid continues_word (branch_text (printed_branch b)) (λ w. IsBranch (inside (suc room) depth w)) (λ y. branch_without y ≡ branch_without b)
unfolding scope
branch_laid n room depth b less f =
    let when : Text = plainly (printed b.when) in
    let gives : Text = plainly (printed b.gives) in
    laid_as continues_word (when ++ (codes " then " ++ gives)) (branch_text (printed_branch b)) (sym (append_assoc when (codes " then ") gives))
    (laid_made {S = λ (y : Branch). branch_without y ≡ branch_without b} continues_word (when ++ (codes " then " ++ gives)) (λ x. roll-Branch (record { when = x.0; gives = x.1 }))
    (λ y r. ap (λ z. roll-Branch (record { when = z; gives = expression_without y.1 })) r.0 ∙ ap (λ z. roll-Branch (record { when = expression_without b.when; gives = z })) r.1)
    (laid_then continues_word continues_word when (codes " then " ++ gives) (fit_laid 0 n room (suc depth) b.when (omega arith) less f.0)
    (laid_behind never continues_word (codes " then ") gives (laid_blank never 32 (codes "then ") refl (laid_word_and reserved.Then)) (fit_laid 0 n room (suc depth) b.gives (omega arith) less f.1) (λ rest _. never_stops (gives ++ rest)))
    (λ rest _. refl)))

further_branch_laid : (n room depth : ℕ) (b : Branch) → n ≤ room → FitBranch n b →
    Laid continues_word (codes " elif " ++ branch_text (printed_branch b)) (λ w. Behind (Worded reserved.Elif) (IsBranch (inside (suc room) depth w))) (λ y. branch_without y ≡ branch_without b)
further_branch_laid n room depth b less f =
    laid_behind never continues_word (codes " elif ") (branch_text (printed_branch b)) (laid_blank never 32 (codes "elif ") refl (laid_word_and reserved.Elif)) (branch_laid n room depth b less f)
    (λ rest _. never_stops (branch_text (printed_branch b) ++ rest))

all_branches : (n room depth : ℕ) (bs : List Branch) → n ≤ room → AllByRecursion (FitBranch n) bs →
    AllByRecursion (λ b. Laid continues_word (codes " elif " ++ branch_text (printed_branch b)) (λ w. Behind (Worded reserved.Elif) (IsBranch (inside (suc room) depth w))) (λ y. branch_without y ≡ branch_without b)) bs
all_branches n room depth [] less all = tt
all_branches n room depth (b ∷ bs) less all = (further_branch_laid n room depth b less all.0, all_branches n room depth bs less all.1)

branches_end : (bs : List Branch) (u rest : Text) → Stops continues_word (codes " else " ++ u ++ rest) → Stops continues_word (flat_map (λ b. codes " elif " ++ branch_text (printed_branch b)) bs ++ (codes " else " ++ u) ++ rest)
branches_end [] u rest h = h
branches_end (b ∷ bs) u rest h = refl

pub plain_choice : (n : ℕ) (e : Expr) (b : Branch) (bs : List Branch) (x : Expr) → e.form ≡ Choice (b ∷ bs) x → FitBranch n b → AllByRecursion (FitBranch n) bs → Fit 0 n x →
    IsPlain (suc n) (form_text (Form-F.Choice (map printed_branch (b ∷ bs)) (printed x))) e
unfolding scope
plain_choice n e b bs x is f all g =
    let first : Text = branch_text (printed_branch b) in
    let further : Text = flat_map (λ c. codes " elif " ++ branch_text (printed_branch c)) bs in
    let last : Text = codes " else " ++ plainly (printed x) in
    let t : Text = codes "if " ++ (first ++ (further ++ last)) in
    let u : Text = codes "if " ++ branches_text (map printed_branch (b ∷ bs)) ++ codes " else " ++ plainly (printed x) in
    let flat : t ≡ codes "if " ++ (first ++ further) ++ codes " else " ++ plainly (printed x) = simp append_assoc in
    let same : t ≡ u = flat ∙ ap (λ (k : Text). codes "if " ++ k ++ codes " else " ++ plainly (printed x)) (sym (branches_text_parts b bs)) in
    record {
      tight = omega arith;
      bare = not_bare e (Choice (b ∷ bs) x) is (rw (outs-Choice (b ∷ bs) x) refl);
      begins = record { byte = 105; after = codes "f " ++ branches_text (map printed_branch (b ∷ bs)) ++ codes " else " ++ plainly (printed x); whole = refl; apart = refl };
      laid = λ room depth h. (with_room n (λ r. Laid continues_word u (λ w. IsExpression (inside r depth w)) (Same e))
          (λ r less. laid_as continues_word t u same (laid_left continues_word t
          (laid_made {S = Same e} continues_word t (λ y. expression_at y.0 (Choice (y.1.0 ∷ y.1.1.0) y.1.1.1))
          (λ y k. without-choice (expression_at y.0 (Choice (y.1.0 ∷ y.1.1.0) y.1.1.1)) (y.1.0 ∷ y.1.1.0) y.1.1.1 refl
          ∙ ap (λ z. at_zero (Choice (z ∷ map branch_without y.1.1.0) (expression_without y.1.1.1))) k.1.0
          ∙ ap (λ z. at_zero (Choice (branch_without b ∷ z) (expression_without y.1.1.1))) k.1.1.0
          ∙ ap (λ z. at_zero (Choice (map branch_without (b ∷ bs)) z)) k.1.1.1
          ∙ sym (without-choice e (b ∷ bs) x is))
          (laid_then never continues_word (codes "if ") (first ++ (further ++ last)) (laid_if r depth)
          (laid_then continues_word continues_word first (further ++ last) (branch_laid n r depth b less f)
          (laid_then continues_word continues_word further last
          (laid_many (λ c. codes " elif " ++ branch_text (printed_branch c)) branch_without branch_without (λ c m rest. refl) bs (all_branches n r depth bs less all))
          (laid_behind never continues_word (codes " else ") (plainly (printed x)) (laid_blank never 32 (codes "else ") refl (laid_word_and reserved.Else)) (fit_laid 0 n r (suc depth) x (omega arith) less g) (λ rest _. never_stops (plainly (printed x) ++ rest)))
          (λ rest _. refl))
          (λ rest _. branches_end bs (plainly (printed x)) rest refl))
          (λ rest _. never_stops (first ++ (further ++ last) ++ rest))))))
          room h);
    }
