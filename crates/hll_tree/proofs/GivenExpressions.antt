-- Every expression that fine tokens spell is spelled as it is printed.
use Rattle.std.proofs.Common.{◌≡◌, ℕ, zero, suc, ℤ, ◌≤◌, Bool, true, List, [], ◌∷◌, map, Option, Some, None, inl, inr, refl, sym, ap, subst, ◌∙◌, arith, pos}
use Rattle.std.specs.List.{flat_map, AllByRecursion}
use Rattle.hll_lexer.specs.Names.{named_bytes}
use Rattle.hll_lexer.specs.declared.token.Token.{Token}
use Rattle.hll_lexer.specs.declared.token.TokenKind.{TokenKind}
use Rattle.hll_lexer.specs.declared.token.TokenKind.TheVariants as kind
use Rattle.hll_tree.specs.declared.tree.Branch.{Branch, roll-Branch}
use Rattle.hll_tree.specs.declared.tree.Cmp.{Cmp}
use Rattle.hll_tree.specs.declared.tree.Domain.{Bounds, Bool as DomainBool, Named as NamedDomain}
use Rattle.hll_tree.specs.declared.tree.Expr.{Expr, roll-Expr}
use Rattle.hll_tree.specs.declared.tree.Form.{Form-F, Number, Truth, Path, Minus, Not, Choice, Group, Pre, Least, Greatest, Size}
use Rattle.hll_tree.specs.declared.tree.Link.{Link, roll-Link}
use Rattle.hll_tree.specs.declared.tree.Name.{Name}
use Rattle.hll_tree.specs.declared.tree.Op.{Op}
use Rattle.hll_tree.specs.declared.tree.Precedence.{Precedence}
use Rattle.hll_tree.specs.declared.tree.Precedence.TheVariants as precedence
use Rattle.hll_tree.specs.declared.tree.Quant.{Quant}
use Rattle.hll_tree.specs.declared.tree.Quant.TheVariants as quant
use Rattle.hll_tree.specs.declared.tree.Reach.{Reach, At, Field}
use Rattle.hll_tree.specs.Printing.{Text, Printed, printed, chain_level, form_text}
use Rattle.hll_tree.specs.Spells.{Spelling, Scope, scope, One, name_at, expression_at, IsTruthWord, IsName, IsNumber, IsTruth, IsPath, IsParenthesised, IsGroup, IsMinus, IsNot, IsPre, AreOperands, IsLeast, IsGreatest, IsSize, AreBounds, IsDomain, quantified, Bound, IsBoundName, IsBound, IsQuantifierOf, IsPrimary, IsOperand, mark_of, precedence_of, IsChain, chain_of, IsComparison, comparison_of, IsBranch, IsChoice, IsExpression}
use Rattle.hll_tree.proofs.Printed.{printed-number, printed-truth, printed-path, printed-chain, printed-compare, printed-minus, printed-not, printed-choice, printed-group, printed-quant, printed-pre, printed-least, printed-greatest, printed-size}
use Rattle.hll_tree.proofs.LaidTokens.{IsNameText}
use Rattle.hll_tree.proofs.LaidLevels.{IsPlain, Fit, fit_plain, fit_lower, IsProduct, IsSum, IsCompared, IsConjunction, IsDisjunction, IsImplication, IsEquivalence}
use Rattle.hll_tree.proofs.LaidForms.{AllFit, plain_number, plain_truth, plain_minus, plain_not, plain_group, plain_least, plain_greatest, plain_size}
use Rattle.hll_tree.proofs.LaidPaths.{FitReach, plain_path}
use Rattle.hll_tree.proofs.LaidOperations.{FitOption, FitDomain, FitLink, FitBranch, plain_pre, fit_bounds, fit_bool, fit_named, plain_quant, plain_compare, plain_chain, plain_choice}
use Rattle.hll_tree.proofs.Gives.{Fine, FineAs, Gives, OnSome, Several, gives_one, gives_then, gives_made, gives_either, gives_behind, gives_before, gives_perhaps, gives_many, gives_listed, all_of_some, all_append}

-- what is printed so fits where its level does
fit_as : (n w : ℕ) (e : Expr) (p : Printed) → printed e ≡ p → w ≤ p.level → IsPlain n p e → Fit w n e
fit_as n w e p is low plain = inl (subst (λ (q : Printed). w ≤ q.level) (sym is) low, subst (λ (q : Printed). IsPlain n q e) (sym is) plain)

-- ---- names and numbers

abbrev pub IsNamed : Name → Type 0
IsNamed m = IsNameText m.text

fine_name : (k : TokenKind) (bytes : Text) → k ≡ kind.Name → FineAs k bytes → IsNameText bytes
fine_name k bytes is f = subst (λ (j : TokenKind). FineAs j bytes) is f

name_fine : (src : Text) (t : Token) (x : Name) → t.kind ≡ kind.Name → x ≡ name_at src t → Fine src t → IsNamed x
name_fine src t x is same f = subst IsNamed (sym same) (fine_name t.kind (named_bytes src t) is f)

pub gives_name : (src : Text) (s : Scope) → s.text ≡ src → Gives src (IsName s) IsNamed
gives_name src s same = gives_one src (λ t x. (t.kind ≡ kind.Name) × (x ≡ name_at s.text t)) (λ t x f r. name_fine src t x r.0 (r.1 ∙ ap (λ (w : Text). name_at w t) same) f)

-- a token may be any
pub gives_any : {A : Type 0} (src : Text) (R : Token → A → Type 0) → Gives src (One R) (λ x. Unit {0})
gives_any src R = gives_one src R (λ t x f r. tt)

-- a number fits anywhere
number_fits : (n : ℕ) (e : Expr) (m : ℤ) → e.form ≡ Number m → FineAs (kind.Number m) [] → Fit 8 n e
number_fits n e m is f =
    let here : e.form ≡ Number (pos f.0) = is ∙ ap (λ z. Number z) f.1 in
    fit_as n 8 e (form_text (Form-F.Number (pos f.0))) (printed-number e (pos f.0) here) (omega arith) (plain_number n f.0 e f.2 here)

pub gives_number : (src : Text) (n : ℕ) → Gives src IsNumber (Fit 8 n)
gives_number src n = gives_one src (λ t x. (m : ℤ) × (t.kind ≡ kind.Number m) × (x ≡ expression_at t (Number m)))
    (λ t x f r. subst (Fit 8 n) (sym r.2) (number_fits n (expression_at t (Number r.0)) r.0 refl (subst (λ (j : TokenKind). FineAs j (named_bytes src t)) r.1 f)))

gives_truth : (src : Text) (n : ℕ) → Gives src IsTruth (Fit 8 n)
gives_truth src n = gives_one src (λ t x. (value : Bool) × IsTruthWord t value × (x ≡ expression_at t (Truth value)))
    (λ t x f r. subst (Fit 8 n) (sym r.2) (fit_as n 8 (expression_at t (Truth r.0)) (form_text (Form-F.Truth r.0)) (printed-truth (expression_at t (Truth r.0)) r.0 refl) (omega arith) (plain_truth n r.0 (expression_at t (Truth r.0)) refl)))

-- ---- with what is known of the parts

fit_reaches : (n : ℕ) (es : List Expr) → AllFit n es → AllByRecursion (FitReach n) (map At es)
fit_reaches n [] all = tt
fit_reaches n (e ∷ es) all = (FitReach.by_index e refl all.0, fit_reaches n es all.1)

fit_steps : (n : ℕ) (rss : List (List Reach)) → AllByRecursion (AllByRecursion (FitReach n)) rss → AllByRecursion (FitReach n) (flat_map (λ rs. rs) rss)
fit_steps n [] all = tt
fit_steps n (rs ∷ rss) all = all_append (FitReach n) rs (flat_map (λ rs. rs) rss) all.0 (fit_steps n rss all.1)

fit_option : (n : ℕ) (first : Option Expr) → OnSome (Fit 0 n) first → FitOption n first
fit_option n None h = tt
fit_option n (Some e) h = h

-- a bind fits wherever its quantifier stands
abbrev pub FitBound : ℕ → Quant → Bound → Type 0
FitBound n q z = (at : ℕ) → Fit 8 n (quantified q at z)

-- what is known of what stands inside
pub record Knows (src : Text) (n : ℕ) (s : Scope) : Type 0 where
  pub text : s.text ≡ src
  pub operand : Gives src s.operand (Fit 8 n)
  pub expression : Gives src s.expression (Fit 0 n)
  pub domain : Gives src s.domain (FitDomain n)
  pub bound : (q : Quant) → Gives src (s.bound q) (FitBound n q)

module _ (src : Text) (n : ℕ) (s : Scope) (k : Knows src n s) where
  path_fits : (x : Name × List (List Reach)) → IsNamed x.0 × AllByRecursion (AllByRecursion (FitReach n)) x.1 → Fit 8 (suc n) (roll-Expr (record { at = x.0.at; form = Path x.0 (flat_map (λ rs. rs) x.1) }))
  path_fits x r =
      let rs : List Reach = flat_map (λ rs. rs) x.1 in
      let e : Expr = roll-Expr (record { at = x.0.at; form = Path x.0 rs }) in
      fit_as (suc n) 8 e _ (printed-path e x.0 rs refl) (omega arith) (plain_path n e x.0 rs refl r.0 (fit_steps n x.1 r.1))

  gives_path : Gives src (IsPath s) (Fit 8 (suc n))
  gives_path = gives_made src _ (λ x. roll-Expr (record { at = x.0.at; form = Path x.0 (flat_map (λ rs. rs) x.1) })) path_fits
      (gives_then src (gives_name src s k.text) (gives_many src (gives_either src
      (gives_made src _ (λ es. map At es) (λ es r. fit_reaches n es (all_of_some (Fit 0 n) es r)) (gives_behind src _ (gives_before {C = Several (Fit 0 n)} src _ (gives_listed src k.expression))))
      (gives_made src _ (λ m. Field m ∷ []) (λ m r. (FitReach.by_field m refl r, tt)) (gives_behind src _ (gives_name src s k.text))))))

  gives_parenthesised : Gives src (IsParenthesised s) (Fit 8 (suc n))
  gives_parenthesised = gives_behind src _ (gives_before src _ (λ ts x h is. inr (n, refl, fit_plain 0 n x (k.expression ts x h is))))

  group_fits : (t : Token) (es : List Expr) → Several (Fit 0 n) es → Fit 8 (suc n) (expression_at t (Group es))
  group_fits t [] r = absurd r
  group_fits t (x ∷ xs) r =
      let e : Expr = expression_at t (Group (x ∷ xs)) in
      fit_as (suc n) 8 e _ (printed-group e (x ∷ xs) refl) (omega arith) (plain_group n e x xs refl r.0 r.1)

  gives_group : Gives src (IsGroup s) (Fit 8 (suc n))
  gives_group = gives_made src _ (λ x. expression_at x.0 (Group x.1)) (λ x r. group_fits x.0 x.1 r.1)
      (gives_then src (gives_any src _) (gives_before {C = Several (Fit 0 n)} src _ (gives_listed src k.expression)))

  gives_minus : Gives src (IsMinus s) (Fit 8 (suc n))
  gives_minus = gives_made src _ (λ x. expression_at x.0 (Minus x.1))
      (λ x r. fit_as (suc n) 8 (expression_at x.0 (Minus x.1)) _ (printed-minus (expression_at x.0 (Minus x.1)) x.1 refl) (omega arith) (plain_minus n (expression_at x.0 (Minus x.1)) x.1 refl r.1))
      (gives_then src (gives_any src _) k.operand)

  gives_not : Gives src (IsNot s) (Fit 8 (suc n))
  gives_not = gives_made src _ (λ x. expression_at x.0 (Not x.1))
      (λ x r. fit_as (suc n) 8 (expression_at x.0 (Not x.1)) _ (printed-not (expression_at x.0 (Not x.1)) x.1 refl) (omega arith) (plain_not n (expression_at x.0 (Not x.1)) x.1 refl r.1))
      (gives_then src (gives_any src _) k.operand)

  gives_pre : Gives src (IsPre s) (Fit 8 (suc n))
  gives_pre = gives_made src _ (λ x. expression_at x.0 (Pre x.1.0 x.1.1))
      (λ x r. fit_as (suc n) 8 (expression_at x.0 (Pre x.1.0 x.1.1)) _ (printed-pre (expression_at x.0 (Pre x.1.0 x.1.1)) x.1.0 x.1.1 refl) (omega arith)
      (plain_pre n (expression_at x.0 (Pre x.1.0 x.1.1)) x.1.0 x.1.1 refl r.1.0 (fit_option n x.1.1 r.1.1)))
      (gives_then src (gives_any src _) (gives_behind src _ (gives_before {C = λ x. Fit 0 n x.0 × OnSome (Fit 0 n) x.1} src _ (gives_then src k.expression (gives_perhaps src (gives_behind src _ k.expression))))))

  -- two or more expressions that fit
  abbrev AreTwo : List Expr → Type 0
  AreTwo [] = ⊥
  AreTwo (x ∷ xs) = Fit 0 n x × Several (Fit 0 n) xs

  gives_operands : Gives src (AreOperands s) AreTwo
  gives_operands = gives_made src _ (λ x. x.0 ∷ x.1) (λ x r. (r.0, r.1))
      (gives_behind src _ (gives_before {C = λ x. Fit 0 n x.0 × Several (Fit 0 n) x.1} src _ (gives_then src k.expression (gives_behind src _ (gives_listed src k.expression)))))

  least_fits : (t : Token) (es : List Expr) → AreTwo es → Fit 8 (suc n) (expression_at t (Least es))
  least_fits t [] r = absurd r
  least_fits t (x ∷ []) r = absurd r.1
  least_fits t (x ∷ y ∷ xs) r =
      let e : Expr = expression_at t (Least (x ∷ y ∷ xs)) in
      fit_as (suc n) 8 e _ (printed-least e (x ∷ y ∷ xs) refl) (omega arith) (plain_least n e x y xs refl r.0 r.1.0 r.1.1)

  greatest_fits : (t : Token) (es : List Expr) → AreTwo es → Fit 8 (suc n) (expression_at t (Greatest es))
  greatest_fits t [] r = absurd r
  greatest_fits t (x ∷ []) r = absurd r.1
  greatest_fits t (x ∷ y ∷ xs) r =
      let e : Expr = expression_at t (Greatest (x ∷ y ∷ xs)) in
      fit_as (suc n) 8 e _ (printed-greatest e (x ∷ y ∷ xs) refl) (omega arith) (plain_greatest n e x y xs refl r.0 r.1.0 r.1.1)

  gives_least : Gives src (IsLeast s) (Fit 8 (suc n))
  gives_least = gives_made src _ (λ x. expression_at x.0 (Least x.1)) (λ x r. least_fits x.0 x.1 r.1) (gives_then src (gives_any src _) gives_operands)

  gives_greatest : Gives src (IsGreatest s) (Fit 8 (suc n))
  gives_greatest = gives_made src _ (λ x. expression_at x.0 (Greatest x.1)) (λ x r. greatest_fits x.0 x.1 r.1) (gives_then src (gives_any src _) gives_operands)

  gives_size : Gives src (IsSize s) (Fit 8 (suc n))
  gives_size = gives_made src _ (λ x. expression_at x.0 (Size x.1))
      (λ x r. fit_as (suc n) 8 (expression_at x.0 (Size x.1)) _ (printed-size (expression_at x.0 (Size x.1)) x.1 refl) (omega arith) (plain_size n (expression_at x.0 (Size x.1)) x.1 refl r.1))
      (gives_then src (gives_any src _) (gives_behind src _ (gives_before src _ k.expression)))

  -- two bounds
  pub gives_bounds : Gives src (AreBounds s) (λ x. Fit 0 n x.0 × Fit 0 n x.1)
  gives_bounds = gives_behind src _ (gives_before {C = λ x. Fit 0 n x.0 × Fit 0 n x.1} src _ (gives_then src k.expression (gives_behind src _ k.expression)))

  pub gives_domain : Gives src (IsDomain s) (FitDomain (suc n))
  gives_domain = gives_either src (gives_made src _ (λ x. Bounds x.0 x.1) (λ x r. fit_bounds n (Bounds x.0 x.1) x.0 x.1 refl r.0 r.1) gives_bounds)
      (gives_either src (gives_made src _ (λ t. DomainBool) (λ t r. fit_bool (suc n) DomainBool refl) (gives_any src _))
      (gives_made src _ NamedDomain (λ m r. fit_named n (NamedDomain m) m refl r) (gives_name src s k.text)))

  quant_fits : (q : Quant) (z : Bound) → IsNamed z.0 × (FitDomain n z.1.0 × Fit 0 n z.1.1) → FitBound (suc n) q z
  quant_fits q z r at =
      let e : Expr = quantified q at z in
      fit_as (suc n) 8 e _ (printed-quant e q z.0 z.1.0 z.1.1 refl) (omega arith) (plain_quant n e q z.0 z.1.0 z.1.1 refl r.0 r.1.0 r.1.1)

  gives_bound_name : Gives src (IsBoundName s) IsNamed
  gives_bound_name = gives_one src _ (λ t x f r. name_fine src t x r.0 (r.2 ∙ ap (λ (w : Text). name_at w t) k.text) f)

  pub gives_bound : (q : Quant) → Gives src (IsBound s q) (FitBound (suc n) q)
  gives_bound q ts z h is = quant_fits q z (gives_then src gives_bound_name (gives_behind src _ (gives_then src k.domain (gives_either src
      (gives_behind src _ (gives_before src _ k.expression))
      (gives_behind src _ (gives_made src _ (λ x. quantified q x.0.at x) (λ x r. fit_lower 0 8 n (quantified q x.0.at x) (omega arith) (r x.0.at)) (k.bound q)))))) ts z h is)

  gives_quantifier_of : (q : Quant) → Gives src (IsQuantifierOf s q) (Fit 8 (suc n))
  gives_quantifier_of q = gives_made src _ (λ x. quantified q x.0.from x.1) (λ x r. r.1 x.0.from) (gives_then src (gives_any src _) (gives_bound q))

  gives_primary : Gives src (IsPrimary s) (Fit 8 (suc n))
  gives_primary =
      gives_either src (gives_number src (suc n)) (gives_either src (gives_truth src (suc n)) (gives_either src gives_path (gives_either src gives_parenthesised (gives_either src gives_group
      (gives_either src (gives_either src (gives_quantifier_of quant.All) (gives_either src (gives_quantifier_of quant.Any) (gives_quantifier_of quant.Sum)))
      (gives_either src gives_pre (gives_either src gives_least (gives_either src gives_greatest gives_size))))))))

  pub gives_operand : Gives src (IsOperand s) (Fit 8 (suc n))
  gives_operand = gives_either src gives_minus (gives_either src gives_not gives_primary)

  -- ---- operations

  link_fits : (p : Precedence) (v : ℕ) → v ≡ suc (chain_level p) → (x : (Token × Op) × Expr) → (precedence_of x.0.1 ≡ p) × Fit v (suc n) x.1 → FitLink (suc n) p (roll-Link (record { op = x.0.1; at = x.0.0.from; with = x.1 }))
  link_fits p v level x r = (r.0, subst (λ (w : ℕ). Fit w (suc n) x.1) (level ∙ ap (λ q. suc (chain_level q)) (sym r.0)) r.1)

  chain_fits : (p : Precedence) (w : ℕ) → w ≡ chain_level p → (x : Expr × List Link) → Fit (suc w) (suc n) x.0 × AllByRecursion (FitLink (suc n) p) x.1 → Fit w (suc n) (chain_of x)
  chain_fits p w level (first, []) r = fit_lower w (suc w) (suc n) first (omega arith) r.0
  chain_fits p w level (first, j ∷ js) r =
      let e : Expr = chain_of (first, j ∷ js) in
      let same : precedence_of j.op ≡ p = r.1.0.0 in
      let here : w ≡ chain_level (precedence_of j.op) = level ∙ ap (λ q. chain_level q) (sym same) in
      fit_as (suc n) w e _ (printed-chain e first (j ∷ js) refl) (omega arith)
      (plain_chain (suc n) e first j js refl (subst (λ (v : ℕ). Fit (suc v) (suc n) first) here r.0) (subst (λ q. AllByRecursion (FitLink (suc n) q) (j ∷ js)) (sym same) r.1))

  gives_chain : (p : Precedence) (w : ℕ) → w ≡ chain_level p → (Operand : Spelling Expr) → Gives src Operand (Fit (suc w) (suc n)) → Gives src (IsChain p Operand) (Fit w (suc n))
  gives_chain p w level Operand each =
      gives_made src _ chain_of (chain_fits p w level) (gives_then src each (gives_many src
      (gives_made src _ (λ x. roll-Link (record { op = x.0.1; at = x.0.0.from; with = x.1 })) (link_fits p (suc w) (ap suc level))
      (gives_then src (gives_one src (λ t (x : Token × Op). (t.kind ≡ kind.Mark (mark_of x.1)) × (precedence_of x.1 ≡ p) × (x.0 ≡ t)) (λ t x f r. r.1)) each))))

  comparison_fits : (x : Expr × Option ((Token × Cmp) × Expr)) → Fit 6 (suc n) x.0 × OnSome (λ y. Unit {0} × Fit 6 (suc n) y.1) x.1 → Fit 5 (suc n) (comparison_of x)
  comparison_fits (left, None) r = fit_lower 5 6 (suc n) left (omega arith) r.0
  comparison_fits (left, Some y) r =
      let e : Expr = comparison_of (left, Some y) in
      fit_as (suc n) 5 e _ (printed-compare e y.0.1 left y.1 refl) (omega arith) (plain_compare (suc n) e y.0.1 left y.1 refl r.0 r.1.1)

  gives_comparison : (Operand : Spelling Expr) → Gives src Operand (Fit 6 (suc n)) → Gives src (IsComparison Operand) (Fit 5 (suc n))
  gives_comparison Operand each = gives_made src _ comparison_of comparison_fits (gives_then src each (gives_perhaps src (gives_then src (gives_any src _) each)))

  gives_operation : Gives src (IsEquivalence s) (Fit 1 (suc n))
  gives_operation =
      gives_chain precedence.Equivalence 1 refl (IsImplication s) (gives_chain precedence.Implication 2 refl (IsDisjunction s) (gives_chain precedence.Disjunction 3 refl (IsConjunction s)
      (gives_chain precedence.Conjunction 4 refl (IsCompared s) (gives_comparison (IsSum s) (gives_chain precedence.Sum 6 refl (IsProduct s) (gives_chain precedence.Product 7 refl (IsOperand s) gives_operand))))))

  -- ---- choices

  gives_branch : Gives src (IsBranch s) (FitBranch n)
  gives_branch = gives_made src _ (λ x. roll-Branch (record { when = x.0; gives = x.1 })) (λ x r. (r.0, r.1)) (gives_then src k.expression (gives_behind src _ k.expression))

  choice_fits : (x : Token × (Branch × (List Branch × Expr))) → FitBranch n x.1.0 × (AllByRecursion (FitBranch n) x.1.1.0 × Fit 0 n x.1.1.1) → Fit 0 (suc n) (expression_at x.0 (Choice (x.1.0 ∷ x.1.1.0) x.1.1.1))
  choice_fits x r =
      let e : Expr = expression_at x.0 (Choice (x.1.0 ∷ x.1.1.0) x.1.1.1) in
      fit_as (suc n) 0 e _ (printed-choice e (x.1.0 ∷ x.1.1.0) x.1.1.1 refl) (omega arith) (plain_choice n e x.1.0 x.1.1.0 x.1.1.1 refl r.0 r.1.0 r.1.1)

  gives_choice : Gives src (IsChoice s) (Fit 0 (suc n))
  gives_choice = gives_made src _ (λ x. expression_at x.0 (Choice (x.1.0 ∷ x.1.1.0) x.1.1.1)) (λ x r. choice_fits x r.1)
      (gives_then src (gives_any src _) (gives_then src gives_branch (gives_then src (gives_many src (gives_behind src _ gives_branch)) (gives_behind src _ k.expression))))

  pub gives_expression : Gives src (IsExpression s) (Fit 0 (suc n))
  gives_expression = gives_either src gives_choice (λ ts x h is. fit_lower 0 1 (suc n) x (omega arith) (gives_operation ts x h is))

-- ---- at any depth

pub knows : (src : Text) (room depth : ℕ) → Knows src room (scope src (λ t level. true) room depth)
unfolding scope
knows src zero depth = record {
  text = refl;
  operand = λ ts x h is. absurd is;
  expression = λ ts x h is. absurd is;
  domain = λ ts x h is. absurd is;
  bound = λ q ts x h is. absurd is;
}
knows src (suc room) depth =
    let s = scope src (λ t level. true) room (suc depth) in
    let k = knows src room (suc depth) in
    record {
      text = refl;
      operand = gives_operand src room s k;
      expression = gives_expression src room s k;
      domain = gives_domain src room s k;
      bound = gives_bound src room s k;
    }
