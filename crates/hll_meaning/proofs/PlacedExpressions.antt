-- The places of every expression that tokens spell are within those of the tokens, wherever it stands.
use Rattle.std.proofs.Common.{◌≡◌, ℕ, zero, suc, List, [], ◌∷◌, ◌++◌, map, append_assoc, append-nil, Option, Some, None, refl, sym, ap, subst, ◌∙◌, arith}
use Rattle.std.specs.List.{flat_map}
use Rattle.std.proofs.lemmas.List.Concat.{flat_map-append}
use Rattle.hll_lexer.specs.declared.token.Mark.{Mark}
use Rattle.hll_lexer.specs.declared.token.Reserved.{Reserved}
use Rattle.hll_lexer.specs.declared.token.Token.{Token}
use Rattle.hll_tree.specs.declared.tree.Branch.{Branch, roll-Branch}
use Rattle.hll_tree.specs.declared.tree.Cmp.{Cmp}
use Rattle.hll_tree.specs.declared.tree.Domain.{Domain, Bounds, Bool as Truths, Named}
use Rattle.hll_tree.specs.declared.tree.Expr.{Expr, roll-Expr}
use Rattle.hll_tree.specs.declared.tree.Form.{Number, Truth, Path, Minus, Not, Choice, Group, Pre, Least, Greatest, Size}
use Rattle.hll_tree.specs.declared.tree.Link.{Link, roll-Link}
use Rattle.hll_tree.specs.declared.tree.Name.{Name}
use Rattle.hll_tree.specs.declared.tree.Precedence.{Precedence}
use Rattle.hll_tree.specs.declared.tree.Precedence.TheVariants as precedence
use Rattle.hll_tree.specs.declared.tree.Quant.{Quant}
use Rattle.hll_tree.specs.declared.tree.Quant.TheVariants as quant
use Rattle.hll_tree.specs.declared.tree.Reach.{Reach, At, Field}
use Rattle.hll_tree.specs.Spells.{Spelling, Limit, Scope, scope, Opening, Marked, Worded, IsName, IsNumber, IsTruth, named, AreIndices, IsField, IsPath, IsParenthesised, IsGroup, IsMinus, IsNot, IsPre, AreOperands, IsLeast, IsGreatest, IsSize, AreBounds, IsDomain, quantified, Bound, IsBoundName, IsBound, IsQuantifierOf, IsPrimary, IsOperand, IsChain, chain_of, IsComparison, comparison_of, IsOperation, IsBranch, IsChoice, IsExpression, expression_at}
use Rattle.hll_meaning.specs.Judging.{Context, In, for_constant, inside_bind, domain_said}
use Rattle.hll_meaning.specs.Nodes.{nodes}
use Rattle.hll_meaning.proofs.NodeTrees.{domain_in, reach_in}
use Rattle.hll_meaning.proofs.NodeForms.{nodes-number, nodes-truth, nodes-path, nodes-chain, nodes-compare, nodes-minus, nodes-not, nodes-choice, nodes-group, nodes-quantified, nodes-pre_alone, nodes-pre_with, nodes-least, nodes-greatest, nodes-size}
use Rattle.hll_meaning.proofs.PlacesWithin.{times_append, IsAmong, Stand, in_some, stand_one, stand_at, stand_token, stand_same, stand_none, stand_next, stand_then, stand_made, stand_either, stand_behind, stand_before, stand_perhaps, stand_many, stand_listed}
use Rattle.hll_meaning.proofs.PlaceForms.{places_append, places_both, places_each, places, all_places, domain_places, reach_places, branch_places, all_each, branch_each, domain_places-bounds, domain_places-truths, domain_places-named, reach_places-at, reach_places-field, with_own}

-- ---- names and numbers

-- a name has the place of its token
abbrev pub name_place : Name → List ℕ
name_place n = n.at ∷ []

pub stand_name : (s : Scope) → Stand (IsName s) name_place
stand_name s = stand_at _ (λ n. n.at) (λ t x r. ap (λ (n : Name). n.at) r.1)

-- a mark, and one that opens a level; a word
stand_mark : (m : Mark) → Stand (Marked m) (λ t. t.from ∷ [])
stand_mark m = stand_token _ (λ t x r. r.1)

stand_opening : (s : Scope) (m : Mark) → Stand (Opening s m) (λ t. t.from ∷ [])
stand_opening s m = stand_token _ (λ t x r. r.2)

stand_word : (w : Reserved) → Stand (Worded w) (λ t. t.from ∷ [])
stand_word w = stand_token _ (λ t x r. r.1)

-- a name alone, as an expression
pub among_named : (n : Name) (c : Context) → IsAmong (places (named n) c) (name_place n)
among_named n c = with_own (named n) c [] [] (nodes-path (named n) n [] refl c) refl

pub stand_number : (c : Context) → Stand IsNumber (λ e. places e c)
stand_number c = stand_one _ (λ t x r.
    let e = expression_at t (Number r.0) in
    subst (λ y. IsAmong (places y c) (t.from ∷ [])) (sym r.2) (with_own e c [] [] (nodes-number e r.0 refl c) refl))

stand_truth : (c : Context) → Stand IsTruth (λ e. places e c)
stand_truth c = stand_one _ (λ t x r.
    let e = expression_at t (Truth r.0) in
    subst (λ y. IsAmong (places y c) (t.from ∷ [])) (sym r.2) (with_own e c [] [] (nodes-truth e r.0 refl c) refl))

-- ---- what stands between the parts of a chain or a path

-- an operator's place, and those of its operand
abbrev link_places : Link → In (List ℕ)
link_places l c = l.at ∷ places l.with c

-- without the operators' places
links_fewer : (c : Context) (ls : List Link) → IsAmong (flat_map (λ l. places l.with c) ls) (flat_map (λ l. link_places l c) ls)
links_fewer c [] a = omega arith
links_fewer c (l ∷ ls) a =
    let others = links_fewer c ls a in
    omega (
      arith,
      times_append a (places l.with c) (flat_map (λ (k : Link). places k.with c) ls),
      times_append a (link_places l c) (flat_map (λ (k : Link). link_places k c) ls),
    )

-- a chain with a first link
chain_own : (c : Context) (first : Expr) (l : Link) (ls : List Link) →
    IsAmong (places (chain_of (first, l ∷ ls)) c) (l.at ∷ (places first c ++ flat_map (λ k. places k.with c) (l ∷ ls)))
chain_own c first l ls =
    let e = chain_of (first, l ∷ ls) in
    with_own e c _ _ (nodes-chain e first (l ∷ ls) refl c)
    (places_both (nodes first c) _ _ _ refl (places_each (λ (k : Link). nodes k.with c) (λ k. places k.with c) (λ k. refl) (l ∷ ls)))

chain_few : (c : Context) (x : Expr × List Link) → IsAmong (places (chain_of x) c) (places x.0 c ++ flat_map (λ l. link_places l c) x.1)
chain_few c (first, []) a = omega (arith, times_append a (places first c) [])
chain_few c (first, l ∷ ls) a =
    let own = chain_own c first l ls a in
    let others = links_fewer c ls a in
    omega (
      arith,
      times_append a (places first c) (flat_map (λ (k : Link). places k.with c) (l ∷ ls)),
      times_append a (places l.with c) (flat_map (λ (k : Link). places k.with c) ls),
      times_append a (places first c) (flat_map (λ (k : Link). link_places k c) (l ∷ ls)),
      times_append a (link_places l c) (flat_map (λ (k : Link). link_places k c) ls),
    )

comparison_few : (c : Context) (x : Expr × Option ((Token × Cmp) × Expr)) →
    IsAmong (places (comparison_of x) c) (places x.0 c ++ in_some (λ y. y.0.0.from ∷ places y.1 c) x.1)
comparison_few c (left, None) a = omega (arith, times_append a (places left c) [])
comparison_few c (left, Some y) a =
    let e = comparison_of (left, Some y) in
    let own = with_own e c _ _ (nodes-compare e y.0.1 left y.1 refl c) (places_append (nodes left c) (nodes y.1 c)) a in
    omega (arith, times_append a (places left c) (places y.1 c), times_append a (places left c) (y.0.0.from ∷ places y.1 c))

-- all steps of a path, of which those in one pair of brackets stand together
abbrev steps_places : List Reach → In (List ℕ)
steps_places rs c = flat_map (λ r. reach_places r c) rs

steps_together : (c : Context) (rss : List (List Reach)) → steps_places (flat_map (λ rs. rs) rss) c ≡ flat_map (λ rs. steps_places rs c) rss
steps_together c [] = refl
steps_together c (rs ∷ rss) =
    flat_map-append (λ r. reach_places r c) rs (flat_map (λ (qs : List Reach). qs) rss)
    ∙ ap (λ (ps : List ℕ). steps_places rs c ++ ps) (steps_together c rss)

indices_same : (c : Context) (es : List Expr) → steps_places (map At es) c ≡ all_places es c
indices_same c [] = refl
indices_same c (e ∷ es) = λ i. reach_places-at e c i ++ indices_same c es i

path_few : (c : Context) (n : Name) (rss : List (List Reach)) →
    IsAmong (places (roll-Expr (record { at = n.at; form = Path n (flat_map (λ rs. rs) rss) })) c) (n.at ∷ flat_map (λ rs. steps_places rs c) rss)
path_few c n rss =
    let steps = flat_map (λ (rs : List Reach). rs) rss in
    let e = roll-Expr (record { at = n.at; form = Path n steps }) in
    with_own e c _ _ (nodes-path e n steps refl c)
    (places_each (λ r. (reach_in r).nodes c) (λ r. reach_places r c) (λ r. refl) steps ∙ steps_together c rss)

-- ---- with what is known of the parts

-- where the expression behind a bind stands
abbrev inside : Name → Domain → Context → Context
inside n d c = inside_bind n.text (domain_said d c).kind c

-- a bind: its name's place, and those of the domain and of what the quantifier is over
abbrev bound_places : Bound → In (List ℕ)
bound_places z c = z.0.at ∷ (domain_places z.1.0 c ++ places z.1.1 (inside z.0 z.1.0 c))

quantified_few : (c : Context) (q : Quant) (at : ℕ) (z : Bound) →
    IsAmong (places (quantified q at z) c) (at ∷ (domain_places z.1.0 c ++ places z.1.1 (inside z.0 z.1.0 c)))
quantified_few c q at z =
    let e = quantified q at z in
    with_own e c _ _ (nodes-quantified e q z.0 z.1.0 z.1.1 refl c) (places_append ((domain_in z.1.0).nodes c) (nodes z.1.1 (inside z.0 z.1.0 c)))

-- a value before, with one for the first instant or without
pre_few : (c : Context) (t : Token) (body : Expr) (first : Option Expr) →
    IsAmong (places (expression_at t (Pre body first)) c) (t.from ∷ (places body c ++ in_some (λ e. places e c) first))
pre_few c t body None =
    let e = expression_at t (Pre body None) in
    with_own e c _ _ (nodes-pre_alone e body refl c) (sym (append-nil (places body c)))
pre_few c t body (Some first) =
    let e = expression_at t (Pre body (Some first)) in
    with_own e c _ _ (nodes-pre_with e body first refl c) (places_append (nodes body c) (nodes first c))

choice_few : (c : Context) (t : Token) (b : Branch) (bs : List Branch) (last : Expr) →
    IsAmong (places (expression_at t (Choice (b ∷ bs) last)) c) (t.from ∷ (branch_places b c ++ (flat_map (λ d. branch_places d c) bs ++ places last c)))
choice_few c t b bs last =
    let e = expression_at t (Choice (b ∷ bs) last) in
    let branches = places_each (λ (d : Branch). nodes d.when c ++ nodes d.gives c) (λ d. branch_places d c) (branch_each c) (b ∷ bs) in
    with_own e c _ _ (nodes-choice e (b ∷ bs) last refl c)
    (places_both _ (nodes last c) _ _ branches refl ∙ append_assoc (branch_places b c) (flat_map (λ d. branch_places d c) bs) (places last c))

-- what is known of what stands inside, wherever it stands
pub record Knows (s : Scope) : Type 0 where
  pub operand : (c : Context) → Stand s.operand (λ e. places e c)
  pub expression : (c : Context) → Stand s.expression (λ e. places e c)
  pub domain : (c : Context) → Stand s.domain (λ d. domain_places d c)
  pub bound : (q : Quant) (c : Context) → Stand (s.bound q) (λ z. bound_places z c)

-- two bounds
pub stand_bounds : (s : Scope) → Knows s → (c : Context) → Stand (AreBounds s) (λ x. places x.0 c ++ places x.1 c)
stand_bounds s k c = stand_behind _ (stand_before _ (stand_then (k.expression c) (stand_behind _ (k.expression c))))

module _ (s : Scope) (k : Knows s) (c : Context) where
  stand_indices : Stand (AreIndices s) (λ rs. steps_places rs c)
  stand_indices = stand_same _ (λ es. map At es) (indices_same c) (stand_behind _ (stand_before _ (stand_listed (k.expression c))))

  stand_field : Stand (IsField s) (λ rs. steps_places rs c)
  stand_field = stand_same _ (λ n. Field n ∷ []) (λ n. ap (λ (ps : List ℕ). ps ++ []) (reach_places-field n c)) (stand_none _)

  stand_path : Stand (IsPath s) (λ e. places e c)
  stand_path =
      stand_made _ (λ x. roll-Expr (record { at = x.0.at; form = Path x.0 (flat_map (λ rs. rs) x.1) })) (λ x. path_few c x.0 x.1)
      (stand_then (stand_name s) (stand_many (stand_either stand_indices stand_field)))

  pub stand_parenthesised : Stand (IsParenthesised s) (λ e. places e c)
  stand_parenthesised = stand_behind _ (stand_before _ (k.expression c))

  stand_group : Stand (IsGroup s) (λ e. places e c)
  stand_group = stand_made _ (λ x. expression_at x.0 (Group x.1))
      (λ x. with_own _ c _ _ (nodes-group _ x.1 refl c) (all_each x.1 c))
      (stand_then (stand_opening s _) (stand_before _ (stand_listed (k.expression c))))

  stand_minus : Stand (IsMinus s) (λ e. places e c)
  stand_minus = stand_made _ (λ x. expression_at x.0 (Minus x.1))
      (λ x. with_own _ c _ _ (nodes-minus _ x.1 refl c) refl)
      (stand_then (stand_opening s _) (k.operand c))

  stand_not : Stand (IsNot s) (λ e. places e c)
  stand_not = stand_made _ (λ x. expression_at x.0 (Not x.1))
      (λ x. with_own _ c _ _ (nodes-not _ x.1 refl c) refl)
      (stand_then (stand_opening s _) (k.operand c))

  stand_pre : Stand (IsPre s) (λ e. places e c)
  stand_pre = stand_made _ (λ x. expression_at x.0 (Pre x.1.0 x.1.1)) (λ x. pre_few c x.0 x.1.0 x.1.1)
      (stand_then (stand_word _) (stand_behind _ (stand_before _ (stand_then (k.expression c) (stand_perhaps (stand_behind _ (k.expression c)))))))

  stand_operands : Stand (AreOperands s) (λ es. all_places es c)
  stand_operands = stand_same _ (λ x. x.0 ∷ x.1) (λ x. refl)
      (stand_behind _ (stand_before _ (stand_then (k.expression c) (stand_behind _ (stand_listed (k.expression c))))))

  stand_least : Stand (IsLeast s) (λ e. places e c)
  stand_least = stand_made _ (λ x. expression_at x.0 (Least x.1))
      (λ x. with_own _ c _ _ (nodes-least _ x.1 refl c) (all_each x.1 c))
      (stand_then (stand_mark _) stand_operands)

  stand_greatest : Stand (IsGreatest s) (λ e. places e c)
  stand_greatest = stand_made _ (λ x. expression_at x.0 (Greatest x.1))
      (λ x. with_own _ c _ _ (nodes-greatest _ x.1 refl c) (all_each x.1 c))
      (stand_then (stand_mark _) stand_operands)

  stand_size : Stand (IsSize s) (λ e. places e c)
  stand_size = stand_made _ (λ x. expression_at x.0 (Size x.1))
      (λ x. with_own _ c _ _ (nodes-size _ x.1 refl c) refl)
      (stand_then (stand_mark _) (stand_behind _ (stand_before _ (k.expression c))))

  -- the bounds of a domain stand where a constant is needed
  stand_domain : Stand (IsDomain s) (λ d. domain_places d c)
  stand_domain =
      stand_either (stand_same _ (λ x. Bounds x.0 x.1) (λ x. domain_places-bounds x.0 x.1 c) (stand_bounds s k (for_constant c)))
      (stand_either (stand_same _ (λ t. Truths) (λ t. domain_places-truths c) (stand_none _))
      (stand_same _ Named (λ n. domain_places-named n c) (stand_none _)))

  -- ---- quantifiers

  stand_bound_name : Stand (IsBoundName s) name_place
  stand_bound_name = stand_at _ (λ n. n.at) (λ t x r. ap (λ (n : Name). n.at) r.2)

  stand_bound : (q : Quant) → Stand (IsBound s q) (λ z. bound_places z c)
  stand_bound q =
      stand_next (λ n y. domain_places y.0 c ++ places y.1 (inside n y.0 c)) stand_bound_name (λ n.
      stand_behind _ (stand_next (λ d e. places e (inside n d c)) (k.domain c) (λ d.
      let here = inside n d c in
      stand_either
      (stand_behind _ (stand_before _ (k.expression here)))
      (stand_behind _ (stand_made (λ e. places e here) (λ x. quantified q x.0.at x) (λ x. quantified_few here q x.0.at x) (k.bound q here))))))

  -- at its word, and not at the name of its first bind
  word_few : (q : Quant) (at : ℕ) (z : Bound) → IsAmong (places (quantified q at z) c) (at ∷ bound_places z c)
  word_few q at z a = let own = quantified_few c q at z a in omega arith

  stand_quantifier_of : (q : Quant) → Stand (IsQuantifierOf s q) (λ e. places e c)
  stand_quantifier_of q = stand_made _ (λ x. quantified q x.0.from x.1) (λ x. word_few q x.0.from x.1) (stand_then (stand_word _) (stand_bound q))

  stand_primary : Stand (IsPrimary s) (λ e. places e c)
  stand_primary =
      stand_either (stand_number c) (stand_either (stand_truth c) (stand_either stand_path (stand_either stand_parenthesised (stand_either stand_group
      (stand_either (stand_either (stand_quantifier_of quant.All) (stand_either (stand_quantifier_of quant.Any) (stand_quantifier_of quant.Sum)))
      (stand_either stand_pre (stand_either stand_least (stand_either stand_greatest stand_size))))))))

  stand_operand : Stand (IsOperand s) (λ e. places e c)
  stand_operand = stand_either stand_minus (stand_either stand_not stand_primary)

  -- ---- operations

  stand_chain : (p : Precedence) (Operand : Spelling Expr) → Stand Operand (λ e. places e c) → Stand (IsChain p Operand) (λ e. places e c)
  stand_chain p Operand each =
      stand_made _ chain_of (chain_few c) (stand_then each (stand_many
      (stand_same (λ l. link_places l c) (λ x. roll-Link (record { op = x.0.1; at = x.0.0.from; with = x.1 })) (λ x. refl)
      (stand_then (stand_at _ (λ x. x.0.from) (λ t x r. ap (λ (u : Token). u.from) r.2)) each))))

  stand_comparison : (Operand : Spelling Expr) → Stand Operand (λ e. places e c) → Stand (IsComparison Operand) (λ e. places e c)
  stand_comparison Operand each =
      stand_made _ comparison_of (comparison_few c) (stand_then each (stand_perhaps
      (stand_then (stand_at _ (λ x. x.0.from) (λ t x r. ap (λ (u : Token). u.from) r.1)) each)))

  stand_operation : Stand (IsOperation (IsOperand s)) (λ e. places e c)
  stand_operation =
      stand_chain precedence.Equivalence _ (stand_chain precedence.Implication _ (stand_chain precedence.Disjunction _ (stand_chain precedence.Conjunction _
      (stand_comparison _ (stand_chain precedence.Sum _ (stand_chain precedence.Product _ stand_operand))))))

  -- ---- choices

  stand_branch : Stand (IsBranch s) (λ b. branch_places b c)
  stand_branch = stand_same _ (λ x. roll-Branch (record { when = x.0; gives = x.1 })) (λ x. refl)
      (stand_then (k.expression c) (stand_behind _ (k.expression c)))

  stand_choice : Stand (IsChoice s) (λ e. places e c)
  stand_choice = stand_made _ (λ x. expression_at x.0 (Choice (x.1.0 ∷ x.1.1.0) x.1.1.1)) (λ x. choice_few c x.0 x.1.0 x.1.1.0 x.1.1.1)
      (stand_then (stand_token _ (λ t x r. r.2))
      (stand_then stand_branch (stand_then (stand_many (stand_behind _ stand_branch)) (stand_behind _ (k.expression c)))))

  pub stand_expression : Stand (IsExpression s) (λ e. places e c)
  stand_expression = stand_either stand_choice stand_operation

-- ---- at any depth

pub knows : (text : List ℕ) (limit : Limit) (room depth : ℕ) → Knows (scope text limit room depth)
unfolding scope
knows text limit zero depth = record {
  operand = λ c. record { within = λ ts x is. absurd is };
  expression = λ c. record { within = λ ts x is. absurd is };
  domain = λ c. record { within = λ ts x is. absurd is };
  bound = λ q c. record { within = λ ts x is. absurd is };
}
knows text limit (suc room) depth =
    let s = scope text limit room (suc depth) in
    let k = knows text limit room (suc depth) in
    record {
      operand = stand_operand s k;
      expression = stand_expression s k;
      domain = stand_domain s k;
      bound = λ q c. stand_bound s k c q;
    }
