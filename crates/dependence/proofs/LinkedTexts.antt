-- In a text that tokens spell each chain has a link.
use Rattle.std.proofs.Common.{◌≡◌, ℕ, zero, suc, Bool, true, ◌&&◌, List, [], ◌∷◌, map, Option, Some, None, refl, sym, subst, ◌∙◌}
use Rattle.std.specs.List.{AllByRecursion, flat_map}
use Rattle.hll_lexer.specs.declared.token.Reserved.{Reserved}
use Rattle.hll_lexer.specs.declared.token.Reserved.TheVariants as reserved
use Rattle.hll_lexer.specs.declared.token.Token.{Token}
use Rattle.hll_tree.specs.Printing.{Text}
use Rattle.hll_tree.specs.declared.tree.Branch.{Branch, roll-Branch}
use Rattle.hll_tree.specs.declared.tree.Cmp.{Cmp}
use Rattle.hll_tree.specs.declared.tree.Def.{Def}
use Rattle.hll_tree.specs.declared.tree.Domain.{Domain, Bounds, Bool as Truths, Named}
use Rattle.hll_tree.specs.declared.tree.Expr.{Expr, roll-Expr}
use Rattle.hll_tree.specs.declared.tree.Form.{Number, Truth, Path, Minus, Not, Choice, Group, Pre, Least, Greatest, Size}
use Rattle.hll_tree.specs.declared.tree.Link.{Link, roll-Link}
use Rattle.hll_tree.specs.declared.tree.Name.{Name}
use Rattle.hll_tree.specs.declared.tree.Part.{Part}
use Rattle.hll_tree.specs.declared.tree.Part.TheVariants as part
use Rattle.hll_tree.specs.declared.tree.Precedence.{Precedence}
use Rattle.hll_tree.specs.declared.tree.Precedence.TheVariants as precedence
use Rattle.hll_tree.specs.declared.tree.Quant.{Quant}
use Rattle.hll_tree.specs.declared.tree.Quant.TheVariants as quant
use Rattle.hll_tree.specs.declared.tree.Reach.{Reach, At, Field}
use Rattle.hll_tree.specs.declared.tree.Section.{Section}
use Rattle.hll_tree.specs.declared.tree.Section.TheVariants as section
use Rattle.hll_tree.specs.Spells.{Spelling, Limit, Scope, scope, expression_at, IsNumber, IsTruth, IsPath, IsParenthesised, IsGroup, IsMinus, IsNot, IsPre, AreOperands, IsLeast, IsGreatest, IsSize, AreBounds, IsDomain, quantified, Bound, IsBoundName, IsBound, IsQuantifierOf, IsPrimary, IsOperand, IsChain, chain_of, IsComparison, comparison_of, IsOperation, IsBranch, IsChoice, IsExpression, IsLeftSide, part_of, IsPlainDefinition, IsMemoryDefinition, IsDefinition, IsSectionOf, IsSection, IsModel}
use Rattle.hll_tree.proofs.FineTokens.{tokens_fine}
use Rattle.hll_tree.proofs.GivenExpressions.{gives_any}
use Rattle.hll_tree.proofs.Gives.{Gives, OnSome, Several, all_append, all_of_some, gives_one, gives_then, gives_made, gives_either, gives_behind, gives_before, gives_perhaps, gives_many, gives_listed}
use Rattle.hll_meaning.specs.Runs.{definitions_in, constraints_in, obligations_in}
use Rattle.hll_meaning.specs.StaticRules.{part_expressions}
use Rattle.dependence.specs.Laws.{SpelledTextsAreLinked}
use Rattle.dependence.specs.Links.{all_linked, linked}
use Rattle.dependence.proofs.Linked.{domain_linked, reach_linked, branch_linked, link_linked, form-number, form-truth, form-path, form-chain, form-compare, form-minus, form-not, form-choice, form-group, form-quantified, form-pre_alone, form-pre_with, form-least, form-greatest, form-size, form-bounds, form-truths, form-named, form-at, form-field}

-- ---- what is said of each part

abbrev pub IsLinked : Expr → Type 0
IsLinked e = linked e ≡ true

abbrev AreLinked : List Expr → Type 0
AreLinked = AllByRecursion IsLinked

abbrev IsLinkedStep : Reach → Type 0
IsLinkedStep r = reach_linked r ≡ true

abbrev IsLinkedDomain : Domain → Type 0
IsLinkedDomain d = domain_linked d ≡ true

-- a bind with its domain and what it is over
abbrev IsLinkedBind : Bound → Type 0
IsLinkedBind z = IsLinkedDomain z.1.0 × IsLinked z.1.1

both_so : (a b : Bool) → a ≡ true → b ≡ true → (a && b) ≡ true
both_so a b h k = λ i. h i && k i

each_so : {A : Type 0} (f : A → Bool) (xs : List A) → AllByRecursion (λ x. f x ≡ true) xs → all_linked (map f xs) ≡ true
each_so f [] h = refl
each_so f (x ∷ xs) h = both_so (f x) (all_linked (map f xs)) h.0 (each_so f xs h.1)

indices_so : (es : List Expr) → AreLinked es → AllByRecursion IsLinkedStep (map At es)
indices_so [] h = tt
indices_so (e ∷ es) h = (form-at e ∙ h.0, indices_so es h.1)

steps_so : (rss : List (List Reach)) → AllByRecursion (AllByRecursion IsLinkedStep) rss → AllByRecursion IsLinkedStep (flat_map (λ rs. rs) rss)
steps_so [] h = tt
steps_so (rs ∷ rss) h = all_append IsLinkedStep rs (flat_map (λ rs. rs) rss) h.0 (steps_so rss h.1)

path_so : (n : Name) (rss : List (List Reach)) → AllByRecursion (AllByRecursion IsLinkedStep) rss → IsLinked (roll-Expr (record { at = n.at; form = Path n (flat_map (λ rs. rs) rss) }))
path_so n rss h =
    let rs : List Reach = flat_map (λ rs. rs) rss in
    let e : Expr = roll-Expr (record { at = n.at; form = Path n rs }) in
    form-path e n rs refl ∙ each_so reach_linked rs (steps_so rss h)

group_so : (t : Token) (es : List Expr) → AreLinked es → IsLinked (expression_at t (Group es))
group_so t es h = let e : Expr = expression_at t (Group es) in form-group e es refl ∙ each_so linked es h

least_so : (t : Token) (es : List Expr) → AreLinked es → IsLinked (expression_at t (Least es))
least_so t es h = let e : Expr = expression_at t (Least es) in form-least e es refl ∙ each_so linked es h

greatest_so : (t : Token) (es : List Expr) → AreLinked es → IsLinked (expression_at t (Greatest es))
greatest_so t es h = let e : Expr = expression_at t (Greatest es) in form-greatest e es refl ∙ each_so linked es h

pre_so : (t : Token) (body : Expr) (first : Option Expr) → IsLinked body → OnSome IsLinked first → IsLinked (expression_at t (Pre body first))
pre_so t body None h k = let e : Expr = expression_at t (Pre body None) in form-pre_alone e body refl ∙ h
pre_so t body (Some first) h k = let e : Expr = expression_at t (Pre body (Some first)) in form-pre_with e body first refl ∙ both_so (linked body) (linked first) h k

quantified_so : (q : Quant) (at : ℕ) (z : Bound) → IsLinkedBind z → IsLinked (quantified q at z)
quantified_so q at z h = form-quantified (quantified q at z) q z.0 z.1.0 z.1.1 refl ∙ both_so (domain_linked z.1.0) (linked z.1.1) h.0 h.1

chain_so : (x : Expr × List Link) → IsLinked x.0 × AllByRecursion (λ l. link_linked l ≡ true) x.1 → IsLinked (chain_of x)
chain_so (first, []) h = h.0
chain_so (first, l ∷ ls) h =
    let e : Expr = chain_of (first, l ∷ ls) in
    let all = each_so link_linked (l ∷ ls) h.1 in
    form-chain e first (l ∷ ls) refl ∙ (λ i. h.0 i && true && all i)

comparison_so : (x : Expr × Option ((Token × Cmp) × Expr)) → IsLinked x.0 × OnSome (λ y. Unit {0} × IsLinked y.1) x.1 → IsLinked (comparison_of x)
comparison_so (left, None) h = h.0
comparison_so (left, Some y) h =
    let e : Expr = comparison_of (left, Some y) in
    form-compare e y.0.1 left y.1 refl ∙ both_so (linked left) (linked y.1) h.0 h.1.1

choice_so : (t : Token) (b : Branch) (bs : List Branch) (last : Expr) → branch_linked b ≡ true → AllByRecursion (λ b. branch_linked b ≡ true) bs → IsLinked last → IsLinked (expression_at t (Choice (b ∷ bs) last))
choice_so t b bs last first others h =
    let e : Expr = expression_at t (Choice (b ∷ bs) last) in
    form-choice e (b ∷ bs) last refl ∙ both_so (all_linked (map branch_linked (b ∷ bs))) (linked last) (each_so branch_linked (b ∷ bs) (first, others)) h

-- ---- what tokens give

nothing_known : {A : Type 0} (src : Text) (P : Spelling A) → Gives src P (λ x. Unit {0})
nothing_known src P ts x h is = tt

gives_number : (src : Text) → Gives src IsNumber IsLinked
gives_number src = gives_one src _ (λ t x f r. subst IsLinked (sym r.2) (form-number (expression_at t (Number r.0)) r.0 refl))

gives_truth : (src : Text) → Gives src IsTruth IsLinked
gives_truth src = gives_one src _ (λ t x f r. subst IsLinked (sym r.2) (form-truth (expression_at t (Truth r.0)) r.0 refl))

-- what is known of what stands inside
record Knows (src : Text) (s : Scope) : Type 0 where
  operand : Gives src s.operand IsLinked
  expression : Gives src s.expression IsLinked
  domain : Gives src s.domain IsLinkedDomain
  bound : (q : Quant) → Gives src (s.bound q) IsLinkedBind

module _ (src : Text) (s : Scope) (k : Knows src s) where
  gives_path : Gives src (IsPath s) IsLinked
  gives_path = gives_made src IsLinked (λ x. roll-Expr (record { at = x.0.at; form = Path x.0 (flat_map (λ rs. rs) x.1) })) (λ x r. path_so x.0 x.1 r.1)
      (gives_then src (gives_any src _) (gives_many src (gives_either src
      (gives_made src (AllByRecursion IsLinkedStep) (λ es. map At es) (λ es r. indices_so es (all_of_some IsLinked es r)) (gives_behind src _ (gives_before {C = Several IsLinked} src _ (gives_listed src k.expression))))
      (gives_made src (AllByRecursion IsLinkedStep) (λ n. Field n ∷ []) (λ n r. (form-field n, tt)) (gives_behind src _ (gives_any src _))))))

  gives_parenthesised : Gives src (IsParenthesised s) IsLinked
  gives_parenthesised = gives_behind src _ (gives_before src _ k.expression)

  gives_group : Gives src (IsGroup s) IsLinked
  gives_group = gives_made src IsLinked (λ x. expression_at x.0 (Group x.1)) (λ x r. group_so x.0 x.1 (all_of_some IsLinked x.1 r.1))
      (gives_then src (gives_any src _) (gives_before {C = Several IsLinked} src _ (gives_listed src k.expression)))

  gives_minus : Gives src (IsMinus s) IsLinked
  gives_minus = gives_made src IsLinked (λ x. expression_at x.0 (Minus x.1)) (λ x r. form-minus (expression_at x.0 (Minus x.1)) x.1 refl ∙ r.1) (gives_then src (gives_any src _) k.operand)

  gives_not : Gives src (IsNot s) IsLinked
  gives_not = gives_made src IsLinked (λ x. expression_at x.0 (Not x.1)) (λ x r. form-not (expression_at x.0 (Not x.1)) x.1 refl ∙ r.1) (gives_then src (gives_any src _) k.operand)

  gives_pre : Gives src (IsPre s) IsLinked
  gives_pre = gives_made src IsLinked (λ x. expression_at x.0 (Pre x.1.0 x.1.1)) (λ x r. pre_so x.0 x.1.0 x.1.1 r.1.0 r.1.1)
      (gives_then src (gives_any src _) (gives_behind src _ (gives_before {C = λ x. IsLinked x.0 × OnSome IsLinked x.1} src _ (gives_then src k.expression (gives_perhaps src (gives_behind src _ k.expression))))))

  gives_operands : Gives src (AreOperands s) AreLinked
  gives_operands = gives_made src AreLinked (λ x. x.0 ∷ x.1) (λ x r. (r.0, all_of_some IsLinked x.1 r.1))
      (gives_behind src _ (gives_before {C = λ x. IsLinked x.0 × Several IsLinked x.1} src _ (gives_then src k.expression (gives_behind src _ (gives_listed src k.expression)))))

  gives_least : Gives src (IsLeast s) IsLinked
  gives_least = gives_made src IsLinked (λ x. expression_at x.0 (Least x.1)) (λ x r. least_so x.0 x.1 r.1) (gives_then src (gives_any src _) gives_operands)

  gives_greatest : Gives src (IsGreatest s) IsLinked
  gives_greatest = gives_made src IsLinked (λ x. expression_at x.0 (Greatest x.1)) (λ x r. greatest_so x.0 x.1 r.1) (gives_then src (gives_any src _) gives_operands)

  gives_size : Gives src (IsSize s) IsLinked
  gives_size = gives_made src IsLinked (λ x. expression_at x.0 (Size x.1)) (λ x r. form-size (expression_at x.0 (Size x.1)) x.1 refl ∙ r.1)
      (gives_then src (gives_any src _) (gives_behind src _ (gives_before src _ k.expression)))

  gives_bounds : Gives src (AreBounds s) (λ x. IsLinked x.0 × IsLinked x.1)
  gives_bounds = gives_behind src _ (gives_before {C = λ x. IsLinked x.0 × IsLinked x.1} src _ (gives_then src k.expression (gives_behind src _ k.expression)))

  gives_domain : Gives src (IsDomain s) IsLinkedDomain
  gives_domain = gives_either src (gives_made src IsLinkedDomain (λ x. Bounds x.0 x.1) (λ x r. form-bounds x.0 x.1 ∙ both_so (linked x.0) (linked x.1) r.0 r.1) gives_bounds)
      (gives_either src (gives_made src IsLinkedDomain (λ t. Truths) (λ t r. form-truths) (gives_any src _))
      (gives_made src IsLinkedDomain Named (λ n r. form-named n) (gives_any src _)))

  gives_bound : (q : Quant) → Gives src (IsBound s q) IsLinkedBind
  gives_bound q ts z h is = (gives_then src (nothing_known src (IsBoundName s)) (gives_behind src _ (gives_then src k.domain (gives_either src
      (gives_behind src _ (gives_before src _ k.expression))
      (gives_behind src _ (gives_made src IsLinked (λ x. quantified q x.0.at x) (λ x r. quantified_so q x.0.at x r) (k.bound q)))))) ts z h is).1

  gives_quantifier_of : (q : Quant) → Gives src (IsQuantifierOf s q) IsLinked
  gives_quantifier_of q = gives_made src IsLinked (λ x. quantified q x.0.from x.1) (λ x r. quantified_so q x.0.from x.1 r.1) (gives_then src (gives_any src _) (gives_bound q))

  gives_primary : Gives src (IsPrimary s) IsLinked
  gives_primary =
      gives_either src (gives_number src) (gives_either src (gives_truth src) (gives_either src gives_path (gives_either src gives_parenthesised (gives_either src gives_group
      (gives_either src (gives_either src (gives_quantifier_of quant.All) (gives_either src (gives_quantifier_of quant.Any) (gives_quantifier_of quant.Sum)))
      (gives_either src gives_pre (gives_either src gives_least (gives_either src gives_greatest gives_size))))))))

  gives_operand : Gives src (IsOperand s) IsLinked
  gives_operand = gives_either src gives_minus (gives_either src gives_not gives_primary)

  -- ---- operations

  gives_chain : (p : Precedence) (Operand : Spelling Expr) → Gives src Operand IsLinked → Gives src (IsChain p Operand) IsLinked
  gives_chain p Operand each =
      gives_made src IsLinked chain_of chain_so (gives_then src each (gives_many src
      (gives_made src (λ l. link_linked l ≡ true) (λ x. roll-Link (record { op = x.0.1; at = x.0.0.from; with = x.1 })) (λ x r. r.1) (gives_then src (gives_any src _) each))))

  gives_comparison : (Operand : Spelling Expr) → Gives src Operand IsLinked → Gives src (IsComparison Operand) IsLinked
  gives_comparison Operand each = gives_made src IsLinked comparison_of comparison_so (gives_then src each (gives_perhaps src (gives_then src (gives_any src _) each)))

  gives_operation : Gives src (IsOperation (IsOperand s)) IsLinked
  gives_operation =
      gives_chain precedence.Equivalence _ (gives_chain precedence.Implication _ (gives_chain precedence.Disjunction _ (gives_chain precedence.Conjunction _
      (gives_comparison _ (gives_chain precedence.Sum _ (gives_chain precedence.Product _ gives_operand))))))

  -- ---- choices

  gives_branch : Gives src (IsBranch s) (λ b. branch_linked b ≡ true)
  gives_branch = gives_made src (λ b. branch_linked b ≡ true) (λ x. roll-Branch (record { when = x.0; gives = x.1 })) (λ x r. both_so (linked x.0) (linked x.1) r.0 r.1) (gives_then src k.expression (gives_behind src _ k.expression))

  gives_choice : Gives src (IsChoice s) IsLinked
  gives_choice = gives_made src IsLinked (λ x. expression_at x.0 (Choice (x.1.0 ∷ x.1.1.0) x.1.1.1)) (λ x r. choice_so x.0 x.1.0 x.1.1.0 x.1.1.1 r.1.0 r.1.1.0 r.1.1.1)
      (gives_then src (gives_any src _) (gives_then src gives_branch (gives_then src (gives_many src (gives_behind src _ gives_branch)) (gives_behind src _ k.expression))))

  gives_expression : Gives src (IsExpression s) IsLinked
  gives_expression = gives_either src gives_choice gives_operation

-- ---- at any depth

knows : (src text : Text) (limit : Limit) (room depth : ℕ) → Knows src (scope text limit room depth)
unfolding scope
knows src text limit zero depth = record {
  operand = λ ts x h is. absurd is;
  expression = λ ts x h is. absurd is;
  domain = λ ts x h is. absurd is;
  bound = λ q ts x h is. absurd is;
}
knows src text limit (suc room) depth =
    let s = scope text limit room (suc depth) in
    let k = knows src text limit room (suc depth) in
    record {
      operand = gives_operand src s k;
      expression = gives_expression src s k;
      domain = gives_domain src s k;
      bound = gives_bound src s k;
    }

-- ---- definitions and sections

abbrev IsLinkedPart : Part → Type 0
IsLinkedPart p = AllByRecursion (λ e. linked e ≡ true) (part_expressions p)

abbrev IsLinkedDefinition : Def → Type 0
IsLinkedDefinition d = IsLinkedPart d.part

part_so : (x : Expr × Option Expr) → IsLinked x.0 × OnSome IsLinked x.1 → IsLinkedPart (part_of x)
part_so (e, None) h = (h.0, tt)
part_so (e, Some f) h = (h.0, (h.1, tt))

abbrev IsLinkedSection : Section → Type 0
IsLinkedSection (section.Constants items) = Unit {0}
IsLinkedSection (section.Types items) = Unit {0}
IsLinkedSection (section.Inputs decls) = Unit {0}
IsLinkedSection (section.Declarations decls) = Unit {0}
IsLinkedSection (section.Definitions defs) = AllByRecursion IsLinkedDefinition defs
IsLinkedSection (section.Constraints es) = AreLinked es
IsLinkedSection (section.Obligations es) = AreLinked es

module _ (src : Text) (s : Scope) (k : Knows src s) where
  gives_plain : Gives src (IsPlainDefinition s) IsLinkedDefinition
  gives_plain = gives_made src IsLinkedDefinition _ (λ x r. r.1) (gives_then src (nothing_known src (IsLeftSide s)) (gives_behind src _
      (gives_made src IsLinkedPart part_of part_so (gives_then src (gives_expression src s k) (gives_perhaps src (gives_behind src _ (gives_expression src s k)))))))

  gives_memory : (w : Reserved) (made : Expr → Part) → ((e : Expr) → IsLinked e → IsLinkedPart (made e)) → Gives src (IsMemoryDefinition s w made) IsLinkedDefinition
  gives_memory w made so = gives_made src IsLinkedDefinition _ (λ x r. so x.1.1 r.1.1) (gives_then src (gives_any src _) (gives_then src (nothing_known src _) (gives_behind src _ (gives_expression src s k))))

  gives_definition : Gives src (IsDefinition s) IsLinkedDefinition
  gives_definition = gives_either src gives_plain (gives_either src (gives_memory reserved.First part.First (λ e h. (h, tt))) (gives_memory reserved.Next part.Next (λ e h. (h, tt))))

  gives_section_of : {X : Type 0} {P : Spelling X} (w : Reserved) (made : List X → Section) (C : X → Type 0) → ((xs : List X) → AllByRecursion C xs → IsLinkedSection (made xs)) → Gives src P C → Gives src (IsSectionOf w made P) IsLinkedSection
  gives_section_of w made C so each = gives_behind src _ (gives_behind src _ (gives_made src IsLinkedSection made so (gives_many src (gives_before src _ each))))

  gives_section : Gives src (IsSection s) IsLinkedSection
  gives_section =
      gives_either src (gives_section_of reserved.Constants section.Constants (λ x. Unit {0}) (λ xs r. tt) (nothing_known src _))
      (gives_either src (gives_section_of reserved.Types section.Types (λ x. Unit {0}) (λ xs r. tt) (nothing_known src _))
      (gives_either src (gives_section_of reserved.Inputs section.Inputs (λ x. Unit {0}) (λ xs r. tt) (nothing_known src _))
      (gives_either src (gives_section_of reserved.Declarations section.Declarations (λ x. Unit {0}) (λ xs r. tt) (nothing_known src _))
      (gives_either src (gives_section_of reserved.Definitions section.Definitions IsLinkedDefinition (λ xs r. r) gives_definition)
      (gives_either src (gives_section_of reserved.Constraints section.Constraints IsLinked (λ xs r. r) (gives_expression src s k))
      (gives_behind src _ (gives_section_of reserved.Obligations section.Obligations IsLinked (λ xs r. r) (gives_expression src s k))))))))

  gives_model : Gives src (IsModel s) (λ m. AllByRecursion IsLinkedSection m.sections)
  gives_model = gives_made src (λ m. AllByRecursion IsLinkedSection m.sections) (λ x. record { sections = x }) (λ x r. r) (gives_many src gives_section)

-- ---- texts

of_sections : {A : Type 0} (P : A → Type 0) (take : Section → List A) → ((s : Section) → IsLinkedSection s → AllByRecursion P (take s)) → (ss : List Section) → AllByRecursion IsLinkedSection ss → AllByRecursion P (flat_map take ss)
of_sections P take each [] h = tt
of_sections P take each (s ∷ ss) h = all_append P (take s) (flat_map take ss) (each s h.0) (of_sections P take each ss h.1)

section_definitions : (s : Section) → IsLinkedSection s → AllByRecursion IsLinkedDefinition (definitions_in s)
section_definitions (section.Constants items) h = tt
section_definitions (section.Types items) h = tt
section_definitions (section.Inputs decls) h = tt
section_definitions (section.Declarations decls) h = tt
section_definitions (section.Definitions defs) h = h
section_definitions (section.Constraints es) h = tt
section_definitions (section.Obligations es) h = tt

section_constraints : (s : Section) → IsLinkedSection s → AreLinked (constraints_in s)
section_constraints (section.Constants items) h = tt
section_constraints (section.Types items) h = tt
section_constraints (section.Inputs decls) h = tt
section_constraints (section.Declarations decls) h = tt
section_constraints (section.Definitions defs) h = tt
section_constraints (section.Constraints es) h = h
section_constraints (section.Obligations es) h = tt

section_obligations : (s : Section) → IsLinkedSection s → AreLinked (obligations_in s)
section_obligations (section.Constants items) h = tt
section_obligations (section.Types items) h = tt
section_obligations (section.Inputs decls) h = tt
section_obligations (section.Declarations decls) h = tt
section_obligations (section.Definitions defs) h = tt
section_obligations (section.Constraints es) h = tt
section_obligations (section.Obligations es) h = h

-- a model that a text spells has a link in each chain
pub linked_texts : SpelledTextsAreLinked
linked_texts m h =
    let s = scope h.text h.limit h.spelled.0 0 in
    let all = gives_model h.text s (knows h.text h.text h.limit h.spelled.0 0) h.tokens m (tokens_fine h.text h.tokens h.split) h.spelled.1 in
    record {
      definitions = of_sections IsLinkedDefinition definitions_in section_definitions m.sections all;
      constraints = of_sections IsLinked constraints_in section_constraints m.sections all;
      obligations = of_sections IsLinked obligations_in section_obligations m.sections all;
    }
