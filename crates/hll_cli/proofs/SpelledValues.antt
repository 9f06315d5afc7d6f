-- A spelled expression that is Boolean is worth what it has in a row, since the operators of a spelled chain bind alike.
use Rattle.std.proofs.Common.{◌≡◌, ℕ, zero, suc, List, [], ◌∷◌, ◌++◌, length, map, Contains, Bool, true, not, Option, Some, None, refl, sym, ap, subst, ◌∙◌}
use Rattle.std.specs.Prelude.{option_map, unwrap_or}
use Rattle.std.specs.List.{AllByRecursion, flat_map, list_all, slice_index_or}
use Rattle.std.proofs.lemmas.Bool.{false≢true}
use Rattle.hll_lexer.specs.declared.token.Reserved.{Reserved}
use Rattle.hll_lexer.specs.declared.token.Reserved.TheVariants as reserved
use Rattle.hll_lexer.specs.declared.token.Token.{Token}
use Rattle.hll_lexer.specs.declared.token.TokenKind.TheVariants as kind
use Rattle.hll_lexer.specs.Tokens.{Splits}
use Rattle.hll_tree.specs.declared.tree.Cmp.{Cmp}
use Rattle.hll_tree.specs.declared.tree.Expr.{Expr}
use Rattle.hll_tree.specs.declared.tree.Form.{Truth, Path, Chain, Minus, Not, Choice, Group, Pre, Least, Greatest, Size}
use Rattle.hll_tree.specs.declared.tree.HllModel.{HllModel}
use Rattle.hll_tree.specs.declared.tree.Link.{Link, roll-Link}
use Rattle.hll_tree.specs.declared.tree.Name.{Name}
use Rattle.hll_tree.specs.declared.tree.Op.{Op}
use Rattle.hll_tree.specs.declared.tree.Precedence.{Precedence}
use Rattle.hll_tree.specs.declared.tree.Precedence.TheVariants as precedence
use Rattle.hll_tree.specs.declared.tree.Quant.{Quant}
use Rattle.hll_tree.specs.declared.tree.Quant.TheVariants as quant
use Rattle.hll_tree.specs.declared.tree.Reach.{Reach}
use Rattle.hll_tree.specs.declared.tree.Section.{Section}
use Rattle.hll_tree.specs.declared.tree.Section.TheVariants as section
use Rattle.hll_tree.specs.Spells.{Spelling, Scope, Limit, Made, scope, expression_at, IsNumber, IsTruth, IsPath, IsMinus, IsNot, quantified, IsQuantifierOf, IsPrimary, IsOperand, mark_of, precedence_of, IsChain, chain_of, IsComparison, comparison_of, IsOperation, IsChoice, IsExpression, IsConstant, IsTypeItem, IsDecl, IsDefinition, IsSectionOf, IsSection, IsModel, SpellsUnder}
use Rattle.hll_tree.proofs.FineTokens.{tokens_fine}
use Rattle.hll_tree.proofs.Gives.{Gives, gives_one, gives_then, gives_made, gives_either, gives_behind, gives_before, gives_many}
use Rattle.hll_meaning.specs.Kinds.{Value, Typed}
use Rattle.hll_meaning.specs.Names.{Thing, Names, under}
use Rattle.hll_meaning.specs.Runs.{obligations, obligations_in}
use Rattle.hll_meaning.specs.Values.{Instant, Scene, of_truth, is_true, variable_in, chained, bound_value, thing_value, path_value, worth}
use Rattle.hll_meaning.proofs.WorthForms.{link_worth, worth-truth, worth-path, worth-not, worth-chain}
use Rattle.hll_cli.specs.Accepted.{is_boolean_link}
use Rattle.hll_cli.specs.BooleanTexts.{is_boolean, is_boolean_op, names_in, UsesOnly}
use Rattle.hll_cli.specs.Report.{instant_of}
use Rattle.hll_cli.specs.Table.{value_in, value_at}
use Rattle.hll_cli.proofs.Booleans.{boolean_not, boolean_reaching, boolean_chain, not_number, not_compare, not_minus, not_choice, not_group, not_quant, not_pre, not_least, not_greatest, not_size}
use Rattle.hll_cli.proofs.BuiltTexts.{and_both, as_input}
use Rattle.hll_cli.proofs.Columns.{all_front, all_back, all_append, not_used, path_used}
use Rattle.hll_cli.proofs.RowValues.{link_value, value_in-truth, value_in-path, value_in-not, value_in-chain, names_in-chain}
use Rattle.hll_cli.proofs.TruthValues.{is_true-of_truth, input_stands, input_value, as_numbers, IsBooleanAt, chain_agrees}

-- expressions stand at the instant with these values of the inputs
pub record Stands (ns : List (List ℕ)) (xs : List Bool) (s : Scene) : Type 0 where
  pub bound : s.bound ≡ []
  pub named : s.names ≡ map as_input ns
  pub here : slice_index_or s.history s.time [] ≡ instant_of xs
  pub long : length xs ≡ length ns

-- a Boolean expression over the inputs is worth what it has in the row of their values
abbrev pub Agrees : List (List ℕ) → Expr → Type 0
Agrees ns e = (xs : List Bool) (s : Scene) → Stands ns xs s → is_boolean e ≡ true → UsesOnly ns e → worth e s ≡ of_truth (value_in (value_at ns xs) e)

-- ---- one level

input_worth : (ns : List (List ℕ)) (xs : List Bool) (s : Scene) → Stands ns xs s → (n : List ℕ) → Contains ns n → path_value n [] s ≡ of_truth (value_at ns xs n)
input_worth ns xs s at n there =
    ap (λ (b : List (List ℕ × _)). bound_value (under n b) (thing_value n [] s (under n s.names))) at.bound
    ∙ ap (λ (u : Option Thing). unwrap_or (thing_value n [] s u) []) (ap (λ (k : Names). under n k) at.named ∙ input_stands ns n there)
    ∙ ap (λ (k : Names). unwrap_or (option_map (λ t. t.value) (variable_in k (slice_index_or s.history s.time []) n)) []) at.named
    ∙ ap (λ (i : Instant). unwrap_or (option_map (λ t. t.value) (variable_in (map as_input ns) i n)) []) at.here
    ∙ ap (λ (v : Option Typed). unwrap_or (option_map (λ t. t.value) v) []) (input_value ns xs n at.long there)

truth_agrees : (ns : List (List ℕ)) (e : Expr) (b : Bool) → e.form ≡ Truth b → Agrees ns e
truth_agrees ns e b is xs s at boolean uses = worth-truth e b is s ∙ ap of_truth (sym (value_in-truth (value_at ns xs) e b is))

path_agrees : (ns : List (List ℕ)) (e : Expr) (n : Name) (rs : List Reach) → e.form ≡ Path n rs → Agrees ns e
path_agrees ns e n [] is xs s at boolean uses =
    worth-path e n [] is s ∙ input_worth ns xs s at n.text (path_used ns e n [] is uses) ∙ ap of_truth (sym (value_in-path (value_at ns xs) e n [] is))
path_agrees ns e n (r ∷ rs) is xs s at boolean uses = absurd (false≢true (sym (boolean_reaching e n r rs is) ∙ boolean))

not_agrees : (ns : List (List ℕ)) (e inner : Expr) → e.form ≡ Not inner → Agrees ns inner → Agrees ns e
not_agrees ns e inner is agrees xs s at boolean uses =
    worth-not e inner is s
    ∙ ap (λ (v : Value). of_truth (not (is_true v))) (agrees xs s at (sym (boolean_not e inner is) ∙ boolean) (not_used ns e inner is uses))
    ∙ ap (λ b. of_truth (not b)) (is_true-of_truth (value_in (value_at ns xs) inner))
    ∙ ap of_truth (sym (value_in-not (value_at ns xs) e inner is))

-- an operator of this level of precedence, and a right operand that agrees
abbrev LinkAgrees : List (List ℕ) → Precedence → Link → Type 0
LinkAgrees ns p l = (precedence_of l.op ≡ p) × Agrees ns l.with

-- the names of right operands
abbrev links_names : List Link → List (List ℕ)
links_names = flat_map (λ l. names_in l.with)

links_agree : (ns : List (List ℕ)) (p : Precedence) (xs : List Bool) (s : Scene) → Stands ns xs s → (links : List Link) → AllByRecursion (LinkAgrees ns p) links →
    list_all is_boolean_link links ≡ true → AllByRecursion (Contains ns) (links_names links) →
    map (λ l. (l.0, l.1 s)) (map link_worth links) ≡ map as_numbers (map (link_value (value_at ns xs)) links)
links_agree ns p xs s at [] all boolean uses = refl
links_agree ns p xs s at (l ∷ ls) all boolean uses =
    let both = and_both (is_boolean_link l) (list_all is_boolean_link ls) boolean in
    let here = and_both (is_boolean_op l.op) (is_boolean l.with) both.0 in
    ap (λ (v : Value). (l.op, v) ∷ map (λ l. (l.0, l.1 s)) (map link_worth ls)) (all.0.1 xs s at here.1 (all_front (Contains ns) (names_in l.with) (links_names ls) uses))
    ∙ ap (λ (ys : List (Op × Value)). as_numbers (link_value (value_at ns xs) l) ∷ ys)
    (links_agree ns p xs s at ls all.1 both.1 (all_back (Contains ns) (names_in l.with) (links_names ls) uses))

links_bind_alike : (ns : List (List ℕ)) (p : Precedence) (xs : List Bool) (links : List Link) → AllByRecursion (LinkAgrees ns p) links → list_all is_boolean_link links ≡ true →
    AllByRecursion (λ y. IsBooleanAt p y.0) (map (link_value (value_at ns xs)) links)
links_bind_alike ns p xs [] all boolean = tt
links_bind_alike ns p xs (l ∷ ls) all boolean =
    let both = and_both (is_boolean_link l) (list_all is_boolean_link ls) boolean in
    let here = and_both (is_boolean_op l.op) (is_boolean l.with) both.0 in
    ((all.0.0, here.0), links_bind_alike ns p xs ls all.1 both.1)

chain_agrees_by : (ns : List (List ℕ)) (p : Precedence) (e first : Expr) (links : List Link) → e.form ≡ Chain first links → Agrees ns first → AllByRecursion (LinkAgrees ns p) links → Agrees ns e
chain_agrees_by ns p e first links is agrees all xs s at boolean uses =
    let both = and_both (is_boolean first) (list_all is_boolean_link links) (sym (boolean_chain e first links is) ∙ boolean) in
    let used : AllByRecursion (Contains ns) (names_in first ++ links_names links) = rw (names_in-chain e first links is) at uses in
    worth-chain e first links is s
    ∙ ap (λ (v : Value). chained v (map (λ l. (l.0, l.1 s)) (map link_worth links))) (agrees xs s at both.0 (all_front (Contains ns) (names_in first) (links_names links) used))
    ∙ ap (λ (ys : List (Op × Value)). chained (of_truth (value_in (value_at ns xs) first)) ys)
    (links_agree ns p xs s at links all both.1 (all_back (Contains ns) (names_in first) (links_names links) used))
    ∙ chain_agrees p (value_in (value_at ns xs) first) (map (link_value (value_at ns xs)) links) (links_bind_alike ns p xs links all both.1)
    ∙ ap of_truth (sym (value_in-chain (value_at ns xs) e first links is))

-- what isn't Boolean agrees
abbrev agrees_never : (ns : List (List ℕ)) (e : Expr) → (is_boolean e ≡ true → ⊥) → Agrees ns e
agrees_never ns e never xs s at boolean uses = absurd (never boolean)

-- ---- what is spelled in a scope

module _ (src : List ℕ) (ns : List (List ℕ)) where
  -- what is spelled inside its level agrees
  record Knows (z : Scope) : Type 1 where
    operand : Gives src z.operand (Agrees ns)
    expression : Gives src z.expression (Agrees ns)

  gives_never : {A : Type 0} (P : Spelling A) (f : A → Expr) → ((x : A) → is_boolean (f x) ≡ true → ⊥) → Gives src (Made f P) (Agrees ns)
  gives_never P f never ts e h is = subst (Agrees ns) (sym is.2) (agrees_never ns (f is.0) (never is.0))

  gives_number : Gives src IsNumber (Agrees ns)
  gives_number ts e h is = agrees_never ns e (not_number e is.2.0 (ap (λ (e : Expr). e.form) is.2.2))

  gives_truth : Gives src IsTruth (Agrees ns)
  gives_truth ts e h is = truth_agrees ns e is.2.0 (ap (λ (e : Expr). e.form) is.2.2)

  gives_path : (z : Scope) → Gives src (IsPath z) (Agrees ns)
  gives_path z ts e h is = path_agrees ns e is.0.0 (flat_map (λ rs. rs) is.0.1) (ap (λ (e : Expr). e.form) is.2)

  gives_quantifier_of : (z : Scope) (q : Quant) → Gives src (IsQuantifierOf z q) (Agrees ns)
  gives_quantifier_of z q = gives_never _ (λ x. quantified q x.0.from x.1) (λ x. not_quant (quantified q x.0.from x.1) q x.1.0 x.1.1.0 x.1.1.1 refl)

  -- ---- operations

  chain_so : (p : Precedence) (x : Expr × List Link) → Agrees ns x.0 × AllByRecursion (LinkAgrees ns p) x.1 → Agrees ns (chain_of x)
  chain_so p (first, []) r = r.0
  chain_so p (first, l ∷ ls) r = chain_agrees_by ns p (chain_of (first, l ∷ ls)) first (l ∷ ls) refl r.0 r.1

  link_so : (p : Precedence) (x : (Token × Op) × Expr) → (precedence_of x.0.1 ≡ p) × Agrees ns x.1 → LinkAgrees ns p (roll-Link (record { op = x.0.1; at = x.0.0.from; with = x.1 }))
  link_so p x r = (r.0, r.1)

  gives_chain : (p : Precedence) (Operand : Spelling Expr) → Gives src Operand (Agrees ns) → Gives src (IsChain p Operand) (Agrees ns)
  gives_chain p Operand each =
      gives_made src (Agrees ns) chain_of (chain_so p) (gives_then src each (gives_many src
      (gives_made src (LinkAgrees ns p) (λ x. roll-Link (record { op = x.0.1; at = x.0.0.from; with = x.1 })) (link_so p)
      (gives_then src (gives_one src (λ t (x : Token × Op). (t.kind ≡ kind.Mark (mark_of x.1)) × (precedence_of x.1 ≡ p) × (x.0 ≡ t)) (λ t x f r. r.1)) each))))

  comparison_so : (x : Expr × Option ((Token × Cmp) × Expr)) → Agrees ns x.0 → Agrees ns (comparison_of x)
  comparison_so (left, None) r = r
  comparison_so (left, Some y) r = agrees_never ns (comparison_of (left, Some y)) (not_compare (comparison_of (left, Some y)) y.0.1 left y.1 refl)

  gives_comparison : (Operand : Spelling Expr) → Gives src Operand (Agrees ns) → Gives src (IsComparison Operand) (Agrees ns)
  gives_comparison Operand each =
      gives_made src (Agrees ns) comparison_of (λ x r. comparison_so x r.0) (gives_then {D = λ x. Unit {0}} src each (λ ts x h is. tt))

  gives_operation : (Operand : Spelling Expr) → Gives src Operand (Agrees ns) → Gives src (IsOperation Operand) (Agrees ns)
  gives_operation Operand each =
      gives_chain precedence.Equivalence _ (gives_chain precedence.Implication _ (gives_chain precedence.Disjunction _ (gives_chain precedence.Conjunction _
      (gives_comparison _ (gives_chain precedence.Sum _ (gives_chain precedence.Product Operand each))))))

  -- ---- expressions

  module _ (z : Scope) (k : Knows z) where
    gives_primary : Gives src (IsPrimary z) (Agrees ns)
    gives_primary =
        gives_either src gives_number (gives_either src gives_truth (gives_either src (gives_path z)
        (gives_either src (gives_behind src _ (gives_before src _ k.expression))
        (gives_either src (gives_never _ (λ x. expression_at x.0 (Group x.1)) (λ x. not_group (expression_at x.0 (Group x.1)) x.1 refl))
        (gives_either src (gives_either src (gives_quantifier_of z quant.All) (gives_either src (gives_quantifier_of z quant.Any) (gives_quantifier_of z quant.Sum)))
        (gives_either src (gives_never _ (λ x. expression_at x.0 (Pre x.1.0 x.1.1)) (λ x. not_pre (expression_at x.0 (Pre x.1.0 x.1.1)) x.1.0 x.1.1 refl))
        (gives_either src (gives_never _ (λ x. expression_at x.0 (Least x.1)) (λ x. not_least (expression_at x.0 (Least x.1)) x.1 refl))
        (gives_either src (gives_never _ (λ x. expression_at x.0 (Greatest x.1)) (λ x. not_greatest (expression_at x.0 (Greatest x.1)) x.1 refl))
        (gives_never _ (λ x. expression_at x.0 (Size x.1)) (λ x. not_size (expression_at x.0 (Size x.1)) x.1 refl))))))))))

    gives_minus : Gives src (IsMinus z) (Agrees ns)
    gives_minus = gives_never _ (λ x. expression_at x.0 (Minus x.1)) (λ x. not_minus (expression_at x.0 (Minus x.1)) x.1 refl)

    gives_not : Gives src (IsNot z) (Agrees ns)
    gives_not =
        gives_made src (Agrees ns) (λ x. expression_at x.0 (Not x.1)) (λ x r. not_agrees ns (expression_at x.0 (Not x.1)) x.1 refl r.1)
        (gives_then {C = λ x. Unit {0}} src (λ ts x h is. tt) k.operand)

    gives_operand : Gives src (IsOperand z) (Agrees ns)
    gives_operand = gives_either src gives_minus (gives_either src gives_not gives_primary)

    gives_choice : Gives src (IsChoice z) (Agrees ns)
    gives_choice =
        gives_never _ (λ x. expression_at x.0 (Choice (x.1.0 ∷ x.1.1.0) x.1.1.1)) (λ x. not_choice (expression_at x.0 (Choice (x.1.0 ∷ x.1.1.0) x.1.1.1)) (x.1.0 ∷ x.1.1.0) x.1.1.1 refl)

    gives_expression : Gives src (IsExpression z) (Agrees ns)
    gives_expression = gives_either src gives_choice (gives_operation (IsOperand z) gives_operand)

  knows : (limit : Limit) (room depth : ℕ) → Knows (scope src limit room depth)
  unfolding scope
  knows limit zero depth = record { operand = λ ts e h is. absurd is; expression = λ ts e h is. absurd is }
  knows limit (suc room) depth =
      let z = scope src limit room (suc depth) in
      let k = knows limit room (suc depth) in
      record { operand = gives_operand z k; expression = gives_expression z k }

  -- ---- sections

  abbrev SectionAgrees : Section → Type 0
  SectionAgrees x = AllByRecursion (Agrees ns) (obligations_in x)

  gives_other : {X : Type 0} (w : Reserved) (made : List X → Section) (P : Spelling X) → ((xs : List X) → obligations_in (made xs) ≡ []) → Gives src (IsSectionOf w made P) SectionAgrees
  gives_other w made P none =
      gives_behind src _ (gives_behind src _ (gives_made {C = λ xs. Unit {0}} src SectionAgrees made (λ xs r. subst (AllByRecursion (Agrees ns)) (sym (none xs)) tt) (λ ts xs h is. tt)))

  gives_section : (z : Scope) → Knows z → Gives src (IsSection z) SectionAgrees
  gives_section z k =
      gives_either src (gives_other reserved.Constants section.Constants (IsConstant z) (λ xs. refl))
      (gives_either src (gives_other reserved.Types section.Types (IsTypeItem z) (λ xs. refl))
      (gives_either src (gives_other reserved.Inputs section.Inputs (IsDecl z) (λ xs. refl))
      (gives_either src (gives_other reserved.Declarations section.Declarations (IsDecl z) (λ xs. refl))
      (gives_either src (gives_other reserved.Definitions section.Definitions (IsDefinition z) (λ xs. refl))
      (gives_either src (gives_other reserved.Constraints section.Constraints (IsExpression z) (λ xs. refl))
      (gives_behind src _ (gives_behind src _ (gives_behind src _
      (gives_made src SectionAgrees section.Obligations (λ es r. r) (gives_many src (gives_before src _ (gives_expression z k))))))))))))

  all_sections : (xs : List Section) → AllByRecursion SectionAgrees xs → AllByRecursion (Agrees ns) (flat_map obligations_in xs)
  all_sections [] all = tt
  all_sections (x ∷ xs) all = all_append (Agrees ns) (obligations_in x) (flat_map obligations_in xs) all.0 (all_sections xs all.1)

  gives_model : (z : Scope) → Knows z → Gives src (IsModel z) (λ m. AllByRecursion (Agrees ns) (obligations m))
  gives_model z k = gives_made src (λ m. AllByRecursion (Agrees ns) (obligations m)) (λ xs. record { sections = xs }) all_sections (gives_many src (gives_section z k))

-- each obligation of a spelled text agrees
pub spelled_agree : (text : List ℕ) (ts : List Token) (m : HllModel) (limit : Limit) (ns : List (List ℕ)) → Splits text ts → SpellsUnder limit text ts m →
    AllByRecursion (Agrees ns) (obligations m)
spelled_agree text ts m limit ns split spelled =
    gives_model text ns (scope text limit spelled.0 0) (knows text ns limit spelled.0 0) ts m (tokens_fine text ts split) spelled.1
