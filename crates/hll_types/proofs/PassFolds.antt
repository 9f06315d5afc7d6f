-- Pass 2 and pass 3, one after the other.
use Rattle.std.proofs.Common.{◌≡◌, ℕ, ◌+◌, ◌<◌, ◌≤◌, List, [], ◌∷◌, ◌++◌, map, fold, take, length, get_or, Result, Ok, Err, refl, sym, ap, subst, ◌∙◌}
use Rattle.std.specs.Prelude.{MatchResult}
use Rattle.std.specs.List.{flat_map}
use Rattle.std.proofs.lemmas.Grind.{flat_map-append}
use Rattle.std.proofs.lemmas.List.{append-nil, append_assoc, take_all}
use Rattle.std.proofs.lemmas.List.Folds.{flat_map-map, fold-map}
use Rattle.hll_tree.specs.declared.tree.Decl.{Decl}
use Rattle.hll_tree.specs.declared.tree.Def.{Def}
use Rattle.hll_tree.specs.declared.tree.Expr.{Expr}
use Rattle.hll_tree.specs.declared.tree.HllModel.{HllModel}
use Rattle.hll_tree.specs.declared.tree.Section.{Section}
use Rattle.hll_tree.specs.declared.tree.Section.TheVariants as section
use Rattle.hll_meaning.specs.Names.{Names}
use Rattle.hll_meaning.specs.Runs.{definitions, definitions_in}
use Rattle.hll_meaning.specs.Judging.{Fault}
use Rattle.hll_meaning.specs.StaticRules.{definition_faults, Asked, defines, demands, asked_in, Pass2, pass2_item, declared_in, variable_faults}
use Rattle.hll_types.specs.declared.define.Defined.{Defined}
use Rattle.hll_expressions.specs.declared.faults.StaticFault.{StaticFault}
use Rattle.hll_expressions.specs.Answers.{IsFaultAt, IsJudged}
use Rattle.hll_types.specs.Defining.{Keeps, IsAfter, with_definition, demand_faults, AreDefinitions, AreAsked, pass2, declarator_faults}
use Rattle.hll_expressions.proofs.Firsts.{before, behind, none_both}
use Rattle.hll_expressions.proofs.FaultFolds.{step_more, stays_first, first_of_step, fold_nested, flat_map_nested, same_judged}

-- before the first section
abbrev pub at_first : Pass2
at_first = record { defs = []; faults = [] }

-- ---- the definitions of sections

abbrev defs_in : Asked → List Def
defs_in (defines d) = d ∷ []
defs_in (demands e) = []

only_defs : (defs : List Def) → flat_map defs_in (map defines defs) ≡ defs
only_defs [] = refl
only_defs (d ∷ defs) = ap (λ xs. d ∷ xs) (only_defs defs)

no_defs : (es : List Expr) → flat_map defs_in (map demands es) ≡ []
no_defs [] = refl
no_defs (e ∷ es) = no_defs es

section_defs : (s : Section) → flat_map defs_in (asked_in s) ≡ definitions_in s
section_defs (section.Constants items) = refl
section_defs (section.Types items) = refl
section_defs (section.Inputs decls) = refl
section_defs (section.Declarations decls) = refl
section_defs (section.Definitions defs) = only_defs defs
section_defs (section.Constraints es) = no_defs es
section_defs (section.Obligations es) = no_defs es

all_defs : (ss : List Section) → flat_map defs_in (flat_map asked_in ss) ≡ flat_map definitions_in ss
all_defs [] = refl
all_defs (s ∷ ss) = flat_map-append defs_in (asked_in s) (flat_map asked_in ss) ∙ (λ i. section_defs s i ++ all_defs ss i)

-- ---- definitions

module _ (all : Names) where
  definition_keeps : (p : Pass2) (d : Def) (f : StaticFault) → IsFaultAt p.faults f → IsFaultAt (with_definition all p d).faults f
  definition_keeps p d f h = before p.faults _ f h

  -- one definition further
  pub definitions_more : (mid new : Defined) (defs : List Def) (i : ℕ) (d : Def) (p : Pass2) → i < length defs → d ≡ get_or defs i d → IsAfter mid (fold (with_definition all) p (take i defs)) →
      ((own : List Def) → Keeps mid own → (definition_faults all own d ≡ []) × Keeps new (own ++ d ∷ [])) → IsAfter new (fold (with_definition all) p (take (i + 1) defs))
  definitions_more mid new defs i d p within is a h =
      let q : Pass2 = fold (with_definition all) p (take i defs) in
      let k = h q.defs a.keeps in
      subst (IsAfter new) (sym (step_more (with_definition all) p defs i d within is)) (record { keeps = k.1; faultless = none_both q.faults (definition_faults all q.defs d) a.faultless k.0 })

  -- the first fault of a definition is the first of all
  pub definitions_fail : (mid : Defined) (defs : List Def) (i : ℕ) (d : Def) (p : Pass2) (f : StaticFault) → i < length defs → d ≡ get_or defs i d → IsAfter mid (fold (with_definition all) p (take i defs)) →
      ((own : List Def) → Keeps mid own → IsFaultAt (definition_faults all own d) f) → IsFaultAt (fold (with_definition all) p defs).faults f
  definitions_fail mid defs i d p f within is a h =
      let q : Pass2 = fold (with_definition all) p (take i defs) in
      first_of_step (with_definition all) (λ r. r.faults) definition_keeps p defs i d f within is (behind q.faults (definition_faults all q.defs d) f a.faultless (h q.defs a.keeps))

  pub definitions_done : (new : Defined) (defs : List Def) (n : ℕ) (p : Pass2) → length defs ≤ n → IsAfter new (fold (with_definition all) p (take n defs)) → IsAfter new (fold (with_definition all) p defs)
  definitions_done new defs n p h a = subst (λ xs. IsAfter new (fold (with_definition all) p xs)) (take_all n defs h) a

  definitions_asked : (old new : Defined) (defs : List Def) (r : Result Unit StaticFault) → AreDefinitions all old new defs r → AreAsked all old new (map defines defs) r
  definitions_asked old new defs r h p a = subst (λ (q : Pass2). MatchResult r (λ u. IsAfter new q) (IsFaultAt q.faults)) (sym (fold-map (pass2_item all) defines p defs)) (h p a)

  -- ---- demands

  demands_fold : (p : Pass2) (es : List Expr) → fold (pass2_item all) p (map demands es) ≡ record { defs = p.defs; faults = p.faults ++ flat_map (demand_faults all) es }
  demands_fold p [] = ap (λ (fs : List Fault). record { defs = p.defs; faults = fs }) (sym (append-nil p.faults))
  demands_fold p (e ∷ es) =
      demands_fold (pass2_item all p (demands e)) es ∙ ap (λ (fs : List Fault). record { defs = p.defs; faults = fs }) (append_assoc p.faults (demand_faults all e) (flat_map (demand_faults all) es))

  demands_asked : (d : Defined) (es : List Expr) (r : Result Unit StaticFault) → IsJudged (flat_map (demand_faults all) es) r → AreAsked all d d (map demands es) r
  demands_asked d es (Ok u) h p a = subst (IsAfter d) (sym (demands_fold p es)) (record { keeps = a.keeps; faultless = none_both p.faults (flat_map (demand_faults all) es) a.faultless h })
  demands_asked d es (Err f) h p a = subst (λ (q : Pass2). IsFaultAt q.faults f) (sym (demands_fold p es)) (behind p.faults (flat_map (demand_faults all) es) f a.faultless h)

  -- ---- sections

  pub ask_definitions : (old new : Defined) (s : Section) (defs : List Def) (r : Result Unit StaticFault) → s ≡ section.Definitions defs → AreDefinitions all old new defs r → AreAsked all old new (asked_in s) r
  ask_definitions old new s defs r is h = subst (λ x. AreAsked all old new (asked_in x) r) (sym is) (definitions_asked old new defs r h)

  pub ask_constraints : (d : Defined) (s : Section) (es : List Expr) (r : Result Unit StaticFault) → s ≡ section.Constraints es → IsJudged (flat_map (demand_faults all) es) r → AreAsked all d d (asked_in s) r
  ask_constraints d s es r is h = subst (λ x. AreAsked all d d (asked_in x) r) (sym is) (demands_asked d es r h)

  pub ask_obligations : (d : Defined) (s : Section) (es : List Expr) (r : Result Unit StaticFault) → s ≡ section.Obligations es → IsJudged (flat_map (demand_faults all) es) r → AreAsked all d d (asked_in s) r
  ask_obligations d s es r is h = subst (λ x. AreAsked all d d (asked_in x) r) (sym is) (demands_asked d es r h)

  -- one section further
  abbrev pub with_section : Pass2 → Section → Pass2
  with_section p s = fold (pass2_item all) p (asked_in s)

  item_keeps : (p : Pass2) (a : Asked) (f : StaticFault) → IsFaultAt p.faults f → IsFaultAt (pass2_item all p a).faults f
  item_keeps p (defines d) f h = before p.faults _ f h
  item_keeps p (demands e) f h = before p.faults _ f h

  section_keeps : (p : Pass2) (s : Section) (f : StaticFault) → IsFaultAt p.faults f → IsFaultAt (with_section p s).faults f
  section_keeps p s f h = stays_first (pass2_item all) (λ q. q.faults) item_keeps p (asked_in s) f h

  pub sections_more : (mid new : Defined) (ss : List Section) (i : ℕ) (s : Section) → i < length ss → s ≡ get_or ss i s → IsAfter mid (fold with_section at_first (take i ss)) →
      ((p : Pass2) → IsAfter mid p → IsAfter new (with_section p s)) → IsAfter new (fold with_section at_first (take (i + 1) ss))
  sections_more mid new ss i s within is a h = subst (IsAfter new) (sym (step_more with_section at_first ss i s within is)) (h (fold with_section at_first (take i ss)) a)

  pub sections_fail : (mid : Defined) (m : HllModel) (ss : List Section) (i : ℕ) (s : Section) (f : StaticFault) → ss ≡ m.sections → i < length ss → s ≡ get_or ss i s → IsAfter mid (fold with_section at_first (take i ss)) →
      ((p : Pass2) → IsAfter mid p → IsFaultAt (with_section p s).faults f) → IsFaultAt (pass2 all m).faults f
  sections_fail mid m ss i s f all_of within is a h =
      subst (λ (q : Pass2). IsFaultAt q.faults f) (ap (fold with_section at_first) all_of ∙ sym (fold_nested (pass2_item all) asked_in at_first m.sections))
      (first_of_step with_section (λ q. q.faults) section_keeps at_first ss i s f within is (h (fold with_section at_first (take i ss)) a))

  -- ---- all definitions

  defs_asked : (p : Pass2) (xs : List Asked) → (fold (pass2_item all) p xs).defs ≡ p.defs ++ flat_map defs_in xs
  defs_asked p [] = sym (append-nil p.defs)
  defs_asked p (defines d ∷ xs) = defs_asked (pass2_item all p (defines d)) xs ∙ append_assoc p.defs (d ∷ []) (flat_map defs_in xs)
  defs_asked p (demands e ∷ xs) = defs_asked (pass2_item all p (demands e)) xs

  pub sections_done : (new : Defined) (m : HllModel) (ss : List Section) (n : ℕ) → ss ≡ m.sections → length ss ≤ n → IsAfter new (fold with_section at_first (take n ss)) → ((pass2 all m).faults ≡ []) × Keeps new (definitions m)
  sections_done new m ss n all_of h a =
      let whole : fold with_section at_first (take n ss) ≡ pass2 all m = ap (fold with_section at_first) (take_all n ss h ∙ all_of) ∙ sym (fold_nested (pass2_item all) asked_in at_first m.sections) in
      let b : IsAfter new (pass2 all m) = subst (IsAfter new) whole a in
      (b.faultless, subst (Keeps new) (defs_asked at_first (flat_map asked_in m.sections) ∙ all_defs m.sections) b.keeps)

-- ---- pass 3

-- declarations, one by one
declared_nested : (defs : List Def) (decls : List Decl) → flat_map (variable_faults defs) (flat_map (λ decl. map (λ d. d.name) decl.names) decls) ≡ flat_map (λ decl. declarator_faults defs decl.names) decls
declared_nested defs [] = refl
declared_nested defs (decl ∷ decls) =
    flat_map-append (variable_faults defs) (map (λ d. d.name) decl.names) (flat_map (λ x. map (λ d. d.name) x.names) decls)
    ∙ (λ i. flat_map-map (variable_faults defs) (λ d. d.name) decl.names i ++ declared_nested defs decls i)

pub complete_declarations : (defs : List Def) (s : Section) (decls : List Decl) (r : Result Unit StaticFault) → s ≡ section.Declarations decls → IsJudged (flat_map (λ decl. declarator_faults defs decl.names) decls) r → IsJudged (flat_map (variable_faults defs) (declared_in s)) r
complete_declarations defs s decls r is h = same_judged _ _ r (sym (declared_nested defs decls) ∙ ap (λ x. flat_map (variable_faults defs) (declared_in x)) (sym is)) h

-- sections, one by one
pub complete_sections : (defs : List Def) (ss : List Section) → flat_map (variable_faults defs) (flat_map declared_in ss) ≡ flat_map (λ s. flat_map (variable_faults defs) (declared_in s)) ss
complete_sections defs ss = flat_map_nested (variable_faults defs) declared_in ss
