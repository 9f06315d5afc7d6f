-- Names that stand further on, one by one.
use Rattle.std.proofs.Common.{◌≡◌, ℕ, Bool, List, [], ◌∷◌, ◌++◌, map, Option, Some, None, refl, sym, ap, subst, ◌∙◌, append_assoc}
use Rattle.std.specs.List.{flat_map}
use Rattle.std.proofs.lemmas.List.{append-nil, map-append}
use Rattle.std.proofs.lemmas.Grind.{flat_map-append}
use Rattle.hll_tree.specs.declared.tree.ConstItem.{ConstItem}
use Rattle.hll_tree.specs.declared.tree.Decl.{Decl}
use Rattle.hll_tree.specs.declared.tree.Declarator.{Declarator}
use Rattle.hll_tree.specs.declared.tree.TypeItem.{TypeItem}
use Rattle.hll_meaning.specs.Declarations.{a_constant, a_type, variables_of}
use Rattle.hll_meaning.specs.StaticRules.{early_in, elements_of}
use Rattle.hll_meaning.specs.Names.{Thing, Names, later, under}
use Rattle.hll_meaning.proofs.FineNames.{further_on}
use Rattle.hll_types.specs.declared.declare.Declared.{Declared}
use Rattle.hll_types.specs.declared.sorts.Sort.{Sort}
use Rattle.hll_types.specs.Standing.{AreSorts}
use Rattle.hll_expressions.specs.Things.{declared_names, names_further}
use Rattle.hll_types.specs.Declaring.{IsAfter, start}
use Rattle.hll_expressions.proofs.ByName.{under_front, under_back}

under_same : (q : List ℕ) (xs ys zs : Names) → under q xs ≡ under q ys → under q (xs ++ zs) ≡ under q (ys ++ zs)
under_same q xs ys zs same = either (under q xs) refl
  where
    either : (o : Option Thing) → under q xs ≡ o → under q (xs ++ zs) ≡ under q (ys ++ zs)
    either None is = under_back q xs zs is ∙ sym (under_back q ys zs (sym same ∙ is))
    either (Some t) is = under_front q xs zs t is ∙ sym (under_front q ys zs t (sym same ∙ is))

-- one name more is noted
pub expected_more : (old new : Declared) (further more : List (List ℕ)) (n : List ℕ) → more ≡ further ++ n ∷ [] → IsAfter old start further → declared_names new.names ≡ declared_names old.names →
    ((q : List ℕ) → under q (names_further new.names) ≡ under q (names_further old.names ++ (n, later) ∷ [])) → new.sorts ≡ old.sorts → new.cells ≡ old.cells → IsAfter new start more
expected_more old new further more n is h declared noted sorts cells = record {
  names = record {
    declared = declared ∙ h.names.declared;
    behind = λ q. noted q ∙ under_same q (names_further old.names) (further_on further) ((n, later) ∷ []) (h.names.behind q)
        ∙ ap (under q) (sym (map-append (λ (m : List ℕ). let x : List ℕ × Thing = (m, later) in x) further (n ∷ [])) ∙ ap further_on (sym is));
    fine = h.names.fine;
  };
  sorts = subst (λ (ss : List (List ℕ × Sort)). AreSorts ss [] []) (sym sorts) h.sorts;
  known = h.known;
  cells = cells ∙ h.cells;
  faultless = refl;
}

-- names one behind the other
pub names_behind : {A : Type 0} (name : A → List ℕ) (further : List (List ℕ)) (xs ys : List A) (x : A) → ys ≡ xs ++ x ∷ [] → further ++ map name ys ≡ (further ++ map name xs) ++ name x ∷ []
names_behind name further xs ys x more = ap (λ zs. further ++ map name zs) more ∙ ap (λ ns. further ++ ns) (map-append name xs (x ∷ [])) ∙ sym (append_assoc further (map name xs) (name x ∷ []))

pub lists_behind : {A : Type 0} (names : A → List (List ℕ)) (further : List (List ℕ)) (xs ys : List A) (x : A) → ys ≡ xs ++ x ∷ [] → further ++ flat_map names ys ≡ (further ++ flat_map names xs) ++ names x
lists_behind names further xs ys x more =
    ap (λ zs. further ++ flat_map names zs) more ∙ ap (λ ns. further ++ ns) (flat_map-append names xs (x ∷ []) ∙ ap (λ ns. flat_map names xs ++ ns) (append-nil (names x))) ∙ sym (append_assoc further (flat_map names xs) (names x))

-- ---- sections

pub early_constants : (items : List ConstItem) → flat_map early_in (map a_constant items) ≡ []
early_constants [] = refl
early_constants (k ∷ items) = early_constants items

pub early_types : (items : List TypeItem) → flat_map early_in (map a_type items) ≡ flat_map elements_of items
early_types [] = refl
early_types (t ∷ items) = ap (λ ns. elements_of t ++ ns) (early_types items)

pub early_variables : (input : Bool) (decls : List Decl) → flat_map early_in (map (variables_of input) decls) ≡ flat_map (λ (decl : Decl). map (λ d. d.name.text) decl.names) decls
early_variables input [] = refl
early_variables input (decl ∷ decls) = ap (λ ns. map (λ (d : Declarator). d.name.text) decl.names ++ ns) (early_variables input decls)
