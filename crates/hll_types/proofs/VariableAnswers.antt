-- Pass 1: what the steps of a declaration of variables come to.
use Rattle.std.proofs.Common.{◌≡◌, ℕ, zero, suc, ◌+◌, ◌<◌, ◌≤◌, nat_lt, Bool, false, ◌||◌, List, [], ◌∷◌, ◌++◌, map, fold, length, take, drop, refl, sym, ap, subst, ◌∙◌, arith, append_assoc}
use Rattle.std.proofs.lemmas.List.{map-append, length-map, length-take-le, take_all, take-append-drop}
use Rattle.hll_tree.specs.declared.tree.Decl.{Decl}
use Rattle.hll_tree.specs.declared.tree.Declarator.{Declarator}
use Rattle.hll_meaning.specs.declared.fault.StaticKind.TheVariants as is
use Rattle.hll_meaning.specs.Judging.{fault_if}
use Rattle.hll_meaning.specs.declared.ty.Ty.{Ty}
use Rattle.hll_meaning.specs.Kinds.{Kind, cells}
use Rattle.hll_meaning.specs.Names.{Names, variable}
use Rattle.hll_meaning.specs.Types.{kind_of}
use Rattle.hll_meaning.specs.Declarations.{variables_of, texts, is_among, written_kind, with_dims, declared_kind}
use Rattle.hll_meaning.specs.StaticRules.{declaring, fresh, is_large, dims_faults, fresh_name, taken_by, written_faults, item_faults, Pass1, pass1_item, declarators_faults}
use Rattle.hll_meaning.proofs.Faultless.{empty_parts, first_empty, second_empty, not_so}
use Rattle.hll_types.specs.declared.declare.Declared.{Declared}
use Rattle.hll_expressions.specs.declared.faults.StaticFault.{StaticFault}
use Rattle.hll_expressions.specs.Answers.{IsFaultAt}
use Rattle.hll_expressions.specs.Things.{declared_names, IsAdded}
use Rattle.hll_types.specs.Declaring.{IsAfter, variables_faults, with_kinds}
use Rattle.hll_expressions.proofs.FirstFaults.{fault_front, fault_behind, fault_same, none_both}
use Rattle.hll_types.proofs.FreshNames.{fresh_append, new_name, taken_append}
use Rattle.hll_types.proofs.PassSteps.{after_variables}
use Rattle.hll_types.proofs.VariablesWalk.{variable_names, walk_append, declarators_same, cells_declared}

pub kinds_so : (input : Bool) (g : Declarator → Kind) (ds : List Declarator) (ts : List Ty) → map kind_of ts ≡ map g ds → with_kinds input ds ts ≡ map (λ d. (d.name.text, variable input (g d))) ds
kinds_so input g [] ts same = refl
kinds_so input g (d ∷ ds) [] same = absurd (cc same)
kinds_so input g (d ∷ ds) (t ∷ ts) same =
    let here : kind_of t ≡ g d = cc same in
    let there : map kind_of ts ≡ map g ds = cc same in
    let rest = kinds_so input g ds ts there in
    λ i. (d.name.text, variable input (here i)) ∷ rest i

-- a variable without faults is new behind those before it
pub variable_new : (names : Names) (further : List (List ℕ)) (each : Kind) (taken : List (List ℕ)) (total : ℕ) (front : List Declarator) (d : Declarator) (behind : List Declarator) →
    variables_faults names further taken total each (front ++ d ∷ behind) ≡ [] → is_among (taken ++ variable_names front) d.name.text ≡ false
variable_new names further each taken total front d behind none =
    new_name (taken ++ variable_names front) d.name
    (first_empty (fresh_name (taken ++ variable_names front) d.name) _ (second_empty (variables_faults names further taken total each front) _ (sym (walk_append names further each taken total front (d ∷ behind)) ∙ none)))

-- all names are new where there are no faults
pub names_new : (names : Names) (further : List (List ℕ)) (each : Kind) (taken : List (List ℕ)) (total : ℕ) (ds : List Declarator) → variables_faults names further taken total each ds ≡ [] → fresh taken (map (λ (d : Declarator). d.name) ds) ≡ []
names_new names further each taken total [] none = refl
names_new names further each taken total (d ∷ ds) none =
    let own = empty_parts (fresh_name taken d.name) _ none in
    let rest = second_empty (fault_if (is_large (with_dims names d.dims each) || nat_lt 100000 (total + cells (with_dims names d.dims each))) is.Cells d.name.at) _ (second_empty (dims_faults (declaring names further) d.dims) _ own.1) in
    none_both (fault_if (is_among taken d.name.text) is.Twice d.name.at) _ (first_empty (fault_if (is_among taken d.name.text) is.Twice d.name.at) [] own.0) (names_new names further each (d.name.text ∷ taken) (total + cells (with_dims names d.dims each)) ds rest)

-- one variable more
pub kinds_behind : (input : Bool) (ds : List Declarator) (ts : List Ty) (d : Declarator) (t : Ty) → length ds ≡ length ts → with_kinds input (ds ++ d ∷ []) (ts ++ t ∷ []) ≡ with_kinds input ds ts ++ (d.name.text, variable input (kind_of t)) ∷ []
kinds_behind input [] [] d t same = refl
kinds_behind input [] (u ∷ ts) d t same = absurd (cc same)
kinds_behind input (e ∷ ds) [] d t same = absurd (cc same)
kinds_behind input (e ∷ ds) (u ∷ ts) d t same = ap (λ (xs : Names). (e.name.text, variable input (kind_of u)) ∷ xs) (kinds_behind input ds ts d t (omega (arith, same)))

pub kinds_taken : (input : Bool) (ds : List Declarator) (ts : List Ty) → taken_by (with_kinds input ds ts) ≡ take (length ts) (variable_names ds)
kinds_taken input [] [] = refl
kinds_taken input [] (t ∷ ts) = refl
kinds_taken input (d ∷ ds) [] = refl
kinds_taken input (d ∷ ds) (t ∷ ts) = ap (λ ns. d.name.text ∷ ns) (kinds_taken input ds ts)

-- where there are no more kinds
pub kinds_short : (input : Bool) (i : ℕ) (ds : List Declarator) (ts : List Ty) → length ts ≤ i → with_kinds input (take i ds) (take i ts) ≡ with_kinds input ds ts
kinds_short input zero [] [] h = refl
kinds_short input zero (d ∷ ds) [] h = refl
kinds_short input zero ds (t ∷ ts) h = absurd (omega (arith, h))
kinds_short input (suc i) [] ts h = refl
kinds_short input (suc i) (d ∷ ds) [] h = refl
kinds_short input (suc i) (d ∷ ds) (t ∷ ts) h = ap (λ (xs : Names). (d.name.text, variable input (kind_of t)) ∷ xs) (kinds_short input i ds ts (omega (arith, h)))

module _ (old : Declared) (p : Pass1) (further : List (List ℕ)) (h : IsAfter old p further) (input : Bool) (decl : Decl) where
  pub variables_written : (f : StaticFault) → IsFaultAt (written_faults (declaring p.names further) decl.ty) f → IsFaultAt (item_faults (declaring p.names further) p (variables_of input decl)) f
  variables_written f w = fault_front (written_faults (declaring p.names further) decl.ty) _ f w

  same_walk : (each : Kind) → each ≡ written_kind p.names decl.ty →
      variables_faults p.names further (taken_by p.names) old.cells each decl.names ≡ declarators_faults (declaring p.names further) p.names decl.ty (taken_by p.names) p.cells decl.names
  same_walk each is = (λ i. variables_faults p.names further (taken_by p.names) (h.cells i) (is i) decl.names) ∙ sym (declarators_same p.names further decl.ty (taken_by p.names) p.cells decl.names)

  pub variables_wrong : (each : Kind) (f : StaticFault) → written_faults (declaring p.names further) decl.ty ≡ [] → each ≡ written_kind p.names decl.ty →
      IsFaultAt (variables_faults p.names further (taken_by p.names) old.cells each decl.names) f → IsFaultAt (item_faults (declaring p.names further) p (variables_of input decl)) f
  variables_wrong each f none is w =
      fault_behind (written_faults (declaring p.names further) decl.ty) _ f none
      (fault_same (variables_faults p.names further (taken_by p.names) old.cells each decl.names) (declarators_faults (declaring p.names further) p.names decl.ty (taken_by p.names) p.cells decl.names) f (same_walk each is) w)

  pub variables_right : (new : Declared) (each : Kind) (ts : List Ty) (total : ℕ) → written_faults (declaring p.names further) decl.ty ≡ [] → each ≡ written_kind p.names decl.ty →
      variables_faults p.names further (taken_by p.names) old.cells each decl.names ≡ [] → map kind_of ts ≡ map (λ (d : Declarator). with_dims p.names d.dims each) decl.names →
      total ≡ fold (λ n (d : Declarator). n + cells (with_dims p.names d.dims each)) old.cells decl.names →
      IsAdded old.names new.names (declared_names old.names ++ with_kinds input decl.names ts) → new.sorts ≡ old.sorts → new.cells ≡ total → IsAfter new (pass1_item further p (variables_of input decl)) further
  variables_right new each ts total none is walked kinds count added sorts total_cells =
      let kind = written_kind p.names decl.ty in
      let so = kinds_so input (λ (d : Declarator). with_dims p.names d.dims each) decl.names ts kinds in
      let all : with_kinds input decl.names ts ≡ map (λ (d : Declarator). (d.name.text, variable input (declared_kind p.names decl.ty d))) decl.names =
      so ∙ (λ i. map (λ (d : Declarator). (d.name.text, variable input (with_dims p.names d.dims (is i)))) decl.names) in
      after_variables old new p further h input decl
      (subst (IsAdded old.names new.names) (λ i. h.names.declared i ++ all i) added) sorts
      (total_cells ∙ count ∙ (λ i. fold (λ n (d : Declarator). n + cells (with_dims p.names d.dims (is i))) (h.cells i) decl.names) ∙ cells_declared p.names decl.ty p.cells decl.names)
      (none_both (written_faults (declaring p.names further) decl.ty) _ none (sym (same_walk each is) ∙ walked))

-- ---- declared one by one

-- the next variable is new, and goes behind those before it
pub next_new : (before cur : Names) (input : Bool) (ds : List Declarator) (ts : List Ty) (i : ℕ) (d : Declarator) → i < length ds → i < length ts → take (i + 1) ds ≡ take i ds ++ d ∷ [] → fresh (taken_by before) (map (λ (d : Declarator). d.name) ds) ≡ [] →
    cur ≡ before ++ with_kinds input (take i ds) (take i ts) → is_among (taken_by cur) d.name.text ≡ false
next_new before cur input ds ts i d small few more none stood =
    let names = map (λ (d : Declarator). d.name) in
    let split : map (λ (d : Declarator). d.name) ds ≡ map (λ (d : Declarator). d.name) (take i ds) ++ d.name ∷ map (λ (d : Declarator). d.name) (drop (i + 1) ds) =
    ap (map (λ (d : Declarator). d.name)) (sym (take-append-drop (i + 1) ds) ∙ ap (λ xs. xs ++ drop (i + 1) ds) more ∙ append_assoc (take i ds) (d ∷ []) (drop (i + 1) ds)) ∙ map-append (λ (d : Declarator). d.name) (take i ds) (d ∷ drop (i + 1) ds) in
    let all = sym (fresh_append (taken_by before) (map (λ (d : Declarator). d.name) (take i ds)) (d.name ∷ map (λ (d : Declarator). d.name) (drop (i + 1) ds))) ∙ ap (fresh (taken_by before)) (sym split) ∙ none in
    let own = second_empty (fresh (taken_by before) (map (λ (d : Declarator). d.name) (take i ds))) _ all in
    let new = not_so (is_among (taken_by before ++ texts (map (λ (d : Declarator). d.name) (take i ds))) d.name.text) is.Twice d.name.at (first_empty (fault_if (is_among (taken_by before ++ texts (map (λ (d : Declarator). d.name) (take i ds))) d.name.text) is.Twice d.name.at) _ own) in
    let count : length (take i ts) ≡ i = length-take-le i ts (omega (arith, few)) in
    let enough : length (variable_names (take i ds)) ≤ length (take i ts) = omega (arith, length-map (take i ds) (λ (d : Declarator). d.name.text), length-take-le i ds (omega (arith, small)), count) in
    let taken : taken_by cur ≡ taken_by before ++ texts (map (λ (d : Declarator). d.name) (take i ds)) =
    ap taken_by stood ∙ taken_append before (with_kinds input (take i ds) (take i ts))
    ∙ ap (λ ns. taken_by before ++ ns) (kinds_taken input (take i ds) (take i ts) ∙ take_all (length (take i ts)) (variable_names (take i ds)) enough ∙ names_twice (take i ds)) in
    ap (λ ns. is_among ns d.name.text) taken ∙ new
  where
    names_twice : (es : List Declarator) → variable_names es ≡ texts (map (λ (d : Declarator). d.name) es)
    names_twice [] = refl
    names_twice (e ∷ es) = ap (λ ns. e.name.text ∷ ns) (names_twice es)

pub next_added : (before cur next : Names) (input : Bool) (ds : List Declarator) (ts : List Ty) (i : ℕ) (d : Declarator) (t : Ty) → i < length ds → i < length ts → take (i + 1) ds ≡ take i ds ++ d ∷ [] → take (i + 1) ts ≡ take i ts ++ t ∷ [] →
    cur ≡ before ++ with_kinds input (take i ds) (take i ts) → next ≡ cur ++ (d.name.text, variable input (kind_of t)) ∷ [] → next ≡ before ++ with_kinds input (take (i + 1) ds) (take (i + 1) ts)
next_added before cur next input ds ts i d t small few more moreover stood put =
    let same : length (take i ds) ≡ length (take i ts) = length-take-le i ds (omega (arith, small)) ∙ sym (length-take-le i ts (omega (arith, few))) in
    put ∙ ap (λ (xs : Names). xs ++ (d.name.text, variable input (kind_of t)) ∷ []) stood
    ∙ append_assoc before (with_kinds input (take i ds) (take i ts)) ((d.name.text, variable input (kind_of t)) ∷ [])
    ∙ ap (λ (xs : Names). before ++ xs) (sym (kinds_behind input (take i ds) (take i ts) d t same) ∙ (λ j. with_kinds input (sym more j) (sym moreover j)))

pub names_there : (old : Declared) (p : Pass1) (further : List (List ℕ)) (h : IsAfter old p further) (each : Kind) (ds : List Declarator) → variables_faults p.names further (taken_by p.names) old.cells each ds ≡ [] →
    fresh (taken_by (declared_names old.names)) (map (λ (d : Declarator). d.name) ds) ≡ []
names_there old p further h each ds none = ap (λ (xs : Names). fresh (taken_by xs) (map (λ (d : Declarator). d.name) ds)) h.names.declared ∙ names_new p.names further each (taken_by p.names) old.cells ds none

-- where there are no more variables
pub kinds_long : (input : Bool) (i : ℕ) (ds : List Declarator) (ts : List Ty) → length ds ≤ i → with_kinds input (take i ds) (take i ts) ≡ with_kinds input ds ts
kinds_long input i [] ts h = front i
  where
    front : (i : ℕ) → with_kinds input (take i []) (take i ts) ≡ with_kinds input [] ts
    front zero = refl
    front (suc i) = refl
kinds_long input zero (d ∷ ds) ts h = absurd (omega (arith, h))
kinds_long input (suc i) (d ∷ ds) [] h = refl
kinds_long input (suc i) (d ∷ ds) (t ∷ ts) h = ap (λ (xs : Names). (d.name.text, variable input (kind_of t)) ∷ xs) (kinds_long input i ds ts (omega (arith, h)))
