-- What holds of the definitions, constraints and obligations of a text without faults.
use Rattle.std.proofs.Common.{◌≡◌, ℕ, ◌<◌, ℤ, Bool, true, false, List, [], ◌∷◌, ◌++◌, map, fold, length, Option, Some, None, refl, sym, subst, ◌∙◌}
use Rattle.std.specs.List.{AllByRecursion, flat_map}
use Rattle.std.specs.Str.{bytes_eq}
use Rattle.hll_tree.specs.declared.tree.Def.{Def}
use Rattle.hll_tree.specs.declared.tree.Expr.{Expr}
use Rattle.hll_tree.specs.declared.tree.HllModel.{HllModel}
use Rattle.hll_tree.specs.declared.tree.Section.{Section}
use Rattle.hll_tree.specs.declared.tree.Section.TheVariants as section
use Rattle.hll_tree.proofs.Gives.{all_append}
use Rattle.hll_meaning.specs.Kinds.{Kind, truth, IsOf}
use Rattle.hll_meaning.specs.Names.{Thing, constant, type_of, code_in, variable, later, Names, under}
use Rattle.hll_meaning.specs.Values.{History, worth}
use Rattle.hll_meaning.specs.Declarations.{names}
use Rattle.hll_meaning.specs.Runs.{definitions_in, definitions, constraints_in, constraints, obligations_in, obligations, variables_among, variables, AreOfKinds, scene}
use Rattle.hll_meaning.specs.Fitting.{is_truth}
use Rattle.hll_meaning.specs.Judging.{Judged, judged}
use Rattle.hll_meaning.specs.StaticRules.{Left, left_side, part_expressions, asking, definition_faults, defined_faults, Asked, defines, demands, asked_in, Pass2, pass2_item, pass1_faults, pass2_faults, pass3_faults, Well}
use Rattle.hll_meaning.specs.Soundness.{AreBound}
use Rattle.hll_meaning.specs.WellTexts.{IsTruth, IsGiven, IsFitting}
use Rattle.hll_meaning.proofs.Faultless.{empty_parts, first_empty, second_empty, must_be, a_truth}
use Rattle.hll_meaning.proofs.Scenes.{by_test, under_here, under_further, under_behind, scene_has}
use Rattle.hll_meaning.proofs.Ranges.{is_sound}
use Rattle.hll_meaning.proofs.Agreement.{names_fine}

-- ---- values

-- in a text without faults an expression without faults has a value of its kind
pub value_lies : (m : HllModel) (h : History) (t : ℕ) (bound : List (List ℕ × ℤ)) (kinds : List (List ℕ × Kind)) (e : Expr) →
    Well m → AllByRecursion (AreOfKinds (variables m)) h → t < length h → AreBound bound kinds → (judged e (asking (names m) kinds)).faults ≡ [] →
    IsOf (judged e (asking (names m) kinds)).kind (worth e (scene m h t bound))
value_lies m h t bound kinds e well of_kinds within numbers =
    is_sound e (asking (names m) kinds) (scene m h t bound)
    (scene_has (asking (names m) kinds) (scene m h t bound) (record { names = refl; fine = names_fine m well; of_kinds = of_kinds; time = within; bound = numbers }))

-- ---- definitions

-- what is a variable among all names is that among the variables
variable_among : (xs : Names) (n : List ℕ) (input : Bool) (k : Kind) → under n xs ≡ Some (variable input k) → under n (variables_among xs) ≡ Some k
variable_among [] n input k is = absurd (cc is)
variable_among ((own, constant b x) ∷ xs) n input k is = variable_among xs n input k (under_behind n own (constant b x) (variable input k) xs (λ e. cc e) is)
variable_among ((own, type_of l) ∷ xs) n input k is = variable_among xs n input k (under_behind n own (type_of l) (variable input k) xs (λ e. cc e) is)
variable_among ((own, code_in root c) ∷ xs) n input k is = variable_among xs n input k (under_behind n own (code_in root c) (variable input k) xs (λ e. cc e) is)
variable_among ((own, variable i l) ∷ xs) n input k is =
    by_test (bytes_eq own n)
    (λ same. let e : Some (variable i l) ≡ Some (variable input k) = sym (under_here n own (variable i l) xs same) ∙ is in
    let f : l ≡ k = cc e in
    under_here n own l (variables_among xs) same ∙ (λ j. Some (f j)))
    (λ other. under_further n own l (variables_among xs) other ∙ variable_among xs n input k (sym (under_further n own (variable i l) xs other) ∙ is))
variable_among ((own, later) ∷ xs) n input k is = variable_among xs n input k (under_behind n own later (variable input k) xs (λ e. cc e) is)

all_given : (all : Names) (l : Left) (es : List Expr) → flat_map (λ (j : Judged). j.faults) (map (λ e. judged e (asking all l.bound)) es) ≡ [] → flat_map (λ (j : Judged). j.fits l.kind) (map (λ e. judged e (asking all l.bound)) es) ≡ [] →
    AllByRecursion (IsGiven all l) es
all_given all l [] none fit = tt
all_given all l (e ∷ es) none fit =
    let p = empty_parts (judged e (asking all l.bound)).faults _ none in
    let q = empty_parts ((judged e (asking all l.bound)).fits l.kind) _ fit in
    (record { faultless = p.0; fits = q.0 }, all_given all l es p.1 q.1)

fitting : (all : Names) (d : Def) (o : Option Thing) → under d.name.text all ≡ o → defined_faults all d o ≡ [] → IsFitting all d
fitting all d None is none = absurd (cc none)
fitting all d (Some (constant b x)) is none = absurd (cc none)
fitting all d (Some (type_of k)) is none = absurd (cc none)
fitting all d (Some (code_in root c)) is none = absurd (cc none)
fitting all d (Some (variable true k)) is none = absurd (cc none)
fitting all d (Some (variable false k)) is none =
    let l = left_side d.indices k in
    let js = map (λ e. judged e (asking all l.bound)) (part_expressions d.part) in
    let p = empty_parts l.faults _ none in
    let q = empty_parts (flat_map (λ (j : Judged). j.faults) js) _ p.1 in
    record { kind = k; declared = is; of_kind = variable_among all d.name.text false k is; faultless = p.0; given = all_given all l (part_expressions d.part) q.0 q.1 }
fitting all d (Some later) is none = absurd (cc none)

-- ---- pass 2

-- what is known of what pass 2 has walked without a fault
abbrev pub IsAskedFaultless : Names → Asked → Type 0
IsAskedFaultless all (defines d) = IsFitting all d
IsAskedFaultless all (demands e) = IsTruth all e

asked_before : (all : Names) (p : Pass2) (q : Asked) → (pass2_item all p q).faults ≡ [] → p.faults ≡ []
asked_before all p (defines d) none = first_empty p.faults _ none
asked_before all p (demands e) none = first_empty p.faults _ none

faults_before : (all : Names) (qs : List Asked) (p : Pass2) → (fold (pass2_item all) p qs).faults ≡ [] → p.faults ≡ []
faults_before all [] p none = none
faults_before all (q ∷ qs) p none = asked_before all p q (faults_before all qs (pass2_item all p q) none)

asked_faultless : (all : Names) (p : Pass2) (q : Asked) → (pass2_item all p q).faults ≡ [] → IsAskedFaultless all q
asked_faultless all p (defines d) none = fitting all d (under d.name.text all) refl (second_empty _ (defined_faults all d (under d.name.text all)) (second_empty p.faults (definition_faults all p.defs d) none))
asked_faultless all p (demands e) none =
    let j = judged e (asking all []) in
    let q = empty_parts j.faults _ (second_empty p.faults _ none) in
    record { faultless = q.0; kind = a_truth j.kind (must_be (is_truth j.kind) _ j.at q.1) }

all_asked : (all : Names) (qs : List Asked) (p : Pass2) → (fold (pass2_item all) p qs).faults ≡ [] → AllByRecursion (IsAskedFaultless all) qs
all_asked all [] p none = tt
all_asked all (q ∷ qs) p none = (asked_faultless all p q (faults_before all qs (pass2_item all p q) none), all_asked all qs (pass2_item all p q) none)

-- ---- sections

front : {A : Type 0} (P : A → Type 0) (xs ys : List A) → AllByRecursion P (xs ++ ys) → AllByRecursion P xs × AllByRecursion P ys
front P [] ys h = (tt, h)
front P (x ∷ xs) ys h = let r = front P xs ys h.1 in ((h.0, r.0), r.1)

of_map : {A B : Type 0} (P : B → Type 0) (f : A → B) (xs : List A) → AllByRecursion P (map f xs) → AllByRecursion (λ x. P (f x)) xs
of_map P f [] h = tt
of_map P f (x ∷ xs) h = (h.0, of_map P f xs h.1)

-- what all that a section has for pass 2 gives of what else is taken from sections
of_sections : {A : Type 0} (P : A → Type 0) (Q : Asked → Type 0) (take : Section → List A) → ((s : Section) → AllByRecursion Q (asked_in s) → AllByRecursion P (take s)) → (ss : List Section) →
    AllByRecursion Q (flat_map asked_in ss) → AllByRecursion P (flat_map take ss)
of_sections P Q take each [] h = tt
of_sections P Q take each (s ∷ ss) h =
    let r = front Q (asked_in s) (flat_map asked_in ss) h in
    all_append P (take s) (flat_map take ss) (each s r.0) (of_sections P Q take each ss r.1)

definitions_faultless : (all : Names) (s : Section) → AllByRecursion (IsAskedFaultless all) (asked_in s) → AllByRecursion (IsFitting all) (definitions_in s)
definitions_faultless all (section.Constants items) h = tt
definitions_faultless all (section.Types items) h = tt
definitions_faultless all (section.Inputs decls) h = tt
definitions_faultless all (section.Declarations decls) h = tt
definitions_faultless all (section.Definitions defs) h = of_map (IsAskedFaultless all) defines defs h
definitions_faultless all (section.Constraints es) h = tt
definitions_faultless all (section.Obligations es) h = tt

constraints_faultless : (all : Names) (s : Section) → AllByRecursion (IsAskedFaultless all) (asked_in s) → AllByRecursion (IsTruth all) (constraints_in s)
constraints_faultless all (section.Constants items) h = tt
constraints_faultless all (section.Types items) h = tt
constraints_faultless all (section.Inputs decls) h = tt
constraints_faultless all (section.Declarations decls) h = tt
constraints_faultless all (section.Definitions defs) h = tt
constraints_faultless all (section.Constraints es) h = of_map (IsAskedFaultless all) demands es h
constraints_faultless all (section.Obligations es) h = tt

obligations_faultless : (all : Names) (s : Section) → AllByRecursion (IsAskedFaultless all) (asked_in s) → AllByRecursion (IsTruth all) (obligations_in s)
obligations_faultless all (section.Constants items) h = tt
obligations_faultless all (section.Types items) h = tt
obligations_faultless all (section.Inputs decls) h = tt
obligations_faultless all (section.Declarations decls) h = tt
obligations_faultless all (section.Definitions defs) h = tt
obligations_faultless all (section.Constraints es) h = tt
obligations_faultless all (section.Obligations es) h = of_map (IsAskedFaultless all) demands es h

-- ---- texts

pub text_asked : (m : HllModel) → Well m → AllByRecursion (IsAskedFaultless (names m)) (flat_map asked_in m.sections)
text_asked m well = all_asked (names m) (flat_map asked_in m.sections) (record { defs = []; faults = [] }) (first_empty (pass2_faults m) (pass3_faults m) (second_empty (pass1_faults m) _ well))

pub definitions_fit : (m : HllModel) → Well m → AllByRecursion (IsFitting (names m)) (definitions m)
definitions_fit m well = of_sections (IsFitting (names m)) (IsAskedFaultless (names m)) definitions_in (definitions_faultless (names m)) m.sections (text_asked m well)

pub demands_truths : (m : HllModel) → Well m → AllByRecursion (IsTruth (names m)) (constraints m) × AllByRecursion (IsTruth (names m)) (obligations m)
demands_truths m well =
    let asked = text_asked m well in (
      of_sections (IsTruth (names m)) (IsAskedFaultless (names m)) constraints_in (constraints_faultless (names m)) m.sections asked,
      of_sections (IsTruth (names m)) (IsAskedFaultless (names m)) obligations_in (obligations_faultless (names m)) m.sections asked,
    )

-- the value of a truth value
all_have : (m : HllModel) (h : History) (t : ℕ) → Well m → AllByRecursion (AreOfKinds (variables m)) h → t < length h → (es : List Expr) → AllByRecursion (IsTruth (names m)) es →
    AllByRecursion (λ e. IsOf truth (worth e (scene m h t []))) es
all_have m h t well of_kinds within [] all = tt
all_have m h t well of_kinds within (e ∷ es) all =
    (subst (λ (k : Kind). IsOf k (worth e (scene m h t []))) all.0.kind (value_lies m h t [] [] e well of_kinds within tt all.0.faultless), all_have m h t well of_kinds within es all.1)

pub demands_values : (m : HllModel) (h : History) (t : ℕ) → Well m → AllByRecursion (AreOfKinds (variables m)) h → t < length h →
    AllByRecursion (λ e. IsOf truth (worth e (scene m h t []))) (constraints m) × AllByRecursion (λ e. IsOf truth (worth e (scene m h t []))) (obligations m)
demands_values m h t well of_kinds within =
    let p = demands_truths m well in
    (all_have m h t well of_kinds within (constraints m) p.0, all_have m h t well of_kinds within (obligations m) p.1)
