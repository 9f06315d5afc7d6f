-- The definitions of one variable in a text without faults: one that is complete, or one for the first value and one for the next.
use Rattle.std.proofs.Common.{◌≡◌, ℕ, ◌⊎◌, inl, inr, Bool, true, false, cond, not, ◌||◌, List, [], ◌∷◌, ◌++◌, map, fold, refl, sym, ap, subst, ◌∙◌}
use Rattle.std.specs.Prelude.{if◌then◌else◌}
use Rattle.std.specs.List.{Contains, flat_map, list_any}
use Rattle.std.specs.Str.{bytes_eq}
use Rattle.std.proofs.lemmas.List.{append-nil}
use Rattle.std.proofs.lemmas.List.Concat.{flat_map-append}
use Rattle.std.proofs.lemmas.List.Elements.{filter-append}
use Rattle.hll_tree.specs.declared.tree.Def.{Def}
use Rattle.hll_tree.specs.declared.tree.HllModel.{HllModel}
use Rattle.hll_tree.specs.declared.tree.Name.{Name}
use Rattle.hll_tree.specs.declared.tree.Section.{Section}
use Rattle.hll_tree.specs.declared.tree.Section.TheVariants as section
use Rattle.hll_tree.specs.declared.tree.Expr.{Expr}
use Rattle.hll_meaning.specs.declared.fault.StaticKind.TheVariants as is
use Rattle.hll_meaning.specs.Declarations.{names}
use Rattle.hll_meaning.specs.Judging.{fault_if}
use Rattle.hll_meaning.specs.Names.{Names, under}
use Rattle.hll_meaning.specs.Runs.{definitions_in, definitions}
use Rattle.hll_meaning.specs.StaticRules.{PartKind, value, both, first, next, part_kind, is_complete, is_first, is_next, clashes, definitions_of, is_repeated, defined_faults, definition_faults, Asked, defines, demands, asked_in, Pass2, pass2_item, pass1_faults, pass2_faults, pass3_faults, variable_faults, declared_in, Well}
use Rattle.hll_meaning.proofs.Faultless.{empty_parts, first_empty, second_empty, not_so, must_be}
use Rattle.hll_meaning.proofs.Scenes.{by_test}
use Rattle.dependence.proofs.Apart.{same_name, own_name}
use Rattle.dependence.proofs.Members.{front_or_further, further_on, in_front, in_none}

-- ---- no part comes twice

-- no definition has a part that one before it has already
abbrev pub AreNotRepeated : List Def → List Def → Type 0
AreNotRepeated before [] = Unit {0}
AreNotRepeated before (d ∷ ds) = (is_repeated before d ≡ false) × AreNotRepeated (before ++ d ∷ []) ds

-- the definition that pass 2 walks
abbrev defined_here : Asked → List Def
defined_here (defines d) = d ∷ []
defined_here (demands e) = []

asked_before : (all : Names) (p : Pass2) (q : Asked) → (pass2_item all p q).faults ≡ [] → p.faults ≡ []
asked_before all p (defines d) none = first_empty p.faults _ none
asked_before all p (demands e) none = first_empty p.faults _ none

faults_before : (all : Names) (qs : List Asked) (p : Pass2) → (fold (pass2_item all) p qs).faults ≡ [] → p.faults ≡ []
faults_before all [] p none = none
faults_before all (q ∷ qs) p none = asked_before all p q (faults_before all qs (pass2_item all p q) none)

none_repeated : (all : Names) (qs : List Asked) (p : Pass2) → (fold (pass2_item all) p qs).faults ≡ [] → AreNotRepeated p.defs (flat_map defined_here qs)
none_repeated all [] p none = tt
none_repeated all (defines d ∷ qs) p none =
    let own = second_empty p.faults (definition_faults all p.defs d) (faults_before all qs (pass2_item all p (defines d)) none) in
    (not_so (is_repeated p.defs d) is.Twice d.name.at (first_empty (fault_if (is_repeated p.defs d) is.Twice d.name.at) (defined_faults all d (under d.name.text all)) own), none_repeated all qs (pass2_item all p (defines d)) none)
none_repeated all (demands e ∷ qs) p none = none_repeated all qs (pass2_item all p (demands e)) none

all_defines : (defs : List Def) → flat_map defined_here (map defines defs) ≡ defs
all_defines [] = refl
all_defines (d ∷ ds) = ap (λ xs. d ∷ xs) (all_defines ds)

all_demands : (es : List Expr) → flat_map defined_here (map demands es) ≡ []
all_demands [] = refl
all_demands (e ∷ es) = all_demands es

section_defines : (s : Section) → flat_map defined_here (asked_in s) ≡ definitions_in s
section_defines (section.Constants xs) = refl
section_defines (section.Types xs) = refl
section_defines (section.Inputs decls) = refl
section_defines (section.Declarations decls) = refl
section_defines (section.Definitions defs) = all_defines defs
section_defines (section.Constraints es) = all_demands es
section_defines (section.Obligations es) = all_demands es

sections_define : (ss : List Section) → flat_map defined_here (flat_map asked_in ss) ≡ flat_map definitions_in ss
sections_define [] = refl
sections_define (s ∷ ss) = flat_map-append defined_here (asked_in s) (flat_map asked_in ss) ∙ (λ i. section_defines s i ++ sections_define ss i)

-- in a text without faults no part comes twice
text_repeats_none : (m : HllModel) → Well m → AreNotRepeated [] (definitions m)
text_repeats_none m well =
    subst (AreNotRepeated []) (sections_define m.sections)
    (none_repeated (names m) (flat_map asked_in m.sections) (record { defs = []; faults = [] }) (first_empty (pass2_faults m) (pass3_faults m) (second_empty (pass1_faults m) _ well)))

-- ---- definitions of one name

-- whether one of these clashes with a definition
abbrev clash : List Def → Def → Bool
clash before d = list_any (λ e. clashes (part_kind e.part) (part_kind d.part)) before

-- none clashes with one before it
abbrev AreCompatible : List Def → List Def → Type 0
AreCompatible before [] = Unit {0}
AreCompatible before (d ∷ ds) = (clash before d ≡ false) × AreCompatible (before ++ d ∷ []) ds

pub with_own : (name : List ℕ) (d : Def) (ds : List Def) → bytes_eq d.name.text name ≡ true → definitions_of (d ∷ ds) name ≡ d ∷ definitions_of ds name
with_own name d ds same = rw same refl

pub without_other : (name : List ℕ) (d : Def) (ds : List Def) → bytes_eq d.name.text name ≡ false → definitions_of (d ∷ ds) name ≡ definitions_of ds name
without_other name d ds other = rw other refl

own_compatible : (name : List ℕ) (before ds : List Def) → AreNotRepeated before ds → AreCompatible (definitions_of before name) (definitions_of ds name)
own_compatible name before [] h = tt
own_compatible name before (d ∷ ds) h = by_test (bytes_eq d.name.text name) (here (own_compatible name (before ++ d ∷ []) ds h.1)) (there (own_compatible name (before ++ d ∷ []) ds h.1))
  where
    here : AreCompatible (definitions_of (before ++ d ∷ []) name) (definitions_of ds name) → bytes_eq d.name.text name ≡ true → AreCompatible (definitions_of before name) (definitions_of (d ∷ ds) name)
    here rest same =
        let more : definitions_of (before ++ d ∷ []) name ≡ definitions_of before name ++ d ∷ [] = filter-append (λ (e : Def). bytes_eq e.name.text name) before (d ∷ []) ∙ ap (λ xs. definitions_of before name ++ xs) (with_own name d [] same) in
        subst (AreCompatible (definitions_of before name)) (sym (with_own name d ds same))
        (ap (λ n. clash (definitions_of before n) d) (sym (same_name d.name.text name same)) ∙ h.0, subst (λ xs. AreCompatible xs (definitions_of ds name)) more rest)

    there : AreCompatible (definitions_of (before ++ d ∷ []) name) (definitions_of ds name) → bytes_eq d.name.text name ≡ false → AreCompatible (definitions_of before name) (definitions_of (d ∷ ds) name)
    there rest other =
        let same : definitions_of (before ++ d ∷ []) name ≡ definitions_of before name = filter-append (λ (e : Def). bytes_eq e.name.text name) before (d ∷ []) ∙ ap (λ xs. definitions_of before name ++ xs) (without_other name d [] other) ∙ append-nil (definitions_of before name) in
        subst (AreCompatible (definitions_of before name)) (sym (without_other name d ds other)) (subst (λ xs. AreCompatible xs (definitions_of ds name)) same rest)

-- ---- what they are

-- one that is complete, or one for the first value and one for the next, in either order
pub data AreParts : List Def → Type 0 where
  complete : (d : Def) → is_complete (part_kind d.part) ≡ true → AreParts (d ∷ [])
  in_order : (f n : Def) → part_kind f.part ≡ first → part_kind n.part ≡ next → AreParts (f ∷ n ∷ [])
  turned : (f n : Def) → part_kind f.part ≡ first → part_kind n.part ≡ next → AreParts (n ∷ f ∷ [])

-- some definition has this sort of part
abbrev has : List Def → (PartKind → Bool) → Bool
has own test = list_any (λ d. test (part_kind d.part)) own

-- a variable has a value, or a first one and a next one
record IsDefinedWhole (own : List Def) : Type 0 where
  some : (has own is_complete || has own is_next) ≡ true
  begins : (has own is_complete || has own is_first) ≡ true

-- two parts that don't clash
two_parts : (d e : Def) (a b : PartKind) → part_kind d.part ≡ a → part_kind e.part ≡ b → (clashes a b || false) ≡ false → AreParts (d ∷ e ∷ [])
two_parts d e value b p q h = absurd (cc h)
two_parts d e both b p q h = absurd (cc h)
two_parts d e first value p q h = absurd (cc h)
two_parts d e first both p q h = absurd (cc h)
two_parts d e first first p q h = absurd (cc h)
two_parts d e first next p q h = in_order d e p q
two_parts d e next value p q h = absurd (cc h)
two_parts d e next both p q h = absurd (cc h)
two_parts d e next first p q h = turned e d q p
two_parts d e next next p q h = absurd (cc h)

no_third : (a b c : PartKind) → (clashes a b || false) ≡ false → (clashes a c || (clashes b c || false)) ≡ false → ⊥
no_third value b c p q = cc p
no_third both b c p q = cc p
no_third first value c p q = cc p
no_third first both c p q = cc p
no_third first first c p q = cc p
no_third first next value p q = cc q
no_third first next both p q = cc q
no_third first next first p q = cc q
no_third first next next p q = cc q
no_third next value c p q = cc p
no_third next both c p q = cc p
no_third next first value p q = cc q
no_third next first both p q = cc q
no_third next first first p q = cc q
no_third next first next p q = cc q
no_third next next c p q = cc p

alone_complete : (a : PartKind) → ((is_complete a || false) || (is_next a || false)) ≡ true → ((is_complete a || false) || (is_first a || false)) ≡ true → is_complete a ≡ true
alone_complete value p q = refl
alone_complete both p q = refl
alone_complete first p q = absurd (cc p)
alone_complete next p q = absurd (cc q)

-- what own definitions are
are_parts : (own : List Def) → AreCompatible [] own → IsDefinedWhole own → AreParts own
are_parts [] h w = absurd (cc w.some)
are_parts (d ∷ []) h w = complete d (alone_complete (part_kind d.part) w.some w.begins)
are_parts (d ∷ e ∷ []) h w = two_parts d e (part_kind d.part) (part_kind e.part) refl refl h.1.0
are_parts (d ∷ e ∷ f ∷ ds) h w = absurd (no_third (part_kind d.part) (part_kind e.part) (part_kind f.part) h.1.0 h.1.1.0)

-- ---- texts

-- a declared variable without faults has its parts
variable_whole : (defs : List Def) (n : Name) → variable_faults defs n ≡ [] → IsDefinedWhole (definitions_of defs n.text)
variable_whole defs n none =
    let own = definitions_of defs n.text in
    let split = empty_parts (fault_if (not (has own is_complete || has own is_next)) is.Undefined n.at) _ none in
    let some = must_be (has own is_complete || has own is_next) is.Undefined n.at split.0 in
    record { some = some; begins = by_test (has own is_complete || has own is_first) (λ yes. yes) (λ no_first. absurd (missing own no_first some (ap (λ b. if b then [] else flat_map (λ d. fault_if (is_next (part_kind d.part)) is.FirstMissing d.at) own) (sym no_first) ∙ split.1))) }
  where
    no_nexts : (ds : List Def) → flat_map (λ (d : Def). fault_if (is_next (part_kind d.part)) is.FirstMissing d.at) ds ≡ [] → has ds is_next ≡ false
    no_nexts [] h = refl
    no_nexts (d ∷ ds) h =
        let parts = empty_parts (fault_if (is_next (part_kind d.part)) is.FirstMissing d.at) (flat_map (λ (e : Def). fault_if (is_next (part_kind e.part)) is.FirstMissing e.at) ds) h in
        λ i. not_so (is_next (part_kind d.part)) is.FirstMissing d.at parts.0 i || no_nexts ds parts.1 i

    neither_so : (a b c : Bool) → (a || b) ≡ false → (a || c) ≡ true → c ≡ false → ⊥
    neither_so true b c p q r = cc p
    neither_so false b c p q r = let e : true ≡ false = sym q ∙ r in cc e

    missing : (own : List Def) → (has own is_complete || has own is_first) ≡ false → (has own is_complete || has own is_next) ≡ true → flat_map (λ (d : Def). fault_if (is_next (part_kind d.part)) is.FirstMissing d.at) own ≡ [] → ⊥
    missing own p q h = neither_so (has own is_complete) (has own is_first) (has own is_next) p q (no_nexts own h)

flat_none : {A B : Type 0} (f : A → List B) (xs : List A) (x : A) → flat_map f xs ≡ [] → Contains xs x → f x ≡ []
flat_none f [] x none h = absurd (in_none x h)
flat_none {A} {B} f (y ∷ ys) x none h = by (flat_none f ys x) (empty_parts (f y) (flat_map f ys) none) (front_or_further y ys x h)
  where
    by : (flat_map f ys ≡ [] → Contains ys x → f x ≡ []) → (f y ≡ []) × (flat_map f ys ≡ []) → (y ≡ x) ⊎ Contains ys x → f x ≡ []
    by rest split (inl same) = subst (λ z. f z ≡ []) same split.0
    by rest split (inr there) = rest split.1 there

-- in a text without faults the definitions of a declared variable are its parts
pub own_parts : (m : HllModel) (n : Name) → Well m → Contains (flat_map declared_in m.sections) n → AreParts (definitions_of (definitions m) n.text)
own_parts m n well there =
    let none = flat_none (variable_faults (definitions m)) (flat_map declared_in m.sections) n (second_empty (pass2_faults m) (pass3_faults m) (second_empty (pass1_faults m) _ well)) there in
    are_parts (definitions_of (definitions m) n.text) (own_compatible n.text [] (definitions m) (text_repeats_none m well)) (variable_whole (definitions m) n none)

-- ---- one of them

-- a definition of a text is one of those of its name, and none else is
pub is_own : (defs : List Def) (d : Def) → Contains defs d → Contains (definitions_of defs d.name.text) d
is_own [] d h = absurd (in_none d h)
is_own (e ∷ es) d h = by (is_own es d) (front_or_further e es d h)
  where
    more : (b : Bool) → Contains (definitions_of es d.name.text) d → Contains (cond b (e ∷ definitions_of es d.name.text) (definitions_of es d.name.text)) d
    more true there = further_on e d (definitions_of es d.name.text) there
    more false there = there

    by : (Contains es d → Contains (definitions_of es d.name.text) d) → (e ≡ d) ⊎ Contains es d → Contains (definitions_of (e ∷ es) d.name.text) d
    by rest (inl same) = subst (λ x. Contains (definitions_of (x ∷ es) d.name.text) d) (sym same) (subst (λ xs. Contains xs d) (sym (with_own d.name.text d es (own_name d.name.text))) (in_front d (definitions_of es d.name.text)))
    by rest (inr there) = more (bytes_eq e.name.text d.name.text) (rest there)

-- one of those of a name stands in the text, and has the name
pub record IsOwn (defs : List Def) (name : List ℕ) (d : Def) : Type 0 where
  pub stands : Contains defs d
  pub named : d.name.text ≡ name

pub of_name : (defs : List Def) (name : List ℕ) (d : Def) → Contains (definitions_of defs name) d → IsOwn defs name d
of_name [] name d h = absurd (in_none d h)
of_name (e ∷ es) name d h = by_test (bytes_eq e.name.text name) (λ same. here same (front_or_further e (definitions_of es name) d (subst (λ xs. Contains xs d) (with_own name e es same) h)) (of_name es name d)) (λ other. more (of_name es name d (subst (λ xs. Contains xs d) (without_other name e es other) h)))
  where
    more : IsOwn es name d → IsOwn (e ∷ es) name d
    more r = record { stands = further_on e d es r.stands; named = r.named }

    here : bytes_eq e.name.text name ≡ true → (e ≡ d) ⊎ Contains (definitions_of es name) d → (Contains (definitions_of es name) d → IsOwn es name d) → IsOwn (e ∷ es) name d
    here same (inl is) rest = subst (IsOwn (e ∷ es) name) is (record { stands = in_front e es; named = same_name e.name.text name same })
    here same (inr there) rest = more (rest there)
