-- The tables of a text without faults, from what its passes give.
use Rattle.std.proofs.Common.{◌≡◌, ℕ, List, [], ◌∷◌, ◌++◌, map, length, Ok, Err, refl, sym, ap, subst, ◌∙◌}
use Rattle.std.proofs.lemmas.List.{length-map}
use Rattle.std.proofs.lemmas.Simd.{map-map}
use Rattle.hll_tree.specs.declared.tree.HllModel.{HllModel}
use Rattle.hll_tree.specs.declared.tree.Name.{Name}
use Rattle.hll_meaning.specs.Kinds.{Kind}
use Rattle.hll_meaning.specs.Names.{Names}
use Rattle.hll_meaning.specs.Types.{kind_of}
use Rattle.hll_meaning.specs.Declarations.{names}
use Rattle.hll_meaning.specs.Nodes.{text_ranges}
use Rattle.hll_meaning.specs.Runs.{definitions, variables_among, variables}
use Rattle.hll_meaning.specs.StaticRules.{pass1_faults, pass3_faults, faults}
use Rattle.hll_expressions.specs.declared.faults.StaticFault.{StaticFault}
use Rattle.hll_expressions.specs.Answers.{IsFaultAt}
use Rattle.hll_expressions.specs.Things.{names_of, declared_names}
use Rattle.hll_types.specs.declared.define.Defined.{Defined}
use Rattle.hll_types.specs.declared.tables.Tables.{Tables}
use Rattle.hll_types.specs.declared.variables.Variable.{Variable}
use Rattle.hll_types.specs.Checked.{variable_names, roles_among, AreVariables, IsElementOf}
use Rattle.hll_types.specs.Defining.{pass2, Keeps}
use Rattle.hll_types.specs.RangeTables.{Tabulates}
use Rattle.hll_types.specs.Tables.{coded_among, element_in, AreAmong, AreTables}
use Rattle.hll_types.proofs.CheckedTexts.{all_passes}
use Rattle.hll_types.proofs.CodedElements.{element_among}
use Rattle.hll_types.proofs.VariableLists.{variables_named, as_many_variables}

-- two lists that agree in both parts agree
both_parts : {A B X Y : Type 0} (f : A → X) (g : A → Y) (h : B → X) (k : B → Y) (xs : List A) (ys : List B) → map f xs ≡ map h ys → map g xs ≡ map k ys → map {B = X × Y} (λ x. (f x, g x)) xs ≡ map (λ y. (h y, k y)) ys
both_parts f g h k [] [] p q = refl
both_parts f g h k [] (y ∷ ys) p q = absurd (cc p)
both_parts f g h k (x ∷ xs) [] p q = absurd (cc p)
both_parts f g h k (x ∷ xs) (y ∷ ys) p q =
    let first : f x ≡ h y = cc p in
    let second : g x ≡ k y = cc q in
    let rest = both_parts f g h k xs ys (let tails : map f xs ≡ map h ys = cc p in tails) (let tails : map g xs ≡ map k ys = cc q in tails) in
    λ i. (first i, second i) ∷ rest i

-- the names of variables that have their kinds
pub names_alone : (m : HllModel) (vs : List Variable) → map (λ v. (v.name, kind_of v.ty)) vs ≡ variables m → map (λ v. v.name) vs ≡ map (λ x. x.0) (variables m)
names_alone m vs is = sym (map-map (λ (x : List ℕ × Kind). x.0) (λ (v : Variable). (v.name, kind_of v.ty)) vs) ∙ ap (map (λ (x : List ℕ × Kind). x.0)) is

-- the variables among the names of a text are those of the text
pub variables_of_text : (m : HllModel) (all : Names) (places : List ℕ) (defined : Defined) (vs : List Variable) → all ≡ names m → places ≡ map (λ n. n.at) (variable_names m) → Keeps defined (definitions m) → AreAmong all places defined vs → AreVariables m vs
variables_of_text m all places defined vs is at keeps h =
    let kinds = h.kinds ∙ ap variables_among is in
    record {
      kinds = kinds;
      places = both_parts (λ (v : Variable). v.name) (λ (v : Variable). v.at) (λ (n : Name). n.text) (λ (n : Name). n.at) vs (variable_names m) (names_alone m vs kinds ∙ variables_named m) (h.placed ∙ at);
      roles = h.roles (definitions m) keeps ∙ ap (roles_among (definitions m)) is;
      distinct = h.distinct;
    }

-- there is a place for each
pub as_many_places : (m : HllModel) (all : Names) (places : List ℕ) → all ≡ names m → places ≡ map (λ n. n.at) (variable_names m) → length places ≡ length (variables_among all)
as_many_places m all places is at =
    ap length at ∙ length-map (variable_names m) (λ (n : Name). n.at) ∙ as_many_variables m ∙ ap (λ (xs : Names). length (variables_among xs)) (sym is)

-- the first fault of a later pass
pub later_fault : (m : HllModel) (all : Names) (f : StaticFault) → pass1_faults m ≡ [] → all ≡ names m → IsFaultAt ((pass2 all m).faults ++ pass3_faults m) f → IsFaultAt (faults m) f
later_fault m all f none is h = all_passes m all (Err f) none is h

-- no faults
pub no_later_faults : (m : HllModel) (all : Names) → pass1_faults m ≡ [] → all ≡ names m → ((pass2 all m).faults ++ pass3_faults m) ≡ [] → faults m ≡ []
no_later_faults m all none is h = all_passes m all (Ok tt) none is h

-- the tables that are made of the names of a text
pub tables_of_text : (m : HllModel) (t : Tables) → names_of t.names ≡ names m → declared_names t.names ≡ names m → AreVariables m t.variables.items → map (λ k. k.items) t.positions.keys ≡ map (λ v. v.name) t.variables.items →
    ((root : List ℕ) (code : ℕ) → element_in t.elements root code ≡ coded_among root code (declared_names t.names)) → Tabulates t.ranges (text_ranges m) → AreTables m t
tables_of_text m t names_are declared are keys elements ranges = record {
  things = names_are;
  listed = are;
  positions = keys ∙ names_alone m t.variables.items are.kinds;
  elements = λ root code. subst (IsElementOf (names m) root code) (sym (elements root code ∙ ap (coded_among root code) declared)) (element_among root code (names m));
  ranges = ranges;
}
