-- In a text without faults each struct in the kind of a variable is what its name stands for.
use Rattle.std.proofs.Common.{◌≡◌, ℕ, ◌⊎◌, inl, inr, Bool, true, false, List, [], ◌∷◌, map, fold, Option, Some, None, refl, sym, ap, subst, ◌∙◌}
use Rattle.std.specs.List.{AllByRecursion, Contains}
use Rattle.std.specs.Str.{bytes_eq}
use Rattle.std.proofs.lemmas.List.Elements.{Contains-append_left, Contains-append_right}
use Rattle.hll_tree.specs.declared.tree.Declarator.{Declarator}
use Rattle.hll_tree.specs.declared.tree.Expr.{Expr}
use Rattle.hll_tree.specs.declared.tree.Field.{Field}
use Rattle.hll_tree.specs.declared.tree.HllModel.{HllModel}
use Rattle.hll_tree.specs.declared.tree.Name.{Name}
use Rattle.hll_tree.specs.declared.tree.TypeItem.{TypeItem}
use Rattle.hll_tree.specs.declared.tree.TypeItem.TheVariants as item
use Rattle.hll_tree.specs.declared.tree.TypeText.{TypeText}
use Rattle.hll_tree.specs.declared.tree.TypeText.TheVariants as written
use Rattle.hll_tree.proofs.Gives.{all_append}
use Rattle.hll_meaning.specs.Declarations.{Item, a_constant, a_type, variables_of, items, type_items, coded, kind_of_thing, written_kind, with_dims, declared_kind, field_kinds, declared_by_type, declared_by, with_item, names}
use Rattle.hll_meaning.specs.Kinds.{Kind, struct}
use Rattle.hll_meaning.specs.Names.{Thing, constant, type_of, code_in, variable, later, Names, under}
use Rattle.hll_meaning.specs.Runs.{variables_among}
use Rattle.hll_meaning.specs.StaticRules.{taken_by, Well}
use Rattle.hll_meaning.proofs.Agreement.{names_fine}
use Rattle.hll_meaning.proofs.Scenes.{by_test, under_here, under_further, under_all}
use Rattle.dependence.proofs.Apart.{AreApart, same_name, own_name, is_other}
use Rattle.dependence.proofs.CellOwners.{stands_for}
use Rattle.dependence.specs.Laws.{HasStructsOf, HaveStructsOf}
use Rattle.dependence.proofs.DistinctNames.{names_apart}
use Rattle.dependence.proofs.GivenKinds.{AreOfText}
use Rattle.dependence.proofs.Members.{in_front, further_on, in_none, in_map, front_or_further}

-- ---- looking up

-- where no name stands twice, what stands in the list stands under its name
apart_under : (xs : Names) (n : List ℕ) (t : Thing) → AreApart (taken_by xs) → Contains xs (n, t) → under n xs ≡ Some t
apart_under [] n t apart h = absurd (in_none (n, t) h)
apart_under ((own, u) ∷ xs) n t apart h = by (apart_under xs n t apart.1) (front_or_further (own, u) xs (n, t) h)
  where
    by : (Contains xs (n, t) → under n xs ≡ Some t) → (◌≡◌ {A = List ℕ × Thing} (own, u) (n, t)) ⊎ Contains xs (n, t) → under n ((own, u) ∷ xs) ≡ Some t
    by rest (inl same) =
        let names : own ≡ n = ap (λ (x : List ℕ × Thing). x.0) same in
        let things : u ≡ t = ap (λ (x : List ℕ × Thing). x.1) same in
        under_here n own u xs (subst (λ z. bytes_eq own z ≡ true) names (own_name own)) ∙ (λ i. Some (things i))
    by rest (inr there) =
        let listed : Contains (taken_by xs) n = in_map (λ (x : List ℕ × Thing). x.0) xs (n, t) there in
        let other : bytes_eq own n ≡ false = by_test (bytes_eq own n) (λ same. let wrong : true ≡ false = sym (own_name own) ∙ ap (λ z. bytes_eq z own) (same_name own n same) ∙ is_other (taken_by xs) own n apart.0 listed in absurd (cc wrong)) (λ no. no) in
        under_further n own u xs other ∙ rest there

-- what stands under a name stands in the list
under_contains : (xs : List (List ℕ × Kind)) (n : List ℕ) (k : Kind) → under n xs ≡ Some k → Contains xs (n, k)
under_contains [] n k is = absurd (cc is)
under_contains ((own, l) ∷ xs) n k is =
    by_test (bytes_eq own n)
    (λ same.
    let e : Some l ≡ Some k = sym (under_here n own l xs same) ∙ is in
    let kinds : l ≡ k = cc e in
    let names = same_name own n same in
    let both : ◌≡◌ {A = List ℕ × Kind} (own, l) (n, k) = λ i. (names i, kinds i) in
    subst (λ (x : List ℕ × Kind). Contains ((own, l) ∷ xs) x) both (in_front (own, l) xs))
    (λ other. further_on (own, l) (n, k) xs (under_contains xs n k (sym (under_further n own l xs other) ∙ is)))

-- ---- declarations

-- the structs in what a name stands for
abbrev pub HasKindOf : Names → Thing → Type 0
HasKindOf ns (constant b x) = Unit {0}
HasKindOf ns (type_of k) = HasStructsOf ns k
HasKindOf ns (code_in root c) = Unit {0}
HasKindOf ns (variable input k) = HasStructsOf ns k
HasKindOf ns later = Unit {0}

module _ (all : Names) where
  abbrev HaveKinds : Names → Type 0
  HaveKinds = AllByRecursion (λ x. HasKindOf all x.1)

  thing_kind : (o : Option Thing) → ((t : Thing) → o ≡ Some t → HasKindOf all t) → HasStructsOf all (kind_of_thing o)
  thing_kind None h = tt
  thing_kind (Some (constant b x)) h = tt
  thing_kind (Some (type_of k)) h = h (type_of k) refl
  thing_kind (Some (code_in root c)) h = tt
  thing_kind (Some (variable input k)) h = tt
  thing_kind (Some later) h = tt

  written_has : (before : Names) (ty : TypeText) → HaveKinds before → HasStructsOf all (written_kind before ty)
  written_has before written.Bool h = tt
  written_has before (written.Bounds a b) h = tt
  written_has before (written.Signed e) h = tt
  written_has before (written.Unsigned e) h = tt
  written_has before (written.Named n) h = thing_kind (under n.text before) (λ t is. under_all (HasKindOf all) before h n.text t is)

  dims_has : (before : Names) (es : List Expr) (k : Kind) → HasStructsOf all k → HasStructsOf all (with_dims before es k)
  dims_has before [] k h = h
  dims_has before (e ∷ es) k h = dims_has before es k h

  declared_has : (before : Names) (ty : TypeText) (d : Declarator) → HaveKinds before → HasStructsOf all (declared_kind before ty d)
  declared_has before ty d h = dims_has before d.dims (written_kind before ty) (written_has before ty h)

  fields_have : (before : Names) (fs : List Field) → HaveKinds before → HaveStructsOf all (field_kinds before fs)
  fields_have before [] h = tt
  fields_have before (f ∷ fs) h = (declared_has before f.ty f.of h, fields_have before fs h)

  coded_have : (types : List TypeItem) (sort : List ℕ) (es : List Name) → HaveKinds (coded types sort es)
  coded_have types sort [] = tt
  coded_have types sort (e ∷ es) = (tt, coded_have types sort es)

  -- a list stands in all names
  abbrev AreAmong : Names → Type 0
  AreAmong xs = (x : List ℕ × Thing) → Contains xs x → Contains all x

  type_has : AreApart (taken_by all) → (types : List TypeItem) (before : Names) (t : TypeItem) → HaveKinds before → AreAmong (declared_by_type types before t) → HaveKinds (declared_by_type types before t)
  type_has apart types before (item.Alias ty d) h among = (declared_has before ty d h, tt)
  type_has apart types before (item.Enumeration es n) h among = all_append (λ x. HasKindOf all x.1) (coded types n.text es) _ (coded_have types n.text es) (tt, tt)
  type_has apart types before (item.Structure fields n) h among =
      let own : List ℕ × Thing = (n.text, type_of (struct n.text (field_kinds before fields))) in
      ((apart_under all n.text (type_of (struct n.text (field_kinds before fields))) apart (among own (in_front own [])), fields_have before fields h), tt)
  type_has apart types before (item.Leaves es n) h among = all_append (λ x. HasKindOf all x.1) (coded types n.text es) _ (coded_have types n.text es) (tt, tt)
  type_has apart types before (item.Children children n) h among = (tt, tt)

  variables_have : (input : Bool) (before : Names) (ty : TypeText) (ds : List Declarator) → HaveKinds before → HaveKinds (map {B = List ℕ × Thing} (λ d. (d.name.text, variable input (declared_kind before ty d))) ds)
  variables_have input before ty [] h = tt
  variables_have input before ty (d ∷ ds) h = (declared_has before ty d h, variables_have input before ty ds h)

  item_has : AreApart (taken_by all) → (types : List TypeItem) (before : Names) (it : Item) → HaveKinds before → AreAmong (declared_by types before it) → HaveKinds (declared_by types before it)
  item_has apart types before (a_constant c) h among = (tt, tt)
  item_has apart types before (a_type t) h among = type_has apart types before t h among
  item_has apart types before (variables_of input decl) h among = variables_have input before decl.ty decl.names h

-- what was declared stays
grows : (types : List TypeItem) (its : List Item) (before : Names) (x : List ℕ × Thing) → Contains before x → Contains (fold (with_item types) before its) x
grows types [] before x h = h
grows types (it ∷ its) before x h = grows types its (with_item types before it) x (Contains-append_left before (declared_by types before it) x h)

items_have : (all : Names) → AreApart (taken_by all) → (types : List TypeItem) (its : List Item) (before : Names) → fold (with_item types) before its ≡ all → HaveKinds all before → HaveKinds all (fold (with_item types) before its)
items_have all apart types [] before is h = h
items_have all apart types (it ∷ its) before is h =
    items_have all apart types its (with_item types before it) is
    (all_append (λ x. HasKindOf all x.1) before (declared_by types before it) h
    (item_has all apart types before it h
    (λ x there. subst (λ (ns : Names). Contains ns x) is (grows types its (with_item types before it) x (Contains-append_right before (declared_by types before it) x there)))))

-- the names of a text without faults
pub names_of_text : (m : HllModel) → Well m → AreOfText (names m)
names_of_text m well =
    let apart = names_apart m well in
    let have = items_have (names m) apart (type_items m) (items m) [] refl tt in
    record {
      fine = names_fine m well;
      structs = λ n input k is. under_all (HasKindOf (names m)) (names m) have n (variable input k) is;
      input = λ n k is. (stands_for (names m) n k apart (under_contains (variables_among (names m)) n k is)).input;
      variables = λ n k is. (stands_for (names m) n k apart (under_contains (variables_among (names m)) n k is)).is;
    }
