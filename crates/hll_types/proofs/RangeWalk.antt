-- Walks that note ranges, step by step.
use Rattle.std.proofs.Common.{◌≡◌, ℕ, zero, suc, ◌+◌, ◌<◌, ◌≤◌, false, ◌⊎◌, inl, inr, List, [], ◌∷◌, ◌++◌, map, fold, take, length, get_or, Some, Result, Ok, Err, refl, sym, ap, subst, ◌∙◌, arith, append-nil}
use Rattle.std.specs.List.{AllByRecursion, flat_map}
use Rattle.std.specs.Result.{IsErrAnd}
use Rattle.std.proofs.lemmas.Grind.{flat_map-append}
use Rattle.std.proofs.lemmas.List.{take_all, take_more}
use Rattle.std.proofs.lemmas.List.Folds.{flat_map-map}
use Rattle.hll_tree.specs.declared.tree.Def.{Def}
use Rattle.hll_tree.specs.declared.tree.Expr.{Expr}
use Rattle.hll_tree.specs.declared.tree.HllModel.{HllModel}
use Rattle.hll_tree.specs.declared.tree.Part.{Part}
use Rattle.hll_tree.specs.declared.tree.Part.TheVariants as part
use Rattle.hll_tree.specs.declared.tree.Section.{Section}
use Rattle.hll_tree.specs.declared.tree.Slot.{Slot}
use Rattle.hll_meaning.specs.declared.ty.Ty.{Ty}
use Rattle.hll_meaning.specs.Names.{Names, variable, under}
use Rattle.hll_meaning.specs.Types.{kind_of}
use Rattle.hll_meaning.specs.Declarations.{Item, items, items_in, names}
use Rattle.hll_meaning.specs.Judging.{Fault, Context, Judged, judged}
use Rattle.hll_meaning.specs.StaticRules.{Asked, Left, Well, asked_in, asking, defined_faults, defines, left_side, part_expressions, with_slot}
use Rattle.hll_meaning.specs.WellTexts.{IsFitting, IsGiven}
use Rattle.hll_meaning.specs.Nodes.{Node, Placed, all_nodes, asked_nodes, declared_nodes, defined_nodes, item_nodes, node_at, nodes, ranges_of, text_ranges, where_declared}
use Rattle.hll_meaning.specs.NodeLaws.{IsFaultless}
use Rattle.hll_meaning.proofs.NodeForms.{ranges_append, nodes_end}
use Rattle.hll_meaning.proofs.TextNodes.{nodes_faultless}
use Rattle.hll_meaning.proofs.WellTexts.{IsAskedFaultless, text_asked}
use Rattle.hll_expressions.specs.declared.faults.StaticFault.{StaticFault}
use Rattle.hll_expressions.specs.declared.faults.StaticFault.TheVariants as answer
use Rattle.hll_expressions.specs.declared.ranges.Ranges.{Ranges}
use Rattle.hll_expressions.specs.declared.scope.Index.{Index}
use Rattle.hll_expressions.specs.Answers.{IsFaultAt}
use Rattle.hll_expressions.specs.Ranges.{noted_in, HasNoted}
use Rattle.hll_expressions.specs.Scopes.{index_names}
use Rattle.hll_expressions.proofs.FaultFolds.{flat_map_nested, handed}
use Rattle.hll_expressions.proofs.Firsts.{none_both}
use Rattle.hll_expressions.proofs.RangeLemmas.{nothing_noted, noted_as, noted_both}
use Rattle.hll_types.specs.Defining.{left_of}
use Rattle.hll_types.specs.Walking.{AreNoted, AreWalked, IsAskedWalked, IsFineAsked}

-- ---- all of a list

pub all_both : {A : Type 0} (P : A → Type 0) (xs ys : List A) → AllByRecursion P (xs ++ ys) → AllByRecursion P xs × AllByRecursion P ys
all_both P [] ys h = (tt, h)
all_both P (x ∷ xs) ys h = let r = all_both P xs ys h.1 in ((h.0, r.0), r.1)

-- what holds of all parts holds of those of each
pub all_parts : {A B : Type 0} (P : B → Type 0) (f : A → List B) (xs : List A) → AllByRecursion P (flat_map f xs) → AllByRecursion (λ x. AllByRecursion P (f x)) xs
all_parts P f [] h = tt
all_parts P f (x ∷ xs) h = let r = all_both P (f x) (flat_map f xs) h in (r.0, all_parts P f xs r.1)

pub all_of_map : {A B : Type 0} (P : B → Type 0) (f : A → B) (xs : List A) → AllByRecursion P (map f xs) → AllByRecursion (λ x. P (f x)) xs
all_of_map P f [] h = tt
all_of_map P f (x ∷ xs) h = (h.0, all_of_map P f xs h.1)

pub all_paired : {A : Type 0} (P Q : A → Type 0) (xs : List A) → AllByRecursion P xs → AllByRecursion Q xs → AllByRecursion (λ x. P x × Q x) xs
all_paired P Q [] h k = tt
all_paired P Q (x ∷ xs) h k = ((h.0, k.0), all_paired P Q xs h.1 k.1)

-- so it holds of the one at a place
all_at : {A : Type 0} (P : A → Type 0) (xs : List A) (i : ℕ) (d : A) → i < length xs → AllByRecursion P xs → P (get_or xs i d)
all_at P [] i d lt h = absurd (omega (arith, lt))
all_at P (x ∷ xs) zero d lt h = h.0
all_at P (x ∷ xs) (suc i) d lt h = all_at P xs i d (omega (arith, lt)) h.1

-- ---- want of memory

-- where there are no faults memory alone is wanting
pub only_memory : (fs : List Fault) (f : StaticFault) → fs ≡ [] → IsFaultAt fs f → f ≡ answer.Memory
only_memory fs (answer.Fault why at) none h = let wrong = subst (λ gs. IsFaultAt gs (answer.Fault why at)) none h in absurd (cc wrong)
only_memory fs answer.Memory none h = refl

-- an expression stands among its nodes
pub itself_faultless : (e : Expr) (c : Context) → AllByRecursion IsFaultless (nodes e c) → (judged e c).faults ≡ []
itself_faultless e c h =
    let p = nodes_end e c in
    (all_both IsFaultless p.0 (node_at e c ∷ []) (subst (AllByRecursion IsFaultless) p.1 h)).1.0

-- ---- one after the other

-- nothing stands here
pub nothing_walked : {ns : List Node} (r : Ranges) → ns ≡ [] → HasNoted r r (ranges_of ns)
nothing_walked r none = noted_as (sym (ap ranges_of none)) (nothing_noted r)

pub walked_as : (a b : Ranges) (ms ns : List Node) (r : Result Unit StaticFault) → ms ≡ ns → AreWalked a b ms r → AreWalked a b ns r
walked_as a b ms ns r same h = subst (λ xs. AreWalked a b xs r) same h

-- behind what is noted
pub walked_behind : {a b : Ranges} (c : Ranges) (ms ns : List Node) (r : Result Unit StaticFault) → HasNoted a b (ranges_of ms) → AreWalked b c ns r → AreWalked a c (ms ++ ns) r
walked_behind c ms ns (Ok u) h k = noted_as (sym (ranges_append ms ns)) (noted_both h k)
walked_behind c ms ns (Err f) h k = λ fine. k (all_both IsFaultless ms ns fine).1

-- what fails first
pub fails_first : (a b : Ranges) (ms ns : List Node) (r : Result Unit StaticFault) (f : StaticFault) → IsErrAnd r (λ e. e ≡ f) → (AllByRecursion IsFaultless ms → f ≡ answer.Memory) → AreWalked a b (ms ++ ns) r
fails_first a b ms ns r f is h = handed (λ u. HasNoted a b (ranges_of (ms ++ ns))) (λ e. AllByRecursion IsFaultless (ms ++ ns) → e ≡ answer.Memory) r f is (λ fine. h (all_both IsFaultless ms ns fine).0)

-- ---- lists

module _ {A : Type 0} (f : A → List Node) (xs : List A) (i : ℕ) where
  taken : (x : A) → i < length xs → x ≡ get_or xs i x → flat_map f (take (i + 1) xs) ≡ flat_map f (take i xs) ++ f x
  taken x h is = ap (flat_map f) (take_more xs i x h) ∙ flat_map-append f (take i xs) (get_or xs i x ∷ []) ∙ ap (λ (y : A). flat_map f (take i xs) ++ (f y ++ [])) (sym is) ∙ ap (λ rs. flat_map f (take i xs) ++ rs) (append-nil (f x))

  pub walk_more : (x : A) {a b c : Ranges} → i < length xs → x ≡ get_or xs i x → HasNoted a b (ranges_of (flat_map f (take i xs))) → HasNoted b c (ranges_of (f x)) → HasNoted a c (ranges_of (flat_map f (take (i + 1) xs)))
  walk_more x lt is h k = noted_as (sym (ap ranges_of (taken x lt is) ∙ ranges_append (flat_map f (take i xs)) (f x))) (noted_both h k)

  pub walk_all : {a b : Ranges} → length xs ≤ i → HasNoted a b (ranges_of (flat_map f (take i xs))) → HasNoted a b (ranges_of (flat_map f xs))
  walk_all le h = noted_as (ap (λ ys. ranges_of (flat_map f ys)) (take_all i xs le)) h

  -- one of them that fails, where all are fine by a rule of each
  pub each_fails : (Fine : A → Type 0) (a b : Ranges) (r : Result Unit StaticFault) (x : A) (g : StaticFault) → IsErrAnd r (λ e. e ≡ g) → i < length xs → x ≡ get_or xs i x → (Fine x → g ≡ answer.Memory) →
      AreNoted a b (ranges_of (flat_map f xs)) (AllByRecursion Fine xs) r
  each_fails Fine a b r x g fails lt is h =
      handed (λ u. HasNoted a b (ranges_of (flat_map f xs))) (λ e. AllByRecursion Fine xs → e ≡ answer.Memory) r g fails
      (λ fine. h (subst Fine (sym is) (all_at Fine xs i x lt fine)))

  -- one that fails, where nodes are fine without faults
  pub node_fails : (a b : Ranges) (r : Result Unit StaticFault) (x : A) (g : StaticFault) → IsErrAnd r (λ e. e ≡ g) → i < length xs → x ≡ get_or xs i x → (AllByRecursion IsFaultless (f x) → g ≡ answer.Memory) → AreWalked a b (flat_map f xs) r
  node_fails a b r x g fails lt is h =
      handed (λ u. HasNoted a b (ranges_of (flat_map f xs))) (λ e. AllByRecursion IsFaultless (flat_map f xs) → e ≡ answer.Memory) r g fails
      (λ fine. h (subst (λ y. AllByRecursion IsFaultless (f y)) (sym is) (all_at (λ y. AllByRecursion IsFaultless (f y)) xs i x lt (all_parts IsFaultless f xs fine))))

-- ---- parts

-- a value, a first one or one for the next instant
pub alone_walked : (a b : Ranges) (c : Context) (e : Expr) (p : Part) (r : Result Unit StaticFault) → (p ≡ part.Value e) ⊎ ((p ≡ part.First e) ⊎ (p ≡ part.Next e)) → AreWalked a b (nodes e c) r → AreWalked a b (all_nodes (part_expressions p) c) r
alone_walked a b c e p r (inl is) h = walked_as a b (nodes e c) _ r (sym (append-nil (nodes e c)) ∙ ap (λ q. all_nodes (part_expressions q) c) (sym is)) h
alone_walked a b c e p r (inr (inl is)) h = walked_as a b (nodes e c) _ r (sym (append-nil (nodes e c)) ∙ ap (λ q. all_nodes (part_expressions q) c) (sym is)) h
alone_walked a b c e p r (inr (inr is)) h = walked_as a b (nodes e c) _ r (sym (append-nil (nodes e c)) ∙ ap (λ q. all_nodes (part_expressions q) c) (sym is)) h

-- a first value and one for the next instant
module _ (c : Context) (e f : Expr) (p : Part) (is : p ≡ part.Both e f) where
  pub nodes_both : nodes e c ++ nodes f c ≡ all_nodes (part_expressions p) c
  nodes_both = ap (λ ns. nodes e c ++ ns) (sym (append-nil (nodes f c))) ∙ ap (λ q. all_nodes (part_expressions q) c) (sym is)

-- ---- definitions and demands

module _ (all : Names) where
  -- what is given has no faults
  given_none : (l : Left) (es : List Expr) → AllByRecursion (IsGiven all l) es →
      (flat_map (λ j. j.faults) (map (λ e. judged e (asking all l.bound)) es) ≡ []) × (flat_map (λ j. j.fits l.kind) (map (λ e. judged e (asking all l.bound)) es) ≡ [])
  given_none l [] h = (refl, refl)
  given_none l (e ∷ es) h = let r = given_none l es h.1 in (none_both (judged e (asking all l.bound)).faults _ h.0.faultless r.0, none_both ((judged e (asking all l.bound)).fits l.kind) _ h.0.fits r.1)

  -- so there is none in the definition
  pub fitting_faultless : (d : Def) → IsFitting all d → defined_faults all d (under d.name.text all) ≡ []
  fitting_faultless d h =
      let l = left_side d.indices h.kind in
      let js = map (λ e. judged e (asking all l.bound)) (part_expressions d.part) in
      let g = given_none l (part_expressions d.part) h.given in
      ap (defined_faults all d) h.declared ∙ none_both l.faults _ h.faultless (none_both (flat_map (λ (j : Judged). j.faults) js) _ g.0 g.1)

  same_left : (d : Def) (t : Ty) (none : List Index) (slots : List Slot) → none ≡ [] → slots ≡ d.indices → fold with_slot (left_of t none) slots ≡ left_side d.indices (kind_of t)
  same_left d t none slots e s = λ i. fold with_slot (left_of t (e i)) (s i)

  -- nor in its left side
  pub left_faultless : (d : Def) (t : Ty) (none : List Index) (slots : List Slot) → under d.name.text all ≡ Some (variable false (kind_of t)) → none ≡ [] → slots ≡ d.indices → IsFitting all d → (fold with_slot (left_of t none) slots).faults ≡ []
  left_faultless d t none slots found e s h =
      let kinds : kind_of t ≡ h.kind = let both : Some (variable false (kind_of t)) ≡ Some (variable false h.kind) = sym found ∙ h.declared in cc in
      ap (λ (l : Left). l.faults) (same_left d t none slots e s ∙ ap (left_side d.indices) kinds) ∙ h.faultless

  -- its nodes are those of what it gives, under the index names
  pub definition_nodes : (d : Def) (t : Ty) (none indices : List Index) (slots : List Slot) (rest : Ty) (c : Context) → under d.name.text all ≡ Some (variable false (kind_of t)) → none ≡ [] → slots ≡ d.indices →
      fold with_slot (left_of t none) slots ≡ left_of rest indices → c ≡ asking all (index_names indices) → all_nodes (part_expressions d.part) c ≡ asked_nodes all (defines d)
  definition_nodes d t none indices slots rest c found e s is here =
      ap (all_nodes (part_expressions d.part)) (here ∙ ap (λ (l : Left). asking all l.bound) (sym is ∙ same_left d t none slots e s)) ∙ sym (ap (defined_nodes all d) found)

  pub asked_as : (a b : Ranges) (q : Asked) (ns : List Node) (r : Result Unit StaticFault) → ns ≡ asked_nodes all q → AreWalked a b ns r → IsAskedWalked all a b q r
  asked_as a b q ns (Ok u) same h = noted_as (ap ranges_of same) h
  asked_as a b q ns (Err f) same h = λ fine. h (subst (AllByRecursion IsFaultless) (sym same) fine.1)

  -- those of a section
  pub of_asked : {X : Type 0} (a b : Ranges) (g : X → Asked) (xs : List X) (qs : List Asked) (r : Result Unit StaticFault) → qs ≡ map g xs →
      AreNoted a b (ranges_of (flat_map (λ x. asked_nodes all (g x)) xs)) (AllByRecursion (λ x. IsFineAsked all (g x)) xs) r → AreNoted a b (ranges_of (flat_map (asked_nodes all) qs)) (AllByRecursion (IsFineAsked all) qs) r
  of_asked a b g xs qs (Ok u) is h = noted_as (ap ranges_of (sym (flat_map-map (asked_nodes all) g xs) ∙ ap (flat_map (asked_nodes all)) (sym is))) h
  of_asked a b g xs qs (Err f) is h = λ fine. h (all_of_map (IsFineAsked all) g xs (subst (AllByRecursion (IsFineAsked all)) is fine))

-- the items of a section
pub of_items : {X : Type 0} (a b : Ranges) (c : Context) (g : X → Item) (xs : List X) (its : List Item) (r : Result Unit StaticFault) → its ≡ map g xs → AreWalked a b (flat_map (λ x. item_nodes (g x) c) xs) r →
    AreWalked a b (flat_map (λ it. item_nodes it c) its) r
of_items a b c g xs its r is h = walked_as a b (flat_map (λ x. item_nodes (g x) c) xs) _ r (sym (flat_map-map (λ it. item_nodes it c) g xs) ∙ ap (flat_map (λ it. item_nodes it c)) (sym is)) h

-- ---- texts

module _ (m : HllModel) (all : Names) (c : Context) (sections : List Section) (same : all ≡ names m) (here : c ≡ where_declared all) (seen : sections ≡ m.sections) where
  -- what the sections declare, and what they define and demand
  abbrev pub all_declared : List Node
  all_declared = flat_map (λ s. flat_map (λ it. item_nodes it c) (items_in s)) sections

  abbrev pub all_asked : List Node
  all_asked = flat_map (λ s. flat_map (asked_nodes all) (asked_in s)) sections

  declared_is : all_declared ≡ declared_nodes (names m) (items m)
  declared_is =
      let there = here ∙ ap where_declared same in
      (λ i. flat_map (λ s. flat_map (λ it. item_nodes it (there i)) (items_in s)) (seen i)) ∙ sym (flat_map_nested (λ it. item_nodes it (where_declared (names m))) items_in m.sections)

  asked_is : all_asked ≡ flat_map (asked_nodes (names m)) (flat_map asked_in m.sections)
  asked_is = (λ i. flat_map (λ s. flat_map (asked_nodes (same i)) (asked_in s)) (seen i)) ∙ sym (flat_map_nested (asked_nodes (names m)) asked_in m.sections)

  pub declared_fails : Well m → (f : StaticFault) → (AllByRecursion IsFaultless all_declared → f ≡ answer.Memory) → f ≡ answer.Memory
  declared_fails well f h = h (subst (AllByRecursion IsFaultless) (sym declared_is) (all_both IsFaultless _ _ (nodes_faultless m well)).0)

  pub asked_fails : Well m → (f : StaticFault) → (AllByRecursion (λ s. AllByRecursion (IsFineAsked all) (asked_in s)) sections → f ≡ answer.Memory) → f ≡ answer.Memory
  asked_fails well f h =
      let qs = flat_map asked_in m.sections in
      let faultless = all_parts IsFaultless (asked_nodes (names m)) qs (all_both IsFaultless _ _ (nodes_faultless m well)).1 in
      let fine = all_parts (IsFineAsked (names m)) asked_in m.sections (all_paired (IsAskedFaultless (names m)) (λ q. AllByRecursion IsFaultless (asked_nodes (names m) q)) qs (text_asked m well) faultless) in
      h (subst (AllByRecursion (λ s. AllByRecursion (IsFineAsked all) (asked_in s))) (sym seen) (subst (λ (ns : Names). AllByRecursion (λ s. AllByRecursion (IsFineAsked ns) (asked_in s)) m.sections) (sym same) fine))

  pub text_noted : (start mid end : Ranges) → ((r : Ranges) (rs : List Placed) → HasNoted start r rs → noted_in r ≡ rs) → HasNoted start mid (ranges_of all_declared) → HasNoted mid end (ranges_of all_asked) → noted_in end ≡ text_ranges m
  text_noted start mid end kept h k =
      kept end _ (noted_both h k) ∙ (λ i. ranges_of (declared_is i) ++ ranges_of (asked_is i)) ∙
      sym (ranges_append (declared_nodes (names m) (items m)) (flat_map (asked_nodes (names m)) (flat_map asked_in m.sections)))
