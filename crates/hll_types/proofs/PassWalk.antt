-- Pass 1 over several items and sections.
use Rattle.std.proofs.Common.{◌≡◌, ℕ, ◌+◌, List, [], ◌∷◌, ◌++◌, map, fold, take, drop, refl, sym, ap, ◌∙◌, append_assoc}
use Rattle.std.specs.List.{flat_map}
use Rattle.std.proofs.lemmas.List.{append-nil, map-append, take-append-drop}
use Rattle.std.proofs.lemmas.List.Sums.{fold-append}
use Rattle.std.proofs.lemmas.Grind.{flat_map-append}
use Rattle.hll_tree.specs.declared.tree.Section.{Section}
use Rattle.hll_meaning.specs.Declarations.{Item, items_in}
use Rattle.hll_meaning.specs.Judging.{Fault}
use Rattle.hll_meaning.specs.StaticRules.{Pass1, declaring, item_faults, pass1_item, early_in}
use Rattle.hll_expressions.specs.declared.faults.StaticFault.{StaticFault}
use Rattle.hll_expressions.specs.Answers.{IsFaultAt}
use Rattle.hll_types.specs.Declaring.{early_in_section}
use Rattle.hll_expressions.proofs.FirstFaults.{fault_front, fault_behind, fault_same}

-- the faults of further items go behind
rest_of : (further : List (List ℕ)) (its : List Item) (p : Pass1) → (rest : List Fault) × ((fold (pass1_item further) p its).faults ≡ p.faults ++ rest)
rest_of further [] p = ([], sym (append-nil p.faults))
rest_of further (it ∷ its) p =
    let more = rest_of further its (pass1_item further p it) in
    (item_faults (declaring p.names further) p it ++ more.0, more.1 ∙ append_assoc p.faults (item_faults (declaring p.names further) p it) more.0)

-- a fault so far is the first of all
pub fault_so_far : (further : List (List ℕ)) (its : List Item) (p : Pass1) (f : StaticFault) → IsFaultAt p.faults f → IsFaultAt (fold (pass1_item further) p its).faults f
fault_so_far further its p f h =
    let more = rest_of further its p in
    fault_same (p.faults ++ more.0) (fold (pass1_item further) p its).faults f (sym more.1) (fault_front p.faults more.0 f h)

-- so is that of an item behind others that have none
pub fault_of_item : (further : List (List ℕ)) (p : Pass1) (front behind all : List Item) (it : Item) (f : StaticFault) → all ≡ front ++ it ∷ behind → (fold (pass1_item further) p front).faults ≡ [] →
    IsFaultAt (item_faults (declaring (fold (pass1_item further) p front).names further) (fold (pass1_item further) p front) it) f → IsFaultAt (fold (pass1_item further) p all).faults f
fault_of_item further p front behind all it f is none h =
    let q = fold (pass1_item further) p front in
    let here : IsFaultAt (pass1_item further q it).faults f = fault_behind q.faults (item_faults (declaring q.names further) q it) f none h in
    fault_same (fold (pass1_item further) (pass1_item further q it) behind).faults (fold (pass1_item further) p all).faults f
    (ap (λ (r : Pass1). r.faults) (sym (fold-append (pass1_item further) p front (it ∷ behind))) ∙ ap (λ its. (fold (pass1_item further) p its).faults) (sym is))
    (fault_so_far further behind (pass1_item further q it) f here)

-- items of some kind
module _ {A : Type 0} (made : A → Item) where
  pub items_more : (xs ys : List A) (x : A) → ys ≡ xs ++ x ∷ [] → map made ys ≡ map made xs ++ made x ∷ []
  items_more xs ys x more = ap (map made) more ∙ map-append made xs (x ∷ [])

  pub items_split : (xs : List A) (i : ℕ) (x : A) → take (i + 1) xs ≡ take i xs ++ x ∷ [] → map made xs ≡ map made (take i xs) ++ made x ∷ map made (drop (i + 1) xs)
  items_split xs i x more =
      ap (map made) (sym (take-append-drop (i + 1) xs) ∙ ap (λ ys. ys ++ drop (i + 1) xs) more ∙ append_assoc (take i xs) (x ∷ []) (drop (i + 1) xs))
      ∙ map-append made (take i xs) (x ∷ drop (i + 1) xs)

pub pass_more : (further : List (List ℕ)) (p : Pass1) (front all : List Item) (it : Item) → all ≡ front ++ it ∷ [] → fold (pass1_item further) p all ≡ pass1_item further (fold (pass1_item further) p front) it
pass_more further p front all it is = ap (fold (pass1_item further) p) is ∙ fold-append (pass1_item further) p front (it ∷ [])

-- ---- sections

pub sections_more : (further : List (List ℕ)) (p : Pass1) (xs ys : List Section) (s : Section) → ys ≡ xs ++ s ∷ [] →
    fold (pass1_item further) p (flat_map items_in ys) ≡ fold (pass1_item further) (fold (pass1_item further) p (flat_map items_in xs)) (items_in s)
sections_more further p xs ys s more =
    ap (λ ss. fold (pass1_item further) p (flat_map items_in ss)) more
    ∙ ap (fold (pass1_item further) p) (flat_map-append items_in xs (s ∷ []) ∙ ap (λ its. flat_map items_in xs ++ its) (append-nil (items_in s)))
    ∙ fold-append (pass1_item further) p (flat_map items_in xs) (items_in s)

-- the first fault up to a section is the first of all
pub fault_of_section : (further : List (List ℕ)) (p : Pass1) (sections : List Section) (i : ℕ) (s : Section) (f : StaticFault) → take (i + 1) sections ≡ take i sections ++ s ∷ [] →
    IsFaultAt (fold (pass1_item further) (fold (pass1_item further) p (flat_map items_in (take i sections))) (items_in s)).faults f → IsFaultAt (fold (pass1_item further) p (flat_map items_in sections)).faults f
fault_of_section further p sections i s f more h =
    let q = fold (pass1_item further) p (flat_map items_in (take (i + 1) sections)) in
    let here : IsFaultAt q.faults f = fault_same _ q.faults f (ap (λ (r : Pass1). r.faults) (sym (sections_more further p (take i sections) (take (i + 1) sections) s more))) h in
    fault_same (fold (pass1_item further) q (flat_map items_in (drop (i + 1) sections))).faults (fold (pass1_item further) p (flat_map items_in sections)).faults f
    (ap (λ (r : Pass1). r.faults) (sym (fold-append (pass1_item further) p (flat_map items_in (take (i + 1) sections)) (flat_map items_in (drop (i + 1) sections)))
    ∙ ap (fold (pass1_item further) p) (sym (flat_map-append items_in (take (i + 1) sections) (drop (i + 1) sections)) ∙ ap (flat_map items_in) (take-append-drop (i + 1) sections))))
    (fault_so_far further (flat_map items_in (drop (i + 1) sections)) q f here)

-- names that stand further on, section by section
pub early_sections : (sections : List Section) → flat_map early_in_section sections ≡ flat_map early_in (flat_map items_in sections)
early_sections [] = refl
early_sections (s ∷ sections) =
    ap (λ ns. flat_map early_in (items_in s) ++ ns) (early_sections sections) ∙ sym (flat_map-append early_in (items_in s) (flat_map items_in sections))
