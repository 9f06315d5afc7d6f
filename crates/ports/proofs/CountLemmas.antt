-- The counts of names, after a change to their list.
use Rattle.std.proofs.Common.{◌≡◌, ◌≢◌, ℕ, ◌≤◌, List, [], ◌∷◌, ◌++◌, get_or, set, None, Ok, Bool, true, false, Decides, IsSome, ◌⊎◌, inl, inr, ⊎_elim, sym, ap, subst, ◌∙◌, refl, arith, length-set}
use Rattle.std.proofs.lemmas.Slice.Eq.{bytes_eq-Decides}
use Rattle.std.specs.Option.{option_map_or}
use Rattle.std.specs.Str.{bytes_eq}
use Rattle.ports.specs.Causes.{SameCounts, SameOtherCounts}
use Rattle.ports.specs.Named.{first_named, IsFirst}
use Rattle.ports.specs.DeskState.{NamedCounts, read_count, write_count, given_count, IsCounted}
use Rattle.ports.specs.DeskSteps.{Enters, Raises}
use Rattle.ports.specs.Plans.{count_plus}
use Rattle.ports.proofs.NamedLemmas.{IsSome-IsFirst, IsFirst-key, first_named-IsFirst, first_named-set_same, first_named-set_other, first_named-push_same, first_named-push_other}

-- two names are one, or they differ
pub same_or_other : (a b : List ℕ) → (a ≡ b) ⊎ (a ≢ b)
same_or_other a b = by_test (bytes_eq a b) (bytes_eq-Decides a b) where
  by_test : (t : Bool) → Decides t (a ≡ b) → (a ≡ b) ⊎ (a ≢ b)
  by_test true d = inl (d.0 refl)
  by_test false d = inr (λ e. false_true (d.1 e)) where
    false_true : false ≡ true → ⊥
    false_true q = cc

abbrev key : NamedCounts → List ℕ
key c = c.name

abbrev count : (NamedCounts → ℕ) → List NamedCounts → List ℕ → ℕ
count p counts name = option_map_or p (first_named key counts name) 0

-- what the search for a name says of its counts
pub counted_at : (counts : List NamedCounts) (name : List ℕ) (i : ℕ) → IsFirst key counts name i → IsCounted counts name
counted_at counts name i h = IsSome-IsFirst key counts name i h

-- a name that has counts keeps them
pub Enters_there : {T : Type 0} (value : T) (counts : List NamedCounts) (name : List ℕ) → IsCounted counts name → Enters counts counts name (Ok value)
Enters_there value counts name there = record {
  reads = λ _. refl;
  writes = λ _. refl;
  given = λ _. refl;
  counted = there;
  kept = λ _ h. h;
  room = λ _. refl;
}

module _ (counts : List NamedCounts) (name : List ℕ) (w : NamedCounts) (new : first_named key counts name ≡ None) (same : w.name ≡ name) where
  count-push : (p : NamedCounts → ℕ) → p w ≡ 0 → SameCounts (count p counts) (count p (counts ++ w ∷ []))
  count-push p zeroed other = ⊎_elim
      (λ e. ap (λ o. option_map_or p o 0) (first_named-push_same key counts other w (ap (first_named key counts) e ∙ new) (same ∙ sym e)) ∙ zeroed ∙ sym (ap (λ o. option_map_or p o 0) (ap (first_named key counts) e ∙ new)))
      (λ differs. ap (λ o. option_map_or p o 0) (first_named-push_other key counts other w (λ q. differs (sym q ∙ same))))
      (same_or_other other name)

  counted-push : IsCounted (counts ++ w ∷ []) name
  counted-push = subst IsSome (sym (first_named-push_same key counts name w new same)) refl

  kept-push : (other : List ℕ) → IsCounted counts other → IsCounted (counts ++ w ∷ []) other
  kept-push other there = ⊎_elim
      (λ e. subst (λ n. IsCounted (counts ++ w ∷ []) n) (sym e) counted-push)
      (λ differs. subst IsSome (sym (first_named-push_other key counts other w (λ q. differs (sym q ∙ same)))) there)
      (same_or_other other name)

  -- a name that had no counts has three of 0
  pub Enters_new : {T : Type 0} (value : T) → w.reads ≡ 0 → w.writes ≡ 0 → w.given ≡ 0 → Enters counts (counts ++ w ∷ []) name (Ok value)
  Enters_new value reads writes given = record {
    reads = count-push (λ c. c.reads) reads;
    writes = count-push (λ c. c.writes) writes;
    given = count-push (λ c. c.given) given;
    counted = counted-push;
    kept = kept-push;
    room = λ _. refl;
  }

module _ (counts : List NamedCounts) (name : List ℕ) (place : ℕ) (old w : NamedCounts) (here : IsFirst key counts name place) (was : old ≡ get_or counts place old) (same : w.name ≡ old.name) where
  named_so : w.name ≡ name
  named_so = same ∙ ap key was ∙ IsFirst-key key counts name place old here

  count-before : (p : NamedCounts → ℕ) → count p counts name ≡ p old
  count-before p = ap (λ o. option_map_or p o 0) (first_named-IsFirst key counts name place old here) ∙ ap p (sym was)

  count-set : (p : NamedCounts → ℕ) → count p (set counts place w) name ≡ p w
  count-set p = ap (λ o. option_map_or p o 0) (first_named-set_same key counts name place w here named_so)

  count-set_others : (p : NamedCounts → ℕ) → SameOtherCounts name (count p counts) (count p (set counts place w))
  count-set_others p other differs = ap (λ o. option_map_or p o 0) (first_named-set_other key counts name other place w here named_so differs)

  count-set_all : (p : NamedCounts → ℕ) → p w ≡ p old → SameCounts (count p counts) (count p (set counts place w))
  count-set_all p unchanged other = ⊎_elim
      (λ e. subst (λ n. count p (set counts place w) n ≡ count p counts n) (sym e) (count-set p ∙ unchanged ∙ sym (count-before p)))
      (λ differs. count-set_others p other differs)
      (same_or_other other name)

  kept-set : (other : List ℕ) → IsCounted counts other → IsCounted (set counts place w) other
  kept-set other there = ⊎_elim
      (λ e. subst (λ n. IsCounted (set counts place w) n) (sym e) (subst IsSome (sym (first_named-set_same key counts name place w here named_so)) refl))
      (λ differs. subst IsSome (sym (first_named-set_other key counts name other place w here named_so differs)) there)
      (same_or_other other name)

  raises : (p q r : NamedCounts → ℕ) (more : ℕ) → p w ≡ count_plus more (p old) → p old ≤ p w → q w ≡ q old → r w ≡ r old → Raises (count p) (count q) (count r) more counts (set counts place w) name
  raises p q r more risen later second third = record {
    risen = count-set p ∙ risen ∙ ap (count_plus more) (sym (count-before p));
    later = omega (arith, later, count-set p, count-before p);
    others = count-set_others p;
    same_second = count-set_all q second;
    same_third = count-set_all r third;
    as_many = length-set counts place w;
    kept = kept-set;
  }

  pub Raises_reads : w.reads ≡ count_plus 1 old.reads → old.reads ≤ w.reads → w.writes ≡ old.writes → w.given ≡ old.given → Raises read_count write_count given_count 1 counts (set counts place w) name
  Raises_reads = raises (λ c. c.reads) (λ c. c.writes) (λ c. c.given) 1

  pub Raises_writes : w.writes ≡ count_plus 1 old.writes → old.writes ≤ w.writes → w.reads ≡ old.reads → w.given ≡ old.given → Raises write_count read_count given_count 1 counts (set counts place w) name
  Raises_writes = raises (λ c. c.writes) (λ c. c.reads) (λ c. c.given) 1

  pub Raises_given : (more : ℕ) → w.given ≡ count_plus more old.given → old.given ≤ w.given → w.reads ≡ old.reads → w.writes ≡ old.writes → Raises given_count read_count write_count more counts (set counts place w) name
  Raises_given = raises (λ c. c.given) (λ c. c.reads) (λ c. c.writes)
