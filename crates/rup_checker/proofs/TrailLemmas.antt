-- The literals that are taken false, with their marks.
use Rattle.std.proofs.Common.{◌≡◌, ◌↔◌, ◌≤◌, ◌++◌, ◌∷◌, [], ℕ, List, ◌⊎◌, inl, inr, refl, sym, ap, subst, ◌∙◌, arith}
use Rattle.std.specs.Prelude.{ℤ, neg_ℤ, ◌≢◌, All, Contains, slice_index_or}
use Rattle.std.proofs.lemmas.Bool.Decides.{Decides-int_eq}
use Rattle.std.proofs.lemmas.List.Elements.{All-push, All-contains, Contains-get_or, Contains-push, Contains-push_cases, Contains-append_left}
use Rattle.std.proofs.lemmas.List.Quantifiers.{all_pairs_push}
use Rattle.rup_checker.specs.Formulas.{IsLiteral}
use Rattle.rup_checker.specs.Steps.{IsUnit}
use Rattle.rup_checker.specs.declared.status.Status.{Status}
use Rattle.rup_checker.specs.declared.status.Status.TheVariants as status
use Rattle.rup_checker.specs.Marks.{LiteralMarks, IsMarked, HasTwoLeft, HasStatus}
use Rattle.rup_checker.specs.Closing.{IsTrail, TrailState, IsVisited}
use Rattle.rup_checker.proofs.PropagationLemmas.{holds_or_not, quiet_open, quiet_unit}

-- a literal comes to the trail
pub trail_more : (old new : LiteralMarks) (literals : List ℤ) (l : ℤ) → IsTrail old literals → IsLiteral old.variables l → ¬ (IsMarked old l) → new.variables ≡ old.variables → IsMarked new l → ((m : ℤ) → IsLiteral old.variables m → m ≢ l → IsMarked new m ↔ IsMarked old m) → IsTrail new (literals ++ l ∷ [])
trail_more old new literals l trail known free same itself others = record {
  bound = let was : old.variables ≤ 16000000 = trail.bound in omega arith;
  marked = λ m known'. let was : IsLiteral old.variables m = subst (λ (n : ℕ). IsLiteral n m) same known' in (
    λ marked. elim (holds_or_not _ (Decides-int_eq m l)) [ inl is ↦ subst (Contains (literals ++ l ∷ [])) (sym is) (Contains-push literals l) | inr differ ↦ Contains-append_left literals (l ∷ []) m ((trail.marked m was).0 ((others m was differ).0 marked)) ],
    λ there. elim (Contains-push_cases literals l m there) [ inl old_one ↦ old_marked m was old_one | inr is ↦ subst (IsMarked new) is itself ],
  );
  in_range = subst (λ (n : ℕ). All (IsLiteral n) (literals ++ l ∷ [])) (sym same) (All-push (IsLiteral old.variables) literals l trail.in_range known);
  apart = all_pairs_push (λ a b. a ≢ b) literals l trail.apart (λ k d within is. free ((trail.marked l known).1 (subst (Contains literals) is (Contains-get_or literals k d within))));
}
  where
    old_marked : (m : ℤ) → IsLiteral old.variables m → Contains literals m → IsMarked new m
    old_marked m was there = elim (holds_or_not _ (Decides-int_eq m l)) [ inl is ↦ subst (IsMarked new) (sym is) itself | inr differ ↦ (others m was differ).1 ((trail.marked m was).1 there) ]

-- how a clause stands depends only on which of its literals are false
pub HasStatus-same : (P Q : ℤ → Type 0) (c : List ℤ) → ((l : ℤ) → Contains c l → P l ↔ Q l) → (how : Status) → HasStatus P c how → HasStatus Q c how
HasStatus-same P Q c same status.False all = λ k d within. (same (slice_index_or c k d) (Contains-get_or c k d within)).0 (all k d within)
HasStatus-same P Q c same (status.Unit l) unit = record {
  stands = unit.stands;
  left = λ q. unit.left ((same l unit.stands).1 q);
  alone = λ m there free. unit.alone m there (λ p. free ((same m there).0 p));
}
HasStatus-same P Q c same status.Open two = record {
  one = two.one;
  other = two.other;
  one_stands = two.one_stands;
  other_stands = two.other_stands;
  one_left = λ q. two.one_left ((same two.one two.one_stands).1 q);
  other_left = λ q. two.other_left ((same two.other two.other_stands).1 q);
  differ = two.differ;
}

-- by marks or by the list of those that are taken false
pub HasStatus-trail : (marks : LiteralMarks) (literals : List ℤ) (c : List ℤ) (how : Status) → IsTrail marks literals → All (IsLiteral marks.variables) c → HasStatus (IsMarked marks) c how → HasStatus (Contains literals) c how
HasStatus-trail marks literals c how trail known stands = HasStatus-same (IsMarked marks) (Contains literals) c (λ l there. trail.marked l (All-contains (IsLiteral marks.variables) c l known there)) how stands

-- the same as contracts see the trail
pub HasStatus-now : (t : TrailState) (marks : LiteralMarks) (literals : List ℤ) (c : List ℤ) (how : Status) → marks.variables ≡ t.variables → literals ≡ t.taken → IsTrail marks literals → All (IsLiteral t.variables) c → HasStatus (IsMarked marks) c how → HasStatus (Contains t.taken) c how
HasStatus-now t marks literals c how same taken trail known stands = subst (λ (ls : List ℤ). HasStatus (Contains ls) c how) taken
    (HasStatus-trail marks literals c how trail (subst (λ (n : ℕ). All (IsLiteral n) c) (sym same) known) stands)

-- a clause is looked at of which two literals are left
pub visited_open : (t : TrailState) (c : List ℤ) → HasTwoLeft (Contains t.taken) c → IsVisited t t c
visited_open t c two = inl (refl, quiet_open (Contains t.taken) c two)

-- a clause is looked at of which one literal is left
pub visited_unit : (t new : TrailState) (c : List ℤ) (l m : ℤ) → IsUnit (Contains t.taken) c l → ((new ≡ t) × Contains t.taken m) ⊎ (new ≡ record t { taken = t.taken ++ m ∷ [] }) → m ≡ neg_ℤ l → IsVisited t new c
visited_unit t new c l m unit (inl (same, there)) is = inl (same, quiet_unit (Contains t.taken) c l unit (subst (Contains t.taken) is there))
visited_unit t new c l m unit (inr same) is = inr (l, unit, same ∙ ap (λ (k : ℤ). record t { taken = t.taken ++ k ∷ [] }) is)
