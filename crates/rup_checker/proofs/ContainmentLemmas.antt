-- Clauses that are listed under one of their literals, and which clauses contain them.
use Rattle.std.proofs.Common.{◌≡◌, ◌<◌, ◌≤◌, ◌+◌, ◌++◌, ◌∷◌, [], ℕ, suc, Bool, true, false, List, ◌⊎◌, inl, inr, refl, ap, sym, subst, ◌∙◌, length, take, arith}
use Rattle.std.specs.Prelude.{ℤ, neg_ℤ, All, Any, Contains, IsTrue, MatchBool, not, Some, slice_get, slice_index_or}
use Rattle.std.proofs.lemmas.Bool.{false≢true}
use Rattle.std.proofs.lemmas.Bool.Decides.{Decides-eqb}
use Rattle.std.proofs.lemmas.List.{take_all}
use Rattle.std.proofs.lemmas.List.Elements.{All-contains, All-nil, All-cons}
use Rattle.std.proofs.lemmas.Option.{get_or_from_slice_get}
use Rattle.std.proofs.lemmas.List.{get_or_default, get_or_append_left}
use Rattle.std.proofs.lemmas.Int.{ints}
use Rattle.rup_checker.specs.Formulas.{IsLiteral}
use Rattle.rup_checker.specs.Marks.{LiteralMarks, IsMarked, Marks}
use Rattle.rup_checker.specs.Logs.{IsNew}
use Rattle.rup_checker.specs.Occurrences.{Listing, head, linked, listed, AddsNumber}
use Rattle.rup_checker.specs.Stores.{clause_at}
use Rattle.rup_checker.specs.declared.containment.Anchors.{Anchors}
use Rattle.rup_checker.specs.Containment.{IsCovered, IsAnchored, AreAnchored}
use Rattle.rup_checker.proofs.Sets.{member_first, member_later}
use Rattle.rup_checker.proofs.PropagationLemmas.{holds_or_not}

-- what holds of each element so far, at the end
pub all_taken : {X : Type 0} (P : X → Type 0) (xs : List X) (i : ℕ) → length xs ≤ i → All P (take i xs) → All P xs
all_taken {X} P xs i past all = subst (All P) (take_all i xs past) all

-- no clause is listed, and none is noted
pub anchored_none : (clauses : List (List ℤ)) (anchors : Anchors) → ((l : ℤ) → IsLiteral anchors.occurrences.variables l → listed anchors.occurrences l ≡ []) → anchors.has_empty ≡ false → AreAnchored clauses 0 anchors
anchored_none clauses anchors empty unnoted = record {
  within = λ l k known there. let none = subst (λ (xs : List ℕ). Contains xs k) (empty l known) there in let out : none.0 < 0 = none.1 in absurd (omega arith);
  anchored = λ n low. absurd (omega arith);
  empty = λ noted_empty. absurd (false≢true (sym unnoted ∙ noted_empty));
}

-- one more clause is listed under one of its literals
pub anchored_listed : (clauses : List (List ℤ)) (n : ℕ) (c : List ℤ) (l : ℤ) (old new : Anchors) → AreAnchored clauses n old → slice_get clauses n ≡ Some c → Contains c l → AddsNumber old.occurrences new.occurrences (l ∷ []) n → new.has_empty ≡ old.has_empty → AreAnchored clauses (n + 1) new
anchored_listed clauses n c l old new a at there adds same = record {
  within = λ m k known listed_there. elim (adds.only m k listed_there) [
    | inl was ↦ (let low : k < n = a.within m k (subst (λ (v : ℕ). IsLiteral v m) adds.variables known) was in omega arith)
    | inr is ↦ (let equal : k ≡ n = is in omega arith)
  ];
  anchored = λ k low. elim (holds_or_not _ (Decides-eqb k n)) [
    | inl is ↦ subst (IsAnchored clauses new) (sym is) (inr (subst (Any (λ m. Contains (listed new.occurrences m) n)) (sym (get_or_from_slice_get clauses n c [] at)) (there.0, l, there.1, there.2, adds.added 0 l (omega arith))))
    | inr differ ↦ (let before : k < n = omega (arith, differ) in kept k (a.anchored k before))
  ];
  empty = λ noted_empty. let e = a.empty (subst IsTrue same noted_empty) in (e.0, (let low : e.0 < n = e.1 in omega arith), e.2);
}
  where
    kept : (k : ℕ) → IsAnchored clauses old k → IsAnchored clauses new k
    kept k (inl (none, noted_empty)) = inl (none, subst IsTrue (sym same) noted_empty)
    kept k (inr (i, m, within, is, was)) = inr (i, m, within, is, adds.kept m k was)

-- one more clause, an empty one, is noted
pub anchored_empty : (clauses : List (List ℤ)) (n : ℕ) (old new : Anchors) → AreAnchored clauses n old → slice_get clauses n ≡ Some [] → new.occurrences ≡ old.occurrences → new.has_empty ≡ true → AreAnchored clauses (n + 1) new
anchored_empty clauses n old new a at same noted_empty = record {
  within = λ m k known there. let low : k < n = a.within m k (subst (λ (o : Listing). IsLiteral o.variables m) same known) (subst (λ (o : Listing). Contains (listed o m) k) same there) in omega arith;
  anchored = λ k low. elim (holds_or_not _ (Decides-eqb k n)) [
    | inl is ↦ inl (subst (λ (m : ℕ). clause_at clauses m ≡ []) (sym is) this, noted)
    | inr differ ↦ (let before : k < n = omega (arith, differ) in kept k (a.anchored k before))
  ];
  empty = λ _. (n, omega arith, this);
}
  where
    this : clause_at clauses n ≡ []
    this = get_or_from_slice_get clauses n [] [] at

    noted : IsTrue new.has_empty
    noted = noted_empty

    kept : (k : ℕ) → IsAnchored clauses old k → IsAnchored clauses new k
    kept k (inl (none, _)) = inl (none, noted)
    kept k (inr (i, m, within, is, was)) = inr (i, m, within, is, subst (λ (o : Listing). Contains (listed o m) k) (sym same) was)

-- where a test is turned round
pub turned : (b : Bool) {A B P Q : Type 0} → MatchBool b A B → (A → Q) → (B → P) → MatchBool (not b) P Q
turned true h first second = first h
turned false h first second = second h

-- the negation of a literal is one
pub IsLiteral-negation : (n : ℕ) (l : ℤ) → IsLiteral n l → IsLiteral n (neg_ℤ l)
IsLiteral-negation n l known = record { some = omega (arith, ints, known.some); known = omega (arith, ints, known.known) }

-- a clause that passes every test is new
pub new_where : (n : ℕ) (clauses : List (List ℤ)) (anchors : Anchors) (marks : LiteralMarks) (c : List ℤ) → marks.variables ≡ n → AreAnchored clauses (length clauses) anchors → All (IsLiteral n) c → Marks marks c → 0 < length c → ¬ (IsTrue anchors.has_empty) → All (λ l. ¬ (IsMarked marks (neg_ℤ l))) c → All (λ l. All (λ k. ¬ (IsCovered clauses marks k)) (listed anchors.occurrences l)) c → IsNew clauses c
new_where n clauses anchors marks c same a range marked some no_empty consistent uncovered = record {
  some = some;
  consistent = λ l there negated. All-contains (λ m. ¬ (IsMarked marks (neg_ℤ m))) c l consistent there ((marked (neg_ℤ l) (IsLiteral-negation marks.variables l (known l there))).1 negated);
  minimal = λ k d within contained. escapes k (subst (All (Contains c)) (get_or_default clauses k d [] within) contained) (a.anchored k within);
}
  where
    known : (l : ℤ) → Contains c l → IsLiteral marks.variables l
    known l there = subst (λ (v : ℕ). IsLiteral v l) (sym same) (All-contains (IsLiteral n) c l range there)

    escapes : (k : ℕ) → All (Contains c) (clause_at clauses k) → ¬ (IsAnchored clauses anchors k)
    escapes k contained (inl (none, noted_empty)) = no_empty noted_empty
    escapes k contained (inr (i, l, within, is, listed_there)) =
        let inside : Contains c l = subst (Contains c) is (contained i l within) in
        All-contains (λ m. ¬ (IsCovered clauses marks m)) (listed anchors.occurrences l) k
        (All-contains (λ m. All (λ j. ¬ (IsCovered clauses marks j)) (listed anchors.occurrences m)) c l uncovered inside) listed_there
        (λ j d bound. let here : Contains c (slice_index_or (clause_at clauses k) j d) = contained j d bound in
        (known (slice_index_or (clause_at clauses k) j d) here, (marked (slice_index_or (clause_at clauses k) j d) (known (slice_index_or (clause_at clauses k) j d) here)).1 here))

-- a clause is not new where an empty one is known
pub old_empty : (clauses : List (List ℤ)) (anchors : Anchors) (c : List ℤ) → AreAnchored clauses (length clauses) anchors → IsTrue anchors.has_empty → ¬ (IsNew clauses c)
old_empty clauses anchors c a noted_empty new =
    let e = a.empty noted_empty in
    new.minimal e.0 [] e.1 (subst (All (Contains c)) (sym e.2) (All-nil (Contains c)))

-- nor where the negation of one of its literals is marked
pub old_complementary : (n : ℕ) (clauses : List (List ℤ)) (marks : LiteralMarks) (c : List ℤ) → marks.variables ≡ n → All (IsLiteral n) c → Marks marks c → Any (λ l. IsMarked marks (neg_ℤ l)) c → ¬ (IsNew clauses c)
old_complementary n clauses marks c same range marked (i, l, within, is, negated) new =
    let there : Contains c l = (i, within, is) in
    let known : IsLiteral marks.variables l = subst (λ (v : ℕ). IsLiteral v l) (sym same) (All-contains (IsLiteral n) c l range there) in
    new.consistent l there ((marked (neg_ℤ l) (IsLiteral-negation marks.variables l known)).0 negated)

-- nor where it contains a clause that is listed
pub old_covered : (n : ℕ) (clauses : List (List ℤ)) (anchors : Anchors) (marks : LiteralMarks) (c : List ℤ) → anchors.occurrences.variables ≡ n → AreAnchored clauses (length clauses) anchors → All (IsLiteral n) c → Marks marks c → Any (λ l. Any (IsCovered clauses marks) (listed anchors.occurrences l)) c → ¬ (IsNew clauses c)
old_covered n clauses anchors marks c same a range marked (i, l, within, is, (j, k, bound, at, covered)) new =
    let known : IsLiteral anchors.occurrences.variables l = subst (λ (v : ℕ). IsLiteral v l) (sym same) (All-contains (IsLiteral n) c l range (i, within, is)) in
    new.minimal k [] (a.within l k known (j, bound, at))
    (λ m d inside. (marked (slice_index_or (clause_at clauses k) m d) (covered m d inside).0).0 (covered m d inside).1)

-- the same clauses stand first where one more is known
pub anchored_known : (clauses : List (List ℤ)) (c : List ℤ) (anchors : Anchors) → AreAnchored clauses (length clauses) anchors → AreAnchored (clauses ++ c ∷ []) (length clauses) anchors
anchored_known clauses c anchors a = record {
  within = a.within;
  anchored = λ n low. subst (λ (d : List ℤ). ((d ≡ []) × IsTrue anchors.has_empty) ⊎ Any (λ l. Contains (listed anchors.occurrences l) n) d) (sym (get_or_append_left clauses (c ∷ []) [] n low)) (a.anchored n low);
  empty = λ noted. let e = a.empty noted in (e.0, e.1, get_or_append_left clauses (c ∷ []) [] e.0 e.1 ∙ e.2);
}

-- what is left of the list of a literal, from a link on: if a clause in it is covered one of the list is, and if none in
-- it is then none of the list is
pub record IsScanned (clauses : List (List ℤ)) (listing : Listing) (marks : LiteralMarks) (l : ℤ) (link : ℕ) : Type 0 where
  pub found : Any (IsCovered clauses marks) (linked listing link) → Any (IsCovered clauses marks) (listed listing l)
  pub passed : All (λ n. ¬ (IsCovered clauses marks n)) (linked listing link) → All (λ n. ¬ (IsCovered clauses marks n)) (listed listing l)
  pub within : (n : ℕ) → Contains (linked listing link) n → n < length clauses

-- nothing is scanned yet
pub scanned_none : (clauses : List (List ℤ)) (anchors : Anchors) (marks : LiteralMarks) (l : ℤ) (link : ℕ) → AreAnchored clauses (length clauses) anchors → IsLiteral anchors.occurrences.variables l → link ≡ head anchors.occurrences l → IsScanned clauses anchors.occurrences marks l link
scanned_none clauses anchors marks l link a known is = record {
  found = subst (Any (IsCovered clauses marks)) same;
  passed = subst (All (λ n. ¬ (IsCovered clauses marks n))) same;
  within = λ n there. a.within l n known (subst (λ (xs : List ℕ). Contains xs n) same there);
}
  where
    same : linked anchors.occurrences link ≡ listed anchors.occurrences l
    same = ap (linked anchors.occurrences) is

-- the next clause is not covered
pub scanned_next : (clauses : List (List ℤ)) (listing : Listing) (marks : LiteralMarks) (l : ℤ) (link n rest : ℕ) → IsScanned clauses listing marks l link → linked listing link ≡ n ∷ linked listing rest → ¬ (IsCovered clauses marks n) → IsScanned clauses listing marks l rest
scanned_next clauses listing marks l link n rest s next free = record {
  found = λ (i, k, within, is, covered). s.found (subst (Any (IsCovered clauses marks)) (sym next) (suc i, k, omega (arith, within), is, covered));
  passed = λ all. s.passed (subst (All (λ n. ¬ (IsCovered clauses marks n))) (sym next) (All-cons (λ n. ¬ (IsCovered clauses marks n)) n (linked listing rest) free all));
  within = λ k there. s.within k (subst (λ (xs : List ℕ). Contains xs k) (sym next) (member_later n (linked listing rest) k there));
}

-- the next clause is one of those that are known
pub scanned_within : (clauses : List (List ℤ)) (listing : Listing) (marks : LiteralMarks) (l : ℤ) (link n rest : ℕ) → IsScanned clauses listing marks l link → linked listing link ≡ n ∷ linked listing rest → n < length clauses
scanned_within clauses listing marks l link n rest s next = s.within n (subst (λ (xs : List ℕ). Contains xs n) (sym next) (member_first n (linked listing rest)))

-- the next clause is covered
pub scanned_found : (clauses : List (List ℤ)) (listing : Listing) (marks : LiteralMarks) (l : ℤ) (link n rest : ℕ) → IsScanned clauses listing marks l link → linked listing link ≡ n ∷ linked listing rest → IsCovered clauses marks n → Any (IsCovered clauses marks) (listed listing l)
scanned_found clauses listing marks l link n rest s next covered =
    s.found (subst (Any (IsCovered clauses marks)) (sym next) (0, n, omega arith, refl, covered))

-- the list is scanned to its end
pub scanned_all : (clauses : List (List ℤ)) (listing : Listing) (marks : LiteralMarks) (l : ℤ) (link : ℕ) → IsScanned clauses listing marks l link → linked listing link ≡ [] → All (λ n. ¬ (IsCovered clauses marks n)) (listed listing l)
scanned_all clauses listing marks l link s none = s.passed (subst (All (λ n. ¬ (IsCovered clauses marks n))) (sym none) (All-nil _))

-- a clause whose literals are all in range and marked is covered
pub covered_where : (clauses : List (List ℤ)) (marks : LiteralMarks) (n : ℕ) (c : List ℤ) → slice_get clauses n ≡ Some c → All (IsLiteral marks.variables) c → All (IsMarked marks) c → IsCovered clauses marks n
covered_where clauses marks n c at range marked =
    subst (All (λ l. IsLiteral marks.variables l × IsMarked marks l)) (sym (get_or_from_slice_get clauses n c [] at)) (λ k d within. (range k d within, marked k d within))

-- and a covered one has all its literals marked
pub covered_marked : (clauses : List (List ℤ)) (marks : LiteralMarks) (n : ℕ) (c : List ℤ) → slice_get clauses n ≡ Some c → IsCovered clauses marks n → All (IsMarked marks) c
covered_marked clauses marks n c at covered = subst (All (IsMarked marks)) (get_or_from_slice_get clauses n c [] at) (λ k d within. (covered k d within).1)
