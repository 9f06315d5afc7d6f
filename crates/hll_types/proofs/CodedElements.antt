-- The elements that are kept by their roots and codes.
use Rattle.std.proofs.Common.{◌≡◌, ℕ, zero, suc, ◌<◌, ◌≤◌, Bool, true, false, ◌&&◌, ◌⊎◌, inl, inr, List, [], ◌∷◌, fold, length, Contains, Option, None, Some, MatchOption, position, nat_eq, Vec, Global, eq-eqb, refl, sym, ap, subst, ◌∙◌, arith, if◌then◌else◌}
use Rattle.std.specs.Prelude.{option_and_then}
use Rattle.std.specs.List.{position_or_len}
use Rattle.indexmap.specs.IndexSet.{insert_key}
use Rattle.std.specs.Str.{bytes_eq}
use Rattle.std.proofs.lemmas.Bool.{eqb-true}
use Rattle.std.proofs.lemmas.Slice.Eq.{bytes_eq-Decides}
use Rattle.hll_meaning.proofs.Scenes.{by_test}
use Rattle.hll_meaning.specs.Names.{Thing, constant, type_of, code_in, variable, later, Names}
use Rattle.hll_types.specs.declared.elements.Elements.{Elements}
use Rattle.hll_types.specs.Checked.{IsElementOf}
use Rattle.hll_types.specs.Tables.{is_coded, with_coded, coded_among, numbered, place_in, element_in, AreNumbered, HasNumber}
use Rattle.hll_types.proofs.Apart.{can_not, true_is_not}
use Rattle.hll_types.proofs.NewSorts.{same_name}
use Rattle.hll_types.proofs.RootNumbers.{own_place, places_so, within_keys, no_fewer_keys, other_place}

-- ---- numbers

-- a root has the number at which its name is put
pub has_number : (old new : Elements) (k : Vec ℕ Global) (root : List ℕ) (number : ℕ) → k.items ≡ root → new.roots.keys ≡ insert_key (λ x y. bytes_eq x.items y.items) old.roots.keys k → number ≡ position_or_len (λ y. bytes_eq k.items y.items) old.roots.keys →
    new.by_code ≡ old.by_code → HasNumber old new root number
has_number old new k root number same keys is names =
    let ks = old.roots.keys in
    let own : HasNumber old new k.items (position_or_len (λ y. bytes_eq k.items y.items) ks) = record {
      own = own_place (λ y. y.items) ks k;
      places = λ r. ap (position (λ y. bytes_eq r y.items)) keys ∙ places_so (λ y. y.items) ks k r;
      within = subst (λ (xs : List (Vec ℕ Global)). position_or_len (λ y. bytes_eq k.items y.items) ks < length xs) (sym keys) (within_keys (λ y. y.items) ks k);
      no_fewer = subst (λ (xs : List (Vec ℕ Global)). length ks ≤ length xs) (sym keys) (no_fewer_keys (λ y. y.items) ks k);
      others = other_place (λ y. y.items) ks k;
      names = names;
    } in
    subst (λ (r : List ℕ). HasNumber old new r number) same (subst (λ (n : ℕ). HasNumber old new k.items n) (sym is) own)

-- ---- one more

module _ (old mid new : Elements) (root : List ℕ) (number code : ℕ) (name : List ℕ) (h : HasNumber old mid root number) (before : AreNumbered old) (roots : new.roots ≡ mid.roots)
    (puts : (i c : ℕ) → numbered new i c ≡ (if nat_eq number i && nat_eq code c then Some name else numbered mid i c)) where
  as_before : (i c : ℕ) → numbered mid i c ≡ numbered old i c
  as_before i c = ap (λ m. numbered (record { roots = mid.roots; by_code = m }) i c) h.names

  -- what was found under the number
  found_before : (c : ℕ) → numbered old number c ≡ element_in old root c
  found_before c = by (place_in old root) h.own
    where
      by : (o : Option ℕ) → MatchOption o (length old.roots.keys ≤ number) (λ i. i ≡ number) → numbered old number c ≡ option_and_then (λ i. numbered old i c) o
      by None few = before number c few
      by (Some i) same = ap (λ j. numbered old j c) (sym same)

  found_place : (r : List ℕ) → place_in new r ≡ (if bytes_eq root r then Some number else place_in old r)
  found_place r = ap (λ s. place_in (record { roots = s; by_code = new.by_code }) r) roots ∙ h.places r

  others_stay : (r : List ℕ) (c : ℕ) → bytes_eq root r ≡ false → option_and_then (λ i. numbered new i c) (place_in old r) ≡ element_in old r c
  others_stay r c other = by (place_in old r) refl
    where
      by : (o : Option ℕ) → place_in old r ≡ o → option_and_then (λ i. numbered new i c) o ≡ option_and_then (λ i. numbered old i c) o
      by None is = refl
      by (Some i) is = puts i c ∙ ap (λ b. if b && nat_eq code c then Some name else numbered mid i c) (h.others r i other is) ∙ as_before i c

  pub one_found : (r : List ℕ) (c : ℕ) → element_in new r c ≡ (if bytes_eq root r && nat_eq code c then Some name else element_in old r c)
  one_found r c =
      ap (option_and_then (λ i. numbered new i c)) (found_place r) ∙
      by_test (bytes_eq root r)
      (λ same.
      ap (λ b. option_and_then (λ i. numbered new i c) (if b then Some number else place_in old r)) same
      ∙ puts number c
      ∙ ap (λ b. if b && nat_eq code c then Some name else numbered mid number c) (eq-eqb number number refl)
      ∙ ap (λ o. if nat_eq code c then Some name else o) (as_before number c ∙ found_before c ∙ ap (λ n. element_in old n c) (same_name root r same))
      ∙ ap (λ b. if b && nat_eq code c then Some name else element_in old r c) (sym same))
      (λ other.
      ap (λ b. option_and_then (λ i. numbered new i c) (if b then Some number else place_in old r)) other
      ∙ others_stay r c other
      ∙ ap (λ b. if b && nat_eq code c then Some name else element_in old r c) (sym other))

  pub still_numbered : AreNumbered new
  still_numbered i c few =
      let same = ap (λ s. length s.keys) roots in
      let within = h.within in
      let no_fewer = h.no_fewer in
      let apart : nat_eq number i ≡ false = can_not (nat_eq number i) (λ eq. let equal = eqb-true number i eq in let never : ⊥ = absurd (omega arith) in never) in
      puts i c ∙ ap (λ b. if b && nat_eq code c then Some name else numbered mid i c) apart ∙ as_before i c ∙ before i c (omega arith)

-- ---- all of them

both_so : (a b : Bool) → (a && b) ≡ true → (a ≡ true) × (b ≡ true)
both_so true b h = (refl, h)
both_so false b h = absurd (cc h)

module _ (root : List ℕ) (code : ℕ) where
  is_itself : (b : Bool) → b ≡ true → nat_eq code code ≡ true → (b && nat_eq code code) ≡ true
  is_itself b p q = λ i. p i && q i

  coded_itself : is_coded root code (code_in root code) ≡ true
  coded_itself = is_itself (bytes_eq root root) ((bytes_eq-Decides root root).1 refl) (eq-eqb code code refl)

  missing : (xs : Names) (found : Option (List ℕ)) → fold (with_coded root code) found xs ≡ None → (found ≡ None) × ((n : List ℕ) → Contains xs (n, code_in root code) → ⊥)
  missing [] found h = (h, λ n there. absurd (omega (arith, there.1)))
  missing (x ∷ xs) found h =
      let rest = missing xs (with_coded root code found x) h in
      by_test (is_coded root code x.1)
      (λ yes. let clash : Some x.0 ≡ None = ap (λ b. if b then Some x.0 else found) (sym yes) ∙ rest.0 in absurd (cc clash))
      (λ no. (ap (λ b. if b then Some x.0 else found) (sym no) ∙ rest.0, λ n there. not_here no rest.1 n there))
    where
      not_here : is_coded root code x.1 ≡ false → ((n : List ℕ) → Contains xs (n, code_in root code) → ⊥) → (n : List ℕ) → Contains (x ∷ xs) (n, code_in root code) → ⊥
      not_here other none n (zero, few, is) = true_is_not (is_coded root code x.1) (ap (λ (y : List ℕ × Thing). is_coded root code y.1) is ∙ coded_itself) other
      not_here other none n (suc k, few, is) = none n (k, (omega arith), is)

  -- a thing with this root and code is that element
  coded_so : (t : Thing) → is_coded root code t ≡ true → t ≡ code_in root code
  coded_so (constant b x) h = absurd (cc h)
  coded_so (type_of k) h = absurd (cc h)
  coded_so (code_in r c) h = let parts = both_so (bytes_eq r root) (nat_eq c code) h in λ i. code_in (same_name r root parts.0 i) (eqb-true c code parts.1 i)
  coded_so (variable input k) h = absurd (cc h)
  coded_so later h = absurd (cc h)

  there : (xs : Names) (found : Option (List ℕ)) (n : List ℕ) → fold (with_coded root code) found xs ≡ Some n → (found ≡ Some n) ⊎ Contains xs (n, code_in root code)
  there [] found n h = inl h
  there (x ∷ xs) found n h = by (there xs (with_coded root code found x) n h)
    where
      here : is_coded root code x.1 ≡ true → Some x.0 ≡ Some n → Contains (x ∷ xs) (n, code_in root code)
      here coded is = (0, (omega arith), (let same : x.0 ≡ n = cc in λ i. (same i, coded_so x.1 coded i)))

      by : (with_coded root code found x ≡ Some n) ⊎ Contains xs (n, code_in root code) → (found ≡ Some n) ⊎ Contains (x ∷ xs) (n, code_in root code)
      by (inr c) = inr (suc c.0, (omega (arith, c.1)), c.2)
      by (inl is) =
          by_test (is_coded root code x.1)
          (λ yes. inr (here yes (ap (λ b. if b then Some x.0 else found) (sym yes) ∙ is)))
          (λ no. inl (ap (λ b. if b then Some x.0 else found) (sym no) ∙ is))

  pub element_among : (xs : Names) → IsElementOf xs root code (coded_among root code xs)
  element_among xs = by (coded_among root code xs) refl
    where
      by : (o : Option (List ℕ)) → coded_among root code xs ≡ o → IsElementOf xs root code o
      by None is = (missing xs None is).1
      by (Some n) is = elim (there xs None n is) [ inl never ↦ absurd (cc never) | inr found ↦ found ]
