-- Look-ups by hash and by the order of the text: entries whose keys are seen as names.
use Rattle.std.proofs.Common.{◌≡◌, ℕ, Bool, true, false, not, cond, ◌||◌, List, [], ◌∷◌, ◌++◌, None, Some, position, nat_lt, ◌+◌, Ok, Err, Result, MatchResult, map, refl, sym, ap, ◌∙◌, if◌then◌else◌}
use Rattle.std.specs.List.{list_any, position_or_len}
use Rattle.std.specs.Map.{lookup}
use Rattle.std.specs.Str.{bytes_eq}
use Rattle.std.proofs.lemmas.List.{map-append, length-map}
use Rattle.std.proofs.lemmas.Slice.Eq.{bytes_eq-Decides}
use Rattle.indexmap.specs.IndexMap.{insert_entry}
use Rattle.indexmap.specs.IndexSet.{insert_key}
use Rattle.hll_tree.specs.declared.tree.Name.{Name}
use Rattle.hll_meaning.specs.declared.fault.StaticKind.TheVariants as is
use Rattle.hll_meaning.specs.Names.{under}
use Rattle.hll_meaning.specs.Declarations.{is_among}
use Rattle.hll_meaning.specs.Judging.{fault_if}
use Rattle.hll_meaning.specs.StaticRules.{fresh_name}
use Rattle.hll_meaning.proofs.Scenes.{by_test, under_here, under_further}
use Rattle.hll_expressions.specs.declared.faults.StaticFault.{StaticFault}
use Rattle.hll_expressions.specs.Answers.{IsFaultAt, RefusesIf}
use Rattle.hll_expressions.proofs.FirstFaults.{fault_front, fault_same}

pub bytes_eq-sym : (xs ys : List ℕ) → bytes_eq xs ys ≡ bytes_eq ys xs
bytes_eq-sym xs ys =
    by_test (bytes_eq xs ys)
    (λ same. same ∙ sym ((bytes_eq-Decides ys xs).1 (sym ((bytes_eq-Decides xs ys).0 same))))
    (λ other. by_test (bytes_eq ys xs)
    (λ same. (bytes_eq-Decides xs ys).1 (sym ((bytes_eq-Decides ys xs).0 same)) ∙ sym same)
    (λ differ. other ∙ sym differ))

-- the same names are sought from either side
pub among_sought : (names : List (List ℕ)) (n : List ℕ) → list_any (bytes_eq n) names ≡ is_among names n
among_sought [] n = refl
among_sought (m ∷ names) n = (λ i. bytes_eq-sym n m i || among_sought names n i)

module _ {K : Type 0} (name : K → List ℕ) where
  pub among_named : (ks : List K) (n : List ℕ) → list_any (λ k. bytes_eq n (name k)) ks ≡ is_among (map name ks) n
  among_named [] n = refl
  among_named (k ∷ ks) n = (λ i. bytes_eq-sym n (name k) i || among_named ks n i)

  -- a name that is new goes last
  pub insert_new_key : (ks : List K) (k : K) → is_among (map name ks) (name k) ≡ false → map name (insert_key (λ x y. bytes_eq (name x) (name y)) ks k) ≡ map name ks ++ name k ∷ []
  insert_new_key ks k new =
      ap (λ b. map name (if b then ks else ks ++ k ∷ [])) (among_named ks (name k) ∙ new) ∙ map-append name ks (k ∷ [])

module _ {K X : Type 0} (name : K → List ℕ) where
  -- the entries by their names
  abbrev pub named : List (K × X) → List (List ℕ × X)
  named es = map (λ e. (name e.0, e.1)) es

  pub lookup_under : (n : List ℕ) (es : List (K × X)) → lookup (λ k. bytes_eq n (name k)) es ≡ under n (named es)
  lookup_under n [] = refl
  lookup_under n (e ∷ es) =
      by_test (bytes_eq (name e.0) n)
      (λ same. ap (λ b. cond b (Some e.1) (lookup (λ k. bytes_eq n (name k)) es)) (bytes_eq-sym n (name e.0) ∙ same) ∙ sym (under_here n (name e.0) e.1 (named es) same))
      (λ other. ap (λ b. cond b (Some e.1) (lookup (λ k. bytes_eq n (name k)) es)) (bytes_eq-sym n (name e.0) ∙ other) ∙ lookup_under n es ∙ sym (under_further n (name e.0) e.1 (named es) other))

  -- an entry is put the same by its name
  pub insert_named : (es : List (K × X)) (k : K) (v : X) → named (insert_entry (λ x y. bytes_eq (name x) (name y)) es k v) ≡ insert_entry bytes_eq (named es) (name k) v
  insert_named [] k v = refl
  insert_named (e ∷ es) k v =
      by_test (bytes_eq (name k) (name e.0))
      (λ same. ap (λ b. named (if b then (e.0, v) ∷ es else e ∷ insert_entry (λ x y. bytes_eq (name x) (name y)) es k v)) same
      ∙ sym (ap (λ b. if b then (name e.0, v) ∷ named es else (name e.0, e.1) ∷ insert_entry bytes_eq (named es) (name k) v) same))
      (λ other. ap (λ b. named (if b then (e.0, v) ∷ es else e ∷ insert_entry (λ x y. bytes_eq (name x) (name y)) es k v)) other
      ∙ ap (λ xs. (name e.0, e.1) ∷ xs) (insert_named es k v)
      ∙ sym (ap (λ b. if b then (name e.0, v) ∷ named es else (name e.0, e.1) ∷ insert_entry bytes_eq (named es) (name k) v) other))

module _ {X : Type 0} where
  -- an entry whose name is new goes last
  pub insert_new : (es : List (List ℕ × X)) (n : List ℕ) (v : X) → under n es ≡ None → insert_entry bytes_eq es n v ≡ es ++ (n, v) ∷ []
  insert_new [] n v none = refl
  insert_new ((own, x) ∷ es) n v none =
      by_test (bytes_eq own n)
      (λ same. let found : Some x ≡ None = sym (under_here n own x es same) ∙ none in absurd (cc found))
      (λ other. ap (λ b. if b then (own, v) ∷ es else (own, x) ∷ insert_entry bytes_eq es n v) (bytes_eq-sym n own ∙ other)
      ∙ ap (λ xs. (own, x) ∷ xs) (insert_new es n v (sym (under_further n own x es other) ∙ none)))

-- ---- names behind others

-- what is found in front is found
pub under_front : {A : Type 0} (n : List ℕ) (xs ys : List (List ℕ × A)) (a : A) → under n xs ≡ Some a → under n (xs ++ ys) ≡ Some a
under_front n [] ys a is = absurd (cc is)
under_front n ((own, b) ∷ xs) ys a is =
    by_test (bytes_eq own n)
    (λ same. under_here n own b (xs ++ ys) same ∙ sym (under_here n own b xs same) ∙ is)
    (λ other. under_further n own b (xs ++ ys) other ∙ under_front n xs ys a (sym (under_further n own b xs other) ∙ is))

-- what isn't found in front is found behind
pub under_back : {A : Type 0} (n : List ℕ) (xs ys : List (List ℕ × A)) → under n xs ≡ None → under n (xs ++ ys) ≡ under n ys
under_back n [] ys is = refl
under_back n ((own, b) ∷ xs) ys is =
    by_test (bytes_eq own n)
    (λ same. let found : Some b ≡ None = sym (under_here n own b xs same) ∙ is in absurd (cc found))
    (λ other. under_further n own b (xs ++ ys) other ∙ under_back n xs ys (sym (under_further n own b xs other) ∙ is))

-- ---- names that were seen

-- a name is refused where it was seen, and else taken in
pub refused_or_new : (seen new : List (List ℕ)) (n : Name) (is_new : Bool) (result : Result Unit StaticFault) → is_new ≡ not (is_among seen n.text) → (is_among seen n.text ≡ false → new ≡ seen ++ n.text ∷ []) →
    RefusesIf (not is_new) is.Twice n.at result → MatchResult result (λ u. (fresh_name seen n ≡ []) × (new ≡ seen ++ n.text ∷ [])) (IsFaultAt (fresh_name seen n))
refused_or_new seen new n is_new (Ok u) says put h =
    let free : is_among seen n.text ≡ false = by (is_among seen n.text) (sym (ap not says) ∙ h) in
    (ap (λ b. fault_if b is.Twice n.at ++ []) free, put free)
  where
    by : (b : Bool) → not (not b) ≡ false → b ≡ false
    by true k = k
    by false k = k
refused_or_new seen new n is_new (Err f) says put h =
    let same : not is_new ≡ is_among seen n.text = ap not says ∙ twice (is_among seen n.text) in
    fault_front (fault_if (is_among seen n.text) is.Twice n.at) [] f (fault_same (fault_if (not is_new) is.Twice n.at) (fault_if (is_among seen n.text) is.Twice n.at) f (ap (λ b. fault_if b is.Twice n.at) same) h.1)
  where
    twice : (b : Bool) → not (not b) ≡ b
    twice true = refl
    twice false = refl

-- ---- positions

prefix_named : {K : Type 0} (name : K → List ℕ) (n : List ℕ) (ks : List K) → position_or_len (λ k. bytes_eq n (name k)) ks ≡ position_or_len (bytes_eq n) (map name ks)
prefix_named name n [] = refl
prefix_named name n (k ∷ ks) = ap (λ m. cond (not (bytes_eq n (name k))) (1 + m) 0) (prefix_named name n ks)

pub position_named : {K : Type 0} (name : K → List ℕ) (n : List ℕ) (ks : List K) → position (λ k. bytes_eq n (name k)) ks ≡ position (bytes_eq n) (map name ks)
position_named name n ks =
    let before = prefix_named name n ks in
    let count = sym (length-map ks name) in
    λ i. cond (nat_lt (before i) (count i)) (Some (before i)) None
