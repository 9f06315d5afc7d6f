-- Names by hash, and in the order of the text.
use Rattle.std.proofs.Common.{◌≡◌, ℕ, true, false, cond, ◌||◌, List, [], ◌∷◌, ◌++◌, None, Some, Option, is_some, option_map, map, refl, sym, ap, ◌∙◌, if◌then◌else◌}
use Rattle.std.specs.List.{AllByRecursion, IsDistinct, list_any}
use Rattle.std.specs.Map.{lookup}
use Rattle.std.specs.Str.{bytes_eq}
use Rattle.std.proofs.lemmas.List.{map-append}
use Rattle.std.proofs.lemmas.Slice.Eq.{bytes_eq-Decides}
use Rattle.indexmap.specs.IndexMap.{insert_entry}
use Rattle.indexmap.specs.IndexSet.{insert_key}
use Rattle.hll_meaning.specs.Names.{Thing, Names, later, under}
use Rattle.hll_meaning.specs.Declarations.{is_among}
use Rattle.hll_meaning.proofs.Faultless.{neither}
use Rattle.hll_meaning.proofs.Scenes.{by_test, under_here, under_further}
use Rattle.hll_expressions.proofs.ByName.{bytes_eq-sym, among_named}
use Rattle.hll_expressions.proofs.ByName.{under_front, under_back}

module _ {K X : Type 0} (name : K → List ℕ) (said : X → Thing) where
  -- the entries as names with what they stand for
  abbrev pub as_names : List (K × X) → Names
  as_names es = map (λ e. (name e.0, said e.1)) es

  -- a name is declared exactly where it is found
  pub found_among : (n : List ℕ) (es : List (K × X)) → is_some (lookup (λ k. bytes_eq n (name k)) es) ≡ is_among (map (λ (x : List ℕ × Thing). x.0) (as_names es)) n
  found_among n [] = refl
  found_among n (e ∷ es) =
      by_test (bytes_eq (name e.0) n)
      (λ same. ap (λ b. is_some (cond b (Some e.1) (lookup (λ k. bytes_eq n (name k)) es))) (bytes_eq-sym n (name e.0) ∙ same) ∙ ap (λ b. b || is_among (map (λ (x : List ℕ × Thing). x.0) (as_names es)) n) (sym same))
      (λ other. ap (λ b. is_some (cond b (Some e.1) (lookup (λ k. bytes_eq n (name k)) es))) (bytes_eq-sym n (name e.0) ∙ other) ∙ found_among n es
      ∙ ap (λ b. b || is_among (map (λ (x : List ℕ × Thing). x.0) (as_names es)) n) (sym other))

  -- a new name goes last
  pub put_last : (es : List (K × X)) (k : K) (v : X) → is_among (map (λ (x : List ℕ × Thing). x.0) (as_names es)) (name k) ≡ false →
      as_names (insert_entry (λ x y. bytes_eq (name x) (name y)) es k v) ≡ as_names es ++ (name k, said v) ∷ []
  put_last [] k v new = refl
  put_last (e ∷ es) k v new =
      let parts = neither (bytes_eq (name e.0) (name k)) (is_among (map (λ (x : List ℕ × Thing). x.0) (as_names es)) (name k)) new in
      ap (λ b. as_names (if b then (e.0, v) ∷ es else e ∷ insert_entry (λ x y. bytes_eq (name x) (name y)) es k v)) (bytes_eq-sym (name k) (name e.0) ∙ parts.0)
      ∙ ap (λ (xs : Names). (name e.0, said e.1) ∷ xs) (put_last es k v parts.1)

  -- what stands under a name is what is found
  pub said_under : (n : List ℕ) (es : List (K × X)) → under n (as_names es) ≡ option_map said (lookup (λ k. bytes_eq n (name k)) es)
  said_under n [] = refl
  said_under n (e ∷ es) =
      by_test (bytes_eq (name e.0) n)
      (λ same. under_here n (name e.0) (said e.1) (as_names es) same ∙ ap (λ b. option_map said (cond b (Some e.1) (lookup (λ k. bytes_eq n (name k)) es))) (sym (bytes_eq-sym n (name e.0) ∙ same)))
      (λ other. under_further n (name e.0) (said e.1) (as_names es) other ∙ said_under n es
      ∙ ap (λ b. option_map said (cond b (Some e.1) (lookup (λ k. bytes_eq n (name k)) es))) (sym (bytes_eq-sym n (name e.0) ∙ other)))

module _ {K : Type 0} (name : K → List ℕ) where
  -- names that stand further on
  abbrev pub as_further : List K → Names
  as_further ks = map (λ k. (name k, later)) ks

  pub found_later : (ks : List K) (n : List ℕ) → is_among (map name ks) n ≡ true → under n (as_further ks) ≡ Some later
  found_later [] n h = absurd (cc h)
  found_later (k ∷ ks) n h =
      by_test (bytes_eq (name k) n)
      (λ same. under_here n (name k) later (as_further ks) same)
      (λ other. under_further n (name k) later (as_further ks) other ∙ found_later ks n (sym (ap (λ b. b || is_among (map name ks) n) other) ∙ h))

  pub found_nowhere : (ks : List K) (n : List ℕ) → is_among (map name ks) n ≡ false → under n (as_further ks) ≡ None
  found_nowhere [] n h = refl
  found_nowhere (k ∷ ks) n h =
      let parts = neither (bytes_eq (name k) n) (is_among (map name ks) n) h in
      under_further n (name k) later (as_further ks) parts.0 ∙ found_nowhere ks n parts.1

  -- a name that is noted again stands there already
  noted_again : (ks : List K) (m n : List ℕ) → is_among (map name ks) m ≡ true → under n (as_further ks) ≡ under n (as_further ks ++ (m, later) ∷ [])
  noted_again ks m n h = either (under n (as_further ks)) refl
    where
      either : (o : Option Thing) → under n (as_further ks) ≡ o → under n (as_further ks) ≡ under n (as_further ks ++ (m, later) ∷ [])
      either (Some t) is = is ∙ sym (under_front n (as_further ks) ((m, later) ∷ []) t is)
      either None is =
          by_test (bytes_eq m n)
          (λ same. let found : None ≡ Some later = sym is ∙ ap (λ q. under q (as_further ks)) (sym ((bytes_eq-Decides m n).0 same)) ∙ found_later ks m h in absurd (cc found))
          (λ other. is ∙ sym (under_back n (as_further ks) ((m, later) ∷ []) is ∙ under_further n m later [] other))

  pub noted : (ks : List K) (k : K) (n : List ℕ) → under n (as_further (insert_key (λ x y. bytes_eq (name x) (name y)) ks k)) ≡ under n (as_further ks ++ (name k, later) ∷ [])
  noted ks k n =
      by_test (list_any (λ x. bytes_eq (name k) (name x)) ks)
      (λ there. ap (λ b. under n (as_further (if b then ks else ks ++ k ∷ []))) there ∙ noted_again ks (name k) n (sym (among_named name ks (name k)) ∙ there))
      (λ new. ap (λ b. under n (as_further (if b then ks else ks ++ k ∷ []))) new ∙ ap (under n) (map-append (λ (x : K). let y : List ℕ × Thing = (name x, later) in y) ks (k ∷ [])))

-- keys that differ are names that differ
names_distinct : {K X : Type 0} (name : K → List ℕ) (said : X → Thing) (n : List ℕ) (es : List (K × X)) → AllByRecursion (λ y. bytes_eq n (name y) ≡ false) (map (λ e. e.0) es) →
    AllByRecursion (λ y. bytes_eq n y ≡ false) (map (λ x. x.0) (as_names name said es))
names_distinct name said n [] h = tt
names_distinct name said n (e ∷ es) h = (h.0, names_distinct name said n es h.1)

pub keys_distinct : {K X : Type 0} (name : K → List ℕ) (said : X → Thing) (es : List (K × X)) → IsDistinct (λ x y. bytes_eq (name x) (name y)) (map (λ e. e.0) es) → IsDistinct bytes_eq (map (λ x. x.0) (as_names name said es))
unfolding IsDistinct
keys_distinct name said [] h = tt
keys_distinct name said (e ∷ es) h = (names_distinct name said (name e.0) es h.0, keys_distinct name said es h.1)
