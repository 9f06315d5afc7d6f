-- Lists in which no name stands twice.
use Rattle.std.proofs.Common.{◌≡◌, ℕ, ◌⊎◌, inl, inr, Bool, true, false, ◌||◌, List, [], ◌∷◌, ◌++◌, refl, sym, ap, subst, ◌∙◌}
use Rattle.std.specs.List.{Contains}
use Rattle.std.specs.Str.{bytes_eq}
use Rattle.std.proofs.lemmas.List.{map-append}
use Rattle.std.proofs.lemmas.List.Folds.{list_any-append}
use Rattle.std.proofs.lemmas.Slice.Eq.{bytes_eq-Decides}
use Rattle.hll_tree.specs.declared.tree.Name.{Name}
use Rattle.hll_meaning.specs.declared.fault.StaticKind.TheVariants as is
use Rattle.hll_meaning.specs.Names.{Names}
use Rattle.hll_meaning.specs.Declarations.{texts, is_among}
use Rattle.hll_meaning.specs.Judging.{fault_if}
use Rattle.hll_meaning.specs.StaticRules.{fresh, taken_by}
use Rattle.hll_meaning.proofs.Faultless.{empty_parts, neither, not_so}
use Rattle.hll_meaning.proofs.Scenes.{by_test}
use Rattle.dependence.proofs.Members.{front_or_further, in_none}

-- no name stands twice
abbrev pub AreApart : List (List ℕ) → Type 0
AreApart [] = Unit {0}
AreApart (x ∷ xs) = (is_among xs x ≡ false) × AreApart xs

-- no name of the one list stands in the other
abbrev pub AreElsewhere : List (List ℕ) → List (List ℕ) → Type 0
AreElsewhere xs ys = (n : List ℕ) → is_among xs n ≡ true → is_among ys n ≡ false

pub same_name : (n m : List ℕ) → bytes_eq n m ≡ true → n ≡ m
same_name n m h = (bytes_eq-Decides n m).0 h

pub own_name : (n : List ℕ) → bytes_eq n n ≡ true
own_name n = (bytes_eq-Decides n n).1 refl

among_self : (n : List ℕ) (xs : List (List ℕ)) → is_among (n ∷ xs) n ≡ true
among_self n xs = ap (λ b. b || is_among xs n) (own_name n)

or_second : (a b : Bool) → b ≡ true → (a || b) ≡ true
or_second true b h = refl
or_second false b h = h

or_none : (a b : Bool) → a ≡ false → b ≡ false → (a || b) ≡ false
or_none a b p q = λ i. p i || q i

or_either : (a b : Bool) → (a || b) ≡ true → (a ≡ true) ⊎ (b ≡ true)
or_either true b h = inl refl
or_either false b h = inr h

-- what can't be so isn't
pub can_not : (b : Bool) → (b ≡ true → ⊥) → b ≡ false
can_not b never = by_test b (λ yes. absurd (never yes)) (λ other. other)

pub true_is_not : (b : Bool) → b ≡ true → b ≡ false → ⊥
true_is_not b p q = let both : true ≡ false = sym p ∙ q in cc both

among_append : (xs ys : List (List ℕ)) (n : List ℕ) → is_among (xs ++ ys) n ≡ (is_among xs n || is_among ys n)
among_append xs ys n = list_any-append (λ m. bytes_eq m n) xs ys

pub apart_append : (xs ys : List (List ℕ)) → AreApart xs → AreApart ys → AreElsewhere xs ys → AreApart (xs ++ ys)
apart_append [] ys h k other = k
apart_append (x ∷ xs) ys h k other = (
  among_append xs ys x ∙ or_none (is_among xs x) (is_among ys x) h.0 (other x (among_self x xs)),
  apart_append xs ys h.1 k (λ n is. other n (or_second (bytes_eq x n) (is_among xs n) is)),
)

pub taken_append : (xs ys : Names) → taken_by (xs ++ ys) ≡ taken_by xs ++ taken_by ys
taken_append xs ys = map-append (λ (x : List ℕ × _). x.0) xs ys

-- names that are declared without a fault are new, and none is declared twice
pub fresh_apart : (taken : List (List ℕ)) (es : List Name) → fresh taken es ≡ [] → AreApart (texts es) × AreElsewhere (texts es) taken
fresh_apart taken [] none = (tt, λ e h. absurd (cc h))
fresh_apart taken (e ∷ es) none =
    let parts = empty_parts (fault_if (is_among taken e.text) is.Twice e.at) (fresh (e.text ∷ taken) es) none in
    let new = not_so (is_among taken e.text) is.Twice e.at parts.0 in
    let rest = fresh_apart (e.text ∷ taken) es parts.1 in (
      (can_not (is_among (texts es) e.text) (λ yes. true_is_not (is_among (e.text ∷ taken) e.text) (among_self e.text taken) (rest.1 e.text yes)), rest.0),
      λ n h. by n new rest.1 (or_either (bytes_eq e.text n) (is_among (texts es) n) h),
    )
  where
    by : (n : List ℕ) → is_among taken e.text ≡ false → AreElsewhere (texts es) (e.text ∷ taken) → (bytes_eq e.text n ≡ true) ⊎ (is_among (texts es) n ≡ true) → is_among taken n ≡ false
    by n new rest (inl same) = ap (is_among taken) (sym (same_name e.text n same)) ∙ new
    by n new rest (inr among) = (neither (bytes_eq e.text n) (is_among taken n) (rest n among)).1

-- a name that isn't among names is another than each of them
pub is_other : (xs : List (List ℕ)) (n x : List ℕ) → is_among xs n ≡ false → Contains xs x → bytes_eq x n ≡ false
is_other [] n x none h = absurd (in_none x h)
is_other (y ∷ ys) n x none h = by (neither (bytes_eq y n) (is_among ys n) none) (is_other ys n x) (front_or_further y ys x h)
  where
    by : (bytes_eq y n ≡ false) × (is_among ys n ≡ false) → (is_among ys n ≡ false → Contains ys x → bytes_eq x n ≡ false) → (y ≡ x) ⊎ Contains ys x → bytes_eq x n ≡ false
    by split rest (inl same) = subst (λ z. bytes_eq z n ≡ false) same split.0
    by split rest (inr there) = rest split.1 there
