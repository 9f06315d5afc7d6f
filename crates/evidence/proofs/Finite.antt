-- Values that can be searched through: one of them passes a test, or none does.
use Rattle.std.proofs.Common.{◌≡◌, ◌⊎◌, ℕ, zero, suc, ◌<◌, ◌≤◌, Bool, true, false, List, [], ◌∷◌, ◌++◌, length, refl, sym, subst, ◌∙◌, inl, inr, arith}
use Rattle.std.specs.Prelude.{All, nat_eq}
use Rattle.std.specs.Str.{bytes_eq}
use Rattle.std.proofs.lemmas.Bool.{cases_lt, eq-eqb, eqb-true}
use Rattle.std.proofs.lemmas.List.Elements.{All-nil, All-cons, All-head, All-tail}
use Rattle.std.proofs.lemmas.Slice.Eq.{bytes_eq-Decides}

-- ---- what is decided

-- it holds, or it doesn't
abbrev pub Decided : Type 0 → Type 0
Decided A = A ⊎ (A → ⊥)

abbrev is_left : {A B : Type 0} → A ⊎ B → Bool
is_left (inl a) = true
is_left (inr b) = false

holds : {A : Type 0} (d : Decided A) → is_left d ≡ true → A
holds (inl a) e = a
holds (inr n) e = absurd cc

held : {A : Type 0} (d : Decided A) → A → is_left d ≡ true
held (inl a) h = refl
held (inr n) h = absurd (n h)

pub decided_test : (b : Bool) → Decided (b ≡ true)
decided_test true = inl refl
decided_test false = inr (λ h. cc)

pub same_bytes : (xs ys : List ℕ) → Decided (xs ≡ ys)
same_bytes xs ys = elim (decided_test (bytes_eq xs ys)) [
  | inl pass ↦ inl ((bytes_eq-Decides xs ys).0 pass)
  | inr fail ↦ inr (λ e. fail ((bytes_eq-Decides xs ys).1 e))
]

-- ---- searches

-- a value passes the test, or none does
abbrev pub Search : {X : Type 0} → (X → Type 0) → (X → Bool) → Type 0
Search {X} P q = ((x : X) × P x × (q x ≡ true)) ⊎ ((x : X) → P x → q x ≡ true → ⊥)

-- the values that have a property can be searched through
pub record IsFinite {X : Type 0} (P : X → Type 0) : Type 0 where
  pub search : (q : X → Bool) → Search P q

-- the same with what is decided in place of a test
pub find : {X : Type 0} (P Q : X → Type 0) → IsFinite P → ((x : X) → Decided (Q x)) → ((x : X) × P x × Q x) ⊎ ((x : X) → P x → Q x → ⊥)
find P Q fin d = elim (fin.search (λ x. is_left (d x))) [
  | inl found ↦ inl (found.0, found.1, holds (d found.0) found.2)
  | inr none ↦ inr (λ x p h. none x p (held (d x) h))
]

-- ---- numbers

last : (n : ℕ) (q : ℕ → Bool) (k : ℕ) → ((k : ℕ) → k < n → q k ≡ true → ⊥) → (q n ≡ true → ⊥) → k < suc n → q k ≡ true → ⊥
last n q k none fail lt t = elim (cases_lt k n) [
  | inl below ↦ none k below t
  | inr ge ↦ (let same : k ≡ n = omega (arith, lt, ge) in fail (subst (λ m. q m ≡ true) same t))
]

one_more : (n : ℕ) (q : ℕ → Bool) → Search (λ k. k < n) q → Search (λ k. k < suc n) q
one_more n q (inl found) = inl (found.0, omega (arith, found.1), found.2)
one_more n q (inr none) = elim (decided_test (q n)) [
  | inl pass ↦ inl (n, omega arith, pass)
  | inr fail ↦ inr (λ k lt t. last n q k none fail lt t)
]

search_below : (n : ℕ) (q : ℕ → Bool) → Search (λ k. k < n) q
search_below zero q = inr (λ k lt t. omega (arith, lt))
search_below (suc n) q = one_more n q (search_below n q)

pub below : (n : ℕ) → IsFinite (λ k. k < n)
below n = record { search = search_below n }

-- ---- other values

pub image : {X Y : Type 0} (P : X → Type 0) (R : Y → Type 0) (f : X → Y) → ((x : X) → P x → R (f x)) → ((y : Y) → R y → (x : X) × P x × (y ≡ f x)) → IsFinite P → IsFinite R
image {X} {Y} P R f there back fin = record { search = λ q. go q (fin.search (λ x. q (f x))) }
  where
    go : (q : Y → Bool) → Search P (λ x. q (f x)) → Search R q
    go q (inl found) = inl (f found.0, there found.0 found.1, found.2)
    go q (inr none) = inr (λ y r t. let b = back y r in none b.0 b.1 (subst (λ z. q z ≡ true) b.2 t))

-- the values that have one of two properties
pub either : {X : Type 0} (P R : X → Type 0) → IsFinite P → IsFinite R → IsFinite (λ x. P x ⊎ R x)
either {X} P R p r = record { search = λ q. go q (p.search q) (r.search q) }
  where
    go : (q : X → Bool) → Search P q → Search R q → Search (λ x. P x ⊎ R x) q
    go q (inl found) s = inl (found.0, inl found.1, found.2)
    go q (inr none) (inl found) = inl (found.0, inr found.1, found.2)
    go q (inr none) (inr fail) = inr (λ x h t. elim h [ inl a ↦ none x a t | inr b ↦ fail x b t ])

-- those that pass a test too
pub among : {X : Type 0} (P Q : X → Type 0) → IsFinite P → ((x : X) → Decided (Q x)) → IsFinite (λ x. P x × Q x)
among {X} P Q fin d = record { search = λ q. go q (find P (λ x. Q x × (q x ≡ true)) fin (λ x. two q x (d x) (decided_test (q x)))) }
  where
    two : (q : X → Bool) (x : X) → Decided (Q x) → Decided (q x ≡ true) → Decided (Q x × (q x ≡ true))
    two q x (inl a) (inl b) = inl (a, b)
    two q x (inl a) (inr b) = inr (λ h. b h.1)
    two q x (inr a) b = inr (λ h. a h.0)

    go : (q : X → Bool) → ((x : X) × P x × (Q x × (q x ≡ true))) ⊎ ((x : X) → P x → Q x × (q x ≡ true) → ⊥) → Search (λ x. P x × Q x) q
    go q (inl found) = inl (found.0, (found.1, found.2.0), found.2.1)
    go q (inr none) = inr (λ x h t. none x h.0 (h.1, t))

-- pairs
module _ {X Y : Type 0} (R : Y → Type 0) (q : X × Y → Bool) where
  abbrev passes : (x : X) → Search R (λ y. q (x, y)) → Bool
  passes x s = is_left s

  second_there : (x : X) (s : Search R (λ y. q (x, y))) → passes x s ≡ true → (y : Y) × R y × (q (x, y) ≡ true)
  second_there x (inl found) e = found
  second_there x (inr none) e = absurd cc

  second_shows : (x : X) (s : Search R (λ y. q (x, y))) (y : Y) → R y → q (x, y) ≡ true → passes x s ≡ true
  second_shows x (inl found) y h t = refl
  second_shows x (inr none) y h t = absurd (none y h t)

  search_pairs : (P : X → Type 0) (r : IsFinite R) → Search P (λ x. passes x (r.search (λ y. q (x, y)))) → Search (λ (z : X × Y). P z.0 × R z.1) q
  search_pairs P r (inl found) = let y = second_there found.0 (r.search (λ y. q (found.0, y))) found.2 in inl ((found.0, y.0), (found.1, y.1), y.2)
  search_pairs P r (inr none) = inr (λ z h t. none z.0 h.0 (second_shows z.0 (r.search (λ y. q (z.0, y))) z.1 h.1 t))

pub both : {X Y : Type 0} (P : X → Type 0) (R : Y → Type 0) → IsFinite P → IsFinite R → IsFinite (λ (z : X × Y). P z.0 × R z.1)
both {X} {Y} P R p r = record { search = λ q. search_pairs R q P r (p.search (λ x. passes R q x (r.search (λ y. q (x, y))))) }

-- ---- lists

abbrev pub ShortList : {X : Type 0} → (X → Type 0) → ℕ → List X → Type 0
ShortList P n xs = (length xs ≤ n) × All P xs

module _ {X : Type 0} (P : X → Type 0) (fin : IsFinite P) where
  none_longer : (n : ℕ) (q : List X → Bool) (xs : List X) → (q [] ≡ true → ⊥) → ((z : X × List X) → P z.0 × ShortList P n z.1 → q (z.0 ∷ z.1) ≡ true → ⊥) → ShortList P (suc n) xs → q xs ≡ true → ⊥
  none_longer n q [] fail none h t = fail t
  none_longer n q (x ∷ xs) fail none h t = none (x, xs) (All-head P x xs h.1, (omega (arith, h.0), All-tail P x xs h.1)) t

  longer : (n : ℕ) (q : List X → Bool) → Decided (q [] ≡ true) → Search (λ (z : X × List X). P z.0 × ShortList P n z.1) (λ z. q (z.0 ∷ z.1)) → Search (ShortList P (suc n)) q
  longer n q (inl pass) s = inl ([], (omega arith, All-nil P), pass)
  longer n q (inr fail) (inl found) = inl (found.0.0 ∷ found.0.1, (omega (arith, found.1.1.0), All-cons P found.0.0 found.0.1 found.1.0 found.1.1.1), found.2)
  longer n q (inr fail) (inr none) = inr (λ xs h t. none_longer n q xs fail none h t)

  only_empty : (q : List X → Bool) (xs : List X) → (q [] ≡ true → ⊥) → ShortList P 0 xs → q xs ≡ true → ⊥
  only_empty q [] fail h t = fail t
  only_empty q (x ∷ xs) fail h t = omega (arith, h.0)

  empty : (q : List X → Bool) → Decided (q [] ≡ true) → Search (ShortList P 0) q
  empty q (inl pass) = inl ([], (omega arith, All-nil P), pass)
  empty q (inr fail) = inr (λ xs h t. only_empty q xs fail h t)

  search_lists : (n : ℕ) (q : List X → Bool) → Search (ShortList P n) q
  search_lists zero q = empty q (decided_test (q []))
  search_lists (suc n) q = longer n q (decided_test (q [])) ((both P (ShortList P n) fin (record { search = search_lists n })).search (λ z. q (z.0 ∷ z.1)))

  pub short_lists : (n : ℕ) → IsFinite (ShortList P n)
  short_lists n = record { search = search_lists n }

-- ---- truth values

search_bools : (q : Bool → Bool) → Decided (q true ≡ true) → Decided (q false ≡ true) → Search (λ (x : Bool). Unit {0}) q
search_bools q (inl pass) s = inl (true, tt, pass)
search_bools q (inr fail) (inl pass) = inl (false, tt, pass)
search_bools q (inr fail) (inr none) = inr (λ x u t. neither x t)
  where
    neither : (x : Bool) → q x ≡ true → ⊥
    neither true t = fail t
    neither false t = none t

pub bools : IsFinite (λ (x : Bool). Unit {0})
bools = record { search = λ q. search_bools q (decided_test (q true)) (decided_test (q false)) }

-- ---- fronts

-- the bytes begin with these
abbrev pub Begins : List ℕ → List ℕ → Type 0
Begins w bytes = (r : List ℕ) × (bytes ≡ w ++ r)

begins-step : (v : Bool) (c b : ℕ) (w bs : List ℕ) → nat_eq b c ≡ v → Decided (Begins w bs) → Decided (Begins (c ∷ w) (b ∷ bs))
begins-step true c b w bs e (inl h) = inl (h.0, let same : b ≡ c = eqb-true b c e in let rest : bs ≡ w ++ h.0 = h.1 in cc)
begins-step true c b w bs e (inr n) = inr (λ h. n (h.0, let same : b ∷ bs ≡ c ∷ (w ++ h.0) = h.1 in cc))
begins-step false c b w bs e d = inr (λ h. let whole : b ∷ bs ≡ c ∷ (w ++ h.0) = h.1 in let same : b ≡ c = cc in let t : nat_eq b c ≡ true = eq-eqb b c same in let f : false ≡ true = sym e ∙ t in absurd cc)

pub begins : (w bytes : List ℕ) → Decided (Begins w bytes)
begins [] bytes = inl (bytes, refl)
begins (c ∷ w) [] = inr (λ h. let e : [] ≡ c ∷ (w ++ h.0) = h.1 in absurd cc)
begins (c ∷ w) (b ∷ bs) = begins-step (nat_eq b c) c b w bs refl (begins w bs)
