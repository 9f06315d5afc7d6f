-- Places that are no more than those at which the tokens of a list begin: what is known of whatever tokens spell, by its parts.
use Rattle.std.proofs.Common.{◌≡◌, ℕ, ◌+◌, ◌<◌, ◌≤◌, nat_eq, Bool, true, false, List, [], ◌∷◌, ◌++◌, Option, Some, None, inl, inr, refl, sym, ap, subst, ◌∙◌, arith}
use Rattle.std.specs.List.{AllByRecursion, IsDistinct, flat_map}
use Rattle.std.proofs.lemmas.Bool.{eq-eqb, eqb-true}
use Rattle.hll_lexer.specs.Tokens.{AreInOrder}
use Rattle.hll_lexer.specs.declared.token.Token.{Token}
use Rattle.hll_lexer.specs.declared.token.Mark.TheVariants as mark
use Rattle.hll_tree.specs.Spells.{Spelling, One, Then, Made, Either, Perhaps, Many, Marked, Behind, Before, Listed}

-- ---- how often a number is among places, and how often a token begins there

abbrev pub one_if : Bool → ℕ
one_if true = 1
one_if false = 0

abbrev pub times : ℕ → List ℕ → ℕ
times a [] = 0
times a (p ∷ ps) = one_if (nat_eq a p) + times a ps

abbrev pub starts : ℕ → List Token → ℕ
starts a [] = 0
starts a (t ∷ ts) = one_if (nat_eq a t.from) + starts a ts

pub times_append : (a : ℕ) (ps qs : List ℕ) → times a (ps ++ qs) ≡ times a ps + times a qs
times_append a [] qs = omega arith
times_append a (p ∷ ps) qs = omega (arith, times_append a ps qs)

starts_append : (a : ℕ) (us vs : List Token) → starts a (us ++ vs) ≡ starts a us + starts a vs
starts_append a [] vs = omega arith
starts_append a (t ∷ us) vs = omega (arith, starts_append a us vs)

starts_parts : (a : ℕ) (ts us vs : List Token) → ts ≡ us ++ vs → starts a ts ≡ starts a us + starts a vs
starts_parts a ts us vs is = ap (starts a) is ∙ starts_append a us vs

-- none of these places more often than among those
abbrev pub IsAmong : List ℕ → List ℕ → Type 0
IsAmong ps qs = (a : ℕ) → times a ps ≤ times a qs

-- none of these places more often than tokens begin there
abbrev pub IsWithin : List ℕ → List Token → Type 0
IsWithin ps ts = (a : ℕ) → times a ps ≤ starts a ts

pub among_itself : (ps : List ℕ) → IsAmong ps ps
among_itself ps a = omega arith

pub among_same : (ps qs : List ℕ) → ps ≡ qs → IsAmong ps qs
among_same ps qs is = subst (λ rs. IsAmong ps rs) is (among_itself ps)

-- the one parts of all things and then the other parts, or both thing by thing
pub among_regrouped : {X : Type 0} (f g : X → List ℕ) (xs : List X) → IsAmong (flat_map f xs ++ flat_map g xs) (flat_map (λ x. f x ++ g x) xs)
among_regrouped f g [] a = omega arith
among_regrouped f g (x ∷ xs) a =
    let others = among_regrouped f g xs a in
    omega (
      arith,
      times_append a (f x ++ flat_map f xs) (g x ++ flat_map g xs),
      times_append a (f x) (flat_map f xs),
      times_append a (g x) (flat_map g xs),
      times_append a (flat_map f xs) (flat_map g xs),
      times_append a (f x ++ g x) (flat_map (λ y. f y ++ g y) xs),
      times_append a (f x) (g x),
    )

pub within_fewer : (ps qs : List ℕ) (ts : List Token) → IsAmong ps qs → IsWithin qs ts → IsWithin ps ts
within_fewer ps qs ts few h a = let p = few a in let q = h a in omega arith

within_both : (ps qs : List ℕ) (ts us vs : List Token) → ts ≡ us ++ vs → IsWithin ps us → IsWithin qs vs → IsWithin (ps ++ qs) ts
within_both ps qs ts us vs is h k a =
    let p = h a in
    let q = k a in
    omega (arith, times_append a ps qs, starts_parts a ts us vs is)

within_front : (ps : List ℕ) (ts us vs : List Token) → ts ≡ us ++ vs → IsWithin ps us → IsWithin ps ts
within_front ps ts us vs is h a =
    let p = h a in
    omega (arith, starts_parts a ts us vs is)

within_back : (ps : List ℕ) (ts us vs : List Token) → ts ≡ us ++ vs → IsWithin ps vs → IsWithin ps ts
within_back ps ts us vs is h a =
    let p = h a in
    omega (arith, starts_parts a ts us vs is)

-- ---- spellings

-- whatever tokens spell so has places that are within theirs
pub record Stand {A : Type 0} (P : Spelling A) (f : A → List ℕ) : Type 0 where
  pub within : (ts : List Token) (x : A) → P ts x → IsWithin (f x) ts

pub stand_one : {A : Type 0} {f : A → List ℕ} (R : Token → A → Type 0) →
    ((t : Token) (x : A) → R t x → IsAmong (f x) (t.from ∷ [])) → Stand (One R) f
stand_one {f = f} R so = record { within = λ ts x is. subst (λ (us : List Token). IsWithin (f x) us) (sym is.1) (so is.0 x is.2) }

-- a thing at the place of its token
pub stand_at : {A : Type 0} (R : Token → A → Type 0) (at : A → ℕ) →
    ((t : Token) (x : A) → R t x → at x ≡ t.from) → Stand (One R) (λ x. at x ∷ [])
stand_at R at so = stand_one R (λ t x r. among_same (at x ∷ []) (t.from ∷ []) (ap (λ n. n ∷ []) (so t x r)))

-- a token that stands for itself
pub stand_token : (R : Token → Token → Type 0) → ((t x : Token) → R t x → x ≡ t) → Stand (One R) (λ t. t.from ∷ [])
stand_token R so = stand_at R (λ t. t.from) (λ t x r. ap (λ (u : Token). u.from) (so t x r))

-- a thing without places
pub stand_none : {A : Type 0} (P : Spelling A) → Stand P (λ x. [])
stand_none P = record { within = λ ts x is a. omega arith }

-- two things, of which the first may say which places of the second are meant
pub stand_next : {A B : Type 0} {P : Spelling A} {Q : Spelling B} {f : A → List ℕ} (g : A → B → List ℕ) →
    Stand P f → ((x : A) → Stand Q (g x)) → Stand (Then P Q) (λ x. f x.0 ++ g x.0 x.1)
stand_next {f = f} g p q = record {
  within = λ ts x is. within_both (f x.0) (g x.0 x.1) ts is.0 is.1 is.2 (p.within is.0 x.0 is.3) ((q x.0).within is.1 x.1 is.4);
}

pub stand_then : {A B : Type 0} {P : Spelling A} {Q : Spelling B} {f : A → List ℕ} {g : B → List ℕ} →
    Stand P f → Stand Q g → Stand (Then P Q) (λ x. f x.0 ++ g x.1)
stand_then {g = g} p q = stand_next (λ x. g) p (λ x. q)

pub stand_made : {A B : Type 0} {P : Spelling A} {f : A → List ℕ} (g : B → List ℕ) (made : A → B) →
    ((x : A) → IsAmong (g (made x)) (f x)) → Stand P f → Stand (Made made P) g
stand_made {f = f} g made few p = record {
  within = λ ts y is. subst (λ z. IsWithin (g z) ts) (sym is.2) (within_fewer (g (made is.0)) (f is.0) ts (few is.0) (p.within ts is.0 is.1));
}

-- what is made has the same places
pub stand_same : {A B : Type 0} {P : Spelling A} {f : A → List ℕ} (g : B → List ℕ) (made : A → B) →
    ((x : A) → g (made x) ≡ f x) → Stand P f → Stand (Made made P) g
stand_same {f = f} g made same p = stand_made g made (λ x. among_same (g (made x)) (f x) (same x)) p

pub stand_either : {A : Type 0} {P Q : Spelling A} {f : A → List ℕ} → Stand P f → Stand Q f → Stand (Either P Q) f
stand_either {P = P} {Q = Q} {f = f} p q = record { within = by_side }
  where
    by_side : (ts : List Token) (x : _) → Either P Q ts x → IsWithin (f x) ts
    by_side ts x (inl is) = p.within ts x is
    by_side ts x (inr is) = q.within ts x is

pub stand_behind : {A B : Type 0} {Q : Spelling B} {g : B → List ℕ} (P : Spelling A) → Stand Q g → Stand (Behind P Q) g
stand_behind {g = g} P q = record {
  within = λ ts y is. subst (λ z. IsWithin (g z) ts) (sym is.2) (within_back (g is.0.1) ts is.1.0 is.1.1 is.1.2 (q.within is.1.1 is.0.1 is.1.4));
}

pub stand_before : {A B : Type 0} {P : Spelling A} {f : A → List ℕ} (Q : Spelling B) → Stand P f → Stand (Before P Q) f
stand_before {f = f} Q p = record {
  within = λ ts y is. subst (λ z. IsWithin (f z) ts) (sym is.2) (within_front (f is.0.0) ts is.1.0 is.1.1 is.1.2 (p.within is.1.0 is.0.0 is.1.3));
}

-- the places of something that may be absent
abbrev pub in_some : {A : Type 0} → (A → List ℕ) → Option A → List ℕ
in_some f None = []
in_some f (Some x) = f x

pub stand_perhaps : {A : Type 0} {P : Spelling A} {f : A → List ℕ} → Stand P f → Stand (Perhaps P) (in_some f)
stand_perhaps {P = P} {f = f} p = record { within = if_there }
  where
    if_there : (ts : List Token) (o : Option _) → Perhaps P ts o → IsWithin (in_some f o) ts
    if_there ts None is = λ a. omega arith
    if_there ts (Some x) is = p.within ts x is

many_within : {A : Type 0} {P : Spelling A} {f : A → List ℕ} → Stand P f →
    (ts : List Token) (xs : List A) → Many P ts xs → IsWithin (flat_map f xs) ts
many_within p ts [] is = λ a. omega arith
many_within {f = f} p ts (x ∷ xs) is = within_both (f x) (flat_map f xs) ts is.0 is.1 is.2 (p.within is.0 x is.3) (many_within p is.1 xs is.4)

pub stand_many : {A : Type 0} {P : Spelling A} {f : A → List ℕ} → Stand P f → Stand (Many P) (flat_map f)
stand_many p = record { within = many_within p }

pub stand_listed : {A : Type 0} {P : Spelling A} {f : A → List ℕ} → Stand P f → Stand (Listed P) (flat_map f)
stand_listed {f = f} p =
    stand_same (flat_map f) (λ x. x.0 ∷ x.1) (λ x. refl) (stand_then p (stand_many (stand_behind (Marked mark.Comma) p)))

-- ---- tokens in order

-- no token begins before the place from which they stand in order
later : (a at end : ℕ) (ts : List Token) → a < at → AreInOrder at end ts → starts a ts ≡ 0
later a at end [] before order = refl
later a at end (t ∷ ts) before order =
    let first = order.0 in
    let some = order.1 in
    let others = later a t.to end ts (omega arith) order.3 in
    let differ : one_if (nat_eq a t.from) ≡ 0 = differs (nat_eq a t.from) refl (omega arith) in
    omega arith
  where
    differs : (b : Bool) → nat_eq a t.from ≡ b → a < t.from → one_if b ≡ 0
    differs true is less = let same = eqb-true a t.from is in absurd (omega arith)
    differs false is less = refl

-- so at most one begins at each place
pub at_most_one : (a at end : ℕ) (ts : List Token) → AreInOrder at end ts → starts a ts ≤ 1
at_most_one a at end [] order = omega arith
at_most_one a at end (t ∷ ts) order = by_first (nat_eq a t.from) refl (at_most_one a t.to end ts order.3)
  where
    by_first : (b : Bool) → nat_eq a t.from ≡ b → starts a ts ≤ 1 → one_if b + starts a ts ≤ 1
    by_first true is others =
        let same = eqb-true a t.from is in
        let some = order.1 in
        let none = later a t.to end ts (omega arith) order.3 in
        omega arith
    by_first false is others = omega arith

-- a place that isn't there
absent : (a : ℕ) (ps : List ℕ) → times a ps ≡ 0 → AllByRecursion (λ p. nat_eq a p ≡ false) ps
absent a [] none = tt
absent a (p ∷ ps) none = (no (nat_eq a p) (omega arith), absent a ps (omega arith))
  where
    no : (b : Bool) → one_if b ≡ 0 → b ≡ false
    no true is = absurd (omega arith)
    no false is = refl

-- places of which each is there once differ
pub once : (ps : List ℕ) → ((a : ℕ) → times a ps ≤ 1) → IsDistinct nat_eq ps
unfolding IsDistinct
once [] each = tt
once (p ∷ ps) each = (absent p ps here, once ps (λ a. let h = each a in omega arith))
  where
    here : times p ps ≡ 0
    here =
        let h = each p in
        let same : one_if (nat_eq p p) ≡ 1 = ap one_if (eq-eqb p p refl) in
        omega arith
