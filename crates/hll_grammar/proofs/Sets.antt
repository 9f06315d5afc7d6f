-- Sets of kinds of tokens: which are apart, which hold others, and which part may follow which.
use Rattle.std.proofs.Common.{◌≡◌, ℕ, Bool, true, false, not, ◌&&◌, ◌||◌, List, [], ◌∷◌, ◌++◌, ◌⊎◌, inl, inr, ⊎_elim, sym, subst, cond}
use Rattle.std.proofs.lemmas.Bool.{false≢true, and_parts, or_cases, or_left, or_right, both_ways, not-true, eqb-true}
use Rattle.std.specs.Prelude.{◌==◌, IsTrue}
use Rattle.std.specs.List.{list_any, list_all}
use Rattle.hll_lexer.specs.declared.token.TokenKind.{TokenKind}
use Rattle.hll_lexer.specs.declared.token.TokenKind.TheVariants as kind
use Rattle.hll_grammar.specs.Lookahead.{Kinds, holds, nothing, with, are_apart, word_number, mark_number}

-- no kind is among both
pub record Apart (k l : Kinds) : Type 0 where
  pub none : (c : TokenKind) → holds k c ≡ true → holds l c ≡ true → ⊥

-- the first holds all kinds of the second
pub record Covers (k l : Kinds) : Type 0 where
  pub all : (c : TokenKind) → holds l c ≡ true → holds k c ≡ true

-- a test of `Covers`
abbrev pub covers_all : Kinds → Kinds → Bool
covers_all k l =
    (not l.names || k.names) && (not l.numbers || k.numbers)
    && list_all (λ w. list_any (λ v. word_number v == word_number w) k.words) l.words
    && list_all (λ m. list_any (λ n. mark_number n == mark_number m) k.marks) l.marks

-- what may be followed by a part: the part begins with none of the kinds with which what stands before it goes on, and the whole goes on as the part does, and where the part may be empty as what stands before it does
pub record Follows (before begins : Kinds) (empty : Bool) (goes_on whole : Kinds) : Type 0 where
  pub apart : Apart before begins
  pub last : Covers whole goes_on
  pub past : empty ≡ true → Covers whole before

-- a test of `Follows`
abbrev pub may_follow : Kinds → Kinds → Bool → Kinds → Kinds → Bool
may_follow before begins empty goes_on whole = are_apart before begins && covers_all whole goes_on && (not empty || covers_all whole before)

-- ---- what the tests say

not_both : (a b : Bool) → not (a && b) ≡ true → a ≡ true → b ≡ true → ⊥
not_both true true h e f = false≢true h
not_both true false h e f = false≢true f
not_both false b h e f = false≢true e

if_first : (a b : Bool) → (not a || b) ≡ true → a ≡ true → b ≡ true
if_first true b h e = h
if_first false b h e = absurd (false≢true e)

no_number : {X : Type 0} (number : X → ℕ) (n : ℕ) (xs ys : List X) → list_all (λ x. not (list_any (λ y. number y == number x) ys)) xs ≡ true →
    list_any (λ x. number x == n) xs ≡ true → list_any (λ y. number y == n) ys ≡ true → ⊥
no_number number n [] ys h e f = false≢true e
no_number number n (x ∷ xs) ys h e f =
    let parts = and_parts _ _ h in
    ⊎_elim
    (λ (is : (number x == n) ≡ true).
    both_ways _ (not-true _ parts.0) (subst (λ (m : ℕ). list_any (λ y. number y == m) ys ≡ true) (sym (eqb-true (number x) n is)) f))
    (λ more. no_number number n xs ys parts.1 more f)
    (or_cases _ _ e)

each_number : {X : Type 0} (number : X → ℕ) (n : ℕ) (xs ys : List X) → list_all (λ y. list_any (λ x. number x == number y) xs) ys ≡ true →
    list_any (λ y. number y == n) ys ≡ true → list_any (λ x. number x == n) xs ≡ true
each_number number n xs [] h e = absurd (false≢true e)
each_number number n xs (y ∷ ys) h e =
    let parts = and_parts _ _ h in
    ⊎_elim
    (λ (is : (number y == n) ≡ true). subst (λ (m : ℕ). list_any (λ x. number x == m) xs ≡ true) (eqb-true (number y) n is) parts.0)
    (λ more. each_number number n xs ys parts.1 more)
    (or_cases _ _ e)

pub apart : (k l : Kinds) → IsTrue (are_apart k l) → Apart k l
apart k l h = record { none = none }
  where
    none : (c : TokenKind) → holds k c ≡ true → holds l c ≡ true → ⊥
    none kind.Name e f = not_both k.names l.names (and_parts _ _ (and_parts _ _ (and_parts _ _ h).0).0).0 e f
    none (kind.Number n) e f = not_both k.numbers l.numbers (and_parts _ _ (and_parts _ _ (and_parts _ _ h).0).0).1 e f
    none (kind.Reserved w) e f = no_number word_number (word_number w) k.words l.words (and_parts _ _ (and_parts _ _ h).0).1 e f
    none (kind.Mark m) e f = no_number mark_number (mark_number m) k.marks l.marks (and_parts _ _ h).1 e f

pub covers : (k l : Kinds) → IsTrue (covers_all k l) → Covers k l
covers k l h = record { all = all }
  where
    all : (c : TokenKind) → holds l c ≡ true → holds k c ≡ true
    all kind.Name e = if_first l.names k.names (and_parts _ _ (and_parts _ _ (and_parts _ _ h).0).0).0 e
    all (kind.Number n) e = if_first l.numbers k.numbers (and_parts _ _ (and_parts _ _ (and_parts _ _ h).0).0).1 e
    all (kind.Reserved w) e = each_number word_number (word_number w) k.words l.words (and_parts _ _ (and_parts _ _ h).0).1 e
    all (kind.Mark m) e = each_number mark_number (mark_number m) k.marks l.marks (and_parts _ _ h).1 e

pub follows : (before begins : Kinds) (empty : Bool) (goes_on whole : Kinds) → IsTrue (may_follow before begins empty goes_on whole) → Follows before begins empty goes_on whole
follows before begins empty goes_on whole h =
    let parts = and_parts _ _ h in
    record {
      apart = apart before begins (and_parts _ _ parts.0).0;
      last = covers whole goes_on (and_parts _ _ parts.0).1;
      past = λ e. covers whole before (if_first empty (covers_all whole before) parts.1 e);
    }

-- ---- sets of both

any_left : {X : Type 0} (test : X → Bool) (xs ys : List X) → list_any test xs ≡ true → list_any test (xs ++ ys) ≡ true
any_left test [] ys e = absurd (false≢true e)
any_left test (x ∷ xs) ys e = ⊎_elim (λ is. or_left _ _ is) (λ more. or_right _ _ (any_left test xs ys more)) (or_cases _ _ e)

any_right : {X : Type 0} (test : X → Bool) (xs ys : List X) → list_any test ys ≡ true → list_any test (xs ++ ys) ≡ true
any_right test [] ys e = e
any_right test (x ∷ xs) ys e = or_right _ _ (any_right test xs ys e)

any_either : {X : Type 0} (test : X → Bool) (xs ys : List X) → list_any test (xs ++ ys) ≡ true → (list_any test xs ≡ true) ⊎ (list_any test ys ≡ true)
any_either test [] ys e = inr e
any_either test (x ∷ xs) ys e =
    ⊎_elim (λ is. inl (or_left _ _ is)) (λ more. ⊎_elim (λ l. inl (or_right _ _ l)) (λ r. inr r) (any_either test xs ys more)) (or_cases _ _ e)

pub covers_left : (k l : Kinds) → Covers (with k l) k
covers_left k l = record { all = all }
  where
    all : (c : TokenKind) → holds k c ≡ true → holds (with k l) c ≡ true
    all kind.Name e = or_left _ _ e
    all (kind.Number n) e = or_left _ _ e
    all (kind.Reserved w) e = any_left _ k.words l.words e
    all (kind.Mark m) e = any_left _ k.marks l.marks e

pub covers_right : (k l : Kinds) → Covers (with k l) l
covers_right k l = record { all = all }
  where
    all : (c : TokenKind) → holds l c ≡ true → holds (with k l) c ≡ true
    all kind.Name e = or_right _ _ e
    all (kind.Number n) e = or_right _ _ e
    all (kind.Reserved w) e = any_right _ k.words l.words e
    all (kind.Mark m) e = any_right _ k.marks l.marks e

pub with_either : (k l : Kinds) (c : TokenKind) → holds (with k l) c ≡ true → (holds k c ≡ true) ⊎ (holds l c ≡ true)
with_either k l kind.Name e = or_cases _ _ e
with_either k l (kind.Number n) e = or_cases _ _ e
with_either k l (kind.Reserved w) e = any_either _ k.words l.words e
with_either k l (kind.Mark m) e = any_either _ k.marks l.marks e

pub covers_same : (k : Kinds) → Covers k k
covers_same k = record { all = λ c h. h }

pub covers_both : {k l whole : Kinds} → Covers whole k → Covers whole l → Covers whole (with k l)
covers_both {k} {l} a b = record { all = λ c e. ⊎_elim (λ is. a.all c is) (λ is. b.all c is) (with_either k l c e) }

pub apart_swapped : {k l : Kinds} → Apart k l → Apart l k
apart_swapped a = record { none = λ c e f. a.none c f e }

-- ---- the empty set

pub no_kind : (c : TokenKind) → holds nothing c ≡ true → ⊥
no_kind kind.Name e = false≢true e
no_kind (kind.Number n) e = false≢true e
no_kind (kind.Reserved w) e = false≢true e
no_kind (kind.Mark m) e = false≢true e

pub apart_nothing : (k : Kinds) → Apart nothing k
apart_nothing k = record { none = λ c e f. no_kind c e }

pub covers_nothing : (k : Kinds) → Covers k nothing
covers_nothing k = record { all = λ c e. absurd (no_kind c e) }

-- a part that isn't empty follows, and the whole goes on as it does
pub ends_with : {before begins : Kinds} (goes_on : Kinds) → Apart before begins → Follows before begins false goes_on goes_on
ends_with goes_on a = record { apart = a; last = covers_same goes_on; past = λ e. absurd (false≢true e) }

-- it follows what goes on with nothing
pub follows_end : (begins : Kinds) (empty : Bool) (goes_on : Kinds) → Follows nothing begins empty goes_on goes_on
follows_end begins empty goes_on = record { apart = apart_nothing begins; last = covers_same goes_on; past = λ e. covers_nothing goes_on }

-- ---- the kinds of one set that aren't among another

abbrev pub left_over : {X : Type 0} → (X → ℕ) → List X → List X → List X
left_over number [] ys = []
left_over number (x ∷ xs) ys = cond (list_any (λ y. number y == number x) ys) (left_over number xs ys) (x ∷ left_over number xs ys)

abbrev pub without : Kinds → Kinds → Kinds
without k l = record {
  names = k.names && not l.names;
  numbers = k.numbers && not l.numbers;
  words = left_over word_number k.words l.words;
  marks = left_over mark_number k.marks l.marks;
}
