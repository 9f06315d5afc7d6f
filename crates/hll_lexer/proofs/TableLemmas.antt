-- Look-ups in tables of spellings.
use Rattle.std.proofs.Common.{◌≡◌, ◌≤◌, ℕ, Bool, true, false, not, ◌&&◌, cond, List, [], ◌∷◌, ◌++◌, length, map, drop, find, nat_eq, Option, Some, None, Bor, inl, inr, refl, sym, ap, ◌∙◌, arith, length-append, append-nil}
use Rattle.std.proofs.lemmas.Bool.{and_parts, both_ways}
use Rattle.std.proofs.lemmas.Bool.Decides.{Decides-eqb}
use Rattle.std.proofs.lemmas.Slice.Eq.{bytes_eq-Decides, starts_is}
use Rattle.std.specs.List.{list_all, filter, starts_with}
use Rattle.std.specs.Map.{lookup}
use Rattle.std.specs.Str.{bytes_eq}
use Rattle.hll_lexer.proofs.RunLemmas.{cuts}

-- the rows from a place on, as specs have them
abbrev pub rows_from : {V : Type 0} → ℕ → List (Bor (List ℕ) × V) → List (List ℕ × V)
rows_from {V} i rows = map (λ (row : Bor (List ℕ) × V). (row.0.now, row.1)) (drop i rows)

lookup_step : {V : Type 0} (hit : Bool) (q : List ℕ → V → Bool) (key bytes : List ℕ) (here v : V) (others : Option V) → (hit ≡ true → bytes ≡ key) → q key here ≡ true → (others ≡ Some v → q bytes v ≡ true) → cond hit (Some here) others ≡ Some v → q bytes v ≡ true
lookup_step true q key bytes here v others same pass rest found = let e : bytes ≡ key = same refl in cc
lookup_step false q key bytes here v others same pass rest found = rest found

-- what a look-up of bytes finds passes each test that all rows pass
pub lookup_passes : {V : Type 0} (q : List ℕ → V → Bool) (rows : List (List ℕ × V)) (bytes : List ℕ) (v : V) → list_all (λ (row : List ℕ × V). q row.0 row.1) rows ≡ true → lookup (bytes_eq bytes) rows ≡ Some v → q bytes v ≡ true
lookup_passes q [] bytes v pass found = cc
lookup_passes q (row ∷ rows) bytes v pass found =
    let both = and_parts _ _ pass in
    lookup_step (bytes_eq bytes row.0) q row.0 bytes row.1 v (lookup (bytes_eq bytes) rows) (bytes_eq-Decides bytes row.0).0 both.0 (lookup_passes q rows bytes v both.1) found

find_step : {X : Type 0} (hit : Bool) (p q : X → Bool) (here x : X) (others : Option X) → p here ≡ hit → q here ≡ true → (others ≡ Some x → (p x ≡ true) × (q x ≡ true)) → cond hit (Some here) others ≡ Some x → (p x ≡ true) × (q x ≡ true)
find_step true p q here x others is pass rest found = (cc, cc)
find_step false p q here x others is pass rest found = rest found

-- what `find` finds passes its test, and each test that all elements pass
pub find_passes : {X : Type 0} (p q : X → Bool) (xs : List X) (x : X) → list_all q xs ≡ true → find p xs ≡ Some x → (p x ≡ true) × (q x ≡ true)
find_passes p q [] x pass found = (cc, cc)
find_passes p q (y ∷ xs) x pass found =
    let both = and_parts _ _ pass in find_step (p y) p q y x (find p xs) refl both.0 (find_passes p q xs x both.1) found

missed_step : {V : Type 0} (hit fits : Bool) (p : List ℕ × V → Bool) (key bytes : List ℕ) (here v : V) (found : Option V) (first : Option (List ℕ × V)) → p (key, here) ≡ fits → (hit ≡ true → bytes ≡ key) → (first ≡ None → found ≡ Some v → p (bytes, v) ≡ false) → cond fits (Some (key, here)) first ≡ None → cond hit (Some here) found ≡ Some v → p (bytes, v) ≡ false
missed_step hit true p key bytes here v found first is same rest none there = cc
missed_step true false p key bytes here v found first is same rest none there = let e : bytes ≡ key = same refl in cc
missed_step false false p key bytes here v found first is same rest none there = rest none there

-- where `find` finds no row, no row that a look-up finds passes
pub find_misses : {V : Type 0} (p : List ℕ × V → Bool) (rows : List (List ℕ × V)) (bytes : List ℕ) (v : V) → find p rows ≡ None → lookup (bytes_eq bytes) rows ≡ Some v → p (bytes, v) ≡ false
find_misses p [] bytes v none there = cc
find_misses p (row ∷ rows) bytes v none there =
    missed_step (bytes_eq bytes row.0) (p row) p row.0 bytes row.1 v (lookup (bytes_eq bytes) rows) (find p rows) refl (bytes_eq-Decides bytes row.0).0 (find_misses p rows bytes v) none there

not_false : (b : Bool) → not b ≡ true → b ≡ false
not_false true h = cc
not_false false h = refl

filter_step : {X : Type 0} (keeps hit : Bool) (p keep : X → Bool) (x : X) (xs : List X) → p x ≡ hit → (hit ≡ true → keeps ≡ true) → find p (filter keep xs) ≡ find p xs → find p (cond keeps (x ∷ filter keep xs) (filter keep xs)) ≡ cond hit (Some x) (find p xs)
filter_step {X} true hit p keep x xs is kept others =
    ap (λ (c : Bool). cond c (Some x) (find p (filter keep xs))) is ∙ ap (λ (o : Option X). cond hit (Some x) o) others
filter_step false true p keep x xs is kept others = absurd (both_ways false refl (kept refl))
filter_step false false p keep x xs is kept others = others

-- a filter that keeps all that pass keeps the first that does
pub find-filter : {X : Type 0} (q p keep : X → Bool) (xs : List X) → list_all q xs ≡ true → ((x : X) → q x ≡ true → p x ≡ true → keep x ≡ true) → find p (filter keep xs) ≡ find p xs
find-filter q p keep [] all kept = refl
find-filter q p keep (x ∷ xs) all kept =
    let both = and_parts (q x) (list_all q xs) all in
    filter_step (keep x) (p x) p keep x xs refl (kept x both.0) (find-filter q p keep xs both.1 kept)

-- ---- spellings at the front of a text

-- whether the text begins with the spelling of a row
abbrev pub fronting : {V : Type 0} → List ℕ → List ℕ × V → Bool
fronting {V} text row = starts_with nat_eq text row.0

-- no row begins with the spelling of an earlier one
abbrev pub longest_first : {V : Type 0} → List (List ℕ × V) → Bool
longest_first [] = true
longest_first {V} (row ∷ rows) = list_all (λ (later : List ℕ × V). not (starts_with nat_eq later.0 row.0)) rows && longest_first rows

pub front_is : (text front after : List ℕ) → text ≡ front ++ after → starts_with nat_eq text front ≡ true
front_is text front after e = (starts_is Decides-eqb text front (starts_with nat_eq text front) refl).1 after e

pub is_front : (text front : List ℕ) → starts_with nat_eq text front ≡ true → text ≡ front ++ drop (length front) text
is_front text front h = (starts_is Decides-eqb text front (starts_with nat_eq text front) refl).0 h

-- of two fronts of a text, one of which doesn't begin with the other, it is no longer
no_longer : (text bytes front : List ℕ) → starts_with nat_eq text front ≡ true → starts_with nat_eq text bytes ≡ true → starts_with nat_eq bytes front ≡ false → length bytes ≤ length front
no_longer text bytes front h k none =
    elim (cuts front (drop (length front) text) bytes (drop (length bytes) text) (sym (is_front text front h) ∙ is_front text bytes k)) [
      | inl w ↦ absurd (both_ways _ none (front_is bytes front w.0 w.1))
      | inr w ↦ omega (arith, ap length w.1, length-append bytes w.0)
    ]

longest_step : {V : Type 0} (fits hit : Bool) (text key bytes : List ℕ) (here v : V) (row : List ℕ × V) (first : Option (List ℕ × V)) (found : Option V) → starts_with nat_eq text key ≡ fits → (hit ≡ true → bytes ≡ key) → starts_with nat_eq text bytes ≡ true → (found ≡ Some v → starts_with nat_eq bytes key ≡ false) → (first ≡ Some row → found ≡ Some v → length bytes ≤ length row.0) → cond fits (Some (key, here)) first ≡ Some row → cond hit (Some here) found ≡ Some v → length bytes ≤ length row.0
longest_step true true text key bytes here v row first found is same front apart rest one there =
    let lengths : length bytes ≡ length row.0 = (let e : bytes ≡ key = same refl in cc) in omega arith
longest_step true false text key bytes here v row first found is same front apart rest one there =
    let lengths : length key ≡ length row.0 = cc in
    let short = no_longer text bytes key is front (apart there) in omega arith
longest_step false true text key bytes here v row first found is same front apart rest one there =
    absurd (both_ways _ is (ap (starts_with nat_eq text) (sym (same refl)) ∙ front))
longest_step false false text key bytes here v row first found is same front apart rest one there = rest one there

-- the first row at the front of a text is the longest that stands there
pub first_is_longest : {V : Type 0} (text : List ℕ) (rows : List (List ℕ × V)) (row : List ℕ × V) (bytes : List ℕ) (v : V) → longest_first rows ≡ true → find (fronting text) rows ≡ Some row → lookup (bytes_eq bytes) rows ≡ Some v → starts_with nat_eq text bytes ≡ true → length bytes ≤ length row.0
first_is_longest text [] row bytes v ordered one there front = cc
first_is_longest {V} text (head ∷ rows) row bytes v ordered one there front =
    let both = and_parts (list_all (λ (later : List ℕ × V). not (starts_with nat_eq later.0 head.0)) rows) (longest_first rows) ordered in
    longest_step (starts_with nat_eq text head.0) (bytes_eq bytes head.0) text head.0 bytes head.1 v row (find (fronting text) rows) (lookup (bytes_eq bytes) rows) refl (bytes_eq-Decides bytes head.0).0 front
    (λ found. not_false _ (lookup_passes (λ b (_ : V). not (starts_with nat_eq b head.0)) rows bytes v both.0 found))
    (λ first found. first_is_longest text rows row bytes v both.1 first found front) one there

keys_step : (equal : Bool) (bytes key : List ℕ) → (equal ≡ true → bytes ≡ key) → starts_with nat_eq bytes key ≡ false → equal ≡ false
keys_step true bytes key same none = absurd (both_ways _ none (front_is bytes key [] (same refl ∙ sym (append-nil key))))
keys_step false bytes key same none = refl

apart_keys : (bytes key : List ℕ) → starts_with nat_eq bytes key ≡ false → bytes_eq bytes key ≡ false
apart_keys bytes key none = keys_step (bytes_eq bytes key) bytes key (bytes_eq-Decides bytes key).0 none

there_step : {V : Type 0} (hit equal : Bool) (key : List ℕ) (here : V) (row : List ℕ × V) (first : Option (List ℕ × V)) (found : Option V) → bytes_eq row.0 key ≡ equal → (first ≡ Some row → bytes_eq row.0 key ≡ false) → (first ≡ Some row → found ≡ Some row.1) → cond hit (Some (key, here)) first ≡ Some row → cond equal (Some here) found ≡ Some row.1
there_step {V} true true key here row first found is apart rest one = let e : (key, here) ≡ row = cc in ap (λ (r : List ℕ × V). Some r.1) e
there_step {V} true false key here row first found is apart rest one =
    let e : (key, here) ≡ row = cc in
    absurd (both_ways (bytes_eq row.0 key) is ((bytes_eq-Decides row.0 key).1 (ap (λ (r : List ℕ × V). r.0) (sym e))))
there_step false true key here row first found is apart rest one = absurd (both_ways _ (apart one) is)
there_step false false key here row first found is apart rest one = rest one

-- what `find` finds is what its spelling is looked up as
pub found_there : {V : Type 0} (p : List ℕ × V → Bool) (rows : List (List ℕ × V)) (row : List ℕ × V) → longest_first rows ≡ true → find p rows ≡ Some row → lookup (bytes_eq row.0) rows ≡ Some row.1
found_there p [] row ordered one = cc
found_there {V} p (head ∷ rows) row ordered one =
    let both = and_parts (list_all (λ (later : List ℕ × V). not (starts_with nat_eq later.0 head.0)) rows) (longest_first rows) ordered in
    there_step (p head) (bytes_eq row.0 head.0) head.0 head.1 row (find p rows) (lookup (bytes_eq row.0) rows) refl
    (λ first. apart_keys row.0 head.0 (not_false _ (find_passes p (λ (later : List ℕ × V). not (starts_with nat_eq later.0 head.0)) rows row both.0 first).1))
    (λ first. found_there p rows row both.1 first) one
