-- Values one after the other, each after a space: what is read of a text so far.
use Rattle.std.proofs.Common.{◌≡◌, ℕ, suc, ◌-◌, ◌^◌, ◌<◌, ◌≤◌, false, List, [], ◌∷◌, ◌++◌, length, Option, Some, None, refl, sym, ap, subst, ◌∙◌, append_assoc, length-append, arith}
use Rattle.std.specs.Prelude.{All, decimal, ℤ, pos, negsuc}
use Rattle.std.specs.Fmt.{signed_decimal}
use Rattle.std.specs.List.{flat_map}
use Rattle.std.proofs.lemmas.List.{append-nil}
use Rattle.std.proofs.lemmas.List.Concat.{flat_map-cons, flat_map-append}
use Rattle.std.proofs.lemmas.List.Elements.{All-nil, All-cons, All-head, All-tail, All-append}
use Rattle.lll_text.specs.Fields.{begins_number}
use Rattle.lll_text.proofs.Numbers.{begins_decimal}
use Rattle.evidence.specs.Counts.{IsLiteralNumber}
use Rattle.evidence.specs.Spelling.{literal_field, literals}
use Rattle.evidence.specs.Readers.{Reads, ReadsFront}
use Rattle.evidence.proofs.ReadNumbers.{numbers_told}

-- the value and what follows it are told by the text, where no digit follows
abbrev pub AreTold : {X : Type 0} → (X → Type 0) → (X → List ℕ) → Type 0
AreTold {X} fits spelled = (x y : X) (r s : List ℕ) → fits x → fits y → begins_number r ≡ false → begins_number s ≡ false
    → spelled x ++ r ≡ spelled y ++ s → (x ≡ y) × (r ≡ s)

module _ {X : Type 0} (fits : X → Type 0) (spelled : X → List ℕ) where
  -- a space and a value
  abbrev field : X → List ℕ
  field x = 32 ∷ spelled x

  -- these values are read, and the rest is still to be read
  pub record HasRead (text : List ℕ) (xs : List X) (rest : List ℕ) : Type 0 where
    pub fit : All fits xs
    pub parts : text ≡ flat_map field xs ++ rest
    pub only : (ys : List X) → All fits ys → text ≡ flat_map field ys → (zs : List X) × (ys ≡ xs ++ zs) × All fits zs × (rest ≡ flat_map field zs)

  pub nothing_read : (text : List ℕ) → HasRead text [] text
  nothing_read text = record { fit = All-nil fits; parts = refl; only = λ ys all e. (ys, refl, all, e) }

  no_field : (x : X) (xs : List X) → begins_number (flat_map field (x ∷ xs)) ≡ false
  no_field x xs = ap begins_number (flat_map-cons field x xs)

  fields_end : (xs : List X) → begins_number (flat_map field xs) ≡ false
  fields_end [] = refl
  fields_end (x ∷ xs) = no_field x xs

  cons_is : (x y : X) (r s : List ℕ) → field x ++ r ≡ field y ++ s → spelled x ++ r ≡ spelled y ++ s
  cons_is x y r s e = cc

  more_only : AreTold fits spelled → (x : X) (next : List ℕ) (zs : List X) → fits x → begins_number next ≡ false → All fits zs → field x ++ next ≡ flat_map field zs
      → (ws : List X) × (zs ≡ x ∷ ws) × All fits ws × (next ≡ flat_map field ws)
  more_only told x next [] fit stop all e = absurd cc
  more_only told x next (z ∷ zs) fit stop all e =
      let same = told x z next (flat_map field zs) fit (All-head fits z zs all) stop (fields_end zs) (cons_is x z next (flat_map field zs) (e ∙ flat_map-cons field z zs)) in
      (zs, ap (λ w. w ∷ zs) (sym same.0), All-tail fits z zs all, same.1)

  single : (x : X) → flat_map field (x ∷ []) ≡ field x
  single x = flat_map-cons field x [] ∙ append-nil (field x)

  -- one value more is read
  pub one_more : AreTold fits spelled → (text : List ℕ) (xs : List X) (rest : List ℕ) (x : X) (next : List ℕ) → HasRead text xs rest → fits x → rest ≡ field x ++ next → begins_number next ≡ false
      → HasRead text (xs ++ x ∷ []) next
  one_more told text xs rest x next so_far fit e stop = record {
    fit = All-append fits xs (x ∷ []) so_far.fit (All-cons fits x [] fit (All-nil fits));
    parts = so_far.parts ∙ ap (λ (t : List ℕ). flat_map field xs ++ t) e ∙ sym (append_assoc (flat_map field xs) (field x) next)
        ∙ ap (λ (t : List ℕ). (flat_map field xs ++ t) ++ next) (sym (single x)) ∙ ap (λ (t : List ℕ). t ++ next) (sym (flat_map-append field xs (x ∷ [])));
    only = λ ys all same.
        let before = so_far.only ys all same in
        let here = more_only told x next before.0 fit stop before.2 (sym e ∙ before.3) in
        (here.0, before.1 ∙ ap (λ (t : List X). xs ++ t) here.1 ∙ sym (append_assoc xs (x ∷ []) here.0), here.2, here.3);
  }

  -- all is read
  pub all_read : (text : List ℕ) (xs : List X) → HasRead text xs [] → Reads (All fits) (flat_map field) text (Some xs)
  all_read text xs so_far = (so_far.fit, so_far.parts ∙ append-nil (flat_map field xs))

  none_of : (rest : List ℕ) (zs : List X) → (rest ≡ [] → ⊥) → ((x : X) (after : List ℕ) → fits x → rest ≡ field x ++ after → begins_number after ≡ false → ⊥) → All fits zs → rest ≡ flat_map field zs → ⊥
  none_of rest [] some none all e = some e
  none_of rest (z ∷ zs) some none all e = none z (flat_map field zs) (All-head fits z zs all) (e ∙ flat_map-cons field z zs) (fields_end zs)

  -- no value stands at the rest
  pub none_read : (text : List ℕ) (xs : List X) (rest : List ℕ) → HasRead text xs rest → (rest ≡ [] → ⊥) → ReadsFront fits field rest None → Reads (All fits) (flat_map field) text None
  none_read text xs rest so_far some none ys all e =
      let before = so_far.only ys all e in
      none_of rest before.0 some none before.2 before.3

-- what follows a field is shorter
pub field_shorter : (b : ℕ) (spelled next rest : List ℕ) → rest ≡ (b ∷ spelled) ++ next → length next < length rest
field_shorter b spelled next rest e = omega (arith, ap (λ (t : List ℕ). length t) e, length-append (b ∷ spelled) next)

-- ---- numbers

pub are_numbers : (limit : ℕ) → limit < 2 ^ 64 → AreTold (λ n. n ≤ limit) decimal
are_numbers limit small x y r s p q a b e = numbers_told x y r s (omega arith) (omega arith) a b e

pub are_hints : AreTold (λ n. n < 2 ^ 32) decimal
are_hints x y r s p q a b e = numbers_told x y r s (omega arith) (omega arith) a b e

-- the same under another bound
pub refitted : {X : Type 0} (P Q : X → Type 0) (f : X → List ℕ) (text : List ℕ) (r : Option (X × List ℕ)) → ((x : X) → P x → Q x) → ((x : X) → Q x → P x) → ReadsFront P f text r → ReadsFront Q f text r
refitted P Q f text (Some x) there back h = (there x.0 h.0, h.1, h.2)
refitted P Q f text None there back h = λ x rest fit e stop. h x rest (back x fit) e stop

-- the same after a byte
pub after_byte : {X : Type 0} (P : X → Type 0) (f : X → List ℕ) (b : ℕ) (text rest : List ℕ) (r : Option (X × List ℕ)) → text ≡ b ∷ rest → ReadsFront P f rest r → ReadsFront P (λ x. b ∷ f x) text r
after_byte P f b text rest (Some x) e h = (h.0, e ∙ ap (λ (t : List ℕ). b ∷ t) h.1, h.2)
after_byte P f b text rest None e h = λ x next fit same stop. let rests : rest ≡ f x ++ next = cc in h x next fit rests stop

pub not_after_byte : {X : Type 0} (P : X → Type 0) (f : X → List ℕ) (b : ℕ) (text : List ℕ) → ((rest : List ℕ) → Unit {0} → text ≡ b ∷ rest → ⊥) → ReadsFront P (λ x. b ∷ f x) text None
not_after_byte P f b text none x rest fit e stop = none (f x ++ rest) tt e

-- ---- literals

digit_first : (n : ℕ) (r t : List ℕ) → n < 2 ^ 32 → decimal n ++ r ≡ 45 ∷ t → ⊥
digit_first n r t lt e =
    let yes = begins_decimal n r lt in
    let no : begins_number (decimal n ++ r) ≡ false = ap begins_number e in
    cc

same_magnitude : (m n : ℕ) → suc m ≡ suc n → negsuc m ≡ negsuc n
same_magnitude m n e = ap negsuc (omega arith)

pub are_literals : AreTold IsLiteralNumber signed_decimal
are_literals (pos m) (pos n) r s p q a b e = let told = numbers_told m n r s (omega (arith, p)) (omega (arith, q)) a b e in (ap pos told.0, told.1)
are_literals (pos m) (negsuc n) r s p q a b e = absurd (digit_first m r (decimal (suc n) ++ s) (omega (arith, p)) e)
are_literals (negsuc m) (pos n) r s p q a b e = absurd (digit_first n s (decimal (suc m) ++ r) (omega (arith, q)) (sym e))
are_literals (negsuc m) (negsuc n) r s p q a b e =
    let rests : decimal (suc m) ++ r ≡ decimal (suc n) ++ s = cc in
    let told = numbers_told (suc m) (suc n) r s (omega (arith, p)) (omega (arith, q)) a b rests in
    (same_magnitude m n told.0, told.1)

-- a number without a sign
pub unsigned_reads : (text : List ℕ) (n : ℕ) (rest : List ℕ) → ReadsFront (λ n. n ≤ 2147483647) decimal text (Some (n, rest)) → ReadsFront IsLiteralNumber signed_decimal text (Some (pos n, rest))
unsigned_reads text n rest h = (omega (arith, h.0), h.1, h.2)

pub unsigned_fails : (text : List ℕ) → ((rest : List ℕ) → Unit {0} → text ≡ 45 ∷ rest → ⊥) → ReadsFront (λ n. n ≤ 2147483647) decimal text None → ReadsFront IsLiteralNumber signed_decimal text None
unsigned_fails text unsigned none (pos n) rest fit e stop = none n rest (omega (arith, fit)) e stop
unsigned_fails text unsigned none (negsuc n) rest fit e stop = unsigned (decimal (suc n) ++ rest) tt e

-- a number after a sign
pub signed_reads : (text tail : List ℕ) (n : ℕ) (l : ℤ) (rest : List ℕ) → text ≡ 45 ∷ tail → l ≡ negsuc (n - 1) → ReadsFront (λ n. (1 ≤ n) × (n ≤ 2 ^ 31)) decimal tail (Some (n, rest)) → ReadsFront IsLiteralNumber signed_decimal text (Some (l, rest))
signed_reads text tail n l rest e is h =
    let suc_is : suc (n - 1) ≡ n = omega (arith, h.0.0) in
    let literal : ReadsFront IsLiteralNumber signed_decimal text (Some (negsuc (n - 1), rest)) =
    (omega (arith, h.0.0, h.0.1), e ∙ ap (λ (t : List ℕ). 45 ∷ t) h.1 ∙ ap (λ (k : ℕ). 45 ∷ (decimal k ++ rest)) (sym suc_is), h.2) in
    subst (λ (k : ℤ). ReadsFront IsLiteralNumber signed_decimal text (Some (k, rest))) (sym is) literal

pub signed_fails : (text tail : List ℕ) → text ≡ 45 ∷ tail → ReadsFront (λ n. (1 ≤ n) × (n ≤ 2 ^ 31)) decimal tail None → ReadsFront IsLiteralNumber signed_decimal text None
signed_fails text tail e none (pos n) rest fit same stop = digit_first n rest tail (omega (arith, fit)) (sym same ∙ e)
signed_fails text tail e none (negsuc n) rest fit same stop =
    let tails : tail ≡ decimal (suc n) ++ rest = cc in
    none (suc n) rest (omega (arith), omega (arith, fit)) tails stop

-- no number but zero stands there
pub zero_fails : (text : List ℕ) (n : ℕ) (next : List ℕ) → n ≡ 0 → ReadsFront (λ n. n ≤ 2147483648) decimal text (Some (n, next)) → ReadsFront (λ n. (1 ≤ n) × (n ≤ 2 ^ 31)) decimal text None
zero_fails text n next zero h x rest fit e stop =
    let told = numbers_told n x next rest (omega (arith, h.0)) (omega (arith, fit.1)) h.2 stop (sym h.1 ∙ e) in
    omega (arith, told.0, fit.0)

-- ---- literals, parted by spaces

spaced : (ls : List ℤ) → (ls ≡ [] → ⊥) → flat_map literal_field ls ≡ 32 ∷ literals ls
spaced [] some = absurd (some refl)
spaced (l ∷ ls) some = flat_map-cons literal_field l ls

none_of_them : (text : List ℕ) → (text ≡ [] → ⊥) → Reads (All IsLiteralNumber) (flat_map literal_field) (32 ∷ text) None → (ls : List ℤ) → All IsLiteralNumber ls → text ≡ literals ls → ⊥
none_of_them text some h [] all e = some e
none_of_them text some h (l ∷ ls) all e = h (l ∷ ls) all (ap (λ (t : List ℕ). 32 ∷ t) e ∙ sym (spaced (l ∷ ls) (λ no. absurd cc)))

-- what is read of them after a space
pub literals_read : (text : List ℕ) (r : Option (List ℤ)) → (text ≡ [] → ⊥) → Reads (All IsLiteralNumber) (flat_map literal_field) (32 ∷ text) r → Reads (All IsLiteralNumber) literals text r
literals_read text (Some []) some h = absurd (let e : 32 ∷ text ≡ [] = h.1 in cc)
literals_read text (Some (l ∷ ls)) some h = (h.0, let e : 32 ∷ text ≡ 32 ∷ literals (l ∷ ls) = h.1 ∙ spaced (l ∷ ls) (λ no. absurd cc) in cc)
literals_read text None some h = none_of_them text some h
