-- What is known of whatever the tokens of a text spell, by what is known of the tokens.
use Rattle.std.proofs.Common.{◌≡◌, ℕ, ◌≤◌, List, [], ◌∷◌, ◌++◌, Option, Some, None, inl, inr, sym, subst, pos}
use Rattle.std.specs.List.{AllByRecursion}
use Rattle.hll_lexer.specs.Names.{named_bytes}
use Rattle.hll_lexer.specs.Pieces.{greatest}
use Rattle.hll_lexer.specs.declared.token.Token.{Token}
use Rattle.hll_lexer.specs.declared.token.TokenKind.{TokenKind}
use Rattle.hll_lexer.specs.declared.token.TokenKind.TheVariants as kind
use Rattle.hll_lexer.specs.declared.token.Mark.TheVariants as mark
use Rattle.hll_tree.specs.Printing.{Text}
use Rattle.hll_tree.specs.Spells.{Spelling, One, Then, Made, Either, Perhaps, Many, Marked, Behind, Before, Listed}
use Rattle.hll_tree.proofs.LaidTokens.{IsNameText}

-- what a token of a kind, with these bytes without quotes, can be printed as
abbrev pub FineAs : TokenKind → Text → Type 0
FineAs kind.Name bytes = IsNameText bytes
FineAs (kind.Number n) bytes = (k : ℕ) × (n ≡ pos k) × (k ≤ greatest)
FineAs (kind.Reserved w) bytes = Unit {0}
FineAs (kind.Mark m) bytes = Unit {0}

abbrev pub Fine : Text → Token → Type 0
Fine src t = FineAs t.kind (named_bytes src t)

abbrev pub AllFine : Text → List Token → Type 0
AllFine src ts = AllByRecursion (Fine src) ts

fine_front : (src : Text) (us vs : List Token) → AllFine src (us ++ vs) → AllFine src us
fine_front src [] vs h = tt
fine_front src (t ∷ us) vs h = (h.0, fine_front src us vs h.1)

fine_back : (src : Text) (us vs : List Token) → AllFine src (us ++ vs) → AllFine src vs
fine_back src [] vs h = h
fine_back src (t ∷ us) vs h = fine_back src us vs h.1

pub front_of : (src : Text) (ts us vs : List Token) → ts ≡ us ++ vs → AllFine src ts → AllFine src us
front_of src ts us vs is h = fine_front src us vs (subst (AllFine src) is h)

pub back_of : (src : Text) (ts us vs : List Token) → ts ≡ us ++ vs → AllFine src ts → AllFine src vs
back_of src ts us vs is h = fine_back src us vs (subst (AllFine src) is h)

-- whatever fine tokens spell is so
abbrev pub Gives : {A : Type 0} → Text → Spelling A → (A → Type 0) → Type 0
Gives src P C = (ts : List Token) (x : _) → AllFine src ts → P ts x → C x

pub gives_one : {A : Type 0} {C : A → Type 0} (src : Text) (R : Token → A → Type 0) → ((t : Token) (x : A) → Fine src t → R t x → C x) → Gives src (One R) C
gives_one src R so ts x h is =
    let all : AllFine src (is.0 ∷ []) = subst (AllFine src) is.1 h in
    so is.0 x all.0 is.2

pub gives_then : {A B : Type 0} {P : Spelling A} {Q : Spelling B} {C : A → Type 0} {D : B → Type 0} (src : Text) → Gives src P C → Gives src Q D → Gives src (Then P Q) (λ x. C x.0 × D x.1)
gives_then src p q ts x h is = (p is.0 x.0 (front_of src ts is.0 is.1 is.2 h) is.3, q is.1 x.1 (back_of src ts is.0 is.1 is.2 h) is.4)

pub gives_made : {A B : Type 0} {P : Spelling A} {C : A → Type 0} (src : Text) (D : B → Type 0) (f : A → B) → ((x : A) → C x → D (f x)) → Gives src P C → Gives src (Made f P) D
gives_made src D f so p ts y h is = subst D (sym is.2) (so is.0 (p ts is.0 h is.1))

pub gives_either : {A : Type 0} {P Q : Spelling A} {C : A → Type 0} (src : Text) → Gives src P C → Gives src Q C → Gives src (Either P Q) C
gives_either src p q ts x h (inl is) = p ts x h is
gives_either src p q ts x h (inr is) = q ts x h is

pub gives_behind : {A B : Type 0} {Q : Spelling B} {D : B → Type 0} (src : Text) (P : Spelling A) → Gives src Q D → Gives src (Behind P Q) D
gives_behind {D = D} src P q ts y h is = subst D (sym is.2) (q is.1.1 is.0.1 (back_of src ts is.1.0 is.1.1 is.1.2 h) is.1.4)

pub gives_before : {A B : Type 0} {P : Spelling A} {C : A → Type 0} (src : Text) (Q : Spelling B) → Gives src P C → Gives src (Before P Q) C
gives_before {C = C} src Q p ts y h is = subst C (sym is.2) (p is.1.0 is.0.0 (front_of src ts is.1.0 is.1.1 is.1.2 h) is.1.3)

-- nothing, or something that is so
abbrev pub OnSome : {A : Type 0} → (A → Type 0) → Option A → Type 0
OnSome C None = Unit {0}
OnSome C (Some x) = C x

pub gives_perhaps : {A : Type 0} {P : Spelling A} {C : A → Type 0} (src : Text) → Gives src P C → Gives src (Perhaps P) (OnSome C)
gives_perhaps src p ts None h is = tt
gives_perhaps src p ts (Some x) h is = p ts x h is

pub gives_many : {A : Type 0} {P : Spelling A} {C : A → Type 0} (src : Text) → Gives src P C → Gives src (Many P) (AllByRecursion C)
gives_many src p ts [] h is = tt
gives_many src p ts (x ∷ xs) h is = (p is.0 x (front_of src ts is.0 is.1 is.2 h) is.3, gives_many src p is.1 xs (back_of src ts is.0 is.1 is.2 h) is.4)

-- some things, all of which are so
abbrev pub Several : {A : Type 0} → (A → Type 0) → List A → Type 0
Several C [] = ⊥
Several C (x ∷ xs) = C x × AllByRecursion C xs

pub gives_listed : {A : Type 0} {P : Spelling A} {C : A → Type 0} (src : Text) → Gives src P C → Gives src (Listed P) (Several C)
gives_listed src p = gives_made src _ (λ x. x.0 ∷ x.1) (λ x r. (r.0, r.1)) (gives_then src p (gives_many src (gives_behind src (Marked mark.Comma) p)))

pub all_of_some : {A : Type 0} (C : A → Type 0) (xs : List A) → Several C xs → AllByRecursion C xs
all_of_some C [] h = absurd h
all_of_some C (x ∷ xs) h = (h.0, h.1)

pub all_append : {A : Type 0} (C : A → Type 0) (xs ys : List A) → AllByRecursion C xs → AllByRecursion C ys → AllByRecursion C (xs ++ ys)
all_append C [] ys h k = k
all_append C (x ∷ xs) ys h k = (h.0, all_append C xs ys h.1 k)
