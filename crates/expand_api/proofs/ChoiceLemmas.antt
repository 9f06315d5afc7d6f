-- The choice between two lists.
use Rattle.std.proofs.Common.{◌≡◌, Bool, true, false, cond, List, [], ◌∷◌, length, refl, sym, ap, ◌∙◌, arith}
use Rattle.expand_api.specs.Digits.Choices.{choice, Chooses}

pub choice_first : (xs ys : List Bool) → length xs ≡ length ys → choice true xs ys ≡ xs
choice_first [] ys l = refl
choice_first (x ∷ xs) [] l = absurd (cc)
choice_first (x ∷ xs) (y ∷ ys) l = ap (λ zs. x ∷ zs) (choice_first xs ys (omega arith))

pub choice_second : (xs ys : List Bool) → length xs ≡ length ys → choice false xs ys ≡ ys
choice_second [] [] l = refl
choice_second [] (y ∷ ys) l = absurd (cc)
choice_second (x ∷ xs) [] l = absurd (cc)
choice_second (x ∷ xs) (y ∷ ys) l = ap (λ zs. y ∷ zs) (choice_second xs ys (omega arith))

pub chooses : (c : Bool) (xs ys : List Bool) → Chooses c xs ys
chooses true xs ys l = choice_first xs ys l
chooses false xs ys l = choice_second xs ys l

pub choice_length : (c : Bool) (xs ys : List Bool) → length xs ≡ length ys → length (choice c xs ys) ≡ length xs
choice_length true xs ys l = ap length (choice_first xs ys l)
choice_length false xs ys l = ap length (choice_second xs ys l) ∙ sym l

pub choice_at : (c d : Bool) (xs ys : List Bool) → c ≡ d → length xs ≡ length ys → choice c xs ys ≡ cond d xs ys
choice_at c d xs ys e l = ap (λ b. choice b xs ys) e ∙ chooses d xs ys l
