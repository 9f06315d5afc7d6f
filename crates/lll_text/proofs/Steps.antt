-- Steps that may fail, one after another.
use Rattle.std.proofs.Common.{◌≡◌, ℕ, Bool, true, false, cond, List, Option, Some, None, Result, Ok, Err, refl}
use Rattle.lll_text.specs.declared.fault.LllKind.{LllKind}
use Rattle.lll_text.specs.Fields.{◌>>=◌, given}

-- the value of a step that did not fail
pub record Stepped {A B F : Type 0} (r : Result A F) (f : A → Result B F) (y : B) : Type 0 where
  pub value : A
  pub first : r ≡ Ok value
  pub second : f value ≡ Ok y

pub stepped : {A B F : Type 0} (r : Result A F) (f : A → Result B F) (y : B) → (r >>= f) ≡ Ok y → Stepped r f y
stepped (Ok x) f y e = record { value = x; first = refl; second = e }
stepped (Err d) f y e = absurd cc

-- a test that did not fail
pub passed : {A F : Type 0} (b : Bool) (x y : A) (d : F) → cond b (Ok x) (Err d) ≡ Ok y → (b ≡ true) × (x ≡ y)
passed true x y d e = (refl, cc)
passed false x y d e = absurd cc

pub not_met : {A F : Type 0} (b : Bool) (x y : A) (d : F) → cond b (Err d) (Ok x) ≡ Ok y → (b ≡ false) × (x ≡ y)
not_met true x y d e = absurd cc
not_met false x y d e = (refl, cc)

-- a test that chose the first of two, or the second
pub chosen : {A F : Type 0} (b : Bool) (r : Result A F) (y : A) (d : F) → cond b r (Err d) ≡ Ok y → (b ≡ true) × (r ≡ Ok y)
chosen true r y d e = (refl, e)
chosen false r y d e = absurd cc

pub given_is : (wrong : LllKind) (o : Option (List ℕ)) (rest : List ℕ) → given wrong o ≡ Ok rest → o ≡ Some rest
given_is wrong (Some r) rest e = cc
given_is wrong None rest e = absurd cc

abbrev done : {A F : Type 0} → A → Result A F
done x = Ok x

pub ok_is : {A F : Type 0} (x y : A) → done {F = F} x ≡ done y → x ≡ y
ok_is x y e = cc
