-- Lists of entries that have names.
use Rattle.std.specs.Prelude.{◌≡◌, ◌≢◌, ℕ, zero, suc, List, [], ◌∷◌, Option, Some, None, if◌then◌else◌}
use Rattle.std.specs.Str.{bytes_eq}

-- the first entry of a name, where key gives an entry's name
abbrev pub first_named : {E : Type 0} → (E → List ℕ) → List E → List ℕ → Option E
first_named key [] name = None
first_named key (e ∷ es) name = if bytes_eq (key e) name then Some e else first_named key es name

-- the first entry of a name stands at this place
abbrev pub IsFirst : {E : Type 0} → (E → List ℕ) → List E → List ℕ → ℕ → Type 0
IsFirst key [] name place = ⊥
IsFirst key (e ∷ es) name zero = key e ≡ name
IsFirst key (e ∷ es) name (suc place) = (key e ≢ name) × IsFirst key es name place

-- the place of the first entry of a name, where there is one
abbrev pub IsPlaceOf : {E : Type 0} → (E → List ℕ) → List E → List ℕ → Option ℕ → Type 0
IsPlaceOf key entries name None = first_named key entries name ≡ None
IsPlaceOf key entries name (Some place) = IsFirst key entries name place
