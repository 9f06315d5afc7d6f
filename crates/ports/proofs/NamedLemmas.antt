-- The first entry of a name, after a change to the list.
use Rattle.std.proofs.Common.{◌≡◌, ◌≢◌, ℕ, zero, suc, ◌<◌, List, [], ◌∷◌, ◌++◌, length, get_or, set, Some, None, Bool, true, false, cond, Decides, IsSome, sym, ap, subst, ◌∙◌, refl, arith}
use Rattle.std.proofs.lemmas.Slice.Eq.{bytes_eq-Decides}
use Rattle.std.specs.Str.{bytes_eq}
use Rattle.ports.specs.Named.{first_named, IsFirst}

bytes_eq_same : (a b : List ℕ) → a ≡ b → bytes_eq a b ≡ true
bytes_eq_same a b e = (bytes_eq-Decides a b).1 e

bytes_eq_other : (a b : List ℕ) → a ≢ b → bytes_eq a b ≡ false
bytes_eq_other a b differs = by_test (bytes_eq a b) (bytes_eq-Decides a b) where
  by_test : (t : Bool) → Decides t (a ≡ b) → t ≡ false
  by_test false d = refl
  by_test true d = absurd (differs (d.0 refl))

module _ {E : Type 0} (key : E → List ℕ) where
  first_named_here : (e : E) (es : List E) (name : List ℕ) → key e ≡ name → first_named key (e ∷ es) name ≡ Some e
  first_named_here e es name same = ap (λ t. cond t (Some e) (first_named key es name)) (bytes_eq_same (key e) name same)

  first_named_past : (e : E) (es : List E) (name : List ℕ) → key e ≢ name → first_named key (e ∷ es) name ≡ first_named key es name
  first_named_past e es name differs = ap (λ t. cond t (Some e) (first_named key es name)) (bytes_eq_other (key e) name differs)

  -- an entry that no earlier one has the name of is the first
  pub IsFirst-from_places : (es : List E) (name : List ℕ) (i : ℕ) (d : E) → i < length es → key (get_or es i d) ≡ name → ((k : ℕ) → k < i → key (get_or es k d) ≢ name) → IsFirst key es name i
  IsFirst-from_places [] name i d within same before = absurd (omega arith)
  IsFirst-from_places (e ∷ es) name zero d within same before = same
  IsFirst-from_places (e ∷ es) name (suc i) d within same before =
      (before 0 (omega arith), IsFirst-from_places es name i d (omega arith) same (λ k h. before (suc k) (omega arith)))

  -- where no entry has the name, there is no first
  pub first_named-from_none : (es : List E) (name : List ℕ) → ((k : ℕ) (d : E) → k < length es → key (get_or es k d) ≢ name) → first_named key es name ≡ None
  first_named-from_none [] name none = refl
  first_named-from_none (e ∷ es) name none =
      first_named_past e es name (none 0 e (omega arith)) ∙ first_named-from_none es name (λ k d h. none (suc k) d (omega arith))

  -- the first stands inside the list
  pub IsFirst-within : (es : List E) (name : List ℕ) (i : ℕ) → IsFirst key es name i → i < length es
  IsFirst-within [] name i h = absurd h
  IsFirst-within (e ∷ es) name zero h = omega arith
  IsFirst-within (e ∷ es) name (suc i) h = let w : i < length es = IsFirst-within es name i h.1 in omega arith

  -- it has the name
  pub IsFirst-key : (es : List E) (name : List ℕ) (i : ℕ) (d : E) → IsFirst key es name i → key (get_or es i d) ≡ name
  IsFirst-key [] name i d h = absurd h
  IsFirst-key (e ∷ es) name zero d h = h
  IsFirst-key (e ∷ es) name (suc i) d h = IsFirst-key es name i d h.1

  -- it is what the look-up finds
  pub first_named-IsFirst : (es : List E) (name : List ℕ) (i : ℕ) (d : E) → IsFirst key es name i → first_named key es name ≡ Some (get_or es i d)
  first_named-IsFirst [] name i d h = absurd h
  first_named-IsFirst (e ∷ es) name zero d h = first_named_here e es name h
  first_named-IsFirst (e ∷ es) name (suc i) d h = first_named_past e es name h.0 ∙ first_named-IsFirst es name i d h.1

  -- where there is a first, the look-up finds one
  pub IsSome-IsFirst : (es : List E) (name : List ℕ) (i : ℕ) → IsFirst key es name i → IsSome (first_named key es name)
  IsSome-IsFirst [] name i h = absurd h
  IsSome-IsFirst (e ∷ es) name i h = subst IsSome (sym (first_named-IsFirst (e ∷ es) name i e h)) refl

  -- a name has one first place
  pub IsFirst-unique : (es : List E) (name : List ℕ) (i j : ℕ) → IsFirst key es name i → IsFirst key es name j → i ≡ j
  IsFirst-unique [] name i j h g = absurd h
  IsFirst-unique (e ∷ es) name zero zero h g = refl
  IsFirst-unique (e ∷ es) name zero (suc j) h g = absurd (g.0 h)
  IsFirst-unique (e ∷ es) name (suc i) zero h g = absurd (h.0 g)
  IsFirst-unique (e ∷ es) name (suc i) (suc j) h g = ap suc (IsFirst-unique es name i j h.1 g.1)

  -- after a write of an entry of the same name
  pub IsFirst-set : (es : List E) (name : List ℕ) (i j : ℕ) (d w : E) → i < length es → key w ≡ key (get_or es i d) → IsFirst key es name j → IsFirst key (set es i w) name j
  IsFirst-set [] name i j d w within same h = absurd h
  IsFirst-set (e ∷ es) name zero zero d w within same h = same ∙ h
  IsFirst-set (e ∷ es) name zero (suc j) d w within same h = (λ q. h.0 (sym same ∙ q), h.1)
  IsFirst-set (e ∷ es) name (suc i) zero d w within same h = h
  IsFirst-set (e ∷ es) name (suc i) (suc j) d w within same h = (h.0, IsFirst-set es name i j d w (omega arith) same h.1)

  pub first_named-set_same : (es : List E) (name : List ℕ) (i : ℕ) (w : E) → IsFirst key es name i → key w ≡ name → first_named key (set es i w) name ≡ Some w
  first_named-set_same [] name i w h same = absurd h
  first_named-set_same (e ∷ es) name zero w h same = first_named_here w es name same
  first_named-set_same (e ∷ es) name (suc i) w h same = first_named_past e (set es i w) name h.0 ∙ first_named-set_same es name i w h.1 same

  pub first_named-set_other : (es : List E) (name other : List ℕ) (i : ℕ) (w : E) → IsFirst key es name i → key w ≡ name → other ≢ name → first_named key (set es i w) other ≡ first_named key es other
  first_named-set_other [] name other i w h same differs = absurd h
  first_named-set_other (e ∷ es) name other zero w h same differs =
      first_named_past w es other (λ q. differs (sym q ∙ same)) ∙ sym (first_named_past e es other (λ q. differs (sym q ∙ h)))
  first_named-set_other (e ∷ es) name other (suc i) w h same differs =
      ap (λ r. cond (bytes_eq (key e) other) (Some e) r) (first_named-set_other es name other i w h.1 same differs)

  -- after a new entry at the end
  pub IsFirst-push : (es : List E) (name : List ℕ) (i : ℕ) (w : E) → IsFirst key es name i → IsFirst key (es ++ w ∷ []) name i
  IsFirst-push [] name i w h = absurd h
  IsFirst-push (e ∷ es) name zero w h = h
  IsFirst-push (e ∷ es) name (suc i) w h = (h.0, IsFirst-push es name i w h.1)

  pub first_named-push_other : (es : List E) (other : List ℕ) (w : E) → key w ≢ other → first_named key (es ++ w ∷ []) other ≡ first_named key es other
  first_named-push_other [] other w differs = first_named_past w [] other differs
  first_named-push_other (e ∷ es) other w differs = ap (λ r. cond (bytes_eq (key e) other) (Some e) r) (first_named-push_other es other w differs)

  first_named_none_past : (e : E) (es : List E) (name : List ℕ) → first_named key (e ∷ es) name ≡ None → (key e ≢ name) × (first_named key es name ≡ None)
  first_named_none_past e es name none = by_test (bytes_eq (key e) name) (bytes_eq-Decides (key e) name) none where
    by_test : (t : Bool) → Decides t (key e ≡ name) → cond t (Some e) (first_named key es name) ≡ None → (key e ≢ name) × (first_named key es name ≡ None)
    by_test true d q = absurd cc
    by_test false d q = (λ same. false_true (d.1 same), q) where
      false_true : false ≡ true → ⊥
      false_true q = cc

  -- a new entry of a name that was not there is the first of it
  pub IsFirst-push_new : (es : List E) (name : List ℕ) (w : E) → first_named key es name ≡ None → key w ≡ name → IsFirst key (es ++ w ∷ []) name (length es)
  IsFirst-push_new [] name w none same = same
  IsFirst-push_new (e ∷ es) name w none same =
      let p = first_named_none_past e es name none in (p.0, IsFirst-push_new es name w p.1 same)

  pub first_named-push_same : (es : List E) (name : List ℕ) (w : E) → first_named key es name ≡ None → key w ≡ name → first_named key (es ++ w ∷ []) name ≡ Some w
  first_named-push_same [] name w none same = first_named_here w [] name same
  first_named-push_same (e ∷ es) name w none same =
      let p = first_named_none_past e es name none in first_named_past e (es ++ w ∷ []) name p.0 ∙ first_named-push_same es name w p.1 same
