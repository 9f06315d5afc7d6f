-- Spellings that are put together have the laws that their parts have.
use Rattle.std.proofs.Common.{◌≡◌, Bool, true, false, ◌&&◌, List, [], ◌∷◌, ◌++◌, Option, Some, None, inl, inr, refl, sym, ◌∙◌, ap, subst, append_assoc}
use Rattle.std.proofs.lemmas.Bool.{false≢true}
use Rattle.hll_lexer.specs.declared.token.Token.{Token}
use Rattle.hll_tree.specs.Spells.{Spelling, One, Then, Made, Either, Perhaps, Many}
use Rattle.hll_grammar.specs.Lookahead.{Kinds, holds, with, nothing}
use Rattle.hll_grammar.specs.Reading.{Stops}
use Rattle.hll_grammar.proofs.Sets.{Apart, Covers, Follows, covers_left, covers_right}
use Rattle.hll_grammar.proofs.Parts.{Begins, IsOne, IsLawful}
use Rattle.hll_grammar.proofs.Fronts.{same_heads, same_rests, stops_covered, begins_covered, stops_before, no_stop, no_heads, joined_begins}

-- the sets may grow
pub resized_lawful : {A : Type 0} {P : Spelling A} {k l g h : Kinds} {e : Bool} → Covers l k → Covers h g → IsLawful P k e g → IsLawful P l e h
resized_lawful {e} c d p = record {
  first = λ ts x is. begins_covered e c ts (p.first ts x is);
  one = λ us vs us' vs' x x' same stops stops' is is'. p.one us vs us' vs' x x' same (stops_covered d vs stops) (stops_covered d vs' stops') is is';
}

module _ {A : Type 0} {R : Token → A → Type 0} {begins : Kinds} where
  pub one_lawful : ((t : Token) (x : A) → R t x → holds begins t.kind ≡ true) → ((t : Token) (x y : A) → R t x → R t y → x ≡ y) → IsLawful (One R) begins false nothing
  one_lawful of_kind single = record { first = first; one = one }
    where
      first : (ts : List Token) (x : A) → One R ts x → Begins begins false ts
      first ts x is = subst (Begins begins false) (sym is.1) (of_kind is.0 x is.2)

      one : IsOne (One R) nothing
      one us vs us' vs' x x' same stops stops' is is' =
          let heads = same_heads is.0 is'.0 vs vs' (sym (ap (λ ts. ts ++ vs) is.1) ∙ same ∙ ap (λ ts. ts ++ vs') is'.1) in
          (is.1 ∙ ap (λ t. t ∷ []) heads.0 ∙ sym is'.1, single is.0 x x' is.2 (subst (λ t. R t x') (sym heads.0) is'.2))

module _ {A B : Type 0} {P : Spelling A} {Q : Spelling B} {k l g h w : Kinds} {e f : Bool} where
  pub then_lawful : {begins : Kinds} → IsLawful P k e g → IsLawful Q l f h → Follows g l f h w → Covers begins k → (e ≡ true → Covers begins l) →
      IsLawful (Then P Q) begins (e && f) w
  then_lawful {begins} p q follows c d = record { first = first; one = one }
    where
      first : (ts : List Token) (x : A × B) → Then P Q ts x → Begins begins (e && f) ts
      first ts x is = subst (Begins begins (e && f)) (sym is.2) (joined_begins e f c d is.0 is.1 (p.first is.0 x.0 is.3) (q.first is.1 x.1 is.4))

      one : IsOne (Then P Q) w
      one us vs us' vs' x x' same stops stops' is is' =
          let apart : is.0 ++ (is.1 ++ vs) ≡ is'.0 ++ (is'.1 ++ vs') =
          sym (ap (λ ts. ts ++ vs) is.2 ∙ append_assoc is.0 is.1 vs) ∙ same ∙ ap (λ ts. ts ++ vs') is'.2 ∙ append_assoc is'.0 is'.1 vs' in
          let ends = stops_before f follows.apart is.1 vs (q.first is.1 x.1 is.4) (λ empty. stops_covered (follows.past empty) vs stops) in
          let ends' = stops_before f follows.apart is'.1 vs' (q.first is'.1 x'.1 is'.4) (λ empty. stops_covered (follows.past empty) vs' stops') in
          let left = p.one is.0 (is.1 ++ vs) is'.0 (is'.1 ++ vs') x.0 x'.0 apart ends ends' is.3 is'.3 in
          let right = q.one is.1 vs is'.1 vs' x.1 x'.1 (same_rests is.0 (is.1 ++ vs) is'.0 (is'.1 ++ vs') left.0 apart)
          (stops_covered follows.last vs stops) (stops_covered follows.last vs' stops') is.4 is'.4
          in
          (is.2 ∙ (λ i. left.0 i ++ right.0 i) ∙ sym is'.2, λ i. (left.1 i, right.1 i))

module _ {A B : Type 0} {P : Spelling A} {k g : Kinds} {e : Bool} where
  pub made_lawful : (f : A → B) → IsLawful P k e g → IsLawful (Made f P) k e g
  made_lawful f p = record { first = first; one = one }
    where
      first : (ts : List Token) (y : B) → Made f P ts y → Begins k e ts
      first ts y is = p.first ts is.0 is.1

      one : IsOne (Made f P) g
      one us vs us' vs' y y' same stops stops' is is' =
          let same = p.one us vs us' vs' is.0 is'.0 same stops stops' is.1 is'.1 in (same.0, is.2 ∙ ap f same.1 ∙ sym is'.2)

module _ {A : Type 0} {P Q : Spelling A} {k l g h : Kinds} where
  pub either_lawful : IsLawful P k false g → IsLawful Q l false h → Apart k l → IsLawful (Either P Q) (with k l) false (with g h)
  either_lawful p q apart = record { first = first; one = one }
    where
      first : (ts : List Token) (x : A) → Either P Q ts x → Begins (with k l) false ts
      first ts x (inl is) = begins_covered false (covers_left k l) ts (p.first ts x is)
      first ts x (inr is) = begins_covered false (covers_right k l) ts (q.first ts x is)

      one : IsOne (Either P Q) (with g h)
      one us vs us' vs' x x' same stops stops' (inl is) (inl is') =
          p.one us vs us' vs' x x' same (stops_covered (covers_left g h) vs stops) (stops_covered (covers_left g h) vs' stops') is is'
      one us vs us' vs' x x' same stops stops' (inl is) (inr is') = absurd (no_heads apart us vs us' vs' same (p.first us x is) (q.first us' x' is'))
      one us vs us' vs' x x' same stops stops' (inr is) (inl is') =
          absurd (no_heads apart us' vs' us vs (sym same) (p.first us' x' is') (q.first us x is))
      one us vs us' vs' x x' same stops stops' (inr is) (inr is') =
          q.one us vs us' vs' x x' same (stops_covered (covers_right g h) vs stops) (stops_covered (covers_right g h) vs' stops') is is'

-- what stops doesn't begin so
nothing_there : (k g : Kinds) (us vs us' vs' : List Token) → us ≡ [] → us ++ vs ≡ us' ++ vs' → Stops (with k g) vs → Begins k false us' → ⊥
nothing_there k g us vs us' vs' none same stops begins =
    no_stop (covers_left k g) us' vs' begins (subst (Stops (with k g)) (ap (λ ts. ts ++ vs) (sym none) ∙ same) stops)

module _ {A : Type 0} {P : Spelling A} {k g : Kinds} where
  pub perhaps_lawful : IsLawful P k false g → IsLawful (Perhaps P) k true (with k g)
  perhaps_lawful p = record { first = first; one = one }
    where
      first : (ts : List Token) (x : Option A) → Perhaps P ts x → Begins k true ts
      first ts None is = subst (Begins k true) (sym is) refl
      first [] (Some x) is = absurd (false≢true (p.first [] x is))
      first (t ∷ ts) (Some x) is = p.first (t ∷ ts) x is

      one : IsOne (Perhaps P) (with k g)
      one us vs us' vs' None None same stops stops' is is' = (is ∙ sym is', refl)
      one us vs us' vs' None (Some x') same stops stops' is is' = absurd (nothing_there k g us vs us' vs' is same stops (p.first us' x' is'))
      one us vs us' vs' (Some x) None same stops stops' is is' = absurd (nothing_there k g us' vs' us vs is' (sym same) stops' (p.first us x is))
      one us vs us' vs' (Some x) (Some x') same stops stops' is is' =
          let one = p.one us vs us' vs' x x' same (stops_covered (covers_right k g) vs stops) (stops_covered (covers_right k g) vs' stops') is is' in
          (one.0, ap (λ y. Some y) one.1)

  many_begins : IsLawful P k false g → (ts : List Token) (xs : List A) → Many P ts xs → Begins k true ts
  many_begins p ts [] is = subst (Begins k true) (sym is) refl
  many_begins p ts (x ∷ xs) is = subst (Begins k true) (sym is.2) (front_begins is.0 is.1 (p.first is.0 x is.3))
    where
      front_begins : (us vs : List Token) → Begins k false us → Begins k true (us ++ vs)
      front_begins [] vs begins = absurd (false≢true begins)
      front_begins (t ∷ us) vs begins = begins

  -- what stands before many, or before their end
  pub stops_at_many : IsLawful P k false g → Apart g k → (us vs : List Token) (xs : List A) → Many P us xs → Stops (with k g) vs → Stops g (us ++ vs)
  stops_at_many p apart us vs xs is stops = stops_before true apart us vs (many_begins p us xs is) (λ e. stops_covered (covers_right k g) vs stops)

  many_one : IsLawful P k false g → Apart g k → (xs xs' : List A) (us vs us' vs' : List Token) → us ++ vs ≡ us' ++ vs' →
      Stops (with k g) vs → Stops (with k g) vs' → Many P us xs → Many P us' xs' → (us ≡ us') × (xs ≡ xs')
  many_one p apart [] [] us vs us' vs' same stops stops' is is' = (is ∙ sym is', refl)
  many_one p apart [] (x' ∷ xs') us vs us' vs' same stops stops' is is' =
      absurd (nothing_there k g us vs is'.0 (is'.1 ++ vs') is (same ∙ ap (λ ts. ts ++ vs') is'.2 ∙ append_assoc is'.0 is'.1 vs') stops (p.first is'.0 x' is'.3))
  many_one p apart (x ∷ xs) [] us vs us' vs' same stops stops' is is' =
      absurd (nothing_there k g us' vs' is.0 (is.1 ++ vs) is' (sym same ∙ ap (λ ts. ts ++ vs) is.2 ∙ append_assoc is.0 is.1 vs) stops' (p.first is.0 x is.3))
  many_one p apart (x ∷ xs) (x' ∷ xs') us vs us' vs' same stops stops' is is' =
      let parts : is.0 ++ (is.1 ++ vs) ≡ is'.0 ++ (is'.1 ++ vs') =
      sym (ap (λ ts. ts ++ vs) is.2 ∙ append_assoc is.0 is.1 vs) ∙ same ∙ ap (λ ts. ts ++ vs') is'.2 ∙ append_assoc is'.0 is'.1 vs' in
      let left = p.one is.0 (is.1 ++ vs) is'.0 (is'.1 ++ vs') x x' parts
      (stops_at_many p apart is.1 vs xs is.4 stops) (stops_at_many p apart is'.1 vs' xs' is'.4 stops') is.3 is'.3
      in
      let right = many_one p apart xs xs' is.1 vs is'.1 vs' (same_rests is.0 (is.1 ++ vs) is'.0 (is'.1 ++ vs') left.0 parts) stops stops' is.4 is'.4 in
      (is.2 ∙ (λ i. left.0 i ++ right.0 i) ∙ sym is'.2, λ i. left.1 i ∷ right.1 i)

  pub many_lawful : IsLawful P k false g → Apart g k → IsLawful (Many P) k true (with k g)
  many_lawful p apart = record {
    first = many_begins p;
    one = λ us vs us' vs' xs xs' same stops stops' is is'. many_one p apart xs xs' us vs us' vs' same stops stops' is is';
  }
