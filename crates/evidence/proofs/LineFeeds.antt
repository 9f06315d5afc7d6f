-- Line feeds, and fronts of one text that end with a line.
use Rattle.std.proofs.Common.{◌≡◌, ◌⊎◌, ℕ, ◌+◌, ◌≤◌, Bool, true, false, cond, List, [], ◌∷◌, ◌++◌, length, refl, sym, ap, subst, ◌∙◌, append_assoc, inl, inr, arith}
use Rattle.std.specs.Prelude.{nat_eq, not, ◌&&◌, codes}
use Rattle.std.specs.List.{flat_map}
use Rattle.std.proofs.lemmas.List.{append-nil}
use Rattle.std.proofs.lemmas.List.Concat.{flat_map-cons}
use Rattle.lll_text.specs.Lines.{line_feeds}
use Rattle.lll_text.specs.Spelling.{line}
use Rattle.lll_text.proofs.Consumed.{line_feeds-append}
use Rattle.evidence.proofs.Cutting.{avoids}

-- ---- counts

no_feed : (v w : Bool) (n m : ℕ) → (not v && w) ≡ true → (w ≡ true → n ≡ 0) → cond v m n ≡ 0
no_feed true w n m e go = absurd cc
no_feed false w n m e go = go e

-- no line feed stands within a line
pub no_feeds : (xs : List ℕ) → avoids 10 xs ≡ true → line_feeds xs ≡ 0
unfolding line_feeds
no_feeds [] e = refl
no_feeds (x ∷ xs) e = no_feed (nat_eq x 10) (avoids 10 xs) (line_feeds xs) (1 + line_feeds xs) e (no_feeds xs)

pub one_feed : line_feeds (codes "\n") ≡ 1
unfolding line_feeds
one_feed = refl

pub none_in_nothing : line_feeds [] ≡ 0
unfolding line_feeds
none_in_nothing = refl

pub feeds_of_line : (xs : List ℕ) → avoids 10 xs ≡ true → line_feeds (line xs) ≡ 1
feeds_of_line xs e = line_feeds-append xs (codes "\n") ∙ ap (λ n. n + line_feeds (codes "\n")) (no_feeds xs e) ∙ ap (λ n. 0 + n) one_feed

few_step : (v : Bool) (n m : ℕ) → n ≤ m → cond v (1 + n) n ≤ m + 1
few_step true n m le = omega arith
few_step false n m le = omega arith

-- there are no more than bytes
pub few_feeds : (xs : List ℕ) → line_feeds xs ≤ length xs
unfolding line_feeds
few_feeds [] = omega arith
few_feeds (x ∷ xs) = let h = few_step (nat_eq x 10) (line_feeds xs) (length xs) (few_feeds xs) in omega (arith, h)

-- ---- whole lines

-- the bytes end with a line feed, or there are none
abbrev pub EndsLine : List ℕ → Type 0
EndsLine bytes = (bytes ≡ []) ⊎ ((before : List ℕ) × (bytes ≡ before ++ codes "\n"))

pub line_ends : (content : List ℕ) → EndsLine (line content)
line_ends content = inr (content, refl)

pub both_end : (xs ys : List ℕ) → EndsLine xs → EndsLine ys → EndsLine (xs ++ ys)
both_end xs ys p (inl e) = subst EndsLine (sym (append-nil xs) ∙ ap (λ (t : List ℕ). xs ++ t) (sym e)) p
both_end xs ys p (inr h) = inr (xs ++ h.0, ap (λ (t : List ℕ). xs ++ t) h.1 ∙ sym (append_assoc xs h.0 (codes "\n")))

pub each_ends : {X : Type 0} (f : X → List ℕ) (xs : List X) → ((x : X) → EndsLine (f x)) → EndsLine (flat_map f xs)
each_ends f [] go = inl refl
each_ends f (x ∷ xs) go = subst EndsLine (sym (flat_map-cons f x xs)) (both_end (f x) (flat_map f xs) (go x) (each_ends f xs go))

-- whole lines without a line feed are none
pub no_lines : (h : List ℕ) → EndsLine h → line_feeds h ≡ 0 → h ≡ []
no_lines h (inl e) none = e
no_lines h (inr w) none = absurd (omega (arith, none, ap line_feeds w.1, line_feeds-append w.0 (codes "\n"), one_feed))

pub some_lines : (h : List ℕ) → EndsLine h → (h ≡ [] → ⊥) → 1 ≤ line_feeds h
some_lines h (inl e) some = absurd (some e)
some_lines h (inr w) some = omega (arith, ap line_feeds w.1, line_feeds-append w.0 (codes "\n"), one_feed)

-- ---- two fronts of one text

-- the other front goes on so
pub record Longer (f r g s : List ℕ) : Type 0 where
  pub between : List ℕ
  pub longer : g ≡ f ++ between
  pub rest : r ≡ between ++ s

one_more : (x y : ℕ) (f r g s : List ℕ) → x ≡ y → Longer f r g s → Longer (x ∷ f) r (y ∷ g) s
one_more x y f r g s same l = record {
  between = l.between;
  longer = ap (λ z. z ∷ g) (sym same) ∙ ap (λ (t : List ℕ). x ∷ t) l.longer;
  rest = l.rest;
}

pub fronts : (f r g s : List ℕ) → f ++ r ≡ g ++ s → Longer f r g s ⊎ Longer g s f r
fronts [] r g s e = inl (record { between = g; longer = refl; rest = e })
fronts (x ∷ f) r [] s e = inr (record { between = x ∷ f; longer = refl; rest = sym e })
fronts (x ∷ f) r (y ∷ g) s e =
    let head : x ≡ y = cc in
    let tail : f ++ r ≡ g ++ s = cc in
    elim (fronts f r g s tail) [
      | inl l ↦ inl (one_more x y f r g s head l)
      | inr l ↦ inr (one_more y x g s f r (sym head) l)
    ]

pub nothing_left : (f h : List ℕ) → f ++ h ≡ [] → h ≡ []
nothing_left [] h e = e
nothing_left (x ∷ f) h e = absurd cc

pub nothing_before : (f h : List ℕ) → f ++ h ≡ [] → f ≡ []
nothing_before [] h e = refl
nothing_before (x ∷ f) h e = absurd cc

single : (b h : List ℕ) → codes "\n" ≡ b ++ h → EndsLine h
single [] h e = inr ([], sym e)
single (x ∷ b) h e = let none : b ++ h ≡ [] = cc in inl (nothing_left b h none)

-- what follows in whole lines ends with a line
pub ends_tail : (f h : List ℕ) → EndsLine (f ++ h) → EndsLine h
ends_tail f h (inl e) = inl (nothing_left f h e)
ends_tail f h (inr w) =
    elim (fronts f h w.0 (codes "\n") w.1) [
      | inl l ↦ inr (l.between, l.rest)
      | inr l ↦ single l.between h l.rest
    ]

-- whole lines in front of a text that begins with a line begin with it
pub first_line : (content more b r : List ℕ) → avoids 10 content ≡ true → EndsLine b → (b ≡ [] → ⊥) → line content ++ more ≡ b ++ r → Longer (line content) more b r
first_line content more b r inside ends some e =
    elim (fronts (line content) more b r e) [
      | inl l ↦ l
      | inr l ↦
          let after : EndsLine l.between = ends_tail b l.between (subst EndsLine l.longer (line_ends content)) in
          let count = line_feeds-append b l.between in
          let none : l.between ≡ [] = no_lines l.between after (omega (arith, ap line_feeds l.longer, count, feeds_of_line content inside, some_lines b ends some)) in
          record {
            between = [];
            longer = sym (append-nil b) ∙ ap (λ (t : List ℕ). b ++ t) (sym none) ∙ sym l.longer ∙ sym (append-nil (line content));
            rest = ap (λ (t : List ℕ). t ++ more) (sym none) ∙ sym l.rest;
          }
    ]

-- fronts with as many lines are one
pub same_lines : (f r g s : List ℕ) → EndsLine f → EndsLine g → line_feeds f ≡ line_feeds g → f ++ r ≡ g ++ s → f ≡ g
same_lines f r g s p q count e =
    elim (fronts f r g s e) [
      | inl l ↦ sym (level f r g s q count l)
      | inr l ↦ level g s f r p (sym count) l
    ]
  where
    level : (f r g s : List ℕ) → EndsLine g → line_feeds f ≡ line_feeds g → Longer f r g s → g ≡ f
    level f r g s q count l =
        let after : EndsLine l.between = ends_tail f l.between (subst EndsLine l.longer q) in
        let none : l.between ≡ [] = no_lines l.between after (omega (arith, count, ap line_feeds l.longer, line_feeds-append f l.between)) in
        l.longer ∙ ap (λ (t : List ℕ). f ++ t) none ∙ append-nil f
