-- Each cell of a text is that of one variable.
use Rattle.std.proofs.Common.{◌≡◌, ℕ, ◌+◌, ◌-◌, ◌<◌, ◌≤◌, ◌⊎◌, inl, inr, Bool, true, false, ◌||◌, List, [], ◌∷◌, map, Some, refl, sym, ap, subst, ◌∙◌, arith}
use Rattle.std.specs.List.{Contains}
use Rattle.std.specs.Str.{bytes_eq}
use Rattle.std.proofs.lemmas.Bool.{cases_lt}
use Rattle.hll_meaning.specs.Declarations.{is_among}
use Rattle.hll_meaning.specs.Kinds.{Kind, cells}
use Rattle.hll_meaning.specs.Names.{Thing, constant, type_of, code_in, variable, later, Names, under}
use Rattle.hll_meaning.specs.Runs.{variables_among}
use Rattle.hll_meaning.specs.StaticRules.{taken_by}
use Rattle.hll_meaning.proofs.Faultless.{neither}
use Rattle.hll_meaning.proofs.Scenes.{by_test, under_here, under_further}
use Rattle.dependence.specs.Mentions.{Stretch, stretch_from}
use Rattle.dependence.proofs.Apart.{AreApart, same_name, own_name, is_other}
use Rattle.dependence.proofs.DefinedCells.{count_all, count_more, stretch_here, stretch_further, is_stretch}
use Rattle.dependence.proofs.Members.{in_front, further_on, in_none, in_map, front_or_further}

-- names of variables
abbrev pub named : List (List ℕ × Kind) → List (List ℕ)
named = map (λ x. x.0)

-- a cell stands at a place of a variable
pub record IsOwned (start : ℕ) (xs : List (List ℕ × Kind)) (cell : ℕ) : Type 0 where
  pub name : List ℕ
  pub stretch : Stretch
  pub is_variable : stretch_from start xs name ≡ Some stretch
  pub listed : Contains xs (name, stretch.kind)
  pub rest : ℕ
  pub within : rest < cells stretch.kind
  pub is_cell : cell ≡ stretch.start + rest

pub is_owned : (start : ℕ) (xs : List (List ℕ × Kind)) (cell : ℕ) → AreApart (named xs) → start ≤ cell → cell < start + count_all xs → IsOwned start xs cell
is_owned start [] cell apart from to = absurd (omega arith)
is_owned start ((own, k) ∷ xs) cell apart from to = by (is_owned (start + cells k) xs cell apart.1) (cases_lt cell (start + cells k))
  where
    further : IsOwned (start + cells k) xs cell → IsOwned start ((own, k) ∷ xs) cell
    further h =
        let there : Contains (named xs) h.name = in_map (λ (x : List ℕ × Kind). x.0) xs (h.name, h.stretch.kind) h.listed in
        let other : bytes_eq own h.name ≡ false = by_test (bytes_eq own h.name) (λ same. let wrong : true ≡ false = sym (own_name own) ∙ ap (λ z. bytes_eq z own) (same_name own h.name same) ∙ is_other (named xs) own h.name apart.0 there in absurd (cc wrong)) (λ no. no) in
        record { name = h.name; stretch = h.stretch; is_variable = stretch_further start own k xs h.name other ∙ h.is_variable; listed = further_on (own, k) (h.name, h.stretch.kind) xs h.listed; rest = h.rest; within = h.within; is_cell = h.is_cell }

    by : (start + cells k ≤ cell → cell < (start + cells k) + count_all xs → IsOwned (start + cells k) xs cell) → (cell < start + cells k) ⊎ (start + cells k ≤ cell) → IsOwned start ((own, k) ∷ xs) cell
    by rest (inl small) =
        record { name = own; stretch = record { start = start; kind = k }; is_variable = stretch_here start own k xs own (own_name own); listed = in_front (own, k) xs; rest = cell - start; within = omega arith; is_cell = omega arith }
    by rest (inr large) = further (rest large (omega (arith, count_more (own, k) xs, to)))

-- two variables that have a cell in common are one
pub same_owner : (start : ℕ) (xs : List (List ℕ × Kind)) (a b : List ℕ) (s t : Stretch) (p q : ℕ) → stretch_from start xs a ≡ Some s → stretch_from start xs b ≡ Some t → p < cells s.kind → q < cells t.kind → s.start + p ≡ t.start + q →
    a ≡ b
same_owner start [] a b s t p q is also h k same = absurd (cc is)
same_owner start ((own, kind) ∷ xs) a b s t p q is also h k same =
    by_test (bytes_eq own a)
    (λ first. by_test (bytes_eq own b) (λ second. sym (same_name own a first) ∙ same_name own b second) (λ other. absurd (before a b s t p q is also h k same first other)))
    (λ differs. by_test (bytes_eq own b)
    (λ second. absurd (before b a t s q p also is k h (sym same) second differs))
    (λ other. same_owner (start + cells kind) xs a b s t p q (sym (stretch_further start own kind xs a differs) ∙ is) (sym (stretch_further start own kind xs b other) ∙ also) h k same))
  where
    before : (c d : List ℕ) (u v : Stretch) (i j : ℕ) → stretch_from start ((own, kind) ∷ xs) c ≡ Some u → stretch_from start ((own, kind) ∷ xs) d ≡ Some v → i < cells u.kind → j < cells v.kind → u.start + i ≡ v.start + j →
        bytes_eq own c ≡ true → bytes_eq own d ≡ false → ⊥
    before c d u v i j is also h k same first other =
        let e : Some (record { start = start; kind = kind }) ≡ Some u = sym (stretch_here start own kind xs c first) ∙ is in
        let f : record { start = start; kind = kind } ≡ u = cc e in
        let starts : start ≡ u.start = ap (λ (x : Stretch). x.start) f in
        let many : cells kind ≡ cells u.kind = ap (λ (x : Stretch). cells x.kind) f in
        let behind = (is_stretch (start + cells kind) xs d v (sym (stretch_further start own kind xs d other) ∙ also)).from in
        omega (arith, starts, many, behind, h, same)

-- ---- among names

-- a name that stands for a variable
pub record StandsFor (xs : Names) (n : List ℕ) (k : Kind) : Type 0 where
  pub input : Bool
  pub is : under n xs ≡ Some (variable input k)
  pub listed : Contains xs (n, variable input k)

behind : (own : List ℕ) (t : Thing) (xs : Names) (n : List ℕ) (k : Kind) → is_among (taken_by xs) own ≡ false → StandsFor xs n k → StandsFor ((own, t) ∷ xs) n k
behind own t xs n k new h =
    let there : Contains (taken_by xs) n = in_map (λ (x : List ℕ × Thing). x.0) xs (n, variable h.input k) h.listed in
    let other : bytes_eq own n ≡ false = by_test (bytes_eq own n) (λ same. let wrong : true ≡ false = sym (own_name own) ∙ ap (λ z. bytes_eq z own) (same_name own n same) ∙ is_other (taken_by xs) own n new there in absurd (cc wrong)) (λ no. no) in
    record { input = h.input; is = under_further n own t xs other ∙ h.is; listed = further_on (own, t) (n, variable h.input k) xs h.listed }

-- a variable stands under its name
pub stands_for : (xs : Names) (n : List ℕ) (k : Kind) → AreApart (taken_by xs) → Contains (variables_among xs) (n, k) → StandsFor xs n k
stands_for [] n k apart h = absurd (in_none (n, k) h)
stands_for ((own, constant b x) ∷ xs) n k apart h = behind own (constant b x) xs n k apart.0 (stands_for xs n k apart.1 h)
stands_for ((own, type_of l) ∷ xs) n k apart h = behind own (type_of l) xs n k apart.0 (stands_for xs n k apart.1 h)
stands_for ((own, code_in root c) ∷ xs) n k apart h = behind own (code_in root c) xs n k apart.0 (stands_for xs n k apart.1 h)
stands_for ((own, variable input l) ∷ xs) n k apart h = by (stands_for xs n k apart.1) (front_or_further (own, l) (variables_among xs) (n, k) h)
  where
    by : (Contains (variables_among xs) (n, k) → StandsFor xs n k) → (◌≡◌ {A = List ℕ × Kind} (own, l) (n, k)) ⊎ Contains (variables_among xs) (n, k) → StandsFor ((own, variable input l) ∷ xs) n k
    by rest (inl same) =
        let names : own ≡ n = ap (λ (x : List ℕ × Kind). x.0) same in
        let kinds : l ≡ k = ap (λ (x : List ℕ × Kind). x.1) same in
        record {
          input = input;
          is = under_here n own (variable input l) xs (subst (λ z. bytes_eq own z ≡ true) names (own_name own)) ∙ (λ i. Some (variable input (kinds i)));
          listed = subst (λ (x : List ℕ × Kind). Contains ((own, variable input l) ∷ xs) (x.0, variable input x.1)) same (in_front (own, variable input l) xs);
        }
    by rest (inr there) = behind own (variable input l) xs n k apart.0 (rest there)
stands_for ((own, later) ∷ xs) n k apart h = behind own later xs n k apart.0 (stands_for xs n k apart.1 h)

-- the names of variables are apart, where all names are
pub variables_apart : (xs : Names) → AreApart (taken_by xs) → AreApart (named (variables_among xs))
variables_apart [] h = tt
variables_apart ((own, constant b x) ∷ xs) h = variables_apart xs h.1
variables_apart ((own, type_of l) ∷ xs) h = variables_apart xs h.1
variables_apart ((own, code_in root c) ∷ xs) h = variables_apart xs h.1
variables_apart ((own, variable input l) ∷ xs) h = (fewer xs own h.0, variables_apart xs h.1)
  where
    fewer : (ys : Names) (n : List ℕ) → is_among (taken_by ys) n ≡ false → is_among (named (variables_among ys)) n ≡ false
    fewer [] n none = refl
    fewer ((o, constant b x) ∷ ys) n none = fewer ys n (neither (bytes_eq o n) (is_among (taken_by ys) n) none).1
    fewer ((o, type_of l) ∷ ys) n none = fewer ys n (neither (bytes_eq o n) (is_among (taken_by ys) n) none).1
    fewer ((o, code_in root c) ∷ ys) n none = fewer ys n (neither (bytes_eq o n) (is_among (taken_by ys) n) none).1
    fewer ((o, variable i l) ∷ ys) n none = let s = neither (bytes_eq o n) (is_among (taken_by ys) n) none in λ j. s.0 j || fewer ys n s.1 j
    fewer ((o, later) ∷ ys) n none = fewer ys n (neither (bytes_eq o n) (is_among (taken_by ys) n) none).1
variables_apart ((own, later) ∷ xs) h = variables_apart xs h.1
