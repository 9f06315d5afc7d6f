-- Paths are spelled as they are printed.
use Rattle.std.proofs.Common.{◌≡◌, ℕ, suc, ◌≤◌, true, false, List, [], ◌∷◌, ◌++◌, map, inl, inr, refl, sym, ap, subst, ◌∙◌, arith, codes, append_assoc}
use Rattle.std.specs.List.{flat_map, AllByRecursion}
use Rattle.std.proofs.lemmas.List.{map-append}
use Rattle.hll_lexer.specs.Pieces.{Stops}
use Rattle.hll_lexer.specs.Words.{continues_word}
use Rattle.hll_lexer.specs.declared.token.Mark.TheVariants as mark
use Rattle.hll_lexer.specs.declared.token.Token.{Token}
use Rattle.hll_tree.specs.declared.tree.Expr.{Expr, roll-Expr}
use Rattle.hll_tree.specs.declared.tree.Form.{Form-F, Path}
use Rattle.hll_tree.specs.declared.tree.Form.TheVariants.{outs-Path}
use Rattle.hll_tree.specs.declared.tree.Name.{Name}
use Rattle.hll_tree.specs.declared.tree.Reach.{Reach, At, Field}
use Rattle.hll_tree.specs.Printing.{Text, is_bare, ReachText, index, field, reaches_text, printed, plainly, form_text, name_text}
use Rattle.hll_tree.specs.PrintedParts.{printed_reach}
use Rattle.hll_tree.specs.Spells.{Spelling, Scope, scope, Opening, Then, Made, Either, Many, Behind, Marked, AreIndices, IsField, IsOperand}
use Rattle.hll_tree.specs.WithoutPlaces.{name_without}
use Rattle.hll_tree.proofs.Printed.{printed-at, printed-field}
use Rattle.hll_tree.proofs.Laid.{Laid, never, never_stops, laid_then, laid_made, laid_behind, laid_weaker, laid_right, laid_as, laid_nil, laid_cons}
use Rattle.hll_tree.proofs.LaidTokens.{IsNameText, laid_mark, laid_name, open_bracket_closed, close_bracket_closed, dot_closed}
use Rattle.hll_tree.proofs.LaidLevels.{begins_before, inside, laid_opening, Same, IsBare, not_bare, IsPlain, Fit, fit_laid}
use Rattle.hll_tree.proofs.LaidForms.{with_room, begins_name, laid_further}
use Rattle.hll_tree.proofs.Without.{at_zero, reach_without, without-path, without-at, without-field}

-- a reach whose index fits, or whose field has a name
pub data FitReach (n : ℕ) (r : Reach) : Type 0 where
  by_index : (e : Expr) → r ≡ At e → Fit 0 n e → FitReach n r
  by_field : (m : Name) → r ≡ Field m → IsNameText m.text → FitReach n r

-- a name of the same text
pub same_name : (m y : Name) → y.text ≡ m.text → name_without y ≡ name_without m
same_name m y same = ap (λ (t : Text). name_of t) same
  where
    name_of : Text → Name
    name_of t = record { text = t; at = 0 }

opened_ends : (rs : List ReachText) (rest : Text) → Stops continues_word (reaches_text true rs ++ rest)
opened_ends [] rest = refl
opened_ends (index t ∷ rs) rest = refl
opened_ends (field t ∷ rs) rest = refl

closed_ends : (rs : List ReachText) (rest : Text) → Stops continues_word rest → Stops continues_word (reaches_text false rs ++ rest)
closed_ends [] rest h = h
closed_ends (index t ∷ rs) rest h = refl
closed_ends (field t ∷ rs) rest h = refl

-- what stands behind a name, and what stands behind an index
abbrev Steps : Scope → Spelling (List (List Reach))
Steps s = Many (Either (AreIndices s) (IsField s))

abbrev StepsBehind : Scope → Spelling (List Expr × List (List Reach))
StepsBehind s = Then (Many (Behind (Marked mark.Comma) s.expression)) (Behind (Marked mark.CloseBracket) (Steps s))

-- the reaches of steps
abbrev all_of : List (List Reach) → List Reach
all_of = flat_map (λ rs. rs)

abbrev group_of : Token × (Expr × (List Expr × List (List Reach))) → List (List Reach)
group_of z = map At (z.1.0 ∷ z.1.1.0) ∷ z.1.1.1

-- an index in a bracket of its own takes those that follow it in
group : (s : Scope) (ts : List Token) (y : List (List Reach)) → Made group_of (Then (Opening s mark.OpenBracket) (Then s.expression (StepsBehind s))) ts y → Steps s ts y
group s ts y is =
    let z = is.0 in
    let a = is.1 in
    let b = a.4 in
    let c = b.4 in
    let d = c.4 in
    let whole : ts ≡ a.0 ++ (b.0 ++ c.0 ++ d.1.0) ++ d.1.1 =
    a.2 ∙ ap (λ (us : List Token). a.0 ++ us) (b.2 ∙ ap (λ (us : List Token). b.0 ++ us) (c.2 ∙ ap (λ (us : List Token). c.0 ++ us) d.1.2)) ∙ simp append_assoc in
    subst (Steps s ts) (sym is.2) (
      a.0 ++ (b.0 ++ c.0 ++ d.1.0),
      d.1.1,
      whole,
      inl (z.1.0 ∷ z.1.1.0, ((z.0, z.1.0 ∷ z.1.1.0), (a.0, b.0 ++ c.0 ++ d.1.0, refl, a.3, ((z.1.0 ∷ z.1.1.0, d.0.0), (b.0 ++ c.0, d.1.0, refl, ((z.1.0, z.1.1.0), (b.0, c.0, refl, b.3, c.3), refl), d.1.3), refl)), refl), refl),
      subst (Steps s d.1.1) (sym d.2) d.1.4,
    )

abbrev one_more : Expr × (List Expr × List (List Reach)) → List Expr × List (List Reach)
one_more z = (z.0 ∷ z.1.0, z.1.1)

-- one more index in an open bracket
more : (s : Scope) (ts : List Token) (y : List Expr × List (List Reach)) → Made one_more (Then (Behind (Marked mark.Comma) s.expression) (StepsBehind s)) ts y → StepsBehind s ts y
more s ts y is =
    let a = is.1 in
    let b = a.4 in
    subst (StepsBehind s ts) (sym is.2)
    (a.0 ++ b.0, b.1, a.2 ∙ ap (λ (us : List Token). a.0 ++ us) b.2 ∙ sym (append_assoc a.0 b.0 b.1), (a.0, b.0, refl, a.3, b.3), b.4)

module _ (n room depth : ℕ) (less : n ≤ room) where
  abbrev Here : Text → Scope
  Here w = inside (suc room) depth w

  abbrev IsClosedLaid : List Reach → Type 0
  IsClosedLaid rs = Laid continues_word (reaches_text false (map printed_reach rs)) (λ w. Steps (Here w)) (λ y. map reach_without (all_of y) ≡ map reach_without rs)

  abbrev IsOpenedLaid : List Reach → Type 0
  IsOpenedLaid rs = Laid continues_word (reaches_text true (map printed_reach rs)) (λ w. StepsBehind (Here w)) (λ y. map reach_without (map At y.0 ++ all_of y.1) ≡ map reach_without rs)

  closed_nil : IsClosedLaid []
  closed_nil = laid_nil continues_word refl

  opened_nil : IsOpenedLaid []
  opened_nil =
      laid_weaker continues_word (codes "]") (λ w ts y s. s) (λ y r. ap (λ es. map reach_without (map At es ++ all_of y.1)) r.0 ∙ r.1)
      (laid_then {R = λ es. es ≡ []} {S = λ (y : List (List Reach)). map reach_without (all_of y) ≡ []} continues_word continues_word [] (codes "]" ++ []) (laid_nil continues_word refl)
      (laid_behind never continues_word (codes "]") [] (laid_mark mark.CloseBracket close_bracket_closed) (laid_nil continues_word refl) (λ rest h. never_stops ([] ++ rest)))
      (λ rest h. refl))

  -- the same index
  same_at : (r : Reach) (e y : Expr) → r ≡ At e → Same e y → reach_without (At y) ≡ reach_without r
  same_at r e y is same = without-at y ∙ ap (λ z. At z) same ∙ sym (without-at e) ∙ ap reach_without (sym is)

  same_field : (r : Reach) (m y : Name) → r ≡ Field m → y.text ≡ m.text → reach_without (Field y) ≡ reach_without r
  same_field r m y is same = without-field y ∙ ap (λ z. Field z) (same_name m y same) ∙ sym (without-field m) ∙ ap reach_without (sym is)

  closed_index : (r : Reach) (rs : List Reach) (e : Expr) → r ≡ At e → Fit 0 n e → IsOpenedLaid rs → IsClosedLaid (r ∷ rs)
  unfolding scope
  closed_index r rs e is f behind =
      let t : Text = plainly (printed e) in
      let u : Text = reaches_text true (map printed_reach rs) in
      laid_as continues_word (codes "[" ++ (t ++ u)) (reaches_text false (map printed_reach (r ∷ rs))) (ap (λ k. reaches_text false (k ∷ map printed_reach rs)) (sym (printed-at r e is)))
      (laid_weaker continues_word (codes "[" ++ (t ++ u)) (λ w ts y s. group (Here w) ts y s) (λ y q. q)
      (laid_made {S = λ (y : List (List Reach)). map reach_without (all_of y) ≡ map reach_without (r ∷ rs)} continues_word (codes "[" ++ (t ++ u)) group_of (λ z q. ap (λ k. k ∷ map reach_without (map At z.1.1.0 ++ all_of z.1.1.1)) (same_at r e z.1.0 is q.1.0) ∙ ap (λ ks. reach_without r ∷ ks) q.1.1)
      (laid_then never continues_word (codes "[") (t ++ u) (laid_opening mark.OpenBracket open_bracket_closed room depth)
      (laid_then continues_word continues_word t u (fit_laid 0 n room (suc depth) e (omega arith) less f) behind (λ rest h. opened_ends (map printed_reach rs) rest))
      (λ rest h. never_stops (t ++ u ++ rest)))))

  opened_index : (r : Reach) (rs : List Reach) (e : Expr) → r ≡ At e → Fit 0 n e → IsOpenedLaid rs → IsOpenedLaid (r ∷ rs)
  unfolding scope
  opened_index r rs e is f behind =
      let t : Text = codes ", " ++ plainly (printed e) in
      let u : Text = reaches_text true (map printed_reach rs) in
      laid_as continues_word (t ++ u) (reaches_text true (map printed_reach (r ∷ rs))) (ap (λ k. reaches_text true (k ∷ map printed_reach rs)) (sym (printed-at r e is)))
      (laid_weaker continues_word (t ++ u) (λ w ts y s. more (Here w) ts y s) (λ y q. q)
      (laid_made {S = λ (y : List Expr × List (List Reach)). map reach_without (map At y.0 ++ all_of y.1) ≡ map reach_without (r ∷ rs)} continues_word (t ++ u) one_more (λ z q. ap (λ k. k ∷ map reach_without (map At z.1.0 ++ all_of z.1.1)) (same_at r e z.0 is q.0) ∙ ap (λ ks. reach_without r ∷ ks) q.1)
      (laid_then continues_word continues_word t u (laid_further n room (suc depth) e less f) behind (λ rest h. opened_ends (map printed_reach rs) rest))))

  field_laid : (r : Reach) (rs : List Reach) (m : Name) → r ≡ Field m → IsNameText m.text → IsClosedLaid rs →
      Laid continues_word (codes "." ++ name_text m.text ++ reaches_text false (map printed_reach rs)) (λ w. Steps (Here w)) (λ y. map reach_without (all_of y) ≡ map reach_without (r ∷ rs))
  unfolding scope
  field_laid r rs m is h behind =
      let t : Text = codes "." ++ name_text m.text in
      let u : Text = reaches_text false (map printed_reach rs) in
      laid_cons {R = λ (ys : List Reach). map reach_without ys ≡ reach_without r ∷ []} {S = λ (y : List (List Reach)). map reach_without (all_of y) ≡ map reach_without rs} continues_word continues_word t u
      (λ ys yss q s. map-append reach_without ys (all_of yss) ∙ ap (λ ks. ks ++ map reach_without (all_of yss)) q ∙ ap (λ ks. reach_without r ∷ ks) s)
      (laid_right continues_word t (laid_made continues_word t (λ k. Field k ∷ []) (λ y q. ap (λ k. k ∷ []) (same_field r m y is q))
      (laid_behind never continues_word (codes ".") (name_text m.text) (laid_mark mark.Dot dot_closed) (laid_name m.text h) (λ rest _. never_stops (name_text m.text ++ rest)))))
      behind (closed_ends (map printed_reach rs))

  closed_field : (r : Reach) (rs : List Reach) (m : Name) → r ≡ Field m → IsNameText m.text → IsClosedLaid rs → IsClosedLaid (r ∷ rs)
  closed_field r rs m is h behind =
      laid_as continues_word (codes "." ++ name_text m.text ++ reaches_text false (map printed_reach rs)) (reaches_text false (map printed_reach (r ∷ rs)))
      (ap (λ k. reaches_text false (k ∷ map printed_reach rs)) (sym (printed-field r m is))) (field_laid r rs m is h behind)

  opened_field : (r : Reach) (rs : List Reach) (m : Name) → r ≡ Field m → IsNameText m.text → IsClosedLaid rs → IsOpenedLaid (r ∷ rs)
  opened_field r rs m is h behind =
      let t : Text = codes "." ++ name_text m.text ++ reaches_text false (map printed_reach rs) in
      laid_as continues_word ([] ++ (codes "]" ++ t)) (reaches_text true (map printed_reach (r ∷ rs))) (ap (λ k. reaches_text true (k ∷ map printed_reach rs)) (sym (printed-field r m is)))
      (laid_weaker continues_word ([] ++ (codes "]" ++ t)) (λ w ts y s. s) (λ y q. ap (λ es. map reach_without (map At es ++ all_of y.1)) q.0 ∙ q.1)
      (laid_then {R = λ es. es ≡ []} {S = λ (y : List (List Reach)). map reach_without (all_of y) ≡ map reach_without (r ∷ rs)} continues_word continues_word [] (codes "]" ++ t) (laid_nil continues_word refl)
      (laid_behind never continues_word (codes "]") t (laid_mark mark.CloseBracket close_bracket_closed) (field_laid r rs m is h behind) (λ rest h. never_stops (t ++ rest)))
      (λ rest h. refl)))

  reach_laid : (r : Reach) (rs : List Reach) → FitReach n r → IsClosedLaid rs × IsOpenedLaid rs → IsClosedLaid (r ∷ rs) × IsOpenedLaid (r ∷ rs)
  reach_laid r rs (FitReach.by_index e is f) behind = (closed_index r rs e is f behind.1, opened_index r rs e is f behind.1)
  reach_laid r rs (FitReach.by_field m is h) behind = (closed_field r rs m is h behind.0, opened_field r rs m is h behind.0)

  reaches_laid : (rs : List Reach) → AllByRecursion (FitReach n) rs → IsClosedLaid rs × IsOpenedLaid rs
  reaches_laid [] all = (closed_nil, opened_nil)
  reaches_laid (r ∷ rs) all = reach_laid r rs all.0 (reaches_laid rs all.1)

path_bare : (e : Expr) (m : Name) (rs : List Reach) → e.form ≡ Path m rs → IsNameText m.text → is_bare e ≡ true → IsBare e
path_bare e m [] is h b = IsBare.bare_name m h is
path_bare e m (r ∷ rs) is h b = not_bare e (Path m (r ∷ rs)) is (rw (outs-Path m (r ∷ rs)) refl) b

pub plain_path : (n : ℕ) (e : Expr) (m : Name) (rs : List Reach) → e.form ≡ Path m rs → IsNameText m.text → AllByRecursion (FitReach n) rs → IsPlain (suc n) (form_text (Form-F.Path m (map printed_reach rs))) e
unfolding scope
plain_path n e m rs is h all =
    let u : Text = reaches_text false (map printed_reach rs) in
    let t : Text = name_text m.text ++ u in
    record {
      tight = omega arith;
      bare = path_bare e m rs is h;
      begins = begins_before (name_text m.text) u (begins_name m.text);
      laid = λ room depth k. (with_room n (λ r. Laid continues_word t (λ w. IsOperand (inside r depth w)) (Same e))
          (λ r less.
          laid_weaker continues_word t (λ w ts y s. inr (inr (inr (inr (inl s))))) (λ y q. q)
          (laid_made {S = Same e} continues_word t (λ x. roll-Expr (record { at = x.0.at; form = Path x.0 (all_of x.1) }))
          (λ y q. without-path (roll-Expr (record { at = y.0.at; form = Path y.0 (all_of y.1) })) y.0 (all_of y.1) refl
          ∙ ap (λ z. at_zero (Path z (map reach_without (all_of y.1)))) (same_name m y.0 q.0) ∙ ap (λ z. at_zero (Path (name_without m) z)) q.1 ∙ sym (without-path e m rs is))
          (laid_then continues_word continues_word (name_text m.text) u (laid_name m.text h) (reaches_laid n r depth less rs all).0 (closed_ends (map printed_reach rs)))))
          room k);
    }
