-- A text is read in one way, line by line.
use Rattle.std.proofs.Common.{◌≡◌, ℕ, suc, ◌+◌, ◌*◌, ◌≤◌, ◌⊎◌, inl, inr, ℤ, List, [], ◌∷◌, ◌++◌, length, refl, sym, ap, subst, ◌∙◌, arith, append_assoc}
use Rattle.std.specs.Prelude.{codes, decimal, Contains}
use Rattle.std.specs.List.{AllByRecursion}
use Rattle.std.proofs.Math.Nat.{mul-le-mul_left}
use Rattle.std.proofs.lemmas.List.{append-nil, length-append}
use Rattle.hll_tree.specs.declared.tree.HllModel.{HllModel}
use Rattle.hll_tree.specs.Printing.{Text}
use Rattle.hll_meaning.specs.Declarations.{names}
use Rattle.hll_meaning.specs.StaticRules.{Well}
use Rattle.hll_meaning.specs.Cells.{Cell, input_cells}
use Rattle.trace_text.specs.declared.fault.TraceKind.{TraceKind}
use Rattle.trace_text.specs.declared.fault.TraceKind.TheVariants as wrong
use Rattle.trace_text.specs.Traces.{cells_text, line_text, lines_text, AreFew, AreValues, Spells}
use Rattle.trace_text.specs.Faults.{IsFaultAt, IsReadable, IsWrong, Never}
use Rattle.trace_text.proofs.OneReading.{ComesTo, IsShortCell, IsWordCell, lacks_cell, lacks_value, mixed, one_read, one_refusal, read, refused, stand_reads, written_reads}
use Rattle.trace_text.proofs.TextFronts.{append_cancel}

-- what holds of each holds of all
all_from : {A : Type 0} (P : A → Type 0) (xs : List A) → ((x : A) → Contains xs x → P x) → AllByRecursion P xs
all_from P [] h = tt
all_from P (x ∷ xs) h = (h x (0, omega arith, refl), all_from P xs (λ y k. h y (suc k.0, omega (arith, k.1), k.2)))

-- fewer instants are few enough
few_less : (m : HllModel) (a b : ℕ) → a ≤ b → AreFew m b → AreFew m a
few_less m a b le few = record { instants = omega (arith, few.instants, le); values = fewer a b _ le few.values }
  where
    fewer : (a b n : ℕ) → a ≤ b → b * n ≤ 4000000 → a * n ≤ 4000000
    fewer a b n le h = let more = mul-le-mul_left n le in omega (arith, more, h)

module _ (m : HllModel) (well : Well m) (readable : IsReadable m) where
  abbrev cs : List Cell
  cs = input_cells m

  short : AllByRecursion IsShortCell (input_cells m)
  short = all_from IsShortCell (input_cells m) (λ c there x h. readable.short c x there h)

  words : AllByRecursion (IsWordCell m well) (input_cells m)
  words = all_from (IsWordCell m well) (input_cells m) (λ c there x h. readable.words c x there h)

  -- ---- one line

  -- the number of an instant and a colon
  abbrev front : ℕ → Text
  front t = decimal t ++ codes ":"

  abbrev Comes : Text → TraceKind → Type 0
  Comes cells kind = ComesTo m well (input_cells m) cells (refused kind)

  -- what is wrong with a line, by what reading its cells comes to
  abbrev IsAt : ℕ → Text → TraceKind → Type 0
  IsAt t line wrong.Long = AreFew m (t + 1) → ⊥
  IsAt t line wrong.Instant = AreFew m (t + 1) × Never (λ more. line ≡ front t ++ more)
  IsAt t line wrong.Cell = AreFew m (t + 1) × (cells : Text) × (line ≡ front t ++ cells) × Comes cells wrong.Cell
  IsAt t line wrong.Value = AreFew m (t + 1) × (cells : Text) × (line ≡ front t ++ cells) × Comes cells wrong.Value
  IsAt t line wrong.Ending =
      AreFew m (t + 1) × (cells : Text) × (line ≡ front t ++ cells) × (xs : List ℤ) × (after : Text) × ComesTo m well (input_cells m) cells (read xs after) × Never (λ more. after ≡ 10 ∷ more)

  at_line : (t : ℕ) (line : Text) (kind : TraceKind) → IsWrong m t line kind → IsAt t line kind
  at_line t line wrong.Long w = w
  at_line t line wrong.Instant w = w
  at_line t line wrong.Cell w = (w.right.few, w.right.cells, w.right.begins, lacks_cell m well (input_cells m) w.xs w.right.cells w.after w.next w.right.stand w.is_next w.missing)
  at_line t line wrong.Value w = (w.right.few, w.right.cells, w.right.begins, lacks_value m well (input_cells m) w.xs w.right.cells w.after w.bytes w.next w.right.stand w.is_next w.due w.missing)
  at_line t line wrong.Ending w = (w.right.few, w.right.cells, w.right.begins, w.xs, w.after, stand_reads m well (input_cells m) w.xs w.right.cells w.after w.right.stand w.all_there, w.missing)

  same_cells : (t : ℕ) (line a b : Text) → line ≡ front t ++ a → line ≡ front t ++ b → a ≡ b
  same_cells t line a b p q = append_cancel (front t) a b (sym p ∙ q)

  two_refusals : (t : ℕ) (line a b : Text) (kind other : TraceKind) → line ≡ front t ++ a → line ≡ front t ++ b → Comes a kind → Comes b other → kind ≡ other
  two_refusals t line a b kind other p q h g =
      one_refusal m well (input_cells m) short a kind other h (subst (λ (u : Text). Comes u other) (sym (same_cells t line a b p q)) g)

  refused_read : (t : ℕ) (line a b after : Text) (kind : TraceKind) (xs : List ℤ) → line ≡ front t ++ a → line ≡ front t ++ b → Comes a kind → ComesTo m well (input_cells m) b (read xs after) → ⊥
  refused_read t line a b after kind xs p q h g = mixed m well (input_cells m) short b after xs kind g (subst (λ (u : Text). Comes u kind) (same_cells t line a b p q) h)

  one_at : (t : ℕ) (line : Text) (kind other : TraceKind) → IsAt t line kind → IsAt t line other → kind ≡ other
  one_at t line wrong.Long wrong.Long h g = refl
  one_at t line wrong.Long wrong.Instant h g = absurd (h g.0)
  one_at t line wrong.Long wrong.Cell h g = absurd (h g.0)
  one_at t line wrong.Long wrong.Value h g = absurd (h g.0)
  one_at t line wrong.Long wrong.Ending h g = absurd (h g.0)
  one_at t line wrong.Instant wrong.Long h g = absurd (g h.0)
  one_at t line wrong.Instant wrong.Instant h g = refl
  one_at t line wrong.Instant wrong.Cell h g = absurd (h.1 g.1 g.2)
  one_at t line wrong.Instant wrong.Value h g = absurd (h.1 g.1 g.2)
  one_at t line wrong.Instant wrong.Ending h g = absurd (h.1 g.1 g.2)
  one_at t line wrong.Cell wrong.Long h g = absurd (g h.0)
  one_at t line wrong.Cell wrong.Instant h g = absurd (g.1 h.1 h.2)
  one_at t line wrong.Cell wrong.Cell h g = refl
  one_at t line wrong.Cell wrong.Value h g = two_refusals t line h.1 g.1 wrong.Cell wrong.Value h.2 g.2 h.3 g.3
  one_at t line wrong.Cell wrong.Ending h g = absurd (refused_read t line h.1 g.1 g.4 wrong.Cell g.3 h.2 g.2 h.3 g.5)
  one_at t line wrong.Value wrong.Long h g = absurd (g h.0)
  one_at t line wrong.Value wrong.Instant h g = absurd (g.1 h.1 h.2)
  one_at t line wrong.Value wrong.Cell h g = two_refusals t line h.1 g.1 wrong.Value wrong.Cell h.2 g.2 h.3 g.3
  one_at t line wrong.Value wrong.Value h g = refl
  one_at t line wrong.Value wrong.Ending h g = absurd (refused_read t line h.1 g.1 g.4 wrong.Value g.3 h.2 g.2 h.3 g.5)
  one_at t line wrong.Ending wrong.Long h g = absurd (g h.0)
  one_at t line wrong.Ending wrong.Instant h g = absurd (g.1 h.1 h.2)
  one_at t line wrong.Ending wrong.Cell h g = absurd (refused_read t line g.1 h.1 h.4 wrong.Cell h.3 g.2 h.2 g.3 h.5)
  one_at t line wrong.Ending wrong.Value h g = absurd (refused_read t line g.1 h.1 h.4 wrong.Value h.3 g.2 h.2 g.3 h.5)
  one_at t line wrong.Ending wrong.Ending h g = refl

  -- a line that is right
  right_cells : (t : ℕ) (xs : List ℤ) (more : Text) → line_text (names m) (input_cells m) t xs ++ more ≡ front t ++ (cells_text (names m) (input_cells m) xs ++ 10 ∷ more)
  right_cells t xs more = regroup (front t) (cells_text (names m) (input_cells m) xs) (codes "\n") more
    where
      regroup : (a b c d : Text) → ((a ++ b) ++ c) ++ d ≡ a ++ (b ++ (c ++ d))
      regroup a b c d = simp append_assoc

  not_wrong : (t : ℕ) (line more : Text) (xs : List ℤ) (kind : TraceKind) → line ≡ line_text (names m) (input_cells m) t xs ++ more → AreFew m (t + 1) → AreValues (input_cells m) xs → IsAt t line kind → ⊥
  not_wrong t line more xs wrong.Long is few v h = h few
  not_wrong t line more xs wrong.Instant is few v h = h.1 (cells_text (names m) (input_cells m) xs ++ 10 ∷ more) (is ∙ right_cells t xs more)
  not_wrong t line more xs wrong.Cell is few v h =
      refused_read t line h.1 (cells_text (names m) (input_cells m) xs ++ 10 ∷ more) (10 ∷ more) wrong.Cell xs h.2 (is ∙ right_cells t xs more) h.3 (written_reads m well (input_cells m) xs more words v)
  not_wrong t line more xs wrong.Value is few v h =
      refused_read t line h.1 (cells_text (names m) (input_cells m) xs ++ 10 ∷ more) (10 ∷ more) wrong.Value xs h.2 (is ∙ right_cells t xs more) h.3 (written_reads m well (input_cells m) xs more words v)
  not_wrong t line more xs wrong.Ending is few v h =
      let cells = cells_text (names m) (input_cells m) xs ++ 10 ∷ more in
      let same = same_cells t line h.1 cells h.2 (is ∙ right_cells t xs more) in
      let one = one_read m well (input_cells m) short cells h.4 (10 ∷ more) h.3 xs (subst (λ (u : Text). ComesTo m well (input_cells m) u (read h.3 h.4)) same h.5) (written_reads m well (input_cells m) xs more words v) in
      h.6 more one.1

  same_line : (t : ℕ) (xs ys : List ℤ) (a b : Text) → AreValues (input_cells m) xs → AreValues (input_cells m) ys → line_text (names m) (input_cells m) t xs ++ a ≡ line_text (names m) (input_cells m) t ys ++ b → (xs ≡ ys) × (a ≡ b)
  same_line t xs ys a b v w e =
      let p = cells_text (names m) (input_cells m) xs ++ 10 ∷ a in
      let q = cells_text (names m) (input_cells m) ys ++ 10 ∷ b in
      let same : p ≡ q = append_cancel (front t) p q (sym (right_cells t xs a) ∙ e ∙ right_cells t ys b) in
      let one = one_read m well (input_cells m) short q (10 ∷ a) (10 ∷ b) xs ys (subst (λ (u : Text). ComesTo m well (input_cells m) u (read xs (10 ∷ a))) same (written_reads m well (input_cells m) xs a words v)) (written_reads m well (input_cells m) ys b words w) in
      let rest : a ≡ b = cc one.1 in
      (one.0, rest)

  -- ---- texts

  -- a right line stands behind these rows, and is the line of one of the others
  abbrev GoesOn : ℕ → List (List ℤ) → List (List ℤ) → Text → Type 0
  GoesOn t rows others rest =
      (row : List ℤ) × (more : Text) × AreValues (input_cells m) row × (length rows + 1 ≤ length others) × (rest ≡ line_text (names m) (input_cells m) (t + length rows) row ++ more)

  abbrev all_values : List (List ℤ) → Type 0
  all_values = AllByRecursion (AreValues (input_cells m))

  front_line : (t : ℕ) (row : List ℤ) (rows : List (List ℤ)) (rest : Text) → (line_text (names m) (input_cells m) t row ++ lines_text (names m) (input_cells m) (t + 1) rows) ++ rest
      ≡ line_text (names m) (input_cells m) (t + 0) row ++ (lines_text (names m) (input_cells m) (t + 1) rows ++ rest)
  front_line t row rows rest =
      let same : t ≡ t + 0 = omega arith in
      append_assoc (line_text (names m) (input_cells m) t row) (lines_text (names m) (input_cells m) (t + 1) rows) rest
      ∙ ap (λ (k : ℕ). line_text (names m) (input_cells m) k row ++ (lines_text (names m) (input_cells m) (t + 1) rows ++ rest)) same

  compare : (t : ℕ) (rows others : List (List ℤ)) (a b : Text) → all_values rows → all_values others → lines_text (names m) (input_cells m) t rows ++ a ≡ lines_text (names m) (input_cells m) t others ++ b →
      ((rows ≡ others) × (a ≡ b)) ⊎ (GoesOn t rows others a ⊎ GoesOn t others rows b)
  compare t [] [] a b v w e = inl (refl, e)
  compare t [] (o ∷ others) a b v w e = inr (inl (o, lines_text (names m) (input_cells m) (t + 1) others ++ b, w.0, omega arith, e ∙ front_line t o others b))
  compare t (r ∷ rows) [] a b v w e = inr (inr (r, lines_text (names m) (input_cells m) (t + 1) rows ++ a, v.0, omega arith, sym e ∙ front_line t r rows a))
  compare t (r ∷ rows) (o ∷ others) a b v w e =
      let lines = lines_text (names m) (input_cells m) (t + 1) in
      let line = line_text (names m) (input_cells m) t in
      let first = same_line t r o (lines rows ++ a) (lines others ++ b) v.0 w.0 (sym (append_assoc (line r) (lines rows) a) ∙ e ∙ append_assoc (line o) (lines others) b) in
      further first.0 (compare (t + 1) rows others a b v.1 w.1 first.1)
    where
      on : (xs ys : List (List ℤ)) (x y : List ℤ) (rest : Text) → GoesOn (t + 1) xs ys rest → GoesOn t (x ∷ xs) (y ∷ ys) rest
      on xs ys x y rest g =
          let same : t + 1 + length xs ≡ t + length (x ∷ xs) = omega arith in
          (g.0, g.1, g.2, omega (arith, g.3), g.4 ∙ ap (λ (k : ℕ). line_text (names m) (input_cells m) k g.0 ++ g.1) same)

      further : r ≡ o → ((rows ≡ others) × (a ≡ b)) ⊎ (GoesOn (t + 1) rows others a ⊎ GoesOn (t + 1) others rows b) → ((r ∷ rows ≡ o ∷ others) × (a ≡ b)) ⊎ (GoesOn t (r ∷ rows) (o ∷ others) a ⊎ GoesOn t (o ∷ others) (r ∷ rows) b)
      further p (inl h) = inl ((λ i. p i ∷ h.0 i), h.1)
      further p (inr (inl g)) = inr (inl (on rows others r o a g))
      further p (inr (inr g)) = inr (inr (on others rows o r b g))

  -- a line has bytes
  no_line : (t : ℕ) (xs : List ℤ) (more : Text) → [] ≡ line_text (names m) (input_cells m) t xs ++ more → ⊥
  no_line t xs more e =
      let n : 0 ≡ length (line_text (names m) (input_cells m) t xs ++ more) = ap length e in
      omega (arith, n, length-append (line_text (names m) (input_cells m) t xs) more, length-append (front t ++ cells_text (names m) (input_cells m) xs) (codes "\n"))

  wrong_goes_on : (rows others : List (List ℤ)) (line : Text) (kind : TraceKind) → IsWrong m (length rows) line kind → AreFew m (length others) → GoesOn 0 rows others line → ⊥
  wrong_goes_on rows others line kind w few g =
      let same : 0 + length rows ≡ length rows = omega arith in
      not_wrong (length rows) line g.1 g.0 kind (g.4 ∙ ap (λ (k : ℕ). line_text (names m) (input_cells m) k g.0 ++ g.1) same) (few_less m (length rows + 1) (length others) g.3 few) g.2 (at_line (length rows) line kind w)

  pub only_trace : (text : Text) (rows others : List (List ℤ)) → Spells m text rows → Spells m text others → rows ≡ others
  only_trace text rows others h g =
      by (compare 0 rows others [] [] h.trace.values g.trace.values
      (append-nil (lines_text (names m) (input_cells m) 0 rows) ∙ sym h.text_is ∙ g.text_is ∙ sym (append-nil (lines_text (names m) (input_cells m) 0 others))))
    where
      by : ((rows ≡ others) × (◌≡◌ {A = Text} [] [])) ⊎ (GoesOn 0 rows others [] ⊎ GoesOn 0 others rows []) → rows ≡ others
      by (inl same) = same.0
      by (inr (inl k)) = absurd (no_line (0 + length rows) k.0 k.1 k.4)
      by (inr (inr k)) = absurd (no_line (0 + length others) k.0 k.1 k.4)

  pub spelled_has_none : (text : Text) (rows : List (List ℤ)) (line : ℕ) (kind : TraceKind) → IsFaultAt m text line kind → Spells m text rows → ⊥
  spelled_has_none text rows line kind f s =
      by (compare 0 f.rows rows f.line [] f.before s.trace.values (sym f.whole ∙ s.text_is ∙ sym (append-nil (lines_text (names m) (input_cells m) 0 rows))))
    where
      by : ((f.rows ≡ rows) × (f.line ≡ [])) ⊎ (GoesOn 0 f.rows rows f.line ⊎ GoesOn 0 rows f.rows []) → ⊥
      by (inl same) = f.some same.1
      by (inr (inl k)) = wrong_goes_on f.rows rows f.line kind f.is_wrong s.trace.few k
      by (inr (inr k)) = no_line (0 + length rows) k.0 k.1 k.4

  pub only_fault : (text : Text) (line other : ℕ) (kind other_kind : TraceKind) → IsFaultAt m text line kind → IsFaultAt m text other other_kind → (line ≡ other) × (kind ≡ other_kind)
  only_fault text line other kind other_kind f g = by (compare 0 f.rows g.rows f.line g.line f.before g.before (sym f.whole ∙ g.whole))
    where
      by : ((f.rows ≡ g.rows) × (f.line ≡ g.line)) ⊎ (GoesOn 0 f.rows g.rows f.line ⊎ GoesOn 0 g.rows f.rows g.line) → (line ≡ other) × (kind ≡ other_kind)
      by (inl same) = (
        f.counted ∙ ap (λ (rs : List (List ℤ)). length rs + 1) same.0 ∙ sym g.counted,
        one_at (length f.rows) f.line kind other_kind (at_line (length f.rows) f.line kind f.is_wrong)
            (at_line (length f.rows) f.line other_kind (subst (λ (rs : List (List ℤ)). IsWrong m (length rs) f.line other_kind) (sym same.0) (subst (λ (u : Text). IsWrong m (length g.rows) u other_kind) (sym same.1) g.is_wrong))),
      )
      by (inr (inl k)) = absurd (wrong_goes_on f.rows g.rows f.line kind f.is_wrong g.few k)
      by (inr (inr k)) = absurd (wrong_goes_on g.rows f.rows g.line other_kind g.is_wrong f.few k)
