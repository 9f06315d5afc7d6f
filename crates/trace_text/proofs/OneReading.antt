-- Cells are read from the front of some bytes in one way.
use Rattle.std.proofs.Common.{◌≡◌, ℕ, ◌⊎◌, inl, inr, ℤ, pos, Bool, true, false, List, [], ◌∷◌, ◌++◌, length, get_or, slice_get, Some, refl, sym, ap, subst, ◌∙◌, arith, append_assoc}
use Rattle.std.specs.Prelude.{codes, MatchBool, ◌==◌}
use Rattle.std.specs.List.{AllByRecursion}
use Rattle.hll_lexer.specs.Pieces.{IsQuoted, Stops}
use Rattle.hll_lexer.specs.Words.{begins_word, continues_word}
use Rattle.hll_lexer.specs.Numbers.{is_digit}
use Rattle.hll_tree.specs.declared.tree.HllModel.{HllModel}
use Rattle.hll_tree.specs.Printing.{Text}
use Rattle.hll_meaning.specs.Kinds.{Kind, truth, whole, element, array, struct, IsOf}
use Rattle.hll_meaning.specs.Declarations.{names}
use Rattle.hll_meaning.specs.StaticRules.{Well}
use Rattle.hll_meaning.specs.Cells.{Cell}
use Rattle.trace_text.specs.declared.fault.TraceKind.{TraceKind}
use Rattle.trace_text.specs.declared.fault.TraceKind.TheVariants as wrong
use Rattle.trace_text.specs.Parts.{StandsName}
use Rattle.trace_text.specs.Traces.{cells_text, element_name, value_text, AreValues}
use Rattle.trace_text.specs.Faults.{Ends, HasValue, IsDue, IsShortIn, Never, Stand}
use Rattle.trace_text.proofs.ElementNames.{one_element}
use Rattle.trace_text.proofs.NumberFronts.{number_ends, one_whole}
use Rattle.trace_text.proofs.TextFronts.{append_cancel}
use Rattle.trace_text.proofs.ValueFronts.{name_some, one_name_there, true_word}

-- ---- values

-- the word of a truth value
abbrev IsWord : Text → ℤ → Text → Type 0
IsWord text x after = ((x ≡ pos 0) × (text ≡ codes "false" ++ after) × Stops continues_word after) ⊎ ((x ≡ pos 1) × (text ≡ codes "true" ++ after) × Stops continues_word after)

one_word : (text a b : Text) (x y : ℤ) → IsWord text x a → IsWord text y b → (x ≡ y) × (a ≡ b)
one_word text a b x y (inl p) (inl q) = (p.0 ∙ sym q.0, append_cancel (codes "false") a b (sym p.1 ∙ q.1))
one_word text a b x y (inl p) (inr q) = let first : 102 ≡ 116 = ap (λ (t : Text). get_or t 0 0) (sym p.1 ∙ q.1) in absurd (omega (arith, first))
one_word text a b x y (inr p) (inl q) = let first : 116 ≡ 102 = ap (λ (t : Text). get_or t 0 0) (sym p.1 ∙ q.1) in absurd (omega (arith, first))
one_word text a b x y (inr p) (inr q) = (p.0 ∙ sym q.0, append_cancel (codes "true") a b (sym p.1 ∙ q.1))

-- the values of a cell are short
abbrev pub IsShortCell : Cell → Type 0
IsShortCell c = (x : ℤ) → IsOf c.kind (x ∷ []) → IsShortIn c.kind x

-- what reading cells comes to: values with the bytes that follow, or what is wrong with one of them
pub data Outcome : Type 0 where
  read : List ℤ → Text → Outcome
  refused : TraceKind → Outcome

-- a word ends before a byte with which neither a word nor a number goes on
ends_before : (text : Text) (b : ℕ) (more : Text) → continues_word b ≡ false → is_digit 10 b ≡ false → Ends text [] → Ends text (b ∷ more)
ends_before [] b more p q ends = absurd ends
ends_before (d ∷ ds) b more p q ends = by (begins_word d) (d == 39) ends
  where
    by : (c e : Bool) → MatchBool c (Unit {0}) (MatchBool e (IsQuoted (d ∷ ds)) (Unit {0})) → MatchBool c (continues_word b ≡ false) (MatchBool e (IsQuoted (d ∷ ds)) (is_digit 10 b ≡ false))
    by true e h = p
    by false true h = h
    by false false h = q

module _ (m : HllModel) (well : Well m) where
  one_value : (k : Kind) → ((x : ℤ) → IsOf k (x ∷ []) → IsShortIn k x) → (text a b : Text) (x y : ℤ) → HasValue (names m) k text x a → HasValue (names m) k text y b → (x ≡ y) × (a ≡ b)
  one_value truth short text a b x y h g = one_word text a b x y (true_word (names m) text a x h) (true_word (names m) text b y g)
  one_value (whole e) short text a b x y h g =
      let p = short x h.value in
      let q = short y g.value in
      one_whole text a b x y p q (record { written = h.written; ends = (number_ends x a p).0 h.ends }) (record { written = g.written; ends = (number_ends y b q).0 g.ends })
  one_value (element root e) short text a b x y h g =
      let p : StandsName text (element_name (names m) root x) a = record { written = h.written; ends = h.ends } in
      let q : StandsName text (element_name (names m) root y) b = record { written = g.written; ends = g.ends } in
      let one = one_name_there text (element_name (names m) root x) (element_name (names m) root y) a b p q in
      (one_element m well root x y one.0 (name_some text (element_name (names m) root x) a p), one.1)
  one_value (array n k) short text a b x y h g = absurd h.ends
  one_value (struct s fields) short text a b x y h g = absurd h.ends

  -- ---- cells

  one_due : (c : Cell) (bytes a b : Text) → IsDue c bytes a → IsDue c bytes b → a ≡ b
  one_due c bytes a b h g = append_cancel (codes " " ++ c.name ++ codes "=") a b (sym h ∙ g)

  abbrev pub ComesTo : List Cell → Text → Outcome → Type 0
  ComesTo [] bytes (read [] after) = bytes ≡ after
  ComesTo [] bytes (read (x ∷ xs) after) = ⊥
  ComesTo [] bytes (refused kind) = ⊥
  ComesTo (c ∷ cs) bytes (read [] after) = ⊥
  ComesTo (c ∷ cs) bytes (read (x ∷ xs) after) = (value : Text) × (rest : Text) × IsDue c bytes value × HasValue (names m) c.kind value x rest × ComesTo cs rest (read xs after)
  ComesTo (c ∷ cs) bytes (refused kind) =
      (Never (IsDue c bytes) × (kind ≡ wrong.Cell))
      ⊎ (((value : Text) × IsDue c bytes value × ((x : ℤ) → Never (HasValue (names m) c.kind value x)) × (kind ≡ wrong.Value))
      ⊎ ((value : Text) × (rest : Text) × (x : ℤ) × IsDue c bytes value × HasValue (names m) c.kind value x rest × ComesTo cs rest (refused kind)))

  one_has : (c : Cell) → IsShortCell c → (bytes v w r s : Text) (x y : ℤ) → IsDue c bytes v → IsDue c bytes w → HasValue (names m) c.kind v x r → HasValue (names m) c.kind w y s → (x ≡ y) × (r ≡ s)
  one_has c short bytes v w r s x y p q h g =
      one_value c.kind short v r s x y h (subst (λ (t : Text). HasValue (names m) c.kind t y s) (sym (one_due c bytes v w p q)) g)

  pub mixed : (cs : List Cell) → AllByRecursion IsShortCell cs → (bytes after : Text) (xs : List ℤ) (kind : TraceKind) → ComesTo cs bytes (read xs after) → ComesTo cs bytes (refused kind) → ⊥
  mixed [] short bytes after xs kind h g = absurd g
  mixed (c ∷ cs) short bytes after [] kind h g = absurd h
  mixed (c ∷ cs) short bytes after (x ∷ xs) kind h (inl g) = absurd (g.0 h.0 h.2)
  mixed (c ∷ cs) short bytes after (x ∷ xs) kind h (inr (inl g)) =
      let same = one_due c bytes h.0 g.0 h.2 g.1 in
      absurd (g.2 x h.1 (subst (λ (t : Text). HasValue (names m) c.kind t x h.1) same h.3))
  mixed (c ∷ cs) short bytes after (x ∷ xs) kind h (inr (inr g)) =
      let one = one_has c short.0 bytes h.0 g.0 h.1 g.1 x g.2 h.2 g.3 h.3 g.4 in
      mixed cs short.1 h.1 after xs kind h.4 (subst (λ (t : Text). ComesTo cs t (refused kind)) (sym one.1) g.5)

  pub one_refusal : (cs : List Cell) → AllByRecursion IsShortCell cs → (bytes : Text) (kind other : TraceKind) → ComesTo cs bytes (refused kind) → ComesTo cs bytes (refused other) → kind ≡ other
  one_refusal [] short bytes kind other h g = absurd h
  one_refusal (c ∷ cs) short bytes kind other (inl h) (inl g) = h.1 ∙ sym g.1
  one_refusal (c ∷ cs) short bytes kind other (inl h) (inr (inl g)) = absurd (h.0 g.0 g.1)
  one_refusal (c ∷ cs) short bytes kind other (inl h) (inr (inr g)) = absurd (h.0 g.0 g.3)
  one_refusal (c ∷ cs) short bytes kind other (inr (inl h)) (inl g) = absurd (g.0 h.0 h.1)
  one_refusal (c ∷ cs) short bytes kind other (inr (inl h)) (inr (inl g)) = h.3 ∙ sym g.3
  one_refusal (c ∷ cs) short bytes kind other (inr (inl h)) (inr (inr g)) =
      absurd (h.2 g.2 g.1 (subst (λ (t : Text). HasValue (names m) c.kind t g.2 g.1) (one_due c bytes g.0 h.0 g.3 h.1) g.4))
  one_refusal (c ∷ cs) short bytes kind other (inr (inr h)) (inl g) = absurd (g.0 h.0 h.3)
  one_refusal (c ∷ cs) short bytes kind other (inr (inr h)) (inr (inl g)) =
      absurd (g.2 h.2 h.1 (subst (λ (t : Text). HasValue (names m) c.kind t h.2 h.1) (one_due c bytes h.0 g.0 h.3 g.1) h.4))
  one_refusal (c ∷ cs) short bytes kind other (inr (inr h)) (inr (inr g)) =
      let one = one_has c short.0 bytes h.0 g.0 h.1 g.1 h.2 g.2 h.3 g.3 h.4 g.4 in
      one_refusal cs short.1 h.1 kind other h.5 (subst (λ (t : Text). ComesTo cs t (refused other)) (sym one.1) g.5)

  pub one_read : (cs : List Cell) → AllByRecursion IsShortCell cs → (bytes a b : Text) (xs ys : List ℤ) → ComesTo cs bytes (read xs a) → ComesTo cs bytes (read ys b) → (xs ≡ ys) × (a ≡ b)
  one_read [] short bytes a b [] [] h g = (refl, sym h ∙ g)
  one_read [] short bytes a b [] (y ∷ ys) h g = absurd g
  one_read [] short bytes a b (x ∷ xs) ys h g = absurd h
  one_read (c ∷ cs) short bytes a b [] ys h g = absurd h
  one_read (c ∷ cs) short bytes a b (x ∷ xs) [] h g = absurd g
  one_read (c ∷ cs) short bytes a b (x ∷ xs) (y ∷ ys) h g =
      let one = one_has c short.0 bytes h.0 g.0 h.1 g.1 x y h.2 g.2 h.3 g.3 in
      let rest = one_read cs short.1 h.1 a b xs ys h.4 (subst (λ (t : Text). ComesTo cs t (read ys b)) (sym one.1) g.4) in
      ((λ i. one.0 i ∷ rest.0 i), rest.1)

  -- ---- from what stands there

  pub stand_reads : (cs : List Cell) (xs : List ℤ) (bytes after : Text) → Stand (names m) cs xs bytes after → length xs ≡ length cs → ComesTo cs bytes (read xs after)
  stand_reads [] [] bytes after s count = s
  stand_reads [] (x ∷ xs) bytes after s count = absurd s
  stand_reads (c ∷ cs) [] bytes after s count = absurd (omega (arith, count))
  stand_reads (c ∷ cs) (x ∷ xs) bytes after s count = (s.0, s.1, s.2, s.3, stand_reads cs xs s.1 after s.4 (omega (arith, count)))

  pub lacks_cell : (cs : List Cell) (xs : List ℤ) (bytes after : Text) (next : Cell) → Stand (names m) cs xs bytes after → slice_get cs (length xs) ≡ Some next → Never (IsDue next after) → ComesTo cs bytes (refused wrong.Cell)
  lacks_cell [] [] bytes after next s is never = absurd (cc is)
  lacks_cell [] (x ∷ xs) bytes after next s is never = absurd s
  lacks_cell (c ∷ cs) [] bytes after next s is never =
      let same : c ≡ next = cc is in
      inl (λ value due. never value (sym s ∙ subst (λ (d : Cell). IsDue d bytes value) same due), refl)
  lacks_cell (c ∷ cs) (x ∷ xs) bytes after next s is never = inr (inr (s.0, s.1, x, s.2, s.3, lacks_cell cs xs s.1 after next s.4 is never))

  pub lacks_value : (cs : List Cell) (xs : List ℤ) (bytes after value : Text) (next : Cell) → Stand (names m) cs xs bytes after → slice_get cs (length xs) ≡ Some next → IsDue next after value → ((x : ℤ) → Never (HasValue (names m) next.kind value x)) →
      ComesTo cs bytes (refused wrong.Value)
  lacks_value [] [] bytes after value next s is due never = absurd (cc is)
  lacks_value [] (x ∷ xs) bytes after value next s is due never = absurd s
  lacks_value (c ∷ cs) [] bytes after value next s is due never =
      let same : c ≡ next = cc is in
      inr (inl (value, subst (λ (d : Cell). IsDue d bytes value) (sym same) (s ∙ due), subst (λ (d : Cell). (x : ℤ) → Never (HasValue (names m) d.kind value x)) (sym same) never, refl))
  lacks_value (c ∷ cs) (x ∷ xs) bytes after value next s is due never = inr (inr (s.0, s.1, x, s.2, s.3, lacks_value cs xs s.1 after value next s.4 is due never))

  -- ---- from what is written

  abbrev pub IsWordCell : Cell → Type 0
  IsWordCell c = (x : ℤ) → IsOf c.kind (x ∷ []) → Ends (value_text (names m) c.kind x) []

  pub written_reads : (cs : List Cell) (xs : List ℤ) (more : Text) → AllByRecursion IsWordCell cs → AreValues cs xs → ComesTo cs (cells_text (names m) cs xs ++ 10 ∷ more) (read xs (10 ∷ more))
  written_reads [] [] more words v = refl
  written_reads [] (x ∷ xs) more words v = absurd v
  written_reads (c ∷ cs) [] more words v = absurd v
  written_reads (c ∷ cs) (x ∷ xs) more words v =
      let text = value_text (names m) c.kind x in
      let rest = cells_text (names m) cs xs ++ 10 ∷ more in (
        text ++ rest,
        rest,
        regroup (codes " " ++ c.name ++ codes "=") text (cells_text (names m) cs xs) (10 ∷ more),
        record { value = v.0; written = refl; ends = before cs xs more v.1 text (words.0 x v.0) },
        written_reads cs xs more words.1 v.1,
      )
    where
      regroup : (a b c d : Text) → ((a ++ b) ++ c) ++ d ≡ a ++ (b ++ (c ++ d))
      regroup a b c d = simp append_assoc

      before : (cs : List Cell) (xs : List ℤ) (more : Text) → AreValues cs xs → (text : Text) → Ends text [] → Ends text (cells_text (names m) cs xs ++ 10 ∷ more)
      before [] [] more v text ends = ends_before text 10 more refl refl ends
      before [] (x ∷ xs) more v text ends = absurd v
      before (c ∷ cs) [] more v text ends = absurd v
      before (c ∷ cs) (x ∷ xs) more v text ends = ends_before text 32 _ refl refl ends
