-- In a spelled text without faults each value of a cell can be read again.
use Rattle.std.proofs.Common.{◌≡◌, ℕ, ◌⊎◌, inl, inr, ℤ, pos, true, false, List, [], ◌∷◌, ◌++◌, sym, ap, subst, ◌∙◌}
use Rattle.std.specs.Prelude.{codes, decimal}
use Rattle.std.specs.Fmt.{signed_decimal}
use Rattle.std.specs.List.{AllByRecursion, flat_map, range_with_len}
use Rattle.std.proofs.lemmas.Bool.{false≢true}
use Rattle.intervals.specs.Ends.{Ends as Bounds}
use Rattle.hll_lexer.specs.Words.{is_plain_name}
use Rattle.hll_tree.specs.declared.tree.HllModel.{HllModel}
use Rattle.hll_tree.specs.Printing.{Text, name_text}
use Rattle.hll_tree.proofs.Gives.{all_append}
use Rattle.hll_tree.proofs.LaidTokens.{IsNameText}
use Rattle.hll_meaning.specs.Cells.{Cell, named_cells, field_cells, cells_of_all, input_kind, input_cells}
use Rattle.hll_meaning.specs.Declarations.{names}
use Rattle.hll_meaning.specs.Fitting.{is_wide}
use Rattle.hll_meaning.specs.Kinds.{Kind, truth, whole, element, array, struct, Fields, none, field, is_in, IsOf}
use Rattle.hll_meaning.specs.Names.{constant, type_of, code_in, variable, later, Names}
use Rattle.hll_meaning.specs.StaticRules.{Well}
use Rattle.hll_meaning.proofs.Scenes.{by_test}
use Rattle.hll_meaning.specs.Texts.{HasText}
use Rattle.trace_text.specs.Faults.{Ends, IsReadable, IsShortIn}
use Rattle.trace_text.specs.Parts.{IsShort}
use Rattle.trace_text.specs.Traces.{element_name, value_text}
use Rattle.trace_text.proofs.CoveredKinds.{IsCode, IsCovered, AreCoveredFields, IsCoveredThing, element_named_so, names_covered}
use Rattle.trace_text.proofs.ElementCodes.{contained}
use Rattle.trace_text.proofs.ElementNames.{element_named}
use Rattle.trace_text.proofs.NarrowKinds.{IsNarrow, AreNarrowFields, IsNarrowThing, names_narrow, short_number}
use Rattle.trace_text.proofs.NumberFronts.{number_ends}
use Rattle.trace_text.proofs.TextFronts.{plain_stands, quoted_stands}
use Rattle.trace_text.proofs.ValueFronts.{truth_cases}

-- ---- words

-- a name that can be printed is a word
name_word : (n : Text) → IsNameText n → Ends (name_text n) []
name_word n h = by_test (is_plain_name n) (λ plain. (plain_stands n [] plain tt).ends) (λ other. in_quotes other h)
  where
    in_quotes : is_plain_name n ≡ false → IsNameText n → Ends (name_text n) []
    in_quotes other (inl plain) = absurd (false≢true (sym other ∙ plain))
    in_quotes other (inr q) = (quoted_stands n [] other q.0 q.1).ends

truth_word : (all : Names) (x : ℤ) → (x ≡ pos 0) ⊎ (x ≡ pos 1) → Ends (value_text all truth x) []
truth_word all x (inl is) = subst (λ (y : ℤ). Ends (value_text all truth y) []) (sym is) tt
truth_word all x (inr is) = subst (λ (y : ℤ). Ends (value_text all truth y) []) (sym is) tt

-- ---- cells

-- each value of a cell is a word, and no longer than it can be read
abbrev IsReadableCell : Names → Cell → Type 0
IsReadableCell all c = (x : ℤ) → IsOf c.kind (x ∷ []) → Ends (value_text all c.kind x) [] × IsShortIn c.kind x

all_flat : {A B : Type 0} (P : B → Type 0) (f : A → List B) → ((x : A) → AllByRecursion P (f x)) → (xs : List A) → AllByRecursion P (flat_map f xs)
all_flat P f each [] = tt
all_flat P f each (x ∷ xs) = all_append P (f x) (flat_map f xs) (each x) (all_flat P f each xs)

module _ (m : HllModel) (has : HasText m) (well : Well m) where
  whole_readable : (e : Bounds) (x : ℤ) → is_wide e ≡ false → is_in e x ≡ true → Ends (signed_decimal x) [] × IsShort x
  whole_readable e x narrow within =
      let short = short_number e x narrow within in
      ((number_ends x [] short).1 tt, short)

  element_readable : (root : List ℕ) (x : ℤ) → IsCode (names m) root x → Ends (name_text (element_name (names m) root x)) []
  element_readable root x h =
      let e = h.2.0 in
      let name : element_name (names m) root x ≡ e = ap (element_name (names m) root) h.1 ∙ element_named m well root h.0 e h.2.1 in
      subst (λ (n : Text). Ends (name_text n) []) (sym name) (name_word e (element_named_so m has root h.0 e h.2.1))

  mutual
    cells_readable : (name : Text) (k : Kind) → IsNarrow k → IsCovered (names m) k → AllByRecursion (IsReadableCell (names m)) (named_cells name k)
    cells_readable name truth narrow covered = (λ x h. (truth_word (names m) x (truth_cases x h), tt), tt)
    cells_readable name (whole e) narrow covered = (λ x h. whole_readable e x narrow h.0, tt)
    cells_readable name (element root e) narrow covered = (λ x h. (element_readable root x (covered x h.0), tt), tt)
    cells_readable name (array size k) narrow covered =
        all_flat (IsReadableCell (names m)) (λ (i : ℕ). named_cells (name ++ codes "[" ++ decimal i ++ codes "]") k) (λ i. cells_readable (name ++ codes "[" ++ decimal i ++ codes "]") k narrow covered) (range_with_len 0 size)
    cells_readable name (struct s fields) narrow covered = fields_readable name fields narrow covered

    fields_readable : (name : Text) (fields : Fields) → AreNarrowFields fields → AreCoveredFields (names m) fields → AllByRecursion (IsReadableCell (names m)) (field_cells name fields)
    fields_readable name none narrow covered = tt
    fields_readable name (field f k fields) narrow covered =
        all_append (IsReadableCell (names m)) (named_cells (name ++ codes "." ++ name_text f) k) (field_cells name fields)
        (cells_readable (name ++ codes "." ++ name_text f) k narrow.0 covered.0) (fields_readable name fields narrow.1 covered.1)

  -- the cells of inputs
  inputs_readable : (xs : Names) → AllByRecursion (λ x. IsNarrowThing x.1) xs → AllByRecursion (λ x. IsCoveredThing (names m) x.1) xs →
      AllByRecursion (IsReadableCell (names m)) (cells_of_all (flat_map (λ x. flat_map (λ k. (x.0, k) ∷ []) (input_kind x.1)) xs))
  inputs_readable [] narrow covered = tt
  inputs_readable ((n, constant b x) ∷ xs) narrow covered = inputs_readable xs narrow.1 covered.1
  inputs_readable ((n, type_of k) ∷ xs) narrow covered = inputs_readable xs narrow.1 covered.1
  inputs_readable ((n, code_in root c) ∷ xs) narrow covered = inputs_readable xs narrow.1 covered.1
  inputs_readable ((n, variable true k) ∷ xs) narrow covered =
      all_append (IsReadableCell (names m)) (named_cells (name_text n) k) (cells_of_all (flat_map (λ x. flat_map (λ k. (x.0, k) ∷ []) (input_kind x.1)) xs))
      (cells_readable (name_text n) k narrow.0 covered.0) (inputs_readable xs narrow.1 covered.1)
  inputs_readable ((n, variable false k) ∷ xs) narrow covered = inputs_readable xs narrow.1 covered.1
  inputs_readable ((n, later) ∷ xs) narrow covered = inputs_readable xs narrow.1 covered.1

  pub readable : IsReadable m
  readable =
      let all = inputs_readable (names m) (names_narrow m well) (names_covered m has well) in
      record {
        words = λ c x there h. (contained (IsReadableCell (names m)) (input_cells m) c all there x h).0;
        short = λ c x there h. (contained (IsReadableCell (names m)) (input_cells m) c all there x h).1;
      }
