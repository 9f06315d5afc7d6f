-- The cells of types, part by part.
use Rattle.std.proofs.Common.{◌≡◌, ℕ, zero, suc, ◌+◌, List, [], ◌∷◌, ◌++◌, sym, ap, ◌∙◌, arith, append_assoc, zero-add}
use Rattle.std.specs.Prelude.{codes, decimal}
use Rattle.std.specs.List.{flat_map, range_with_len}
use Rattle.std.proofs.lemmas.List.{append-nil}
use Rattle.std.proofs.lemmas.Grind.{flat_map-append}
use Rattle.hll_tree.specs.Printing.{Text, name_text}
use Rattle.hll_meaning.specs.declared.ty.FieldTy.{FieldTy}
use Rattle.hll_meaning.specs.Kinds.{Kind, array}
use Rattle.hll_meaning.specs.Types.{kind_of}
use Rattle.hll_meaning.specs.Cells.{named_cells, field_cells}
use Rattle.cell_columns.specs.Columns.{fields_kinds}

-- ---- parts

range_more : (a n : ℕ) → range_with_len a (n + 1) ≡ range_with_len a n ++ (a + n) ∷ []
range_more a zero = let same : a ≡ a + 0 = omega arith in ap (λ (b : ℕ). b ∷ []) same
range_more a (suc n) =
    let same : a + 1 + n ≡ a + suc n = omega arith in
    let next : suc n + 1 ≡ suc (n + 1) = omega arith in
    ap (range_with_len a) next ∙ ap (λ (xs : List ℕ). a ∷ xs) (range_more (a + 1) n ∙ ap (λ (b : ℕ). range_with_len (a + 1) n ++ b ∷ []) same)

-- the cells of one element more
pub elements_more : (name : Text) (k : Kind) (i : ℕ) → named_cells name (array (i + 1) k) ≡ named_cells name (array i k) ++ named_cells (name ++ codes "[" ++ decimal i ++ codes "]") k
elements_more name k i =
    let one = λ (j : ℕ). named_cells (name ++ codes "[" ++ decimal j ++ codes "]") k in
    ap (flat_map one) (range_more 0 i ∙ ap (λ (j : ℕ). range_with_len 0 i ++ j ∷ []) (zero-add i))
    ∙ flat_map-append one (range_with_len 0 i) (i ∷ [])
    ∙ ap (λ cs. named_cells name (array i k) ++ cs) (append-nil (one i))

-- the cells of one field more
pub fields_more : (name : Text) (fields : List FieldTy) (f : FieldTy) →
    field_cells name (fields_kinds (fields ++ f ∷ [])) ≡ field_cells name (fields_kinds fields) ++ named_cells (name ++ codes "." ++ name_text f.name) (kind_of f.ty)
fields_more name [] f = append-nil (named_cells (name ++ codes "." ++ name_text f.name) (kind_of f.ty))
fields_more name (e ∷ fields) f =
    let own = named_cells (name ++ codes "." ++ name_text e.name) (kind_of e.ty) in
    ap (λ cs. own ++ cs) (fields_more name fields f)
    ∙ sym (append_assoc own (field_cells name (fields_kinds fields)) (named_cells (name ++ codes "." ++ name_text f.name) (kind_of f.ty)))

-- ---- one behind the other

pub appended_more : {A : Type 0} (old mid new front more all : List A) → mid ≡ old ++ front → new ≡ mid ++ more → all ≡ front ++ more → new ≡ old ++ all
appended_more old mid new front more all p q r = q ∙ ap (λ xs. xs ++ more) p ∙ append_assoc old front more ∙ ap (λ xs. old ++ xs) (sym r)
