-- Every model that fine tokens spell can be printed.
use Rattle.std.proofs.Common.{◌≡◌, ℕ, suc, ℤ, List, [], ◌∷◌, Option, Some, None, refl, sym, ap, subst}
use Rattle.std.specs.List.{AllByRecursion}
use Rattle.hll_lexer.specs.Names.{named_bytes}
use Rattle.hll_lexer.specs.declared.token.Reserved.{Reserved}
use Rattle.hll_lexer.specs.declared.token.Reserved.TheVariants as reserved
use Rattle.hll_lexer.specs.declared.token.Token.{Token}
use Rattle.hll_lexer.specs.declared.token.TokenKind.{TokenKind}
use Rattle.hll_lexer.specs.declared.token.TokenKind.TheVariants as kind
use Rattle.hll_tree.specs.declared.tree.Expr.{Expr}
use Rattle.hll_tree.specs.declared.tree.Form.{Number}
use Rattle.hll_tree.specs.declared.tree.Part.{Part}
use Rattle.hll_tree.specs.declared.tree.Part.TheVariants as part
use Rattle.hll_tree.specs.declared.tree.Section.{Section}
use Rattle.hll_tree.specs.declared.tree.Section.TheVariants as section
use Rattle.hll_tree.specs.declared.tree.Slot.{Slot}
use Rattle.hll_tree.specs.declared.tree.Slot.TheVariants as slot
use Rattle.hll_tree.specs.declared.tree.TypeItem.TheVariants as item
use Rattle.hll_tree.specs.declared.tree.TypeText.TheVariants as ty
use Rattle.hll_tree.specs.Printing.{Text}
use Rattle.hll_tree.specs.Spells.{Spelling, Scope, dims_of, expression_at, named, IsDigits, IsIntegers, IsType, AreDims, IsDeclarator, IsDecl, IsConstant, AreElements, IsMember, IsSort, IsTypeItem, IsSlot, IsLeftSide, part_of, IsPlainDefinition, IsMemoryDefinition, IsDefinition, IsSectionOf, IsSection, IsModel}
use Rattle.hll_tree.proofs.LaidLevels.{IsBare, Fit}
use Rattle.hll_tree.proofs.LaidForms.{AllFit}
use Rattle.hll_tree.proofs.Gives.{Fine, FineAs, Gives, OnSome, Several, gives_one, gives_then, gives_made, gives_either, gives_behind, gives_before, gives_perhaps, gives_many, gives_listed, all_of_some}
use Rattle.hll_tree.proofs.GivenExpressions.{IsNamed, Knows, gives_name, gives_any, gives_bounds, gives_expression}
use Rattle.hll_tree.proofs.LaidItems.{FitSize, FitType, FitDeclarator, FitDecl, FitConstant, FitField, FitTypeItem, FitSlot, FitSlots, FitPart, FitDef, FitSection}

dims_fit : (n : ℕ) (o : Option (List Expr)) → OnSome (Several (Fit 0 n)) o → AllFit n (dims_of o)
dims_fit n None h = tt
dims_fit n (Some es) h = all_of_some (Fit 0 n) es h

slots_fit : (o : Option (List Slot)) → OnSome (Several FitSlot) o → FitSlots (dims_of o)
slots_fit None h = tt
slots_fit (Some []) h = absurd h
slots_fit (Some (s ∷ ss)) h = h

part_fits : (n : ℕ) (x : Expr × Option Expr) → Fit 0 (suc n) x.0 × OnSome (Fit 0 (suc n)) x.1 → FitPart n (part_of x)
part_fits n (e, None) r = r.0
part_fits n (e, Some f) r = r

number_bare : (src : Text) (t : Token) (m : ℤ) → t.kind ≡ kind.Number m → Fine src t → IsBare (expression_at t (Number m))
number_bare src t m is f =
    let g : FineAs (kind.Number m) (named_bytes src t) = subst (λ (j : TokenKind). FineAs j (named_bytes src t)) is f in
    IsBare.bare_number g.0 g.2 (ap (λ z. Number z) g.1)

module _ (src : Text) (n : ℕ) (s : Scope) (k : Knows src n s) where
  gives_digits : Gives src (IsDigits s) (FitSize n)
  gives_digits =
      gives_either src (gives_one src (λ t x. (m : ℤ) × (t.kind ≡ kind.Number m) × (x ≡ expression_at t (Number m)))
      (λ t x f r. subst (FitSize n) (sym r.2) (FitSize.size_bare (number_bare src t r.0 r.1 f))))
      (gives_either src (gives_made src _ named (λ m r. FitSize.size_bare (IsBare.bare_name m r refl)) (gives_name src s k.text))
      (gives_behind src _ (gives_before src _ (λ ts x h is. FitSize.size_any (k.expression ts x h is)))))

  gives_integers : Gives src (IsIntegers s) (FitType n)
  gives_integers =
      gives_either src (gives_made src _ (λ x. ty.Bounds x.0 x.1) (λ x r. r) (gives_bounds src n s k))
      (gives_either src (gives_made src _ ty.Signed (λ e r. r) (gives_behind src _ gives_digits)) (gives_made src _ ty.Unsigned (λ e r. r) (gives_behind src _ gives_digits)))

  gives_type : Gives src (IsType s) (FitType n)
  gives_type =
      gives_either src (gives_made src _ (λ t. ty.Bool) (λ t r. tt) (gives_any src _))
      (gives_either src (gives_made src _ ty.Named (λ m r. r) (gives_name src s k.text)) (gives_behind src _ gives_integers))

  gives_dims : Gives src (AreDims s) (AllFit n)
  gives_dims = gives_made src _ dims_of (dims_fit n) (gives_perhaps src (gives_behind src _ (gives_before src _ (gives_listed src k.expression))))

  gives_declarator : Gives src (IsDeclarator s) (FitDeclarator n)
  gives_declarator = gives_made src _ (λ x. record { name = x.0; dims = x.1 }) (λ x r. (r.0, r.1)) (gives_then src (gives_name src s k.text) gives_dims)

  gives_decl : Gives src (IsDecl s) (FitDecl n)
  gives_decl = gives_made src _ (λ x. record { ty = x.0; names = x.1 }) (λ x r. (r.0, r.1)) (gives_then src gives_type (gives_listed src gives_declarator))

  gives_constant : Gives src (IsConstant s) (FitConstant n)
  gives_constant = gives_made src _ (λ x. record { boolean = x.0; name = x.1.0; value = x.1.1 }) (λ x r. (r.1.0, r.1.1))
      (gives_then {C = λ b. Unit {0}} src (λ ts x h is. tt) (gives_then src (gives_name src s k.text) (gives_behind src _ (gives_expression src n s k))))

  gives_elements : Gives src (AreElements s) (Several IsNamed)
  gives_elements = gives_behind src _ (gives_before src _ (gives_listed src (gives_name src s k.text)))

  gives_member : Gives src (IsMember s) (FitField n)
  gives_member = gives_made src _ (λ x. record { ty = x.1.0; of = record { name = x.0; dims = x.1.1 } }) (λ x r. (r.0, (r.1.0, r.1.1)))
      (gives_then src (gives_name src s k.text) (gives_behind src _ (gives_then src gives_type gives_dims)))

  gives_sort : Gives src (IsSort s) (FitTypeItem n)
  gives_sort =
      gives_either src (gives_made src _ (λ x. item.Leaves x.0 x.1) (λ x r. r) (gives_then src gives_elements (gives_name src s k.text)))
      (gives_made src _ (λ x. item.Children x.0 x.1) (λ x r. r) (gives_then src (gives_listed src (gives_name src s k.text)) (gives_behind src _ (gives_name src s k.text))))

  gives_type_item : Gives src (IsTypeItem s) (FitTypeItem n)
  gives_type_item =
      gives_either src (gives_made src _ (λ x. item.Alias x.0 x.1) (λ x r. r) (gives_then src gives_type gives_declarator))
      (gives_either src (gives_made src _ (λ x. item.Enumeration x.0 x.1) (λ x r. r) (gives_behind src _ (gives_then src gives_elements (gives_name src s k.text))))
      (gives_either src (gives_made src _ (λ x. item.Structure x.0 x.1) (λ x r. r) (gives_behind src _ (gives_then src (gives_behind src _ (gives_before src _ (gives_listed src gives_member))) (gives_name src s k.text))))
      (gives_behind src _ gives_sort)))

  slot_fine : (t : Token) (m : ℤ) → t.kind ≡ kind.Number m → Fine src t → FitSlot (slot.Fixed t.from m)
  slot_fine t m is f = subst (λ (j : TokenKind). FineAs j (named_bytes src t)) is f

  gives_slot : Gives src (IsSlot s) FitSlot
  gives_slot =
      gives_either src (gives_made src _ slot.Index (λ m r. r) (gives_name src s k.text))
      (gives_one src (λ t x. (m : ℤ) × (t.kind ≡ kind.Number m) × (x ≡ slot.Fixed t.from m)) (λ t x f r. subst FitSlot (sym r.2) (slot_fine t r.0 r.1 f)))

  gives_left : Gives src (IsLeftSide s) (λ x. IsNamed x.0 × FitSlots x.1)
  gives_left = gives_made src _ (λ x. (x.0, dims_of x.1)) (λ x r. (r.0, slots_fit x.1 r.1))
      (gives_then src (gives_name src s k.text) (gives_perhaps src (gives_behind src _ (gives_before src _ (gives_listed src gives_slot)))))

  gives_plain : Gives src (IsPlainDefinition s) (FitDef n)
  gives_plain = gives_made src _ (λ x. record { at = x.0.0.at; name = x.0.0; indices = x.0.1; part = x.1 }) (λ x r. ((r.0.0, r.0.1), r.1))
      (gives_then src gives_left (gives_behind src _ (gives_made src (FitPart n) part_of (part_fits n) (gives_then src (gives_expression src n s k) (gives_perhaps src (gives_behind src _ (gives_expression src n s k)))))))

  gives_memory : (w : Reserved) (made : Expr → Part) → ((e : Expr) → Fit 0 (suc n) e → FitPart n (made e)) → Gives src (IsMemoryDefinition s w made) (FitDef n)
  gives_memory w made so = gives_made src _ (λ x. record { at = x.0.from; name = x.1.0.0; indices = x.1.0.1; part = made x.1.1 }) (λ x r. ((r.1.0.0, r.1.0.1), so x.1.1 r.1.1))
      (gives_then src (gives_any src _) (gives_then src (gives_behind src _ (gives_before src _ gives_left)) (gives_behind src _ (gives_expression src n s k))))

  gives_definition : Gives src (IsDefinition s) (FitDef n)
  gives_definition = gives_either src gives_plain (gives_either src (gives_memory reserved.First part.First (λ e r. r)) (gives_memory reserved.Next part.Next (λ e r. r)))

  gives_section_of : {X : Type 0} {P : Spelling X} (w : Reserved) (made : List X → Section) (C : X → Type 0) → ((xs : List X) → AllByRecursion C xs → FitSection n (made xs)) → Gives src P C → Gives src (IsSectionOf w made P) (FitSection n)
  gives_section_of w made C so each = gives_behind src _ (gives_behind src _ (gives_made src (FitSection n) made so (gives_many src (gives_before src _ each))))

  gives_section : Gives src (IsSection s) (FitSection n)
  gives_section =
      gives_either src (gives_section_of reserved.Constants section.Constants (FitConstant n) (λ xs r. r) gives_constant)
      (gives_either src (gives_section_of reserved.Types section.Types (FitTypeItem n) (λ xs r. r) gives_type_item)
      (gives_either src (gives_section_of reserved.Inputs section.Inputs (FitDecl n) (λ xs r. r) gives_decl)
      (gives_either src (gives_section_of reserved.Declarations section.Declarations (FitDecl n) (λ xs r. r) gives_decl)
      (gives_either src (gives_section_of reserved.Definitions section.Definitions (FitDef n) (λ xs r. r) gives_definition)
      (gives_either src (gives_section_of reserved.Constraints section.Constraints (Fit 0 (suc n)) (λ xs r. r) (gives_expression src n s k))
      (gives_behind src _ (gives_section_of reserved.Obligations section.Obligations (Fit 0 (suc n)) (λ xs r. r) (gives_expression src n s k))))))))

  pub gives_model : Gives src (IsModel s) (λ m. AllByRecursion (FitSection n) m.sections)
  gives_model = gives_made src (λ m. AllByRecursion (FitSection n) m.sections) (λ x. record { sections = x }) (λ x r. r) (gives_many src gives_section)
