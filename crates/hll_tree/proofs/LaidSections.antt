-- Constants, declared types, definitions and sections are spelled as they are printed.
use Rattle.std.proofs.Common.{◌≡◌, ℕ, suc, ℤ, ◌≤◌, Bool, true, false, List, [], ◌∷◌, ◌++◌, map, Option, Some, None, refl, sym, ap, subst, ◌∙◌, codes, pos, append_assoc, append-nil}
use Rattle.std.specs.Prelude.{if◌then◌else◌, decimal}
use Rattle.std.specs.List.{flat_map, AllByRecursion}
use Rattle.hll_lexer.specs.Pieces.{Stops, greatest}
use Rattle.hll_lexer.specs.Words.{continues_word}
use Rattle.hll_lexer.specs.declared.token.Mark.TheVariants as mark
use Rattle.hll_lexer.specs.declared.token.Reserved.{Reserved}
use Rattle.hll_lexer.specs.declared.token.Reserved.TheVariants as reserved
use Rattle.hll_lexer.specs.declared.token.TokenKind.TheVariants as kind
use Rattle.hll_tree.specs.declared.tree.ConstItem.{ConstItem}
use Rattle.hll_tree.specs.declared.tree.Def.{Def}
use Rattle.hll_tree.specs.declared.tree.Expr.{Expr}
use Rattle.hll_tree.specs.declared.tree.Field.{Field}
use Rattle.hll_tree.specs.declared.tree.HllModel.{HllModel}
use Rattle.hll_tree.specs.declared.tree.Name.{Name}
use Rattle.hll_tree.specs.declared.tree.Part.{Part}
use Rattle.hll_tree.specs.declared.tree.Part.TheVariants as part
use Rattle.hll_tree.specs.declared.tree.Section.{Section}
use Rattle.hll_tree.specs.declared.tree.Section.TheVariants as section
use Rattle.hll_tree.specs.declared.tree.Slot.{Slot}
use Rattle.hll_tree.specs.declared.tree.Slot.TheVariants as slot
use Rattle.hll_tree.specs.declared.tree.TypeItem.{TypeItem}
use Rattle.hll_tree.specs.declared.tree.TypeItem.TheVariants as item
use Rattle.hll_tree.specs.Printing.{Text, joined, name_text, names_text, expression_text, dims_text, type_text, declarator_text, decl_text, constant_text, field_text, type_item_text, slot_text, slots_text, left_side_text, part_text, definition_text, items_text, section_text, model_text}
use Rattle.hll_tree.specs.Spells.{Spelling, Scope, Then, Made, Perhaps, Many, Marked, Worded, Behind, Before, Listed, dims_of, IsName, IsExpression, IsConstantKind, IsConstant, IsMember, IsTypeItem, IsSlot, IsLeftSide, part_of, IsMemoryDefinition, IsDefinition, IsSection, IsModel}
use Rattle.hll_tree.specs.WithoutPlaces.{name_without, expression_without, decl_without, constant_without, field_without, type_item_without, slot_without, part_without, definition_without, section_without, model_without}
use Rattle.hll_tree.proofs.Laid.{InText, Laid, Any, never, never_stops, laid_then, laid_made, laid_behind, laid_before, laid_weaker, laid_narrower, laid_left, laid_right, laid_as, laid_none, laid_some, laid_nil, laid_cons, laid_blank}
use Rattle.hll_tree.proofs.LaidTokens.{token_there, laid_word, laid_word_and, laid_mark, laid_spaced, laid_number, open_closed, close_closed, open_bracket_closed, close_bracket_closed, open_brace_closed, close_brace_closed}
use Rattle.hll_tree.proofs.LaidLevels.{inside, Same, Fit}
use Rattle.hll_tree.proofs.Gives.{Several}
use Rattle.hll_tree.proofs.GivenExpressions.{IsNamed}
use Rattle.hll_tree.proofs.LaidItems.{several_laid, section_laid, FitConstant, FitField, FitTypeItem, FitDecl, FitSlot, FitSlots, FitPart, FitDef, FitSection, name_laid, expression_laid, dims_laid, dims_end, type_laid, declarator_laid, decl_laid}

-- the name of a thing
abbrev text_of_name : Name → Text
text_of_name m = name_text m.text

-- braces and a blank, in other pieces
braced_is : (inner name : Text) → codes "{" ++ (inner ++ codes "}") ++ (codes " " ++ name) ≡ codes "{" ++ inner ++ codes "} " ++ name
braced_is inner name = ap (λ (t : Text). codes "{" ++ t) (append_assoc inner (codes "}") (codes " " ++ name) ∙ sym (append_assoc inner (codes "} ") name))

module _ (n room : ℕ) (less : n ≤ room) where
  abbrev There : Text → Scope
  There w = inside (suc room) 0 w

  -- ---- constants

  kind_laid : (boolean : Bool) → Laid never (if boolean then codes "bool " else codes "int ") (λ w. IsConstantKind) (λ y. y ≡ boolean)
  kind_laid true = laid_left never (codes "bool ") (laid_made {S = λ y. y ≡ true} never (codes "bool ") (λ t. true) (λ t r. refl) (laid_word_and reserved.Bool))
  kind_laid false = laid_right never (codes "int ") (laid_made {S = λ y. y ≡ false} never (codes "int ") (λ t. false) (λ t r. refl) (laid_word_and reserved.Int))

  -- `:=` and an expression
  assigned : (e : Expr) → Fit 0 (suc n) e → Laid continues_word (codes " := " ++ expression_text e) (λ w. Behind (Marked mark.Assign) (IsExpression (There w))) (Same e)
  assigned e f = laid_behind never continues_word (codes " := ") (expression_text e) (laid_blank never 32 (codes ":= ") refl (laid_spaced mark.Assign)) (expression_laid n room less e f) (λ rest _. never_stops (expression_text e ++ rest))

  constant_laid : (c : ConstItem) → FitConstant n c → Laid continues_word (constant_text c) (λ w. IsConstant (There w)) (λ y. constant_without y ≡ constant_without c)
  constant_laid c f =
      let word : Text = if c.boolean then codes "bool " else codes "int " in
      let name : Text = name_text c.name.text in
      let value : Text = codes " := " ++ expression_text c.value in
      let t : Text = word ++ (name ++ value) in
      let same : t ≡ constant_text c = simp append_assoc in
      laid_as continues_word t (constant_text c) same
      (laid_made {S = λ (y : ConstItem). constant_without y ≡ constant_without c} continues_word t (λ x. record { boolean = x.0; name = x.1.0; value = x.1.1 })
      (λ y r. λ i. record { boolean = r.0 i; name = r.1.0 i; value = r.1.1 i })
      (laid_then never continues_word word (name ++ value) (kind_laid c.boolean)
      (laid_then continues_word continues_word name value (name_laid n room less c.name f.0) (assigned c.value f.1) (λ rest _. refl))
      (λ rest _. never_stops (name ++ value ++ rest))))

  -- ---- declared types

  field_laid : (f : Field) → FitField n f → Laid continues_word (field_text f) (λ w. IsMember (There w)) (λ y. field_without y ≡ field_without f)
  field_laid f h =
      let name : Text = name_text f.of.name.text in
      let back : Text = type_text f.ty ++ dims_text f.of.dims in
      let t : Text = name ++ (codes ": " ++ back) in
      let same : t ≡ field_text f = simp append_assoc in
      laid_as continues_word t (field_text f) same
      (laid_made {S = λ (y : Field). field_without y ≡ field_without f} continues_word t (λ x. record { ty = x.1.0; of = record { name = x.0; dims = x.1.1 } })
      (λ y r. λ i. record { ty = r.1.0 i; of = record { name = r.0 i; dims = r.1.1 i } })
      (laid_then continues_word continues_word name (codes ": " ++ back) (name_laid n room less f.of.name h.0)
      (laid_behind never continues_word (codes ": ") back (laid_spaced mark.Colon)
      (laid_then continues_word continues_word (type_text f.ty) (dims_text f.of.dims) (type_laid n room less f.ty h.1.0) (dims_laid n room less f.of.dims h.1.1) (dims_end n room less f.of.dims))
      (λ rest _. never_stops (back ++ rest)))
      (λ rest _. refl)))

  -- things in braces, and a name behind them
  braced : {X : Type 0} {P : InText (List X)} {R : List X → Type 0} (inner : Text) (m : Name) → IsNamed m → Laid continues_word inner P R →
      Laid continues_word (codes "{" ++ (inner ++ codes "}") ++ (codes " " ++ name_text m.text)) (λ w. Then (Behind (Marked mark.OpenBrace) (Before (P w) (Marked mark.CloseBrace))) (IsName (There w))) (λ y. R y.0 × (name_without y.1 ≡ name_without m))
  braced inner m named a =
      laid_then never continues_word (codes "{" ++ (inner ++ codes "}")) (codes " " ++ name_text m.text)
      (laid_behind never never (codes "{") (inner ++ codes "}") (laid_mark mark.OpenBrace open_brace_closed)
      (laid_before continues_word never inner (codes "}") a (laid_mark mark.CloseBrace close_brace_closed) (λ rest _. refl)) (λ rest _. never_stops (inner ++ codes "}" ++ rest)))
      (laid_blank continues_word 32 (name_text m.text) refl (name_laid n room less m named)) (λ rest _. never_stops (codes " " ++ name_text m.text ++ rest))

  names_laid : (names : List Name) → Several IsNamed names → Laid continues_word (names_text names) (λ w. Listed (IsName (There w))) (λ ys. map name_without ys ≡ map name_without names)
  names_laid names all = several_laid text_of_name name_without IsNamed (name_laid n room less) names all

  -- where things in braces stand as they are printed
  abbrev braced_text : Text → Text → Name → Text
  braced_text word inner m = word ++ inner ++ codes "} " ++ name_text m.text

  type_item_laid : (t : TypeItem) → FitTypeItem n t → Laid continues_word (type_item_text t) (λ w. IsTypeItem (There w)) (λ y. type_item_without y ≡ type_item_without t)
  type_item_laid (item.Alias t d) f =
      let u : Text = type_text t ++ (codes " " ++ declarator_text d) in
      laid_as continues_word u (type_item_text (item.Alias t d)) (sym (append_assoc (type_text t) (codes " ") (declarator_text d)))
      (laid_left continues_word u (laid_made {S = λ (y : TypeItem). type_item_without y ≡ type_item_without (item.Alias t d)} continues_word u (λ x. item.Alias x.0 x.1)
      (λ y r. λ i. item.Alias (r.0 i) (r.1 i))
      (laid_then continues_word continues_word (type_text t) (codes " " ++ declarator_text d) (type_laid n room less t f.0) (laid_blank continues_word 32 (declarator_text d) refl (declarator_laid n room less d f.1)) (λ rest _. refl))))
  type_item_laid (item.Enumeration names m) f =
      let back : Text = codes "{" ++ (names_text names ++ codes "}") ++ (codes " " ++ name_text m.text) in
      let u : Text = codes "enum " ++ back in
      let same : u ≡ braced_text (codes "enum {") (names_text names) m = ap (λ (t : Text). codes "enum " ++ t) (braced_is (names_text names) (name_text m.text)) in
      laid_as continues_word u (type_item_text (item.Enumeration names m)) same
      (laid_right continues_word u (laid_left continues_word u (laid_made {S = λ (y : TypeItem). type_item_without y ≡ type_item_without (item.Enumeration names m)} continues_word u (λ x. item.Enumeration x.0 x.1)
      (λ y r. λ i. item.Enumeration (r.0 i) (r.1 i))
      (laid_behind never continues_word (codes "enum ") back (laid_word_and reserved.Enum) (braced (names_text names) m f.1 (names_laid names f.0)) (λ rest _. never_stops (back ++ rest))))))
  type_item_laid (item.Structure fields m) f =
      let inner : Text = joined (codes ", ") (map field_text fields) in
      let back : Text = codes "{" ++ (inner ++ codes "}") ++ (codes " " ++ name_text m.text) in
      let u : Text = codes "struct " ++ back in
      let same : u ≡ braced_text (codes "struct {") inner m = ap (λ (t : Text). codes "struct " ++ t) (braced_is inner (name_text m.text)) in
      laid_as continues_word u (type_item_text (item.Structure fields m)) same
      (laid_right continues_word u (laid_right continues_word u (laid_left continues_word u (laid_made {S = λ (y : TypeItem). type_item_without y ≡ type_item_without (item.Structure fields m)} continues_word u (λ x. item.Structure x.0 x.1)
      (λ y r. λ i. item.Structure (r.0 i) (r.1 i))
      (laid_behind never continues_word (codes "struct ") back (laid_word_and reserved.Struct) (braced inner m f.1 (several_laid field_text field_without (FitField n) field_laid fields f.0)) (λ rest _. never_stops (back ++ rest)))))))
  type_item_laid (item.Leaves names m) f =
      let back : Text = codes "{" ++ (names_text names ++ codes "}") ++ (codes " " ++ name_text m.text) in
      let u : Text = codes "sort " ++ back in
      let same : u ≡ braced_text (codes "sort {") (names_text names) m = ap (λ (t : Text). codes "sort " ++ t) (braced_is (names_text names) (name_text m.text)) in
      laid_as continues_word u (type_item_text (item.Leaves names m)) same
      (laid_right continues_word u (laid_right continues_word u (laid_right continues_word u (laid_behind never continues_word (codes "sort ") back (laid_word_and reserved.Sort)
      (laid_left continues_word back (laid_made {S = λ (y : TypeItem). type_item_without y ≡ type_item_without (item.Leaves names m)} continues_word back (λ x. item.Leaves x.0 x.1)
      (λ y r. λ i. item.Leaves (r.0 i) (r.1 i)) (braced (names_text names) m f.1 (names_laid names f.0)))) (λ rest _. never_stops (back ++ rest))))))
  type_item_laid (item.Children names m) f =
      let back : Text = names_text names ++ (codes " < " ++ name_text m.text) in
      let u : Text = codes "sort " ++ back in
      let same : u ≡ type_item_text (item.Children names m) = ap (λ (t : Text). codes "sort " ++ t) (sym (append_assoc (names_text names) (codes " < ") (name_text m.text))) in
      laid_as continues_word u (type_item_text (item.Children names m)) same
      (laid_right continues_word u (laid_right continues_word u (laid_right continues_word u (laid_behind never continues_word (codes "sort ") back (laid_word_and reserved.Sort)
      (laid_right continues_word back (laid_made {S = λ (y : TypeItem). type_item_without y ≡ type_item_without (item.Children names m)} continues_word back (λ x. item.Children x.0 x.1)
      (λ y r. λ i. item.Children (r.0 i) (r.1 i))
      (laid_then continues_word continues_word (names_text names) (codes " < " ++ name_text m.text) (names_laid names f.0)
      (laid_behind never continues_word (codes " < ") (name_text m.text) (laid_blank never 32 (codes "< ") refl (laid_spaced mark.Less)) (name_laid n room less m f.1) (λ rest _. never_stops (name_text m.text ++ rest)))
      (λ rest _. refl)))) (λ rest _. never_stops (back ++ rest))))))

  -- ---- definitions

  fixed_laid : (at k : ℕ) → k ≤ greatest → Laid continues_word (decimal k) (λ w. IsSlot (There w)) (λ y. slot_without y ≡ slot.Fixed 0 (pos k))
  fixed_laid at k small =
      laid_right continues_word (decimal k)
      (laid_number k small (λ w t x. (m : ℤ) × (t.kind ≡ kind.Number m) × (x ≡ slot.Fixed t.from m)) (λ y. slot_without y ≡ slot.Fixed 0 (pos k))
      (λ front rest. (slot.Fixed (token_there (kind.Number (pos k)) front (decimal k)).from (pos k), (pos k, refl, refl), refl)))

  slot_laid : (s : Slot) → FitSlot s → Laid continues_word (slot_text s) (λ w. IsSlot (There w)) (λ y. slot_without y ≡ slot_without s)
  slot_laid (slot.Index m) f =
      laid_left continues_word (name_text m.text) (laid_made {S = λ (y : Slot). slot_without y ≡ slot_without (slot.Index m)} continues_word (name_text m.text) slot.Index (λ y r. ap (λ z. slot.Index z) r) (name_laid n room less m f))
  slot_laid (slot.Fixed at value) f =
      subst (λ (v : ℤ). Laid continues_word (slot_text (slot.Fixed at v)) (λ w. IsSlot (There w)) (λ y. slot_without y ≡ slot_without (slot.Fixed at v))) (sym f.1) (fixed_laid at f.0 f.2)

  abbrev AreSlots : Scope → Spelling (Option (List Slot))
  AreSlots s = Perhaps (Behind (Marked mark.OpenBracket) (Before (Listed (IsSlot s)) (Marked mark.CloseBracket)))

  slots_laid : (ss : List Slot) → FitSlots ss → Laid continues_word (slots_text ss) (λ w. AreSlots (There w)) (λ y. map slot_without (dims_of y) ≡ map slot_without ss)
  slots_laid [] f = laid_narrower never continues_word [] (λ rest _. never_stops rest) (laid_none {R = λ y. map slot_without (dims_of y) ≡ []} refl)
  slots_laid (s ∷ ss) f =
      let inner : Text = joined (codes ", ") (map slot_text (s ∷ ss)) in
      let t : Text = codes "[" ++ (inner ++ codes "]") in
      laid_narrower never continues_word t (λ rest _. never_stops rest)
      (laid_some {S = λ y. map slot_without (dims_of y) ≡ map slot_without (s ∷ ss)} never t (λ ys r. r)
      (laid_behind never never (codes "[") (inner ++ codes "]") (laid_mark mark.OpenBracket open_bracket_closed)
      (laid_before continues_word never inner (codes "]") (several_laid slot_text slot_without FitSlot slot_laid (s ∷ ss) f) (laid_mark mark.CloseBracket close_bracket_closed) (λ rest _. refl))
      (λ rest _. never_stops (inner ++ codes "]" ++ rest))))

  slots_end : (ss : List Slot) (rest : Text) → Stops continues_word rest → Stops continues_word (slots_text ss ++ rest)
  slots_end [] rest h = h
  slots_end (s ∷ ss) rest h = refl

  left_laid : (d : Def) → IsNamed d.name → FitSlots d.indices → Laid continues_word (left_side_text d) (λ w. IsLeftSide (There w)) (λ y. (name_without y.0 ≡ name_without d.name) × (map slot_without y.1 ≡ map slot_without d.indices))
  left_laid d named f =
      laid_made {S = λ (y : Name × List Slot). (name_without y.0 ≡ name_without d.name) × (map slot_without y.1 ≡ map slot_without d.indices)} continues_word (left_side_text d) (λ x. (x.0, dims_of x.1)) (λ y r. r)
      (laid_then continues_word continues_word (name_text d.name.text) (slots_text d.indices) (name_laid n room less d.name named) (slots_laid d.indices f) (slots_end d.indices))

  -- a value, and perhaps a next one
  value_laid : (e : Expr) → Fit 0 (suc n) e → Laid continues_word (expression_text e ++ []) (λ w. Made part_of (Then (IsExpression (There w)) (Perhaps (Behind (Marked mark.Comma) (IsExpression (There w)))))) (λ y. part_without y ≡ part_without (part.Value e))
  value_laid e f =
      laid_made {S = λ (y : Part). part_without y ≡ part_without (part.Value e)} continues_word (expression_text e ++ []) part_of one
      (laid_then continues_word continues_word (expression_text e) [] (expression_laid n room less e f) (laid_narrower never continues_word [] (λ rest _. never_stops rest) (laid_none {R = λ y. y ≡ None} refl)) (λ rest h. h))
    where
      one : (y : Expr × Option Expr) → Same e y.0 × (y.1 ≡ None) → part_without (part_of y) ≡ part_without (part.Value e)
      one (a, None) r = ap (λ z. part.Value z) r.0
      one (a, Some b) r = absurd cc

  -- a next value of some expression
  abbrev IsNext : Expr → Option Expr → Type 0
  IsNext f None = ⊥
  IsNext f (Some b) = Same f b

  both_laid : (e f : Expr) → Fit 0 (suc n) e → Fit 0 (suc n) f → Laid continues_word (expression_text e ++ (codes ", " ++ expression_text f)) (λ w. Made part_of (Then (IsExpression (There w)) (Perhaps (Behind (Marked mark.Comma) (IsExpression (There w))))))
      (λ y. part_without y ≡ part_without (part.Both e f))
  both_laid e f g h =
      laid_made {S = λ (y : Part). part_without y ≡ part_without (part.Both e f)} continues_word (expression_text e ++ (codes ", " ++ expression_text f)) part_of two
      (laid_then continues_word continues_word (expression_text e) (codes ", " ++ expression_text f) (expression_laid n room less e g)
      (laid_some {S = IsNext f} continues_word (codes ", " ++ expression_text f) (λ y r. r)
      (laid_behind never continues_word (codes ", ") (expression_text f) (laid_spaced mark.Comma) (expression_laid n room less f h) (λ rest _. never_stops (expression_text f ++ rest))))
      (λ rest _. refl))
    where
      two : (y : Expr × Option Expr) → Same e y.0 × IsNext f y.1 → part_without (part_of y) ≡ part_without (part.Both e f)
      two (a, None) r = absurd r.1
      two (a, Some b) r = ap (λ z. part.Both z (expression_without b)) r.0 ∙ ap (λ z. part.Both (expression_without e) z) r.1

  plain_laid : (d : Def) (t : Text) → IsNamed d.name → FitSlots d.indices →
      Laid continues_word t (λ w. Made part_of (Then (IsExpression (There w)) (Perhaps (Behind (Marked mark.Comma) (IsExpression (There w)))))) (λ y. part_without y ≡ part_without d.part) →
      Laid continues_word (left_side_text d ++ (codes " := " ++ t)) (λ w. IsDefinition (There w)) (λ y. definition_without y ≡ definition_without d)
  plain_laid d t named f a =
      let u : Text = left_side_text d ++ (codes " := " ++ t) in
      laid_left continues_word u (laid_made {S = λ (y : Def). definition_without y ≡ definition_without d} continues_word u (λ x. record { at = x.0.0.at; name = x.0.0; indices = x.0.1; part = x.1 })
      (λ y r. λ i. record { at = 0; name = r.0.0 i; indices = r.0.1 i; part = r.1 i })
      (laid_then continues_word continues_word (left_side_text d) (codes " := " ++ t) (left_laid d named f)
      (laid_behind never continues_word (codes " := ") t (laid_blank never 32 (codes ":= ") refl (laid_spaced mark.Assign)) a (λ rest _. never_stops (t ++ rest)))
      (λ rest _. refl)))

  memory_laid : (w : Reserved) (word : Text) (made : Expr → Part) (d : Def) (e : Expr) → Laid continues_word word (λ _. Worded w) Any → ((y : Expr) → Same e y → part_without (made y) ≡ part_without d.part) →
      IsNamed d.name → FitSlots d.indices → Fit 0 (suc n) e →
      Laid continues_word (word ++ (codes "(" ++ (left_side_text d ++ codes ")") ++ (codes " := " ++ expression_text e))) (λ t. IsMemoryDefinition (There t) w made) (λ y. definition_without y ≡ definition_without d)
  memory_laid w word made d e a same named f g =
      let left : Text = codes "(" ++ (left_side_text d ++ codes ")") in
      let right : Text = codes " := " ++ expression_text e in
      laid_made {S = λ (y : Def). definition_without y ≡ definition_without d} continues_word (word ++ (left ++ right)) (λ x. record { at = x.0.from; name = x.1.0.0; indices = x.1.0.1; part = made x.1.1 })
      (λ y r. λ i. record { at = 0; name = r.1.0.0 i; indices = r.1.0.1 i; part = same y.1.1 r.1.1 i })
      (laid_then continues_word continues_word word (left ++ right) a
      (laid_then never continues_word left right
      (laid_behind never never (codes "(") (left_side_text d ++ codes ")") (laid_mark mark.Open open_closed)
      (laid_before continues_word never (left_side_text d) (codes ")") (left_laid d named f) (laid_mark mark.Close close_closed) (λ rest _. refl))
      (λ rest _. never_stops (left_side_text d ++ codes ")" ++ rest)))
      (assigned e g) (λ rest _. never_stops (right ++ rest)))
      (λ rest _. refl))

  part_laid : (d : Def) (p : Part) → d.part ≡ p → IsNamed d.name → FitSlots d.indices → FitPart n p → Laid continues_word (part_text (left_side_text d) p) (λ w. IsDefinition (There w)) (λ y. definition_without y ≡ definition_without d)
  part_laid d (part.Value e) is named f g =
      let t : Text = left_side_text d ++ (codes " := " ++ (expression_text e ++ [])) in
      let same : t ≡ part_text (left_side_text d) (part.Value e) = ap (λ (s : Text). left_side_text d ++ (codes " := " ++ s)) (append-nil (expression_text e)) ∙ sym (append_assoc (left_side_text d) (codes " := ") (expression_text e)) in
      laid_as continues_word t (part_text (left_side_text d) (part.Value e)) same
      (plain_laid d (expression_text e ++ []) named f (laid_weaker continues_word (expression_text e ++ []) (λ w ts y s. s) (λ y r. r ∙ ap part_without (sym is)) (value_laid e g)))
  part_laid d (part.Both e k) is named f g =
      let t : Text = left_side_text d ++ (codes " := " ++ (expression_text e ++ (codes ", " ++ expression_text k))) in
      let same : t ≡ part_text (left_side_text d) (part.Both e k) = simp append_assoc in
      laid_as continues_word t (part_text (left_side_text d) (part.Both e k)) same
      (plain_laid d (expression_text e ++ (codes ", " ++ expression_text k)) named f
      (laid_weaker continues_word (expression_text e ++ (codes ", " ++ expression_text k)) (λ w ts y s. s) (λ y r. r ∙ ap part_without (sym is)) (both_laid e k g.0 g.1)))
  part_laid d (part.First e) is named f g =
      let t : Text = codes "I" ++ (codes "(" ++ (left_side_text d ++ codes ")") ++ (codes " := " ++ expression_text e)) in
      let same : t ≡ part_text (left_side_text d) (part.First e) = simp append_assoc in
      laid_as continues_word t (part_text (left_side_text d) (part.First e)) same
      (laid_right continues_word t (laid_left continues_word t (memory_laid reserved.First (codes "I") part.First d e (laid_word reserved.First) (λ y r. ap (λ z. part.First z) r ∙ ap part_without (sym is)) named f g)))
  part_laid d (part.Next e) is named f g =
      let t : Text = codes "X" ++ (codes "(" ++ (left_side_text d ++ codes ")") ++ (codes " := " ++ expression_text e)) in
      let same : t ≡ part_text (left_side_text d) (part.Next e) = simp append_assoc in
      laid_as continues_word t (part_text (left_side_text d) (part.Next e)) same
      (laid_right continues_word t (laid_right continues_word t (memory_laid reserved.Next (codes "X") part.Next d e (laid_word reserved.Next) (λ y r. ap (λ z. part.Next z) r ∙ ap part_without (sym is)) named f g)))

  definition_laid : (d : Def) → FitDef n d → Laid continues_word (definition_text d) (λ w. IsDefinition (There w)) (λ y. definition_without y ≡ definition_without d)
  definition_laid d f = part_laid d d.part refl f.0.0 f.0.1 f.1

  -- ---- sections

  one_section : (x : Section) → FitSection n x → Laid never (section_text x) (λ w. IsSection (There w)) (λ y. section_without y ≡ section_without x)
  one_section (section.Constants cs) f =
      laid_left never _ (section_laid reserved.Constants (codes "Constants") section.Constants constant_text constant_without (section.Constants cs) (λ ys xs r is. ap (λ z. section.Constants z) r ∙ ap section_without (sym is))
      (laid_word reserved.Constants) (FitConstant n) constant_laid cs refl f)
  one_section (section.Types ts) f =
      laid_right never _ (laid_left never _ (section_laid reserved.Types (codes "Types") section.Types type_item_text type_item_without (section.Types ts) (λ ys xs r is. ap (λ z. section.Types z) r ∙ ap section_without (sym is))
      (laid_word reserved.Types) (FitTypeItem n) type_item_laid ts refl f))
  one_section (section.Inputs ds) f =
      laid_right never _ (laid_right never _ (laid_left never _ (section_laid reserved.Inputs (codes "Inputs") section.Inputs decl_text decl_without (section.Inputs ds) (λ ys xs r is. ap (λ z. section.Inputs z) r ∙ ap section_without (sym is))
      (laid_word reserved.Inputs) (FitDecl n) (decl_laid n room less) ds refl f)))
  one_section (section.Declarations ds) f =
      laid_right never _ (laid_right never _ (laid_right never _ (laid_left never _
      (section_laid reserved.Declarations (codes "Declarations") section.Declarations decl_text decl_without (section.Declarations ds) (λ ys xs r is. ap (λ z. section.Declarations z) r ∙ ap section_without (sym is))
      (laid_word reserved.Declarations) (FitDecl n) (decl_laid n room less) ds refl f))))
  one_section (section.Definitions ds) f =
      laid_right never _ (laid_right never _ (laid_right never _ (laid_right never _ (laid_left never _
      (section_laid reserved.Definitions (codes "Definitions") section.Definitions definition_text definition_without (section.Definitions ds) (λ ys xs r is. ap (λ z. section.Definitions z) r ∙ ap section_without (sym is))
      (laid_word reserved.Definitions) (FitDef n) definition_laid ds refl f)))))
  one_section (section.Constraints es) f =
      laid_right never _ (laid_right never _ (laid_right never _ (laid_right never _ (laid_right never _ (laid_left never _
      (section_laid reserved.Constraints (codes "Constraints") section.Constraints expression_text expression_without (section.Constraints es) (λ ys xs r is. ap (λ z. section.Constraints z) r ∙ ap section_without (sym is))
      (laid_word reserved.Constraints) (Fit 0 (suc n)) (expression_laid n room less) es refl f))))))
  one_section (section.Obligations es) f =
      let back : Text = codes "Obligations" ++ (codes ":\n" ++ items_text (map expression_text es)) in
      laid_right never _ (laid_right never _ (laid_right never _ (laid_right never _ (laid_right never _ (laid_right never _
      (laid_behind never never (codes "Proof ") back (laid_word_and reserved.Proof)
      (section_laid reserved.Obligations (codes "Obligations") section.Obligations expression_text expression_without (section.Obligations es) (λ ys xs r is. ap (λ z. section.Obligations z) r ∙ ap section_without (sym is))
      (laid_word reserved.Obligations) (Fit 0 (suc n)) (expression_laid n room less) es refl f)
      (λ rest _. never_stops (back ++ rest))))))))

  sections_laid : (xs : List Section) → AllByRecursion (FitSection n) xs → Laid never (flat_map section_text xs) (λ w. Many (IsSection (There w))) (λ ys. map section_without ys ≡ map section_without xs)
  sections_laid [] all = laid_nil never refl
  sections_laid (x ∷ xs) all =
      laid_cons never never (section_text x) (flat_map section_text xs) (λ y ys r s. ap (λ z. z ∷ map section_without ys) r ∙ ap (λ zs. section_without x ∷ zs) s) (one_section x all.0) (sections_laid xs all.1)
      (λ rest _. never_stops (flat_map section_text xs ++ rest))

  pub model_laid : (m : HllModel) → AllByRecursion (FitSection n) m.sections → Laid never (model_text m) (λ w. IsModel (There w)) (λ y. model_without y ≡ model_without m)
  unfolding model_text
  model_laid m all =
      laid_made {S = λ (y : HllModel). model_without y ≡ model_without m} never (model_text m) (λ x. record { sections = x }) (λ y r. λ i. record { sections = r i }) (sections_laid m.sections all)
