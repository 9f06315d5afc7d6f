-- Types, declarations, definitions and sections are spelled as they are printed.
use Rattle.std.proofs.Common.{◌≡◌, ℕ, suc, ℤ, ◌≤◌, Bool, true, false, List, [], ◌∷◌, ◌++◌, map, refl, sym, ap, ◌∙◌, arith, codes, pos, append_assoc, append-nil}
use Rattle.std.specs.Prelude.{if◌then◌else◌, decimal}
use Rattle.std.specs.List.{flat_map, AllByRecursion}
use Rattle.std.proofs.lemmas.Bool.{both_ways}
use Rattle.std.proofs.lemmas.List.Folds.{flat_map-map}
use Rattle.hll_lexer.specs.Pieces.{Stops, greatest}
use Rattle.hll_lexer.specs.Words.{continues_word}
use Rattle.hll_lexer.specs.declared.token.Mark.TheVariants as mark
use Rattle.hll_lexer.specs.declared.token.Reserved.{Reserved}
use Rattle.hll_lexer.specs.declared.token.Reserved.TheVariants as reserved
use Rattle.hll_lexer.specs.declared.token.TokenKind.TheVariants as kind
use Rattle.hll_tree.specs.declared.tree.ConstItem.{ConstItem}
use Rattle.hll_tree.specs.declared.tree.Decl.{Decl}
use Rattle.hll_tree.specs.declared.tree.Declarator.{Declarator}
use Rattle.hll_tree.specs.declared.tree.Def.{Def}
use Rattle.hll_tree.specs.declared.tree.Expr.{Expr}
use Rattle.hll_tree.specs.declared.tree.Field.{Field}
use Rattle.hll_tree.specs.declared.tree.Form.{Number, Path}
use Rattle.hll_tree.specs.declared.tree.Name.{Name}
use Rattle.hll_tree.specs.declared.tree.Part.{Part}
use Rattle.hll_tree.specs.declared.tree.Part.TheVariants as part
use Rattle.hll_tree.specs.declared.tree.Section.{Section}
use Rattle.hll_tree.specs.declared.tree.Section.TheVariants as section
use Rattle.hll_tree.specs.declared.tree.Slot.{Slot}
use Rattle.hll_tree.specs.declared.tree.Slot.TheVariants as slot
use Rattle.hll_tree.specs.declared.tree.TypeItem.{TypeItem}
use Rattle.hll_tree.specs.declared.tree.TypeItem.TheVariants as item
use Rattle.hll_tree.specs.declared.tree.TypeText.{TypeText}
use Rattle.hll_tree.specs.declared.tree.TypeText.TheVariants as ty
use Rattle.hll_tree.specs.Printing.{Text, printed, plainly, joined, name_text, expression_text, dims_text, is_bare, size_text, type_text, declarator_text, decl_text, items_text}
use Rattle.hll_tree.specs.Spells.{Scope, scope, Marked, Worded, Behind, Listed, dims_of, expression_at, named, IsName, IsExpression, IsDigits, IsType, AreDims, IsDeclarator, IsDecl, Items, IsSectionOf}
use Rattle.hll_tree.specs.WithoutPlaces.{name_without, expression_without, type_without, declarator_without, decl_without, section_without}
use Rattle.hll_tree.proofs.Printed.{printed-number, printed-path}
use Rattle.hll_tree.proofs.PrintedLists.{joined_parts}
use Rattle.hll_tree.proofs.Laid.{InText, Laid, Any, never, never_stops, laid_then, laid_made, laid_behind, laid_before, laid_weaker, laid_narrower, laid_left, laid_right, laid_as, laid_none, laid_some, laid_nil, laid_cons, laid_blank}
use Rattle.hll_tree.proofs.LaidTokens.{token_there, laid_word, laid_word_and, laid_and_blank, laid_mark, laid_spaced, laid_colon_line, laid_name, laid_number, open_closed, close_closed, open_bracket_closed, close_bracket_closed, semicolon_closed}
use Rattle.hll_tree.proofs.LaidLevels.{inside, laid_enclosed, Same, IsBare, bare_is, Fit, fit_plain, fit_laid, laid_many}
use Rattle.hll_tree.proofs.LaidForms.{AllFit}
use Rattle.hll_tree.proofs.LaidPaths.{same_name}
use Rattle.hll_tree.proofs.LaidOperations.{laid_bounds}
use Rattle.hll_tree.proofs.Gives.{Several}
use Rattle.hll_tree.proofs.GivenExpressions.{IsNamed}
use Rattle.hll_tree.proofs.Without.{at_zero, without-number, without-path}

-- ---- lists parted by commas

further_of : {X : Type 0} {P : InText X} (f : X → Text) (u : X → X) (C : X → Type 0) → ((x : X) → C x → Laid continues_word (f x) P (λ y. u y ≡ u x)) → (xs : List X) → AllByRecursion C xs →
    AllByRecursion (λ x. Laid continues_word (codes ", " ++ f x) (λ w. Behind (Marked mark.Comma) (P w)) (λ y. u y ≡ u x)) xs
further_of f u C each [] all = tt
further_of f u C each (x ∷ xs) all =
    (laid_behind never continues_word (codes ", ") (f x) (laid_spaced mark.Comma) (each x all.0) (λ rest _. never_stops (f x ++ rest)), further_of f u C each xs all.1)

commas_end : {X : Type 0} (f : X → Text) (xs : List X) (rest : Text) → Stops continues_word rest → Stops continues_word (flat_map (λ x. codes ", " ++ f x) xs ++ rest)
commas_end f [] rest h = h
commas_end f (x ∷ xs) rest h = refl

pub several_laid : {X : Type 0} {P : InText X} (f : X → Text) (u : X → X) (C : X → Type 0) → ((x : X) → C x → Laid continues_word (f x) P (λ y. u y ≡ u x)) → (xs : List X) → Several C xs →
    Laid continues_word (joined (codes ", ") (map f xs)) (λ w. Listed (P w)) (λ ys. map u ys ≡ map u xs)
several_laid f u C each [] h = absurd h
several_laid f u C each (x ∷ xs) h =
    laid_as continues_word (f x ++ flat_map (λ y. codes ", " ++ f y) xs) (joined (codes ", ") (map f (x ∷ xs))) (sym (joined_parts (codes ", ") f x xs))
    (laid_made continues_word (f x ++ flat_map (λ y. codes ", " ++ f y) xs) (λ y. y.0 ∷ y.1) (λ y r. ap (λ z. z ∷ map u y.1) r.0 ∙ ap (λ zs. u x ∷ zs) r.1)
    (laid_then continues_word continues_word (f x) (flat_map (λ y. codes ", " ++ f y) xs) (each x h.0)
    (laid_many (λ y. codes ", " ++ f y) u u (λ y m rest. refl) xs (further_of f u C each xs h.1)) (commas_end f xs)))

-- ---- items

all_items : {X : Type 0} {P : InText X} (f : X → Text) (u : X → X) (C : X → Type 0) → ((x : X) → C x → Laid continues_word (f x) P (λ y. u y ≡ u x)) → (xs : List X) → AllByRecursion C xs →
    Laid never (flat_map (λ x. codes "  " ++ f x ++ codes ";\n") xs) (λ w. Items (P w)) (λ ys. map u ys ≡ map u xs)
all_items f u C each [] all = laid_nil never refl
all_items f u C each (x ∷ xs) all =
    let rest_of : Text = flat_map (λ y. codes "  " ++ f y ++ codes ";\n") xs in
    laid_cons never never (codes "  " ++ f x ++ codes ";\n") rest_of (λ y ys r s. ap (λ z. z ∷ map u ys) r ∙ ap (λ zs. u x ∷ zs) s)
    (laid_blank never 32 (32 ∷ (f x ++ codes ";\n")) refl (laid_blank never 32 (f x ++ codes ";\n") refl
    (laid_before continues_word never (f x) (codes ";\n") (each x all.0) (laid_and_blank never 10 (codes ";") refl refl (laid_mark mark.Semicolon semicolon_closed)) (λ rest _. refl))))
    (all_items f u C each xs all.1) (λ rest _. never_stops (rest_of ++ rest))

pub items_laid : {X : Type 0} {P : InText X} (f : X → Text) (u : X → X) (C : X → Type 0) → ((x : X) → C x → Laid continues_word (f x) P (λ y. u y ≡ u x)) → (xs : List X) → AllByRecursion C xs →
    Laid never (items_text (map f xs)) (λ w. Items (P w)) (λ ys. map u ys ≡ map u xs)
items_laid f u C each xs all =
    laid_as never (flat_map (λ x. codes "  " ++ f x ++ codes ";\n") xs) (items_text (map f xs)) (sym (flat_map-map (λ t. codes "  " ++ t ++ codes ";\n") f xs)) (all_items f u C each xs all)

-- a section by its word
pub section_laid : {X : Type 0} {P : InText X} (w : Reserved) (heading : Text) (made : List X → Section) (f : X → Text) (u : X → X) (x : Section) →
    ((ys : List X) (xs : List X) → map u ys ≡ map u xs → x ≡ made xs → section_without (made ys) ≡ section_without x) → Laid continues_word heading (λ _. Worded w) Any →
    (C : X → Type 0) → ((x : X) → C x → Laid continues_word (f x) P (λ y. u y ≡ u x)) → (xs : List X) → x ≡ made xs → AllByRecursion C xs →
    Laid never (heading ++ (codes ":\n" ++ items_text (map f xs))) (λ t. IsSectionOf w made (P t)) (λ y. section_without y ≡ section_without x)
section_laid w heading made f u x same word C each xs is all =
    let items : Text = items_text (map f xs) in
    laid_behind continues_word never heading (codes ":\n" ++ items) word
    (laid_behind never never (codes ":\n") items laid_colon_line
    (laid_made never items made (λ ys r. same ys xs r is) (items_laid f u C each xs all)) (λ rest _. never_stops (items ++ rest)))
    (λ rest _. refl)

-- ---- what fits

pub data FitSize (n : ℕ) (e : Expr) : Type 0 where
  size_bare : IsBare e → FitSize n e
  size_any : Fit 0 n e → FitSize n e

abbrev pub FitType : ℕ → TypeText → Type 0
FitType n ty.Bool = Unit {0}
FitType n (ty.Bounds a b) = Fit 0 n a × Fit 0 n b
FitType n (ty.Signed e) = FitSize n e
FitType n (ty.Unsigned e) = FitSize n e
FitType n (ty.Named m) = IsNamed m

abbrev pub FitDeclarator : ℕ → Declarator → Type 0
FitDeclarator n d = IsNamed d.name × AllFit n d.dims

abbrev pub FitDecl : ℕ → Decl → Type 0
FitDecl n d = FitType n d.ty × Several (FitDeclarator n) d.names

abbrev pub FitConstant : ℕ → ConstItem → Type 0
FitConstant n c = IsNamed c.name × Fit 0 (suc n) c.value

abbrev pub FitField : ℕ → Field → Type 0
FitField n f = IsNamed f.of.name × (FitType n f.ty × AllFit n f.of.dims)

abbrev pub FitTypeItem : ℕ → TypeItem → Type 0
FitTypeItem n (item.Alias t d) = FitType n t × FitDeclarator n d
FitTypeItem n (item.Enumeration names m) = Several IsNamed names × IsNamed m
FitTypeItem n (item.Structure fields m) = Several (FitField n) fields × IsNamed m
FitTypeItem n (item.Leaves names m) = Several IsNamed names × IsNamed m
FitTypeItem n (item.Children names m) = Several IsNamed names × IsNamed m

abbrev pub FitSlot : Slot → Type 0
FitSlot (slot.Index m) = IsNamed m
FitSlot (slot.Fixed at value) = (k : ℕ) × (value ≡ pos k) × (k ≤ greatest)

abbrev pub FitSlots : List Slot → Type 0
FitSlots [] = Unit {0}
FitSlots (s ∷ ss) = Several FitSlot (s ∷ ss)

abbrev pub FitPart : ℕ → Part → Type 0
FitPart n (part.Value e) = Fit 0 (suc n) e
FitPart n (part.Both e f) = Fit 0 (suc n) e × Fit 0 (suc n) f
FitPart n (part.First e) = Fit 0 (suc n) e
FitPart n (part.Next e) = Fit 0 (suc n) e

abbrev pub FitDef : ℕ → Def → Type 0
FitDef n d = (IsNamed d.name × FitSlots d.indices) × FitPart n d.part

abbrev pub FitSection : ℕ → Section → Type 0
FitSection n (section.Constants cs) = AllByRecursion (FitConstant n) cs
FitSection n (section.Types ts) = AllByRecursion (FitTypeItem n) ts
FitSection n (section.Inputs ds) = AllByRecursion (FitDecl n) ds
FitSection n (section.Declarations ds) = AllByRecursion (FitDecl n) ds
FitSection n (section.Definitions ds) = AllByRecursion (FitDef n) ds
FitSection n (section.Constraints es) = AllByRecursion (Fit 0 (suc n)) es
FitSection n (section.Obligations es) = AllByRecursion (Fit 0 (suc n)) es

module _ (n room : ℕ) (less : n ≤ room) where
  abbrev There : Text → Scope
  There w = inside (suc room) 0 w

  pub name_laid : (m : Name) → IsNamed m → Laid continues_word (name_text m.text) (λ w. IsName (There w)) (λ y. name_without y ≡ name_without m)
  unfolding scope
  name_laid m h = laid_weaker continues_word (name_text m.text) (λ w ts y s. s) (λ y r. same_name m y r) (laid_name m.text h)

  pub expression_laid : (e : Expr) → Fit 0 (suc n) e → Laid continues_word (expression_text e) (λ w. IsExpression (There w)) (Same e)
  expression_laid e f = fit_laid 0 (suc n) (suc room) 0 e (omega arith) (omega arith) f

  inner_laid : (e : Expr) → Fit 0 n e → Laid continues_word (expression_text e) (λ w. IsExpression (inside room 1 w)) (Same e)
  inner_laid e f = fit_laid 0 n room 1 e (omega arith) less f

  some_dims : (es : List Expr) → Several (Fit 0 n) es → Laid never (codes "[" ++ (joined (codes ", ") (map expression_text es) ++ codes "]")) (λ w. AreDims (There w)) (λ ys. map expression_without ys ≡ map expression_without es)
  unfolding scope
  some_dims es all =
      let inner : Text = joined (codes ", ") (map expression_text es) in
      let t : Text = codes "[" ++ (inner ++ codes "]") in
      laid_made {S = λ (ys : List Expr). map expression_without ys ≡ map expression_without es} never t dims_of (λ o r. r)
      (laid_some {S = λ o. map expression_without (dims_of o) ≡ map expression_without es} never t (λ ys r. r)
      (laid_enclosed mark.OpenBracket mark.CloseBracket open_bracket_closed close_bracket_closed room 0 continues_word inner (λ rest. refl)
      (several_laid expression_text expression_without (Fit 0 n) inner_laid es all)))

  pub dims_laid : (es : List Expr) → AllFit n es → Laid continues_word (dims_text es) (λ w. AreDims (There w)) (λ ys. map expression_without ys ≡ map expression_without es)
  dims_laid [] all =
      laid_narrower never continues_word [] (λ rest _. never_stops rest)
      (laid_made {S = λ (ys : List Expr). map expression_without ys ≡ []} never [] dims_of (λ o r. r) (laid_none {R = λ o. map expression_without (dims_of o) ≡ []} refl))
  dims_laid (e ∷ es) all = laid_narrower never continues_word (dims_text (e ∷ es)) (λ rest _. never_stops rest) (some_dims (e ∷ es) (all.0, all.1))

  pub dims_end : (es : List Expr) (rest : Text) → Stops continues_word rest → Stops continues_word (dims_text es ++ rest)
  dims_end [] rest h = h
  dims_end (e ∷ es) rest h = refl

  bare_laid : (e : Expr) → IsBare e → Laid continues_word (expression_text e) (λ w. IsDigits (There w)) (Same e)
  bare_laid e (IsBare.bare_number k small is) =
      laid_as continues_word (decimal k) (expression_text e) (ap (λ p. plainly p) (sym (printed-number e (pos k) is)))
      (laid_left continues_word (decimal k)
      (laid_number k small (λ w t x. (m : ℤ) × (t.kind ≡ kind.Number m) × (x ≡ expression_at t (Number m))) (Same e)
      (λ front rest.
      let t = token_there (kind.Number (pos k)) front (decimal k) in
      (expression_at t (Number (pos k)), (pos k, refl, refl), without-number (expression_at t (Number (pos k))) (pos k) refl ∙ sym (without-number e (pos k) is)))))
  bare_laid e (IsBare.bare_name m h is) =
      laid_as continues_word (name_text m.text) (expression_text e) (sym (append-nil (name_text m.text)) ∙ ap (λ p. plainly p) (sym (printed-path e m [] is)))
      (laid_right continues_word (name_text m.text) (laid_left continues_word (name_text m.text)
      (laid_made {S = Same e} continues_word (name_text m.text) named (λ y r. without-path (named y) y [] refl ∙ ap (λ z. at_zero (Path z [])) r ∙ sym (without-path e m [] is)) (name_laid m h))))

  bare_of : (e : Expr) → FitSize n e → is_bare e ≡ true → IsBare e
  bare_of e (FitSize.size_bare b) is = b
  bare_of e (FitSize.size_any f) is = (fit_plain 0 n e f).bare is

  size_by : (bare : Bool) (e : Expr) → is_bare e ≡ bare → FitSize n e → Laid continues_word (if bare then expression_text e else codes "(" ++ expression_text e ++ codes ")") (λ w. IsDigits (There w)) (Same e)
  unfolding scope
  size_by true e is f = bare_laid e (bare_of e f is)
  size_by false e is (FitSize.size_bare b) = absurd (both_ways (is_bare e) is (bare_is e b))
  size_by false e is (FitSize.size_any f) =
      let t : Text = codes "(" ++ expression_text e ++ codes ")" in
      laid_narrower never continues_word t (λ rest _. never_stops rest)
      (laid_right never t (laid_right never t (laid_enclosed mark.Open mark.Close open_closed close_closed room 0 continues_word (expression_text e) (λ rest. refl) (inner_laid e f))))

  size_laid : (e : Expr) → FitSize n e → Laid continues_word (size_text e) (λ w. IsDigits (There w)) (Same e)
  size_laid e f = size_by (is_bare e) e refl f

  pub type_laid : (t : TypeText) → FitType n t → Laid continues_word (type_text t) (λ w. IsType (There w)) (λ y. type_without y ≡ type_without t)
  type_laid ty.Bool f = laid_left continues_word (codes "bool") (laid_made {S = λ (y : TypeText). type_without y ≡ ty.Bool} continues_word (codes "bool") (λ t. ty.Bool) (λ t r. refl) (laid_word reserved.Bool))
  type_laid (ty.Bounds a b) f =
      let t : Text = codes "[" ++ (plainly (printed a) ++ codes ", " ++ plainly (printed b) ++ codes "]") in
      laid_right continues_word (codes "int " ++ t) (laid_right continues_word (codes "int " ++ t)
      (laid_behind never continues_word (codes "int ") t (laid_word_and reserved.Int)
      (laid_narrower never continues_word t (λ rest _. never_stops rest) (laid_left never t
      (laid_made {S = λ (y : TypeText). type_without y ≡ type_without (ty.Bounds a b)} never t (λ x. ty.Bounds x.0 x.1)
      (λ y r. ap (λ z. ty.Bounds z (expression_without y.1)) r.0 ∙ ap (λ z. ty.Bounds (expression_without a) z) r.1) (laid_bounds n room 0 a b less f.0 f.1))))
      (λ rest _. never_stops (t ++ rest))))
  type_laid (ty.Signed e) f =
      let t : Text = codes "signed " ++ size_text e in
      laid_right continues_word (codes "int " ++ t) (laid_right continues_word (codes "int " ++ t)
      (laid_behind never continues_word (codes "int ") t (laid_word_and reserved.Int) (laid_right continues_word t (laid_left continues_word t
      (laid_made {S = λ (y : TypeText). type_without y ≡ type_without (ty.Signed e)} continues_word t ty.Signed (λ y r. ap (λ z. ty.Signed z) r)
      (laid_behind never continues_word (codes "signed ") (size_text e) (laid_word_and reserved.Signed) (size_laid e f) (λ rest _. never_stops (size_text e ++ rest))))))
      (λ rest _. never_stops (t ++ rest))))
  type_laid (ty.Unsigned e) f =
      let t : Text = codes "unsigned " ++ size_text e in
      laid_right continues_word (codes "int " ++ t) (laid_right continues_word (codes "int " ++ t)
      (laid_behind never continues_word (codes "int ") t (laid_word_and reserved.Int) (laid_right continues_word t (laid_right continues_word t
      (laid_made {S = λ (y : TypeText). type_without y ≡ type_without (ty.Unsigned e)} continues_word t ty.Unsigned (λ y r. ap (λ z. ty.Unsigned z) r)
      (laid_behind never continues_word (codes "unsigned ") (size_text e) (laid_word_and reserved.Unsigned) (size_laid e f) (λ rest _. never_stops (size_text e ++ rest))))))
      (λ rest _. never_stops (t ++ rest))))
  type_laid (ty.Named m) f =
      laid_right continues_word (name_text m.text) (laid_left continues_word (name_text m.text)
      (laid_made {S = λ (y : TypeText). type_without y ≡ type_without (ty.Named m)} continues_word (name_text m.text) ty.Named (λ y r. ap (λ z. ty.Named z) r) (name_laid m f)))

  pub declarator_laid : (d : Declarator) → FitDeclarator n d → Laid continues_word (declarator_text d) (λ w. IsDeclarator (There w)) (λ y. declarator_without y ≡ declarator_without d)
  declarator_laid d f =
      laid_made {S = λ (y : Declarator). declarator_without y ≡ declarator_without d} continues_word (declarator_text d) (λ x. record { name = x.0; dims = x.1 })
      (λ y r. λ i. record { name = r.0 i; dims = r.1 i }) (laid_then continues_word continues_word (name_text d.name.text) (dims_text d.dims) (name_laid d.name f.0) (dims_laid d.dims f.1) (dims_end d.dims))

  pub decl_laid : (d : Decl) → FitDecl n d → Laid continues_word (decl_text d) (λ w. IsDecl (There w)) (λ y. decl_without y ≡ decl_without d)
  decl_laid d f =
      let names : Text = joined (codes ", ") (map declarator_text d.names) in
      let t : Text = type_text d.ty ++ (codes " " ++ names) in
      laid_as continues_word t (decl_text d) (sym (append_assoc (type_text d.ty) (codes " ") names))
      (laid_made {S = λ (y : Decl). decl_without y ≡ decl_without d} continues_word t (λ x. record { ty = x.0; names = x.1 }) (λ y r. λ i. record { ty = r.0 i; names = r.1 i })
      (laid_then continues_word continues_word (type_text d.ty) (codes " " ++ names) (type_laid d.ty f.0)
      (laid_blank continues_word 32 names refl (several_laid declarator_text declarator_without (FitDeclarator n) declarator_laid d.names f.1)) (λ rest _. refl)))
