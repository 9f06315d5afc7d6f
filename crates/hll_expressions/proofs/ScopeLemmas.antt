-- Bound and index names, one by one.
use Rattle.std.proofs.Common.{◌≡◌, ℕ, ◌+◌, ◌<◌, true, false, List, [], ◌∷◌, map, length, take, get_or, Option, Some, refl, sym, ap, ◌∙◌}
use Rattle.std.specs.Prelude.{reverse}
use Rattle.std.specs.Borrow.{Bor}
use Rattle.std.specs.Str.{bytes_eq}
use Rattle.std.proofs.lemmas.List.{reverse-append}
use Rattle.hll_meaning.specs.declared.ty.Ty.{Ty}
use Rattle.hll_meaning.specs.Kinds.{Kind}
use Rattle.hll_meaning.specs.Names.{under}
use Rattle.hll_meaning.specs.Types.{kind_of}
use Rattle.hll_expressions.specs.declared.scope.Bounds.{Bounds, Indices, Bind, fold_out-Bounds}
use Rattle.hll_expressions.specs.declared.scope.Bounds.TheVariants.{outs-Indices, outs-Bind}
use Rattle.hll_expressions.specs.declared.scope.Index.{Index}
use Rattle.hll_expressions.specs.Scopes.{bound_names, index_names}
use Rattle.hll_expressions.proofs.Folds.{mapped_more}

-- an index name with its kind
abbrev pub named : Index → List ℕ × Kind
named i = (i.name, kind_of i.kind)

pub names_more : (xs : List Index) (i : ℕ) (x : Index) → i < length xs → x ≡ get_or xs i x → index_names (take (i + 1) xs) ≡ named x ∷ index_names (take i xs)
names_more xs i x lt is = ap reverse (mapped_more named xs i x lt is) ∙ reverse-append (map named (take i xs)) (named x ∷ [])

pub found_here : {A : Type 0} (name : List ℕ) (x : List ℕ × A) (xs : List (List ℕ × A)) → bytes_eq x.0 name ≡ true → under name (x ∷ xs) ≡ Some x.1
found_here name x xs h = rw h refl

pub found_behind : {A : Type 0} (name : List ℕ) (x : List ℕ × A) (xs : List (List ℕ × A)) → bytes_eq x.0 name ≡ false → under name (x ∷ xs) ≡ under name xs
found_behind name x xs h = rw h refl

pub bound_indices : (indices : Bor (List Index)) → bound_names (Indices indices) ≡ index_names indices.now
unfolding bound_names
bound_indices indices = fold_out-Bounds _ _ (Indices indices) ∙ rw (outs-Indices indices) refl

pub bound_bind : (name : Bor (List ℕ)) (kind : Bor Ty) (outer : Bor Bounds) → bound_names (Bind name kind outer) ≡ (name.now, kind_of kind.now) ∷ bound_names outer.now
unfolding bound_names
bound_bind name kind outer = fold_out-Bounds _ _ (Bind name kind outer) ∙ rw (outs-Bind name kind outer) refl

pub name_here : (name : List ℕ) (xs : List Index) (i : ℕ) (x : Index) (found : Option Kind) → i < length xs → x ≡ get_or xs i x → bytes_eq x.name name ≡ true → found ≡ Some (kind_of x.kind) → found ≡ under name (index_names (take (i + 1) xs))
name_here name xs i x found lt is here same = same ∙ sym (ap (under name) (names_more xs i x lt is) ∙ found_here name (named x) (index_names (take i xs)) here)

pub name_further : (name : List ℕ) (xs : List Index) (i : ℕ) (x : Index) (found before : Option Kind) → i < length xs → x ≡ get_or xs i x → bytes_eq x.name name ≡ false → found ≡ before → before ≡ under name (index_names (take i xs)) →
    found ≡ under name (index_names (take (i + 1) xs))
name_further name xs i x found before lt is other same h = same ∙ h ∙ sym (ap (under name) (names_more xs i x lt is) ∙ found_behind name (named x) (index_names (take i xs)) other)
