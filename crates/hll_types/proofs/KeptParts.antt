-- The parts that definitions of one variable give, and those that are kept.
use Rattle.std.proofs.Common.{◌≡◌, ℕ, Bool, true, false, cond, ◌||◌, ◌⊎◌, inl, inr, List, [], ◌∷◌, ◌++◌, Option, None, Some, is_some, option_map, unwrap_or, Bor, refl, sym, ap, subst, ◌∙◌}
use Rattle.std.specs.Prelude.{find}
use Rattle.std.specs.List.{list_any}
use Rattle.std.specs.Map.{lookup}
use Rattle.std.specs.Option.{option_or}
use Rattle.std.specs.Str.{bytes_eq}
use Rattle.std.proofs.lemmas.List.{append-nil}
use Rattle.std.proofs.lemmas.List.Elements.{filter-append}
use Rattle.std.proofs.lemmas.List.Folds.{find-append, list_any-append}
use Rattle.std.proofs.lemmas.Slice.Eq.{bytes_eq-Decides}
use Rattle.hll_tree.specs.declared.tree.Def.{Def}
use Rattle.hll_tree.specs.declared.tree.Expr.{Expr}
use Rattle.hll_tree.specs.declared.tree.Part.{Part}
use Rattle.hll_tree.specs.declared.tree.Part.TheVariants as part
use Rattle.hll_meaning.proofs.Faultless.{neither}
use Rattle.hll_meaning.specs.StaticRules.{PartKind, value, both, first, next, part_kind, is_complete, is_first, is_next, clashes, definitions_of}
use Rattle.hll_types.specs.declared.define.Defined.{Defined}
use Rattle.hll_types.specs.declared.define.Parts.{Parts}
use Rattle.hll_types.specs.Checked.{is_memory}
use Rattle.hll_types.specs.Defining.{HasParts, clashes_with, no_parts, parts_under, Keeps}

or_true : (b : Bool) → (b || true) ≡ true
or_true true = refl
or_true false = refl

or_false : (b : Bool) → (b || false) ≡ b
or_false true = refl
or_false false = refl

-- whether one of these definitions has a part
abbrev any_complete : List Def → Bool
any_complete own = list_any (λ d. is_complete (part_kind d.part)) own

abbrev any_first : List Def → Bool
any_first own = list_any (λ d. is_first (part_kind d.part)) own

abbrev any_memory : List Def → Bool
any_memory own = list_any (λ d. is_memory (part_kind d.part)) own

-- the first one for the next instant
abbrev next_of : List Def → Option Def
next_of own = find (λ d. is_next (part_kind d.part)) own

-- ---- clashes

-- whether a part comes twice, by the parts that there are
abbrev pub comes_twice : PartKind → Bool → Bool → Bool → Bool
comes_twice value w f n = (w || f) || n
comes_twice both w f n = (w || f) || n
comes_twice first w f n = w || f
comes_twice next w f n = w || n

-- each definition has a part
has_some : (d : Def) (ds : List Def) (k : PartKind) → (((is_complete k || any_complete ds) || (is_first k || any_first ds)) || is_some (cond (is_next k) (Some d) (next_of ds))) ≡ true
has_some d ds value = refl
has_some d ds both = refl
has_some d ds first = ap (λ b. b || is_some (next_of ds)) (or_true (any_complete ds))
has_some d ds next = or_true (any_complete ds || any_first ds)

-- a whole part clashes with any other
clash_whole : (p : PartKind) → ((k : PartKind) → clashes k p ≡ true) → (own : List Def) → list_any (λ d. clashes (part_kind d.part) p) own ≡ ((any_complete own || any_first own) || is_some (next_of own))
clash_whole p always [] = refl
clash_whole p always (d ∷ ds) = ap (λ b. b || list_any (λ e. clashes (part_kind e.part) p) ds) (always (part_kind d.part)) ∙ sym (has_some d ds (part_kind d.part))

clash_first : (own : List Def) → list_any (λ d. clashes (part_kind d.part) first) own ≡ (any_complete own || any_first own)
clash_first [] = refl
clash_first (d ∷ ds) = here (clash_first ds) (part_kind d.part)
  where
    here : list_any (λ e. clashes (part_kind e.part) first) ds ≡ (any_complete ds || any_first ds) → (k : PartKind) → (clashes k first || list_any (λ e. clashes (part_kind e.part) first) ds) ≡ ((is_complete k || any_complete ds) || (is_first k || any_first ds))
    here rest value = refl
    here rest both = refl
    here rest first = sym (or_true (any_complete ds))
    here rest next = rest

clash_next : (own : List Def) → list_any (λ d. clashes (part_kind d.part) next) own ≡ (any_complete own || is_some (next_of own))
clash_next [] = refl
clash_next (d ∷ ds) = here (clash_next ds) (part_kind d.part)
  where
    here : list_any (λ e. clashes (part_kind e.part) next) ds ≡ (any_complete ds || is_some (next_of ds)) → (k : PartKind) → (clashes k next || list_any (λ e. clashes (part_kind e.part) next) ds) ≡ ((is_complete k || any_complete ds) || is_some (cond (is_next k) (Some d) (next_of ds)))
    here rest value = refl
    here rest both = refl
    here rest first = rest
    here rest next = sym (or_true (any_complete ds))

any_clash : (p : PartKind) (own : List Def) → list_any (λ d. clashes (part_kind d.part) p) own ≡ comes_twice p (any_complete own) (any_first own) (is_some (next_of own))
any_clash value own = clash_whole value (λ k. or_true (is_complete k)) own
any_clash both own = clash_whole both (λ k. or_true (is_complete k)) own
any_clash first own = clash_first own
any_clash next own = clash_next own

some_mapped : {A B : Type 0} (f : A → B) (o : Option A) → is_some (option_map f o) ≡ is_some o
some_mapped f None = refl
some_mapped f (Some x) = refl

-- whether a part comes twice, by the parts that are known
pub clash_of_parts : (own : List Def) (p : Parts) (k : PartKind) → HasParts own p → comes_twice k p.whole p.first (is_some p.next) ≡ list_any (λ d. clashes (part_kind d.part) k) own
clash_of_parts own p k has =
    let n : is_some p.next ≡ is_some (next_of own) = ap is_some has.next ∙ some_mapped (λ d. d.at) (next_of own) in
    (λ i. comes_twice k (has.whole i) (has.first i) (n i)) ∙ sym (any_clash k own)

-- a first part
pub clash_of_first : (own : List Def) (p : Parts) (x : Part) (e : Expr) → x ≡ part.First e → HasParts own p → (p.whole || p.first) ≡ clashes_with own x
clash_of_first own p x e is has = clash_of_parts own p first has ∙ ap (clashes_with own) (sym is)

-- a part for the next instant
pub clash_of_next : (own : List Def) (p : Parts) (x : Part) (e : Expr) → x ≡ part.Next e → HasParts own p → (p.whole || is_some p.next) ≡ clashes_with own x
clash_of_next own p x e is has = clash_of_parts own p next has ∙ ap (clashes_with own) (sym is)

-- a value or both parts
abbrev pub IsWhole : Part → Type 0
IsWhole x = ((e : Expr) × (x ≡ part.Value e)) ⊎ ((e : Expr) × (f : Expr) × (x ≡ part.Both e f))

pub clash_of_whole : (own : List Def) (p : Parts) (x : Part) → IsWhole x → HasParts own p → ((p.whole || p.first) || is_some p.next) ≡ clashes_with own x
clash_of_whole own p x (inl h) has = clash_of_parts own p value has ∙ ap (clashes_with own) (sym h.1)
clash_of_whole own p x (inr h) has = clash_of_parts own p both has ∙ ap (clashes_with own) (sym h.2)

pub either_left : (a b : Bool) → a ≡ true → a ≡ (a || b)
either_left a b h = h ∙ ap (λ x. x || b) (sym h)

pub either_right : (a b : Bool) → a ≡ false → b ≡ (a || b)
either_right a b h = ap (λ x. x || b) (sym h)

-- ---- one definition more

-- the parts with one more
abbrev pub with_part : Parts → PartKind → ℕ → Parts
with_part p value at = record { whole = true; first = p.first; next = p.next; memory = p.memory }
with_part p both at = record { whole = true; first = p.first; next = p.next; memory = true }
with_part p first at = record { whole = p.whole; first = true; next = p.next; memory = true }
with_part p next at = record { whole = p.whole; first = p.first; next = Some at; memory = true }

or_none : {A : Type 0} (o : Option A) → option_or o None ≡ o
or_none None = refl
or_none (Some x) = refl

is_none_so : {A : Type 0} (o : Option A) → is_some o ≡ false → o ≡ None
is_none_so None h = refl
is_none_so (Some x) h = absurd (cc h)

pub one_more : (own : List Def) (p : Parts) (d : Def) → HasParts own p → clashes_with own d.part ≡ false → HasParts (own ++ d ∷ []) (with_part p (part_kind d.part) d.at)
one_more own p d has no_clash = by (part_kind d.part) refl
  where
    whole_more : (k : PartKind) → part_kind d.part ≡ k → any_complete (own ++ d ∷ []) ≡ (any_complete own || (is_complete k || false))
    whole_more k is = list_any-append (λ e. is_complete (part_kind e.part)) own (d ∷ []) ∙ ap (λ x. any_complete own || (is_complete x || false)) is

    first_more : (k : PartKind) → part_kind d.part ≡ k → any_first (own ++ d ∷ []) ≡ (any_first own || (is_first k || false))
    first_more k is = list_any-append (λ e. is_first (part_kind e.part)) own (d ∷ []) ∙ ap (λ x. any_first own || (is_first x || false)) is

    memory_more : (k : PartKind) → part_kind d.part ≡ k → any_memory (own ++ d ∷ []) ≡ (any_memory own || (is_memory k || false))
    memory_more k is = list_any-append (λ e. is_memory (part_kind e.part)) own (d ∷ []) ∙ ap (λ x. any_memory own || (is_memory x || false)) is

    of_memory : (k : PartKind) → part_kind d.part ≡ k → is_memory k ≡ true → true ≡ any_memory (own ++ d ∷ [])
    of_memory k is given = sym (memory_more k is ∙ ap (λ b. any_memory own || (b || false)) given ∙ or_true (any_memory own))

    next_more : (k : PartKind) → part_kind d.part ≡ k → next_of (own ++ d ∷ []) ≡ option_or (next_of own) (cond (is_next k) (Some d) None)
    next_more k is = find-append (λ e. is_next (part_kind e.part)) own (d ∷ []) ∙ ap (λ x. option_or (next_of own) (cond (is_next x) (Some d) None)) is

    none_before : part_kind d.part ≡ next → next_of own ≡ None
    none_before is = is_none_so (next_of own) (neither (any_complete own) (is_some (next_of own)) (sym (clash_next own) ∙ ap (λ x. list_any (λ e. clashes (part_kind e.part) x) own) (sym is) ∙ no_clash)).1

    same_next : (k : PartKind) → part_kind d.part ≡ k → is_next k ≡ false → p.next ≡ option_map (λ e. e.at) (next_of (own ++ d ∷ []))
    same_next k is other = has.next ∙ ap (option_map (λ e. e.at)) (sym (next_more k is ∙ ap (λ b. option_or (next_of own) (cond b (Some d) None)) other ∙ or_none (next_of own)))

    by : (k : PartKind) → part_kind d.part ≡ k → HasParts (own ++ d ∷ []) (with_part p k d.at)
    by value is = record {
      whole = sym (whole_more value is ∙ or_true (any_complete own));
      first = has.first ∙ sym (first_more value is ∙ or_false (any_first own));
      next = same_next value is refl;
      memory = has.memory ∙ sym (memory_more value is ∙ or_false (any_memory own));
    }
    by both is = record {
      whole = sym (whole_more both is ∙ or_true (any_complete own));
      first = has.first ∙ sym (first_more both is ∙ or_false (any_first own));
      next = same_next both is refl;
      memory = of_memory both is refl;
    }
    by first is = record {
      whole = has.whole ∙ sym (whole_more first is ∙ or_false (any_complete own));
      first = sym (first_more first is ∙ or_true (any_first own));
      next = same_next first is refl;
      memory = of_memory first is refl;
    }
    by next is = record {
      whole = has.whole ∙ sym (whole_more next is ∙ or_false (any_complete own));
      first = has.first ∙ sym (first_more next is ∙ or_false (any_first own));
      next = ap (option_map (λ e. e.at)) (sym (next_more next is ∙ ap (λ o. option_or o (Some d)) (none_before is)));
      memory = of_memory next is refl;
    }

-- the part of a definition is of this kind
pub one_more_of : (own : List Def) (p : Parts) (d : Def) (x : Part) → d.part ≡ x → HasParts own p → clashes_with own d.part ≡ false → HasParts (own ++ d ∷ []) (with_part p (part_kind x) d.at)
one_more_of own p d x is has no_clash = subst (λ (y : Part). HasParts (own ++ d ∷ []) (with_part p (part_kind y) d.at)) is (one_more own p d has no_clash)

-- ---- what is kept

-- before the first definition nothing is kept
pub none_kept : (d : Defined) → d.by_name.entries ≡ [] → Keeps d []
none_kept d none name = subst (λ es. HasParts [] (unwrap_or (lookup (λ k. bytes_eq name k.now) es) no_parts)) (sym none) (record { whole = refl; first = refl; next = refl; memory = refl })

-- an entry that is put under a name
pub put : (old new : Defined) (key : Bor (List ℕ)) (v : Parts) → ((q : Bor (List ℕ)) → lookup (λ k. bytes_eq q.now k.now) new.by_name.entries ≡ cond (bytes_eq key.now q.now) (Some v) (lookup (λ k. bytes_eq q.now k.now) old.by_name.entries)) → (name : List ℕ) → parts_under new name ≡ cond (bytes_eq key.now name) v (parts_under old name)
put old new key v h name = ap (λ o. unwrap_or o no_parts) (h (record { ref_ptr = key.ref_ptr; now = name })) ∙ by (bytes_eq key.now name)
  where
    by : (b : Bool) → unwrap_or (cond b (Some v) (lookup (λ k. bytes_eq name k.now) old.by_name.entries)) no_parts ≡ cond b v (parts_under old name)
    by true = refl
    by false = refl

has_same : (xs ys : List Def) (p q : Parts) → xs ≡ ys → p ≡ q → HasParts xs p → HasParts ys q
has_same xs ys p q e f h = subst (λ zs. HasParts zs q) e (subst (HasParts xs) f h)

-- a definition is kept behind others
pub keeps_more : (old new : Defined) (before : List Def) (d : Def) (v : Parts) → Keeps old before → ((name : List ℕ) → parts_under new name ≡ cond (bytes_eq d.name.text name) v (parts_under old name)) → HasParts (definitions_of before d.name.text ++ d ∷ []) v → Keeps new (before ++ d ∷ [])
keeps_more old new before d v keeps puts has name = by (bytes_eq d.name.text name) refl
  where
    own_more : (b : Bool) → bytes_eq d.name.text name ≡ b → definitions_of (before ++ d ∷ []) name ≡ definitions_of before name ++ cond b (d ∷ []) []
    own_more b is = filter-append (λ e. bytes_eq e.name.text name) before (d ∷ []) ∙ ap (λ x. definitions_of before name ++ cond x (d ∷ []) []) is

    by : (b : Bool) → bytes_eq d.name.text name ≡ b → HasParts (definitions_of (before ++ d ∷ []) name) (parts_under new name)
    by true is =
        let same : d.name.text ≡ name = (bytes_eq-Decides d.name.text name).0 is in
        has_same _ _ v (parts_under new name) (ap (λ n. definitions_of before n ++ d ∷ []) same ∙ sym (own_more true is)) (sym (puts name ∙ ap (λ b. cond b v (parts_under old name)) is)) has
    by false is =
        has_same _ _ (parts_under old name) (parts_under new name) (sym (own_more false is ∙ append-nil (definitions_of before name))) (sym (puts name ∙ ap (λ b. cond b v (parts_under old name)) is)) (keeps name)
