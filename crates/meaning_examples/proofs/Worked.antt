-- Worked examples, layer by layer: each equation takes one layer off an expression or a part of it.
use Rattle.std.proofs.Common.{◌≡◌, ℕ, pos, Bool, true, false, Some, [], ◌∷◌, ◌++◌, ◌==◌, if◌then◌else◌, sym, ap, ◌∙◌}
use Rattle.std.specs.List.{list_all}
use Rattle.intervals.specs.Ends.{Ends}
use Rattle.hll_tree.specs.declared.tree.Domain.{Domain-F, roll-Domain}
use Rattle.hll_tree.specs.declared.tree.Expr.{Expr, roll-Expr}
use Rattle.hll_tree.specs.declared.tree.Form.{Form-F, roll-Form}
use Rattle.hll_tree.specs.declared.tree.Name.{Name}
use Rattle.hll_tree.specs.declared.tree.Cmp.{Cmp}
use Rattle.hll_tree.specs.declared.tree.Cmp.TheVariants as cmp
use Rattle.hll_tree.specs.declared.tree.Op.{Op}
use Rattle.hll_tree.specs.declared.tree.Op.TheVariants as op
use Rattle.hll_tree.specs.declared.tree.Reach.{Reach-F, roll-Reach}
use Rattle.hll_meaning.specs.Kinds.{Value, Step}
use Rattle.hll_meaning.specs.Values.{Scene, In, domain_range, form_worth, reach_step, worth}
use Rattle.hll_meaning.proofs.LookedWorth.{Layer, part_values, domain_value, reach_value, value_form, value_expr, value_link, value_branch, value_bounds, value_truths, value_named, value_at, value_field, parts_seen, seen_form, seen_expr, seen_link, seen_branch, seen_bounds, seen_truths, seen_named, seen_at, seen_field}
use Rattle.hll_meaning.specs.Safety.{Looked, LookedLink, form_looked, looked, watched_in, is_safe_at}
use Rattle.meaning_examples.specs.Examples.{int, link, binary, compare, pre, bad, asked, IsSafeAt}

pub worth_layer : (y : Layer) (s : Scene) → worth (roll-Expr (record { at = 0; form = roll-Form y })) s ≡ form_worth (part_values y) s
worth_layer y s = ap (λ (g : In Value). g s) (value_expr 0 (roll-Form y) ∙ value_form y)

pub bounds_layer : (a b : Expr) (s : Scene) → domain_value (roll-Domain (Domain-F.Bounds a b)) s ≡ domain_range (Domain-F.Bounds (worth a) (worth b)) s
bounds_layer a b s = ap (λ (g : In Ends). g s) (value_bounds a b)

pub truths_layer : (s : Scene) → domain_value (roll-Domain Domain-F.Bool) s ≡ domain_range Domain-F.Bool s
truths_layer s = ap (λ (g : In Ends). g s) value_truths

pub named_layer : (n : Name) (s : Scene) → domain_value (roll-Domain (Domain-F.Named n)) s ≡ domain_range (Domain-F.Named n) s
named_layer n s = ap (λ (g : In Ends). g s) (value_named n)

pub at_layer : (e : Expr) (s : Scene) → reach_value (roll-Reach (Reach-F.At e)) s ≡ reach_step (Reach-F.At (worth e)) s
at_layer e s = ap (λ (g : In Step). g s) (value_at e)

pub field_layer : (n : Name) (s : Scene) → reach_value (roll-Reach (Reach-F.Field n)) s ≡ reach_step (Reach-F.Field n) s
field_layer n s = ap (λ (g : In Step). g s) (value_field n)

-- what an expression is worth, worked out
pub ruleset worked = (worth_layer, value_link, value_branch, bounds_layer, truths_layer, named_layer, at_layer, field_layer)

pub looked_layer : (y : Layer) → looked (roll-Expr (record { at = 0; form = roll-Form y })) ≡ form_looked (parts_seen y) 0
looked_layer y = seen_expr 0 (roll-Form y) ∙ ap (λ (g : ℕ → Looked). g 0) (seen_form y)

-- what an expression looks at, worked out
pub ruleset looked_at = (looked_layer, seen_link, seen_branch, seen_bounds, seen_truths, seen_named, seen_at, seen_field)

-- ---- what is looked at by itself

-- what an expression looks at, with its equation
abbrev pub Seen : Expr → Type 0
Seen e = (l : Looked) × (looked e ≡ l)

abbrev pub seen_int : (n : ℕ) → Seen (int n)
seen_int n = (form_looked (Form-F.Number (pos n)) 0, looked_layer (Form-F.Number (pos n)))

abbrev pub seen_binary : (a b : Expr) (o : Op) → Seen a → Seen b → Seen (binary a o b)
seen_binary a b o x y =
    let p = x.1 in
    let q = y.1 in (
      form_looked (Form-F.Chain x.0 (record { op = o; with = y.0 } ∷ [])) 0,
      looked_layer (Form-F.Chain a (link o b ∷ [])) ∙ ap (λ (l : LookedLink). form_looked (Form-F.Chain (looked a) (l ∷ [])) 0) (seen_link o 0 b) ∙
          (λ i. form_looked (Form-F.Chain (p i) (record { op = o; with = q i } ∷ [])) 0),
    )

abbrev pub seen_compare : (a b : Expr) (c : Cmp) → Seen a → Seen b → Seen (compare a c b)
seen_compare a b c x y =
    let p = x.1 in
    let q = y.1 in
    (form_looked (Form-F.Compare c x.0 y.0) 0, looked_layer (Form-F.Compare c a b) ∙ (λ i. form_looked (Form-F.Compare c (p i) (q i)) 0))

abbrev pub seen_pre : (a b : Expr) → Seen a → Seen b → Seen (pre a b)
seen_pre a b x y =
    let p = x.1 in
    let q = y.1 in
    (form_looked (Form-F.Pre x.0 (Some y.0)) 0, looked_layer (Form-F.Pre a (Some b)) ∙ (λ i. form_looked (Form-F.Pre (p i) (Some (q i))) 0))

-- whether all that is looked at there is safe
abbrev pub all_are_safe : ℕ → Looked → Bool
all_are_safe t l = list_all (λ w. if w.at == 0 then is_safe_at (asked (int 0)) ([] ∷ [] ∷ []) t w else true) (watched_in l ++ [])

abbrev pub seen_bad : Seen bad
seen_bad = seen_binary (int 1) (int 0) op.Over (seen_int 1) (seen_int 0)

abbrev pub seen_asked : (e : Expr) → Seen e → Seen (compare e cmp.Eq (int 1))
seen_asked e x = seen_compare e (int 1) cmp.Eq x (seen_int 1)

pub is_safe_at_time : (t : ℕ) (e : Expr) (x : Seen e) → all_are_safe t (seen_asked e x).0 ≡ true → IsSafeAt t e
is_safe_at_time t e x safe = ap (all_are_safe t) (seen_asked e x).1 ∙ safe

pub is_unsafe_at_time : (t : ℕ) (e : Expr) (x : Seen e) → all_are_safe t (seen_asked e x).0 ≡ false → IsSafeAt t e → ⊥
is_unsafe_at_time t e x bad safe = true_false (sym safe ∙ ap (all_are_safe t) (seen_asked e x).1 ∙ bad)
  where
    true_false : true ≡ false → ⊥
    true_false h = cc
