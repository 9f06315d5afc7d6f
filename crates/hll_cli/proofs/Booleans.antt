-- Whether an expression is Boolean, form by form.
use Rattle.std.proofs.Common.{arith, ◌≡◌, ℕ, zero, suc, ◌<◌, get_or, ℤ, Bool, true, false, Option, List, [], ◌∷◌, length, map, ◌∙◌, ap, sym, refl}
use Rattle.std.specs.Prelude.{◌&&◌, ◌==◌}
use Rattle.std.specs.List.{list_all}
use Rattle.std.proofs.lemmas.Bool.{false≢true}
use Rattle.intervals.specs.declared.interval.Interval.{Interval}
use Rattle.hll_tree.specs.declared.tree.Branch.{Branch}
use Rattle.hll_tree.specs.declared.tree.Cmp.{Cmp}
use Rattle.hll_tree.specs.declared.tree.Domain.{Domain}
use Rattle.hll_tree.specs.declared.tree.Expr.{Expr}
use Rattle.hll_tree.specs.declared.tree.Form.{Number, Truth, Path, Chain, Compare, Minus, Not, Choice, Group, Quant as Quantified, Pre, Least, Greatest, Size, Starting, Within}
use Rattle.hll_tree.specs.declared.tree.Link.{Link}
use Rattle.hll_tree.specs.declared.tree.Name.{Name}
use Rattle.hll_tree.specs.declared.tree.Quant.{Quant}
use Rattle.hll_tree.specs.declared.tree.Reach.{Reach}
use Rattle.hll_cli.specs.BooleanTexts.{is_boolean, is_boolean_op}
use Rattle.hll_cli.proofs.RowValues.{is_boolean-number, is_boolean-truth, is_boolean-path, is_boolean-reaching, is_boolean-compare, is_boolean-minus, is_boolean-not, is_boolean-choice, is_boolean-group, is_boolean-quant, is_boolean-pre, is_boolean-least, is_boolean-greatest, is_boolean-size, is_boolean-starting, is_boolean-within, is_boolean-chain}
use Rattle.hll_cli.specs.Accepted.{is_boolean_link}

pub boolean_number : (e : Expr) (n : ℤ) → e.form ≡ Number n → is_boolean e ≡ false
boolean_number e n is = is_boolean-number e n is

pub boolean_truth : (e : Expr) (b : Bool) → e.form ≡ Truth b → is_boolean e ≡ true
boolean_truth e b is = is_boolean-truth e b is

pub boolean_path : (e : Expr) (name : Name) → e.form ≡ Path name [] → is_boolean e ≡ true
boolean_path e name is = is_boolean-path e name is

pub boolean_reaching : (e : Expr) (name : Name) (r : Reach) (rs : List Reach) → e.form ≡ Path name (r ∷ rs) → is_boolean e ≡ false
boolean_reaching e name r rs is = is_boolean-reaching e name r rs is

pub boolean_compare : (e : Expr) (c : Cmp) (a b : Expr) → e.form ≡ Compare c a b → is_boolean e ≡ false
boolean_compare e c a b is = is_boolean-compare e c a b is

pub boolean_minus : (e : Expr) (x : Expr) → e.form ≡ Minus x → is_boolean e ≡ false
boolean_minus e x is = is_boolean-minus e x is

pub boolean_not : (e : Expr) (x : Expr) → e.form ≡ Not x → is_boolean e ≡ (is_boolean x)
boolean_not e x is = is_boolean-not e x is

pub boolean_choice : (e : Expr) (branches : List Branch) (x : Expr) → e.form ≡ Choice branches x → is_boolean e ≡ false
boolean_choice e branches x is = is_boolean-choice e branches x is

pub boolean_group : (e : Expr) (xs : List Expr) → e.form ≡ Group xs → is_boolean e ≡ false
boolean_group e xs is = is_boolean-group e xs is

pub boolean_quant : (e : Expr) (q : Quant) (n : Name) (d : Domain) (x : Expr) → e.form ≡ Quantified q n d x → is_boolean e ≡ false
boolean_quant e q n d x is = is_boolean-quant e q n d x is

pub boolean_pre : (e : Expr) (x : Expr) (first : Option Expr) → e.form ≡ Pre x first → is_boolean e ≡ false
boolean_pre e x first is = is_boolean-pre e x first is

pub boolean_least : (e : Expr) (xs : List Expr) → e.form ≡ Least xs → is_boolean e ≡ false
boolean_least e xs is = is_boolean-least e xs is

pub boolean_greatest : (e : Expr) (xs : List Expr) → e.form ≡ Greatest xs → is_boolean e ≡ false
boolean_greatest e xs is = is_boolean-greatest e xs is

pub boolean_size : (e : Expr) (x : Expr) → e.form ≡ Size x → is_boolean e ≡ false
boolean_size e x is = is_boolean-size e x is

pub boolean_starting : (e : Expr) → e.form ≡ Starting → is_boolean e ≡ false
boolean_starting e is = is_boolean-starting e is

pub boolean_within : (e : Expr) (x : Expr) (i : Interval) → e.form ≡ Within x i → is_boolean e ≡ false
boolean_within e x i is = is_boolean-within e x i is

all_map : {A : Type 0} (f : A → Bool) (xs : List A) → list_all (λ x. x) (map f xs) ≡ list_all f xs
all_map f [] = refl
all_map f (x ∷ xs) = ap (λ b. f x && b) (all_map f xs)

pub boolean_chain : (e first : Expr) (links : List Link) → e.form ≡ Chain first links → is_boolean e ≡ (is_boolean first && list_all is_boolean_link links)
boolean_chain e first links is = is_boolean-chain e first links is ∙ ap (λ b. is_boolean first && b) (all_map is_boolean_link links)

pub path_boolean : (e : Expr) (name : Name) (rs : List Reach) (empty : Bool) → e.form ≡ Path name rs → empty ≡ (length rs == 0) → empty ≡ is_boolean e
path_boolean e name [] empty is same = same ∙ sym (is_boolean-path e name is)
path_boolean e name (r ∷ rs) empty is same = same ∙ nonempty rs ∙ sym (is_boolean-reaching e name r rs is)
  where
    nonempty : (rs : List Reach) → (suc (length rs) == 0) ≡ false
    nonempty rs = grind arith

pub chain_true : (e first : Expr) (links : List Link) (f r : Bool) → e.form ≡ Chain first links → f ≡ is_boolean first → f ≡ true → r ≡ list_all is_boolean_link links → r ≡ is_boolean e
chain_true e first links f r is same holds rest = rest ∙ ap (λ b. b && list_all is_boolean_link links) (sym holds ∙ same) ∙ sym (boolean_chain e first links is)

pub chain_false : (e first : Expr) (links : List Link) (f : Bool) → e.form ≡ Chain first links → f ≡ is_boolean first → f ≡ false → f ≡ is_boolean e
chain_false e first links f is same fails = fails ∙ ap (λ b. b && list_all is_boolean_link links) (sym fails ∙ same) ∙ sym (boolean_chain e first links is)

-- false is not true
apart : (b : Bool) → b ≡ false → b ≡ true → ⊥
apart b fails holds = false≢true (sym fails ∙ holds)

pub not_number : (e : Expr) (n : ℤ) → e.form ≡ Number n → is_boolean e ≡ true → ⊥
not_number e n is = apart (is_boolean e) (boolean_number e n is)

pub not_compare : (e : Expr) (c : Cmp) (a b : Expr) → e.form ≡ Compare c a b → is_boolean e ≡ true → ⊥
not_compare e c a b is = apart (is_boolean e) (boolean_compare e c a b is)

pub not_minus : (e : Expr) (x : Expr) → e.form ≡ Minus x → is_boolean e ≡ true → ⊥
not_minus e x is = apart (is_boolean e) (boolean_minus e x is)

pub not_choice : (e : Expr) (branches : List Branch) (x : Expr) → e.form ≡ Choice branches x → is_boolean e ≡ true → ⊥
not_choice e branches x is = apart (is_boolean e) (boolean_choice e branches x is)

pub not_group : (e : Expr) (xs : List Expr) → e.form ≡ Group xs → is_boolean e ≡ true → ⊥
not_group e xs is = apart (is_boolean e) (boolean_group e xs is)

pub not_quant : (e : Expr) (q : Quant) (n : Name) (d : Domain) (x : Expr) → e.form ≡ Quantified q n d x → is_boolean e ≡ true → ⊥
not_quant e q n d x is = apart (is_boolean e) (boolean_quant e q n d x is)

pub not_pre : (e : Expr) (x : Expr) (first : Option Expr) → e.form ≡ Pre x first → is_boolean e ≡ true → ⊥
not_pre e x first is = apart (is_boolean e) (boolean_pre e x first is)

pub not_least : (e : Expr) (xs : List Expr) → e.form ≡ Least xs → is_boolean e ≡ true → ⊥
not_least e xs is = apart (is_boolean e) (boolean_least e xs is)

pub not_greatest : (e : Expr) (xs : List Expr) → e.form ≡ Greatest xs → is_boolean e ≡ true → ⊥
not_greatest e xs is = apart (is_boolean e) (boolean_greatest e xs is)

pub not_size : (e : Expr) (x : Expr) → e.form ≡ Size x → is_boolean e ≡ true → ⊥
not_size e x is = apart (is_boolean e) (boolean_size e x is)

pub not_starting : (e : Expr) → e.form ≡ Starting → is_boolean e ≡ true → ⊥
not_starting e is = apart (is_boolean e) (boolean_starting e is)

pub not_within : (e : Expr) (x : Expr) (i : Interval) → e.form ≡ Within x i → is_boolean e ≡ true → ⊥
not_within e x i is = apart (is_boolean e) (boolean_within e x i is)

-- what is true of a chain is true of its first operand
pub chain_boolean_first : (e first : Expr) (links : List Link) → e.form ≡ Chain first links → is_boolean e ≡ true → is_boolean first ≡ true
chain_boolean_first e first links is holds = and_left (is_boolean first) (list_all is_boolean_link links) (sym (boolean_chain e first links is) ∙ holds)
  where
    and_left : (a b : Bool) → (a && b) ≡ true → a ≡ true
    and_left true b h = refl
    and_left false b h = h

-- and of each of its links
pub chain_boolean_link : (e first : Expr) (links : List Link) (i : ℕ) (link : Link) → e.form ≡ Chain first links → i < length links → link ≡ get_or links i link →
    is_boolean e ≡ true → (is_boolean_op link.op ≡ true) × (is_boolean link.with ≡ true)
chain_boolean_link e first links i link is within item holds = at links i within item (and_right (is_boolean first) (list_all is_boolean_link links) (sym (boolean_chain e first links is) ∙ holds))
  where
    and_both : (a b : Bool) → (a && b) ≡ true → (a ≡ true) × (b ≡ true)
    and_both true true h = (refl, refl)
    and_both true false h = (refl, h)
    and_both false b h = (h, absurd (false≢true h))

    and_right : (a b : Bool) → (a && b) ≡ true → b ≡ true
    and_right a b h = (and_both a b h).1

    at : (ls : List Link) (i : ℕ) → i < length ls → link ≡ get_or ls i link → list_all is_boolean_link ls ≡ true → (is_boolean_op link.op ≡ true) × (is_boolean link.with ≡ true)
    at [] i within item all = absurd (omega arith)
    at (l ∷ ls) zero within item all =
        let here : is_boolean_link l ≡ true = (and_both (is_boolean_link l) (list_all is_boolean_link ls) all).0 in
        let mine : is_boolean_link link ≡ true = ap is_boolean_link item ∙ here in
        and_both (is_boolean_op link.op) (is_boolean link.with) mine
    at (l ∷ ls) (suc i) within item all = at ls i (omega arith) item (and_both (is_boolean_link l) (list_all is_boolean_link ls) all).1
