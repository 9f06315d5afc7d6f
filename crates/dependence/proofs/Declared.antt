-- Kinds whose structs are those that names stand for: what is accepted for one has as many cells.
use Rattle.std.proofs.Common.{◌≡◌, ℕ, ◌*◌, ◌==◌, true, List, length, Some, refl, sym, ap, ◌∙◌, arith}
use Rattle.hll_meaning.specs.Fitting.{is_scalar, accepts}
use Rattle.hll_meaning.specs.Kinds.{Kind, truth, whole, element, array, struct, Fields, cells, field_ranges}
use Rattle.hll_meaning.specs.Names.{type_of, Names, under}
use Rattle.hll_meaning.proofs.Faultless.{both}
use Rattle.dependence.specs.Laws.{HasStructsOf}
use Rattle.dependence.proofs.Apart.{same_name}
use Rattle.dependence.proofs.Picks.{array_cells}

same_number : (a b : ℕ) → (a == b) ≡ true → a ≡ b
same_number a b h = grind arith

same_struct : (ns : Names) (own other : List ℕ) (fs gs : Fields) → own ≡ other → under own ns ≡ Some (type_of (struct own fs)) → under other ns ≡ Some (type_of (struct other gs)) → fs ≡ gs
same_struct ns own other fs gs same a b =
    let e : Some (type_of (struct own fs)) ≡ Some (type_of (struct other gs)) = sym a ∙ ap (λ (w : List ℕ). under w ns) same ∙ b in
    let f : type_of (struct own fs) ≡ type_of (struct other gs) = cc e in
    let g : struct own fs ≡ struct other gs = cc f in
    cc g

-- what goes in the place of a kind has as many cells
pub accepted_cells : (ns : Names) (k given : Kind) → HasStructsOf ns k → HasStructsOf ns given → accepts k given ≡ true → cells k ≡ cells given
accepted_cells ns truth truth h g is = refl
accepted_cells ns truth (whole e) h g is = absurd (cc is)
accepted_cells ns truth (element root e) h g is = absurd (cc is)
accepted_cells ns truth (array n k) h g is = absurd (cc is)
accepted_cells ns truth (struct own fields) h g is = absurd (cc is)
accepted_cells ns (whole e) truth h g is = absurd (cc is)
accepted_cells ns (whole e) (whole f) h g is = refl
accepted_cells ns (whole e) (element root f) h g is = absurd (cc is)
accepted_cells ns (whole e) (array n k) h g is = absurd (cc is)
accepted_cells ns (whole e) (struct own fields) h g is = absurd (cc is)
accepted_cells ns (element root e) truth h g is = absurd (cc is)
accepted_cells ns (element root e) (whole f) h g is = absurd (cc is)
accepted_cells ns (element root e) (element other f) h g is = refl
accepted_cells ns (element root e) (array n k) h g is = absurd (cc is)
accepted_cells ns (element root e) (struct own fields) h g is = absurd (cc is)
accepted_cells ns (array n k) truth h g is = absurd (cc is)
accepted_cells ns (array n k) (whole f) h g is = absurd (cc is)
accepted_cells ns (array n k) (element root f) h g is = absurd (cc is)
accepted_cells ns (array n k) (array m l) h g is =
    let p = both (n == m) _ is in
    let count = same_number n m p.0 in
    let each = accepted_cells ns k l h g p.1 in
    array_cells n k ∙ (λ i. count i * each i) ∙ sym (array_cells m l)
accepted_cells ns (array n k) (struct own fields) h g is = absurd (cc is)
accepted_cells ns (struct own fields) truth h g is = absurd (cc is)
accepted_cells ns (struct own fields) (whole f) h g is = absurd (cc is)
accepted_cells ns (struct own fields) (element root f) h g is = absurd (cc is)
accepted_cells ns (struct own fields) (array m l) h g is = absurd (cc is)
accepted_cells ns (struct own fields) (struct other gs) h g is = ap (λ (x : Fields). length (field_ranges x)) (same_struct ns own other fields gs (same_name own other is) h.0 g.0)

-- a scalar has one cell
pub scalar_cell : (k : Kind) → is_scalar k ≡ true → cells k ≡ 1
scalar_cell truth h = refl
scalar_cell (whole e) h = refl
scalar_cell (element root e) h = refl
scalar_cell (array n k) h = absurd (cc h)
scalar_cell (struct own fields) h = absurd (cc h)

-- only a scalar goes in the place of one, and one only in the place of a scalar
pub accepted_scalar : (k given : Kind) → accepts k given ≡ true → is_scalar given ≡ true → is_scalar k ≡ true
accepted_scalar truth given is s = refl
accepted_scalar (whole e) given is s = refl
accepted_scalar (element root e) given is s = refl
accepted_scalar (array n k) truth is s = absurd (cc is)
accepted_scalar (array n k) (whole f) is s = absurd (cc is)
accepted_scalar (array n k) (element root f) is s = absurd (cc is)
accepted_scalar (array n k) (array m l) is s = absurd (cc s)
accepted_scalar (array n k) (struct own fields) is s = absurd (cc s)
accepted_scalar (struct own fields) truth is s = absurd (cc is)
accepted_scalar (struct own fields) (whole f) is s = absurd (cc is)
accepted_scalar (struct own fields) (element root f) is s = absurd (cc is)
accepted_scalar (struct own fields) (array m l) is s = absurd (cc s)
accepted_scalar (struct own fields) (struct other gs) is s = absurd (cc s)
