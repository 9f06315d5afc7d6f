-- The column of an expression, from those of its parts.
use Rattle.std.proofs.Common.{◌≡◌, ℕ, zero, suc, ◌<◌, ◌≤◌, ◌^◌, List, [], ◌∷◌, ◌++◌, length, get_or, take, drop, map, Bool, false, not, ◌||◌, Contains, arith, ap, sym, ◌∙◌, subst}
use Rattle.std.specs.List.{flat_map, AllByRecursion}
use Rattle.hll_tree.specs.declared.tree.Expr.{Expr}
use Rattle.hll_tree.specs.declared.tree.Form.{Truth, Path, Chain, Not}
use Rattle.hll_tree.specs.declared.tree.Link.{Link}
use Rattle.hll_tree.specs.declared.tree.Name.{Name}
use Rattle.hll_tree.specs.declared.tree.Reach.{Reach}
use Rattle.hll_tree.specs.declared.tree.Op.{Op}
use Rattle.hll_cli.specs.BooleanTexts.{names_in, UsesOnly}
use Rattle.hll_cli.proofs.RowValues.{link_value, value_in-truth, value_in-path, value_in-not, value_in-chain, names_in-truth, names_in-path, names_in-not, names_in-chain}
use Rattle.hll_cli.specs.Table.{value_in, value_at, chain_value, row, IsColumn}
use Rattle.hll_cli.proofs.Rows.{length-row}
use Rattle.std.proofs.lemmas.List.{take-append-le}
use Rattle.std.proofs.Math.Seq.{take-length}

-- the variables at a row
abbrev pub look : List (List ℕ) → ℕ → List ℕ → Bool
look ns k = value_at ns (row (length ns) k)

-- ---- names

pub all_append : {X : Type 0} (P : X → Type 0) (xs ys : List X) → AllByRecursion P xs → AllByRecursion P ys → AllByRecursion P (xs ++ ys)
all_append P [] ys p q = q
all_append P (x ∷ xs) ys p q = (p.0, all_append P xs ys p.1 q)

pub all_front : {X : Type 0} (P : X → Type 0) (xs ys : List X) → AllByRecursion P (xs ++ ys) → AllByRecursion P xs
all_front P [] ys p = tt
all_front P (x ∷ xs) ys p = (p.0, all_front P xs ys p.1)

pub all_back : {X : Type 0} (P : X → Type 0) (xs ys : List X) → AllByRecursion P (xs ++ ys) → AllByRecursion P ys
all_back P [] ys p = p
all_back P (x ∷ xs) ys p = all_back P xs ys p.1

-- an operand of a chain uses only what the chain does
pub link_uses : (ns : List (List ℕ)) (links : List Link) (i : ℕ) (link : Link) → i < length links → link ≡ get_or links i link →
    AllByRecursion (Contains ns) (flat_map (λ l. names_in l.with) links) → UsesOnly ns link.with
link_uses ns [] i link within is all = absurd (omega arith)
link_uses ns (l ∷ ls) zero link within is all = subst (λ (x : Link). UsesOnly ns x.with) (sym is) (all_front (Contains ns) (names_in l.with) _ all)
link_uses ns (l ∷ ls) (suc i) link within is all = link_uses ns ls i link (omega arith) is (all_back (Contains ns) (names_in l.with) _ all)

pub truth_uses : (ns : List (List ℕ)) (e : Expr) (b : Bool) → e.form ≡ Truth b → UsesOnly ns e
truth_uses ns e b is = rw (names_in-truth e b is) tt

pub path_uses : (ns : List (List ℕ)) (e : Expr) (name : Name) (reaches : List Reach) → e.form ≡ Path name reaches → Contains ns name.text → UsesOnly ns e
path_uses ns e name reaches is there = rw (names_in-path e name reaches is) (there, tt)

pub path_used : (ns : List (List ℕ)) (e : Expr) (name : Name) (reaches : List Reach) → e.form ≡ Path name reaches → UsesOnly ns e → Contains ns name.text
path_used ns e name reaches is all = (rw (names_in-path e name reaches is) at all).0

pub not_uses : (ns : List (List ℕ)) (e inner : Expr) → e.form ≡ Not inner → UsesOnly ns inner → UsesOnly ns e
not_uses ns e inner is all = rw (names_in-not e inner is) all

pub not_used : (ns : List (List ℕ)) (e inner : Expr) → e.form ≡ Not inner → UsesOnly ns e → UsesOnly ns inner
not_used ns e inner is all = rw (names_in-not e inner is) at all

pub chain_used_first : (ns : List (List ℕ)) (e first : Expr) (links : List Link) → e.form ≡ Chain first links → UsesOnly ns e → UsesOnly ns first
chain_used_first ns e first links is all = all_front (Contains ns) (names_in first) _ (rw (names_in-chain e first links is) at all)

pub chain_used_link : (ns : List (List ℕ)) (e first : Expr) (links : List Link) (i : ℕ) (link : Link) → e.form ≡ Chain first links →
    i < length links → link ≡ get_or links i link → UsesOnly ns e → UsesOnly ns link.with
chain_used_link ns e first links i link is within item all =
    link_uses ns links i link within item (all_back (Contains ns) (names_in first) _ (rw (names_in-chain e first links is) at all))

-- ---- columns

pub truth_column : (ns : List (List ℕ)) (e : Expr) (b : Bool) (column : List Bool) (rows : ℕ) → rows ≡ 2 ^ length ns → e.form ≡ Truth b → length column ≡ rows →
    ((k : ℕ) → k < rows → get_or column k false ≡ b) → IsColumn ns e column
truth_column ns e b column rows whole is long each =
    record { whole = long ∙ whole; each = λ k h. each k (omega arith) ∙ sym (value_in-truth (look ns k) e b is) }

pub path_column : (ns : List (List ℕ)) (e : Expr) (name : Name) (reaches : List Reach) (position : ℕ) (column : List Bool) (inputs : ℕ) → length ns ≡ inputs →
    e.form ≡ Path name reaches → length column ≡ 2 ^ inputs →
    ((values : List Bool) → length values ≡ inputs → value_at ns values name.text ≡ get_or values position false) →
    ((k : ℕ) → k < 2 ^ inputs → get_or column k false ≡ get_or (row inputs k) position false) → IsColumn ns e column
path_column ns e name reaches position column inputs same is long value each = record {
  whole = long ∙ ap (λ n. 2 ^ n) (sym same);
  each = λ k h.
      each k (subst (λ n. k < 2 ^ n) same h) ∙ sym (value (row inputs k) (length-row inputs k))
      ∙ ap (λ n. value_at ns (row n k) name.text) (sym same) ∙ sym (value_in-path (look ns k) e name reaches is);
}

pub not_column : (ns : List (List ℕ)) (e inner : Expr) (before after : List Bool) → e.form ≡ Not inner → IsColumn ns inner before → length after ≡ length before →
    ((k : ℕ) → k < length before → get_or after k false ≡ not (get_or before k false)) → IsColumn ns e after
not_column ns e inner before after is column long each =
    let whole = column.whole in
    record { whole = long ∙ column.whole; each = λ k h. each k (omega arith) ∙ ap not (column.each k h) ∙ sym (value_in-not (look ns k) e inner is) }

-- a chain as far as its links were read, and the links that are left
pub record ChainSoFar (ns : List (List ℕ)) (e : Expr) (settled value : List Bool) (rest : List Link) : Type 0 where
  pub settled_whole : length settled ≡ 2 ^ length ns
  pub value_whole : length value ≡ 2 ^ length ns
  pub each : (k : ℕ) → k < 2 ^ length ns → (get_or settled k false || chain_value (get_or value k false) (map (link_value (look ns k)) rest)) ≡ value_in (look ns k) e

pub chain_start : (ns : List (List ℕ)) (e first : Expr) (links : List Link) (settled value : List Bool) (rows : ℕ) → rows ≡ 2 ^ length ns → e.form ≡ Chain first links →
    IsColumn ns first value → length settled ≡ rows → ((k : ℕ) → k < rows → get_or settled k false ≡ false) → ChainSoFar ns e settled value links
chain_start ns e first links settled value rows whole is column long none = record {
  settled_whole = long ∙ whole;
  value_whole = column.whole;
  each = λ k h.
      ap (λ b. b || chain_value (get_or value k false) (map (link_value (look ns k)) links)) (none k (omega arith))
      ∙ ap (λ b. chain_value b (map (link_value (look ns k)) links)) (column.each k h)
      ∙ sym (value_in-chain (look ns k) e first links is);
}

pub chain_step : (ns : List (List ℕ)) (e : Expr) (link : Link) (rest : List Link) (settled value next settled' value' : List Bool) →
    ChainSoFar ns e settled value (link ∷ rest) → IsColumn ns link.with next →
    length settled' ≡ length settled → length value' ≡ length value →
    ((k : ℕ) (links : List (Op × Bool)) → k < length settled →
    (get_or settled' k false || chain_value (get_or value' k false) links)
    ≡ (get_or settled k false || chain_value (get_or value k false) ((link.op, get_or next k false) ∷ links))) →
    ChainSoFar ns e settled' value' rest
chain_step ns e link rest settled value next settled' value' so_far column long long' step =
    let whole = so_far.settled_whole in
    record {
      settled_whole = long ∙ so_far.settled_whole;
      value_whole = long' ∙ so_far.value_whole;
      each = λ k h.
          step k (map (link_value (look ns k)) rest) (omega arith)
          ∙ ap (λ b. get_or settled k false || chain_value (get_or value k false) ((link.op, b) ∷ map (link_value (look ns k)) rest)) (column.each k h)
          ∙ so_far.each k h;
    }

pub chain_end : (ns : List (List ℕ)) (e : Expr) (settled value column : List Bool) → ChainSoFar ns e settled value [] → length column ≡ length value →
    ((k : ℕ) → k < length value → get_or column k false ≡ (get_or settled k false || get_or value k false)) → IsColumn ns e column
chain_end ns e settled value column so_far long each =
    let whole = so_far.value_whole in
    record { whole = long ∙ so_far.value_whole; each = λ k h. each k (omega arith) ∙ so_far.each k h }

-- the links from a place on are the one there and those after it
pub links_from : (links : List Link) (i : ℕ) (link : Link) → i < length links → link ≡ get_or links i link → drop i links ≡ link ∷ drop (suc i) links
links_from [] i link within is = absurd (omega arith)
links_from (l ∷ ls) zero link within is = ap (λ x. x ∷ ls) (sym is)
links_from (l ∷ ls) (suc i) link within is = links_from ls i link (omega arith) is

-- what a list of the same length leaves of one that it is written over
pub written_whole : {X : Type 0} (n : ℕ) (new old : List X) → length new ≡ n → length old ≡ n → take n (new ++ drop (length new) old) ≡ new
written_whole n new old long long' =
    let short : n ≤ length new = omega arith in
    take-append-le n new _ short ∙ ap (λ m. take m new) (sym long) ∙ take-length new
