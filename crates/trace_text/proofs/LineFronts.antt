-- Cells with their values at the front of some bytes, and lines.
use Rattle.std.proofs.Common.{◌≡◌, ℕ, zero, suc, ◌+◌, ◌*◌, ◌-◌, ◌^◌, ◌<◌, ◌≤◌, min, ℤ, List, [], ◌∷◌, ◌++◌, map, length, get_or, slice_get, Some, refl, sym, ap, subst, ◌∙◌, arith, append_assoc}
use Rattle.std.proofs.Math.Nat.{mul-le-mul_left}
use Rattle.std.specs.Prelude.{codes, decimal, Result, Ok, Err, MatchResult}
use Rattle.std.specs.List.{AllByRecursion}
use Rattle.std.specs.Result.{IsErrAnd}
use Rattle.std.proofs.lemmas.List.{append-nil, length-append}
use Rattle.hll_tree.specs.declared.tree.HllModel.{HllModel}
use Rattle.hll_tree.specs.Printing.{Text}
use Rattle.hll_meaning.specs.Names.{Names}
use Rattle.hll_meaning.specs.Declarations.{names}
use Rattle.hll_meaning.specs.Cells.{Cell, input_cells, text_cells}
use Rattle.cell_columns.specs.declared.columns.Column.{Column}
use Rattle.trace_text.specs.declared.fault.TraceKind.{TraceKind}
use Rattle.trace_text.specs.declared.fault.TraceKind.TheVariants as wrong
use Rattle.trace_text.specs.declared.fault.Unread.{Unread}
use Rattle.trace_text.specs.declared.fault.Unread.TheVariants as unread
use Rattle.hll_types.specs.Measures.{capped}
use Rattle.cell_columns.specs.Columns.{cell_of}
use Rattle.trace_text.specs.Parts.{AreLines, AreRead, AreUnread, IsLine, IsUnreadCell, IsUnreadLine, IsWrongCell}
use Rattle.trace_text.specs.Traces.{cells_text, line_text, lines_text, value_text, AreFew, AreValues}
use Rattle.trace_text.specs.Faults.{HasValue, IsDue, IsRightUpTo, IsWrong, LacksEnd, Never, Stand}

-- ---- cells

-- no cell stands in no bytes
pub stand_none : (all : Names) (cs : List Cell) (bytes : Text) → Stand all cs [] bytes bytes
stand_none all [] bytes = refl
stand_none all (c ∷ cs) bytes = refl

pub stand_end : (all : Names) (cs : List Cell) (bytes after : Text) → Stand all cs [] bytes after → bytes ≡ after
stand_end all [] bytes after s = s
stand_end all (c ∷ cs) bytes after s = s

-- one cell more
pub stand_more : (all : Names) (cs : List Cell) (xs : List ℤ) (bytes after value rest : Text) (c : Cell) (x : ℤ) → Stand all cs xs bytes after → slice_get cs (length xs) ≡ Some c →
    IsDue c after value → HasValue all c.kind value x rest → Stand all cs (xs ++ x ∷ []) bytes rest
stand_more all [] [] bytes after value rest c x s next due has = absurd (cc next)
stand_more all [] (y ∷ xs) bytes after value rest c x s next due has = absurd s
stand_more all (d ∷ cs) [] bytes after value rest c x s next due has =
    let same : d ≡ c = cc next in (
      value,
      rest,
      subst (λ (e : Cell). IsDue e bytes value) (sym same) (s ∙ due),
      subst (λ (e : Cell). HasValue all e.kind value x rest) (sym same) has,
      stand_none all cs rest,
    )
stand_more all (d ∷ cs) (y ∷ xs) bytes after value rest c x s next due has = (s.0, s.1, s.2, s.3, stand_more all cs xs s.1 after value rest c x s.4 next due has)

-- what stands where all cells do
pub stand_text : (all : Names) (cs : List Cell) (xs : List ℤ) (bytes after : Text) → Stand all cs xs bytes after → length xs ≡ length cs → (bytes ≡ cells_text all cs xs ++ after) × AreValues cs xs
stand_text all [] [] bytes after s count = (s, tt)
stand_text all [] (x ∷ xs) bytes after s count = absurd s
stand_text all (c ∷ cs) [] bytes after s count = absurd (omega (arith, count))
stand_text all (c ∷ cs) (x ∷ xs) bytes after s count =
    let rest = stand_text all cs xs s.1 after s.4 (omega (arith, count)) in
    let own = codes " " ++ c.name ++ codes "=" in
    let text = value_text all c.kind x in (
      s.2 ∙ ap (λ (t : Text). own ++ t) (s.3.written ∙ ap (λ (t : Text). text ++ t) rest.0)
          ∙ regroup own text (cells_text all cs xs) after,
      (s.3.value, rest.1),
    )
  where
    regroup : (a b c d : Text) → a ++ (b ++ (c ++ d)) ≡ ((a ++ b) ++ c) ++ d
    regroup a b c d = simp append_assoc

-- the column that is read is the next cell
pub column_at : (columns : List Column) (i : ℕ) (column : Column) → i < length columns → column ≡ get_or columns i column → slice_get (map cell_of columns) i ≡ Some (cell_of column)
column_at [] i column lt is = absurd (omega (arith, lt))
column_at (c ∷ columns) zero column lt is = ap (λ (d : Column). Some (cell_of d)) (sym is)
column_at (c ∷ columns) (suc i) column lt is = column_at columns i column (omega (arith, lt)) is

-- ---- lines

-- the line of an instant, from its parts
pub line_read : (m : HllModel) (t : ℕ) (text cells rest more : Text) (xs : List ℤ) → AreFew m (t + 1) → text ≡ (decimal t ++ codes ":") ++ cells → AreRead (names m) (input_cells m) cells xs rest → rest ≡ codes "\n" ++ more → IsLine m t text xs more
line_read m t text cells rest more xs few begins read ends =
    let parts = stand_text (names m) (input_cells m) xs cells rest read.stand read.count in
    record {
      few = few;
      values = parts.1;
      written = begins ∙ ap (λ (u : Text). (decimal t ++ codes ":") ++ u) (parts.0 ∙ ap (λ (u : Text). cells_text (names m) (input_cells m) xs ++ u) ends)
          ∙ regroup (decimal t ++ codes ":") (cells_text (names m) (input_cells m) xs) (codes "\n") more;
    }
  where
    regroup : (a b c d : Text) → a ++ (b ++ (c ++ d)) ≡ ((a ++ b) ++ c) ++ d
    regroup a b c d = simp append_assoc

-- ---- what is wrong

pub match_err : {A E : Type 0} (P : A → Type 0) (Q : E → Type 0) (r : Result A E) (e : E) → IsErrAnd r (λ f. f ≡ e) → Q e → MatchResult r P Q
match_err P Q (Ok a) e h q = absurd h
match_err P Q (Err f) e h q = subst Q (sym h) q

-- a cell behind others is wrong
pub cells_wrong : (all : Names) (cs : List Cell) (xs : List ℤ) (bytes after : Text) (next : Cell) (why : Unread) → Stand all cs xs bytes after → slice_get cs (length xs) ≡ Some next → IsUnreadCell all next after why → AreUnread all cs bytes why
cells_wrong all cs xs bytes after next unread.Memory s is h = absurd h
cells_wrong all cs xs bytes after next (unread.Wrong kind) s is h = record { xs = xs; after = after; stand = s; next = next; is_next = is; is_wrong = h }

-- so the line is
pub line_wrong : (m : HllModel) (t : ℕ) (text cells : Text) (why : Unread) → AreFew m (t + 1) → text ≡ (decimal t ++ codes ":") ++ cells → AreUnread (names m) (input_cells m) cells why → IsUnreadLine m t text why
line_wrong m t text cells unread.Memory few begins h = tt
line_wrong m t text cells (unread.Wrong kind) few begins h = by kind h.is_wrong
  where
    right : IsRightUpTo m t text h.xs h.after
    right = record { few = few; cells = cells; begins = begins; stand = h.stand }

    by : (kind : TraceKind) → IsWrongCell (names m) h.next h.after kind → IsWrong m t text kind
    by wrong.Long w = absurd w
    by wrong.Instant w = absurd w
    by wrong.Cell w = record { xs = h.xs; after = h.after; right = right; next = h.next; is_next = h.is_next; missing = w }
    by wrong.Value w = record { xs = h.xs; after = h.after; right = right; next = h.next; is_next = h.is_next; bytes = w.0; due = w.1; missing = w.2 }
    by wrong.Ending w = absurd w

-- the line lacks its end
pub line_endless : (m : HllModel) (t : ℕ) (text cells rest : Text) (xs : List ℤ) → AreFew m (t + 1) → text ≡ (decimal t ++ codes ":") ++ cells → AreRead (names m) (input_cells m) cells xs rest → Never (λ more. rest ≡ codes "\n" ++ more) → LacksEnd m t text
line_endless m t text cells rest xs few begins read never = record {
  xs = xs;
  after = rest;
  right = record { few = few; cells = cells; begins = begins; stand = read.stand };
  all_there = read.count;
  missing = never;
}

-- so many instants are few enough, by the cells as far as a number holds them
few_exact : (n c all : ℕ) → c ≡ min all (2 ^ 64 - 1) → (n + 1) * c ≤ 4000000 → (n + 1) * all ≤ 4000000
few_exact n c all is held =
    let low : c ≤ (n + 1) * c = omega arith in
    let same : c ≡ all = omega (arith, is, low, held) in
    subst (λ (k : ℕ). (n + 1) * k ≤ 4000000) same held

exact_few : (n c all : ℕ) → c ≡ min all (2 ^ 64 - 1) → (n + 1) * all ≤ 4000000 → (n + 1) * c ≤ 4000000
exact_few n c all is few =
    let le : c ≤ all = omega (arith, is) in
    omega (arith, mul-le-mul_left (n + 1) le, few)

pub few_held : (m : HllModel) (n cells : ℕ) → cells ≡ capped (length (text_cells m)) → n + 1 ≤ 65536 → (n + 1) * cells ≤ 4000000 → AreFew m (n + 1)
few_held m n cells is low held = record { instants = low; values = few_exact n cells (length (text_cells m)) is held }

pub held_few : (m : HllModel) (n cells : ℕ) → cells ≡ capped (length (text_cells m)) → AreFew m (n + 1) → (n + 1 ≤ 65536) × ((n + 1) * cells ≤ 4000000)
held_few m n cells is few = (few.instants, exact_few n cells (length (text_cells m)) is few.values)

-- ---- lines, one behind the other

lines_last : (all : Names) (cs : List Cell) (t : ℕ) (rows : List (List ℤ)) (xs : List ℤ) → lines_text all cs t (rows ++ xs ∷ []) ≡ lines_text all cs t rows ++ line_text all cs (t + length rows) xs
lines_last all cs t [] xs =
    let here : t ≡ t + 0 = omega arith in
    append-nil (line_text all cs t xs) ∙ ap (λ (k : ℕ). line_text all cs k xs) here
lines_last all cs t (row ∷ rows) xs =
    let same : t + 1 + length rows ≡ t + length (row ∷ rows) = omega arith in
    ap (λ (u : Text). line_text all cs t row ++ u) (lines_last all cs (t + 1) rows xs ∙ ap (λ (k : ℕ). lines_text all cs (t + 1) rows ++ line_text all cs k xs) same)
    ∙ sym (append_assoc (line_text all cs t row) (lines_text all cs (t + 1) rows) (line_text all cs (t + length (row ∷ rows)) xs))

all_last : (P : List ℤ → Type 0) (rows : List (List ℤ)) (xs : List ℤ) → AllByRecursion P rows → P xs → AllByRecursion P (rows ++ xs ∷ [])
all_last P [] xs all h = (h, tt)
all_last P (row ∷ rows) xs all h = (all.0, all_last P rows xs all.1 h)

-- one line more
pub lines_read : (m : HllModel) (text : Text) (rows : List (List ℤ)) (rest more : Text) (xs : List ℤ) → AreLines m text rows rest → IsLine m (length rows) rest xs more → AreLines m text (rows ++ xs ∷ []) more
lines_read m text rows rest more xs h line =
    let all = names m in
    let cs = input_cells m in
    let count : length rows + 1 ≡ length (rows ++ xs ∷ []) = sym (length-append rows (xs ∷ [])) in
    let number : length rows ≡ 0 + length rows = omega arith in
    record {
      trace = record { values = all_last (AreValues cs) rows xs h.trace.values line.values; few = subst (AreFew m) count line.few };
      written = h.written ∙ ap (λ (u : Text). lines_text all cs 0 rows ++ u) line.written
          ∙ sym (append_assoc (lines_text all cs 0 rows) (line_text all cs (length rows) xs) more)
          ∙ ap (λ (k : ℕ). (lines_text all cs 0 rows ++ line_text all cs k xs) ++ more) number
          ∙ ap (λ (u : Text). u ++ more) (sym (lines_last all cs 0 rows xs));
    }
