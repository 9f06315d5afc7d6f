-- A text has one value.
use Rattle.std.proofs.Common.{◌≡◌, ℕ, ◌≤◌, List, ◌++◌, length, refl, sym, ap, subst, ◌∙◌, append_assoc, arith}
use Rattle.std.specs.Prelude.{codes, All}
use Rattle.lll_core.specs.declared.lll.Lll.{Lll}
use Rattle.lll_text.specs.Spelling.{line, spelling}
use Rattle.kinduction.specs.declared.equal.Equal.{Equal}
use Rattle.kinduction.specs.declared.equal.Equal.TheVariants as equal
use Rattle.kinduction.specs.declared.found.Found.{Found}
use Rattle.evidence.specs.declared.evidence.Evidence.{Evidence}
use Rattle.evidence.specs.Counts.{EntriesFit, EqualFits, EntryFits, HasText, IsTextOf}
use Rattle.evidence.specs.Spelling.{number_line, part_count, equal_text, entries_text, text}
use Rattle.evidence.proofs.Cutting.{same_rest}
use Rattle.evidence.proofs.LogText.{number_lines_told}
use Rattle.evidence.proofs.ModelText.{models_told}
use Rattle.evidence.proofs.EntryText.{equal_told, entries_told}

-- ---- piece by piece

regrouped : (h d c k a l b q n z : List ℕ) → ((((((((h ++ d) ++ c) ++ k) ++ a) ++ l) ++ b) ++ q) ++ n) ++ z ≡ h ++ (d ++ (c ++ (k ++ (a ++ (l ++ (b ++ (q ++ (n ++ z))))))))
regrouped h d c k a l b q n z = simp append_assoc

abbrev last_line : List ℕ
last_line = line (codes "end")

abbrev rest_of : Evidence → List ℕ
rest_of e = equal_text (part_count e.b) e.equal ++ (entries_text 1 e.entries ++ last_line)

taken_apart : (e : Evidence) → text e ≡ line (codes "hll-evidence 1") ++ (number_line (codes "depth") e.depth ++ (number_line (codes "conflicts") e.conflicts
    ++ (line (codes "text a") ++ (spelling e.a ++ (line (codes "text b") ++ (spelling e.b ++ rest_of e))))))
taken_apart e = regrouped (line (codes "hll-evidence 1")) (number_line (codes "depth") e.depth) (number_line (codes "conflicts") e.conflicts) (line (codes "text a")) (spelling e.a) (line (codes "text b")) (spelling e.b)
    (equal_text (part_count e.b) e.equal) (entries_text 1 e.entries) last_line

same_count : (a : Lll) (x : Equal) (xs ys : List Found) → EntriesFit a x xs → EntriesFit a x ys → length xs ≡ length ys
same_count a (equal.Shown logs) xs ys p q = p ∙ sym q
same_count a (equal.Conflicts part stepping log) xs ys p q = ap (λ (es : List Found). length es) (p ∙ sym q)

-- ---- the whole

same_values : (x y : Evidence) → x.depth ≡ y.depth → x.conflicts ≡ y.conflicts → x.a ≡ y.a → x.b ≡ y.b → x.equal ≡ y.equal → x.entries ≡ y.entries → x ≡ y
same_values x y d c a b e f =
    ap (λ z. record { depth = z; conflicts = x.conflicts; a = x.a; b = x.b; equal = x.equal; entries = x.entries }) d
    ∙ ap (λ z. record { depth = y.depth; conflicts = z; a = x.a; b = x.b; equal = x.equal; entries = x.entries }) c
    ∙ ap (λ z. record { depth = y.depth; conflicts = y.conflicts; a = z; b = x.b; equal = x.equal; entries = x.entries }) a
    ∙ ap (λ z. record { depth = y.depth; conflicts = y.conflicts; a = y.a; b = z; equal = x.equal; entries = x.entries }) b
    ∙ ap (λ z. record { depth = y.depth; conflicts = y.conflicts; a = y.a; b = y.b; equal = z; entries = x.entries }) e
    ∙ ap (λ z. record { depth = y.depth; conflicts = y.conflicts; a = y.a; b = y.b; equal = y.equal; entries = z }) f

-- what stands behind the two models
rests_told : (a b : Lll) (depth : ℕ) (x y : Equal) (xs ys : List Found) → depth ≤ 64 → EqualFits b x → EqualFits b y → EntriesFit a x xs → EntriesFit a y ys
    → All (EntryFits depth a) xs → All (EntryFits depth a) ys
    → equal_text (part_count b) x ++ (entries_text 1 xs ++ last_line) ≡ equal_text (part_count b) y ++ (entries_text 1 ys ++ last_line) → (x ≡ y) × (xs ≡ ys)
rests_told a b depth x y xs ys le p q count other each all e =
    let first = equal_told b x y (entries_text 1 xs ++ last_line) (entries_text 1 ys ++ last_line) p q e in
    let long = same_count a x xs ys count (subst (λ z. EntriesFit a z ys) (sym first.0) other) in
    let entries = entries_told depth a le 1 xs ys last_line last_line each all long first.1 in
    (first.0, entries.0)

pub values_same : (x y : Evidence) → HasText x → HasText y → text x ≡ text y → x ≡ y
values_same x y p q e =
    let numbers = λ (z : Evidence). number_line (codes "conflicts") z.conflicts ++ (line (codes "text a") ++ (spelling z.a ++ (line (codes "text b") ++ (spelling z.b ++ rest_of z)))) in
    let models = λ (z : Evidence). line (codes "text a") ++ (spelling z.a ++ (line (codes "text b") ++ (spelling z.b ++ rest_of z))) in
    let second = λ (z : Evidence). line (codes "text b") ++ (spelling z.b ++ rest_of z) in
    let head = same_rest (line (codes "hll-evidence 1")) (number_line (codes "depth") x.depth ++ numbers x) (number_line (codes "depth") y.depth ++ numbers y) (sym (taken_apart x) ∙ e ∙ taken_apart y) in
    let depth = number_lines_told (codes "depth") refl x.depth y.depth (numbers x) (numbers y) (omega (arith, p.depth_bound)) (omega (arith, q.depth_bound)) head in
    let conflicts = number_lines_told (codes "conflicts") refl x.conflicts y.conflicts (models x) (models y) (omega (arith, p.conflicts_bound)) (omega (arith, q.conflicts_bound)) depth.1 in
    let a = models_told x.a y.a (second x) (second y) (same_rest (line (codes "text a")) (spelling x.a ++ second x) (spelling y.a ++ second y) conflicts.1) in
    let b = models_told x.b y.b (rest_of x) (rest_of y) (same_rest (line (codes "text b")) (spelling x.b ++ rest_of x) (spelling y.b ++ rest_of y) a.1) in
    let rest = rests_told y.a y.b y.depth x.equal y.equal x.entries y.entries q.depth_bound
    (subst (λ m. EqualFits m x.equal) b.0 p.equal_fits) q.equal_fits (subst (λ m. EntriesFit m x.equal x.entries) a.0 p.entries_fit) q.entries_fit
    (subst (λ d. All (EntryFits d y.a) x.entries) depth.0 (subst (λ m. All (EntryFits x.depth m) x.entries) a.0 p.each_fits)) q.each_fits
    (ap (λ (m : Lll). equal_text (part_count m) x.equal ++ (entries_text 1 x.entries ++ last_line)) (sym b.0) ∙ b.1) in
    same_values x y depth.0 conflicts.0 a.0 b.0 rest.0 rest.1

pub one_value : (bytes : List ℕ) (d e : Evidence) → IsTextOf bytes d → IsTextOf bytes e → d ≡ e
one_value bytes d e p q = values_same d e p.fits q.fits (sym p.spelled ∙ q.spelled)
