-- The texts of what is shown, with what follows them, tell it.
use Rattle.std.proofs.Common.{◌≡◌, ℕ, ◌+◌, ◌*◌, ◌^◌, ◌<◌, ◌≤◌, Bool, true, false, List, [], ◌∷◌, ◌++◌, length, get_or, refl, sym, ap, ◌∙◌, append_assoc, arith}
use Rattle.std.specs.Prelude.{codes, decimal, All}
use Rattle.std.specs.List.{flat_map}
use Rattle.std.proofs.lemmas.Fmt.{decimal_injective}
use Rattle.std.proofs.lemmas.List.Elements.{All-head, All-tail}
use Rattle.lll_core.specs.declared.lll.Lll.{Lll}
use Rattle.lll_text.specs.Spelling.{line, number_field}
use Rattle.rup_checker.specs.declared.log.Log.{Log}
use Rattle.kinduction.specs.declared.equal.Equal.{Equal}
use Rattle.kinduction.specs.declared.equal.Equal.TheVariants as equal
use Rattle.kinduction.specs.declared.found.Found.{Found}
use Rattle.kinduction.specs.declared.found.Found.TheVariants as found
use Rattle.kinduction.specs.declared.found.Spot.{Spot}
use Rattle.kinduction.specs.declared.found.Spot.TheVariants as spot
use Rattle.evidence.specs.Counts.{IsLog, EqualFits, PlaceFits, EntryFits}
use Rattle.evidence.specs.Spelling.{number_line, log_text, logs_text, bits_line, part_count, formula_field, equal_text, place_field, verdict_field, proof_text, entry_text, entries_text}
use Rattle.evidence.proofs.Cutting.{avoids, avoids-append, avoids-decimal, avoids-number, split, split_line, same_rest, lists_told}
use Rattle.evidence.proofs.LogText.{numbers_same, log_told, logs_told, bits_told}

-- two texts that differ in a byte
differ : (n : ℕ) (t u : List ℕ) → (get_or t n 0 ≡ get_or u n 0 → ⊥) → t ≡ u → ⊥
differ n t u apart e = apart (ap (λ (x : List ℕ). get_or x n 0) e)

-- ---- the parts

avoids-formula : (stepping : Bool) → avoids 10 (formula_field stepping) ≡ true
avoids-formula true = refl
avoids-formula false = refl

formula_told : (m n : ℕ) (x y : Bool) → m < 2 ^ 64 → n < 2 ^ 64 → number_field m ++ formula_field x ≡ number_field n ++ formula_field y → (m ≡ n) × (x ≡ y)
formula_told m n true true p q e =
    let digits : decimal m ++ codes " step" ≡ decimal n ++ codes " step" = cc in
    let cut = split 32 (decimal m) (decimal n) (codes "step") (codes "step") (avoids-decimal 32 m refl p) (avoids-decimal 32 n refl q) digits in
    (decimal_injective m n p q cut.0, refl)
formula_told m n false false p q e =
    let digits : decimal m ++ codes " base" ≡ decimal n ++ codes " base" = cc in
    let cut = split 32 (decimal m) (decimal n) (codes "base") (codes "base") (avoids-decimal 32 m refl p) (avoids-decimal 32 n refl q) digits in
    (decimal_injective m n p q cut.0, refl)
formula_told m n true false p q e =
    let digits : decimal m ++ codes " step" ≡ decimal n ++ codes " base" = cc in
    let cut = split 32 (decimal m) (decimal n) (codes "step") (codes "base") (avoids-decimal 32 m refl p) (avoids-decimal 32 n refl q) digits in
    absurd (differ 0 (codes "step") (codes "base") (λ h. omega (arith, h)) cut.1)
formula_told m n false true p q e =
    let digits : decimal m ++ codes " base" ≡ decimal n ++ codes " step" = cc in
    let cut = split 32 (decimal m) (decimal n) (codes "base") (codes "step") (avoids-decimal 32 m refl p) (avoids-decimal 32 n refl q) digits in
    absurd (differ 0 (codes "base") (codes "step") (λ h. omega (arith, h)) cut.1)

abbrev pub conflicts_content : ℕ → Bool → List ℕ
conflicts_content part stepping = codes "equal conflicts" ++ number_field (part + 1) ++ formula_field stepping

pub avoids-conflicts : (part : ℕ) (stepping : Bool) → part < 2 ^ 32 → avoids 10 (conflicts_content part stepping) ≡ true
avoids-conflicts part stepping lt =
    avoids-append 10 (codes "equal conflicts" ++ number_field (part + 1)) (formula_field stepping)
    (avoids-append 10 (codes "equal conflicts") (number_field (part + 1)) refl (avoids-number 10 (part + 1) refl refl (omega (arith, lt)))) (avoids-formula stepping)

same_conflicts : (i j : ℕ) (x y : Bool) (u v : Log) → i ≡ j → x ≡ y → u ≡ v → equal.Conflicts i x u ≡ equal.Conflicts j y v
same_conflicts i j x y u v e f g = ap (λ n. equal.Conflicts n x u) e ∙ ap (λ z. equal.Conflicts j z u) f ∙ ap (equal.Conflicts j y) g

pub equal_told : (b : Lll) (x y : Equal) (r s : List ℕ) → EqualFits b x → EqualFits b y → equal_text (part_count b) x ++ r ≡ equal_text (part_count b) y ++ s → (x ≡ y) × (r ≡ s)
equal_told b (equal.Shown xs) (equal.Shown ys) r s p q e =
    let head = number_line (codes "equal shown") (part_count b) in
    let rest = same_rest head (logs_text xs ++ r) (logs_text ys ++ s) (sym (append_assoc head (logs_text xs) r) ∙ e ∙ append_assoc head (logs_text ys) s) in
    let told = logs_told (2 * part_count b) xs ys r s p q rest in
    (ap equal.Shown told.0, told.1)
equal_told b (equal.Shown xs) (equal.Conflicts j y v) r s p q e =
    absurd (differ 6 (equal_text (part_count b) (equal.Shown xs) ++ r) (equal_text (part_count b) (equal.Conflicts j y v) ++ s) (λ h. omega (arith, h)) e)
equal_told b (equal.Conflicts i x u) (equal.Shown ys) r s p q e =
    absurd (differ 6 (equal_text (part_count b) (equal.Conflicts i x u) ++ r) (equal_text (part_count b) (equal.Shown ys) ++ s) (λ h. omega (arith, h)) e)
equal_told b (equal.Conflicts i x u) (equal.Conflicts j y v) r s p q e =
    let first = conflicts_content i x in
    let other = conflicts_content j y in
    let cut = split_line first other (log_text u ++ r) (log_text v ++ s) (avoids-conflicts i x p.1) (avoids-conflicts j y q.1)
    (sym (append_assoc (line first) (log_text u) r) ∙ e ∙ append_assoc (line other) (log_text v) s) in
    let word = codes "equal conflicts" in
    let fields = same_rest word (number_field (i + 1) ++ formula_field x) (number_field (j + 1) ++ formula_field y)
    (sym (append_assoc word (number_field (i + 1)) (formula_field x)) ∙ cut.0 ∙ append_assoc word (number_field (j + 1)) (formula_field y)) in
    let told = formula_told (i + 1) (j + 1) x y (omega (arith, p.1)) (omega (arith, q.1)) fields in
    let log = log_told u v r s p.2 q.2 cut.1 in
    (same_conflicts i j x y u v (omega (arith, told.0)) told.1 log.0, log.1)

-- ---- verdicts

-- the numbers of a verdict are small
place_number : Spot → ℕ
place_number (spot.Base j) = j
place_number (spot.Step k) = k

place_small : (depth : ℕ) (place : Spot) (bases : List Log) → depth ≤ 64 → PlaceFits depth place bases → place_number place < 2 ^ 64
unfolding place_number
place_small depth (spot.Base j) bases le fits = omega (arith, fits.0, le)
place_small depth (spot.Step k) bases le fits = omega (arith, fits.1, le)

avoids-place : (place : Spot) → place_number place < 2 ^ 64 → avoids 10 (place_field place) ≡ true
unfolding place_number
avoids-place (spot.Base j) lt = avoids-append 10 (codes " base") (number_field j) refl (avoids-number 10 j refl refl lt)
avoids-place (spot.Step k) lt = avoids-append 10 (codes " step") (number_field k) refl (avoids-number 10 k refl refl lt)

place_told : (x y : Spot) → place_number x < 2 ^ 64 → place_number y < 2 ^ 64 → place_field x ≡ place_field y → x ≡ y
unfolding place_number
place_told (spot.Base i) (spot.Base j) p q e = ap spot.Base (numbers_same (codes " base") i j p q e)
place_told (spot.Base i) (spot.Step j) p q e = absurd (differ 1 (place_field (spot.Base i)) (place_field (spot.Step j)) (λ h. omega (arith, h)) e)
place_told (spot.Step i) (spot.Base j) p q e = absurd (differ 1 (place_field (spot.Step i)) (place_field (spot.Base j)) (λ h. omega (arith, h)) e)
place_told (spot.Step i) (spot.Step j) p q e = ap spot.Step (numbers_same (codes " step") i j p q e)

pub avoids-verdict : (depth : ℕ) (a : Lll) (x : Found) → depth ≤ 64 → EntryFits depth a x → avoids 10 (verdict_field x) ≡ true
avoids-verdict depth a (found.Proved k bases step) le fits = avoids-append 10 (codes " proved") (number_field k) refl (avoids-number 10 k refl refl (omega (arith, fits.1, le)))
avoids-verdict depth a (found.Falsified bits bases) le fits = avoids-append 10 (codes " falsified") (number_field (length bits)) refl (avoids-number 10 (length bits) refl refl (omega (arith, fits.1, le)))
avoids-verdict depth a (found.Depth step_model bases) le fits = refl
avoids-verdict depth a (found.Conflicts place log bases) le fits = avoids-append 10 (codes " conflicts") (place_field place) refl (avoids-place place (place_small depth place bases le fits.0))

-- ---- entries

module _ (depth : ℕ) (a : Lll) (le : depth ≤ 64) where
  same_place : (x y : Spot) (bases others : List Log) → x ≡ y → PlaceFits depth x bases → PlaceFits depth y others → length bases ≡ length others
  unfolding place_number
  same_place (spot.Base i) (spot.Base j) bases others e p q = let n : i ≡ j = ap place_number e in omega (arith, n, p.1.long, q.1.long)
  same_place (spot.Step i) (spot.Step j) bases others e p q = let n : i ≡ j = ap place_number e in omega (arith, n, p.2.long, q.2.long)
  same_place (spot.Base i) (spot.Step j) bases others e p q = absurd cc
  same_place (spot.Step i) (spot.Base j) bases others e p q = absurd cc

  place_logs : (x : Spot) (bases : List Log) → PlaceFits depth x bases → All IsLog bases
  place_logs (spot.Base i) bases p = p.1.each
  place_logs (spot.Step i) bases p = p.2.each

  -- logs, and what shows the rest
  rest_told : {X : Type 0} (f : X → List ℕ) (x y : X) (bases others : List Log) (r s : List ℕ) → All IsLog bases → All IsLog others → length bases ≡ length others
      → (logs_text bases ++ f x) ++ r ≡ (logs_text others ++ f y) ++ s → (bases ≡ others) × (f x ++ r ≡ f y ++ s)
  rest_told f x y bases others r s p q long e =
      lists_told IsLog log_text log_told bases others (f x ++ r) (f y ++ s) p q long (sym (append_assoc (logs_text bases) (f x) r) ∙ e ∙ append_assoc (logs_text others) (f y) s)

  found_told : (x y : Found) (r s : List ℕ) → EntryFits depth a x → EntryFits depth a y → verdict_field x ≡ verdict_field y → proof_text x ++ r ≡ proof_text y ++ s → (x ≡ y) × (r ≡ s)
  found_told (found.Proved k bases step) (found.Proved l others last) r s p q v e =
      let number = numbers_same (codes " proved") k l (omega (arith, p.1, le)) (omega (arith, q.1, le)) v in
      let logs = rest_told log_text step last bases others r s p.2.each q.2.each (omega (arith, p.2.long, q.2.long, number)) e in
      let log = log_told step last r s p.3 q.3 logs.1 in
      (ap (λ n. found.Proved n bases step) number ∙ ap (λ bs. found.Proved l bs step) logs.0 ∙ ap (found.Proved l others) log.0, log.1)
  found_told (found.Falsified bits bases) (found.Falsified rows others) r s p q v e =
      let count = numbers_same (codes " falsified") (length bits) (length rows) (omega (arith, p.1, le)) (omega (arith, q.1, le)) v in
      let row = bits_line (codes "bits:") in
      let logs = rest_told (flat_map row) bits rows bases others r s p.2.each q.2.each (omega (arith, p.2.long, q.2.long, count)) e in
      let lines = lists_told (λ xs. Unit {0}) row (λ xs ys t u _ _ h. bits_told (codes "bits:") refl xs ys t u h) bits rows r s (λ k d lt. tt) (λ k d lt. tt) count logs.1 in
      (ap (λ xs. found.Falsified xs bases) lines.0 ∙ ap (found.Falsified rows) logs.0, lines.1)
  found_told (found.Depth step_model bases) (found.Depth values others) r s p q v e =
      let row = bits_line (codes "model:") in
      let logs = rest_told row step_model values bases others r s p.0.each q.0.each (omega (arith, p.0.long, q.0.long)) e in
      let line = bits_told (codes "model:") refl step_model values r s logs.1 in
      (ap (λ xs. found.Depth xs bases) line.0 ∙ ap (found.Depth values) logs.0, line.1)
  found_told (found.Conflicts x log bases) (found.Conflicts y last others) r s p q v e =
      let place = place_told x y (place_small depth x bases le p.0) (place_small depth y others le q.0) (same_rest (codes " conflicts") (place_field x) (place_field y) v) in
      let logs = rest_told log_text log last bases others r s (place_logs x bases p.0) (place_logs y others q.0) (same_place x y bases others place p.0 q.0) e in
      let spent = log_told log last r s p.1 q.1 logs.1 in
      (ap (λ z. found.Conflicts z log bases) place ∙ ap (λ z. found.Conflicts y z bases) spent.0 ∙ ap (found.Conflicts y last) logs.0, spent.1)
  found_told (found.Proved k bases step) y r s p q v e = absurd (differ 1 (verdict_field (found.Proved k bases step)) (verdict_field y) (λ h. omega (arith, h)) v)
  found_told (found.Falsified bits bases) y r s p q v e = absurd (differ 1 (verdict_field (found.Falsified bits bases)) (verdict_field y) (λ h. omega (arith, h)) v)
  found_told (found.Depth step_model bases) y r s p q v e = absurd (differ 1 (verdict_field (found.Depth step_model bases)) (verdict_field y) (λ h. omega (arith, h)) v)
  found_told (found.Conflicts place log bases) y r s p q v e = absurd (differ 1 (verdict_field (found.Conflicts place log bases)) (verdict_field y) (λ h. omega (arith, h)) v)

  -- the number, the verdict and what shows it
  taken_apart : (n : ℕ) (x : Found) (r : List ℕ) → entry_text n x ++ r ≡ (codes "entry" ++ number_field n) ++ (verdict_field x ++ 10 ∷ (proof_text x ++ r))
  taken_apart n x r =
      let head = codes "entry" ++ number_field n in
      append_assoc (line (head ++ verdict_field x)) (proof_text x) r ∙ append_assoc (head ++ verdict_field x) (codes "\n") (proof_text x ++ r)
      ∙ append_assoc head (verdict_field x) (codes "\n" ++ (proof_text x ++ r))

  entry_told : (n : ℕ) (x y : Found) (r s : List ℕ) → EntryFits depth a x → EntryFits depth a y → entry_text n x ++ r ≡ entry_text n y ++ s → (x ≡ y) × (r ≡ s)
  entry_told n x y r s p q e =
      let rest = same_rest (codes "entry" ++ number_field n) (verdict_field x ++ 10 ∷ (proof_text x ++ r)) (verdict_field y ++ 10 ∷ (proof_text y ++ s)) (sym (taken_apart n x r) ∙ e ∙ taken_apart n y s) in
      let cut = split 10 (verdict_field x) (verdict_field y) (proof_text x ++ r) (proof_text y ++ s) (avoids-verdict depth a x le p) (avoids-verdict depth a y le q) rest in
      found_told x y r s p q cut.0 cut.1

  pub entries_told : (n : ℕ) (xs ys : List Found) (r s : List ℕ) → All (EntryFits depth a) xs → All (EntryFits depth a) ys → length xs ≡ length ys
      → entries_text n xs ++ r ≡ entries_text n ys ++ s → (xs ≡ ys) × (r ≡ s)
  entries_told n [] [] r s p q long e = (refl, e)
  entries_told n [] (y ∷ ys) r s p q long e = absurd (omega (arith, long))
  entries_told n (x ∷ xs) [] r s p q long e = absurd (omega (arith, long))
  entries_told n (x ∷ xs) (y ∷ ys) r s p q long e =
      let more = entries_text (n + 1) xs in
      let others = entries_text (n + 1) ys in
      let first = entry_told n x y (more ++ r) (others ++ s) (All-head (EntryFits depth a) x xs p) (All-head (EntryFits depth a) y ys q)
      (sym (append_assoc (entry_text n x) more r) ∙ e ∙ append_assoc (entry_text n y) others s) in
      let rest = entries_told (n + 1) xs ys r s (All-tail (EntryFits depth a) x xs p) (All-tail (EntryFits depth a) y ys q) (omega (arith, long)) first.1 in
      (ap (λ z. z ∷ xs) first.0 ∙ ap (λ zs. y ∷ zs) rest.0, rest.1)
