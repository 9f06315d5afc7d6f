-- Parts that are true at the first instant of every run, and stay true.
use Rattle.std.proofs.Common.{◌≡◌, ℕ, zero, suc, ◌+◌, ◌*◌, ◌<◌, ◌≤◌, true, false, List, [], length, take, drop, slice_get, sym, ap, subst, ◌∙◌, arith, add-one}
use Rattle.std.specs.Prelude.{All}
use Rattle.std.proofs.lemmas.List.{length-take-le, length-drop, length-take, get_or-take}
use Rattle.std.proofs.lemmas.List.Elements.{All-drop, All-get_or, All-from_get_or}
use Rattle.std.proofs.lemmas.Option.{slice_get_within, get_or_from_slice_get}
use Rattle.lll_core.specs.Tables.{Instant, Table, value, IsRun}
use Rattle.miter.specs.declared.parts.MiterLll.{MiterLll}
use Rattle.miter.specs.Agreement.{PartsHold}
use Rattle.rup_checker.specs.declared.log.Log.{Log}
use Rattle.rup_checker.specs.Logs.{Accepts}
use Rattle.unroll_cnf.specs.Unrollings.{part, part_base_formula, part_step_formula}
use Rattle.unroll_cnf.specs.Counterexamples.{instant_at}
use Rattle.kinduction.specs.Parts.{ShowParts}
use Rattle.kinduction.specs.Runs.{PartsStay}
use Rattle.kinduction.proofs.Induction.{not_false}
use Rattle.kinduction.proofs.Pieces.{there, run-front, window-front, window-rest, instant-front, instant-rest}
use Rattle.kinduction.proofs.Refuted.{no_part_break, no_part_induction_break}

module _ (m : MiterLll) (logs : List Log) (shown : ShowParts m logs) where
  -- assume is true
  abbrev IsAssumed : Instant → Type 0
  IsAssumed now = value now m.lll.assume ≡ true

  -- all parts are true, where each is not false
  all_true : (now : Instant) → ((i : ℕ) → i < length m.parts → value now (part m i) ≡ false → ⊥) → PartsHold m now
  all_true now never = All-from_get_or (λ q. value now q ≡ true) m.parts 0 (λ i lt. not_false (value now (part m i)) (never i lt))

  -- the first instant of a run
  first : (g : Table) → IsRun m.lll.signals g → 0 < length g → All IsAssumed (take 1 g) → PartsHold m (instant_at g 0)
  first g run some assumed = all_true (instant_at g 0) (λ i lt broken.
      let log = there (slice_get logs (2 * i)) (λ log. Accepts (part_base_formula m i) log.steps) (shown.bases i lt) in
      let long : length (take 1 g) ≡ 1 = length-take-le 1 g some in
      let same = instant-front m.lll.signals 1 g 0 (omega arith) in
      no_part_break m i lt log.0.steps log.1 (take 1 g) (record {
        run = run-front m.lll.signals 1 g run;
        long = long;
        assumed = All-get_or IsAssumed (take 1 g) 0 [] (omega (arith, long)) assumed;
        broken = ap (λ now. value now (part m i)) same ∙ broken;
      }))

  -- the instant after one at which all parts are true
  next : (g : Table) (t : ℕ) → IsRun m.lll.signals g → t + 1 < length g → All IsAssumed (take (t + 2) g) → PartsHold m (instant_at g t) → PartsHold m (instant_at g (t + 1))
  next g t run lt assumed held = all_true (instant_at g (t + 1)) (λ i within broken.
      let log = there (slice_get logs (2 * i + 1)) (λ log. Accepts (part_step_formula m i) log.steps) (shown.steps i within) in
      let front = take (t + 2) g in
      let count : length front ≡ t + 2 = length-take-le (t + 2) g (omega (arith, lt)) in
      let window = drop t front in
      let long : length window ≡ 2 = omega (arith, length-drop t front, count) in
      let zeroth : instant_at window 0 ≡ instant_at g t = instant-rest m.lll.signals t front 0 ∙ instant-front m.lll.signals (t + 2) g (t + 0) (omega arith) ∙ ap (instant_at g) (omega arith) in
      let last : instant_at window 1 ≡ instant_at g (t + 1) = instant-rest m.lll.signals t front 1 ∙ instant-front m.lll.signals (t + 2) g (t + 1) (omega arith) in
      no_part_induction_break m i within log.0.steps log.1 window (record {
        window = window-rest m.lll.signals t front (window-front m.lll.signals (t + 2) g run.window);
        long = long;
        assumed = All-drop IsAssumed t front assumed;
        held = subst (PartsHold m) (sym zeroth) held;
        broken = ap (λ now. value now (part m i)) last ∙ broken;
      }))

  -- assume is true in a front of a front
  assumed-less : (g : Table) (n k : ℕ) → n ≤ k → All IsAssumed (take k g) → All IsAssumed (take n g)
  assumed-less g n k le all = λ i d lt.
      let low : i < n = omega (arith, lt, length-take n g) in
      let within : i < length (take k g) = omega (arith, low, le, lt, length-take n g, length-take k g) in
      subst IsAssumed (get_or-take k g i d (omega (arith, low, le)) ∙ sym (get_or-take n g i d low)) (all i d within)

  held_at : (g : Table) (t : ℕ) → IsRun m.lll.signals g → t < length g → All IsAssumed (take (t + 1) g) → PartsHold m (instant_at g t)
  held_at g zero run lt assumed = first g run lt assumed
  held_at g (suc t) run lt assumed =
      let e : suc t + 1 ≡ t + 2 = omega arith in
      let all : All IsAssumed (take (t + 2) g) = subst (λ n. All IsAssumed (take n g)) e assumed in
      subst (λ n. PartsHold m (instant_at g n)) (add-one t)
      (next g t run (omega (arith, lt)) all (held_at g t run (omega (arith, lt)) (assumed-less g (t + 1) (t + 2) (omega arith) all)))

  pub stays : PartsStay m
  stays g run t now at assumed = subst (PartsHold m) (get_or_from_slice_get g t now [] at) (held_at g t run (slice_get_within g t now at) assumed)
