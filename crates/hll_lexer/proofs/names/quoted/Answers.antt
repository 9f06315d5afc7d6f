use Rattle.std.proofs.Common.{◌≡◌, ◌+◌, ◌-◌, ◌<◌, ◌∷◌, ℕ, Bool, true, false, not, eqb, List, Some, length, get_or, take, drop, sym, ap, subst, ◌∙◌, arith, drop-cons}
use Rattle.std.proofs.lemmas.Bool.Decides.{nat_tests}
use Rattle.std.proofs.lemmas.List.{take_rest}
use Rattle.std.proofs.lemmas.List.Sums.{prefix_len-le-length}
use Rattle.std.specs.List.{prefix_len}
use Rattle.hll_lexer.specs.Pieces.{is_quotable, IsFront, IsOpen, IsStray}
use Rattle.hll_lexer.specs.declared.token.TokenKind.TheVariants.{Name}
use Rattle.hll_lexer.proofs.FrontLemmas.{quoted_front, quoted_stray, quoted_open}
use Rattle.hll_lexer.proofs.names.quoted.Goals as goal
use Rattle.hll_lexer.proofs.names.quoted.Goals.{then-length-inner, else-length-inner}

after_quote : (text : List ℕ) → 0 < length text → get_or text 0 0 ≡ 39 → text ≡ 39 ∷ drop 1 text
after_quote text some quote = drop-cons text 0 0 some ∙ ap (λ (b : ℕ). b ∷ drop 1 text) quote

run_is : (text : List ℕ) (n : ℕ) → n ≡ prefix_len is_quotable (take (length text - 1) (drop 1 text)) → n ≡ prefix_len is_quotable (drop 1 text)
run_is text n is = is ∙ ap (prefix_len is_quotable) (take_rest text 1)

pub bounds-inner-length : goal.bounds-inner-length
bounds-inner-length c =
    let text = c.args.text.now in
    let short = prefix_len-le-length is_quotable (take (length text - 1) (drop 1 text)) in
    let is = c.run_length-length.ensures in
    let other = c.if-length-inner.false in
    omega arith

differs : (a b : ℕ) (v : Bool) → v ≡ not (eqb a b) → v ≡ true → a ≡ b → ⊥
differs a b v is ok e = grind (arith, nat_tests)

agrees : (a b : ℕ) (v : Bool) → v ≡ not (eqb a b) → v ≡ false → a ≡ b
agrees a b v is bad = grind (arith, nat_tests)

no_end : (a b : ℕ) (v : Bool) → v ≡ eqb a b → v ≡ false → a ≡ b → ⊥
no_end a b v is bad e = grind (arith, nat_tests)

-- a quote stands behind the run
pub record IsEnded (inner : List ℕ) (n : ℕ) : Type 0 where
  pub within : n < length inner
  pub quote : get_or inner n 0 ≡ 39

ended : (text : List ℕ) (n : ℕ) → n ≡ prefix_len is_quotable (drop 1 text) → (n ≡ length (take (length text - 1) (drop 1 text)) → ⊥) → get_or (take (length text - 1) (drop 1 text)) n 0 ≡ 39 → IsEnded (drop 1 text) n
ended text n is other quote =
    let rest = take_rest text 1 in
    let short = prefix_len-le-length is_quotable (drop 1 text) in
    let differs = λ (e : n ≡ length (drop 1 text)). other (e ∙ ap length (sym rest)) in
    record { within = omega (arith, differs); quote = ap (λ (s : List ℕ). get_or s n 0) (sym rest) ∙ quote }

pub returns-then-inner-length-ne39 : goal.returns-then-inner-length-ne39
returns-then-inner-length-ne39 c =
    let text = c.args.text.now in
    let n = c.run_length-length.result in
    let is = run_is text n c.run_length-length.ensures in
    let rest = take_rest text 1 in
    subst IsOpen (sym (after_quote text c.requires.some c.requires.quote)) (quoted_open (drop 1 text) n is (λ h quote.
    elim c.if-length-inner.branch [
      | then-length-inner w ↦ omega (arith, w.if-length-inner.true, ap length rest)
      | else-length-inner w ↦ differs _ _ c.if-length-inner.value w.value-is c.if-inner-length-ne39.true (ap (λ (s : List ℕ). get_or s n 0) rest ∙ quote)
    ]))

pub returns-then-length-eq0 : goal.returns-then-length-eq0
returns-then-length-eq0 c =
    let text = c.args.text.now in
    let n = c.run_length-length.result in
    let is = run_is text n c.run_length-length.ensures in
    let none : n ≡ 0 = c.if-length-eq0.true in
    let end : IsEnded (drop 1 text) n = elim c.if-length-inner.branch [
      | then-length-inner w ↦ absurd (no_end _ _ c.if-length-inner.value w.value-is c.if-inner-length-ne39.false w.if-length-inner.true)
      | else-length-inner w ↦ ended text n is w.if-length-inner.false (agrees _ _ c.if-length-inner.value w.value-is c.if-inner-length-ne39.false)
    ] in
    let within = end.within in
    subst IsStray (sym (after_quote text c.requires.some c.requires.quote)) (quoted_stray (drop 1 text) (sym is ∙ none) (omega arith) (subst (λ (k : ℕ). get_or (drop 1 text) k 0 ≡ 39) none end.quote))

pub returns-else-length-eq0 : goal.returns-else-length-eq0
returns-else-length-eq0 c =
    let text = c.args.text.now in
    let n = c.run_length-length.result in
    let is = run_is text n c.run_length-length.ensures in
    let some = c.if-length-eq0.false in
    let end : IsEnded (drop 1 text) n = elim c.if-length-inner.branch [
      | then-length-inner w ↦ absurd (no_end _ _ c.if-length-inner.value w.value-is c.if-inner-length-ne39.false w.if-length-inner.true)
      | else-length-inner w ↦ ended text n is w.if-length-inner.false (agrees _ _ c.if-length-inner.value w.value-is c.if-inner-length-ne39.false)
    ] in
    subst (λ (t : List ℕ). IsFront t (Some Name) (n + 2)) (sym (after_quote text c.requires.some c.requires.quote)) (quoted_front (drop 1 text) n is (omega arith) end.within end.quote)
