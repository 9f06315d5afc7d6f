-- A fault stands in the text, or at its end.
use Rattle.std.proofs.Common.{arith, ◌≡◌, ℕ, ◌+◌, ◌≤◌, List, ◌++◌, length, ap, ◌∙◌, refl}
use Rattle.std.proofs.lemmas.List.{length-append}
use Rattle.hll_lexer.specs.declared.fault.LexFault.{LexFault}
use Rattle.hll_lexer.specs.declared.fault.LexFault.TheVariants as lexing
use Rattle.hll_lexer.specs.declared.fault.Fault.{Fault}
use Rattle.hll_lexer.specs.declared.fault.Fault.TheVariants as kinds
use Rattle.hll_lexer.specs.Tokens.{HasFault, text_of, fault_at}

-- where the text goes on behind some pieces
behind : (text front rest : List ℕ) (at : ℕ) → text ≡ front ++ rest → at ≡ length front → at ≤ length text
behind text front rest at whole is =
    let long = ap length whole ∙ length-append front rest in
    omega (arith, long, is)

-- where a fault stands
abbrev pub place_of_fault : LexFault → ℕ
place_of_fault (lexing.Stray at) = at
place_of_fault (lexing.Unclosed at) = at
place_of_fault (lexing.Number at) = at
place_of_fault lexing.Memory = 0

placed : (at : ℕ) (kind : Fault) → place_of_fault (fault_at at kind) ≡ at
placed at kinds.Stray = refl
placed at kinds.Unclosed = refl
placed at kinds.Number = refl

pub fault_within : (text : List ℕ) (why : LexFault) → HasFault text why → place_of_fault why ≤ length text
fault_within text why h = behind text (text_of h.pieces) h.rest (place_of_fault why) h.whole (ap place_of_fault h.place ∙ placed (length (text_of h.pieces)) h.kind)
