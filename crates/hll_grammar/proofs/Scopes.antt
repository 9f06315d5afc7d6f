-- Scopes with any number of levels: their laws, which is wider, and which is roomy.
use Rattle.std.proofs.Common.{◌≡◌, ℕ, zero, suc, ◌≤◌, true, List, [], ◌∷◌, ◌++◌, None, inl, inr, refl, sym, pos, arith}
use Rattle.std.proofs.lemmas.List.{append-nil}
use Rattle.std.proofs.lemmas.Bool.{false≢true}
use Rattle.hll_lexer.specs.declared.token.Mark.{Mark}
use Rattle.hll_lexer.specs.declared.token.Mark.TheVariants as mark
use Rattle.hll_lexer.specs.declared.token.Reserved.TheVariants as reserved
use Rattle.hll_lexer.specs.declared.token.Token.{Token}
use Rattle.hll_lexer.specs.declared.token.TokenKind.TheVariants as kind
use Rattle.hll_tree.specs.declared.tree.Domain.TheVariants as domain
use Rattle.hll_tree.specs.declared.tree.Expr.{Expr}
use Rattle.hll_tree.specs.declared.tree.Form.TheVariants as form
use Rattle.hll_tree.specs.declared.tree.Precedence.{Precedence}
use Rattle.hll_tree.specs.declared.tree.Precedence.TheVariants as precedence
use Rattle.hll_tree.specs.declared.tree.Quant.{Quant}
use Rattle.hll_tree.specs.Spells.{Spelling, Scope, Limit, scope, Then, Behind, Before, IsOperand, IsExpression, IsDomain, IsBound, IsOperation, IsChain, IsComparison, IsBoundName, Marked, expression_at, name_at}
use Rattle.hll_grammar.proofs.Parts.{HasSome, HasLaws, IsWider, IsRoomy}
use Rattle.hll_grammar.proofs.Combined.{token_at}
use Rattle.hll_grammar.proofs.Forms.{operand_part, domain_part, bound_part}
use Rattle.hll_grammar.proofs.Operations.{expression_part}

-- ---- laws

pub scope_laws : (text : List ℕ) (limit : Limit) (room depth : ℕ) → HasLaws (scope text limit room depth)
unfolding scope
scope_laws text limit zero depth = record {
  operand = record { first = λ ts x is. absurd is; one = λ us vs us' vs' x x' same stops stops' is is'. absurd is };
  expression = record { first = λ ts x is. absurd is; one = λ us vs us' vs' x x' same stops stops' is is'. absurd is };
  domain = record { first = λ ts x is. absurd is; one = λ us vs us' vs' x x' same stops stops' is is'. absurd is };
  bound = λ q. record { first = λ ts x is. absurd is; one = λ us vs us' vs' x x' same stops stops' is is'. absurd is };
}
scope_laws text limit (suc room) depth =
    let laws = scope_laws text limit room (suc depth) in
    let s = scope text limit room (suc depth) in
    record {
      operand = operand_part.lawful s laws;
      expression = expression_part.lawful s laws;
      domain = domain_part.lawful s laws;
      bound = λ q. (bound_part q).lawful s laws;
    }

-- ---- wider scopes

-- what the first limit allows the second does
abbrev pub IsLooser : Limit → Limit → Type 0
IsLooser limit limit' = (t : Token) (level : ℕ) → limit t level ≡ true → limit' t level ≡ true

pub scope_wider : (text : List ℕ) (limit limit' : Limit) (room room' depth : ℕ) → IsLooser limit limit' → room ≤ room' →
    IsWider (scope text limit room depth) (scope text limit' room' depth)
unfolding scope
scope_wider text limit limit' zero zero depth looser more = record {
  text = refl;
  may_open = λ t is. is;
  operand = λ ts x is. is;
  expression = λ ts x is. is;
  domain = λ ts x is. is;
  bound = λ q ts x is. is;
}
scope_wider text limit limit' zero (suc room') depth looser more = record {
  text = refl;
  may_open = λ t is. absurd (false≢true is);
  operand = λ ts x is. absurd is;
  expression = λ ts x is. absurd is;
  domain = λ ts x is. absurd is;
  bound = λ q ts x is. absurd is;
}
scope_wider text limit limit' (suc room) zero depth looser more = absurd (omega arith)
scope_wider text limit limit' (suc room) (suc room') depth looser more =
    let s = scope text limit room (suc depth) in
    let s' = scope text limit' room' (suc depth) in
    let w = scope_wider text limit limit' room room' (suc depth) looser (omega arith) in
    record {
      text = refl;
      may_open = λ t is. looser t (suc depth) is;
      operand = operand_part.wider s s' w;
      expression = expression_part.wider s s' w;
      domain = domain_part.wider s s' w;
      bound = λ q. (bound_part q).wider s s' w;
    }

-- ---- roomy scopes

some_then : {A B : Type 0} {P : Spelling A} {Q : Spelling B} → HasSome P → HasSome Q → HasSome (Then P Q)
some_then a b = (a.0 ++ b.0, (a.1, b.1), (a.0, b.0, refl, a.2, b.2))

some_behind : {A B : Type 0} {P : Spelling A} {Q : Spelling B} → HasSome P → HasSome Q → HasSome (Behind P Q)
some_behind a b = let c = some_then a b in (c.0, c.1.1, (c.1, c.2, refl))

some_before : {A B : Type 0} {P : Spelling A} {Q : Spelling B} → HasSome P → HasSome Q → HasSome (Before P Q)
some_before a b = let c = some_then a b in (c.0, c.1.0, (c.1, c.2, refl))

-- an operand alone is a chain, and a comparison
chain_alone : (p : Precedence) (Operand : Spelling Expr) (ts : List Token) (e : Expr) → Operand ts e → IsChain p Operand ts e
chain_alone p Operand ts e is = ((e, []), (ts, [], sym (append-nil ts), is, refl), refl)

comparison_alone : (Operand : Spelling Expr) (ts : List Token) (e : Expr) → Operand ts e → IsComparison Operand ts e
comparison_alone Operand ts e is = ((e, None), (ts, [], sym (append-nil ts), is, refl), refl)

operation_alone : (Operand : Spelling Expr) (ts : List Token) (e : Expr) → Operand ts e → IsOperation Operand ts e
operation_alone Operand ts e is =
    chain_alone precedence.Equivalence _ ts e (chain_alone precedence.Implication _ ts e (chain_alone precedence.Disjunction _ ts e
    (chain_alone precedence.Conjunction _ ts e (comparison_alone _ ts e (chain_alone precedence.Sum _ ts e (chain_alone precedence.Product Operand ts e is))))))

some_operand : (s : Scope) → HasSome (IsOperand s)
some_operand s = let t = token_at 0 (kind.Number (pos 0)) in (t ∷ [], expression_at t (form.Number (pos 0)), inr (inr (inl (t, refl, (pos 0, refl, refl)))))

some_expression : (s : Scope) → HasSome (IsExpression s)
some_expression s = let a = some_operand s in (a.0, a.1, inr (operation_alone (IsOperand s) a.0 a.1 a.2))

some_domain : (s : Scope) → HasSome (IsDomain s)
some_domain s = let t = token_at 0 (kind.Reserved reserved.Bool) in (t ∷ [], domain.Bool, inr (inl (t, (t, refl, (refl, refl)), refl)))

some_mark : (m : Mark) → HasSome (Marked m)
some_mark m = let t = token_at 0 (kind.Mark m) in (t ∷ [], t, (t, refl, (refl, refl)))

some_bound : (s : Scope) (q : Quant) (at : ℕ) → ((t : Token) → t.from ≡ at → s.may_open t ≡ true) → HasSome s.domain → HasSome s.expression → HasSome (IsBound s q)
some_bound s q at opens domain expression =
    let t = token_at at kind.Name in
    let name : HasSome (IsBoundName s) = (t ∷ [], name_at s.text t, (t, refl, (refl, opens t refl, refl))) in
    let over = some_behind (some_mark mark.Open) (some_before expression (some_mark mark.Close)) in
    some_then name (some_behind (some_mark mark.Colon) (some_then domain (over.0, over.1, inl over.2)))

-- the tokens at a place may open every level
abbrev pub OpensAt : ℕ → Limit → Type 0
OpensAt at limit = (t : Token) (level : ℕ) → t.from ≡ at → limit t level ≡ true

pub scope_roomy : (text : List ℕ) (limit : Limit) (room depth at : ℕ) → OpensAt at limit → IsRoomy (scope text limit (suc (suc room)) depth)
unfolding scope
scope_roomy text limit room depth at opens =
    let s = scope text limit (suc room) (suc depth) in
    record {
      place = at;
      may_open = λ t e. opens t (suc depth) e;
      operand = some_operand s;
      expression = some_expression s;
      domain = some_domain s;
      bound = λ q. some_bound s q at (λ t e. opens t (suc (suc depth)) e) (some_domain (scope text limit room (suc (suc depth)))) (some_expression (scope text limit room (suc (suc depth))));
    }
