-- How operators with their operands, paths and lists inside a level are read.
use Rattle.std.proofs.Common.{◌≡◌, ◌≤◌, ◌<◌, ℕ, suc, ◌+◌, ◌-◌, Bool, true, false, List, [], ◌∷◌, ◌++◌, length, map, Option, Some, None, refl, sym, ◌∙◌, ap, subst, append_assoc, arith}
use Rattle.std.proofs.lemmas.List.{length-append, append-nil}
use Rattle.std.specs.List.{flat_map}
use Rattle.hll_lexer.specs.declared.token.Mark.TheVariants as mark
use Rattle.hll_lexer.specs.declared.token.Reserved.{Reserved}
use Rattle.hll_lexer.specs.declared.token.Reserved.TheVariants as reserved
use Rattle.hll_lexer.specs.declared.token.Token.{Token}
use Rattle.hll_lexer.specs.declared.token.TokenKind.{TokenKind}
use Rattle.hll_lexer.specs.declared.token.TokenKind.TheVariants as kind
use Rattle.hll_tree.specs.declared.tree.Branch.{Branch}
use Rattle.hll_tree.specs.declared.tree.Cmp.{Cmp}
use Rattle.hll_tree.specs.declared.tree.Expr.{Expr, roll-Expr}
use Rattle.hll_tree.specs.declared.tree.Form.TheVariants as form
use Rattle.hll_tree.specs.declared.tree.Link.{Link, roll-Link}
use Rattle.hll_tree.specs.declared.tree.Name.{Name}
use Rattle.hll_tree.specs.declared.tree.Op.{Op}
use Rattle.hll_tree.specs.declared.tree.Precedence.{Precedence}
use Rattle.hll_tree.specs.declared.tree.Precedence.TheVariants as precedence
use Rattle.hll_tree.specs.declared.tree.Reach.{Reach}
use Rattle.hll_tree.specs.declared.tree.Reach.TheVariants as reach
use Rattle.hll_tree.specs.Spells.{Many, Then, Worded, Marked, Opening, Listed, AreIndices, Behind, Perhaps, IsSign, IsComparisonSign, IsLink, IsBranch, IsPath, IsName, mark_of, precedence_of, mark_of_comparison, chain_of, comparison_of, expression_at, scope}
use Rattle.hll_grammar.specs.Lookahead.{Kinds, holds, nothing, a_name, begins_expression, begins_domain, with, marks_of, words_of, signs, comparison_signs, begins_operand, after_operand, after_sum, after_comparison, after_expression, list_goes_on, mark_number, word_number}
use Rattle.hll_grammar.specs.Operations.{IsTighter, IsChainOf, IsCompared, IsSum, after_tighter, after_chain}
use Rattle.hll_grammar.specs.Pieces.{AreElifs, after_elifs, IsReach, IsFirstValue}
use Rattle.hll_grammar.specs.Reading.{Form, Stops, IsRead, Fails, ManySoFar, within, unlimited}
use Rattle.hll_grammar.specs.Unread.{Unread, Accepts, Takes, starts}
use Rattle.hll_grammar.specs.declared.fault.SyntaxFault.{SyntaxFault}
use Rattle.hll_grammar.proofs.Sets.{Apart, Covers, Follows, apart, covers, without, covers_left, covers_right, covers_same, covers_nothing, follows, follows_end}
use Rattle.hll_grammar.proofs.Parts.{Begins, Part}
use Rattle.hll_grammar.proofs.Scopes.{scope_laws}
use Rattle.hll_grammar.proofs.Combined.{then_part, made_part, perhaps_part, many_part, marked_part, worded_part, holds_mark, holds_word}
use Rattle.hll_grammar.proofs.Fronts.{stops_covered, stops_both}
use Rattle.hll_grammar.proofs.Tokens.{name_part, sign_part, comparison_sign_part}
use Rattle.hll_grammar.proofs.Forms.{inner_expression_part, reach_part, reaches_part, further_part}
use Rattle.hll_grammar.proofs.Operations.{link_part, compared_part, branch_part, elif_part, products_part, sums_part, comparisons_part, conjunctions_part, disjunctions_part, implications_part}
use Rattle.hll_grammar.proofs.Forms.{operand_part}
use Rattle.hll_grammar.proofs.Lists.{lists, starts_begins, starts_stops}
use Rattle.hll_grammar.proofs.Expressions.{indices_read, indices_fails_2, indices_fails_3}
use Rattle.hll_grammar.specs.Repetition.{ListSoFar, Lists}
use Rattle.hll_grammar.proofs.Taking.{word_taken, word_stops, mark_stops, mark_taken}
use Rattle.hll_grammar.proofs.Readings.{one_read, then_read, then_fails_early, then_fails_late, behind_read, behind_fails_early, behind_fails_late, made_read, made_fails, many_start, many_more, many_end, many_fails, perhaps_none, perhaps_read, perhaps_fails}

-- ---- measures

-- a part that isn't empty takes a token
pub shorter : {A : Type 0} {P : Form A} {begins goes_on : Kinds} → Part P begins false goes_on → {text : List ℕ} {room : ℕ} {old new : List Token} {x : A} →
    IsRead P goes_on text room old new x → length new < length old
shorter {P = P} {begins = begins} p {text} {room} {old} {new} {x} r =
    not_empty r.front (λ e. false_true ((p.lawful (within text room) (scope_laws text _ room _)).first r.front x r.spelled) e) r.parts
  where
    false_true : Begins begins false r.front → r.front ≡ [] → ⊥
    false_true b e = let h : false ≡ true = subst (Begins begins false) e b in cc

    not_empty : (front : List Token) → (front ≡ [] → ⊥) → old ≡ front ++ new → length new < length old
    not_empty [] isn't e = absurd (isn't refl)
    not_empty (t ∷ ts) isn't e = omega (arith, ap length e, length-append ts new)

pub no_longer : {A : Type 0} {P : Form A} {goes_on : Kinds} {text : List ℕ} {room : ℕ} {old new : List Token} {x : A} → IsRead P goes_on text room old new x → length new ≤ length old
no_longer {old = old} {new = new} r = omega (arith, ap length r.parts, length-append r.front new)

pub shorter_behind : {A : Type 0} {P : Form A} {goes_on : Kinds} {text : List ℕ} {room : ℕ} {old mid new : List Token} {x : A} (t : Token) → old ≡ t ∷ mid → IsRead P goes_on text room mid new x →
    length new < length old
shorter_behind t e r = let h = no_longer r in omega (arith, ap length e)

pub one_less : (n : ℕ) → 1 ≤ n → n ≡ suc (n - 1)
one_less n h = omega arith

-- ---- chains

pub tighter_part : (p : Precedence) → Part (IsTighter p) begins_operand false (after_tighter p)
tighter_part precedence.Equivalence = implications_part
tighter_part precedence.Implication = disjunctions_part
tighter_part precedence.Disjunction = conjunctions_part
tighter_part precedence.Conjunction = comparisons_part
tighter_part precedence.Sum = products_part
tighter_part precedence.Product = operand_part

tighter_apart : (p : Precedence) → Apart (after_tighter p) (marks_of (signs p))
unfolding mark_number word_number
tighter_apart precedence.Equivalence = apart _ _ refl
tighter_apart precedence.Implication = apart _ _ refl
tighter_apart precedence.Disjunction = apart _ _ refl
tighter_apart precedence.Conjunction = apart _ _ refl
tighter_apart precedence.Sum = apart _ _ refl
tighter_apart precedence.Product = apart _ _ refl

one_link_part : (p : Precedence) → Part (λ s. IsLink p (IsTighter p s)) (marks_of (signs p)) false (after_tighter p)
one_link_part p = link_part p (tighter_part p)

links_part : (p : Precedence) → Part (λ s. Many (IsLink p (IsTighter p s))) (marks_of (signs p)) true (after_chain p)
links_part p = many_part (one_link_part p) (tighter_apart p)

links_follow : (p : Precedence) → Follows (after_tighter p) (marks_of (signs p)) true (after_chain p) (after_chain p)
links_follow p = record { apart = tighter_apart p; last = covers_same (after_chain p); past = λ e. covers_right (marks_of (signs p)) (after_tighter p) }

abbrev pub link_of : (Token × Op) × Expr → Link
link_of x = roll-Link (record { op = x.0.1; at = x.0.0.from; with = x.1 })

sign_begins : (p : Precedence) (old new : List Token) (t token : Token) (o : Op) → old ≡ t ∷ new → t.kind ≡ kind.Mark (mark_of o) → precedence_of o ≡ p → token ≡ t → Begins (marks_of (signs p)) false old
sign_begins p old new t token o e is binds same =
    subst (Begins (marks_of (signs p)) false) (sym e)
    (((sign_part p).lawful (scope [] unlimited 0 0) (scope_laws [] unlimited 0 0)).first (t ∷ []) (token, o) (t, refl, (is, binds, same)))

module _ (p : Precedence) {text : List ℕ} {room : ℕ} where
  pub chain_read : {old mid new : List Token} {first : Expr} {links : List Link} → IsRead (IsTighter p) (after_tighter p) text room old mid first →
      IsRead (λ s. Many (IsLink p (IsTighter p s))) (after_chain p) text room mid new links → IsRead (IsChainOf p) (after_chain p) text room old new (chain_of (first, links))
  chain_read r1 r2 = made_read chain_of (then_read (tighter_part p) (links_part p) (links_follow p) r1 r2)

  pub chain_fails_1 : {old : List Token} {fault : SyntaxFault} → Fails (IsTighter p) (after_tighter p) text room old fault → Fails (IsChainOf p) (after_chain p) text room old fault
  chain_fails_1 f = made_fails chain_of (then_fails_early (tighter_part p) (links_part p) (links_follow p) f)

  pub chain_fails_2 : {old mid : List Token} {first : Expr} {fault : SyntaxFault} → IsRead (IsTighter p) (after_tighter p) text room old mid first →
      Fails (λ s. Many (IsLink p (IsTighter p s))) (after_chain p) text room mid fault → Fails (IsChainOf p) (after_chain p) text room old fault
  chain_fails_2 r f = made_fails chain_of (then_fails_late (tighter_part p) (links_part p) (links_follow p) r f)

  sign_read : (old new : List Token) (t token : Token) (o : Op) → old ≡ t ∷ new → t.kind ≡ kind.Mark (mark_of o) → precedence_of o ≡ p → token ≡ t →
      IsRead (λ s. IsSign p) nothing text room old new (token, o)
  sign_read old new t token o e is binds same =
      subst (λ (us : List Token). IsRead (λ s. IsSign p) nothing text room us new (token, o)) (sym e)
      (one_read (λ s u x. (u.kind ≡ kind.Mark (mark_of x.1)) × (precedence_of x.1 ≡ p) × (x.0 ≡ u)) (sign_part p) text room t new (token, o) (is, binds, same))

  pub links_start : (old : List Token) (links : List Link) → links ≡ [] → ManySoFar (λ s. IsLink p (IsTighter p s)) (after_chain p) text room old old links
  links_start old links e =
      subst (λ (ls : List Link). ManySoFar (λ s. IsLink p (IsTighter p s)) (after_chain p) text room old old ls) (sym e) (many_start (λ s. IsLink p (IsTighter p s)) (after_chain p) text room old)

  pub links_more : {old now mid new : List Token} {links more : List Link} (token : Token) (o : Op) (with : Expr) →
      ManySoFar (λ s. IsLink p (IsTighter p s)) (after_chain p) text room old now links →
      (t : Token) × (now ≡ t ∷ mid) × ((t.kind ≡ kind.Mark (mark_of o)) × (precedence_of o ≡ p) × (token ≡ t)) →
      IsRead (IsTighter p) (after_tighter p) text room mid new with → more ≡ links ++ link_of ((token, o), with) ∷ [] →
      ManySoFar (λ s. IsLink p (IsTighter p s)) (after_chain p) text room old new more
  links_more {old} {now} {mid} {new} {links} {more} token o with m h r e =
      subst (λ (ls : List Link). ManySoFar (λ s. IsLink p (IsTighter p s)) (after_chain p) text room old new ls) (sym e)
      (many_more (one_link_part p) (covers_left (marks_of (signs p)) (after_tighter p)) (covers_right (marks_of (signs p)) (after_tighter p)) (tighter_apart p) m
      (made_read link_of (then_read (sign_part p) (tighter_part p) (follows_end begins_operand false (after_tighter p)) (sign_read now mid h.0 token o h.1 h.2.0 h.2.1 h.2.2) r)))

  pub links_fail : {old now mid : List Token} {links : List Link} {fault : SyntaxFault} (token : Token) (o : Op) →
      ManySoFar (λ s. IsLink p (IsTighter p s)) (after_chain p) text room old now links →
      (t : Token) × (now ≡ t ∷ mid) × ((t.kind ≡ kind.Mark (mark_of o)) × (precedence_of o ≡ p) × (token ≡ t)) →
      Fails (IsTighter p) (after_tighter p) text room mid fault → Fails (λ s. Many (IsLink p (IsTighter p s))) (after_chain p) text room old fault
  links_fail {old} {now} {mid} token o m h f =
      many_fails (one_link_part p) (covers_left (marks_of (signs p)) (after_tighter p)) (covers_right (marks_of (signs p)) (after_tighter p)) (tighter_apart p) m
      (begins_more now (sign_begins p now mid h.0 token o h.1 h.2.0 h.2.1 h.2.2))
      (made_fails link_of (then_fails_late (sign_part p) (tighter_part p) (follows_end begins_operand false (after_tighter p)) (sign_read now mid h.0 token o h.1 h.2.0 h.2.1 h.2.2) f))
    where
      begins_more : (ts : List Token) → Begins (marks_of (signs p)) false ts → Begins (after_chain p) false ts
      begins_more [] b = b
      begins_more (t ∷ ts) b = (covers_left (marks_of (signs p)) (after_tighter p)).all t.kind b

  pub links_end : {old now : List Token} {links : List Link} → ManySoFar (λ s. IsLink p (IsTighter p s)) (after_chain p) text room old now links → Stops (marks_of (signs p)) now →
      IsRead (λ s. Many (IsLink p (IsTighter p s))) (after_chain p) text room old now links
  links_end m stops = many_end (one_link_part p) (covers_left (marks_of (signs p)) (after_tighter p)) (covers_right (marks_of (signs p)) (after_tighter p)) (tighter_apart p) m stops

-- ---- comparisons

abbrev AndOne : Form ((Token × Cmp) × Expr)
AndOne s = Then IsComparisonSign (IsSum s)

and_one_part : Part AndOne (marks_of comparison_signs) false after_sum
and_one_part = compared_part sums_part

and_follow : Follows after_sum (marks_of comparison_signs) true after_comparison after_comparison
unfolding mark_number word_number
and_follow = follows _ _ _ _ _ refl

comparison_begins : (old new : List Token) (t token : Token) (o : Cmp) → old ≡ t ∷ new → t.kind ≡ kind.Mark (mark_of_comparison o) → token ≡ t → Begins after_comparison false old
comparison_begins old new t token o e is same =
    subst (Begins after_comparison false) (sym e)
    ((covers_left (marks_of comparison_signs) after_sum).all t.kind
    ((comparison_sign_part.lawful (scope [] unlimited 0 0) (scope_laws [] unlimited 0 0)).first (t ∷ []) (token, o) (t, refl, (is, same))))

module _ {text : List ℕ} {room : ℕ} where
  comparison_read : (old new : List Token) (t token : Token) (o : Cmp) → old ≡ t ∷ new → t.kind ≡ kind.Mark (mark_of_comparison o) → token ≡ t →
      IsRead (λ s. IsComparisonSign) nothing text room old new (token, o)
  comparison_read old new t token o e is same =
      subst (λ (us : List Token). IsRead (λ s. IsComparisonSign) nothing text room us new (token, o)) (sym e)
      (one_read (λ s u x. (u.kind ≡ kind.Mark (mark_of_comparison x.1)) × (x.0 ≡ u)) comparison_sign_part text room t new (token, o) (is, same))

  pub alone_read : {old new : List Token} {left : Expr} → IsRead IsSum after_sum text room old new left → Stops (marks_of comparison_signs) new →
      IsRead IsCompared after_comparison text room old new left
  alone_read r stops = made_read comparison_of (then_read sums_part (perhaps_part and_one_part) and_follow r (perhaps_none and_one_part stops))

  pub compared_read : {old mid behind new : List Token} {left right : Expr} (token : Token) (o : Cmp) → IsRead IsSum after_sum text room old mid left →
      (t : Token) × (mid ≡ t ∷ behind) × ((t.kind ≡ kind.Mark (mark_of_comparison o)) × (token ≡ t)) → IsRead IsSum after_sum text room behind new right →
      IsRead IsCompared after_comparison text room old new (expression_at token (form.Compare o left right))
  compared_read {old} {mid} {behind} {new} token o r1 h r3 = made_read comparison_of (then_read sums_part (perhaps_part and_one_part) and_follow r1
      (perhaps_read and_one_part (covers_left (marks_of comparison_signs) after_sum) (covers_right (marks_of comparison_signs) after_sum)
      (then_read comparison_sign_part sums_part (follows_end begins_operand false after_sum) (comparison_read mid behind h.0 token o h.1 h.2.0 h.2.1) r3)))

  pub compared_fails_1 : {old : List Token} {fault : SyntaxFault} → Fails IsSum after_sum text room old fault → Fails IsCompared after_comparison text room old fault
  compared_fails_1 f = made_fails comparison_of (then_fails_early sums_part (perhaps_part and_one_part) and_follow f)

  pub compared_fails_3 : {old mid behind : List Token} {left : Expr} {fault : SyntaxFault} (token : Token) (o : Cmp) → IsRead IsSum after_sum text room old mid left →
      (t : Token) × (mid ≡ t ∷ behind) × ((t.kind ≡ kind.Mark (mark_of_comparison o)) × (token ≡ t)) → Fails IsSum after_sum text room behind fault →
      Fails IsCompared after_comparison text room old fault
  compared_fails_3 {old} {mid} {behind} token o r1 h f = made_fails comparison_of (then_fails_late sums_part (perhaps_part and_one_part) and_follow r1
      (perhaps_fails and_one_part (covers_right (marks_of comparison_signs) after_sum) (comparison_begins mid behind h.0 token o h.1 h.2.0 h.2.1)
      (then_fails_late comparison_sign_part sums_part (follows_end begins_operand false after_sum) (comparison_read mid behind h.0 token o h.1 h.2.0 h.2.1) f)))

-- ---- `elif`

elif_apart : Apart after_expression (words_of (reserved.Elif ∷ []))
unfolding mark_number word_number
elif_apart = apart _ _ refl

module _ {text : List ℕ} {room : ℕ} where
  pub elifs_start : (old : List Token) (branches : List Branch) → branches ≡ [] → ManySoFar (λ s. Behind (Worded reserved.Elif) (IsBranch s)) after_elifs text room old old branches
  elifs_start old branches e =
      subst (λ (bs : List Branch). ManySoFar (λ s. Behind (Worded reserved.Elif) (IsBranch s)) after_elifs text room old old bs) (sym e)
      (many_start (λ s. Behind (Worded reserved.Elif) (IsBranch s)) after_elifs text room old)

  pub elifs_more : {old now mid new : List Token} {branches more : List Branch} {b : Branch} (t : Token) → ManySoFar (λ s. Behind (Worded reserved.Elif) (IsBranch s)) after_elifs text room old now branches →
      Takes (kind.Reserved reserved.Elif) now mid (Some t) → IsRead IsBranch after_expression text room mid new b → more ≡ branches ++ b ∷ [] →
      ManySoFar (λ s. Behind (Worded reserved.Elif) (IsBranch s)) after_elifs text room old new more
  elifs_more {old} {now} {mid} {new} t m h r e =
      subst (λ (bs : List Branch). ManySoFar (λ s. Behind (Worded reserved.Elif) (IsBranch s)) after_elifs text room old new bs) (sym e)
      (many_more elif_part (covers_left (words_of (reserved.Elif ∷ [])) after_expression) (covers_right (words_of (reserved.Elif ∷ [])) after_expression) elif_apart m
      (behind_read (worded_part reserved.Elif) branch_part (follows_end _ false after_expression) (word_taken reserved.Elif t h) r))

  pub elifs_fail : {old now mid : List Token} {branches : List Branch} {fault : SyntaxFault} (t : Token) → ManySoFar (λ s. Behind (Worded reserved.Elif) (IsBranch s)) after_elifs text room old now branches →
      Takes (kind.Reserved reserved.Elif) now mid (Some t) → Fails IsBranch after_expression text room mid fault → Fails AreElifs after_elifs text room old fault
  elifs_fail {old} {now} {mid} t m h f =
      many_fails elif_part (covers_left (words_of (reserved.Elif ∷ [])) after_expression) (covers_right (words_of (reserved.Elif ∷ [])) after_expression) elif_apart m
      (subst (Begins after_elifs false) (sym h.0) (subst (λ k. holds_elif k) (sym h.1) ((covers_left (words_of (reserved.Elif ∷ [])) after_expression).all (kind.Reserved reserved.Elif) (holds_word reserved.Elif))))
      (behind_fails_late (worded_part reserved.Elif) branch_part (follows_end _ false after_expression) (word_taken reserved.Elif t h) f)
    where
      holds_elif : TokenKind → Type 0
      holds_elif k = holds after_elifs k ≡ true

  pub elifs_end : {old now mid : List Token} {branches : List Branch} → ManySoFar (λ s. Behind (Worded reserved.Elif) (IsBranch s)) after_elifs text room old now branches →
      Takes (kind.Reserved reserved.Elif) now mid None → IsRead AreElifs after_elifs text room old mid branches
  elifs_end {old} {now} {mid} {branches} m h =
      subst (λ (us : List Token). IsRead AreElifs after_elifs text room old us branches) (sym h.0)
      (many_end elif_part (covers_left (words_of (reserved.Elif ∷ [])) after_expression) (covers_right (words_of (reserved.Elif ∷ [])) after_expression) elif_apart m
      (word_stops reserved.Elif now mid h))

-- ---- paths

reach_apart : Apart nothing after_operand
unfolding mark_number word_number
reach_apart = apart _ _ refl

reaches_follow : Follows nothing after_operand true after_operand after_operand
reaches_follow = follows_end after_operand true after_operand

abbrev pub path_of : Name × List (List Reach) → Expr
path_of x = roll-Expr (record { at = x.0.at; form = form.Path x.0 (flat_map (λ rs. rs) x.1) })

-- what was reached so far
pub record ReachSoFar (text : List ℕ) (room : ℕ) (old now : List Token) (reaches : List Reach) : Type 0 where
  pub steps : List (List Reach)
  pub all : reaches ≡ flat_map (λ rs. rs) steps
  pub so_far : ManySoFar IsReach after_operand text room old now steps

flat_more : (steps : List (List Reach)) (last : List Reach) → flat_map (λ rs. rs) (steps ++ last ∷ []) ≡ flat_map (λ rs. rs) steps ++ last
flat_more [] last = append-nil last
flat_more (step ∷ steps) last = ap (λ (rs : List Reach). step ++ rs) (flat_more steps last) ∙ sym (append_assoc step (flat_map (λ rs. rs) steps) last)

module _ {text : List ℕ} {room : ℕ} where
  pub reach_start : (old : List Token) (reaches : List Reach) → reaches ≡ [] → ReachSoFar text room old old reaches
  reach_start old reaches e = record { steps = []; all = e; so_far = many_start IsReach after_operand text room old }

  pub reach_more : {old now new : List Token} {reaches more : List Reach} {step : List Reach} → ReachSoFar text room old now reaches → IsRead IsReach nothing text room now new step →
      more ≡ reaches ++ step → ReachSoFar text room old new more
  reach_more {step = step} m r e = record {
    steps = m.steps ++ step ∷ [];
    all = e ∙ ap (λ (rs : List Reach). rs ++ step) m.all ∙ sym (flat_more m.steps step);
    so_far = many_more reach_part (covers_same after_operand) (covers_nothing after_operand) reach_apart m.so_far r;
  }

  pub path_fails_1 : {old : List Token} {fault : SyntaxFault} → Fails IsName nothing text room old fault → Fails IsPath after_operand text room old fault
  path_fails_1 f = made_fails path_of (then_fails_early name_part reaches_part reaches_follow f)

  pub path_fails_2 : {old mid now : List Token} {name : Name} {reaches : List Reach} {fault : SyntaxFault} → IsRead IsName nothing text room old mid name → ReachSoFar text room mid now reaches →
      starts after_operand now ≡ true → Fails IsReach nothing text room now fault → Fails IsPath after_operand text room old fault
  path_fails_2 {now = now} r m next f = made_fails path_of (then_fails_late name_part reaches_part reaches_follow r
      (many_fails reach_part (covers_same after_operand) (covers_nothing after_operand) reach_apart m.so_far (starts_begins after_operand now next) f))

  pub path_read : {old mid now : List Token} {name : Name} {reaches : List Reach} → IsRead IsName nothing text room old mid name → ReachSoFar text room mid now reaches →
      starts after_operand now ≡ false → IsRead IsPath after_operand text room old now (roll-Expr (record { at = name.at; form = form.Path name reaches }))
  path_read {old} {mid} {now} {name} {reaches} r m next =
      subst (λ (rs : List Reach). IsRead IsPath after_operand text room old now (roll-Expr (record { at = name.at; form = form.Path name rs }))) (sym m.all)
      (made_read path_of (then_read name_part reaches_part reaches_follow r
      (many_end reach_part (covers_same after_operand) (covers_nothing after_operand) reach_apart m.so_far (starts_stops after_operand now next))))

-- ---- a first value

module _ {text : List ℕ} {room : ℕ} where
  pub no_first_value : {old mid : List Token} → Takes (kind.Mark mark.Comma) old mid None → IsRead IsFirstValue (list_goes_on after_expression) text room old mid None
  no_first_value {old} {mid} h =
      subst (λ (us : List Token). IsRead IsFirstValue (list_goes_on after_expression) text room old us None) (sym h.0) (perhaps_none further_part (mark_stops mark.Comma old mid h))

  pub first_value_read : {old mid new : List Token} {e : Expr} (t : Token) → Takes (kind.Mark mark.Comma) old mid (Some t) → IsRead (λ s. s.expression) after_expression text room mid new e →
      IsRead IsFirstValue (list_goes_on after_expression) text room old new (Some e)
  first_value_read t h r = perhaps_read further_part (covers_left (marks_of (mark.Comma ∷ [])) after_expression) (covers_right (marks_of (mark.Comma ∷ [])) after_expression)
      (behind_read (marked_part mark.Comma) inner_expression_part (follows_end _ false after_expression) (mark_taken mark.Comma t h) r)

  pub first_value_fails : {old mid : List Token} {fault : SyntaxFault} (t : Token) → Takes (kind.Mark mark.Comma) old mid (Some t) → Fails (λ s. s.expression) after_expression text room mid fault →
      Fails IsFirstValue (list_goes_on after_expression) text room old fault
  first_value_fails {old} {mid} t h f = perhaps_fails further_part (covers_right (marks_of (mark.Comma ∷ [])) after_expression)
      (subst (Begins (list_goes_on after_expression) false) (sym h.0) (subst (λ k. holds_comma k) (sym h.1) ((covers_left (marks_of (mark.Comma ∷ [])) after_expression).all (kind.Mark mark.Comma) (holds_mark mark.Comma))))
      (behind_fails_late (marked_part mark.Comma) inner_expression_part (follows_end _ false after_expression) (mark_taken mark.Comma t h) f)
    where
      holds_comma : TokenKind → Type 0
      holds_comma k = holds (list_goes_on after_expression) k ≡ true

-- ---- lists inside a level

inner_lists : Lists (λ s. s.expression) after_expression
unfolding mark_number word_number
inner_lists = lists inner_expression_part (apart _ _ refl)

module _ {text : List ℕ} {room : ℕ} where
  pub items_start : {old now : List Token} {x : Expr} {items : List Expr} → IsRead (λ s. s.expression) after_expression text room old now x → items ≡ x ∷ [] →
      ListSoFar (λ s. s.expression) after_expression text room old now items
  items_start {old} {now} {x} r e = subst (λ (xs : List Expr). ListSoFar (λ s. s.expression) after_expression text room old now xs) (sym e) (inner_lists.start text room old now x r)

  pub items_fail_first : {old : List Token} {fault : SyntaxFault} → Fails (λ s. s.expression) after_expression text room old fault →
      Fails (λ s. Listed s.expression) (list_goes_on after_expression) text room old fault
  items_fail_first {old} {fault} f = inner_lists.start_fails text room old fault f

  pub items_more : {old now rest new : List Token} {items more : List Expr} {t : Token} {x : Expr} → ListSoFar (λ s. s.expression) after_expression text room old now items →
      now ≡ t ∷ rest → t.kind ≡ kind.Mark mark.Comma → IsRead (λ s. s.expression) after_expression text room rest new x → more ≡ items ++ x ∷ [] →
      ListSoFar (λ s. s.expression) after_expression text room old new more
  items_more {old} {now} {rest} {new} {items} {more} {t} {x} l e is r eq =
      subst (λ (xs : List Expr). ListSoFar (λ s. s.expression) after_expression text room old new xs) (sym eq) (inner_lists.further text room old now rest new items t x l e is r)

  pub items_fail : {old now rest : List Token} {items : List Expr} {t : Token} {fault : SyntaxFault} → ListSoFar (λ s. s.expression) after_expression text room old now items →
      now ≡ t ∷ rest → t.kind ≡ kind.Mark mark.Comma → Fails (λ s. s.expression) after_expression text room rest fault →
      Fails (λ s. Listed s.expression) (list_goes_on after_expression) text room old fault
  items_fail {old} {now} {rest} {items} {t} {fault} l e is f = inner_lists.further_fails text room old now rest items t fault l e is f

  pub items_end : {old now mid : List Token} {items : List Expr} → ListSoFar (λ s. s.expression) after_expression text room old now items → Takes (kind.Mark mark.Comma) now mid None →
      IsRead (λ s. Listed s.expression) (list_goes_on after_expression) text room old mid items
  items_end {old} {now} {mid} {items} l h =
      subst (λ (us : List Token). IsRead (λ s. Listed s.expression) (list_goes_on after_expression) text room old us items) (sym h.0)
      (inner_lists.end text room old now items l (mark_stops mark.Comma now mid h))

-- indices behind a bracket that was opened
pub record IndicesSoFar (text : List ℕ) (room : ℕ) (old now : List Token) (reached : List Reach) : Type 0 where
  pub opening : Token
  pub behind : List Token
  pub opened : IsRead (λ s. Opening s mark.OpenBracket) nothing text room old behind opening
  pub indices : List Expr
  pub all : reached ≡ map reach.At indices
  pub so_far : ListSoFar (λ s. s.expression) after_expression text room behind now indices

map_more : (es : List Expr) (e : Expr) → map reach.At es ++ reach.At e ∷ [] ≡ map reach.At (es ++ e ∷ [])
map_more [] e = refl
map_more (x ∷ es) e = ap (λ (rs : List Reach). reach.At x ∷ rs) (map_more es e)

module _ {text : List ℕ} {room : ℕ} where
  pub indices_start : {old behind now : List Token} {opening : Token} {x : Expr} {reached : List Reach} → IsRead (λ s. Opening s mark.OpenBracket) nothing text room old behind opening →
      IsRead (λ s. s.expression) after_expression text room behind now x → reached ≡ reach.At x ∷ [] → IndicesSoFar text room old now reached
  indices_start {behind = behind} {opening = opening} {x = x} o r e = record { opening = opening; behind = behind; opened = o; indices = x ∷ []; all = e; so_far = items_start r refl }

  pub indices_more : {old now rest new : List Token} {reached more : List Reach} {t : Token} {x : Expr} → IndicesSoFar text room old now reached → now ≡ t ∷ rest → t.kind ≡ kind.Mark mark.Comma →
      IsRead (λ s. s.expression) after_expression text room rest new x → more ≡ reached ++ reach.At x ∷ [] → IndicesSoFar text room old new more
  indices_more {x = x} l e is r eq = record {
    opening = l.opening;
    behind = l.behind;
    opened = l.opened;
    indices = l.indices ++ x ∷ [];
    all = eq ∙ ap (λ (rs : List Reach). rs ++ reach.At x ∷ []) l.all ∙ map_more l.indices x;
    so_far = items_more l.so_far e is r refl;
  }

  pub indices_fail : {old now rest : List Token} {reached : List Reach} {t : Token} {fault : SyntaxFault} → IndicesSoFar text room old now reached → now ≡ t ∷ rest → t.kind ≡ kind.Mark mark.Comma →
      Fails (λ s. s.expression) after_expression text room rest fault → Fails AreIndices nothing text room old fault
  indices_fail l e is f = indices_fails_2 l.opened (items_fail l.so_far e is f)

  pub indices_unclosed : {old now mid : List Token} {reached : List Reach} {fault : SyntaxFault} → IndicesSoFar text room old now reached → Takes (kind.Mark mark.Comma) now mid None →
      Fails (λ s. Marked mark.CloseBracket) nothing text room mid fault → Fails AreIndices nothing text room old fault
  indices_unclosed l h f = indices_fails_3 l.opened (items_end l.so_far h) f

  pub indices_closed : {old now mid new : List Token} {reached : List Reach} {t : Token} → IndicesSoFar text room old now reached → Takes (kind.Mark mark.Comma) now mid None →
      IsRead (λ s. Marked mark.CloseBracket) nothing text room mid new t → IsRead AreIndices nothing text room old new reached
  indices_closed {old} {now} {mid} {new} l h r =
      subst (λ (rs : List Reach). IsRead AreIndices nothing text room old new rs) (sym l.all) (indices_read l.opened (items_end l.so_far h) r)

-- a name with what was reached through it
pub record PathSoFar (text : List ℕ) (room : ℕ) (old now : List Token) (name : Name) (reaches : List Reach) : Type 0 where
  pub behind : List Token
  pub named : IsRead IsName nothing text room old behind name
  pub so_far : ReachSoFar text room behind now reaches

-- ---- what doesn't stand next

pub not_if : (ts : List Token) → Stops (words_of (reserved.If ∷ [])) ts → Stops (without begins_expression begins_operand) ts
unfolding mark_number word_number
not_if ts h = stops_covered {whole = words_of (reserved.If ∷ [])} {k = without begins_expression begins_operand} (covers (words_of (reserved.If ∷ [])) (without begins_expression begins_operand) refl) ts h

pub not_bracket : (ts : List Token) → Stops (marks_of (mark.OpenBracket ∷ [])) ts → Stops (without after_operand (marks_of (mark.Dot ∷ []))) ts
unfolding mark_number word_number
not_bracket ts h = stops_covered {whole = marks_of (mark.OpenBracket ∷ [])} {k = without after_operand (marks_of (mark.Dot ∷ []))} (covers (marks_of (mark.OpenBracket ∷ [])) (without after_operand (marks_of (mark.Dot ∷ []))) refl) ts h

pub not_comma : (ts : List Token) → Stops (marks_of (mark.Comma ∷ [])) ts → Stops (without (marks_of (mark.Open ∷ mark.Comma ∷ [])) (marks_of (mark.Open ∷ []))) ts
unfolding mark_number word_number
not_comma ts h = stops_covered {whole = marks_of (mark.Comma ∷ [])} {k = without (marks_of (mark.Open ∷ mark.Comma ∷ [])) (marks_of (mark.Open ∷ []))} (covers (marks_of (mark.Comma ∷ [])) (without (marks_of (mark.Open ∷ mark.Comma ∷ [])) (marks_of (mark.Open ∷ []))) refl) ts h

pub not_range : (ts : List Token) → Stops (marks_of (mark.OpenBracket ∷ [])) ts → Stops a_name ts → Stops (without begins_domain (words_of (reserved.Bool ∷ []))) ts
unfolding mark_number word_number
not_range ts h k = stops_covered {whole = with (marks_of (mark.OpenBracket ∷ [])) a_name} {k = without begins_domain (words_of (reserved.Bool ∷ []))}
    (covers (with (marks_of (mark.OpenBracket ∷ [])) a_name) (without begins_domain (words_of (reserved.Bool ∷ []))) refl) ts (stops_both (marks_of (mark.OpenBracket ∷ [])) a_name ts h k)

module _ {text : List ℕ} {room : ℕ} {old : List Token} {v w : Reserved} where
  pub worded_as : {new : List Token} {t : Token} → v ≡ w → IsRead (λ s. Worded v) nothing text room old new t → IsRead (λ s. Worded w) nothing text room old new t
  worded_as {new} {t} e r = subst (λ (u : Reserved). IsRead (λ s. Worded u) nothing text room old new t) e r

  pub not_worded_as : {fault : SyntaxFault} → v ≡ w → Fails (λ s. Worded v) nothing text room old fault → Fails (λ s. Worded w) nothing text room old fault
  not_worded_as {fault} e f = subst (λ (u : Reserved). Fails (λ s. Worded u) nothing text room old fault) e f
