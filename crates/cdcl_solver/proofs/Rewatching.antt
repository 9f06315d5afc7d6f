-- A search in which another literal watches a clause.
use Rattle.std.proofs.Common.{◌≡◌, ◌≢◌, ◌<◌, ◌≤◌, ◌++◌, ◌∷◌, [], ◌⊎◌, inl, inr, ℕ, List, sym, ap, subst, ◌∙◌, length, get_or, take, true, false, arith}
use Rattle.std.specs.Prelude.{ℤ, pos, All, Contains, ◌↔◌, swap, slice_get, Some}
use Rattle.std.specs.List.{swap_remove}
use Rattle.std.specs.List.Sorted.{IsPermutation}
use Rattle.std.proofs.Math.Decide.{ℕ_discrete}
use Rattle.std.proofs.Math.ListN.{set, length-set}
use Rattle.std.proofs.lemmas.List.{get_or_default, get_or_past}
use Rattle.std.proofs.lemmas.List.Elements.{All-contains, All-set, Contains-get_or}
use Rattle.std.proofs.lemmas.List.Sorted.{IsPermutation-swap_remove}
use Rattle.rup_checker.specs.Formulas.{IsLiteral}
use Rattle.rup_checker.specs.Steps.{IsUnit}
use Rattle.rup_checker.specs.Stores.{clause_at}
use Rattle.cdcl_solver.specs.declared.trail.Reason.{Reason}
use Rattle.cdcl_solver.specs.declared.trail.Reason.TheVariants as reason
use Rattle.cdcl_solver.specs.declared.watches.Watch.{Watch}
use Rattle.cdcl_solver.specs.declared.search.Rewatch.{Rewatch}
use Rattle.cdcl_solver.specs.Watches.{Lists, listed, AreEdited, AreApart, IsWatched, IsWatch, IsSafe}
use Rattle.cdcl_solver.specs.Trails.{falses, IsReason}
use Rattle.cdcl_solver.specs.Searches.{Searched, taken, followed_up, IsSearch, IsRewatch, number_at}
use Rattle.cdcl_solver.proofs.Members.{all_from_in}
use Rattle.cdcl_solver.proofs.Lists.{take-swap_remove}
use Rattle.cdcl_solver.proofs.Moved.{Moves, moves, safe_moved, clause_same, clause_other, Relists, watched_moved}
use Rattle.cdcl_solver.proofs.States.{at_get}
use Rattle.cdcl_solver.proofs.TrailParts.{falses_front, trail_changed}

-- a clause that has a literal is one of the list
pub number_within : (cs : List (List ℤ)) (n k : ℕ) → k < length (clause_at cs n) → n < length cs
number_within cs n k low = elim (order n (length cs)) [
  | inl h ↦ h
  | inr h ↦ absurd (omega (arith, low, ap length (get_or_past cs n [] h)))
]
  where
    order : (a b : ℕ) → (a < b) ⊎ (b ≤ a)
    order a b = grind arith

pub unit_same : (taken c c' : List ℤ) (l : ℤ) → ((m : ℤ) → Contains c' m ↔ Contains c m) → IsUnit (Contains taken) c l → IsUnit (Contains taken) c' l
unit_same taken c c' l same u = record {
  stands = (same l).1 u.stands;
  left = u.left;
  alone = λ m here out. u.alone m ((same m).0 here) out;
}

-- a reason stays one
reason_moved : (cs : List (List ℤ)) (number : ℕ) (c' taken : List ℤ) (l fresh m : ℤ) (r : Reason) → number < length cs → Moves (clause_at cs number) c' l fresh
    → ¬ (Contains taken fresh) → IsReason cs taken m r → IsReason (set cs number c') taken m r
reason_moved cs number c' taken l fresh m reason.Decision low moved free why =
    All-set (IsSafe taken taken) cs number c' (safe_moved taken taken (clause_at cs number) c' l fresh moved free (why number [] low)) why
reason_moved cs number c' taken l fresh m (reason.Clause k) low moved free why = (
  omega (arith, why.0, length-set cs number c'),
  elim (ℕ_discrete k number) [
    | yes e ↦ subst (λ (c : List ℤ). IsUnit (Contains taken) c m) (sym (ap (clause_at (set cs number c')) e ∙ clause_same cs number c' low))
        (unit_same taken (clause_at cs number) c' m moved.same (subst (λ (j : ℕ). IsUnit (Contains taken) (clause_at cs j) m) e why.1))
    | no ne ↦ subst (λ (c : List ℤ). IsUnit (Contains taken) c m) (sym (clause_other cs number k c' ne)) why.1
  ],
)

module _ (s : Searched) (l : ℤ) (at : ℕ) (k : Rewatch) (search : IsSearch s) (lit : IsLiteral s.variables l)
    (within : at < length (listed s.lists l)) (number : number_at s l at ≡ k.number) (re : IsRewatch s l k) where
  abbrev c : List ℤ
  c = clause_at s.clauses k.number

  abbrev c' : List ℤ
  c' = swap c k.mine k.place

  abbrev fresh : ℤ
  fresh = get_or c k.place l

  abbrev gone : Watch
  gone = get_or (listed s.lists l) at (record { number = 0; other = pos 0; binary = false })

  pub there : k.number < length s.clauses
  there = number_within s.clauses k.number k.place re.low

  c_apart : AreApart (λ (m : ℤ). m) c
  c_apart = search.clauses.apart k.number [] there

  pub moved : Moves c c' l fresh
  moved = moves c k.mine k.place l c_apart re.mine re.far re.low re.is

  c_in_range : All (IsLiteral s.variables) c
  c_in_range = search.clauses.in_range k.number [] there

  pub fresh_in_range : IsLiteral s.variables fresh
  fresh_in_range = All-contains (IsLiteral s.variables) c fresh c_in_range (Contains-get_or c k.place l re.low)

  pub fresh_is : (literals : List ℤ) → slice_get s.clauses k.number ≡ Some literals → get_or literals k.place (pos 0) ≡ fresh
  fresh_is literals is = ap (λ (xs : List ℤ). get_or xs k.place (pos 0)) (sym (at_get s.clauses k.number literals [] is)) ∙ get_or_default c k.place (pos 0) l re.low

  pub differ : l ≢ fresh
  differ e = let f = c_apart k.mine k.place l (omega (arith, re.mine, re.far, re.low)) re.low (re.is ∙ e) in omega (arith, f, re.mine, re.far)

  c'_in_range : All (IsLiteral s.variables) c'
  c'_in_range = all_from_in (IsLiteral s.variables) c' (λ m h. All-contains (IsLiteral s.variables) c m c_in_range ((moved.same m).0 h))

  module _ (pushed after : Lists) (more : Watch) (is_number : more.number ≡ k.number) (is_other : more.other ≡ k.other) (is_long : more.binary ≡ false)
      (push : AreEdited s.lists pushed fresh (listed s.lists fresh ++ more ∷ [])) where
    pub same_list : listed pushed l ≡ listed s.lists l
    same_list = push.others l differ

    module _ (remove : (d : Watch) → AreEdited pushed after l (swap_remove (listed pushed l) at d)) where
      relists : Relists s.variables (listed s.lists) (listed after) l fresh gone more
      relists = record {
        left = subst (λ (ws : List Watch). IsPermutation (listed s.lists l) (gone ∷ ws))
            (sym ((remove gone).itself ∙ ap (λ (ws : List Watch). swap_remove ws at gone) same_list))
            (IsPermutation-swap_remove (listed s.lists l) at gone within (get_or_default (listed s.lists l) at _ gone within));
        joined = (remove gone).others fresh (λ e. differ (sym e)) ∙ push.itself;
        others = λ m nl nf. (remove gone).others m nl ∙ push.others m nf;
      }

      pub front_stays : take at (listed after l) ≡ take at (listed s.lists l)
      front_stays = ap (λ (ws : List Watch). take at ws) ((remove gone).itself ∙ ap (λ (ws : List Watch). swap_remove ws at gone) same_list)
          ∙ take-swap_remove (listed s.lists l) at gone within

      says : IsWatch c' fresh more
      says = record {
        watched = moved.taken_up;
        other = (moved.same more.other).1 (subst (Contains c) (sym is_other) re.other);
        differ = λ e. moved.before (subst (IsWatched c) (sym is_other ∙ e) re.other_watches);
        binary = λ yes. absurd (false_true (sym is_long ∙ yes));
      }
        where
          false_true : false ≡ true → ⊥
          false_true e = cc

      pub rewatched : (cs : List (List ℤ)) → cs ≡ set s.clauses k.number c'
          → IsSearch (record { variables = s.variables; clauses = cs; lists = after; trail = s.trail; followed = s.followed; started = s.started })
      rewatched cs is = subst (λ (ds : List (List ℤ)). IsSearch (record { variables = s.variables; clauses = ds; lists = after; trail = s.trail; followed = s.followed; started = s.started })) (sym is) (record {
        few = search.few;
        count = omega (arith, search.count, length-set s.clauses k.number c');
        clauses = record {
          in_range = All-set (All (IsLiteral s.variables)) s.clauses k.number c' c'_in_range search.clauses.in_range;
          apart = All-set (AreApart (λ (m : ℤ). m)) s.clauses k.number c' moved.apart search.clauses.apart;
        };
        lists = (remove gone).variables ∙ push.variables ∙ search.lists;
        watched = watched_moved s.variables s.clauses (listed s.lists) (listed after) k.number c' l fresh gone more search.watched there moved lit fresh_in_range differ
            relists number is_number says;
        justified = trail_changed s.variables s.clauses s.trail search.justified (set s.clauses k.number c') (λ j d low why.
            reason_moved s.clauses k.number c' (falses (take j s.trail)) l fresh (get_or s.trail j d).literal (get_or s.trail j d).reason there moved
            (λ h. re.free (falses_front j s.trail fresh h)) why);
        within = search.within;
        safe = λ n low seen. elim (ℕ_discrete n k.number) [
          | yes e ↦ subst (IsSafe (followed_up s) (taken s)) (sym (ap (clause_at (set s.clauses k.number c')) e ∙ clause_same s.clauses k.number c' there))
              (safe_moved (followed_up s) (taken s) c c' l fresh moved (λ h. re.free (falses_front s.followed s.trail fresh h))
              (search.safe k.number there (inr (omega (arith, re.far, re.low)))))
          | no ne ↦ subst (IsSafe (followed_up s) (taken s)) (sym (clause_other s.clauses k.number n c' ne))
              (search.safe n (omega (arith, low, length-set s.clauses k.number c'))
              (subst (λ (xs : List ℤ). (s.started ≡ true) ⊎ (2 ≤ length xs)) (clause_other s.clauses k.number n c' ne) seen))
        ];
      })
