-- The number at a place of what a path reaches in a variable: it is that of one of the cells that the path may stand for.
use Rattle.std.proofs.Common.{◌≡◌, ℕ, ◌+◌, ◌<◌, ◌≤◌, Bool, false, List, [], ◌∷◌, ◌++◌, length, Option, Some, None, unwrap_or, option_map, refl, sym, ap, subst, ◌∙◌, arith}
use Rattle.std.specs.Prelude.{slice_index_or}
use Rattle.std.specs.List.{AllByRecursion, Contains}
use Rattle.std.specs.Str.{bytes_eq}
use Rattle.hll_meaning.specs.Judging.{Reached as Said, reached_from, no_constant, thing_path, bound_path}
use Rattle.hll_meaning.specs.Kinds.{Kind, Typed, Value, Step, cells, steps_into}
use Rattle.hll_meaning.specs.Names.{Thing, constant, type_of, code_in, variable, later, Names, under}
use Rattle.hll_meaning.specs.Runs.{AreOfKinds, variables_among}
use Rattle.hll_meaning.specs.Soundness.{IsFine}
use Rattle.hll_meaning.specs.StaticRules.{asking}
use Rattle.hll_meaning.specs.Values.{History, Instant, variable_in}
use Rattle.hll_meaning.proofs.Faultless.{first_empty}
use Rattle.hll_meaning.proofs.Paths.{AreSteps}
use Rattle.hll_meaning.proofs.Scenes.{by_test, under_here, under_further, under_behind, under_all}
use Rattle.dependence.specs.Mentions.{Stretch, Pick, stretch_of, reached}
use Rattle.dependence.specs.Rows.{row_of, number_at}
use Rattle.dependence.proofs.DefinedCells.{stretch_here, stretch_further, is_stretch}
use Rattle.dependence.proofs.GivenKinds.{Goes, whole_cells, AreOfText, steps_structs}
use Rattle.dependence.proofs.Numbers.{number_of}
use Rattle.dependence.proofs.PlacesOfValues.{IsInRow, in_row}
use Rattle.dependence.proofs.Reached.{ArePicksOf, IsReached, steps_reach}
use Rattle.dependence.proofs.RunsOfCells.{HasStretch, all_at}

-- ---- variables

-- a name that stands for a variable has a stretch
pub stretch_among : (ns : Names) (start : ℕ) (n : List ℕ) (input : Bool) (k : Kind) → under n ns ≡ Some (variable input k) → HasStretch start (variables_among ns) n k
stretch_among [] start n input k is = absurd (cc is)
stretch_among ((own, constant b x) ∷ ns) start n input k is = as_before (stretch_among ns start n input k (under_behind n own (constant b x) (variable input k) ns (λ e. cc e) is))
  where
    as_before : HasStretch start (variables_among ns) n k → HasStretch start (variables_among ((own, constant b x) ∷ ns)) n k
    as_before h = record { stretch = h.stretch; is = h.is; kind = h.kind }
stretch_among ((own, type_of l) ∷ ns) start n input k is = as_before (stretch_among ns start n input k (under_behind n own (type_of l) (variable input k) ns (λ e. cc e) is))
  where
    as_before : HasStretch start (variables_among ns) n k → HasStretch start (variables_among ((own, type_of l) ∷ ns)) n k
    as_before h = record { stretch = h.stretch; is = h.is; kind = h.kind }
stretch_among ((own, code_in root c) ∷ ns) start n input k is = as_before (stretch_among ns start n input k (under_behind n own (code_in root c) (variable input k) ns (λ e. cc e) is))
  where
    as_before : HasStretch start (variables_among ns) n k → HasStretch start (variables_among ((own, code_in root c) ∷ ns)) n k
    as_before h = record { stretch = h.stretch; is = h.is; kind = h.kind }
stretch_among ((own, later) ∷ ns) start n input k is = as_before (stretch_among ns start n input k (under_behind n own later (variable input k) ns (λ e. cc e) is))
  where
    as_before : HasStretch start (variables_among ns) n k → HasStretch start (variables_among ((own, later) ∷ ns)) n k
    as_before h = record { stretch = h.stretch; is = h.is; kind = h.kind }
stretch_among ((own, variable i l) ∷ ns) start n input k is =
    by_test (bytes_eq own n)
    (λ same.
    let e : Some (variable i l) ≡ Some (variable input k) = sym (under_here n own (variable i l) ns same) ∙ is in
    record { stretch = record { start = start; kind = l }; is = stretch_here start own l (variables_among ns) n same; kind = cc e })
    (λ other. further other (stretch_among ns (start + cells l) n input k (sym (under_further n own (variable i l) ns other) ∙ is)))
  where
    further : bytes_eq own n ≡ false → HasStretch (start + cells l) (variables_among ns) n k → HasStretch start (variables_among ((own, variable i l) ∷ ns)) n k
    further other h = record { stretch = h.stretch; is = stretch_further start own l (variables_among ns) n other ∙ h.is; kind = h.kind }

-- ---- paths

-- what steps reach in a variable at an instant
abbrev pub value_reached : Names → Instant → List ℕ → List Step → Value
value_reached ns values n ss = unwrap_or (option_map (λ t. t.value) (steps_into (variable_in ns values n) ss)) []

-- the number there
pub reached_number : (ns : Names) (values : Instant) (n : List ℕ) (x : Stretch) (ss : List Step) (ps : List Pick) (to : Kind) (place cell : ℕ) → IsInRow ns values 0 n x → (r : IsReached x.kind ps ss to) → place < cells to → cell ≡ x.start + r.at + place →
    number_of (value_reached ns values n ss) place ≡ number_of (row_of values) cell
reached_number ns values n x ss ps to place cell row r below is =
    ap (λ (o : Option Typed). number_of (unwrap_or (option_map (λ (t : Typed). t.value) (steps_into o ss)) []) place) row.found
    ∙ ap (λ (o : Option Typed). number_of (unwrap_or (option_map (λ (t : Typed). t.value) o) []) place) (r.found row.value)
    ∙ r.numbers row.value place below
    ∙ sym (row.numbers (r.at + place) cell (omega (arith, below, r.within)) (omega (arith, is)))

-- A path into a variable reaches one of the places at which its picks may begin. There it has as many cells as the kind to which it
-- goes, and at each time of each history the numbers of these cells.
pub record IsPathAt (ns : Names) (n : List ℕ) (ps : List Pick) (ss : List Step) (x : Stretch) (k : Kind) : Type 0 where
  pub at : ℕ
  pub is_one : Contains (reached x.kind ps) at
  pub within : at + cells k ≤ cells x.kind
  pub numbers : (h : History) (t place : ℕ) → AllByRecursion (AreOfKinds (variables_among ns)) h → t < length h → place < cells k →
      number_of (value_reached ns (slice_index_or h t []) n ss) place ≡ number_at h t (x.start + at + place)

pub path_at : (ns : Names) → AreOfText ns → (ks : List (List ℕ × Kind)) (at : ℕ) (n : List ℕ) (rs : List Said) (ps : List Pick) (ss : List Step) (x : Stretch) (k : Kind) → under n ks ≡ None → stretch_of (variables_among ns) n ≡ Some x →
    AreSteps rs ss → ArePicksOf ps ss → (bound_path (asking ns ks) at n rs (under n ks)).faults ≡ [] → Goes ns (bound_path (asking ns ks) at n rs (under n ks)) k → IsPathAt ns n ps ss x k
path_at ns text ks at n rs ps ss x k free is are picks none goes =
    let stretch = is_stretch 0 (variables_among ns) n x is in
    let stands = text.variables n x.kind stretch.kind in
    let c = asking ns ks in
    let way = reached_from c at x.kind rs in
    let unhidden = subst (λ (o : Option Kind). (bound_path c at n rs o).faults ≡ []) free none in
    let none' = subst (λ (o : Option Thing). (thing_path c at rs o).faults ≡ []) stands unhidden in
    let where_goes = subst (λ (o : Option Kind). Goes ns (bound_path c at n rs o) k) free goes in
    let goes' = subst (λ (o : Option Thing). Goes ns (thing_path c at rs o) k) stands where_goes in
    let structs = steps_structs ns c at rs (record { kind = x.kind; faults = [] }) (text.structs n _ x.kind stands) in
    let same = whole_cells ns at (way.faults ++ no_constant c at) way.kind k [] structs goes' in
    let fine = under_all IsFine ns text.fine n (variable (text.input n x.kind stretch.kind) x.kind) stands in
    let r = steps_reach c at rs ss ps x.kind [] are picks fine (first_empty way.faults _ none') in
    record {
      at = r.at;
      is_one = r.is_one;
      within = subst (λ (c : ℕ). r.at + c ≤ cells x.kind) (sym same) r.within;
      numbers = λ h t place of_kinds within below.
          reached_number ns (slice_index_or h t []) n x ss ps way.kind place (x.start + r.at + place)
          (in_row ns (slice_index_or h t []) (all_at (AreOfKinds (variables_among ns)) h [] t within of_kinds) 0 n x is) r (subst (λ (c : ℕ). place < c) same below) refl;
    }
