-- The domain of a quantifier without faults has the same numbers at all instants: those of the kind of its bound name.
use Rattle.std.proofs.Common.{◌≡◌, ℕ, ℤ, true, List, [], Option, Some, None, refl, sym, ap, subst, ◌∙◌}
use Rattle.std.specs.Prelude.{slice_index_or}
use Rattle.intervals.specs.Ends.{Ends}
use Rattle.hll_tree.specs.declared.tree.Domain.{Domain, Bounds, Bool as Truths, Named}
use Rattle.hll_tree.specs.declared.tree.Expr.{Expr}
use Rattle.hll_tree.specs.declared.tree.Name.{Name}
use Rattle.hll_meaning.specs.Fitting.{is_scalar, ends_of}
use Rattle.hll_meaning.specs.Judging.{Ranged, for_constant, thing_domain, bound_domain, judged}
use Rattle.hll_meaning.specs.Kinds.{Kind, truth, whole, element, array, struct, ranges, truths}
use Rattle.hll_meaning.specs.Names.{Thing, constant, type_of, code_in, variable, later, Names, under}
use Rattle.hll_meaning.specs.Soundness.{IsFine, AreBound}
use Rattle.hll_meaning.specs.StaticRules.{asking}
use Rattle.hll_meaning.specs.Values.{History, Scene, number, named_domain}
use Rattle.hll_meaning.proofs.Constants.{is_said}
use Rattle.hll_meaning.proofs.Faultless.{empty_parts, first_empty, must_be}
use Rattle.hll_meaning.proofs.JudgedForms.{domain_said as judged_domain, domain_said-bounds, domain_said-truths, domain_said-named}
use Rattle.hll_meaning.proofs.Ranges.{IsDomain}
use Rattle.hll_meaning.proofs.Scenes.{Has, HasAll, under_all}
use Rattle.hll_meaning.proofs.WorthForms.{domain_worth, domain_worth-bounds, domain_worth-truths, domain_worth-named}
use Rattle.dependence.specs.Mentions.{MentioningDomain}
use Rattle.dependence.proofs.GivenKinds.{AreOfText}
use Rattle.dependence.proofs.MentionForms.{domain_said, said-bounds, said-truths, said-named}
use Rattle.dependence.proofs.MentionedWorth.{mentioned_worth}

first_range : (k : Kind) → is_scalar k ≡ true → slice_index_or (ranges k) 0 truths ≡ ends_of k
first_range truth h = refl
first_range (whole e) h = refl
first_range (element root e) h = refl
first_range (array n k) h = absurd (cc h)
first_range (struct name fields) h = absurd (cc h)

module _ (ns : Names) (text : AreOfText ns) where
  -- a time of a history, under numbers of bound names
  abbrev pub standing : History → ℕ → List (List ℕ × ℤ) → Scene
  standing h t bs = record { names = ns; history = h; time = t; bound = bs }

  -- what the numbers of a domain are
  pub record IsFixed (d : Domain) : Type 0 where
    pub said : (s : Scene) → (domain_said d).numbers s ≡ domain_worth d s
    pub fixed : (ks : List (List ℕ × Kind)) (bs : List (List ℕ × ℤ)) (h : History) (t : ℕ) → AreBound bs ks → (judged_domain d (asking ns ks)).faults ≡ [] → IsDomain (domain_worth d (standing h t bs)) (judged_domain d (asking ns ks)).kind

  -- every scene of these names has what may stand where a constant is needed
  constants_there : (ks : List (List ℕ × Kind)) (bs : List (List ℕ × ℤ)) (h : History) (t : ℕ) → AreBound bs ks → HasAll (for_constant (asking ns ks)) (standing h t bs)
  constants_there ks bs h t bound = record { things = λ n x is. there n x is; bound = bound }
    where
      there : (n : List ℕ) (x : Thing) → under n ns ≡ Some x → Has true (standing h t bs) n x
      there n (constant b x) is = (is, under_all IsFine ns text.fine n (constant b x) is)
      there n (type_of k) is = is
      there n (code_in root code) is = λ no. absurd (cc no)
      there n (variable input k) is = λ no. absurd (cc no)
      there n later is = λ no. absurd (cc no)

  by_domain : (e f : Ends) (r t : Ranged) → e ≡ f → r ≡ t → (t.faults ≡ [] → IsDomain f t.kind) → r.faults ≡ [] → IsDomain e r.kind
  by_domain e f r t p q h = subst (λ (x : Ranged). x.faults ≡ [] → IsDomain e x.kind) (sym q) (subst (λ (x : Ends). t.faults ≡ [] → IsDomain x t.kind) (sym p) h)

  pub fixed_bounds : (a b : Expr) → IsFixed (Bounds a b)
  fixed_bounds a b = record {
    said = λ s.
        let lo = ap number (mentioned_worth a s) in
        let hi = ap number (mentioned_worth b s) in
        ap (λ (d : MentioningDomain). d.numbers s) (said-bounds a b) ∙ (λ i. record { lo = lo i; hi = hi i }) ∙ sym (domain_worth-bounds a b s);
    fixed = λ ks bs h t bound none. bounds ks bs h t bound none;
  }
    where
      bounds : (ks : List (List ℕ × Kind)) (bs : List (List ℕ × ℤ)) (h : History) (t : ℕ) → AreBound bs ks → (judged_domain (Bounds a b) (asking ns ks)).faults ≡ [] → IsDomain (domain_worth (Bounds a b) (standing h t bs)) (judged_domain (Bounds a b) (asking ns ks)).kind
      bounds ks bs h t bound =
          let c = asking ns ks in
          let has = constants_there ks bs h t bound in
          by_domain _ _ _ _ (domain_worth-bounds a b (standing h t bs)) (domain_said-bounds a b c)
          (λ none. let p = empty_parts (judged a (for_constant c)).faults _ none in
          let x = is_said a (for_constant c) (standing h t bs) has refl p.0 in
          let y = is_said b (for_constant c) (standing h t bs) has refl (first_empty (judged b (for_constant c)).faults _ p.1) in
          record { same = λ i. record { lo = number (sym x i); hi = number (sym y i) }; scalar = refl })

  pub fixed_truths : IsFixed Truths
  fixed_truths = record {
    said = λ s. ap (λ (d : MentioningDomain). d.numbers s) said-truths ∙ sym (domain_worth-truths s);
    fixed = λ ks bs h t bound. by_domain _ _ _ _ (domain_worth-truths (standing h t bs)) (domain_said-truths (asking ns ks)) (λ none. record { same = refl; scalar = refl });
  }

  pub fixed_named : (n : Name) → IsFixed (Named n)
  fixed_named n = record {
    said = λ s. ap (λ (d : MentioningDomain). d.numbers s) (said-named n) ∙ sym (domain_worth-named n s);
    fixed = λ ks bs h t bound. by_domain _ _ _ _ (domain_worth-named n (standing h t bs)) (domain_said-named n (asking ns ks)) (by_bound ks (under n.text ks));
  }
    where
      by_thing : (o : Option Thing) → (thing_domain n.at o).faults ≡ [] → IsDomain (named_domain o) (thing_domain n.at o).kind
      by_thing None none = absurd (cc none)
      by_thing (Some (constant b x)) none = absurd (cc none)
      by_thing (Some (type_of k)) none = let scalar = must_be (is_scalar k) _ n.at none in record { same = first_range k scalar; scalar = scalar }
      by_thing (Some (code_in root code)) none = absurd (cc none)
      by_thing (Some (variable input k)) none = absurd (cc none)
      by_thing (Some later) none = absurd (cc none)

      by_bound : (ks : List (List ℕ × Kind)) (o : Option Kind) → (bound_domain (asking ns ks) n o).faults ≡ [] → IsDomain (named_domain (under n.text ns)) (bound_domain (asking ns ks) n o).kind
      by_bound ks (Some k) none = absurd (cc none)
      by_bound ks None none = by_thing (under n.text ns) none
