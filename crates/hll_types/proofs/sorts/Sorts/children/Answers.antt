use Rattle.std.proofs.Common.{◌≡◌, ◌+◌, ◌||◌, [], ◌∷◌, ◌++◌, take, sym, ap, ◌∙◌, arith}
use Rattle.std.specs.List.{flat_map}
use Rattle.std.proofs.lemmas.List.{take_more, take_all}
use Rattle.std.proofs.lemmas.Result.{err_from_is_err_and}
use Rattle.hll_meaning.specs.Declarations.{texts, is_among}
use Rattle.hll_meaning.specs.StaticRules.{declaring, sort_of, children_of}
use Rattle.hll_types.proofs.ChildrenWalk.{children_more, children_fault, joining_more, count_so, elements_further}
use Rattle.hll_types.proofs.FreshNames.{among_append}
use Rattle.hll_types.proofs.sorts.Sorts.children.Goals as goal

pub returns-in_err-more : goal.returns-in_err-more
returns-in_err-more c =
    let children = c.args.children.now in
    let i = c.loop-name.name-index in
    let n = c.name-item.result in
    let more : take (i + 1) children ≡ take i children ++ n ∷ [] = take_more children i n c.loop-name-test.true ∙ ap (λ x. take i children ++ x ∷ []) (sym c.name-item.is) in
    let p = err_from_is_err_and c.from_residual.result c.from_residual.ensures.1 in
    rw (p.1, p.2) (λ names further types h sorts.
    let inv = c.loop-name.invariant names further types h sorts in
    let before = flat_map children_of types in
    children_fault (declaring names further) (flat_map sort_of types) before children i n _ more inv.0
    (c.in_err-more.ensures names further (flat_map sort_of types) (before ++ texts (take i children)) h (λ q. inv.2.kinds q ∙ sorts.kinds q)
    (λ q. inv.2.parents q ∙ ap (λ b. b || is_among (texts (take i children)) q) (sorts.parents q) ∙ sym (among_append before (texts (take i children)) q))))

pub loop-name-preserved : goal.loop-name-preserved
loop-name-preserved c = λ names further types h sorts.
    let children = c.args.children.now in
    let i = c.loop-name.name-index in
    let n = c.name-item.result in
    let more : take (i + 1) children ≡ take i children ++ n ∷ [] = take_more children i n c.loop-name-test.true ∙ ap (λ x. take i children ++ x ∷ []) (sym c.name-item.is) in
    let inv = c.loop-name.invariant names further types h sorts in
    let before = flat_map children_of types in
    let own = c.in_ok-more.ensures names further (flat_map sort_of types) (before ++ texts (take i children)) h (λ q. inv.2.kinds q ∙ sorts.kinds q)
    (λ q. inv.2.parents q ∙ ap (λ b. b || is_among (texts (take i children)) q) (sorts.parents q) ∙ sym (among_append before (texts (take i children)) q)) in
    let s = own.1.0 in
    let count = own.1.2 ∙ count_so c.args.self.now c.loop-name.self types before (take i children) sorts inv.2 n.text s own.1.1 in (
      children_more (declaring names further) (flat_map sort_of types) before (take i children) (take (i + 1) children) n more inv.0 own.0,
      c.in-Some.ensures.1 ∙ (λ j. inv.1 j + count j) ∙ sym (elements_further types (take i children) (take (i + 1) children) n more),
      joining_more c.args.self.now c.loop-name.self c.child.new.self types (take i children) (take (i + 1) children) n c.loop-name.count s inv.2 more own.1.1 own.1.3 inv.1,
    )

pub returns : goal.returns
returns c = λ names further types h sorts.
    let children = c.args.children.now in
    let all : take c.loop-name.name-index children ≡ children = take_all c.loop-name.name-index children (omega (arith, c.loop-name-test.false)) in
    rw all at (c.loop-name.invariant names further types h sorts)
