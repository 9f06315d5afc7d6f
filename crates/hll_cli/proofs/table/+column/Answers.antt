use Rattle.std.proofs.Common.{◌≡◌, ◌^◌, ◌<◌, length, true, sym, ◌∙◌, ap, add-one, arith}
use Rattle.std.proofs.lemmas.List.{length-map}
use Rattle.hll_cli.specs.BooleanTexts.{is_boolean}
use Rattle.hll_cli.proofs.Columns.{not_used, path_used, chain_used_first, chain_used_link, truth_column, path_column, not_column, chain_start, chain_step, links_from, written_whole}
use Rattle.hll_cli.proofs.Booleans.{boolean_not, chain_boolean_first, chain_boolean_link}
use Rattle.hll_cli.proofs.Weights.{weight, inner_lighter, first_lighter, link_lighter}
use Rattle.hll_cli.proofs.table.+column.Goals as goal

pub returns-in_ok-column-in-Truth : goal.returns-in_ok-column-in-Truth
returns-in_ok-column-in-Truth t c =
    truth_column _ _ c.in-Truth.value _ _ (c.rows-rows.ensures ∙ ap (λ n. 2 ^ n) (sym (length-map _ _))) c.in-Truth.is
    c.in_ok-column-in-Truth.ensures.length c.in_ok-column-in-Truth.ensures.each

pub position-position-requires : goal.position-position-requires
position-position-requires t c = rw c.bytes.ensures (path_used _ _ _ _ c.in-Path.is c.requires.declared)

pub returns-in_ok-column-in-Path : goal.returns-in_ok-column-in-Path
returns-in_ok-column-in-Path t c =
    let value = rw c.bytes.ensures at c.position-position.ensures.value in
    path_column _ _ c.in-Path.name _ c.position-position.result _ (length c.args.names.now) (length-map _ _) c.in-Path.is
    c.in_ok-column-in-Path.ensures.length value c.in_ok-column-in-Path.ensures.each

pub column-requires : goal.column-requires
column-requires t c =
    let lighter : weight c.get.result.now < weight c.args.expr.now = rw c.get.ensures (inner_lighter _ _ c.in-Not.is) in
    let boolean : is_boolean c.get.result.now ≡ true = rw c.get.ensures (sym (boolean_not _ _ c.in-Not.is) ∙ c.requires.boolean) in
    (omega (arith, lighter), (c.requires.few, (boolean, rw c.get.ensures (not_used _ _ _ c.in-Not.is c.requires.declared))))

pub returns-in_ok-column-in-Not : goal.returns-in_ok-column-in-Not
returns-in_ok-column-in-Not t c =
    let inner = rw c.get.ensures at c.in_ok-column-in-Not.ensures in
    let value = c.deref_mut.ensures.value in
    let long = c.negate.ensures.length ∙ ap length value in
    let column = c.in_ok-column-in-Not.column in
    rw (written_whole column.len c.negate.new.column column.items (long ∙ sym column.ok.0) (sym column.ok.0))
    (not_column _ _ c.in-Not.inner column.items c.negate.new.column c.in-Not.is inner long (rw value at c.negate.ensures.each))

pub column-requires-in-Chain : goal.column-requires-in-Chain
column-requires-in-Chain t c =
    let lighter : weight c.get-in-Chain.result.now < weight c.args.expr.now = rw c.get-in-Chain.ensures (first_lighter _ _ _ c.in-Chain.is) in
    let boolean : is_boolean c.get-in-Chain.result.now ≡ true = rw c.get-in-Chain.ensures (chain_boolean_first _ _ _ c.in-Chain.is c.requires.boolean) in
    (omega (arith, lighter), (c.requires.few, (boolean, rw c.get-in-Chain.ensures (chain_used_first _ _ _ _ c.in-Chain.is c.requires.declared))))

pub loop-link-init : goal.loop-link-init
loop-link-init t c =
    let first = rw c.get-in-Chain.ensures at c.in_ok-value-in-Chain.ensures in
    rw c.as_slice-link-items.ensures
    (chain_start _ _ _ _ _ _ _ (c.rows-rows.ensures ∙ ap (λ n. 2 ^ n) (sym (length-map _ _))) c.in-Chain.is first c.in_ok-settled-in-Chain.ensures.length c.in_ok-settled-in-Chain.ensures.each)

pub column-requires-in-loop-link : goal.column-requires-in-loop-link
column-requires-in-loop-link t c =
    let within = rw c.as_slice-link-items.ensures at c.loop-link-test.true in
    let item = rw c.as_slice-link-items.ensures at c.link-item.is in
    let lighter : weight c.link-item.result.with < weight c.args.expr.now = link_lighter _ _ _ c.loop-link.link-index c.link-item.result c.in-Chain.is within item in
    let boolean = chain_boolean_link _ _ _ c.loop-link.link-index c.link-item.result c.in-Chain.is within item c.requires.boolean in
    (omega (arith, lighter), (c.requires.few, (boolean.1, chain_used_link _ _ _ _ c.loop-link.link-index c.link-item.result c.in-Chain.is within item c.requires.declared)))

pub take_links-requires-clause-operator : goal.take_links-requires-clause-operator
take_links-requires-clause-operator t c =
    let within = rw c.as_slice-link-items.ensures at c.loop-link-test.true in
    let item = rw c.as_slice-link-items.ensures at c.link-item.is in
    (chain_boolean_link _ _ _ c.loop-link.link-index c.link-item.result c.in-Chain.is within item c.requires.boolean).0

pub loop-link-preserved : goal.loop-link-preserved
loop-link-preserved t c =
    let here = rw (links_from _ c.loop-link.link-index c.link-item.result c.loop-link-test.true c.link-item.is) at c.loop-link.invariant in
    let settled = c.deref_mut-in-loop-link.ensures.value in
    let value = c.deref_mut-in-loop-link-2.ensures.value in
    let long = c.take_links.ensures.settled_length ∙ ap length settled in
    let long' = c.take_links.ensures.value_length ∙ ap length settled in
    let whole = c.loop-link.invariant.settled_whole in
    let whole' = c.loop-link.invariant.value_whole in
    rw (
      add-one,
      written_whole c.loop-link.settled.len c.take_links.new.settled c.loop-link.settled.items (long ∙ sym c.loop-link.settled.ok.0) (sym c.loop-link.settled.ok.0),
      written_whole c.loop-link.value.len c.take_links.new.value c.loop-link.value.items (long' ∙ whole ∙ sym whole' ∙ sym c.loop-link.value.ok.0) (sym c.loop-link.value.ok.0),
    )
    (chain_step _ _ c.link-item.result _ c.loop-link.settled.items c.loop-link.value.items c.in_ok-next-in-Chain.next.items c.take_links.new.settled c.take_links.new.value
    here c.in_ok-next-in-Chain.ensures long (long' ∙ whole ∙ sym whole') (rw (settled, value, c.deref.ensures.value) at c.take_links.ensures.each))
