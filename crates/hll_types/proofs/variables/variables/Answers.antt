use Rattle.std.proofs.Common.{ℕ, List, ap, subst}
use Rattle.hll_expressions.specs.Things.{declared_names, said_of}
use Rattle.hll_expressions.proofs.ThingNames.{as_names}
use Rattle.hll_types.specs.Tables.{IsTaken}
use Rattle.hll_types.proofs.VariableWalk.{place_for, one_walked, all_walked}
use Rattle.hll_types.proofs.variables.variables.Goals as goal

pub take_in-requires : goal.take_in-requires
take_in-requires c =
    let rest = as_names (λ k. k.items) said_of c.loop-name.name-iterator in
    let more = as_names (λ k. k.items) said_of c.next.new.self in
    place_for c.args.places.now c.args.defined.now (declared_names c.args.names.now) rest more c.loop-name.all.items c.in-Some.name.now.items (said_of c.in-Some.thing.now) c.loop-name.invariant
    (ap (as_names (λ k. k.items) said_of) c.in-Some.ensures.steps) c.requires

pub loop-name-preserved : goal.loop-name-preserved
loop-name-preserved c =
    let rest = as_names (λ k. k.items) said_of c.loop-name.name-iterator in
    let more = as_names (λ k. k.items) said_of c.next.new.self in
    let t = said_of c.in-Some.thing.now in
    one_walked c.args.places.now c.args.defined.now (declared_names c.args.names.now) rest more c.loop-name.all.items c.take_in.new.all.items c.in-Some.name.now.items t c.loop-name.invariant
    (ap (as_names (λ k. k.items) said_of) c.in-Some.ensures.steps)
    (subst (λ (n : List ℕ). IsTaken c.args.places.now c.args.defined.now c.loop-name.all.items c.take_in.new.all.items n t) c.as_slice.ensures.value c.in_ok-take_in.ensures)

pub returns : goal.returns
returns c =
    let rest = as_names (λ k. k.items) said_of c.loop-name.name-iterator in
    all_walked c.args.places.now c.args.defined.now (declared_names c.args.names.now) rest c.loop-name.all.items c.loop-name.invariant
    (ap (as_names (λ k. k.items) said_of) c.in-None.ensures.steps.0) c.requires c.iter-name-items.ensures.distinct
