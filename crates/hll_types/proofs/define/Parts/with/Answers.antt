use Rattle.hll_tree.specs.declared.tree.Part.TheVariants.{Value, Both, First, Next}
use Rattle.hll_types.proofs.KeptParts.{one_more_of}
use Rattle.hll_types.proofs.define.Parts.with.Goals as goal

pub returns-in-Value : goal.returns-in-Value
returns-in-Value c own has no_clash = one_more_of own c.args.self c.args.def.now (Value c.in-Value.field-0) c.in-Value.is has no_clash

pub returns-in-Both : goal.returns-in-Both
returns-in-Both c own has no_clash = one_more_of own c.args.self c.args.def.now (Both c.in-Both.field-0 c.in-Both.field-1) c.in-Both.is has no_clash

pub returns-in-First : goal.returns-in-First
returns-in-First c own has no_clash = one_more_of own c.args.self c.args.def.now (First c.in-First.field-0) c.in-First.is has no_clash

pub returns-in-Next : goal.returns-in-Next
returns-in-Next c own has no_clash = one_more_of own c.args.self c.args.def.now (Next c.in-Next.field-0) c.in-Next.is has no_clash
