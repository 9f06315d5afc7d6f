-- Words for the contracts of private parts: what is printed of the parts of an expression.
use Rattle.std.specs.Prelude.{suc, Bool, true, false, codes}
use Rattle.hll_tree.specs.declared.tree.Branch.{Branch}
use Rattle.hll_tree.specs.declared.tree.Domain.{Domain, fold-Domain}
use Rattle.hll_tree.specs.declared.tree.Link.{Link}
use Rattle.hll_tree.specs.declared.tree.Op.{Op}
use Rattle.hll_tree.specs.declared.tree.Reach.{Reach, fold-Reach}
use Rattle.hll_tree.specs.Spells.{precedence_of}
use Rattle.hll_tree.specs.Printing.{Text, Printed, ReachText, plainly, at_level, chain_level, domain_text, form_text, reach_text, printed}

-- a domain
unfoldable pub printed_domain : Domain → Text
printed_domain = fold-Domain Text Printed ReachText (Text × Text) Printed (Op × Text) domain_text form_text reach_text (λ b. (plainly b.when, plainly b.gives)) (λ e. e.form) (λ link. (link.op, at_level (suc (chain_level (precedence_of link.op))) link.with))

-- a reach
unfoldable pub printed_reach : Reach → ReachText
printed_reach = fold-Reach Text Printed ReachText (Text × Text) Printed (Op × Text) domain_text form_text reach_text (λ b. (plainly b.when, plainly b.gives)) (λ e. e.form) (λ link. (link.op, at_level (suc (chain_level (precedence_of link.op))) link.with))

-- a branch
abbrev pub printed_branch : Branch → Text × Text
printed_branch b = (plainly (printed b.when), plainly (printed b.gives))

-- a link
abbrev pub printed_link : Link → Op × Text
printed_link link = (link.op, at_level (suc (chain_level (precedence_of link.op))) (printed link.with))

-- what stands before an index, where a bracket is open or not
abbrev pub before_index : Bool → Text
before_index true = codes ", "
before_index false = codes "["

-- what stands before a field, where a bracket is open or not
abbrev pub before_field : Bool → Text
before_field true = codes "]."
before_field false = codes "."
