use Rattle.std.proofs.Common.{sym, ap, ◌∙◌}
use Rattle.std.specs.List.{list_any}
use Rattle.std.specs.Str.{bytes_eq}
use Rattle.miter.proofs.NameLemmas.{list_any-map}
use Rattle.miter.proofs.names.Given.contains.Goals as goal

pub returns : goal.returns
returns c = c.contains.ensures ∙ sym (list_any-map (λ name. name.items) (bytes_eq c.args.name.now) c.self.inside.seen.keys)
    ∙ ap (list_any (bytes_eq c.args.name.now)) c.self.view_is
