use Rattle.std.proofs.Common.{sym, ap, ◌∙◌}
use Rattle.std.specs.Str.{bytes_eq}
use Rattle.miter.specs.Joining.{name_number}
use Rattle.miter.proofs.NameLemmas.{lookup-map}
use Rattle.miter.proofs.names.Numbers.get.Goals as goal

pub returns : goal.returns
returns c = c.copied.ensures ∙ c.get.ensures.value ∙ sym (lookup-map (λ k. k.now) (bytes_eq c.args.name.now) c.self.inside.by_name.entries)
    ∙ ap (λ names. name_number names c.args.name.now) c.self.view_is
