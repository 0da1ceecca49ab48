use Rattle.std.proofs.Common.{ap, sym, ◌∙◌, bytes_eq}
use Rattle.std.specs.List.{list_any}
use Rattle.model_core.specs.Texts.{Table}
use Rattle.model_core.proofs.Mapped.{any-map}
use Rattle.model_core.proofs.texts.Texts.has.Goals as goal

pub returns : goal.returns
returns c =
    c.contains.ensures
    ∙ sym (any-map (λ text. text.items) (bytes_eq c.args.text.now) c.self.inside.table.keys)
    ∙ ap (λ (t : Table). list_any (bytes_eq c.args.text.now) t.texts) c.self.view_is
