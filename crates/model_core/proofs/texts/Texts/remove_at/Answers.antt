use Rattle.std.proofs.Common.{ap, ◌∙◌, map}
use Rattle.std.specs.List.{remove}
use Rattle.model_core.specs.Texts.{Table}
use Rattle.model_core.proofs.Mapped.{map-remove}
use Rattle.model_core.proofs.texts.Texts.remove_at.Goals as goal

pub returns : goal.returns
returns c =
    ap (map (λ text. text.items)) c.shift_remove_index.ensures.keys
    ∙ map-remove (λ text. text.items) c.self.inside.table.keys c.args.place
    ∙ ap (λ (t : Table). remove t.texts c.args.place) c.self.view_is
