use Rattle.std.proofs.Common.{ap, sym, ◌∙◌, bytes_eq, position}
use Rattle.std.specs.List.{list_any}
use Rattle.model_core.specs.Texts.{Table}
use Rattle.model_core.proofs.Mapped.{any-map, position-map}
use Rattle.model_core.proofs.texts.Texts.place.Goals as goal

pub returns-clause-place : goal.returns-clause-place
returns-clause-place c =
    c.get_index_of.ensures.index
    ∙ sym (position-map (λ text. text.items) (bytes_eq c.args.text.now) c.self.inside.table.keys)
    ∙ ap (λ (t : Table). position (bytes_eq c.args.text.now) t.texts) c.self.view_is

pub returns-clause-found : goal.returns-clause-found
returns-clause-found c =
    c.get_index_of.ensures.found
    ∙ sym (any-map (λ text. text.items) (bytes_eq c.args.text.now) c.self.inside.table.keys)
    ∙ ap (λ (t : Table). list_any (bytes_eq c.args.text.now) t.texts) c.self.view_is
