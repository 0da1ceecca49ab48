use Rattle.std.proofs.Common.{ap, sym, ◌∙◌, bytes_eq, not, Bool, List, ℕ, Bor}
use Rattle.std.specs.List.{list_any}
use Rattle.rec_format.proofs.Mapping.{any-map}
use Rattle.rec_format.proofs.texts.Texts.add.Goals as goal

pub returns-clause-new : goal.returns-clause-new
returns-clause-new c =
    (c.in_ok-insert.ensures).added
    ∙ ap not (sym (any-map (λ (t : Bor (List ℕ)). t.now) (bytes_eq c.args.text.now) c.self.inside.table.keys) ∙ ap (list_any (bytes_eq c.args.text.now)) c.self.view_is)
