use Rattle.std.proofs.Common.{ap, sym, ◌∙◌, bytes_eq, position, string_bytes}
use Rattle.std.specs.List.{list_any}
use Rattle.lp_parse.proofs.Tables.{any-map, position-map}
use Rattle.lp_parse.proofs.names.Names.place.Goals as goal

pub returns-clause-place : goal.returns-clause-place
returns-clause-place c =
    c.get_index_of.ensures.index
    ∙ sym (position-map string_bytes (bytes_eq c.args.name.now) c.self.inside.table.keys) ∙ ap (position (bytes_eq c.args.name.now)) c.self.view_is

pub returns-clause-found : goal.returns-clause-found
returns-clause-found c =
    c.get_index_of.ensures.found
    ∙ sym (any-map string_bytes (bytes_eq c.args.name.now) c.self.inside.table.keys) ∙ ap (list_any (bytes_eq c.args.name.now)) c.self.view_is
