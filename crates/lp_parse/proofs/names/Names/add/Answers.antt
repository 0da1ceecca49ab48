use Rattle.std.proofs.Common.{rules, ◌≡◌, refl, ap₂, [], ◌∷◌, ◌++◌, ap, sym, ◌∙◌, bytes_eq, List, ℕ, Bool, true, false, map, if◌then◌else◌, String, Global, string_bytes}
use Rattle.std.specs.List.{list_any}
use Rattle.std.proofs.lemmas.List.{map_push}
use Rattle.lp_parse.specs.Draft.{with_name}
use Rattle.lp_parse.proofs.Tables.{any-map}
use Rattle.lp_parse.proofs.names.Names.add.Goals as goal

bytes : String Global → List ℕ
bytes name = string_bytes name

added : (b : Bool) (keys : List (String Global)) (key : String Global)
    → map bytes (if b then keys else keys ++ key ∷ []) ≡ (if b then map bytes keys else map bytes keys ++ bytes key ∷ [])
unfolding bytes
added true keys key = refl
added false keys key = map_push bytes keys key

pub returns-clause-ok : goal.returns-clause-ok
unfolding bytes added
returns-clause-ok c =
    let keys = c.self.inside.table.keys in
    let key = c.in_ok-from_str.field-0 in
    let same : bytes key ≡ c.args.name.now = search rules in
    ap (map bytes) ((c.in_ok-insert.ensures).keys)
    ∙ added (list_any (λ k. bytes_eq (bytes key) (bytes k)) keys) keys key
    ∙ ap (λ (b : Bool). if b then map bytes keys else map bytes keys ++ bytes key ∷ []) (sym (any-map bytes (bytes_eq (bytes key)) keys))
    ∙ ap₂ with_name c.self.view_is same
