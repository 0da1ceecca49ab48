use Rattle.std.proofs.Common.{◌≡◌, ap, sym, ◌∙◌, [], ◌∷◌, ◌++◌, bytes_eq, List, ℕ, Bool, true, false, map, if◌then◌else◌, Vec, Global}
use Rattle.std.specs.List.{list_any}
use Rattle.std.proofs.lemmas.List.{map_push}
use Rattle.model_core.specs.Texts.{Table}
use Rattle.model_core.proofs.Mapped.{any-map}
use Rattle.model_core.proofs.texts.Texts.add_reserved.Goals as goal

items : Vec ℕ Global → List ℕ
items text = text.items

added : (b : Bool) (keys : List (Vec ℕ Global)) (key : Vec ℕ Global) → b ≡ false
    → map items (if b then keys else keys ++ key ∷ []) ≡ map items keys ++ items key ∷ []
unfolding items
added true keys key new = absurd cc
added false keys key new = map_push items keys key

pub returns : goal.returns
unfolding items
returns c =
    let keys = c.self.inside.table.keys in
    let key = c.args.text in
    let inserted = rw c.unwrap.ensures at c.insert.ensures.keys in
    let shown : map items keys ≡ c.args.self.now.texts = ap (λ (t : Table). t.texts) c.self.view_is in
    let new : list_any (λ k. bytes_eq key.items (items k)) keys ≡ false =
    sym (any-map items (bytes_eq key.items) keys) ∙ ap (list_any (bytes_eq key.items)) shown ∙ c.requires.new in
    ap (map items) inserted ∙ added (list_any (λ k. bytes_eq key.items (items k)) keys) keys key new
    ∙ ap (λ (l : List (List ℕ)). l ++ key.items ∷ []) shown
