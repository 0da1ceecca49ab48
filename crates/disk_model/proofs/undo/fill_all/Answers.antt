use Rattle.std.proofs.Common.{◌≡◌, ◌<◌, ◌∙◌, ◌+◌, ap, sym, ℕ, List, [], ◌∷◌, ◌++◌, get_or, length, map, take, rules}
use Rattle.std.proofs.lemmas.List.{map-append, take_more}
use Rattle.disk_model.specs.Images.{filled_from, is_written}
use Rattle.disk_model.specs.Undoing.{range_of}
use Rattle.disk_model.proofs.Filling.{fill_more, fill_none}
use Rattle.disk_model.proofs.undo.fill_all.Goals as goal

pub loop-write-init : goal.loop-write-init
loop-write-init c = fill_none c.args.byte c.args.bytes.now

pub loop-write-preserved : goal.loop-write-preserved
loop-write-preserved c =
    let us = c.args.undo.now.items in
    let i = c.loop-write.write-index in
    let u = c.write-item.result in
    let inside : i < length us = search rules in
    let is : get_or us i u ≡ u = search rules in
    let more : map range_of (take (i + 1) us) ≡ map range_of (take i us) ++ range_of u ∷ [] =
    ap (map range_of) (take_more us i u inside) ∙ (map-append range_of (take i us) (get_or us i u ∷ []) ∙ ap (λ v. map range_of (take i us) ++ range_of v ∷ []) is) in
    c.fill_write.ensures ∙ (ap (filled_from 0 (is_written (range_of u ∷ [])) c.args.byte) c.loop-write.invariant ∙ (fill_more (map range_of (take i us)) (range_of u) c.args.byte c.args.bytes.now ∙ ap (λ (l : List (ℕ × ℕ)). filled_from 0 (is_written l) c.args.byte c.args.bytes.now) (sym more)))
