use Rattle.std.proofs.Common.{◌≡◌, ◌-◌, ◌+◌, ◌∙◌, ap, List, ℕ, ◌++◌, length, take, drop, replicate, min, rules}
use Rattle.disk_model.proofs.Filling.{fill_range}
use Rattle.disk_model.proofs.undo.fill_write.Goals as goal

pub returns : goal.returns
returns c =
    let bytes = c.args.bytes.now in
    let u = c.args.undo.now in
    let s = c.min-start.result in
    let e = c.min-end.result in
    let is_s : s ≡ min u.at e = search rules in
    let is_e : e ≡ min (u.at + u.len) (length bytes) = search rules in
    let mid : c.fill.new.self ≡ replicate (e - s) c.args.byte = search rules in
    ap (λ (l : List ℕ). take s bytes ++ (l ++ drop (e - s) (drop s bytes))) mid ∙ fill_range u.at u.len c.args.byte s e bytes is_s is_e
