use Rattle.std.proofs.Common.{◌≡◌, ◌∙◌, sym, ap, subst, ℕ, List, [], ◌∷◌, ◌++◌, length, take, drop, map}
use Rattle.disk_model.specs.Undoing.{AreUndos, range_of, synced_by}
use Rattle.disk_model.specs.declared.undo.Undo.{Undo}
use Rattle.disk_model.proofs.Undoing.{more_ranges, more_undos, still_synced}
use Rattle.disk_model.proofs.undo.write_over.Goals as goal

pub returns-clause-undos : goal.returns-clause-undos
returns-clause-undos c =
    let u = c.in_ok-cover.cover in
    let e = c.in_ok-cover.ensures in
    let old = c.args.bytes.now.items in
    let us = c.args.undo.now.items in
    let list : c.push_reserved.new.self.items ≡ us ++ u ∷ [] = c.push_reserved.ensures.items ∙ ap (λ (l : List Undo). l ++ u ∷ []) c.reserve.ensures.items in
    let was = e.2 ∙ ap (λ (l : List ℕ). take (length c.args.over.now) (drop c.args.at l)) c.deref.ensures.value in
    subst (λ (l : List Undo). AreUndos l c.overwrite.new.bytes.items) (sym list) (more_undos u c.args.at c.args.over.now old c.overwrite.new.bytes.items c.requires.inside e.0 e.1 was c.in_ok-overwrite.ensures.ok us c.requires.undos)

pub returns-clause-ok : goal.returns-clause-ok
returns-clause-ok c =
    let u = c.in_ok-cover.cover in
    let e = c.in_ok-cover.ensures in
    let old = c.args.bytes.now.items in
    let us = c.args.undo.now.items in
    let list : c.push_reserved.new.self.items ≡ us ++ u ∷ [] = c.push_reserved.ensures.items ∙ ap (λ (l : List Undo). l ++ u ∷ []) c.reserve.ensures.items in
    let was = e.2 ∙ ap (λ (l : List ℕ). take (length c.args.over.now) (drop c.args.at l)) c.deref.ensures.value in (
      c.in_ok-overwrite.ensures.ok,
      ap (λ (l : List Undo). synced_by l c.overwrite.new.bytes.items) list ∙ still_synced u c.args.at c.args.over.now old c.overwrite.new.bytes.items c.requires.inside e.0 e.1 was c.in_ok-overwrite.ensures.ok us,
      ap (map range_of) list ∙ more_ranges u c.args.at c.args.over.now old c.overwrite.new.bytes.items c.requires.inside e.0 e.1 was c.in_ok-overwrite.ensures.ok us,
    )
