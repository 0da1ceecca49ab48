use Rattle.std.proofs.Common.{◌≡◌, ◌∙◌, sym, ap, Some, None}
use Rattle.std.specs.Prelude.{position}
use Rattle.base_names.specs.declared.id.BatchId.{BatchId}
use Rattle.batch_table.specs.Contents.{Contents}
use Rattle.batch_table.proofs.Lasts.{number_at, number_nowhere}
use Rattle.batch_table.proofs.table.BatchTable.greatest.Goals as goal
use Rattle.table_defs.specs.Names.{is_owner}
use Rattle.table_defs.specs.Table.{greatest}

pub returns-in-Some : goal.returns-in-Some
returns-in-Some c =
    let owner = c.args.owner.now in
    let lasts = c.self.inside.lasts.items in
    let at : position (λ (last : BatchId). is_owner owner last.owner) lasts ≡ Some c.in-Some.place = ap (position (λ (last : BatchId). is_owner owner last.owner)) (sym c.deref.ensures.value) ∙ (sym c.place_of_owner.ensures.place ∙ c.in-Some.is) in
    ap (λ (last : BatchId). last.number) c.index.ensures ∙ (sym (number_at owner lasts c.in-Some.place _ at) ∙ ap (λ (v : Contents). greatest owner v.table) c.self.view_is)

pub returns-in-None : goal.returns-in-None
returns-in-None c =
    let owner = c.args.owner.now in
    let lasts = c.self.inside.lasts.items in
    let at : position (λ (last : BatchId). is_owner owner last.owner) lasts ≡ None = ap (position (λ (last : BatchId). is_owner owner last.owner)) (sym c.deref.ensures.value) ∙ (sym c.place_of_owner.ensures.place ∙ c.in-None.is) in
    sym (number_nowhere owner lasts at) ∙ ap (λ (v : Contents). greatest owner v.table) c.self.view_is
