use Rattle.std.proofs.Common.{◌≡◌, ◌∙◌, refl, sym, ap, subst, List, Some, None, get_or, set}
use Rattle.model_data.specs.declared.batch.BatchRow.{BatchRow}
use Rattle.batch_table.specs.Contents.{AreLawful, Contents, table_in}
use Rattle.batch_table.specs.Lookups.{StandsAt}
use Rattle.batch_table.proofs.Keeping.{changed_in_place, keyed_in_place, lawful_in_place, unchanged}
use Rattle.batch_table.proofs.table.BatchTable.end.Goals as goal
use Rattle.table_defs.specs.Keyed.{IsKeyed}
use Rattle.table_defs.specs.Names.{is_id}
use Rattle.table_defs.specs.Table.{ended, with_row}

pub invariant_of-self : goal.invariant_of-self
invariant_of-self c =
    let rows = c.self.inside.rows.items in
    let lasts = c.self.inside.lasts.items in
    let i = c.in-Some.place in
    let d = c.index_mut.result.now in
    let at = subst (λ (rs : List BatchRow). StandsAt (λ (row : BatchRow). is_id c.args.id.now row.id) rs (Some i)) c.deref.ensures.value c.in-Some.ensures in
    let becomes : c.end_row.new.row ≡ ended c.args.status c.args.found (get_or rows i d) = c.end_row.ensures ∙ ap (ended c.args.status c.args.found) c.index_mut.ensures.value in
    subst (λ (row : BatchRow). IsKeyed (table_in (set rows i row) lasts) × AreLawful (set rows i row)) (sym becomes) (
      keyed_in_place c.args.id.now (ended c.args.status c.args.found) rows lasts i d at (λ row. refl) c.self.invariant.0,
      lawful_in_place (ended c.args.status c.args.found) rows i d at.0 (λ row. refl) c.self.invariant.1,
    )

pub returns-in-Some : goal.returns-in-Some
returns-in-Some c =
    let rows = c.self.inside.rows.items in
    let lasts = c.self.inside.lasts.items in
    let i = c.in-Some.place in
    let d = c.index_mut.result.now in
    let at = subst (λ (rs : List BatchRow). StandsAt (λ (row : BatchRow). is_id c.args.id.now row.id) rs (Some i)) c.deref.ensures.value c.in-Some.ensures in
    let becomes : c.end_row.new.row ≡ ended c.args.status c.args.found (get_or rows i d) = c.end_row.ensures ∙ ap (ended c.args.status c.args.found) c.index_mut.ensures.value in
    ap (λ (row : BatchRow). table_in (set rows i row) lasts) becomes
    ∙ (sym (changed_in_place c.args.id.now (ended c.args.status c.args.found) rows lasts i d at c.self.invariant.0) ∙ ap (λ (v : Contents). with_row c.args.id.now (ended c.args.status c.args.found) v.table) c.self.view_is)

pub returns-in_default : goal.returns-in_default
returns-in_default c =
    let id = c.args.id.now in
    let rows = c.self.inside.rows.items in
    let lasts = c.self.inside.lasts.items in
    let is = ap (λ (v : Contents). v.table) c.self.view_is in
    let nowhere = subst (λ (rs : List BatchRow). StandsAt (λ (row : BatchRow). is_id id row.id) rs None) c.deref.ensures.value (subst (StandsAt (λ (row : BatchRow). is_id id row.id) c.deref.result.now) c.in_default.is c.place_of.ensures) in
    sym is ∙ (unchanged id (ended c.args.status c.args.found) rows lasts nowhere ∙ ap (λ (v : Contents). with_row id (ended c.args.status c.args.found) v.table) c.self.view_is)
