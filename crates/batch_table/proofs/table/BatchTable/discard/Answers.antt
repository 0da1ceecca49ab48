use Rattle.std.proofs.Common.{rules, ◌≡◌, ◌∙◌, sym, ap, subst, List, not}
use Rattle.std.specs.Prelude.{filter}
use Rattle.std.proofs.lemmas.Fn.{filter_same}
use Rattle.std.proofs.lemmas.List.Elements.{All-filter}
use Rattle.model_data.specs.Lawful.{IsLawful}
use Rattle.model_data.specs.declared.batch.BatchRecord.TheVariants.{Discard}
use Rattle.model_data.specs.declared.batch.BatchRow.{BatchRow}
use Rattle.batch_table.specs.Contents.{AreLawful, Contents, table_in}
use Rattle.batch_table.proofs.Keeping.{keyed_by}
use Rattle.batch_table.proofs.table.BatchTable.discard.Goals as goal
use Rattle.table_defs.specs.Names.{is_id}
use Rattle.table_defs.specs.Table.{without_row}

kept : (c : goal.After-retain) → c.retain.new.self.items ≡ filter (λ (row : BatchRow). not (is_id c.args.id.now row.id)) c.self.inside.rows.items
kept c = filter_same _ (λ (row : BatchRow). not (is_id c.args.id.now row.id)) _ (λ x b f' k. search rules) _ _ c.retain.ensures.filtered

made : (c : goal.After-retain) → without_row c.args.id.now (table_in c.self.inside.rows.items c.self.inside.lasts.items) ≡ table_in c.retain.new.self.items c.self.inside.lasts.items
made c = ap (λ (rows : List BatchRow). table_in rows c.self.inside.lasts.items) (sym (kept c))

pub invariant_of-self : goal.invariant_of-self
invariant_of-self c =
    let lasts = c.self.inside.lasts.items in (
      keyed_by (Discard c.args.id.now) c.args.self.now.table (table_in c.self.inside.rows.items lasts) (table_in c.retain.new.self.items lasts) (ap (λ (v : Contents). v.table) c.self.view_is) (made c) c.requires.taken c.self.invariant.0,
      subst AreLawful (sym (kept c)) (All-filter (λ (row : BatchRow). not (is_id c.args.id.now row.id)) (λ (row : BatchRow). IsLawful row.body.model) c.self.inside.rows.items c.self.invariant.1),
    )

pub returns : goal.returns
returns c = sym (made c) ∙ ap (λ (v : Contents). without_row c.args.id.now v.table) c.self.view_is
