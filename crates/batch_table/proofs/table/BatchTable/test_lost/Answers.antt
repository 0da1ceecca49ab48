use Rattle.std.proofs.Common.{rules, refl, ◌≡◌, ◌∙◌, ap, ◌<◌, List, length, take, get_or, true, false, Some, Err, cond}
use Rattle.base_names.specs.declared.refusal.Refusal.TheVariants.{BATCHSTATE}
use Rattle.model_data.specs.declared.batch.AttemptOf.{AttemptOf}
use Rattle.batch_table.proofs.Losing.{allowed, answered, are_among, one_more_at, refused, stopped_at}
use Rattle.batch_table.proofs.table.BatchTable.test_lost.Goals as goal
use Rattle.table_defs.specs.Table.{failed, row_of}
use Rattle.table_defs.specs.Taken.{is_open, on_row}

pub returns-then-is_among : goal.returns-then-is_among
returns-then-is_among c =
    let items = c.args.items.now in
    let t = c.args.self.now.table in
    let i = c.loop-place.place in
    let x = c.item-item.result in
    let within : i < length items = search rules in
    let is : x ≡ get_or items i x = c.item-item.is ∙ ap (λ (xs : List AttemptOf). get_or xs i x) c.as_slice-item-items.ensures in
    let among : are_among (take i items) x.id ≡ true = search rules in
    answered _ (BATCHSTATE 4) (Err (BATCHSTATE 4)) (stopped_at items i x t (BATCHSTATE 4) within is c.loop-place.invariant (ap (λ b. cond b (Some (BATCHSTATE failed)) (on_row (is_open x.attempt) (row_of x.id t))) among)) refl

pub returns-in_err-test_row : goal.returns-in_err-test_row
returns-in_err-test_row c =
    let items = c.args.items.now in
    let t = c.args.self.now.table in
    let i = c.loop-place.place in
    let x = c.item-item.result in
    let why = c.in_err-test_row.field-0.0 in
    let within : i < length items = search rules in
    let is : x ≡ get_or items i x = c.item-item.is ∙ ap (λ (xs : List AttemptOf). get_or xs i x) c.as_slice-item-items.ensures in
    let apart : are_among (take i items) x.id ≡ false = search rules in
    let no : on_row (is_open x.attempt) (row_of x.id t) ≡ Some why = refused _ _ why c.in_err-test_row.ensures in
    let result : c.from_residual.result ≡ Err why = search rules in
    answered _ why c.from_residual.result (stopped_at items i x t why within is c.loop-place.invariant (ap (λ b. cond b (Some (BATCHSTATE failed)) (on_row (is_open x.attempt) (row_of x.id t))) apart ∙ no)) result

pub loop-place-preserved : goal.loop-place-preserved
loop-place-preserved c =
    let items = c.args.items.now in
    let t = c.args.self.now.table in
    let i = c.loop-place.place in
    let x = c.item-item.result in
    let within : i < length items = search rules in
    let is : x ≡ get_or items i x = c.item-item.is ∙ ap (λ (xs : List AttemptOf). get_or xs i x) c.as_slice-item-items.ensures in
    let apart : are_among (take i items) x.id ≡ false = search rules in
    one_more_at items i x t within is c.loop-place.invariant apart (allowed _ _ _ c.in_ok-test_row.ensures)
