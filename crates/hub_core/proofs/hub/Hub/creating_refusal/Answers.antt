use Rattle.std.proofs.Common.{rules, arith, refl, sym, ap, ◌≡◌, ◌∙◌, ◌+◌, ◌*◌, ◌<◌, ◌≤◌, ℕ}
use Rattle.std.specs.Prelude.{sum_by}
use Rattle.cluster_defs.specs.Appended.{next_id}
use Rattle.cluster_defs.specs.Refusals.{kept_bytes, need}
use Rattle.hub_core.proofs.Kept.{same_len}
use Rattle.hub_core.proofs.Needs.{need_sum, roomy, too_full}
use Rattle.hub_core.proofs.hub.Hub.creating_refusal.Goals as goal
use Rattle.hub_core.specs.Sites.{site_of}
use Rattle.hub_core.specs.State.{state_of}
use Rattle.model_data.specs.declared.batch.BatchRecord.TheVariants as batch
use Rattle.model_data.specs.declared.batch.BatchRow.{BatchRow}
use Rattle.rec_format.specs.Records.{model_len}
use Rattle.table_defs.specs.Owned.{rows_of}
use Rattle.table_defs.specs.Table.{greatest}

pub returns-then-need-limit : goal.returns-then-need-limit
returns-then-need-limit g c plain =
    let left : greatest c.args.seat.now.owner c.args.self.now.table.table < 4294967295 = omega (arith, c.if-greatest.false, c.greatest.ensures, c.greatest.type_inv) in
    let rows = ap (λ rows. sum_by (λ (row : BatchRow). model_len row.body.model) (rows_of c.args.seat.now.owner rows)) c.rows.ensures.rows in
    let kept : kept_bytes (site_of plain c.args.self.now.setup) c.args.seat.now.owner c.args.self.now.table.table + model_len c.args.body.now.model ≤ c.args.self.now.setup.limits.bytes
    = omega (arith, c.if-kept-from.false, c.kept_bytes.ensures.bytes, rows, c.model_len.ensures.value, c.from.ensures, c.from-2.ensures) in
    let is = need_sum (site_of plain c.args.self.now.setup) c.args.self.now.journal.end c.going_on.result c.args.bytes c.args.self.now.table.table (next_id c.args.seat.now.owner c.args.self.now.table.table) c.args.body.now
    (c.requires.bytes ∙ same_len c.args.seat.now.owner 1 (greatest c.args.seat.now.owner c.args.self.now.table.table + 1) 1 c.args.body.now) c.going_on.ensures.count in
    let told : c.args.self.now.journal.end + 5 + c.args.bytes + 1200000 * (c.going_on.result + 1) ≡ c.end.result + 5 + c.from-3.result + 1200000 * (c.going_on.result + 1) = omega (arith, c.end.ensures, c.from-3.ensures) in
    sym (too_full (site_of plain c.args.self.now.setup) (state_of c.args.self.now).store c.args.seat.now c.args.body.now left kept _ (is ∙ told) c.if-need-limit.true)

pub returns : goal.returns
returns g c plain =
    let left : greatest c.args.seat.now.owner c.args.self.now.table.table < 4294967295 = omega (arith, c.if-greatest.false, c.greatest.ensures, c.greatest.type_inv) in
    let rows = ap (λ rows. sum_by (λ (row : BatchRow). model_len row.body.model) (rows_of c.args.seat.now.owner rows)) c.rows.ensures.rows in
    let kept : kept_bytes (site_of plain c.args.self.now.setup) c.args.seat.now.owner c.args.self.now.table.table + model_len c.args.body.now.model ≤ c.args.self.now.setup.limits.bytes
    = omega (arith, c.if-kept-from.false, c.kept_bytes.ensures.bytes, rows, c.model_len.ensures.value, c.from.ensures, c.from-2.ensures) in
    let is = need_sum (site_of plain c.args.self.now.setup) c.args.self.now.journal.end c.going_on.result c.args.bytes c.args.self.now.table.table (next_id c.args.seat.now.owner c.args.self.now.table.table) c.args.body.now
    (c.requires.bytes ∙ same_len c.args.seat.now.owner 1 (greatest c.args.seat.now.owner c.args.self.now.table.table + 1) 1 c.args.body.now) c.going_on.ensures.count in
    let told : c.args.self.now.journal.end + 5 + c.args.bytes + 1200000 * (c.going_on.result + 1) ≡ c.end.result + 5 + c.from-3.result + 1200000 * (c.going_on.result + 1) = omega (arith, c.end.ensures, c.from-3.ensures) in
    sym (roomy (site_of plain c.args.self.now.setup) (state_of c.args.self.now).store c.args.seat.now c.args.body.now left kept _ (is ∙ told) c.if-need-limit.false)
