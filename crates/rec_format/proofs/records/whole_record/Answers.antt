use Rattle.std.proofs.Common.{◌≡◌, sym, ◌∙◌}
use Rattle.rec_format.proofs.RecordSpelled.{not_at_end, told_at_end}
use Rattle.rec_format.proofs.records.whole_record.Goals as goal

pub returns-then-is_done : goal.returns-then-is_done
returns-then-is_done c = told_at_end c.args.bytes.now c.read_record.new.reader.bytes.now c.in_ok-record.record c.in_ok-record.ensures (sym c.is_done.ensures ∙ c.if-is_done.true)

pub returns-else-is_done : goal.returns-else-is_done
returns-else-is_done c = not_at_end c.args.bytes.now c.read_record.new.reader.bytes.now c.in_ok-record.record c.in_ok-record.ensures (sym c.is_done.ensures ∙ c.if-is_done.false)
