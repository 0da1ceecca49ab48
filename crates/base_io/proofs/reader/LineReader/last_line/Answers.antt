use Rattle.std.proofs.Common.{◌<◌, length, ap, ◌∙◌, arith}
use Rattle.base_io.specs.Held.{Held}
use Rattle.base_io.proofs.Giving.{gives_last_line}
use Rattle.base_io.proofs.reader.LineReader.last_line.Goals as goal

pub returns-clause-line : goal.returns-clause-line
returns-clause-line c =
    let is = ap length (c.held-len.ensures ∙ ap (λ (h : Held). h.bytes) c.self.view_is) in
    let some : 0 < length c.held-len.result.now = omega (arith, c.if-len-eq0.false) in
    λ left. gives_last_line c.give.result c.args.self.now c.give.new.self left (length c.held-len.result.now) c.requires.waiting c.requires.ended c.requires.part is some c.if-len-gt-LINE_LIMIT.false c.give.ensures.ok c.give.ensures.err
