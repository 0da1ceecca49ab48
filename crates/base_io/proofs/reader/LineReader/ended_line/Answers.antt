use Rattle.std.proofs.Common.{ℕ, ◌+◌, ◌<◌, List, length, take, ap, ◌∙◌, arith}
use Rattle.std.proofs.lemmas.List.{length-take}
use Rattle.base_io.specs.Held.{Held}
use Rattle.base_io.specs.Lines.{without_return}
use Rattle.base_io.specs.declared.limits.TheConstants.{INPUT_LIMIT}
use Rattle.base_io.proofs.Giving.{gives_ended_line, length-without_return}
use Rattle.base_io.proofs.reader.LineReader.ended_line.Goals as goal

pub give-requires-clause-short : goal.give-requires-clause-short
give-requires-clause-short c =
    let body = take c.args.place c.held.result.now in
    omega (arith, ap length c.trim_return-len.ensures, (length-without_return body).0, length-take c.args.place c.held.result.now)

pub returns-clause-line : goal.returns-clause-line
returns-clause-line c =
    let bytes = ap (λ (h : Held). h.bytes) c.self.view_is in
    let given = ap (λ (h : Held). h.given) c.self.view_is in
    let now : c.args.self.now.given < INPUT_LIMIT = omega (arith, given, c.self.invariant) in
    let below : c.args.self.now.given + (c.args.place + 1) < INPUT_LIMIT = omega (arith, given, c.is_input_too_long.ensures.no c.if-is_input_too_long.false) in
    let is = ap length c.trim_return-len.ensures ∙ ap (λ (l : List ℕ). length (without_return (take c.args.place l))) (c.held.ensures ∙ bytes) in
    λ left. gives_ended_line c.give.result c.args.self.now c.give.new.self left c.args.place (length c.trim_return-len.result.now) c.requires.waiting now c.requires.end is c.if-len-gt-LINE_LIMIT.false below c.give.ensures.ok c.give.ensures.err
