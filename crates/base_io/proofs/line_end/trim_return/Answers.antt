use Rattle.std.proofs.Common.{◌≡◌, ◌∙◌, ◌-◌, ◌==◌, cond, length, take, rules}
use Rattle.std.specs.Prelude.{slice_index}
use Rattle.base_io.proofs.Giving.{trimmed}
use Rattle.base_io.proofs.line_end.trim_return.Goals as goal

pub returns-then-eq : goal.returns-then-eq
returns-then-eq c =
    let line = c.args.line.now in
    let cut : take (length line - 1) line ≡ cond (slice_index line (length line - 1) == 13) (take (length line - 1) line) line = search rules in
    cut ∙ trimmed line

pub returns : goal.returns
returns c =
    let line = c.args.line.now in
    let kept : line ≡ cond (slice_index line (length line - 1) == 13) (take (length line - 1) line) line = search rules in
    kept ∙ trimmed line
