use Rattle.std.proofs.Common.{◌≡◌, ◌==◌, ◌+◌, ◌≤◌, length}
use Rattle.std.specs.List.{slice_split}
use Rattle.cert_text.specs.Lines.{reading, reading_from}
use Rattle.cert_text.specs.Stages.{missing_of}
use Rattle.cert_text.proofs.reading.read_lines.Given as goal

abbrev pub invariant-loop-end : goal.invariant-loop-end
invariant-loop-end l =
    (reading_from l.stage l.line (slice_split (λ byte. byte == 10) l.rest) ≡ reading l.fn.text)
    × (l.line + length l.rest ≤ 1 + length l.fn.text) × (1 ≤ l.line) × (missing_of l.stage ≤ l.line)

abbrev pub decreases-loop-end : goal.decreases-loop-end
decreases-loop-end l = length l.rest
