use Rattle.std.proofs.Common.{length, ◌-◌, ◌≡◌, ◌≤◌, take, All}
use Rattle.wire_text.specs.Line.{is_blank}
use Rattle.script_text.proofs.words.run_len.Given as goal

abbrev pub invariant-loop-len : goal.invariant-loop-len
invariant-loop-len l = record {
  within : l.len ≤ length l.text;
  run : All (λ byte. is_blank byte ≡ l.blank) (take l.len l.text);
}

abbrev pub decreases-loop-len : goal.decreases-loop-len
decreases-loop-len l = length l.text - l.len
