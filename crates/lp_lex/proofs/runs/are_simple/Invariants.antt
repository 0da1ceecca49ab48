use Rattle.std.proofs.Common.{◌≡◌, take}
use Rattle.std.specs.List.{list_all}
use Rattle.lp_lex.specs.Runs.{is_simple_byte}
use Rattle.lp_lex.proofs.runs.are_simple.Given as goal

abbrev pub invariant-loop-byte : goal.invariant-loop-byte
invariant-loop-byte l = l.all ≡ list_all is_simple_byte (take l.byte-index l.bytes)
