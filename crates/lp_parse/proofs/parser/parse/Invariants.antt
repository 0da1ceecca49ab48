use Rattle.std.proofs.Common.{length, ◌-◌}
use Rattle.lp_lex.specs.Lexer.{offset_of, text_of}
use Rattle.lp_parse.specs.Meaning.{stage_of}
use Rattle.lp_parse.proofs.ReadSoFar.{IsReadSoFar}
use Rattle.lp_parse.proofs.parser.parse.Given as goal

abbrev pub invariant-loop-token : goal.invariant-loop-token
invariant-loop-token l = IsReadSoFar l.text l.lexer (stage_of l.stage l.told)

abbrev pub decreases-loop-token : goal.decreases-loop-token
decreases-loop-token l = length (text_of l.lexer) - offset_of l.lexer
