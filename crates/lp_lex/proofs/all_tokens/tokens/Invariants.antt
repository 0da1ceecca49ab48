use Rattle.std.proofs.Common.{length, ◌-◌}
use Rattle.lp_lex.specs.Lexer.{offset_of, text_of}
use Rattle.lp_lex.proofs.ReadSoFar.{IsReadSoFar}
use Rattle.lp_lex.proofs.all_tokens.tokens.Given as goal

abbrev pub invariant-loop-token : goal.invariant-loop-token
invariant-loop-token l = IsReadSoFar l.text l.lexer l.tokens.items

abbrev pub decreases-loop-token : goal.decreases-loop-token
decreases-loop-token l = length (text_of l.lexer) - offset_of l.lexer
