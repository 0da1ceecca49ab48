use Rattle.std.proofs.Common.{◌≡◌, sym, ◌∙◌, ap, subst, arith, List, length, Ok, Err, None}
use Rattle.lp_defs.specs.declared.token.Token.{Token}
use Rattle.lp_lex.specs.Ahead.{next_of}
use Rattle.lp_lex.specs.Lexer.{items_ahead, offset_of}
use Rattle.lp_lex.proofs.ReadSoFar.{AreSpans-longer, IsReadSoFar, IsTold, read_more, tokens_of-end, tokens_of-fault}
use Rattle.lp_lex.proofs.all_tokens.tokens.Goals as goal

pub loop-token-preserved : goal.loop-token-preserved
loop-token-preserved c =
    let told : IsTold c.loop-token.lexer c.next_token.new.self c.in-Ok-Some.token = record {
      next = cc;
      items_are = c.next_token.ensures.items;
      slice = rw c.in-Ok-Some.field-0-is at c.in-Ok-Some.ensures.slice;
      offset_is = rw c.in-Ok-Some.field-0-is at c.in-Ok-Some.ensures.offset;
      same_text = c.next_token.ensures.same_text;
    } in
    let more = read_more c.args.text.now c.loop-token.lexer c.next_token.new.self c.loop-token.tokens.items c.in-Ok-Some.token c.loop-token.invariant told in
    subst (λ (tokens : List Token). IsReadSoFar c.args.text.now c.next_token.new.self tokens) (sym c.in_ok-push-in-Ok-Some.ensures.items) more

pub returns-in-Ok-None-clause-ok : goal.returns-in-Ok-None-clause-ok
returns-in-Ok-None-clause-ok c =
    let none : next_of (items_ahead c.loop-token.lexer) ≡ Ok None = cc in
    sym c.loop-token.invariant.all ∙ tokens_of-end (items_ahead c.loop-token.lexer) c.loop-token.tokens.items none

pub returns-in-Ok-None-clause-spans : goal.returns-in-Ok-None-clause-spans
returns-in-Ok-None-clause-spans c =
    let same = ap length c.loop-token.invariant.same_text in
    let within = c.loop-token.lexer.within.in_text in
    AreSpans-longer 0 (offset_of c.loop-token.lexer) (length c.args.text.now) c.loop-token.tokens.items c.loop-token.invariant.spans (omega arith)

pub returns-in-Err-clause-fault : goal.returns-in-Err-clause-fault
returns-in-Err-clause-fault c = λ fault e.
    let told : next_of (items_ahead c.loop-token.lexer) ≡ Err fault = cc in
    sym c.loop-token.invariant.all ∙ tokens_of-fault (items_ahead c.loop-token.lexer) c.loop-token.tokens.items fault told
