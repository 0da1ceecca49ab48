use Rattle.std.proofs.Common.{◌≡◌, sym, ◌∙◌, ap, ℕ, List, slice_range, None, Option, Some, Ok, Err, Result}
use Rattle.std.specs.Prelude.{IfOk}
use Rattle.std.proofs.lemmas.Result.{IfOk-weaker}
use Rattle.base_names.specs.declared.memory.OrMemory.TheVariants.{Fault}
use Rattle.lp_defs.specs.Reading.{after, at_the_end, stopped}
use Rattle.lp_defs.specs.Symbols as seen
use Rattle.lp_defs.specs.Text.{reading}
use Rattle.lp_defs.proofs.Laws.{read_lawful, read_spells}
use Rattle.lp_defs.specs.declared.token.Token.{Token}
use Rattle.lp_defs.specs.declared.token.LexFault.{LexFault}
use Rattle.frac128.specs.Fraction.{Fraction}
use Rattle.lp_lex.specs.Class.{next_told, token_with}
use Rattle.lp_lex.specs.declared.class.ClassedToken.{ClassedToken}
use Rattle.lp_parse.specs.Meaning.{spot_of, stage_of}
use Rattle.lp_parse.proofs.Outcomes.{fault_met, value_met}
use Rattle.lp_parse.proofs.ReadSoFar.{IsTold, read_end, read_more, read_no_token, read_stop, spot_of_token}
use Rattle.lp_parse.proofs.parser.parse.Goals as goal
use Rattle.lp_parse.proofs.parser.parse.Goals.{After-after_token, After-at_the_end}

-- what the lexer has told of the items ahead, by what it gave
next_is : {found wanted : Result (Option ClassedToken) LexFault} {ahead : Result (Option Token) LexFault} (value : Fraction)
    → found ≡ wanted → next_told found value ≡ ahead → next_told wanted value ≡ ahead
next_is value was told = ap (λ (next : Result (Option ClassedToken) LexFault). next_told next value) (sym was) ∙ told

bytes_of : (c : After-after_token) → List ℕ
bytes_of c = slice_range c.args.text.now c.in-Ok-Some.token.start c.in-Ok-Some.token.end

-- the token, with its value where it is a number
token_of : (c : After-after_token) → Token
token_of c = token_with c.in-Ok-Some.token c.next_classed.new.value

told : (c : After-after_token) → IsTold c.loop-token.lexer c.next_classed.new.self (token_of c) (bytes_of c)
unfolding bytes_of token_of
told c =
    let token = c.in-Ok-Some.token in
    let slice = rw c.in-Ok-Some.field-0-is at c.in-Ok-Some.ensures.slice in
    let was : c.next_classed.result ≡ Ok (Some token) = cc in
    record {
      next = next_is c.next_classed.new.value was c.next_classed.ensures.next;
      items_are = c.next_classed.ensures.items;
      bytes_are = ap (λ (text : List ℕ). slice_range text token.start token.end) (sym c.loop-token.invariant.same_text) ∙ slice.same;
      same_text = c.next_classed.ensures.same_text;
      same_end = c.next_classed.ensures.same_end;
    }

pub loop-token-preserved : goal.loop-token-preserved
unfolding bytes_of token_of
loop-token-preserved c =
    let at = (goal.at.loop-token-preserved c).After-after_token in
    read_more (stage_of c.in-Ok.next c.after_token.new.told) c.loop-token.invariant (told at) c.in-Ok.ensures

pub returns-in-Err-after_token-clause-fault : goal.returns-in-Err-after_token-clause-fault
unfolding bytes_of token_of
returns-in-Err-after_token-clause-fault c fault is =
    let at = (goal.at.returns-in-Err-after_token-clause-fault c).After-after_token in
    let stage = stage_of c.loop-token.stage c.loop-token.told in
    let step = after stage (spot_of_token (token_of at)) (seen.symbol_of (token_of at).kind (bytes_of at)) in
    let outcome : c.after_token.result ≡ Err (Fault fault) = cc in
    let stop = fault_met c.after_token.result (λ next. stage_of next c.after_token.new.told) step fault c.after_token.ensures outcome in
    read_stop fault c.loop-token.invariant (told at) stop

-- the text ends in this stage
ends : (c : After-at_the_end) → reading c.args.text.now ≡ at_the_end (stage_of c.loop-token.stage c.loop-token.told) (spot_of c.of_place.result)
ends c =
    let stage = stage_of c.loop-token.stage c.loop-token.told in
    let was : c.next_classed.result ≡ Ok None = cc in
    read_end c.loop-token.invariant (next_is c.next_classed.new.value was c.next_classed.ensures.next)
    ∙ ap (at_the_end stage) (sym (c.of_place.ensures ∙ ap seen.spot_of (c.end.ensures ∙ c.next_classed.ensures.same_end)))

is_read : (c : After-at_the_end) → IfOk c.at_the_end.result (λ m. reading c.args.text.now ≡ Ok m)
is_read c = value_met c.at_the_end.result _ _ (ends c) c.at_the_end.ensures

pub returns-in-Ok-None-clause-ok : goal.returns-in-Ok-None-clause-ok
returns-in-Ok-None-clause-ok c = IfOk-weaker c.at_the_end.result _ _ (read_spells c.args.text.now) (is_read c)

pub returns-in-Ok-None-clause-lawful : goal.returns-in-Ok-None-clause-lawful
returns-in-Ok-None-clause-lawful c = IfOk-weaker c.at_the_end.result _ _ (read_lawful c.args.text.now) (is_read c)

pub returns-in-Ok-None-clause-fault : goal.returns-in-Ok-None-clause-fault
returns-in-Ok-None-clause-fault c fault is =
    let stage = stage_of c.loop-token.stage c.loop-token.told in
    ends c ∙ fault_met c.at_the_end.result (λ m. m) (at_the_end stage (spot_of c.of_place.result)) fault c.at_the_end.ensures is

pub returns-in-Err-clause-fault : goal.returns-in-Err-clause-fault
returns-in-Err-clause-fault c fault is =
    let stage = stage_of c.loop-token.stage c.loop-token.told in
    let first = ap (stopped stage) c.fault_of_run.ensures in
    let was : c.next_classed.result ≡ Err c.in-Err.fault = cc in
    let told = next_is c.next_classed.new.value was c.next_classed.ensures.next in
    read_no_token c.in-Err.fault c.loop-token.invariant told ∙ ap Err (sym first ∙ c.stopped.ensures fault cc)
