use Rattle.std.proofs.Common.{rules, ◌≡◌, sym, ◌∙◌, ap, subst, Ok, Err, Some, Option, Result}
use Rattle.lp_defs.specs.declared.token.LexFault.{LexFault}
use Rattle.lp_defs.specs.declared.token.Place.{Place}
use Rattle.lp_defs.specs.declared.token.Token.{Token}
use Rattle.lp_defs.specs.declared.token.TokenKind.{TokenKind}
use Rattle.lp_defs.specs.Items.{item_of, items_of}
use Rattle.lp_lex.specs.Ahead.{IsSlice, first_bytes, items_behind, next_of, runs_ahead}
use Rattle.lp_lex.specs.Class.{class_told, kind_with, next_told}
use Rattle.lp_lex.specs.Runs.{run_of}
use Rattle.lp_lex.specs.declared.class.ClassedToken.{ClassedToken}
use Rattle.lp_lex.specs.declared.class.TokenClass.{TokenClass}
use Rattle.lp_lex.proofs.ItemsAhead.{IsRead, at_end, fault-items, fault-next, token-items, token-next, token-slice}
use Rattle.lp_lex.proofs.lexer.Lexer.next_classed.Goals as goal
use Rattle.lp_lex.proofs.lexer.Lexer.next_classed.Goals.{After-class_before}

-- nothing is ahead
pub returns-in_default-clause-next : goal.returns-in_default-clause-next
returns-in_default-clause-next c = let none = c.in_default.ensures.none in sym (ap next_of (at_end c.args.self.now.text.now c.args.self.now.place none))

pub returns-in_default-clause-items : goal.returns-in_default-clause-items
returns-in_default-clause-items c =
    let e = at_end c.args.self.now.text.now c.args.self.now.place c.in_default.ensures.none in
    e ∙ ap items_behind (sym e)

-- what is told of the run
kind_of : (c : After-class_before) → Result TokenKind LexFault
kind_of c = class_told c.class_before.result c.class_before.new.value

read : (c : After-class_before) → IsRead c.args.self.now.text.now c.args.self.now.place (run_of c.in-Some.run') (kind_of c)
unfolding kind_of
read c =
    let text = c.args.self.now.text.now in
    record {
      next = c.in-Some.ensures.some;
      outcome_is = c.class_before.ensures ∙ ap (λ (end : Place). item_of (run_of c.in-Some.run') (runs_ahead text end)) c.along-end.ensures;
    }

read_as : (c : After-class_before) (outcome : Result TokenKind LexFault) → kind_of c ≡ outcome → IsRead c.args.self.now.text.now c.args.self.now.place (run_of c.in-Some.run') outcome
read_as c outcome e = subst (IsRead c.args.self.now.text.now c.args.self.now.place (run_of c.in-Some.run')) e (read c)

-- a fault
pub returns-in_err-class-clause-next : goal.returns-in_err-class-clause-next
unfolding kind_of
returns-in_err-class-clause-next c =
    let fault : c.from_residual.result ≡ Err c.in_err-class.field-0.0 = search rules in
    let at = (goal.at.returns-in_err-class-clause-next c).After-class_before in
    let was : c.class_before.result ≡ Err c.in_err-class.field-0.0 = search rules in
    let told : kind_of at ≡ Err c.in_err-class.field-0.0 = ap (λ (r : Result TokenClass LexFault). class_told r c.class_before.new.value) was in
    ap (λ (r : Result (Option ClassedToken) LexFault). next_told r c.class_before.new.value) fault ∙ fault-next _ _ _ _ (read_as at _ told)

pub returns-in_err-class-clause-items : goal.returns-in_err-class-clause-items
unfolding kind_of
returns-in_err-class-clause-items c =
    let at = (goal.at.returns-in_err-class-clause-items c).After-class_before in
    let was : c.class_before.result ≡ Err c.in_err-class.field-0.0 = search rules in
    let told : kind_of at ≡ Err c.in_err-class.field-0.0 = ap (λ (r : Result TokenClass LexFault). class_told r c.class_before.new.value) was in
    fault-items _ _ _ _ (read_as at _ told)

-- a token
pub returns-clause-next : goal.returns-clause-next
unfolding kind_of
returns-clause-next c =
    let at = (goal.at.returns-clause-next c).After-class_before in
    let was : c.class_before.result ≡ Ok c.in_ok-class.class = search rules in
    let told : kind_of at ≡ Ok (kind_with c.in_ok-class.class c.class_before.new.value) = ap (λ (r : Result TokenClass LexFault). class_told r c.class_before.new.value) was in
    let next = token-next _ _ _ _ (read_as at _ told) in
    let token : Place → Result (Option Token) LexFault = λ end. Ok (Some (record { line = c.in-Some.run'.place.line; column = c.in-Some.run'.place.column; start = c.in-Some.run'.place.offset; end = end.offset; kind = kind_with c.in_ok-class.class c.class_before.new.value })) in
    ap token c.along-end.ensures ∙ next

pub returns-clause-items : goal.returns-clause-items
unfolding kind_of
returns-clause-items c =
    let at = (goal.at.returns-clause-items c).After-class_before in
    let was : c.class_before.result ≡ Ok c.in_ok-class.class = search rules in
    let told : kind_of at ≡ Ok (kind_with c.in_ok-class.class c.class_before.new.value) = ap (λ (r : Result TokenClass LexFault). class_told r c.class_before.new.value) was in
    let items = token-items _ _ _ _ (read_as at _ told) in
    ap (λ (end : Place). items_of (runs_ahead c.args.self.now.text.now end)) c.along-end.ensures ∙ items

pub returns-clause-slice : goal.returns-clause-slice
unfolding kind_of
returns-clause-slice c =
    let at = (goal.at.returns-clause-slice c).After-class_before in
    let was : c.class_before.result ≡ Ok c.in_ok-class.class = search rules in
    let told : kind_of at ≡ Ok (kind_with c.in_ok-class.class c.class_before.new.value) = ap (λ (r : Result TokenClass LexFault). class_told r c.class_before.new.value) was in
    let slice = token-slice _ _ _ _ (read_as at _ told) in
    let text = c.args.self.now.text.now in
    let bytes = first_bytes (items_of (runs_ahead text c.args.self.now.place)) in
    subst (λ (end : Place). IsSlice text c.args.self.now.place.offset bytes (record { line = c.in-Some.run'.place.line; column = c.in-Some.run'.place.column; start = c.in-Some.run'.place.offset; end = end.offset; kind = kind_with c.in_ok-class.class c.class_before.new.value })) (sym c.along-end.ensures) slice
