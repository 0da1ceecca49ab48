use Rattle.std.proofs.Common.{◌∙◌, ap, sym}
use Rattle.solve_defs.specs.Plain.{Progress, cut_off}
use Rattle.solve_command.proofs.Turns.{under_end, under_fewer, under_first, under_next}
use Rattle.solve_command.proofs.certificate.outcome_of.Goals as goal

pub loop-solving-init : goal.loop-solving-init
loop-solving-init c = let opened = c.in_ok-solving.ensures.start in under_first c.args.model c.args.params c.in_ok-solving.solving opened.0 opened.1 opened.2

pub is_ended_by_a_turn-requires : goal.is_ended_by_a_turn-requires
is_ended_by_a_turn-requires c = let goes = c.loop-solving.invariant.goes in (goes.search, goes.going_on)

pub loop-solving-smaller : goal.loop-solving-smaller
loop-solving-smaller c =
    let under = c.loop-solving.invariant in
    under_fewer c.args.model c.args.params c.loop-solving.solving c.is_ended_by_a_turn.new.solving c.in_ok-is_ended_by_a_turn.field-0 under
    (c.in_ok-is_ended_by_a_turn.ensures under.goes.search under.goes.going_on) c.if-not-branch.true

pub loop-solving-preserved : goal.loop-solving-preserved
loop-solving-preserved c =
    let under = c.loop-solving.invariant in
    under_next c.args.model c.args.params c.loop-solving.solving c.is_ended_by_a_turn.new.solving c.in_ok-is_ended_by_a_turn.field-0 under
    (c.in_ok-is_ended_by_a_turn.ensures under.goes.search under.goes.going_on) c.if-not-branch.true

pub unreachable-requires : goal.unreachable-requires
unreachable-requires c =
    let under = c.loop-solving.invariant in
    let end = under_end c.args.model c.args.params c.loop-solving.solving c.is_ended_by_a_turn.new.solving c.in_ok-is_ended_by_a_turn.field-0 under
    (c.in_ok-is_ended_by_a_turn.ensures under.goes.search under.goes.going_on) c.if-not-branch.false in
    rw end.own at c.in-Err.ensures.end

pub returns : goal.returns
returns c =
    let under = c.loop-solving.invariant in
    let end = under_end c.args.model c.args.params c.loop-solving.solving c.is_ended_by_a_turn.new.solving c.in_ok-is_ended_by_a_turn.field-0 under
    (c.in_ok-is_ended_by_a_turn.ensures under.goes.search under.goes.going_on) c.if-not-branch.false in
    let done = rw end.own at c.in-Ok.ensures.end in (
      ap (λ parts. parts.0) c.parts.ensures ∙ done.0 ∙ sym (ap (λ (at : Progress). (cut_off at).outcome) end.plain_one),
      ap (λ parts. parts.1) c.parts.ensures ∙ done.1 ∙ sym (ap (λ (at : Progress). (cut_off at).cert) end.plain_one),
    )
