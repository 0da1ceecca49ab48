use Rattle.std.proofs.Common.{◌≡◌, ◌∙◌, ℕ, List, Some, ap, sym, subst, refl}
use Rattle.replay_world.proofs.Seats.{no_session, session_there}
use Rattle.replay_world.proofs.Lining.{ok_all}
use Rattle.replay_world.proofs.Taking.{asked_setup, behind, given_nobody, gives, leads_on, line_leads, took_with}
use Rattle.replay_world.proofs.world.World.give.Goals as goal
use Rattle.replay_world.specs.Answering.{Answered}
use Rattle.replay_world.specs.Stepping.{StepSays, Took}
use Rattle.cluster_defs.specs.Journal.{Journal}
use Rattle.replay_world.specs.Events.{calls_event}
use Rattle.replay_world.specs.Hubs.{hub_of_state}
use Rattle.replay_world.specs.Views.{Continues, HasJournal, IsSetUp, disk_of, hub_on, view}
use Rattle.session.specs.Hearing.{line_effect}
use Rattle.script_text.specs.declared.step.Step.TheVariants.{At}
use Rattle.wire_text.specs.Commands.{command_of_words}
use Rattle.replay_world.specs.declared.machine.Machine.{Machine}
use Rattle.replay_world.specs.declared.machine.Machine.TheVariants.{Running}
use Rattle.wire_text.specs.Line.{words_of}

pub returns-in_default : goal.returns-in_default
returns-in_default c = (λ plain memory. given_nobody plain (view c.args.self) c.args.number (words_of c.args.line.now) c.args.block.now memory (no_session c.args.number c.args.self.sessions.items (sym c.place_of.ensures ∙ c.in_default.is)), refl)

pub tell-requires : goal.tell-requires
tell-requires c =
    let there = session_there c.args.number c.args.self.sessions.items c.in-Some.place (sym c.place_of.ensures ∙ c.in-Some.is) in
    let a = c.in_ok-said.ensures there.0 c.args.number (sym c.place_of.ensures ∙ c.in-Some.is) there.1 in
    record {
      least = c.requires.whole.sound.least;
      set_up = asked_setup there.0.seat _ c.in-Running.desk c.answer.new.desk a.asked ∙ subst (λ (m : Machine). IsSetUp c.args.self.setup m) c.in-Running.is c.requires.whole.sound.set_up;
      readable = tt;
    }

pub returns : goal.returns
returns c =
    let there = session_there c.args.number c.args.self.sessions.items c.in-Some.place (sym c.place_of.ensures ∙ c.in-Some.is) in
    let w = view c.args.self in
    let words = words_of c.args.line.now in
    let text = c.as_slice.result.now in
    let set_up = subst (λ (m : Machine). IsSetUp c.args.self.setup m) c.in-Running.is c.requires.whole.sound.set_up in
    let answered : Answered c.args.number there.0 (command_of_words words) c.args.block.now c.in-Running.desk c.answer.new.desk c.args.self.sessions.items c.answer.new.sessions.items text
    = subst (λ (t : List ℕ). Answered c.args.number there.0 (command_of_words words) c.args.block.now c.in-Running.desk c.answer.new.desk c.args.self.sessions.items c.answer.new.sessions.items t) (sym (c.as_slice.ensures.value ∙ c.bytes.ensures))
    (c.in_ok-said.ensures there.0 c.args.number (sym c.place_of.ensures ∙ c.in-Some.is) there.1) in
    let seen = behind w c.args.number words c.args.block.now there.0 c.in-Running.desk c.answer.new.desk c.answer.new.sessions.items text in
    let event = calls_event (hub_of_state c.in-Running.desk.hub) there.0.seat (line_effect there.0 (command_of_words words) c.args.block.now answered.heard).calls in
    let leads : (j : Journal) → HasJournal j c.args.self.machine → Continues event j (Running c.answer.new.desk) = subst (λ (m : Machine). (j : Journal) → HasJournal j m → Continues event j (Running c.answer.new.desk)) (sym c.in-Running.is)
    (line_leads there.0 (command_of_words words) c.args.block.now answered.heard c.in-Running.desk c.answer.new.desk answered.asked c.has_its_table.ensures) in
    ok_all c.tell.result (λ r. c.answer.new.desk.hub.disk.refused ≡ 0) (λ r. Took r.1 (Some seen) r.0 c.args.out.now.items c.tell.new.out.items) (λ r. (j : Journal) → HasJournal j (Running c.answer.new.desk) → HasJournal j r.0.machine)
    (λ r. StepSays r.1 c.args.self (At c.args.number) words c.args.block.now r.0 c.args.out.now.items c.tell.new.out.items) c.tell.ensures.whole c.tell.ensures.told c.tell.ensures.journal
    (λ r whole told keeps.
    let g = gives w c.args.number words c.args.block.now there.0 c.in-Running.desk c.answer.new.desk c.answer.new.sessions.items text answered set_up whole
    (ap hub_on c.in-Running.is) (ap disk_of c.in-Running.is) there.1 in
    took_with c.args.self (At c.args.number) words c.args.block.now r.0 c.args.out.now.items c.tell.new.out.items event r.1 seen told g.0 g.1 g.2 (leads_on event c.args.self r.0 (Running c.answer.new.desk) leads keeps))
