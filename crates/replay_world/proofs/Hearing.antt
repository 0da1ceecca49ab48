-- What a line that a session answered heard of the hub is what the definition says that it hears.
use Rattle.std.proofs.Common.{◌≡◌, ℕ, Bool, true, false, List, [], ◌∷◌, Result, refl, sym, ap, subst, ◌∙◌, arith}
use Rattle.base_names.specs.declared.refusal.Refusal.{Refusal}
use Rattle.base_names.specs.declared.refusal.Refusal.TheVariants.{MEMORY}
use Rattle.model_data.specs.declared.batch.BatchBody.{BatchBody}
use Rattle.model_data.specs.declared.batch.BatchResult.{BatchResult}
use Rattle.cluster_defs.specs.Asking.{is_memory}
use Rattle.cluster_defs.specs.declared.ask.Ask.{Ask}
use Rattle.cluster_defs.specs.declared.reply.Reply.{Reply}
use Rattle.cluster_defs.specs.declared.reply.Reply.TheVariants.{Made, Refused, Status}
use Rattle.desk.specs.Desks.{Held}
use Rattle.disk_model.specs.Memory.{DiskState}
use Rattle.hub_core.specs.declared.setup.Setup.{Setup}
use Rattle.hub_core.specs.State.{State}
use Rattle.session.specs.Hearing.{Enough, Heard, Short, WasAsked, first_reply, enough_effect, is_last, line_effect}
use Rattle.session.specs.Session.{Call, Effect, Session, asks}
use Rattle.wire_text.specs.declared.command.Command.{Command}
use Rattle.replay_world.specs.Answering.{AskedOf}
use Rattle.replay_world.specs.Hubs.{asked, hub_of_state}
use Rattle.replay_world.specs.Steps.{Found, Memory, NoneForHub, NoneForSession, hears, hears_calls, reply_heard}
use Rattle.replay_world.proofs.Asking.{asked_is}
use Rattle.replay_world.proofs.Calling.{Asks, alone, line_asks, once}

memory_is : (reply : Reply) → is_memory reply ≡ true → reply ≡ Refused MEMORY
memory_is (Made id) is = absurd (grind (arith, is))
memory_is (Status id status) is = absurd (grind (arith, is))
memory_is (Refused MEMORY) is = refl
memory_is (Refused _) is = absurd (grind (arith, is))

-- what a line heard by the definition, and what that does
pub record IsHeard (setup : Setup) (old new : State DiskState) (session : Session) (command : Result Command Refusal) (block : List ℕ) (heard : Heard) : Type 0 where
  pub memory : Memory
  pub told : Heard
  pub hears_is : (plain : BatchBody → BatchResult) → hears plain setup (hub_of_state old) old.disk session command block memory ≡ record { heard = told; hub = hub_of_state new; disk = new.disk }
  pub effect_is : line_effect session command block told ≡ line_effect session command block heard
  pub last_is : is_last command told ≡ is_last command heard

module _ (setup : Setup) (session : Session) (command : Result Command Refusal) (block : List ℕ) where
  -- the session found no memory, and asked nothing
  short_heard : (old new : Held DiskState) (has_applied : Bool) → new ≡ old → IsHeard setup old.hub new.hub session command block (Short has_applied)
  short_heard old new has_applied same = subst (λ (d : Held DiskState). IsHeard setup old.hub d.hub session command block (Short has_applied)) (sym same)
      record { memory = NoneForSession has_applied; told = Short has_applied; hears_is = λ plain. refl; effect_is = refl; last_is = refl }

  -- it asked nothing
  alone_heard : (old new : Held DiskState) (replies : List Reply) (done : Effect) → done.calls ≡ [] → ((reply : Reply) → enough_effect session command block reply ≡ done) → new ≡ old → IsHeard setup old.hub new.hub session command block (Enough replies)
  alone_heard old new replies done none by same = subst (λ (d : Held DiskState). IsHeard setup old.hub d.hub session command block (Enough replies)) (sym same) record {
    memory = Found;
    told = Enough [];
    hears_is = λ plain. ap (λ (calls : List Call). hears_calls plain setup session.seat (hub_of_state old.hub) old.hub.disk calls) (ap (λ (e : Effect). e.calls) (by (Refused MEMORY)) ∙ none);
    effect_is = by (Refused MEMORY) ∙ sym (by (first_reply replies));
    last_is = refl;
  }

  -- it asked once
  module _ (old new : Held DiskState) (replies : List Reply) (s : Session) (ask : Ask) (by : (reply : Reply) → enough_effect session command block reply ≡ asks s ask reply) (set_up : old.hub.setup ≡ setup) (whole : new.hub.disk.refused ≡ 0)
      (made : AskedOf old session.seat ask (first_reply replies) new) where
    none_heard : is_memory (first_reply replies) ≡ true → IsHeard setup old.hub new.hub session command block (Enough replies)
    none_heard memory = subst (λ (h : State DiskState). IsHeard setup old.hub h session command block (Enough replies)) (sym (made.memory memory)) record {
      memory = NoneForHub;
      told = Enough (Refused MEMORY ∷ []);
      hears_is = λ plain. refl;
      effect_is = ap (enough_effect session command block) (sym (memory_is (first_reply replies) memory));
      last_is = refl;
    }

    asked_as : is_memory (first_reply replies) ≡ false → (plain : BatchBody → BatchResult) → asked plain setup (hub_of_state old.hub) session.seat ask old.hub.disk ≡ record { reply = first_reply replies; hub = hub_of_state new.hub; disk = new.hub.disk }
    asked_as found plain = subst (λ (x : Setup). asked plain x (hub_of_state old.hub) session.seat ask old.hub.disk ≡ record { reply = first_reply replies; hub = hub_of_state new.hub; disk = new.hub.disk }) set_up
        (asked_is plain old.hub new.hub session.seat ask (first_reply replies) made.kind (made.step found) made.ran made.doubt whole)

    found_heard : is_memory (first_reply replies) ≡ false → IsHeard setup old.hub new.hub session command block (Enough replies)
    found_heard found = record {
      memory = Found;
      told = Enough (first_reply replies ∷ []);
      hears_is = λ plain. ap (λ (calls : List Call). hears_calls plain setup session.seat (hub_of_state old.hub) old.hub.disk calls) (ap (λ (e : Effect). e.calls) (by (Refused MEMORY)))
          ∙ ap reply_heard (asked_as found plain);
      effect_is = refl;
      last_is = refl;
    }

    once_heard : (memory : Bool) → is_memory (first_reply replies) ≡ memory → IsHeard setup old.hub new.hub session command block (Enough replies)
    once_heard true is = none_heard is
    once_heard false is = found_heard is

  by_asks : (old new : Held DiskState) (replies : List Reply) → Asks (enough_effect session command block) → WasAsked AskedOf session.seat old (line_effect session command block (Enough replies)).calls new → old.hub.setup ≡ setup → new.hub.disk.refused ≡ 0 → IsHeard setup old.hub new.hub session command block (Enough replies)
  by_asks old new replies (alone done none by) was set_up whole =
      alone_heard old new replies done none by (subst (λ (calls : List Call). WasAsked AskedOf session.seat old calls new) (ap (λ (e : Effect). e.calls) (by (first_reply replies)) ∙ none) was)
  by_asks old new replies (once s ask by) was set_up whole =
      let one = subst (λ (calls : List Call). WasAsked AskedOf session.seat old calls new) (ap (λ (e : Effect). e.calls) (by (first_reply replies))) was in
      let made : AskedOf old session.seat ask (first_reply replies) new = subst (λ (d : Held DiskState). AskedOf old session.seat ask (first_reply replies) d) (sym one.2) one.1 in
      once_heard old new replies s ask by set_up whole made (is_memory (first_reply replies)) refl

  pub is_heard : (old new : Held DiskState) (heard : Heard) → WasAsked AskedOf session.seat old (line_effect session command block heard).calls new → old.hub.setup ≡ setup → new.hub.disk.refused ≡ 0 → IsHeard setup old.hub new.hub session command block heard
  is_heard old new (Enough replies) was set_up whole = by_asks old new replies (line_asks session command block) was set_up whole
  is_heard old new (Short has_applied) was set_up whole = short_heard old new has_applied was
