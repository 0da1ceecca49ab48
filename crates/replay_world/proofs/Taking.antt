-- What a step did, by what its own function says.
use Rattle.std.proofs.Common.{◌≡◌, ℕ, Bool, List, [], ◌∷◌, Option, None, Some, Result, refl, sym, ap, ap₂, subst, ◌∙◌}
use Rattle.std.specs.Prelude.{⊤, IfOk, Ok, Err, is_some, false}
use Rattle.cluster_defs.specs.Journal.{Event, Journal, table_behind}
use Rattle.cluster_defs.specs.declared.reply.Reply.{Reply}
use Rattle.base_names.specs.declared.refusal.Refusal.{Refusal}
use Rattle.hub_core.specs.Answering.{FollowsBy}
use Rattle.hub_core.specs.State.{journal_of}
use Rattle.model_data.specs.declared.batch.BatchBody.{BatchBody}
use Rattle.model_data.specs.declared.batch.BatchResult.{BatchResult}
use Rattle.desk.specs.Desks.{Held}
use Rattle.disk_model.specs.Memory.{DiskState, restarted}
use Rattle.script_text.specs.declared.step.Step.{Step}
use Rattle.session.specs.Hearing.{Enough, Heard, Short, WasAsked, enough_effect, first_reply, line_effect}
use Rattle.session.specs.Session.{Call, Effect, Session}
use Rattle.base_names.specs.declared.seat.Seat.{Seat}
use Rattle.wire_text.specs.Commands.{command_of_words}
use Rattle.wire_text.specs.declared.command.Command.{Command}
use Rattle.replay_world.specs.Answering.{Answered, AskedOf}
use Rattle.replay_world.specs.Events.{calls_event, given_event, opening_event, start_event, step_event}
use Rattle.replay_world.specs.Hubs.{Hub, hub_of_state, opened}
use Rattle.replay_world.specs.Stepping.{StepSays, Took}
use Rattle.replay_world.specs.Steps.{Found, Hears, Memory, Stepped, answered_by, given, hears, out_text, says, sessions_after, stepped, unless_stopped}
use Rattle.replay_world.specs.Views.{Continues, HasJournal, KeepsJournal, Leads, disk_of, hub_on, view}
use Rattle.replay_world.specs.World.{World, session_at}
use Rattle.replay_world.specs.declared.machine.Machine.{Machine}
use Rattle.replay_world.specs.declared.machine.Machine.TheVariants.{Running}
use Rattle.replay_world.specs.declared.taken.Taken.{Taken}
use Rattle.replay_world.specs.declared.taken.Taken.TheVariants.{Done, Refused}
use Rattle.replay_world.specs.declared.world.World as worlds
use Rattle.replay_world.proofs.Calling.{Asks, alone, line_asks, once}
use Rattle.replay_world.proofs.Hearing.{IsHeard, is_heard}
use Rattle.replay_world.proofs.Worlds.{start_event_again}

some_is_some : {A : Type 0} (x : A) → Some x ≡ None → ⊥
some_is_some x is = absurd (cc)

module _ (old : worlds.World) (step : Step) (words : List (List ℕ)) (block : List ℕ) (next : worlds.World) (before after : List ℕ) (event : Option Event) where
  -- whatever it finds of memory
  pub took_plain : (taken : Taken) (o : Option Stepped) → Took taken o next before after → ((plain : BatchBody → BatchResult) (memory : Memory) → stepped plain (view old) step words block memory ≡ o)
      → ((plain : BatchBody → BatchResult) → step_event plain (view old) step words block Found ≡ event) → Leads event old next → StepSays taken old step words block next before after
  took_plain Done o (whole, (text, is, wrote)) by event_is leads = (whole, (text, record { memory = Found; is = λ plain. by plain Found ∙ is; event = event; event_is = event_is; leads = leads }, wrote))
  took_plain Refused o (none, same) by event_is leads = (λ plain memory. by plain memory ∙ none, same)

  -- where it found this
  pub took_with : (taken : Taken) (x : Stepped) → Took taken (Some x) next before after → (memory : Memory) → ((plain : BatchBody → BatchResult) → stepped plain (view old) step words block memory ≡ Some x)
      → ((plain : BatchBody → BatchResult) → step_event plain (view old) step words block memory ≡ event) → Leads event old next → StepSays taken old step words block next before after
  took_with Done x (whole, (text, is, wrote)) memory by event_is leads = (whole, (text, record { memory = memory; is = λ plain. by plain ∙ is; event = event; event_is = event_is; leads = leads }, wrote))
  took_with Refused x (none, same) memory by event_is leads = absurd (some_is_some x none)

-- what stays leads on, with no event
pub stays_leads : (old new : worlds.World) → KeepsJournal old new → Leads None old new
stays_leads old new keeps = λ j has. (j, refl, keeps j has)

-- a line that a session answered
module _ (w : World) (number : ℕ) (words : List (List ℕ)) (block : List ℕ) (session : Session) (old new : Held DiskState) (sessions : List Session) (text : List ℕ) where
  abbrev pub behind : Stepped
  behind = unless_stopped (says (record w { disk = new.hub.disk; hub = Some (hub_of_state new.hub); sessions = sessions }) (out_text number text))

  -- by the effect that it had and whether it was the last one
  abbrev answered_so : Effect → Bool → Stepped
  answered_so e last = unless_stopped (says (record w { disk = new.hub.disk; hub = Some (hub_of_state new.hub); sessions = sessions_after number last e.session w.sessions }) (out_text number e.text))

  answered_is : (a : Answered number session (command_of_words words) block old new w.sessions sessions text) (h : IsHeard w.setup old.hub new.hub session (command_of_words words) block a.heard) (plain : BatchBody → BatchResult)
      → answered_by w number session (command_of_words words) block (hears plain w.setup (hub_of_state old.hub) old.hub.disk session (command_of_words words) block h.memory) ≡ behind
  answered_is a h plain =
      ap (λ (x : Hears). answered_by w number session (command_of_words words) block x) (h.hears_is plain)
      ∙ (ap₂ answered_so h.effect_is h.last_is
      ∙ ap₂ (λ (ss : List Session) (t : List ℕ). unless_stopped (says (record w { disk = new.hub.disk; hub = Some (hub_of_state new.hub); sessions = ss }) (out_text number t))) (sym a.after) (sym a.wrote))

  given_is : (a : Answered number session (command_of_words words) block old new w.sessions sessions text) (h : IsHeard w.setup old.hub new.hub session (command_of_words words) block a.heard) → w.hub ≡ Some (hub_of_state old.hub) → w.disk ≡ old.hub.disk → session_at number w.sessions ≡ Some session
      → (plain : BatchBody → BatchResult) → given plain w number words block h.memory ≡ Some behind
  given_is a h hub disk found plain = rw (hub, found) (ap (λ (x : Stepped). Some x)
      (ap (λ (s : DiskState). answered_by w number session (command_of_words words) block (hears plain w.setup (hub_of_state old.hub) s session (command_of_words words) block h.memory)) disk ∙ answered_is a h plain))

  -- what it was to the journal
  told_event : (a : Answered number session (command_of_words words) block old new w.sessions sessions text) (h : IsHeard w.setup old.hub new.hub session (command_of_words words) block a.heard) → w.hub ≡ Some (hub_of_state old.hub) → w.disk ≡ old.hub.disk → session_at number w.sessions ≡ Some session
      → (plain : BatchBody → BatchResult) → given_event plain w number words block h.memory ≡ calls_event (hub_of_state old.hub) session.seat (line_effect session (command_of_words words) block a.heard).calls
  told_event a h hub disk found plain = rw (hub, found) (
      ap (λ (s : DiskState). calls_event (hub_of_state old.hub) session.seat (line_effect session (command_of_words words) block (hears plain w.setup (hub_of_state old.hub) s session (command_of_words words) block h.memory).heard).calls) disk
      ∙ (ap (λ (x : Hears). calls_event (hub_of_state old.hub) session.seat (line_effect session (command_of_words words) block x.heard).calls) (h.hears_is plain)
      ∙ ap (λ (e : Effect). calls_event (hub_of_state old.hub) session.seat e.calls) h.effect_is))

  pub gives : (a : Answered number session (command_of_words words) block old new w.sessions sessions text) → old.hub.setup ≡ w.setup → new.hub.disk.refused ≡ 0 → w.hub ≡ Some (hub_of_state old.hub) → w.disk ≡ old.hub.disk → session_at number w.sessions ≡ Some session
      → (memory : Memory) × ((plain : BatchBody → BatchResult) → given plain w number words block memory ≡ Some behind)
      × ((plain : BatchBody → BatchResult) → given_event plain w number words block memory ≡ calls_event (hub_of_state old.hub) session.seat (line_effect session (command_of_words words) block a.heard).calls)
  gives a set_up whole hub disk found =
      let h = is_heard w.setup session (command_of_words words) block old new a.heard a.asked set_up whole in (
        h.memory,
        λ plain. given_is a h hub disk found plain,
        λ plain. told_event a h hub disk found plain,
      )

-- nobody sits there
given_by : (hub : Option Hub) (plain : BatchBody → BatchResult) (w : World) (number : ℕ) (words : List (List ℕ)) (block : List ℕ) (memory : Memory) → w.hub ≡ hub → session_at number w.sessions ≡ None → given plain w number words block memory ≡ None
given_by None plain w number words block memory is none = rw is refl
given_by (Some hub) plain w number words block memory is none = rw (is, none) refl

pub given_nobody : (plain : BatchBody → BatchResult) (w : World) (number : ℕ) (words : List (List ℕ)) (block : List ℕ) (memory : Memory) → session_at number w.sessions ≡ None → given plain w number words block memory ≡ None
given_nobody plain w number words block memory none = given_by w.hub plain w number words block memory refl none

-- what is asked leaves the set-up as it is
pub asked_setup : (seat : Seat) (calls : List Call) (old new : Held DiskState) → WasAsked AskedOf seat old calls new → new.hub.setup ≡ old.hub.setup
asked_setup seat [] old new same = ap (λ (d : Held DiskState). d.hub.setup) same
asked_setup seat (call ∷ calls) old new (mid, made, later) = asked_setup seat calls mid new later ∙ made.setup

-- ---- what a line that asks once at most leads to

abbrev IsOnce : List Call → Type 0
IsOnce [] = ⊤
IsOnce (call ∷ []) = ⊤
IsOnce (call ∷ other ∷ calls) = ⊥

asks_once : (session : Session) (command : Result Command Refusal) (block : List ℕ) (replies : List Reply) → Asks (enough_effect session command block) → IsOnce (line_effect session command block (Enough replies)).calls
asks_once session command block replies (alone done none by) = subst IsOnce (sym (ap (λ (e : Effect). e.calls) (by (first_reply replies)) ∙ none)) tt
asks_once session command block replies (once s ask by) = subst IsOnce (sym (ap (λ (e : Effect). e.calls) (by (first_reply replies)))) tt

line_once : (session : Session) (command : Result Command Refusal) (block : List ℕ) (heard : Heard) → IsOnce (line_effect session command block heard).calls
line_once session command block (Enough replies) = asks_once session command block replies (line_asks session command block)
line_once session command block (Short has_applied) = tt

calls_follow : (seat : Seat) (calls : List Call) (old new : Held DiskState) → IsOnce calls → WasAsked AskedOf seat old calls new → FollowsBy (calls_event (hub_of_state old.hub) seat calls) (journal_of old.hub) (journal_of new.hub)
calls_follow seat [] old new few same = ap (λ (d : Held DiskState). journal_of d.hub) same
calls_follow seat (call ∷ []) old new few (mid, made, same) = subst (λ (d : Held DiskState). FollowsBy (calls_event (hub_of_state old.hub) seat (call ∷ [])) (journal_of old.hub) (journal_of d.hub)) (sym same) made.follows
calls_follow seat (call ∷ other ∷ calls) old new few was = absurd few

-- from one running machine to the next
pub line_leads : (session : Session) (command : Result Command Refusal) (block : List ℕ) (heard : Heard) (old new : Held DiskState) → WasAsked AskedOf session.seat old (line_effect session command block heard).calls new → new.hub.store.table ≡ table_behind (journal_of new.hub)
    → (j : Journal) → HasJournal j (Running old) → Continues (calls_event (hub_of_state old.hub) session.seat (line_effect session command block heard).calls) j (Running new)
line_leads session command block heard old new was table = λ j has.
    let calls = (line_effect session command block heard).calls in (
      journal_of new.hub,
      subst (λ (x : Journal). FollowsBy (calls_event (hub_of_state old.hub) session.seat calls) x (journal_of new.hub)) has.0 (calls_follow session.seat calls old new (line_once session command block heard) was),
      (refl, table),
    )

-- and then to a world that has the same journal
pub leads_on : (event : Option Event) (old new : worlds.World) (mid : Machine) → ((j : Journal) → HasJournal j old.machine → Continues event j mid) → ((j : Journal) → HasJournal j mid → HasJournal j new.machine) → Leads event old new
leads_on event old new mid leads keeps = λ j has. let on = leads j has in (on.0, on.1, keeps on.0 on.2)

-- where the machine starts again
pub leads_by : (old : worlds.World) (m : Machine) → is_some (hub_on old.machine) ≡ false → opened (restarted (disk_of old.machine)) ≡ record { disk = disk_of m; hub = hub_on m }
    → (j : Journal) → Continues (Some (opening_event (hub_on m))) j m → Continues (start_event (view old)) j m
leads_by old m none is j on = subst (λ (e : Option Event). Continues e j m) (sym (start_event_again (view old) (disk_of m) (hub_on m) none is)) on

-- any step whose event rests on nothing that it finds
pub steps : {E : Type 0} (result : Result (worlds.World × Taken) E) (old : worlds.World) (step : Step) (words : List (List ℕ)) (block : List ℕ) (before after : List ℕ) (event : Option Event) (o : Option Stepped)
    → IfOk result (λ r. Took r.1 o r.0 before after) → IfOk result (λ r. Leads event old r.0) → ((plain : BatchBody → BatchResult) (memory : Memory) → stepped plain (view old) step words block memory ≡ o)
    → ((plain : BatchBody → BatchResult) → step_event plain (view old) step words block Found ≡ event) → IfOk result (λ r. StepSays r.1 old step words block r.0 before after)
steps (Ok (next, taken)) old step words block before after event o took leads by event_is = took_plain old step words block next before after event taken o took by event_is leads
steps (Err e) old step words block before after event o took leads by event_is = tt

-- one that keeps the journal
pub steps_on : {E : Type 0} (result : Result (worlds.World × Taken) E) (old : worlds.World) (step : Step) (words : List (List ℕ)) (block : List ℕ) (before after : List ℕ) (o : Option Stepped)
    → IfOk result (λ r. Took r.1 o r.0 before after) → IfOk result (λ r. KeepsJournal old r.0) → ((plain : BatchBody → BatchResult) (memory : Memory) → stepped plain (view old) step words block memory ≡ o)
    → ((plain : BatchBody → BatchResult) → step_event plain (view old) step words block Found ≡ None) → IfOk result (λ r. StepSays r.1 old step words block r.0 before after)
steps_on (Ok (next, taken)) old step words block before after o took keeps by event_is = took_plain old step words block next before after None taken o took by event_is (stays_leads old next keeps)
steps_on (Err e) old step words block before after o took keeps by event_is = tt
