-- The loop of a script: what holds between two lines, whatever batches come to, and whatever its later steps find of memory.
use Rattle.std.proofs.Common.{◌≡◌, ℕ, ◌≤◌, false, List, [], ◌∷◌, ◌++◌, ◌⊎◌, Option, None, Some, refl, sym, ap, subst, ◌∙◌, arith, append_assoc}
use Rattle.std.specs.Prelude.{option_to_list}
use Rattle.std.proofs.lemmas.Bool.{false≢true}
use Rattle.base_names.specs.Outside.{Writes}
use Rattle.base_names.proofs.Outside.{Writes-none}
use Rattle.base_io.specs.Held.{Held}
use Rattle.base_io.specs.Reader.{Moves}
use Rattle.cluster_defs.specs.Journal.{Event, Journal, Reaches, none_yet, start}
use Rattle.hub_core.specs.Answering.{FollowsBy}
use Rattle.model_data.specs.declared.batch.BatchBody.{BatchBody}
use Rattle.model_data.specs.declared.batch.BatchResult.{BatchResult}
use Rattle.script_text.specs.Steps.{block_wanted}
use Rattle.session.specs.Beginning.{at_first}
use Rattle.session.specs.Dialogue.{Told, Going, Said, told_both, told_nothing}
use Rattle.session.specs.Framing.{IsFrame, IsLastFrame, IsPartOfFrame, IsNoFrame, IsEnd, IsCut, IsTooLong}
use Rattle.session.specs.Talk.{Says}
use Rattle.session.specs.Writing.{MayFollow}
use Rattle.session.specs.declared.talking.End.TheVariants as ends
use Rattle.session.proofs.Firsts.{says_at_first}
use Rattle.session.proofs.FrameBytes.{takes_byte}
use Rattle.session.proofs.Standing.{Stands, Stands-start, Stands-next, Talked-closed, Talked-cut_over, Talked-too_long, Talked-read_fault, Talked-no_frame, Talked-over, Talked-write_fault}
use Rattle.replay_world.specs.Steps.{Memory}
use Rattle.replay_command.proofs.Believing.{LeadTo, lead_believed, lead_line, lead_more, lead_none, lead_refused, reaches_more, step_believed}
use Rattle.replay_command.specs.Answering.{GoesOn, HasJournalAt, IsWholeAt, standing_of, table_at}
use Rattle.replay_command.specs.Believed.{AreBelieved}
use Rattle.replay_command.specs.Replayed.{Refuses, Replayed, end_of}
use Rattle.replay_command.specs.Script as script
use Rattle.replay_command.specs.Script.{Deed, RefusedAt, Script, Went, answer_to, line_of, lines_behind, next_line, refused, script_dialogue, script_writing}
use Rattle.replay_command.specs.declared.command.ReplayEnd.{ReplayEnd}
use Rattle.replay_command.specs.declared.command.ReplayEnd.TheVariants.{Done, Refused, ReadFault, WriteFault, NoMemory, TooLong}
use Rattle.replay_command.specs.declared.standing.Standing.{Standing}
use Rattle.replay_command.specs.declared.standing.Standing.TheVariants.{Fresh}

abbrev fresh_reader : Held
fresh_reader = record { bytes = []; ended = false; given = 0; waiting = None }

abbrev script_at : script.Standing → List Memory → Script
script_at standing memory = record { standing = standing; memory = memory }

pub record Goes (standing : Standing) (left left' contents contents' : Option (List ℕ)) (held : Held) : Type 0 where
  pub memory : List Memory
  pub told : Told Deed
  pub holds : (plain : BatchBody → BatchResult) (later : List Memory)
      → Stands (script_dialogue plain) (script_at script.Fresh (memory ++ later)) (script_at (standing_of standing) later) fresh_reader told left left' contents contents' held
  pub whole : IsWholeAt standing
  pub none_waits : held.waiting ≡ None
  -- each line took a byte
  pub few : lines_behind (standing_of standing) ≤ held.given
  -- what was done leads to the journal that is there
  pub events : List Event
  pub journal : Journal
  pub reaches : Reaches events journal
  pub has : HasJournalAt journal standing
  pub lead : LeadTo [] none_yet told.deeds events journal

pub Goes-start : (left contents : Option (List ℕ)) → Goes Fresh left left contents contents fresh_reader
Goes-start left contents = record {
  memory = [];
  told = told_nothing;
  holds = λ plain later. Stands-start (script_dialogue plain) (script_at script.Fresh later) (script_at script.Fresh later) fresh_reader left contents (λ ended. absurd (false≢true ended));
  whole = tt;
  none_waits = refl;
  few = omega arith;
  events = [];
  journal = none_yet;
  reaches = start;
  has = refl;
  lead = (refl, refl);
}

-- what was told is all that there is to tell
told_wholly : (plain : BatchBody → BatchResult) (end : ReplayEnd) (memory : List Memory) (told : Told Deed) (left left' contents contents' : Option (List ℕ))
    → (says : Says (end_of end) (script_writing plain at_first memory) told left left' contents contents')
    → ((rest : List ℕ) → MayFollow left' rest → told ≡ (script_writing plain at_first memory).whole (says.taken ++ rest)) → Refuses end (line_of told.deeds) → AreBelieved [] none_yet told.deeds → Replayed plain end left left' contents contents'
told_wholly plain end memory told left left' contents contents' says whole known believed = record {
  memory = memory;
  told = told;
  says = says;
  refuses = λ rest may. subst (λ (t : Told Deed). Refuses end (line_of t.deeds)) (whole rest may) known;
  believed = believed;
}

-- One call for a frame was made, behind which this is so.
module _ (standing : Standing) (left between left' contents middle : Option (List ℕ)) (old new : Held) (more : List ℕ) (goes : Goes standing left between contents middle old) (moves : Moves (IsPartOfFrame block_wanted) old new between left' more) where
  none_refused : line_of goes.told.deeds ≡ None
  none_refused = lead_none goes.told.deeds [] goes.events none_yet goes.journal goes.lead

  all_believed : AreBelieved [] none_yet goes.told.deeds
  all_believed = lead_believed goes.told.deeds [] goes.events none_yet goes.journal goes.lead

  line_refused : (line : ℕ) → line_of (goes.told.deeds ++ RefusedAt line ∷ []) ≡ Some line
  line_refused line = lead_line goes.told.deeds [] goes.events none_yet goes.journal line goes.lead

  refused_believed : (line : ℕ) → AreBelieved [] none_yet (goes.told.deeds ++ RefusedAt line ∷ [])
  refused_believed line = lead_refused goes.told.deeds [] goes.events none_yet goes.journal line goes.lead

  pub done : IsEnd block_wanted old more new → (plain : BatchBody → BatchResult) → Replayed plain Done left left' contents middle
  done end plain =
      let says = says_at_first (script_dialogue plain) (script_at script.Fresh (goes.memory ++ [])) ends.Closed goes.told left left' contents middle
      (Talked-closed (script_dialogue plain) _ _ fresh_reader old new goes.told left between left' contents middle more (goes.holds plain []) moves end) in
      told_wholly plain Done (goes.memory ++ []) goes.told left left' contents middle says (λ rest may. (says.says.1 rest may).whole) none_refused all_believed

  pub cut_short : IsCut block_wanted old more new → (plain : BatchBody → BatchResult) → Replayed plain (Refused (next_line (standing_of standing))) left left' contents middle
  cut_short cut plain =
      let answer = refused (next_line (standing_of standing)) in
      let says = says_at_first (script_dialogue plain) (script_at script.Fresh (goes.memory ++ [])) ends.Bye (told_both goes.told answer.told) left left' contents middle
      (Talked-cut_over (script_dialogue plain) _ _ fresh_reader old new goes.told left between left' contents middle more (goes.holds plain []) moves cut answer refl refl middle (Writes-none middle)) in
      told_wholly plain (Refused (next_line (standing_of standing))) (goes.memory ++ []) (told_both goes.told answer.told) left left' contents middle says (λ rest may. (says.says rest may).whole)
      (line_refused (next_line (standing_of standing))) (refused_believed (next_line (standing_of standing)))

  pub too_long : IsTooLong block_wanted old more new → (plain : BatchBody → BatchResult) → Replayed plain TooLong left left' contents middle
  too_long long plain =
      let says = says_at_first (script_dialogue plain) (script_at script.Fresh (goes.memory ++ [])) ends.TooLong goes.told left left' contents middle
      (Talked-too_long (script_dialogue plain) _ _ fresh_reader old new goes.told left between left' contents middle more (goes.holds plain []) moves long) in
      told_wholly plain TooLong (goes.memory ++ []) goes.told left left' contents middle says (λ rest may. (says.says rest may).whole) none_refused all_believed

  pub read_fault : new.ended ≡ false → IsNoFrame block_wanted old more new → (plain : BatchBody → BatchResult) → Replayed plain ReadFault left left' contents middle
  read_fault going none plain = record {
    memory = goes.memory ++ [];
    told = goes.told;
    says = says_at_first (script_dialogue plain) (script_at script.Fresh (goes.memory ++ [])) ends.ReadFault goes.told left left' contents middle
        (Talked-read_fault (script_dialogue plain) _ _ fresh_reader old new goes.told left between left' contents middle more (goes.holds plain []) moves going none);
    refuses = λ rest may. tt;
    believed = all_believed;
  }

  -- no memory for a line, or for what it asks
  pub no_memory : (plain : BatchBody → BatchResult) → Replayed plain NoMemory left left' contents middle
  no_memory plain = record {
    memory = goes.memory ++ [];
    told = goes.told;
    says = says_at_first (script_dialogue plain) (script_at script.Fresh (goes.memory ++ [])) ends.NoMemory goes.told left left' contents middle
        (Talked-no_frame (script_dialogue plain) _ _ fresh_reader old new goes.told left between left' contents middle more (goes.holds plain []) moves);
    refuses = λ rest may. tt;
    believed = all_believed;
  }

  -- a line was read
  module _ (line block : List ℕ) (frame : IsFrame block_wanted line block old more ⊎ IsLastFrame block_wanted line block old more new) where
    pub refused_at : (number : ℕ) → ((plain : BatchBody → BatchResult) (memory : List Memory) → answer_to plain (standing_of standing) line block memory ≡ refused number)
        → (plain : BatchBody → BatchResult) → Replayed plain (Refused number) left left' contents middle
    refused_at number is plain =
        let answer = refused number in
        let says = says_at_first (script_dialogue plain) (script_at script.Fresh (goes.memory ++ [])) ends.Bye (told_both goes.told answer.told) left left' contents middle
        (Talked-over (script_dialogue plain) _ _ fresh_reader old new goes.told left between left' contents middle more (goes.holds plain []) moves line block answer (is plain []) frame middle (Writes-none middle) refl) in
        told_wholly plain (Refused number) (goes.memory ++ []) (told_both goes.told answer.told) left left' contents middle says (λ rest may. (says.says rest may).whole) (line_refused number) (refused_believed number)

    -- it was done, and said this
    module _ (next : Standing) (out out' : List ℕ) (on : GoesOn (next_line (standing_of standing)) next (λ plain memory. answer_to plain (standing_of standing) line block memory) (λ j. HasJournalAt j standing) out out') where
      -- with a front of its text
      abbrev step_told : (text : List ℕ) → Told Deed
      step_told text = record { text = text; deeds = Went on.event (table_at next) ∷ [] }

      abbrev answered : List Memory → Said Script Deed
      answered later = record { told = step_told on.text; course = Going (script_at (standing_of next) later) }

      now : (after : Journal) × FollowsBy on.event goes.journal after × HasJournalAt after next
      now = on.leads goes.journal goes.has

      lead_now : LeadTo [] none_yet (goes.told.deeds ++ Went on.event (table_at next) ∷ []) (option_to_list on.event ++ goes.events) now.0
      lead_now = lead_more goes.told.deeds [] goes.events none_yet goes.journal now.0 on.event (table_at next) goes.lead (step_believed on.event goes.events goes.journal now.0 next goes.reaches now.1 now.2)

      -- what stands in the buffer, where that was empty
      pub said_is : (bytes : List ℕ) → bytes ≡ out' → out ≡ [] → bytes ≡ on.text
      said_is bytes held none = held ∙ (on.wrote ∙ ap (λ (l : List ℕ). l ++ on.text) none)

      pub write_fault : (contents' : Option (List ℕ)) (bytes front rest : List ℕ) → bytes ≡ on.text → bytes ≡ front ++ rest → Writes middle contents' front → (plain : BatchBody → BatchResult) → Replayed plain WriteFault left left' contents contents'
      write_fault contents' bytes front rest said parts wrote plain = record {
        memory = goes.memory ++ on.memory ∷ [];
        told = told_both goes.told (step_told front);
        says = says_at_first (script_dialogue plain) (script_at script.Fresh (goes.memory ++ on.memory ∷ [])) ends.WriteFault (told_both goes.told (step_told front)) left left' contents contents'
            (Talked-write_fault (script_dialogue plain) _ _ fresh_reader old new goes.told left between left' contents middle more (goes.holds plain (on.memory ∷ [])) moves line block (answered []) (on.is plain []) frame contents' front (rest, sym parts ∙ said) wrote);
        refuses = λ rest may. tt;
        believed = lead_believed (goes.told.deeds ++ Went on.event (table_at next) ∷ []) [] (option_to_list on.event ++ goes.events) none_yet now.0 lead_now;
      }

      pub goes_next : (contents' : Option (List ℕ)) (bytes : List ℕ) → bytes ≡ on.text → Writes middle contents' bytes → Goes next left left' contents contents' new
      goes_next contents' bytes said wrote = record {
        memory = goes.memory ++ on.memory ∷ [];
        told = told_both goes.told (step_told on.text);
        holds = λ plain later.
            let stands = Stands-next (script_dialogue plain) _ _ fresh_reader old new goes.told left between left' contents middle more (goes.holds plain (on.memory ∷ later)) moves line block (answered later) (on.is plain later) frame
            (script_at (standing_of next) later) contents' (subst (λ (l : List ℕ). Writes middle contents' l) said wrote) refl in
            subst (λ (all : List Memory). Stands (script_dialogue plain) (script_at script.Fresh all) (script_at (standing_of next) later) fresh_reader (told_both goes.told (step_told on.text)) left left' contents contents' new)
            (sym (append_assoc goes.memory (on.memory ∷ []) later)) stands;
        whole = on.whole;
        none_waits = moves.passes.waiting;
        few = omega (arith, on.behind, goes.few, takes_byte block_wanted line block old new between left' more goes.none_waits moves.passes frame);
        events = option_to_list on.event ++ goes.events;
        journal = now.0;
        reaches = reaches_more on.event goes.events goes.journal now.0 goes.reaches now.1;
        has = now.2;
        lead = lead_now;
      }
