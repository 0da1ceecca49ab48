-- The loop of a session: what holds between two lines, whatever its later lines hear.
use Rattle.std.proofs.Common.{◌≡◌, ℕ, Bool, true, false, List, [], ◌∷◌, ◌++◌, cond, ◌⊎◌, Option, refl, sym, ap, ap₂, ◌∙◌, subst, append_assoc}
use Rattle.std.proofs.lemmas.List.{append-nil}
use Rattle.base_names.specs.Outside.{Writes, IsAtEnd}
use Rattle.base_names.specs.Prefix.{IsPrefix}
use Rattle.base_names.specs.declared.seat.Seat.{Seat}
use Rattle.base_io.specs.Held.{Held}
use Rattle.base_io.specs.Reader.{Moves}
use Rattle.cluster_defs.specs.declared.entry.Entry.{Entry}
use Rattle.session.specs.Conversing.{Converses}
use Rattle.session.specs.Dialogue.{Told, told_nothing, told_both, Course, Going, Over}
use Rattle.session.specs.Framing.{IsFrame, IsLastFrame, IsPartOfFrame, IsNoFrame, IsEnd, IsCut, IsTooLong}
use Rattle.session.specs.Hearing.{Heard, line_effect, is_last, entries_by, fulls_by}
use Rattle.session.specs.Session.{Session, Call, Effect}
use Rattle.session.specs.Transcript.{Hearing, wants, said_by, session_dialogue, first_session}
use Rattle.session.specs.declared.talking.End.TheVariants as ends
use Rattle.wire_text.specs.Commands.{command_of}
use Rattle.session.proofs.Effects.{line-seat, entries_by-append, fulls_by-append}
use Rattle.session.proofs.Standing.{Stands, Stands-start, Stands-next, Talked-closed, Talked-cut, Talked-too_long, Talked-read_fault, Talked-no_frame, Talked-over, Talked-write_fault, Talked-no_answer}

-- the same, where its later lines hear this
pub record Holds (seat : Seat) (reader : Held) (heard : List Heard) (now : Session) (mine mine' : List Entry) (fulls fulls' : ℕ) (left left' contents contents' : Option (List ℕ)) (held : Held) (later : List Heard) : Type 0 where
  pub told : Told Call
  pub stands : Stands session_dialogue (record { session = first_session seat; heard = heard ++ later }) (record { session = now; heard = later }) reader told left left' contents contents' held
  pub mine_is : mine' ≡ mine ++ entries_by seat told.deeds
  pub fulls_is : fulls' ≡ fulls_by fulls told.deeds

pub record Goes (seat : Seat) (reader : Held) (now : Session) (mine mine' : List Entry) (fulls fulls' : ℕ) (left left' contents contents' : Option (List ℕ)) (held : Held) : Type 0 where
  pub heard : List Heard
  pub holds : (later : List Heard) → Holds seat reader heard now mine mine' fulls fulls' left left' contents contents' held later
  pub seat_is : now.seat ≡ seat

pub Goes-start : (seat : Seat) (now : Session) (reader : Held) (mine : List Entry) (fulls : ℕ) (left contents : Option (List ℕ)) → now ≡ first_session seat → (reader.ended ≡ true → IsAtEnd left) → Goes seat reader now mine mine fulls fulls left left contents contents reader
Goes-start seat now reader mine fulls left contents first at_end =
    subst (λ (s : Session). Goes seat reader s mine mine fulls fulls left left contents contents reader) (sym first) (record {
      heard = [];
      holds = λ later. record {
        told = told_nothing;
        stands = Stands-start session_dialogue (record { session = first_session seat; heard = later }) (record { session = first_session seat; heard = later }) reader left contents at_end;
        mine_is = sym (append-nil mine);
        fulls_is = refl;
      };
      seat_is = refl;
    })

-- how it goes on behind a line that isn't the last
goes_on : (done : Effect) (over : Bool) (later : List Heard) (new : Session) → over ≡ false → new ≡ done.session → (said_by done over later).course ≡ Going (record { session = new; heard = later })
goes_on done over later new is same =
    ap (λ (b : Bool). let going : Course Hearing = Going (record { session = done.session; heard = later }) in cond b Over going) is
    ∙ ap (λ (s : Session). let h : Hearing = record { session = s; heard = later } in Going h) (sym same)

is_over_by : (done : Effect) (over : Bool) (later : List Heard) → over ≡ true → (said_by done over later).course ≡ Over
is_over_by done over later is = ap (λ (b : Bool). let going : Course Hearing = Going (record { session = done.session; heard = later }) in cond b Over going) is

-- One call for a frame was made, behind which this is so.
module _ (seat : Seat) (now : Session) (reader old new : Held) (mine middle_mine : List Entry) (fulls middle_fulls : ℕ) (left between left' contents middle : Option (List ℕ)) (more : List ℕ) (goes : Goes seat reader now mine middle_mine fulls middle_fulls left between contents middle old) (moves : Moves (IsPartOfFrame wants) old new between left' more) where
  pub closed : IsEnd wants old more new → Converses ends.Closed seat reader mine middle_mine fulls middle_fulls left left' contents middle
  closed end = record {
    heard = goes.heard ++ [];
    told = (goes.holds []).told;
    talked = Talked-closed session_dialogue _ _ reader old new (goes.holds []).told left between left' contents middle more (goes.holds []).stands moves end;
    mine_is = (goes.holds []).mine_is;
    fulls_is = (goes.holds []).fulls_is;
  }

  pub cut_short : IsCut wants old more new → Converses ends.Closed seat reader mine middle_mine fulls middle_fulls left left' contents middle
  cut_short cut = record {
    heard = goes.heard ++ [];
    told = (goes.holds []).told;
    talked = Talked-cut session_dialogue _ _ reader old new (goes.holds []).told left between left' contents middle more (goes.holds []).stands moves cut refl;
    mine_is = (goes.holds []).mine_is;
    fulls_is = (goes.holds []).fulls_is;
  }

  pub too_long : IsTooLong wants old more new → Converses ends.TooLong seat reader mine middle_mine fulls middle_fulls left left' contents middle
  too_long long = record {
    heard = goes.heard ++ [];
    told = (goes.holds []).told;
    talked = Talked-too_long session_dialogue _ _ reader old new (goes.holds []).told left between left' contents middle more (goes.holds []).stands moves long;
    mine_is = (goes.holds []).mine_is;
    fulls_is = (goes.holds []).fulls_is;
  }

  pub read_fault : new.ended ≡ false → IsNoFrame wants old more new → Converses ends.ReadFault seat reader mine middle_mine fulls middle_fulls left left' contents middle
  read_fault going none = record {
    heard = goes.heard ++ [];
    told = (goes.holds []).told;
    talked = Talked-read_fault session_dialogue _ _ reader old new (goes.holds []).told left between left' contents middle more (goes.holds []).stands moves going none;
    mine_is = (goes.holds []).mine_is;
    fulls_is = (goes.holds []).fulls_is;
  }

  pub no_frame : Converses ends.NoMemory seat reader mine middle_mine fulls middle_fulls left left' contents middle
  no_frame = record {
    heard = goes.heard ++ [];
    told = (goes.holds []).told;
    talked = Talked-no_frame session_dialogue _ _ reader old new (goes.holds []).told left between left' contents middle more (goes.holds []).stands moves;
    mine_is = (goes.holds []).mine_is;
    fulls_is = (goes.holds []).fulls_is;
  }

  -- a line was read, and answered so
  module _ (line block : List ℕ) (frame : IsFrame wants line block old more ⊎ IsLastFrame wants line block old more new) (heard : Heard) (mine' : List Entry) (fulls' : ℕ) (mine_is : mine' ≡ middle_mine ++ entries_by now.seat (line_effect now (command_of line) block heard).calls) (fulls_is : fulls' ≡ fulls_by middle_fulls (line_effect now (command_of line) block heard).calls) where
    mine_by : (deeds : List Call) → middle_mine ≡ mine ++ entries_by seat deeds → mine' ≡ mine ++ entries_by seat (deeds ++ (line_effect now (command_of line) block heard).calls)
    mine_by deeds before =
        let calls = (line_effect now (command_of line) block heard).calls in
        mine_is
        ∙ (ap₂ (λ (xs : List Entry) (s : Seat). xs ++ entries_by s calls) before goes.seat_is
        ∙ (append_assoc mine (entries_by seat deeds) (entries_by seat calls)
        ∙ ap (λ (l : List Entry). mine ++ l) (sym (entries_by-append seat deeds calls))))

    fulls_by_it : (deeds : List Call) → middle_fulls ≡ fulls_by fulls deeds → fulls' ≡ fulls_by fulls (deeds ++ (line_effect now (command_of line) block heard).calls)
    fulls_by_it deeds before =
        let calls = (line_effect now (command_of line) block heard).calls in
        fulls_is ∙ (ap (λ (n : ℕ). fulls_by n calls) before ∙ sym (fulls_by-append fulls deeds calls))

    -- with what all its lines hear as it is said before
    abbrev record_with : (all : List Heard) (next : Session) (contents' : Option (List ℕ)) (later : List Heard) → Type 0
    record_with all next contents' later =
        (told : Told Call) × Stands session_dialogue (record { session = first_session seat; heard = all }) (record { session = next; heard = later }) reader told left left' contents contents' new
        × (mine' ≡ mine ++ entries_by seat told.deeds) × (fulls' ≡ fulls_by fulls told.deeds)

    holds_next : (next : Session) (contents' : Option (List ℕ)) → Writes middle contents' (line_effect now (command_of line) block heard).text → next ≡ (line_effect now (command_of line) block heard).session → is_last (command_of line) heard ≡ false
        → (later : List Heard) → Holds seat reader (goes.heard ++ heard ∷ []) next mine mine' fulls fulls' left left' contents contents' new later
    holds_next next contents' wrote same last later =
        let before = goes.holds (heard ∷ later) in
        let done = line_effect now (command_of line) block heard in
        let told = told_both before.told (record { text = done.text; deeds = done.calls }) in
        let parts : record_with ((goes.heard ++ heard ∷ []) ++ later) next contents' later =
        subst (λ (all : List Heard). record_with all next contents' later) (sym (append_assoc goes.heard (heard ∷ []) later)) (
          told,
          Stands-next session_dialogue _ _ reader old new before.told left between left' contents middle more before.stands moves line block _ refl frame (record { session = next; heard = later }) contents' wrote (goes_on done (is_last (command_of line) heard) later next last same),
          mine_by before.told.deeds before.mine_is,
          fulls_by_it before.told.deeds before.fulls_is,
        ) in
        record { told = parts.0; stands = parts.1; mine_is = parts.2; fulls_is = parts.3 }

    pub goes_next : (next : Session) (contents' : Option (List ℕ)) → Writes middle contents' (line_effect now (command_of line) block heard).text → next ≡ (line_effect now (command_of line) block heard).session → is_last (command_of line) heard ≡ false → Goes seat reader next mine mine' fulls fulls' left left' contents contents' new
    goes_next next contents' wrote same last = record {
      heard = goes.heard ++ heard ∷ [];
      holds = λ later. holds_next next contents' wrote same last later;
      seat_is = ap (λ (s : Session). s.seat) same ∙ (line-seat now (command_of line) block heard ∙ goes.seat_is);
    }

    pub over : (contents' : Option (List ℕ)) → Writes middle contents' (line_effect now (command_of line) block heard).text → is_last (command_of line) heard ≡ true → Converses ends.Bye seat reader mine mine' fulls fulls' left left' contents contents'
    over contents' wrote last =
        let before = goes.holds (heard ∷ []) in
        record {
          heard = goes.heard ++ heard ∷ [];
          told = told_both before.told (record { text = (line_effect now (command_of line) block heard).text; deeds = (line_effect now (command_of line) block heard).calls });
          talked = Talked-over session_dialogue _ _ reader old new before.told left between left' contents middle more before.stands moves line block _ refl frame contents' wrote (is_over_by (line_effect now (command_of line) block heard) (is_last (command_of line) heard) [] last);
          mine_is = mine_by before.told.deeds before.mine_is;
          fulls_is = fulls_by_it before.told.deeds before.fulls_is;
        }

    pub write_fault : (contents' : Option (List ℕ)) (front : List ℕ) → IsPrefix front (line_effect now (command_of line) block heard).text → Writes middle contents' front → Converses ends.WriteFault seat reader mine mine' fulls fulls' left left' contents contents'
    write_fault contents' front prefix wrote =
        let before = goes.holds (heard ∷ []) in
        record {
          heard = goes.heard ++ heard ∷ [];
          told = told_both before.told (record { text = front; deeds = (line_effect now (command_of line) block heard).calls });
          talked = Talked-write_fault session_dialogue _ _ reader old new before.told left between left' contents middle more before.stands moves line block _ refl frame contents' front prefix wrote;
          mine_is = mine_by before.told.deeds before.mine_is;
          fulls_is = fulls_by_it before.told.deeds before.fulls_is;
        }

    pub no_answer : (contents' : Option (List ℕ)) → contents' ≡ middle → Converses ends.NoMemory seat reader mine mine' fulls fulls' left left' contents contents'
    no_answer contents' same =
        let before = goes.holds (heard ∷ []) in
        record {
          heard = goes.heard ++ heard ∷ [];
          told = told_both before.told (record { text = []; deeds = (line_effect now (command_of line) block heard).calls });
          talked = Talked-no_answer session_dialogue _ _ reader old new before.told left between left' contents middle more before.stands moves line block _ refl frame contents' same;
          mine_is = mine_by before.told.deeds before.mine_is;
          fulls_is = fulls_by_it before.told.deeds before.fulls_is;
        }
