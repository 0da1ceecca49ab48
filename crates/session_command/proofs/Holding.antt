-- What holding a session found and did.
use Rattle.std.proofs.Common.{◌≡◌, ◌≤◌, ℕ, false, IfSome, List, [], ◌++◌, Option, None, refl, sym, ap, subst, ◌∙◌}
use Rattle.base_io.specs.Held.{Held}
use Rattle.base_names.specs.declared.seat.Role.{Role}
use Rattle.cluster_defs.specs.Journal.{Journal}
use Rattle.cluster_defs.specs.Site as site
use Rattle.cluster_defs.specs.declared.entry.Entry.{Entry}
use Rattle.desk.specs.Desks as desk
use Rattle.desk.specs.Desks.{entries_in, object_of, setup_in}
use Rattle.disk_model.specs.Calls.{DiskCall}
use Rattle.hub_core.specs.Keeping.{Recovers, read_all}
use Rattle.hub_core.specs.Mounting.{Mounted}
use Rattle.hub_core.specs.Noting.{AreStored, Noted, faults_behind}
use Rattle.hub_core.specs.Sites.{site_of}
use Rattle.hub_core.specs.Standing.{IsSound, IsStanding}
use Rattle.hub_core.specs.State.{State, start_of, state_of}
use Rattle.hub_core.specs.declared.hub.Hub.{Hub}
use Rattle.hub_core.specs.declared.setup.Setup.{Setup}
use Rattle.hub_words.specs.Object.{Object}
use Rattle.journal.specs.Mounting.{HasHeader}
use Rattle.model_data.specs.declared.batch.BatchBody.{BatchBody}
use Rattle.model_data.specs.declared.batch.BatchResult.{BatchResult}
use Rattle.session.specs.Conversing.{Converses}
use Rattle.session.specs.Hearing.{entries_by}
use Rattle.session.specs.Transcript.{first_session, session_dialogue}
use Rattle.session.specs.declared.talking.End.{End}
use Rattle.session.proofs.Firsts.{says_at_first}
use Rattle.session_command.specs.Held.{SessionSays}
use Rattle.session_command.specs.OnDisk.{AreFromFile, Disked, first_store, seat_of, session_setup, session_site}

pub session_says : (end : End) (owner : List ℕ) (role : Role) (disk : Disked) (mine mine' : List Entry) (fulls' : ℕ) (left left' contents contents' : Option (List ℕ)) → mine ≡ []
    → Converses end (seat_of owner role) (record { bytes = []; ended = false; given = 0; waiting = None }) mine mine' 0 fulls' left left' contents contents' → AreFromFile disk mine'
    → SessionSays end owner role disk left left' contents contents'
session_says end owner role disk mine mine' fulls' left left' contents contents' none c from =
    record {
      heard = c.heard;
      told = c.told;
      says = says_at_first session_dialogue (record { session = first_session (seat_of owner role); heard = c.heard }) end c.told left left' contents contents' c.talked;
      from_file = subst (AreFromFile disk) (c.mine_is ∙ ap (λ (entries : List Entry). entries ++ entries_by (seat_of owner role) c.told.deeds) none) from;
    }

-- ---- a hub from its opening to its end

-- any results, where none is looked at
no_results : BatchBody → BatchResult
no_results body = record { outcome = record { status = 0; pivots = 0; nodes = 0; work = 0; point = None; wide = None }; cert = None }

-- a site by its set-up as definitions of the cluster have it
abbrev site_by : (plain : BatchBody → BatchResult) → site.Setup → site.Site
site_by plain setup = record (session_site plain) { setup = setup }

moved : (begun begun' : ℕ) (start start' : Journal) (history : List Noted) (plain : BatchBody → BatchResult) (setup : Setup) → setup_in setup ≡ setup_in session_setup → start ≡ start' → begun ≡ begun'
    → AreStored (site_of plain setup) begun (first_store (site_of plain setup) start) history → AreStored (session_site plain) begun' (first_store (session_site plain) start') history
moved begun begun' start start' history plain setup is starts begins legal =
    let sited : AreStored (site_by plain (setup_in session_setup)) begun (first_store (site_by plain (setup_in session_setup)) start) history = subst (λ (s : site.Setup). AreStored (site_by plain s) begun (first_store (site_by plain s) start) history) is legal in
    let started : AreStored (session_site plain) begun (first_store (session_site plain) start') history = subst (λ (j : Journal). AreStored (session_site plain) begun (first_store (session_site plain) j) history) starts sited in
    subst (λ (n : ℕ). AreStored (session_site plain) n (first_store (session_site plain) start') history) begins started

pub from_file : {D : Type 0} {name : D → ℕ} {seen : D → Option (List ℕ)} {moment : D → ℕ} {left : D → ℕ → List ℕ → Type 0} {calls : D → Option (List DiskCall)} {makes : D → DiskCall → D → Type 0} {faults : D → ℕ} (disk : D) (h : Hub D) (new : State D) (after : ℕ)
    → Mounted name seen moment left calls makes faults disk session_setup h → IsSound after new → object_of name new ≡ object_of name (state_of h)
    → AreFromFile (record { seen = seen disk; before = faults disk; after = after }) (entries_in new.history)
from_file {D} {name} {seen} {moment} {left} {calls} {makes} {faults} disk h new after mounted sound same =
    let setup : setup_in new.setup ≡ setup_in session_setup = ap (λ (o : Object). o.setup) same ∙ ap setup_in mounted.setup_is in
    let start : start_of new ≡ start_of (state_of h) = ap (λ (o : Object). o.start) same in
    let begun : new.begun ≡ faults disk = ap (λ (o : Object). o.faults) same ∙ mounted.begun in
    record {
      found = start_of (state_of h);
      file = subst (λ (bodies : List (List ℕ)). IfSome (seen disk) (λ file. HasHeader file × Recovers (read_all bodies) file)) (sym mounted.start) mounted.file;
      history = new.history;
      entries_are = refl;
      legal = λ plain. moved new.begun (faults disk) (start_of new) (start_of (state_of h)) new.history plain new.setup setup start begun (sound.history plain).legal;
      counted = subst (λ (n : ℕ). faults_behind n new.history ≤ after) begun (sound.history no_results).counted;
    }

abbrev fresh_reader : Held
fresh_reader = record { bytes = []; ended = false; given = 0; waiting = None }

-- a session over a hub that was opened, which its desk had before it
pub held_over : {D : Type 0} {name : D → ℕ} {seen : D → Option (List ℕ)} {moment : D → ℕ} {images : D → ℕ → List ℕ → Type 0} {calls : D → Option (List DiskCall)} {makes : D → DiskCall → D → Type 0} {faults : D → ℕ}
    (h last : Hub D) (before now : desk.Held D) (disk' : D) (end : End) (owner : List ℕ) (role : Role) (left left' contents contents' : Option (List ℕ))
    → before ≡ record { hub = state_of h; fulls = 0 } → object_of name now.hub ≡ object_of name before.hub
    → Converses end (seat_of owner role) fresh_reader (entries_in before.hub.history) (entries_in now.hub.history) before.fulls now.fulls left left' contents contents'
    → state_of last ≡ now.hub → IsStanding moment images faults last → disk' ≡ last.journal.disk
    → (disk : D) → Mounted name seen moment images calls makes faults disk session_setup h → SessionSays end owner role (record { seen = seen disk; before = faults disk; after = faults disk' }) left left' contents contents'
held_over {D} {name} {seen} {moment} {images} {calls} {makes} {faults} h last before now disk' end owner role left left' contents contents' is same c last_is stands disk_is disk mounted =
    let sound : IsSound (faults disk') now.hub = subst (λ (s : State D). IsSound (faults disk') s) last_is (subst (λ (d : D). IsSound (faults d) (state_of last)) (sym disk_is) stands.sound) in
    let object : object_of name now.hub ≡ object_of name (state_of h) = same ∙ ap (λ (x : desk.Held D). object_of name x.hub) is in
    let converses : Converses end (seat_of owner role) fresh_reader (entries_in (state_of h).history) (entries_in now.hub.history) 0 now.fulls left left' contents contents' =
    subst (λ (x : desk.Held D). Converses end (seat_of owner role) fresh_reader (entries_in x.hub.history) (entries_in now.hub.history) x.fulls now.fulls left left' contents contents') is c in
    session_says end owner role (record { seen = seen disk; before = faults disk; after = faults disk' }) (entries_in (state_of h).history) (entries_in now.hub.history) now.fulls left left' contents contents'
    (ap entries_in mounted.fresh.0) converses (from_file disk h now.hub (faults disk') mounted sound object)
