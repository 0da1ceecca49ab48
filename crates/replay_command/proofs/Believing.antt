-- What the deeds of a script lead to, step by step.
use Rattle.std.proofs.Common.{◌≡◌, ℕ, List, [], ◌∷◌, ◌++◌, Option, None, Some, refl, sym, ap, subst, ◌∙◌}
use Rattle.std.specs.Prelude.{IfSome, option_map, option_to_list}
use Rattle.cluster_defs.specs.Journal.{AreThere, Event, Journal, Reaches, further, none_yet, table_behind}
use Rattle.cluster_laws.proofs.Beliefs.{own_there, reached_believed}
use Rattle.hub_core.specs.Answering.{FollowsBy}
use Rattle.table_defs.proofs.Owned.{part_of_all}
use Rattle.table_defs.specs.Names.{Owner}
use Rattle.table_defs.specs.Owned.{records_of, table_of}
use Rattle.table_defs.specs.Table.{Table, after, no_rows}
use Rattle.replay_world.specs.Hubs.{Hub}
use Rattle.replay_world.specs.Views.{HasJournal, hub_on}
use Rattle.replay_world.specs.declared.machine.Machine.{Machine}
use Rattle.replay_world.specs.declared.machine.Machine.TheVariants.{Running, Lying}
use Rattle.replay_command.specs.Answering.{HasJournalAt, table_at}
use Rattle.replay_command.specs.Believed.{AreBelieved, IsBelieved}
use Rattle.replay_command.specs.Script.{Deed, RefusedAt, Went, line_of}
use Rattle.replay_command.specs.declared.standing.Standing.{Standing}
use Rattle.replay_command.specs.declared.standing.Standing.TheVariants.{Fresh, Behind}

-- ---- one step

-- the table that a machine has open
machine_table : (m : Machine) (j : Journal) → HasJournal j m → IfSome (option_map (λ (hub : Hub). hub.store.table) (hub_on m)) (λ t. t ≡ table_behind j)
machine_table (Running desk) j has = has.1
machine_table (Lying disk) j has = tt

standing_table : (standing : Standing) (j : Journal) → HasJournalAt j standing → IfSome (table_at standing) (λ t. t ≡ table_behind j)
standing_table Fresh j has = tt
standing_table (Behind lines world) j has = machine_table world.machine j has

-- an owner's part of it
owners_table : (u : Owner) (table : Option Table) (j : Journal) → IfSome table (λ t. t ≡ table_behind j) → IfSome table (λ t. table_of u t ≡ after (records_of u j.records) no_rows)
owners_table u None j is = tt
owners_table u (Some t) j is = ap (table_of u) is ∙ part_of_all u j.records no_rows

-- Events lead on to a journal.
pub reaches_more : (event : Option Event) (events : List Event) (j next : Journal) → Reaches events j → FollowsBy event j next → Reaches (option_to_list event ++ events) next
reaches_more None events j next reaches same = subst (Reaches events) (sym same) reaches
reaches_more (Some event) events j next reaches follows = further event next reaches follows

pub step_believed : (event : Option Event) (events : List Event) (j next : Journal) (standing : Standing) → Reaches events j → FollowsBy event j next → HasJournalAt next standing → IsBelieved events j event (table_at standing) next
step_believed event events j next standing reaches follows has =
    let there = (reached_believed (reaches_more event events j next reaches follows)).there in
    let table = standing_table standing next has in
    record {
      follows = follows;
      there = there;
      own = λ u. own_there u (option_to_list event ++ events) next.records there;
      table_is = table;
      own_table = λ u. owners_table u (table_at standing) next table;
    }

-- ---- deeds, one after the other

-- Each is a step, and they lead from these events and this journal to those.
abbrev pub LeadTo : List Event → Journal → List Deed → (events' : List Event) → (j' : Journal) → Type 0
LeadTo events j [] events' j' = (events' ≡ events) × (j' ≡ j)
LeadTo events j (RefusedAt line ∷ deeds) events' j' = ⊥
LeadTo events j (Went event table ∷ deeds) events' j' = (next : Journal) × IsBelieved events j event table next × LeadTo (option_to_list event ++ events) next deeds events' j'

pub lead_more : (deeds : List Deed) (events events' : List Event) (j j' next : Journal) (event : Option Event) (table : Option Table) → LeadTo events j deeds events' j' → IsBelieved events' j' event table next
    → LeadTo events j (deeds ++ Went event table ∷ []) (option_to_list event ++ events') next
lead_more [] events events' j j' next event table (same, same_journal) is = (
  next,
  subst (λ (k : Journal). IsBelieved events k event table next) same_journal (subst (λ (es : List Event). IsBelieved es j' event table next) same is),
  (ap (λ (es : List Event). option_to_list event ++ es) same, refl),
)
lead_more (RefusedAt line ∷ deeds) events events' j j' next event table lead is = absurd lead
lead_more (Went first found ∷ deeds) events events' j j' next event table (mid, here, lead) is = (mid, here, lead_more deeds (option_to_list first ++ events) events' mid j' next event table lead is)

pub lead_believed : (deeds : List Deed) (events events' : List Event) (j j' : Journal) → LeadTo events j deeds events' j' → AreBelieved events j deeds
lead_believed [] events events' j j' lead = tt
lead_believed (RefusedAt line ∷ deeds) events events' j j' lead = absurd lead
lead_believed (Went event table ∷ deeds) events events' j j' (mid, here, lead) = (mid, here, lead_believed deeds (option_to_list event ++ events) events' mid j' lead)

-- with a line behind that is refused
pub lead_refused : (deeds : List Deed) (events events' : List Event) (j j' : Journal) (line : ℕ) → LeadTo events j deeds events' j' → AreBelieved events j (deeds ++ RefusedAt line ∷ [])
lead_refused [] events events' j j' line lead = tt
lead_refused (RefusedAt other ∷ deeds) events events' j j' line lead = absurd lead
lead_refused (Went event table ∷ deeds) events events' j j' line (mid, here, lead) = (mid, here, lead_refused deeds (option_to_list event ++ events) events' mid j' line lead)

pub lead_line : (deeds : List Deed) (events events' : List Event) (j j' : Journal) (line : ℕ) → LeadTo events j deeds events' j' → line_of (deeds ++ RefusedAt line ∷ []) ≡ Some line
lead_line [] events events' j j' line lead = refl
lead_line (RefusedAt other ∷ deeds) events events' j j' line lead = absurd lead
lead_line (Went event table ∷ deeds) events events' j j' line (mid, here, lead) = lead_line deeds (option_to_list event ++ events) events' mid j' line lead

pub lead_none : (deeds : List Deed) (events events' : List Event) (j j' : Journal) → LeadTo events j deeds events' j' → line_of deeds ≡ None
lead_none [] events events' j j' lead = refl
lead_none (RefusedAt other ∷ deeds) events events' j j' lead = absurd lead
lead_none (Went event table ∷ deeds) events events' j j' (mid, here, lead) = lead_none deeds (option_to_list event ++ events) events' mid j' lead
