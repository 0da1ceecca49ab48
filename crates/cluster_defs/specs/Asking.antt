-- What may be asked, which replies answer an ask, and what is kept of it.
use Rattle.std.specs.Prelude.{◌≡◌, ℕ, Bool, true, false, ◌||◌, ⊤, List, [], ◌∷◌, if◌then◌else◌}
use Rattle.base_names.specs.Outside.{one_more}
use Rattle.base_names.specs.declared.refusal.OwnerLimit.TheVariants.{Commands}
use Rattle.base_names.specs.declared.refusal.Refusal.TheVariants.{OWNERFULL, MEMORY}
use Rattle.base_names.specs.declared.seat.Seat.{Seat}
use Rattle.model_data.specs.Lawful.{IsLawful}
use Rattle.model_data.specs.Params.{IsInRange}
use Rattle.cluster_defs.specs.declared.ask.Ask.{Ask}
use Rattle.cluster_defs.specs.declared.ask.Ask.TheVariants.{Create, Status as status_of}
use Rattle.cluster_defs.specs.declared.entry.Entry.{Entry}
use Rattle.cluster_defs.specs.declared.reply.Reply.{Reply}
use Rattle.cluster_defs.specs.declared.reply.Reply.TheVariants.{Made, Status, Refused}

-- A batch's model is lawful, and its parameters are in their ranges.
abbrev pub MayBeAsked : Ask → Type 0
MayBeAsked (Create body) = IsLawful body.model × IsInRange body.params
MayBeAsked (status_of id) = ⊤

-- A refusal answers every ask; every other reply answers the ask of its kind.
abbrev pub Answers : Reply → Ask → Type 0
Answers (Refused refusal) ask = ⊤
Answers (Made id) (Create body) = ⊤
Answers (Made id) (status_of asked) = ⊥
Answers (Status id status) (Create body) = ⊥
Answers (Status id status) (status_of asked) = id ≡ asked

-- The owner's commands, or what they are charged with, have reached their limit.
abbrev pub is_full : Reply → Bool
is_full (Made id) = false
is_full (Status id status) = false
is_full (Refused (OWNERFULL Commands)) = true
is_full (Refused _) = false

abbrev pub is_memory : Reply → Bool
is_memory (Made id) = false
is_memory (Status id status) = false
is_memory (Refused MEMORY) = true
is_memory (Refused _) = false

-- what is kept of an ask: nothing where it was not looked at, for the owner's limit on commands or for want of memory
abbrev pub entries_of : Seat → Ask → Reply → List Entry
entries_of seat ask reply = if (is_full reply || is_memory reply) then [] else record { seat = seat; ask = ask; reply = reply } ∷ []

-- how often the limit on commands was told, after this reply; the count stays at 2 ^ 64 - 1 once there
abbrev pub fulls_after : ℕ → Reply → ℕ
fulls_after fulls reply = if is_full reply then one_more fulls else fulls
