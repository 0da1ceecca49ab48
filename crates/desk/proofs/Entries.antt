-- The entries of a history that grows.
use Rattle.std.proofs.Common.{◌≡◌, List, [], ◌∷◌, ◌++◌, refl, ap, ◌∙◌}
use Rattle.std.specs.Prelude.{map}
use Rattle.base_names.specs.declared.seat.Seat.{Seat}
use Rattle.cluster_defs.specs.Asking.{entries_of}
use Rattle.cluster_defs.specs.declared.ask.Ask.{Ask}
use Rattle.cluster_defs.specs.declared.entry.Entry.{Entry}
use Rattle.cluster_defs.specs.declared.reply.Reply.{Reply}
use Rattle.desk.specs.Desks.{entries_in}
use Rattle.hub_core.specs.Noting.{Noted, noted_of}
use Rattle.hub_core.specs.declared.setup.Counts.{Counts}

entries_in-counted : (entries : List Entry) (counts : Counts) → entries_in (map (λ entry. (entry, counts)) entries) ≡ entries
entries_in-counted [] counts = refl
entries_in-counted (entry ∷ entries) counts = ap (λ (es : List Entry). entry ∷ es) (entries_in-counted entries counts)

entries_in-append : (history more : List Noted) → entries_in (history ++ more) ≡ entries_in history ++ entries_in more
entries_in-append [] more = refl
entries_in-append (item ∷ history) more = ap (λ (es : List Entry). item.0 ∷ es) (entries_in-append history more)

-- what is noted of an ask is what is kept of it
pub entries_in-noted : (old new : List Noted) (seat : Seat) (ask : Ask) (reply : Reply) (counts : Counts) → new ≡ old ++ noted_of seat ask reply counts → entries_in new ≡ entries_in old ++ entries_of seat ask reply
entries_in-noted old new seat ask reply counts is =
    ap entries_in is ∙ (entries_in-append old (noted_of seat ask reply counts) ∙ ap (λ (es : List Entry). entries_in old ++ es) (entries_in-counted (entries_of seat ask reply) counts))
