-- A history of a store with one entry more.
use Rattle.std.proofs.Common.{◌≡◌, refl, sym, ◌∙◌, ap, subst, arith, ℕ, ◌≤◌, List, [], ◌∷◌, ◌++◌, Option, Some, None, append_assoc}
use Rattle.std.specs.Prelude.{option_to_list}
use Rattle.std.proofs.lemmas.List.{append-nil}
use Rattle.cluster_defs.specs.Journal.{Becomes, Event, Journal}
use Rattle.cluster_defs.specs.Life.{Brings}
use Rattle.cluster_defs.specs.Site.{Site}
use Rattle.cluster_defs.specs.Store.{Store}
use Rattle.hub_core.specs.Noting.{AreStored, IsStoredStep, Noted, event_at, faults_behind, store_behind, store_events, stored_at}

pub stored_more : (k : Site) (faults : ℕ) (s : Store) (es : List Noted) (e : Noted) → AreStored k faults s es → IsStoredStep k (store_behind k s es) (faults_behind faults es) e → AreStored k faults s (es ++ e ∷ [])
stored_more k faults s [] e so_far last = (last, tt)
stored_more k faults s (f ∷ es) e so_far last = (so_far.0, stored_more k f.1.after (stored_at k s f).next es e so_far.1 last)

pub behind_more : (k : Site) (s : Store) (es : List Noted) (e : Noted) → store_behind k s (es ++ e ∷ []) ≡ (stored_at k (store_behind k s es) e).next
behind_more k s [] e = refl
behind_more k s (f ∷ es) e = behind_more k (stored_at k s f).next es e

pub faults_more : (faults : ℕ) (es : List Noted) (e : Noted) → faults_behind faults (es ++ e ∷ []) ≡ e.1.after
faults_more faults [] e = refl
faults_more faults (f ∷ es) e = faults_more f.1.after es e

pub events_more : (k : Site) (s : Store) (es : List Noted) (e : Noted) → store_events k s (es ++ e ∷ []) ≡ store_events k s es ++ option_to_list (event_at (store_behind k s es) e)
events_more k s [] e = append-nil (option_to_list (event_at s e))
events_more k s (f ∷ es) e = ap (λ (l : List Event). option_to_list (event_at s f) ++ l) (events_more k (stored_at k s f).next es e) ∙ sym (append_assoc (option_to_list (event_at s f)) (store_events k (stored_at k s f).next es) (option_to_list (event_at (store_behind k (stored_at k s f).next es) e)))

pub brings_more : (events more : List Event) (j mid last : Journal) → Brings events j mid → Brings more mid last → Brings (events ++ more) j last
brings_more [] more j mid last first then_more = subst (λ (x : Journal). Brings more x last) first then_more
brings_more (event ∷ events) more j mid last first then_more = (first.0, first.1, brings_more events more first.0 mid last first.2 then_more)
