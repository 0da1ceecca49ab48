-- A look at any point of a legal history is answered by what was read for the owner until then.
use Rattle.std.proofs.Common.{◌≡◌, sym, ap, ◌∙◌, ℕ, suc, true, List, [], ◌∷◌, ◌++◌}
use Rattle.base_names.specs.declared.node.Waiter.{Waiter}
use Rattle.table_defs.specs.Names.{Owner, is_owner}
use Rattle.table_defs.specs.Owned.{table_of}
use Rattle.table_defs.specs.Table.{Table}
use Rattle.cluster_defs.specs.Cluster.{Cluster}
use Rattle.cluster_defs.specs.Entries.{faults_of}
use Rattle.cluster_defs.specs.Legal.{GivenBack, IsLegal, IsLegalFrom, back_at, cluster_behind, cluster_from, given_back}
use Rattle.cluster_defs.specs.Looks.{cut}
use Rattle.cluster_defs.specs.Opened.{mounted, opened}
use Rattle.cluster_defs.specs.Own.{Owned, own_step}
use Rattle.cluster_defs.specs.OwnHistory.{entry_reading, own_cut, own_history, own_opened, own_part_from, readings_from}
use Rattle.cluster_defs.specs.Part.{Part, part_of, placements_of}
use Rattle.cluster_defs.specs.Placement.{place}
use Rattle.cluster_defs.specs.Site.{Site}
use Rattle.cluster_defs.specs.Step.{step}
use Rattle.cluster_defs.specs.Waiters.{owner_of}
use Rattle.cluster_laws.proofs.Histories.{entry_step, part_given_back}
use Rattle.cluster_laws.proofs.OwnLooks.{cut_own}
use Rattle.cluster_laws.proofs.OwnPlaces.{own_placements}
use Rattle.cluster_defs.specs.Entries.{Entry}

-- A legal history is legal up to each of its points.
legal_before : (k : Site) (G later : List Entry) (N : List GivenBack) (n faults : ℕ) (c : Cluster) → IsLegalFrom k n faults c N (G ++ later) → IsLegalFrom k n faults c N G
legal_before k [] [] N n faults c legal = legal
legal_before k [] (e ∷ es) N n faults c legal = legal.0
legal_before k (e ∷ G) later N n faults c legal = (legal.0, legal.1, legal_before k G later N (suc n) e.after (step k (given_back (back_at n N) c) e.deed (faults_of e)).next legal.2)

part_behind : (u : Owner) (k : Site) (H : List Entry) (N : List GivenBack) (n faults : ℕ) (c : Cluster) (p : Part) → IsLegalFrom k n faults c N H → part_of u c ≡ p → part_of u (cluster_from k n c N H) ≡ own_part_from k p (readings_from u k n c N H)
part_behind u k [] N n faults c p legal e = part_given_back u (back_at n N) c ∙ e
part_behind u k (x ∷ xs) N n faults c p legal e =
    let d = given_back (back_at n N) c in
    let next = (step k d x.deed (faults_of x)).next in
    let s = ap (λ (q : Part). own_step k q (entry_reading u d x)) (sym e ∙ sym (part_given_back u (back_at n N) c)) ∙ entry_step u k d faults x legal.1 in
    part_behind u k xs N (suc n) x.after next (own_step k p (entry_reading u d x)).next legal.2 (sym (ap (λ (o : Owned). o.next) s))

pub look_is_own : (u : Owner) (k : Site) (t : Table) (end faults : ℕ) (G later : List Entry) (N : List GivenBack) (w : Waiter) → IsLegal k t end faults (G ++ later) N → is_owner u (owner_of w) ≡ true
    → cut (cluster_behind k t end G N).table (cluster_behind k t end G N).jobs w ≡ own_cut k (table_of u t) (own_history u k t end G N) w
look_is_own u k t end faults G later N w legal own =
    let c = cluster_behind k t end G N in
    sym (cut_own u w c.table c.jobs own)
    ∙ ap (λ (p : Part). cut p.table p.jobs w) (part_behind u k G N 0 faults (opened k t end) (own_opened (table_of u t) (placements_of u (place (mounted k t end)))) (legal_before k G later N 0 faults (opened k t end) legal) (own_placements u (place (mounted k t end)) (mounted k t end)))
