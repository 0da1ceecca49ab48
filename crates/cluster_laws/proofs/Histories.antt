-- Over a legal history the replies to an owner are the own replies.
use Rattle.std.proofs.Common.{◌≡◌, refl, sym, ap, ap₂, ◌∙◌, ℕ, suc, List, [], ◌∷◌, ◌++◌}
use Rattle.std.specs.Prelude.{option_to_list}
use Rattle.base_names.specs.declared.node.Placed.{Placed}
use Rattle.table_defs.specs.Names.{Owner}
use Rattle.table_defs.specs.Owned.{table_of}
use Rattle.table_defs.specs.Table.{Table}
use Rattle.cluster_defs.specs.Cluster.{Cluster}
use Rattle.cluster_defs.specs.Entries.{faults_of}
use Rattle.cluster_defs.specs.Legal.{GivenBack, IsLegal, IsLegalFrom, IsStep, back_at, given_back}
use Rattle.cluster_defs.specs.Opened.{mounted, opened}
use Rattle.cluster_defs.specs.Own.{Owned, own_step}
use Rattle.cluster_defs.specs.OwnHistory.{entry_reading, own_history, own_opened, own_replies, own_replies_from, readings_from, replies_to}
use Rattle.cluster_defs.specs.Part.{Part, part_of, placements_of}
use Rattle.cluster_defs.specs.Placement.{place}
use Rattle.cluster_defs.specs.Reading.{Reading, reading, reply_for}
use Rattle.cluster_defs.specs.Site.{Site}
use Rattle.cluster_defs.specs.Step.{Stepped, step, with_returned}
use Rattle.cluster_laws.proofs.OwnDeeds.{one_step}
use Rattle.cluster_laws.proofs.OwnPlaces.{own_placements}
use Rattle.cluster_defs.specs.Deeds.{Deed}
use Rattle.cluster_defs.specs.Deeds.{Asked, Took, Finished, Left}
use Rattle.cluster_defs.specs.Entries.{Entry}
use Rattle.cluster_defs.specs.Entries.{EntryReply}
use Rattle.cluster_defs.specs.Replies.{Reply}

-- a work that is given back is no owner's affair
pub part_given_back : (u : Owner) (gs : List GivenBack) (c : Cluster) → part_of u (given_back gs c) ≡ part_of u c
part_given_back u [] c = refl
part_given_back u (g ∷ gs) c = part_given_back u gs (with_returned c g.id g.attempt)

-- What is read of a deed does not rest on the cluster behind it.
same_reading : (u : Owner) (c : Cluster) (d : Deed) (s : Stepped) → reading u c d (record { next = c; placed = s.placed; reply = s.reply }) ≡ reading u c d s
same_reading u c (Asked seat ask) s = refl
same_reading u c (Took worker id attempt) s = refl
same_reading u c (Finished id attempt result) s = refl
same_reading u c (Left id attempt) s = refl

-- an entry that is its step
pub entry_step : (u : Owner) (k : Site) (d : Cluster) (faults : ℕ) (e : Entry) → IsStep k d faults e
    → own_step k (part_of u d) (entry_reading u d e) ≡ record { next = part_of u (step k d e.deed (faults_of e)).next; reply = reply_for u e.deed e.reply }
entry_step u k d faults e is =
    ap₂ (λ (ps : List Placed) (r : EntryReply). own_step k (part_of u d) (reading u d e.deed (record { next = d; placed = ps; reply = r }))) is.placed is.reply
    ∙ (ap (own_step k (part_of u d)) (same_reading u d e.deed (step k d e.deed (faults_of e)))
    ∙ (one_step u k d e.deed (faults_of e)
    ∙ ap (λ (r : EntryReply). record { next = part_of u (step k d e.deed (faults_of e)).next; reply = reply_for u e.deed r }) (sym is.reply)))

one_more : (k : Site) (p : Part) (r : Reading) (rs : List Reading) (o : Owned) → own_step k p r ≡ o → own_replies_from k p (r ∷ rs) ≡ option_to_list o.reply ++ own_replies_from k o.next rs
one_more k p r rs o e = ap (λ (x : Owned). option_to_list x.reply ++ own_replies_from k x.next rs) e

all_replies : (u : Owner) (k : Site) (H : List Entry) (N : List GivenBack) (n faults : ℕ) (c : Cluster) (p : Part) → IsLegalFrom k n faults c N H → part_of u c ≡ p → replies_to u H ≡ own_replies_from k p (readings_from u k n c N H)
all_replies u k [] N n faults c p legal e = refl
all_replies u k (x ∷ xs) N n faults c p legal e =
    let d = given_back (back_at n N) c in
    let next = (step k d x.deed (faults_of x)).next in
    ap (λ (rs : List Reply). option_to_list (reply_for u x.deed x.reply) ++ rs) (all_replies u k xs N (suc n) x.after next (part_of u next) legal.2 refl)
    ∙ sym (one_more k p (entry_reading u d x) (readings_from u k (suc n) next N xs) (record { next = part_of u next; reply = reply_for u x.deed x.reply })
    (ap (λ (q : Part). own_step k q (entry_reading u d x)) (sym e ∙ sym (part_given_back u (back_at n N) c)) ∙ entry_step u k d faults x legal.1))

pub own_replies_are : (u : Owner) (k : Site) (t : Table) (end faults : ℕ) (H : List Entry) (N : List GivenBack) → IsLegal k t end faults H N → replies_to u H ≡ own_replies k (table_of u t) (own_history u k t end H N)
own_replies_are u k t end faults H N legal = all_replies u k H N 0 faults (opened k t end) (own_opened (table_of u t) (placements_of u (place (mounted k t end)))) legal (own_placements u (place (mounted k t end)) (mounted k t end))
