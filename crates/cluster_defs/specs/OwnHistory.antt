-- What of a history is one owner's, and the replies that follow from that alone.
use Rattle.std.specs.Prelude.{ℕ, suc, Bool, List, [], ◌∷◌, ◌++◌, flat_map, option_to_list}
use Rattle.base_names.specs.declared.node.Placed.{Placed}
use Rattle.base_names.specs.declared.node.Waiter.{Waiter}
use Rattle.table_defs.specs.Names.{Owner}
use Rattle.table_defs.specs.Table.{Table}
use Rattle.cluster_defs.specs.Cluster.{Cluster}
use Rattle.cluster_defs.specs.Entries.{Entry, faults_of}
use Rattle.cluster_defs.specs.Legal.{GivenBack, back_at, given_back}
use Rattle.cluster_defs.specs.Looks.{cut}
use Rattle.cluster_defs.specs.Opened.{mounted, opened}
use Rattle.cluster_defs.specs.Own.{own_settled, own_step}
use Rattle.cluster_defs.specs.Part.{Part, placements_of}
use Rattle.cluster_defs.specs.Placement.{place}
use Rattle.cluster_defs.specs.Reading.{Reading, reading, reply_for}
use Rattle.cluster_defs.specs.Replies.{Reply}
use Rattle.cluster_defs.specs.Site.{Site}
use Rattle.cluster_defs.specs.Step.{step}

-- the replies to the owner's seats
abbrev pub replies_to : Owner → List Entry → List Reply
replies_to u H = flat_map (λ e. option_to_list (reply_for u e.deed e.reply)) H

abbrev pub entry_reading : Owner → Cluster → Entry → Reading
entry_reading u c e = reading u c e.deed record { next = c; placed = e.placed; reply = e.reply }

abbrev pub readings_from : Owner → Site → ℕ → Cluster → List GivenBack → List Entry → List Reading
readings_from u k n c N [] = []
readings_from u k n c N (e ∷ es) = let d = given_back (back_at n N) c in entry_reading u d e ∷ readings_from u k (suc n) (step k d e.deed (faults_of e)).next N es

pub record OwnHistory : Type 0 where
  -- the owner's placements when the cluster was opened
  pub opening : List Placed
  pub readings : List Reading

abbrev pub own_history : Owner → Site → Table → ℕ → List Entry → List GivenBack → OwnHistory
own_history u k t end H N = record { opening = placements_of u (place (mounted k t end)); readings = readings_from u k 0 (opened k t end) N H }

abbrev pub own_opened : Table → List Placed → Part
own_opened t ps = own_settled ps record { table = t; jobs = []; placed = []; given = []; usage = [] }

abbrev pub own_replies_from : Site → Part → List Reading → List Reply
own_replies_from k p [] = []
own_replies_from k p (r ∷ rs) = let o = own_step k p r in option_to_list o.reply ++ own_replies_from k o.next rs

-- the replies to one owner on a server of its own, from its own table
abbrev pub own_replies : Site → Table → OwnHistory → List Reply
own_replies k t own = own_replies_from k (own_opened t own.opening) own.readings

-- ---- looks

-- the owner's part behind what is read
abbrev pub own_part_from : Site → Part → List Reading → Part
own_part_from k p [] = p
own_part_from k p (r ∷ rs) = own_part_from k (own_step k p r).next rs

-- whether the owner's job or attempt has been cut, by its own part behind a history
abbrev pub own_cut : Site → Table → OwnHistory → Waiter → Bool
own_cut k t own w = let p = own_part_from k (own_opened t own.opening) own.readings in cut p.table p.jobs w
