-- No owner has more counted entries than its limit.
use Rattle.std.proofs.Common.{◌≡◌, refl, sym, ap, ◌∙◌, subst, ℕ, suc, ◌+◌, ◌≤◌, ◌||◌, Bool, true, false, not, List, [], ◌∷◌, ◌++◌, Option, Some, None, arith}
use Rattle.std.specs.Prelude.{filter, nat_le}
use Rattle.std.proofs.lemmas.Bool.Decides.{nat_tests}
use Rattle.base_names.specs.declared.refusal.OwnerLimit.TheVariants.{Commands}
use Rattle.base_names.specs.declared.refusal.Refusal.{Refusal}
use Rattle.base_names.specs.declared.refusal.Refusal.TheVariants.{OWNERFULL}
use Rattle.base_names.specs.declared.id.BatchId.{BatchId}
use Rattle.base_names.specs.declared.seat.Seat.{Seat}
use Rattle.model_data.specs.declared.batch.BatchResult.{BatchResult}
use Rattle.table_defs.specs.Lists.{put}
use Rattle.table_defs.specs.Names.{Owner, is_owner}
use Rattle.table_defs.specs.Table.{Table, row_of}
use Rattle.cluster_defs.specs.Charges.{counted}
use Rattle.cluster_defs.specs.Cluster.{Cluster, Usage, usage_of, usage_or}
use Rattle.cluster_defs.specs.Deeds.{Faults}
use Rattle.cluster_defs.specs.Entries.{faults_of}
use Rattle.cluster_defs.specs.Legal.{GivenBack, IsLegal, IsLegalFrom, MayHappen, back_at, cluster_behind, cluster_from, given_back}
use Rattle.cluster_defs.specs.Opened.{opened}
use Rattle.cluster_defs.specs.Refusals.{ask_refusal, commands_refusal, is_free}
use Rattle.cluster_defs.specs.Site.{Site}
use Rattle.cluster_defs.specs.Step.{asked_with, step, still_open, with_returned, within_limit}
use Rattle.table_defs.proofs.Lists.{push_own, put_other}
use Rattle.table_defs.proofs.Names.{owner_is, owner_refl, owner_without}
use Rattle.table_defs.proofs.Rows.{unless_none}
use Rattle.cluster_laws.proofs.Lists.{find_head, head_of}
use Rattle.cluster_defs.specs.Deeds.{Deed}
use Rattle.cluster_defs.specs.Deeds.{Asked, Took, Finished, Left}
use Rattle.cluster_defs.specs.Entries.{Entry}
use Rattle.cluster_defs.specs.Asks.{Ask}

abbrev usages : Owner → List Usage → List Usage
usages u all = filter (λ x. is_owner u x.owner) all

by_head : (u : Owner) (all : List Usage) → usage_of u all ≡ usage_or u (head_of (usages u all))
by_head u all = ap (usage_or u) (find_head (λ x. is_owner u x.owner) all)

pub none_of_both : {A : Type 0} (p : A → Bool) (xs : List A) → filter p (filter (λ x. not (p x)) xs) ≡ []
none_of_both p [] = refl
none_of_both p (x ∷ xs) = grind (arith, none_of_both p xs)

pub put_same : (u : Owner) (x : Usage) (all : List Usage) → x.owner ≡ u → usage_of u (put (λ y. is_owner u y.owner) x all) ≡ x
put_same u x all is =
    by_head u (put (λ y. is_owner u y.owner) x all)
    ∙ ap (λ (xs : List Usage). usage_or u (head_of xs)) (push_own (λ (y : Usage). is_owner u y.owner) x (ap (is_owner u) is ∙ owner_refl u) (filter (λ y. not (is_owner u y.owner)) all) ∙ ap (λ (xs : List Usage). xs ++ x ∷ []) (none_of_both (λ (y : Usage). is_owner u y.owner) all))

pub put_else : (u o : Owner) (x : Usage) (all : List Usage) → x.owner ≡ o → is_owner u o ≡ false → usage_of u (put (λ y. is_owner o y.owner) x all) ≡ usage_of u all
put_else u o x all is other =
    by_head u (put (λ y. is_owner o y.owner) x all)
    ∙ (ap (λ (xs : List Usage). usage_or u (head_of xs)) (put_other (λ (y : Usage). is_owner u y.owner) (λ (y : Usage). is_owner o y.owner) x (ap (is_owner u) is ∙ other) (λ y own. owner_without u o y.owner other own) all)
    ∙ sym (by_head u all))

counted_by : (P : Usage → Type 0) (u o : Owner) (x : Usage) (all : List Usage) (b : Bool) → is_owner u o ≡ b → x.owner ≡ o → P x → P (usage_of u all) → P (usage_of u (put (λ y. is_owner o y.owner) x all))
counted_by P u o x all true own is one h = let e : u ≡ o = owner_is u o own in subst (λ (v : Owner). P (usage_of v (put (λ y. is_owner o y.owner) x all))) (sym e) (subst P (sym (put_same o x all is)) one)
counted_by P u o x all false other is one h = subst P (sym (put_else u o x all is other)) h

-- what holds of each owner's count holds still, where it holds of the new one
pub counted_has : (P : Usage → Type 0) (u o : Owner) (free : Bool) (bytes : ℕ) (all : List Usage) → (free ≡ false → P record { owner = o; entries = (usage_of o all).entries + 1; charges = (usage_of o all).charges + bytes }) → P (usage_of u all) → P (usage_of u (counted o free bytes all))
counted_has P u o true bytes all one h = h
counted_has P u o false bytes all one h = counted_by P u o (record { owner = o; entries = (usage_of o all).entries + 1; charges = (usage_of o all).charges + bytes }) all (is_owner u o) refl refl (one refl) h

counted_within : (u o : Owner) (free : Bool) (bytes : ℕ) (all : List Usage) (n : ℕ) → (free ≡ false → (usage_of o all).entries + 1 ≤ n) → (usage_of u all).entries ≤ n → (usage_of u (counted o free bytes all)).entries ≤ n
counted_within u o free bytes all n one h = counted_has (λ x. x.entries ≤ n) u o free bytes all one h

pub not_full : (n m : ℕ) (free other : Bool) → (free || not (nat_le n m || other)) ≡ true → free ≡ false → m + 1 ≤ n
not_full n m true other h k = absurd (grind (arith, k))
not_full n m false other h k = grind (arith, nat_tests, h)

abbrev pub IsWithin : Site → Cluster → Type 0
IsWithin k c = (u : Owner) → (usage_of u c.usage).entries ≤ k.setup.limits.commands

asked_within : (k : Site) (c : Cluster) (seat : Seat) (ask : Ask) (f : Faults) (x : Option Refusal) → commands_refusal k c.usage c.jobs seat ask ≡ None → IsWithin k c → IsWithin k (within_limit c None (asked_with k c seat ask x)).next
asked_within k c seat ask f (Some r) may w u = counted_within u seat.owner (is_free c.jobs seat ask) _ c.usage k.setup.limits.commands (not_full _ _ (is_free c.jobs seat ask) _ (unless_none _ (OWNERFULL Commands) may)) (w u)
asked_within k c seat ask f None may w u = counted_within u seat.owner (is_free c.jobs seat ask) _ c.usage k.setup.limits.commands (not_full _ _ (is_free c.jobs seat ask) _ (unless_none _ (OWNERFULL Commands) may)) (w u)

pub finish_within : (k : Site) (c : Cluster) (id : BatchId) (n : ℕ) (result : BatchResult) (f : Faults) (o w : Bool) → still_open n (row_of id c.table) ≡ o → nat_le f.after f.before ≡ w → (step k c (Finished id n result) f).next.usage ≡ c.usage
finish_within k c id n result f false w h g = rw h refl
finish_within k c id n result f true true h g = rw (h, g) refl
finish_within k c id n result f true false h g = rw (h, g) refl

pub left_within : (k : Site) (c : Cluster) (id : BatchId) (n : ℕ) (f : Faults) (o : Bool) → still_open n (row_of id c.table) ≡ o → (step k c (Left id n) f).next.usage ≡ c.usage
left_within k c id n f false h = rw h refl
left_within k c id n f true h = rw h refl

usage_within : (k : Site) (c d : Cluster) → d.usage ≡ c.usage → IsWithin k c → IsWithin k d
usage_within k c d same w u = subst (λ (all : List Usage). (usage_of u all).entries ≤ k.setup.limits.commands) (sym same) (w u)

step_within : (k : Site) (c : Cluster) (d : Deed) (f : Faults) → MayHappen k c d → IsWithin k c → IsWithin k (step k c d f).next
step_within k c (Asked seat ask) f may w = subst (λ (x : Option Refusal). IsWithin k (within_limit c x (asked_with k c seat ask (ask_refusal k c seat ask f))).next) (sym may) (asked_within k c seat ask f (ask_refusal k c seat ask f) may w)
step_within k c (Took worker id n) f may w = w
step_within k c (Finished id n result) f may w = usage_within k c (step k c (Finished id n result) f).next (finish_within k c id n result f (still_open n (row_of id c.table)) (nat_le f.after f.before) refl refl) w
step_within k c (Left id n) f may w = usage_within k c (step k c (Left id n) f).next (left_within k c id n f (still_open n (row_of id c.table)) refl) w

back_within : (k : Site) (gs : List GivenBack) (c : Cluster) → IsWithin k c → IsWithin k (given_back gs c)
back_within k [] c w = w
back_within k (g ∷ gs) c w = back_within k gs (with_returned c g.id g.attempt) w

within_from : (k : Site) (H : List Entry) (N : List GivenBack) (n faults : ℕ) (c : Cluster) → IsLegalFrom k n faults c N H → IsWithin k c → IsWithin k (cluster_from k n c N H)
within_from k [] N n faults c legal w = back_within k (back_at n N) c w
within_from k (e ∷ es) N n faults c legal w = let d = given_back (back_at n N) c in within_from k es N (suc n) e.after (step k d e.deed (faults_of e)).next legal.2 (step_within k d e.deed (faults_of e) legal.1.may (back_within k (back_at n N) c w))

pub behind_within : (k : Site) (t : Table) (end faults : ℕ) (H : List Entry) (N : List GivenBack) → IsLegal k t end faults H N → (u : Owner) → (usage_of u (cluster_behind k t end H N).usage).entries ≤ k.setup.limits.commands
behind_within k t end faults H N legal = within_from k H N 0 faults (opened k t end) legal (λ u. omega arith)
