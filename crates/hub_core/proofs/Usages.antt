-- What owners have used, as it is looked up and counted.
use Rattle.std.proofs.Common.{◌≡◌, refl, sym, ap, ap₂, ◌∙◌, subst, arith, ℕ, ◌+◌, ◌<◌, Bool, true, false, not, List, [], ◌∷◌, ◌++◌, length, map, Option, Some, None, get_or, cond}
use Rattle.std.specs.Option.{option_map}
use Rattle.std.specs.Prelude.{filter, find, position}
use Rattle.std.proofs.lemmas.List.{map-append}
use Rattle.hub_core.proofs.Finding.{find_at, find_nowhere}
use Rattle.cluster_defs.specs.Charges.{counted}
use Rattle.cluster_defs.specs.Cluster as cluster
use Rattle.cluster_defs.specs.Cluster.{usage_of, usage_or}
use Rattle.hub_core.specs.Counting.{usage_in, usages_in}
use Rattle.hub_core.specs.declared.counting.Usage.{Usage}
use Rattle.table_defs.specs.Names.{Owner, is_owner}

find_map : {A B : Type 0} (test : B → Bool) (f : A → B) (xs : List A) → find test (map f xs) ≡ option_map f (find (λ x. test (f x)) xs)
find_map test f [] = refl
find_map test f (x ∷ xs) = grind (arith, find_map test f xs)

filter_map : {A B : Type 0} (test : B → Bool) (f : A → B) (xs : List A) → filter test (map f xs) ≡ map f (filter (λ x. test (f x)) xs)
filter_map test f [] = refl
filter_map test f (x ∷ xs) = grind (arith, filter_map test f xs)

pub used_at : (owner : Owner) (us : List Usage) (n : ℕ) (d : Usage) → position (λ (u : Usage). is_owner owner u.owner) us ≡ Some n → usage_in (get_or us n d) ≡ usage_of owner (usages_in us)
used_at owner us n d is = sym (ap (usage_or owner) (find_map (λ (u : cluster.Usage). is_owner owner u.owner) usage_in us ∙ ap (λ (o : Option Usage). option_map usage_in o) (find_at (λ (u : Usage). is_owner owner u.owner) us n d is)))

pub used_nowhere : (owner : Owner) (us : List Usage) → position (λ (u : Usage). is_owner owner u.owner) us ≡ None → record { owner = owner; entries = 0; charges = 0 } ≡ usage_of owner (usages_in us)
used_nowhere owner us is = sym (ap (usage_or owner) (find_map (λ (u : cluster.Usage). is_owner owner u.owner) usage_in us ∙ ap (λ (o : Option Usage). option_map usage_in o) (find_nowhere (λ (u : Usage). is_owner owner u.owner) us is)))

pub counted_by : (owner : Owner) (bytes : ℕ) (us kept : List Usage) (used more : Usage) → usage_in used ≡ usage_of owner (usages_in us) → kept ≡ filter (λ (u : Usage). not (is_owner owner u.owner)) us
    → more ≡ record { owner = owner; entries = used.entries + 1; charges = used.charges + bytes } → usages_in (kept ++ more ∷ []) ≡ counted owner false bytes (usages_in us)
counted_by owner bytes us kept used more is filtered told =
    let same : usages_in kept ≡ filter (λ (u : cluster.Usage). not (is_owner owner u.owner)) (usages_in us)
    = ap usages_in filtered ∙ sym (filter_map (λ (u : cluster.Usage). not (is_owner owner u.owner)) usage_in us) in
    let last : usage_in more ≡ record { owner = owner; entries = (usage_of owner (usages_in us)).entries + 1; charges = (usage_of owner (usages_in us)).charges + bytes }
    = ap usage_in told ∙ ap (λ (u : cluster.Usage). record { owner = owner; entries = u.entries + 1; charges = u.charges + bytes }) is in
    map-append usage_in kept (more ∷ []) ∙ ap₂ (λ (us : List cluster.Usage) (u : cluster.Usage). us ++ u ∷ []) same last
