-- What runs as slots by number.
use Rattle.std.proofs.Common.{◌≡◌, refl, sym, ap, ◌∙◌, ◌+◌, ◌-◌, ◌≤◌, ◌<◌, ◌==◌, ℕ, Bool, true, false, not, List, [], ◌∷◌, ◌++◌, Option, Some, None, arith, cond, length, subst, true≢false, suc, zero, map, get_or, is_some, IsTrue}
use Rattle.std.specs.Cmp.{IsEquivalence}
use Rattle.std.specs.List.{AllByRecursion, IsDistinct}
use Rattle.std.specs.Map.{keys_of, lookup}
use Rattle.std.specs.Prelude.{if◌then◌else◌, option_map, filter, find, slice_set}
use Rattle.std.proofs.lemmas.Bool.Decides.{nat_tests}
use Rattle.std.proofs.lemmas.List.Elements.{filter-append}
use Rattle.std.proofs.lemmas.Map.Entries.{lookup-filter-values, option_filter}
use Rattle.base_names.specs.contracts.node.WaiterPartialEq.TheImpl as derived
use Rattle.base_names.specs.declared.node.NodeNo.{NodeNo}
use Rattle.base_names.specs.declared.node.Placed.{Placed}
use Rattle.base_names.specs.declared.node.Waiter.{Waiter}
use Rattle.cluster_defs.specs.Waiters.{is_node, is_waiter}
use Rattle.cluster_laws.proofs.Waiters.{waiter_refl}
use Rattle.node_sched.specs.declared.slot.Slot.{Slot}
use Rattle.node_sched.specs.declared.slot.Spot.{Spot}
use Rattle.node_sched.specs.Runs.{node_of, without_node, without_waiter}
use Rattle.node_sched.specs.Schedule.{jobs_at, times_running}
use Rattle.node_sched.specs.Slots.{AreSlots, Rises, elsewhere, is_away, is_full, place_of, placed_in, spot_of, spot_or, with_placed}
use Rattle.node_sched.proofs.Goes.{node_flips, times_pushed}
use Rattle.node_sched.proofs.Rule.{all_others}
use Rattle.node_sched.proofs.Tests.{same_waiter, waiter_is}
use Rattle.node_sched.proofs.Turns.{all_filtered, filter_less, waiter_flips}

-- ---- the place of a number

eq_of : (a b : ℕ) (x : Bool) → (a == b) ≡ x → x ≡ true → a ≡ b
eq_of a b x is there = grind (arith, nat_tests, is, there)

rises_from : (low low' : ℕ) (ss : List Slot) → low' ≤ low → Rises low ss → Rises low' ss
rises_from low low' [] le rises = tt
rises_from low low' (s ∷ ss) le rises = (omega (arith, le, rises.0), rises.1)

place_here : (b : Bool) (n i : ℕ) → (if b then zero else suc n) < suc i → b ≡ false → n < i
place_here true n i lt is = absurd (cc)
place_here false n i lt is = omega (arith, lt)

at_here : (b : Bool) (k : ℕ) (s : Slot) (ss : List Slot) (d : Slot) → (s.number == k) ≡ b → (if b then zero else suc (place_of k ss)) < suc (length ss) → (place_of k ss < length ss → (get_or ss (place_of k ss) d).number ≡ k) → (get_or (s ∷ ss) (if b then zero else suc (place_of k ss)) d).number ≡ k
at_here true k s ss d is lt later = eq_of s.number k true is refl
at_here false k s ss d is lt later = later (omega (arith, lt))

-- the number stands at its place
pub at_place : (k : ℕ) (ss : List Slot) (d : Slot) → place_of k ss < length ss → (get_or ss (place_of k ss) d).number ≡ k
at_place k [] d lt = absurd (omega (arith, lt))
at_place k (s ∷ ss) d lt = at_here (s.number == k) k s ss d refl lt (at_place k ss d)

lowest_here : (b : Bool) (k low : ℕ) (s : Slot) (ss : List Slot) → (s.number == k) ≡ b → low ≤ s.number → (if b then zero else suc (place_of k ss)) < suc (length ss) → (place_of k ss < length ss → suc s.number ≤ k) → low ≤ k
lowest_here true k low s ss is le lt later = let e : s.number ≡ k = eq_of s.number k true is refl in omega (arith, e, le)
lowest_here false k low s ss is le lt later = let h = later (omega (arith, lt)) in omega (arith, h, le)

lowest : (k low : ℕ) (ss : List Slot) → Rises low ss → place_of k ss < length ss → low ≤ k
lowest k low [] rises lt = absurd (omega (arith, lt))
lowest k low (s ∷ ss) rises lt = lowest_here (s.number == k) k low s ss refl rises.0 lt (lowest k (suc s.number) ss rises.1)

-- a number at an index is at least so high
rises_at : (low m : ℕ) (ss : List Slot) (d : Slot) → Rises low ss → m < length ss → low ≤ (get_or ss m d).number
rises_at low m [] d rises lt = absurd (omega (arith, lt))
rises_at low zero (s ∷ ss) d rises lt = rises.0
rises_at low (suc m) (s ∷ ss) d rises lt = let h = rises_at (suc s.number) m ss d rises.1 (omega (arith, lt)) in omega (arith, h, rises.0)

not_lower_here : (b : Bool) (k m : ℕ) (s : Slot) (ss : List Slot) (x : ℕ) → (s.number == k) ≡ b → suc s.number ≤ x → x ≤ k → (if b then zero else suc (place_of k ss)) < suc (length ss) → (place_of k ss < length ss → m ≤ place_of k ss) → suc m ≤ (if b then zero else suc (place_of k ss))
not_lower_here true k m s ss x is above le lt later = absurd (let e : s.number ≡ k = eq_of s.number k true is refl in omega (arith, e, above, le))
not_lower_here false k m s ss x is above le lt later = let h = later (omega (arith, lt)) in omega (arith, h)

pub not_lower : (k low m : ℕ) (ss : List Slot) (d : Slot) → Rises low ss → m < length ss → (get_or ss m d).number ≤ k → place_of k ss < length ss → m ≤ place_of k ss
not_lower k low m [] d rises lt le there = absurd (omega (arith, lt))
not_lower k low zero (s ∷ ss) d rises lt le there = omega arith
not_lower k low (suc m) (s ∷ ss) d rises lt le there =
    not_lower_here (s.number == k) k m s ss (get_or ss m d).number refl (rises_at (suc s.number) m ss d rises.1 (omega (arith, lt))) le there (not_lower k (suc s.number) m ss d rises.1 (omega (arith, lt)) le)

lower_here : (b : Bool) (k m : ℕ) (s : Slot) (ss : List Slot) → (if b then zero else suc (place_of k ss)) < suc (length ss) → (place_of k ss < length ss → place_of k ss < m) → (if b then zero else suc (place_of k ss)) < suc m
lower_here true k m s ss there later = omega arith
lower_here false k m s ss there later = let h = later (omega (arith, there)) in omega (arith, h)

head_lower : (b : Bool) (k low : ℕ) (s : Slot) (ss : List Slot) → (s.number == k) ≡ b → k < s.number → Rises (suc s.number) ss → (if b then zero else suc (place_of k ss)) < suc (length ss) → (if b then zero else suc (place_of k ss)) < zero
head_lower true k low s ss is lt rises there = absurd (let e : s.number ≡ k = eq_of s.number k true is refl in omega (arith, e, lt))
head_lower false k low s ss is lt rises there = absurd (let h = lowest k (suc s.number) ss rises (omega (arith, there)) in omega (arith, h, lt))

pub lower : (k low m : ℕ) (ss : List Slot) (d : Slot) → Rises low ss → m < length ss → k < (get_or ss m d).number → place_of k ss < length ss → place_of k ss < m
lower k low m [] d rises lt above there = absurd (omega (arith, lt))
lower k low zero (s ∷ ss) d rises lt above there = head_lower (s.number == k) k low s ss refl above rises.1 there
lower k low (suc m) (s ∷ ss) d rises lt above there = lower_here (s.number == k) k m s ss there (lower k (suc s.number) m ss d rises.1 (omega (arith, lt)) above)

-- ---- a spot names its slot

spot_there : (b : Bool) (n : ℕ) (p : Placed) (rest : Option Spot) (x : Spot) → (if b then Some (record { node = p.node; number = n }) else rest) ≡ Some x → (rest ≡ Some x → suc n ≤ x.number) → n ≤ x.number
spot_there true n p rest x is later = let e : record { node = p.node; number = n } ≡ x = cc in let m : n ≡ x.number = ap (λ (y : Spot). y.number) e in omega (arith, m)
spot_there false n p rest x is later = let h = later is in omega (arith, h)

spot_here : (w : Waiter) (n : ℕ) (o : Option Placed) (rest : Option Spot) (x : Spot) (m : ℕ) → spot_or n w o rest ≡ Some x → (rest ≡ Some x → suc n ≤ x.number) → n ≤ x.number
spot_here w n None rest x m is later = let h = later is in omega (arith, h)
spot_here w n (Some p) rest x m is later = spot_there (is_waiter w p.waiter) n p rest x is later

spot_above : (w : Waiter) (low : ℕ) (ss : List Slot) (x : Spot) → Rises low ss → spot_of w ss ≡ Some x → low ≤ x.number
spot_above w low [] x rises is = absurd (cc)
spot_above w low (s ∷ ss) x rises is = let h = spot_here w s.number s.placed (spot_of w ss) x 0 is (spot_above w (suc s.number) ss x rises.1) in omega (arith, h, rises.0)

-- a waiter's slot at index i: what runs there, and what is left where that slot is emptied
pub record Emptied (w : Waiter) (x : Spot) (ss : List Slot) (i : ℕ) : Type 0 where
  pub there : i < length ss
  pub left : placed_in (slice_set ss i (record { number = x.number; placed = None })) ≡ without_waiter w (placed_in ss)
  pub node : node_of w (placed_in ss) ≡ Some x.node
  pub spots : (v : Waiter) → spot_of v (slice_set ss i (record { number = x.number; placed = None })) ≡ (if is_waiter w v then None else spot_of v ss)

none_spot_by : (b : Bool) (y : Spot) (p : Placed) (r : Option Spot) (zs : List Placed) → length (cond b (p ∷ zs) zs) ≡ 0 → (length zs ≡ 0 → r ≡ None) → (if b then Some y else r) ≡ None
none_spot_by true y p r zs none later = absurd (omega (arith, none))
none_spot_by false y p r zs none later = later none

none_spot_here : (w : Waiter) (n : ℕ) (o : Option Placed) (ps : List Placed) (rest : Option Spot) → times_running w (with_placed o ps) ≡ 0 → (times_running w ps ≡ 0 → rest ≡ None) → spot_or n w o rest ≡ None
none_spot_here w n None ps rest none later = later none
none_spot_here w n (Some p) ps rest none later = none_spot_by (is_waiter w p.waiter) (record { node = p.node; number = n }) p rest (filter (λ (q : Placed). is_waiter w q.waiter) ps) none later

none_spot : (w : Waiter) (ss : List Slot) → times_running w (placed_in ss) ≡ 0 → spot_of w ss ≡ None
none_spot w [] none = refl
none_spot w (s ∷ ss) none = none_spot_here w s.number s.placed (placed_in ss) (spot_of w ss) none (none_spot w ss)

other_number : (n : ℕ) (x : Spot) → suc n ≤ x.number → (n == x.number) ≡ false
other_number n x above = grind (arith, nat_tests, above)

same_number : (n : ℕ) → (n == n) ≡ true
same_number n = grind (arith, nat_tests)

left_here : (b : Bool) (p : Placed) (xs ys : List Placed) → b ≡ false → xs ≡ ys → p ∷ xs ≡ cond (not b) (p ∷ ys) ys
left_here true p xs ys other is = absurd (cc)
left_here false p xs ys other is = ap (λ (l : List Placed). p ∷ l) is

node_here : (b : Bool) (p : Placed) (rest : Option Placed) (o : Option NodeNo) → b ≡ false → option_map (λ (q : Placed). q.node) rest ≡ o → option_map (λ (q : Placed). q.node) (cond b (Some p) rest) ≡ o
node_here true p rest o other is = absurd (cc)
node_here false p rest o other is = is

spots_here : (a c : Bool) (y : Spot) (r r' : Option Spot) → (c ≡ true → a ≡ true → ⊥) → r' ≡ (if c then None else r) → (if a then Some y else r') ≡ (if c then None else (if a then Some y else r))
spots_here true true y r r' apart is = absurd (apart refl refl)
spots_here true false y r r' apart is = refl
spots_here false c y r r' apart is = is

-- v is w, and w isn't z
one_of : (w v z : Waiter) → is_waiter w z ≡ false → is_waiter w v ≡ true → is_waiter v z ≡ true → ⊥
one_of w v z other same is = true≢false (sym (subst (λ (y : Waiter). is_waiter w y ≡ true) (waiter_is v z is) same) ∙ other)

other_by : (b : Bool) (w v z : Waiter) → is_waiter v z ≡ b → is_waiter w z ≡ true → is_waiter w v ≡ false → b ≡ false
other_by true w v z same is other = absurd (true≢false (sym (subst (λ (y : Waiter). is_waiter w y ≡ true) (sym (waiter_is v z same)) is) ∙ other))
other_by false w v z same is other = refl

-- w is z, and v isn't w
other_of : (w v z : Waiter) → is_waiter w z ≡ true → is_waiter w v ≡ false → is_waiter v z ≡ false
other_of w v z is other = other_by (is_waiter v z) w v z refl is other

-- the head is empty
emptied_empty : (w : Waiter) (x : Spot) (n : ℕ) (ss : List Slot) (i : ℕ) → Emptied w x ss i → Emptied w x (record { number = n; placed = None } ∷ ss) (suc i)
emptied_empty w x n ss i e = record { there = omega (arith, e.there); left = e.left; node = e.node; spots = e.spots }

-- the head is another's
emptied_other : (w : Waiter) (x : Spot) (n : ℕ) (p : Placed) (ss : List Slot) (i : ℕ) → is_waiter w p.waiter ≡ false → Emptied w x ss i → Emptied w x (record { number = n; placed = Some p } ∷ ss) (suc i)
emptied_other w x n p ss i other e = record {
  there = omega (arith, e.there);
  left = left_here (is_waiter w p.waiter) p (placed_in (slice_set ss i (record { number = x.number; placed = None }))) (without_waiter w (placed_in ss)) other e.left;
  node = node_here (is_waiter w p.waiter) p (find (λ (q : Placed). is_waiter w q.waiter) (placed_in ss)) (Some x.node) other e.node;
  spots = λ v. spots_here (is_waiter v p.waiter) (is_waiter w v) (record { node = p.node; number = n }) (spot_of v ss) (spot_of v (slice_set ss i (record { number = x.number; placed = None }))) (one_of w v p.waiter other) (e.spots v);
}

none_others : (b : Bool) (p : Placed) (zs : List Placed) → length (cond b (p ∷ zs) zs) ≤ 1 → b ≡ true → length zs ≡ 0
none_others true p zs once is = omega (arith, once)
none_others false p zs once is = absurd (cc)

fewer_others : (b : Bool) (p : Placed) (zs : List Placed) → length (cond b (p ∷ zs) zs) ≤ 1 → length zs ≤ 1
fewer_others true p zs once = omega (arith, once)
fewer_others false p zs once = once

left_own : (b : Bool) (p : Placed) (xs ys : List Placed) → b ≡ true → xs ≡ ys → xs ≡ cond (not b) (p ∷ ys) ys
left_own true p xs ys own is = is
left_own false p xs ys own is = absurd (cc)

node_own : (b : Bool) (p : Placed) (rest : Option Placed) → b ≡ true → option_map (λ (q : Placed). q.node) (cond b (Some p) rest) ≡ Some p.node
node_own true p rest own = refl
node_own false p rest own = absurd (cc)

spots_own : (c a : Bool) (w v z : Waiter) (y : Spot) (r : Option Spot) → is_waiter w v ≡ c → is_waiter v z ≡ a → is_waiter w z ≡ true → (is_waiter w v ≡ true → r ≡ None) → r ≡ (if c then None else (if a then Some y else r))
spots_own true a w v z y r own is own' none = none own
spots_own false true w v z y r own is own' none = absurd (true≢false (sym is ∙ other_of w v z own' own))
spots_own false false w v z y r own is own' none = refl

-- the head is the waiter's
emptied_own : (w : Waiter) (n : ℕ) (p : Placed) (ss : List Slot) → is_waiter w p.waiter ≡ true → times_running w (placed_in ss) ≡ 0 → Emptied w (record { node = p.node; number = n }) (record { number = n; placed = Some p } ∷ ss) zero
emptied_own w n p ss own none = record {
  there = omega arith;
  left = left_own (is_waiter w p.waiter) p (placed_in ss) (without_waiter w (placed_in ss)) own (sym (all_others (λ (q : Placed). is_waiter w q.waiter) (placed_in ss) none));
  node = node_own (is_waiter w p.waiter) p (find (λ (q : Placed). is_waiter w q.waiter) (placed_in ss)) own;
  spots = λ v. spots_own (is_waiter w v) (is_waiter v p.waiter) w v p.waiter (record { node = p.node; number = n }) (spot_of v ss) refl refl own
      (λ same. subst (λ (y : Waiter). spot_of y ss ≡ None) (waiter_is w v same) (none_spot w ss none));
}

place_later : (w : Waiter) (x : Spot) (n : ℕ) (o : Option Placed) (ss : List Slot) → suc n ≤ x.number → Emptied w x (record { number = n; placed = o } ∷ ss) (suc (place_of x.number ss)) → Emptied w x (record { number = n; placed = o } ∷ ss) (place_of x.number (record { number = n; placed = o } ∷ ss))
place_later w x n o ss above e = subst (λ (c : Bool). Emptied w x (record { number = n; placed = o } ∷ ss) (if c then zero else suc (place_of x.number ss))) (sym (other_number n x above)) e

emptied_head : (b : Bool) (w : Waiter) (x : Spot) (n : ℕ) (p : Placed) (ss : List Slot) → is_waiter w p.waiter ≡ b → Rises (suc n) ss → length (cond b (p ∷ filter (λ (q : Placed). is_waiter w q.waiter) (placed_in ss)) (filter (λ (q : Placed). is_waiter w q.waiter) (placed_in ss))) ≤ 1 → (if b then Some (record { node = p.node; number = n }) else spot_of w ss) ≡ Some x → (spot_of w ss ≡ Some x → Emptied w x ss (place_of x.number ss))
    → Emptied w x (record { number = n; placed = Some p } ∷ ss) (place_of x.number (record { number = n; placed = Some p } ∷ ss))
emptied_head true w x n p ss own rises once is later =
    let e : record { node = p.node; number = n } ≡ x = cc in
    subst (λ (y : Spot). Emptied w y (record { number = n; placed = Some p } ∷ ss) (place_of y.number (record { number = n; placed = Some p } ∷ ss))) e
    (subst (λ (c : Bool). Emptied w (record { node = p.node; number = n }) (record { number = n; placed = Some p } ∷ ss) (if c then zero else suc (place_of n ss))) (sym (same_number n)) (emptied_own w n p ss own (omega (arith, once))))
emptied_head false w x n p ss own rises once is later = place_later w x n (Some p) ss (spot_above w (suc n) ss x rises is) (emptied_other w x n p ss (place_of x.number ss) own (later is))

emptied_by : (w : Waiter) (x : Spot) (n : ℕ) (o : Option Placed) (ss : List Slot) → Rises (suc n) ss → times_running w (with_placed o (placed_in ss)) ≤ 1 → spot_or n w o (spot_of w ss) ≡ Some x → (times_running w (placed_in ss) ≤ 1 → spot_of w ss ≡ Some x → Emptied w x ss (place_of x.number ss))
    → Emptied w x (record { number = n; placed = o } ∷ ss) (place_of x.number (record { number = n; placed = o } ∷ ss))
emptied_by w x n None ss rises once is later = place_later w x n None ss (spot_above w (suc n) ss x rises is) (emptied_empty w x n ss (place_of x.number ss) (later once is))
emptied_by w x n (Some p) ss rises once is later = emptied_head (is_waiter w p.waiter) w x n p ss refl rises once is (later (fewer_others (is_waiter w p.waiter) p (filter (λ (q : Placed). is_waiter w q.waiter) (placed_in ss)) once))

pub emptied : (w : Waiter) (x : Spot) (low : ℕ) (ss : List Slot) → Rises low ss → times_running w (placed_in ss) ≤ 1 → spot_of w ss ≡ Some x → Emptied w x ss (place_of x.number ss)
emptied w x low [] rises once is = absurd (cc)
emptied w x low (s ∷ ss) rises once is = emptied_by w x s.number s.placed ss rises.1 once is (emptied w x (suc s.number) ss rises.1)

-- ---- no spot

no_node_by : (b : Bool) (y : Spot) (p : Placed) (rest : Option Spot) (zs : List Placed) → (if b then Some y else rest) ≡ None → (rest ≡ None → length zs ≡ 0) → length (cond b (p ∷ zs) zs) ≡ 0
no_node_by true y p rest zs is later = absurd (cc)
no_node_by false y p rest zs is later = later is

no_node_here : (w : Waiter) (n : ℕ) (o : Option Placed) (ps : List Placed) (rest : Option Spot) → spot_or n w o rest ≡ None → (rest ≡ None → times_running w ps ≡ 0) → times_running w (with_placed o ps) ≡ 0
no_node_here w n None ps rest is later = later is
no_node_here w n (Some p) ps rest is later = no_node_by (is_waiter w p.waiter) (record { node = p.node; number = n }) p rest (filter (λ (q : Placed). is_waiter w q.waiter) ps) is later

pub no_spot : (w : Waiter) (ss : List Slot) → spot_of w ss ≡ None → times_running w (placed_in ss) ≡ 0
no_spot w [] is = refl
no_spot w (s ∷ ss) is = no_node_here w s.number s.placed (placed_in ss) (spot_of w ss) is (no_spot w ss)

none_found : (b : Bool) (p : Placed) (rest : Option Placed) (zs : List Placed) → length (cond b (p ∷ zs) zs) ≡ 0 → (length zs ≡ 0 → option_map (λ (q : Placed). q.node) rest ≡ None) → option_map (λ (q : Placed). q.node) (cond b (Some p) rest) ≡ None
none_found true p rest zs none later = absurd (omega (arith, none))
none_found false p rest zs none later = later none

pub no_node : (w : Waiter) (ps : List Placed) → times_running w ps ≡ 0 → node_of w ps ≡ None
no_node w [] none = refl
no_node w (p ∷ ps) none = none_found (is_waiter w p.waiter) p (find (λ (q : Placed). is_waiter w q.waiter) ps) (filter (λ (q : Placed). is_waiter w q.waiter) ps) none (no_node w ps)

-- ---- what is kept of rising numbers

rises_set_here : (b : Bool) (k low : ℕ) (s : Slot) (ss : List Slot) (v : Slot) → (s.number == k) ≡ b → v.number ≡ k → low ≤ s.number → Rises (suc s.number) ss → Rises (suc s.number) (slice_set ss (place_of k ss) v) → Rises low (slice_set (s ∷ ss) (if b then zero else suc (place_of k ss)) v)
rises_set_here true k low s ss v is at le rises later = let e : s.number ≡ v.number = eq_of s.number k true is refl ∙ sym at in (omega (arith, e, le), subst (λ n. Rises (suc n) ss) e rises)
rises_set_here false k low s ss v is at le rises later = (le, later)

pub rises_set : (k low : ℕ) (ss : List Slot) (v : Slot) → v.number ≡ k → Rises low ss → Rises low (slice_set ss (place_of k ss) v)
rises_set k low [] v at rises = tt
rises_set k low (s ∷ ss) v at rises = rises_set_here (s.number == k) k low s ss v refl at rises.0 rises.1 (rises_set k (suc s.number) ss v at rises.1)

pub all_set : (P : Slot → Type 0) (i : ℕ) (ss : List Slot) (v : Slot) → P v → AllByRecursion P ss → AllByRecursion P (slice_set ss i v)
all_set P i [] v here all = tt
all_set P zero (s ∷ ss) v here all = (here, all.1)
all_set P (suc i) (s ∷ ss) v here all = (all.0, all_set P i ss v here all.1)

rises_filter_here : (b : Bool) (low : ℕ) (s : Slot) (ss : List Slot) → low ≤ s.number → Rises (suc s.number) ss → Rises low (cond b (s ∷ ss) ss)
rises_filter_here true low s ss le rises = (le, rises)
rises_filter_here false low s ss le rises = rises_from (suc s.number) low ss (omega (arith, le)) rises

pub rises_filter : (q : Slot → Bool) (low : ℕ) (ss : List Slot) → Rises low ss → Rises low (filter q ss)
rises_filter q low [] rises = tt
rises_filter q low (s ∷ ss) rises = rises_filter_here (q s) low s (filter q ss) rises.0 (rises_filter q (suc s.number) ss rises.1)

pub rises_push : (low n : ℕ) (ss : List Slot) (v : Slot) → Rises low ss → AllByRecursion (λ s. s.number < n) ss → low ≤ n → v.number ≡ n → Rises low (ss ++ v ∷ [])
rises_push low n [] v rises below le at = (omega (arith, le, at), tt)
rises_push low n (s ∷ ss) v rises below le at = (rises.0, rises_push (suc s.number) n ss v rises.1 below.1 (omega (arith, below.0)) at)

-- ---- as the calls of the list tell it

set_spot_if : (b b' : Bool) (y : Option Spot) → b ≡ b' → (if b then None else y) ≡ (if b' then None else y)
set_spot_if b b' y same = ap (λ (c : Bool). if c then None else y) same

below_here : (b : Bool) (k next : ℕ) (s : Slot) (ss : List Slot) → (s.number == k) ≡ b → (if b then zero else suc (place_of k ss)) < suc (length ss) → s.number < next → (place_of k ss < length ss → k < next) → k < next
below_here true k next s ss is lt here later = let e : s.number ≡ k = eq_of s.number k true is refl in omega (arith, e, here)
below_here false k next s ss is lt here later = later (omega (arith, lt))

number_below : (k next : ℕ) (ss : List Slot) → place_of k ss < length ss → AllByRecursion (λ s. s.number < next) ss → k < next
number_below k next [] lt all = absurd (omega (arith, lt))
number_below k next (s ∷ ss) lt all = below_here (s.number == k) k next s ss refl lt all.0 (λ h. number_below k next ss h all.1)

-- a waiter has gone
pub slots_emptied : (ss ss' : List Slot) (f f' : Waiter → Option Spot) (w : Waiter) (x : Spot) (v : Slot) (next room : ℕ) → AreSlots ss f next room → f w ≡ Some x → v ≡ record { number = x.number; placed = None } → ((u : Waiter) → f' u ≡ (if derived.ghosts.eq w u then None else f u)) → ss' ≡ slice_set ss (place_of x.number ss) v → AreSlots ss' f' next room
slots_emptied ss ss' f f' w x v next room ok is at updates set =
    let e = emptied w x 0 ss ok.rises (ok.once w) (sym (ok.known w) ∙ is) in
    let same : ss' ≡ slice_set ss (place_of x.number ss) (record { number = x.number; placed = None }) = set ∙ ap (slice_set ss (place_of x.number ss)) at in
    let left : placed_in ss' ≡ without_waiter w (placed_in ss) = ap placed_in same ∙ e.left in
    record {
      known = λ u. updates u ∙ ap (λ (b : Bool). if b then None else f u) (same_waiter w u) ∙ ap (λ (y : Option Spot). if is_waiter w u then None else y) (ok.known u) ∙ sym (ap (spot_of u) same ∙ e.spots u);
      once = λ u. let h : times_running u (placed_in ss') ≤ times_running u (placed_in ss) = subst (λ (ps : List Placed). times_running u ps ≤ times_running u (placed_in ss)) (sym left) (filter_less (λ (q : Placed). is_waiter u q.waiter) (λ (q : Placed). not (is_waiter w q.waiter)) (placed_in ss)) in omega (arith, h, ok.once u);
      rises = subst (Rises 0) (sym set) (rises_set x.number 0 ss v (ap (λ (s : Slot). s.number) at) ok.rises);
      below = subst (AllByRecursion (λ s. s.number < next)) (sym set) (all_set (λ s. s.number < next) (place_of x.number ss) ss v (let h = number_below x.number next ss e.there ok.below in let m : v.number ≡ x.number = ap (λ (s : Slot). s.number) at in omega (arith, h, m)) ok.below);
      numbers = ok.numbers;
    }

-- what is known of a waiter's slot
pub own_slot : (ss : List Slot) (f : Waiter → Option Spot) (w : Waiter) (x : Spot) (next room : ℕ) → AreSlots ss f next room → f w ≡ Some x → Emptied w x ss (place_of x.number ss)
own_slot ss f w x next room ok is = emptied w x 0 ss ok.rises (ok.once w) (sym (ok.known w) ∙ is)

pub no_slot : (ss : List Slot) (f : Waiter → Option Spot) (w : Waiter) (next room : ℕ) → AreSlots ss f next room → f w ≡ None → times_running w (placed_in ss) ≡ 0
no_slot ss f w next room ok is = no_spot w ss (sym (ok.known w) ∙ is)

-- ---- one comes

with_append : (o : Option Placed) (ps qs : List Placed) → with_placed o (ps ++ qs) ≡ with_placed o ps ++ qs
with_append None ps qs = refl
with_append (Some p) ps qs = refl

placed_push : (ss : List Slot) (n : ℕ) (p : Placed) → placed_in (ss ++ (record { number = n; placed = Some p }) ∷ []) ≡ placed_in ss ++ p ∷ []
placed_push [] n p = refl
placed_push (s ∷ ss) n p = ap (with_placed s.placed) (placed_push ss n p) ∙ with_append s.placed (placed_in ss) (p ∷ [])

spot_push_by : (a c : Bool) (x y : Spot) (r r' : Option Spot) → (a ≡ true → c ≡ true → ⊥) → r' ≡ (if c then Some y else r) → (if a then Some x else r') ≡ (if c then Some y else (if a then Some x else r))
spot_push_by true true x y r r' apart is = absurd (apart refl refl)
spot_push_by true false x y r r' apart is = refl
spot_push_by false c x y r r' apart is = is

head_none : (b : Bool) (x : Spot) (r : Option Spot) → (if b then Some x else r) ≡ None → b ≡ false
head_none true x r is = absurd (cc)
head_none false x r is = refl

tail_none : (b : Bool) (x : Spot) (r : Option Spot) → (if b then Some x else r) ≡ None → r ≡ None
tail_none true x r is = absurd (cc)
tail_none false x r is = is

-- w isn't z, so no v is both
not_both : (v w z : Waiter) → is_waiter w z ≡ false → is_waiter v z ≡ true → is_waiter v w ≡ true → ⊥
not_both v w z other is same = true≢false (sym (subst (λ (y : Waiter). is_waiter y z ≡ true) (waiter_is v w same) is) ∙ other)

spot_push_here : (v w : Waiter) (node : NodeNo) (n m : ℕ) (o : Option Placed) (r rw r' : Option Spot) → spot_or m w o rw ≡ None → (rw ≡ None → r' ≡ (if is_waiter v w then Some (record { node = node; number = n }) else r)) → spot_or m v o r' ≡ (if is_waiter v w then Some (record { node = node; number = n }) else spot_or m v o r)
spot_push_here v w node n m None r rw r' none is = is none
spot_push_here v w node n m (Some p) r rw r' none is =
    spot_push_by (is_waiter v p.waiter) (is_waiter v w) (record { node = p.node; number = m }) (record { node = node; number = n }) r r'
    (not_both v w p.waiter (head_none (is_waiter w p.waiter) (record { node = p.node; number = m }) rw none))
    (is (tail_none (is_waiter w p.waiter) (record { node = p.node; number = m }) rw none))

spot_push : (v w : Waiter) (node : NodeNo) (n : ℕ) (ss : List Slot) → spot_of w ss ≡ None → spot_of v (ss ++ (record { number = n; placed = Some (record { waiter = w; node = node }) }) ∷ []) ≡ (if is_waiter v w then Some (record { node = node; number = n }) else spot_of v ss)
spot_push v w node n [] none = refl
spot_push v w node n (s ∷ ss) none = spot_push_here v w node n s.number s.placed (spot_of v ss) (spot_of w ss) (spot_of v (ss ++ (record { number = n; placed = Some (record { waiter = w; node = node }) }) ∷ [])) none (spot_push v w node n ss)

all_push : (P : Slot → Type 0) (ss : List Slot) (v : Slot) → AllByRecursion P ss → P v → AllByRecursion P (ss ++ v ∷ [])
all_push P [] v all here = (here, tt)
all_push P (s ∷ ss) v all here = (all.0, all_push P ss v all.1 here)

below_more : (n : ℕ) (ss : List Slot) → AllByRecursion (λ s. s.number < n) ss → AllByRecursion (λ s. s.number < n + 1) ss
below_more n [] all = tt
below_more n (s ∷ ss) all = (omega (arith, all.0), below_more n ss all.1)

once_more : (b : Bool) (v w : Waiter) (ps : List Placed) (t : ℕ) → is_waiter v w ≡ b → times_running w ps ≡ 0 → t ≡ times_running v ps + (if b then 1 else 0) → times_running v ps ≤ 1 → t ≤ 1
once_more false v w ps t is none at once = omega (arith, at, once)
once_more true v w ps t is none at once = let h : times_running v ps ≡ 0 = subst (λ (x : Waiter). times_running x ps ≡ 0) (sym (waiter_is v w is)) none in omega (arith, h, at)

pub slots_pushed : (ss ss' : List Slot) (f f' : Waiter → Option Spot) (w : Waiter) (node : NodeNo) (next room : ℕ) → AreSlots ss f next room → 0 < room → times_running w (placed_in ss) ≡ 0 → ss' ≡ ss ++ (record { number = next; placed = Some (record { waiter = w; node = node }) }) ∷ []
    → ((u : Waiter) → f' u ≡ (if derived.ghosts.eq w u then Some (record { node = node; number = next }) else f u)) → AreSlots ss' f' (next + 1) (room - 1)
slots_pushed ss ss' f f' w node next room ok some none is updates =
    let v : Slot = record { number = next; placed = Some (record { waiter = w; node = node }) } in
    record {
      known = λ u. updates u ∙ ap (λ (b : Bool). if b then Some (record { node = node; number = next }) else f u) (same_waiter w u ∙ waiter_flips w u) ∙ ap (λ (y : Option Spot). if is_waiter u w then Some (record { node = node; number = next }) else y) (ok.known u) ∙ sym (ap (spot_of u) is ∙ spot_push u w node next ss (none_spot w ss none));
      once = λ u. once_more (is_waiter u w) u w (placed_in ss) (times_running u (placed_in ss')) refl none (ap (times_running u) (ap placed_in is ∙ placed_push ss next (record { waiter = w; node = node })) ∙ times_pushed u (placed_in ss) (record { waiter = w; node = node })) (ok.once u);
      rises = subst (Rises 0) (sym is) (rises_push 0 next ss v ok.rises ok.below (omega arith) refl);
      below = subst (AllByRecursion (λ s. s.number < next + 1)) (sym is) (all_push (λ s. s.number < next + 1) ss v (below_more next ss ok.below) (omega arith));
      numbers = omega (arith, some, ok.numbers);
    }

pub pushed_placed : (ss ss' : List Slot) (w : Waiter) (node : NodeNo) (next : ℕ) (ps : List Placed) → placed_in ss ≡ ps → ss' ≡ ss ++ (record { number = next; placed = Some (record { waiter = w; node = node }) }) ∷ [] → placed_in ss' ≡ ps ++ (record { waiter = w; node = node }) ∷ []
pushed_placed ss ss' w node next ps view is = ap placed_in is ∙ placed_push ss next (record { waiter = w; node = node }) ∙ ap (λ (l : List Placed). l ++ (record { waiter = w; node = node }) ∷ []) view

few_here : (o : Option Placed) (ps : List Placed) (n : ℕ) → length ps ≤ n → length (with_placed o ps) ≤ suc n
few_here None ps n le = omega (arith, le)
few_here (Some p) ps n le = omega (arith, le)

pub few_placed : (ss : List Slot) → length (placed_in ss) ≤ length ss
few_placed [] = omega arith
few_placed (s ∷ ss) = few_here s.placed (placed_in ss) (length ss) (few_placed ss)

-- ---- slots are dropped

full_here : (o : Option Placed) (n : ℕ) (ss : List Slot) → placed_in (cond (is_some o) (record { number = n; placed = o } ∷ ss) ss) ≡ with_placed o (placed_in ss)
full_here None n ss = refl
full_here (Some p) n ss = refl

pub placed_full : (ss : List Slot) → placed_in (filter is_full ss) ≡ placed_in ss
unfolding is_full
placed_full [] = refl
placed_full (s ∷ ss) = full_here s.placed s.number (filter is_full ss) ∙ ap (with_placed s.placed) (placed_full ss)

spot_full_here : (v : Waiter) (o : Option Placed) (n : ℕ) (ss : List Slot) → spot_of v (cond (is_some o) (record { number = n; placed = o } ∷ ss) ss) ≡ spot_or n v o (spot_of v ss)
spot_full_here v None n ss = refl
spot_full_here v (Some p) n ss = refl

spot_full : (v : Waiter) (ss : List Slot) → spot_of v (filter is_full ss) ≡ spot_of v ss
unfolding is_full
spot_full v [] = refl
spot_full v (s ∷ ss) = spot_full_here v s.placed s.number (filter is_full ss) ∙ ap (spot_or s.number v s.placed) (spot_full v ss)

pub slots_full : (ss ss' : List Slot) (f : Waiter → Option Spot) (next room : ℕ) → AreSlots ss f next room → ss' ≡ filter is_full ss → AreSlots ss' f next room
slots_full ss ss' f next room ok is = record {
  known = λ v. ok.known v ∙ sym (ap (spot_of v) is ∙ spot_full v ss);
  once = λ v. subst (λ (ps : List Placed). times_running v ps ≤ 1) (sym (ap placed_in is ∙ placed_full ss)) (ok.once v);
  rises = subst (Rises 0) (sym is) (rises_filter is_full 0 ss ok.rises);
  below = subst (AllByRecursion (λ s. s.number < next)) (sym is) (all_filtered (λ s. s.number < next) is_full ss ok.below);
  numbers = ok.numbers;
}

-- ---- what ran on a node is dropped

elsewhere_here : (b : Bool) (p : Placed) (n : ℕ) (ss : List Slot) (ps : List Placed) → placed_in ss ≡ ps → placed_in (cond (not b) (record { number = n; placed = Some p } ∷ ss) ss) ≡ cond (not b) (p ∷ ps) ps
elsewhere_here true p n ss ps is = is
elsewhere_here false p n ss ps is = ap (λ (l : List Placed). p ∷ l) is

elsewhere_head : (node : NodeNo) (o : Option Placed) (n : ℕ) (ss : List Slot) (ps : List Placed) → placed_in ss ≡ without_node node ps → placed_in (cond (elsewhere node (record { number = n; placed = o })) (record { number = n; placed = o } ∷ ss) ss) ≡ without_node node (with_placed o ps)
unfolding elsewhere
elsewhere_head node None n ss ps is = is
elsewhere_head node (Some p) n ss ps is = elsewhere_here (is_node p.node node) p n ss (without_node node ps) is ∙ ap (λ (b : Bool). cond (not b) (p ∷ without_node node ps) (without_node node ps)) (node_flips p.node node)

pub placed_elsewhere : (node : NodeNo) (ss : List Slot) → placed_in (filter (elsewhere node) ss) ≡ without_node node (placed_in ss)
placed_elsewhere node [] = refl
placed_elsewhere node (s ∷ ss) = elsewhere_head node s.placed s.number (filter (elsewhere node) ss) (placed_in ss) (placed_elsewhere node ss)

dropped : (b : Bool) (x : Spot) → b ≡ true → cond (not b) (Some x) None ≡ None
dropped true x is = refl
dropped false x is = absurd (cc)

kept_here : (b : Bool) (x : Spot) → b ≡ false → cond (not b) (Some x) None ≡ Some x
kept_here true x is = absurd (cc)
kept_here false x is = refl

chosen_here : (b : Bool) (x : Spot) (r : Option Spot) → b ≡ true → (if b then Some x else r) ≡ Some x
chosen_here true x r is = refl
chosen_here false x r is = absurd (cc)

passed_here : (b : Bool) (x : Spot) (r : Option Spot) → b ≡ false → (if b then Some x else r) ≡ r
passed_here true x r is = absurd (cc)
passed_here false x r is = refl

spot_away : (a b : Bool) (v : Waiter) (node : NodeNo) (p : Placed) (n : ℕ) (ss : List Slot) (r : Option Spot) → is_waiter v p.waiter ≡ a → is_node p.node node ≡ b → spot_of v ss ≡ option_filter (is_away node) r → (a ≡ true → r ≡ None)
    → spot_of v (cond (not b) (record { number = n; placed = Some p } ∷ ss) ss) ≡ option_filter (is_away node) (if a then Some (record { node = p.node; number = n }) else r)
unfolding is_away
spot_away true true v node p n ss r is at rest none = rest ∙ ap (option_filter (is_away node)) (none refl) ∙ sym (dropped (is_node p.node node) (record { node = p.node; number = n }) at)
spot_away true false v node p n ss r is at rest none = chosen_here (is_waiter v p.waiter) (record { node = p.node; number = n }) (spot_of v ss) is ∙ sym (kept_here (is_node p.node node) (record { node = p.node; number = n }) at)
spot_away false true v node p n ss r is at rest none = rest
spot_away false false v node p n ss r is at rest none = passed_here (is_waiter v p.waiter) (record { node = p.node; number = n }) (spot_of v ss) is ∙ rest

spot_away_head : (v : Waiter) (node : NodeNo) (o : Option Placed) (n : ℕ) (ss rest : List Slot) → times_running v (with_placed o (placed_in rest)) ≤ 1 → (times_running v (placed_in rest) ≤ 1 → spot_of v ss ≡ option_filter (is_away node) (spot_of v rest))
    → spot_of v (cond (elsewhere node (record { number = n; placed = o })) (record { number = n; placed = o } ∷ ss) ss) ≡ option_filter (is_away node) (spot_or n v o (spot_of v rest))
unfolding elsewhere
spot_away_head v node None n ss rest once is = is once
spot_away_head v node (Some p) n ss rest once is =
    spot_away (is_waiter v p.waiter) (is_node p.node node) v node p n ss (spot_of v rest) refl refl (is (fewer_others (is_waiter v p.waiter) p (filter (λ (q : Placed). is_waiter v q.waiter) (placed_in rest)) once))
    (λ here. none_spot v rest (none_others (is_waiter v p.waiter) p (filter (λ (q : Placed). is_waiter v q.waiter) (placed_in rest)) once here))

spot_elsewhere : (v : Waiter) (node : NodeNo) (ss : List Slot) → times_running v (placed_in ss) ≤ 1 → spot_of v (filter (elsewhere node) ss) ≡ option_filter (is_away node) (spot_of v ss)
spot_elsewhere v node [] once = refl
spot_elsewhere v node (s ∷ ss) once = spot_away_head v node s.placed s.number (filter (elsewhere node) ss) ss once (spot_elsewhere v node ss)

pub slots_away : (ss ss' : List Slot) (f f' : Waiter → Option Spot) (node : NodeNo) (next room : ℕ) → AreSlots ss f next room → ((u : Waiter) → f' u ≡ option_filter (is_away node) (f u)) → ss' ≡ filter (elsewhere node) ss → AreSlots ss' f' next room
slots_away ss ss' f f' node next room ok updates is = record {
  known = λ v. updates v ∙ ap (option_filter (is_away node)) (ok.known v) ∙ sym (ap (spot_of v) is ∙ spot_elsewhere v node ss (ok.once v));
  once = λ v. let h : times_running v (placed_in ss') ≤ times_running v (placed_in ss) = subst (λ (ps : List Placed). times_running v ps ≤ times_running v (placed_in ss)) (sym (ap placed_in is ∙ placed_elsewhere node ss)) (filter_less (λ (q : Placed). is_waiter v q.waiter) (λ (q : Placed). not (is_node node q.node)) (placed_in ss)) in omega (arith, h, ok.once v);
  rises = subst (Rises 0) (sym is) (rises_filter (elsewhere node) 0 ss ok.rises);
  below = subst (AllByRecursion (λ s. s.number < next)) (sym is) (all_filtered (λ s. s.number < next) (elsewhere node) ss ok.below);
  numbers = ok.numbers;
}

waiter_laws : IsEquivalence derived.ghosts.eq
waiter_laws = record {
  refl = λ x. same_waiter x x ∙ waiter_refl x;
  symm = λ x y. same_waiter x y ∙ waiter_flips x y ∙ sym (same_waiter y x);
  congr = λ x y z same. ap (λ (w : Waiter). derived.ghosts.eq w z) (waiter_is x y (sym (same_waiter x y) ∙ same));
}

-- what a look-up finds among the spots that are kept
pub found_away : (node : NodeNo) (es : List (Waiter × Spot)) (w : Waiter) → IsDistinct derived.ghosts.eq (keys_of es) → lookup (derived.ghosts.eq w) (filter (λ e. is_away node e.1) es) ≡ option_filter (is_away node) (lookup (derived.ghosts.eq w) es)
found_away node es w distinct = lookup-filter-values waiter_laws (is_away node) w es distinct

-- ---- the jobs on a node

placed_append : (ss ts : List Slot) → placed_in (ss ++ ts) ≡ placed_in ss ++ placed_in ts
placed_append [] ts = refl
placed_append (s ∷ ss) ts = ap (with_placed s.placed) (placed_append ss ts) ∙ with_append s.placed (placed_in ss) (placed_in ts)

map_append : {A B : Type 0} (f : A → B) (xs ys : List A) → map f (xs ++ ys) ≡ map f xs ++ map f ys
map_append f [] ys = refl
map_append f (x ∷ xs) ys = ap (λ (l : List _). f x ∷ l) (map_append f xs ys)

pub jobs_more : (node : NodeNo) (ss : List Slot) (s : Slot) → jobs_at node (placed_in (ss ++ s ∷ [])) ≡ jobs_at node (placed_in ss) ++ jobs_at node (placed_in (s ∷ []))
jobs_more node ss s =
    ap (jobs_at node) (placed_append ss (s ∷ []))
    ∙ ap (map (λ (p : Placed). p.waiter)) (filter-append (λ (p : Placed). is_node node p.node) (placed_in ss) (placed_in (s ∷ [])))
    ∙ map_append (λ (p : Placed). p.waiter) (filter (λ (p : Placed). is_node node p.node) (placed_in ss)) (filter (λ (p : Placed). is_node node p.node) (placed_in (s ∷ [])))

pub slot_number : (k i : ℕ) (ss : List Slot) (s : Slot) → i ≡ place_of k ss → place_of k ss < length ss → s ≡ get_or ss i s → s.number ≡ k
slot_number k i ss s at there is = ap (λ (x : Slot). x.number) (is ∙ ap (λ (j : ℕ). get_or ss j s) at) ∙ at_place k ss s there

-- the job of one slot, where it runs on the node
one_job : (b : Bool) (w : Waiter) (p : Placed) → b ≡ true → p.waiter ≡ w → w ∷ [] ≡ map (λ (q : Placed). q.waiter) (cond b (p ∷ []) [])
one_job true w p is same = ap (λ (x : Waiter). x ∷ []) (sym same)
one_job false w p is same = absurd (cc)

no_job : (b : Bool) (p : Placed) → b ≡ false → ◌≡◌ {A = List Waiter} [] (map (λ (q : Placed). q.waiter) (cond b (p ∷ []) []))
no_job true p is = absurd (cc)
no_job false p is = refl

pub job_here : (node : NodeNo) (p : Placed) (o : Option Placed) → o ≡ Some p → is_node node p.node ≡ true → p.waiter ∷ [] ≡ jobs_at node (with_placed o [])
job_here node p None is there = absurd (cc)
job_here node p (Some q) is there = let e : q ≡ p = cc in one_job (is_node node q.node) p.waiter q (ap (λ (x : Placed). is_node node x.node) e ∙ there) (ap (λ (x : Placed). x.waiter) e)

pub job_elsewhere : (node : NodeNo) (p : Placed) (o : Option Placed) → o ≡ Some p → is_node node p.node ≡ false → ◌≡◌ {A = List Waiter} [] (jobs_at node (with_placed o []))
job_elsewhere node p None is there = absurd (cc)
job_elsewhere node p (Some q) is there = let e : q ≡ p = cc in no_job (is_node node q.node) q (ap (λ (x : Placed). is_node node x.node) e ∙ there)

pub node_tested : (a b : NodeNo) (x y : Bool) → x ≡ (a.0 == b.0) → x ≡ y → is_node b a ≡ y
unfolding is_node
node_tested a b x y is at = node_flips b a ∙ sym is ∙ at

-- ---- whether one runs

none_runs : (b : Bool) (n : ℕ) → b ≡ false → n ≡ 0 → (IsTrue b → 0 < n) × (0 < n → IsTrue b)
none_runs true n at none = absurd (true≢false at)
none_runs false n at none = ((λ h. absurd (true≢false (sym h))), (λ h. absurd (omega (arith, h, none))))

some_runs : (b : Bool) (n : ℕ) → b ≡ true → 0 < n → (IsTrue b → 0 < n) × (0 < n → IsTrue b)
some_runs true n at some = ((λ h. some), (λ h. refl))
some_runs false n at some = absurd (true≢false (sym at))

has_here : (b : Bool) (p : Placed) (zs : List Placed) (y x : Spot) (r : Option Spot) → (if b then Some y else r) ≡ Some x → (r ≡ Some x → 0 < length zs) → 0 < length (cond b (p ∷ zs) zs)
has_here true p zs y x r is later = omega arith
has_here false p zs y x r is later = later is

has_head : (w : Waiter) (n : ℕ) (o : Option Placed) (ps : List Placed) (r : Option Spot) (x : Spot) → spot_or n w o r ≡ Some x → (r ≡ Some x → 0 < times_running w ps) → 0 < times_running w (with_placed o ps)
has_head w n None ps r x is later = later is
has_head w n (Some p) ps r x is later = has_here (is_waiter w p.waiter) p (filter (λ (q : Placed). is_waiter w q.waiter) ps) (record { node = p.node; number = n }) x r is later

has_spot : (w : Waiter) (ss : List Slot) (x : Spot) → spot_of w ss ≡ Some x → 0 < times_running w (placed_in ss)
has_spot w [] x is = absurd (cc)
has_spot w (s ∷ ss) x is = has_head w s.number s.placed (placed_in ss) (spot_of w ss) x is (has_spot w ss x)

spot_runs : (w : Waiter) (ss : List Slot) (o : Option Spot) → spot_of w ss ≡ o → (b : Bool) → b ≡ is_some o → (IsTrue b → 0 < times_running w (placed_in ss)) × (0 < times_running w (placed_in ss) → IsTrue b)
spot_runs w ss None is b at = none_runs b (times_running w (placed_in ss)) at (no_spot w ss is)
spot_runs w ss (Some x) is b at = some_runs b (times_running w (placed_in ss)) at (has_spot w ss x is)

pub slot_runs : (ss : List Slot) (f : Waiter → Option Spot) (w : Waiter) (next room : ℕ) (ps : List Placed) → AreSlots ss f next room → placed_in ss ≡ ps → (b : Bool) → b ≡ is_some (f w) → (IsTrue b → 0 < times_running w ps) × (0 < times_running w ps → IsTrue b)
slot_runs ss f w next room ps ok view b is = subst (λ (l : List Placed). (IsTrue b → 0 < times_running w l) × (0 < times_running w l → IsTrue b)) view (spot_runs w ss (f w) (sym (ok.known w)) b is)
