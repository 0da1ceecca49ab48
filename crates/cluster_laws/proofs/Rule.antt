-- Placing is the rule of one place, repeated until none may run.
use Rattle.std.proofs.Common.{◌≡◌, refl, sym, ap, ◌∙◌, ◌+◌, Bool, true, false, ◌&&◌, ◌||◌, ◌==◌, ℤ, List, [], ◌∷◌, Option, Some, None, arith}
use Rattle.std.specs.Prelude.{if◌then◌else◌, nat_lt, option_map, pos}
use Rattle.std.specs.Ordering.{int_eq}
use Rattle.std.proofs.lemmas.Bool.Decides.{nat_tests}
use Rattle.base_names.specs.declared.node.NodeLine.{NodeLine}
use Rattle.base_names.specs.declared.node.NodeNo.{NodeNo}
use Rattle.base_names.specs.declared.node.Placed.{Placed}
use Rattle.cluster_defs.specs.Cluster.{Waiting}
use Rattle.cluster_defs.specs.Placement.{Choice, best_node, by_choice, choice, has_room, is_alive, keeping, may_run, occupied, places}
use Rattle.cluster_defs.specs.Waiters.{is_node}

-- more that runs leaves no more room
less_room : (full : Bool) (n : NodeLine) → (if full then (n.hard == 0) || nat_lt n.running n.hard else nat_lt n.running n.limit) ≡ false → (if full then (n.hard == 0) || nat_lt (n.running + 1) n.hard else nat_lt (n.running + 1) n.limit) ≡ false
less_room true n h = grind (arith, nat_tests, h)
less_room false n h = grind (arith, nat_tests, h)

less_run : (alive : Bool) (p : ℤ) (n : NodeLine) → (alive && has_room p n) ≡ false → (alive && has_room p (record n { running = n.running + 1 })) ≡ false
less_run true p n h = less_room (int_eq p (pos 100)) n h
less_run false p n h = refl

still_none : (p : ℤ) (node : NodeNo) (n : NodeLine) (b : Bool) → may_run p n ≡ false → may_run p (if b then record n { running = n.running + 1 } else n) ≡ false
still_none p node n true h = less_run (is_alive n.state) p n h
still_none p node n false h = h

none_here : (b : Bool) (x : NodeLine) (rest : Option NodeLine) → (if b then Some x else rest) ≡ None → b ≡ false
none_here true x rest h = absurd (grind (arith, h))
none_here false x rest h = refl

none_there : (b : Bool) (x : NodeLine) (rest : Option NodeLine) → (if b then Some x else rest) ≡ None → rest ≡ None
none_there true x rest h = absurd (grind (arith, h))
none_there false x rest h = h

pub if_off : {A : Type 0} (b : Bool) (x y : A) → b ≡ false → (if b then x else y) ≡ y
if_off true x y h = absurd (grind (arith, h))
if_off false x y h = refl

pub none_later : (p : ℤ) (node : NodeNo) (ns : List NodeLine) → best_node p ns ≡ None → best_node p (occupied node ns) ≡ None
none_later p node [] h = refl
none_later p node (n ∷ ns) h =
    if_off (may_run p (if is_node node n.node then record n { running = n.running + 1 } else n)) _ _ (still_none p node n (is_node node n.node) (none_here (may_run p n) _ (best_node p ns) h))
    ∙ none_later p node ns (none_there (may_run p n) _ (best_node p ns) h)

places_skip : (w : Waiting) (ws : List Waiting) (ns : List NodeLine) (x : Option NodeLine) → best_node w.priority ns ≡ x → x ≡ None → places (w ∷ ws) ns ≡ places ws ns
places_skip w ws ns x is none = let e : best_node w.priority ns ≡ None = is ∙ none in rw (e, places)

kept_choice : (w : Waiting) (ws : List Waiting) (ns : List NodeLine) (c : Option Choice) → best_node w.priority ns ≡ None → by_choice c ns ≡ by_choice (option_map (keeping w) c) ns
kept_choice w ws ns None none = refl
kept_choice w ws ns (Some c) none = ap (λ (ps : List Placed). record { waiter = c.waiter; node = c.node } ∷ ps) (sym (places_skip w c.left (occupied c.node ns) None (none_later w.priority c.node ns none) refl))

repeated_by : (w : Waiting) (ws : List Waiting) (ns : List NodeLine) (x : Option NodeLine) → best_node w.priority ns ≡ x → places ws ns ≡ by_choice (choice ws ns) ns → places (w ∷ ws) ns ≡ by_choice (choice (w ∷ ws) ns) ns
repeated_by w ws ns (Some n) is rest = rw (is, places) (rw (is, choice))
repeated_by w ws ns None is rest = rw (is, places) (rw (is, choice) (rest ∙ kept_choice w ws ns (choice ws ns) is))

pub placing_is_repeated : (ws : List Waiting) (ns : List NodeLine) → places ws ns ≡ by_choice (choice ws ns) ns
placing_is_repeated [] ns = refl
placing_is_repeated (w ∷ ws) ns = repeated_by w ws ns (best_node w.priority ns) refl (placing_is_repeated ws ns)
