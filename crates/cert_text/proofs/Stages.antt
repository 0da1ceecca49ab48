-- What a stage has read, and that each step reads one entry more.
use Rattle.std.proofs.Common.{◌≡◌, refl, sym, ◌∙◌, ap, subst, ℕ, zero, suc, ◌+◌, ◌-◌, ◌<◌, ◌==◌, Bool, true, false, not, List, [], ◌∷◌, ◌++◌, length, map, Some, arith, append_assoc}
use Rattle.std.specs.Prelude.{◌&&◌, is_some, nat_lt, slice_get}
use Rattle.std.specs.List.{list_all}
use Rattle.std.proofs.lemmas.Bool.{and_parts, and_from}
use Rattle.std.proofs.lemmas.List.{append-nil, length-append}
use Rattle.model_data.specs.declared.solution.Cert.TheVariants.{Ray, Tree}
use Rattle.model_data.specs.declared.solution.CertNode.{CertNode}
use Rattle.model_data.specs.declared.solution.CertNode.TheVariants.{Split, Bound, Farkas}
use Rattle.model_data.specs.declared.solution.Outcome.{Outcome}
use Rattle.model_data.specs.declared.solution.Weight.{Weight}
use Rattle.model_data.specs.declared.solution.Weights.{Weights}
use Rattle.solve_defs.specs.Certificates.{are_whole}
use Rattle.solve_defs.specs.Values.{is_zero}
use Rattle.solve_defs.specs.declared.status.TheConstants.{NUMERIC}
use Rattle.cert_text.specs.Spelling.{IsWritable, are_lawful, are_rising, cert_entries, entries, is_lawful_node, node_entries, outcome_entries, weight_entries}
use Rattle.cert_text.specs.Stages.{is_empty, last_place, may_follow, missing_behind, weights_with, with_weight}
use Rattle.cert_text.specs.declared.entry.Claim.TheVariants as claim
use Rattle.cert_text.specs.declared.entry.Entry.{Entry}
use Rattle.cert_text.specs.declared.entry.Entry.TheVariants as entry
use Rattle.cert_text.specs.declared.entry.Side.{Side}
use Rattle.cert_text.specs.declared.entry.Side.TheVariants as side
use Rattle.cert_text.specs.declared.stage.Stage.{Stage}
use Rattle.cert_text.specs.declared.stage.Stage.TheVariants as stage
use Rattle.cert_text.proofs.Basics.{chosen, mapped}

-- ---- trees that aren't over

-- how many subtrees are to come behind nodes, where so many were to come before them
unfoldable pub left_behind : ℕ → List CertNode → ℕ
left_behind missing [] = missing
left_behind missing (node ∷ nodes) = left_behind (missing_behind missing node) nodes

-- each of the nodes stands where a subtree is to come
unfoldable pub go_on : ℕ → List CertNode → Bool
go_on missing [] = true
go_on zero (node ∷ nodes) = false
go_on (suc missing) (node ∷ nodes) = go_on (missing_behind (suc missing) node) nodes

-- what a stage has read
abbrev pub read_so_far : Stage → List Entry
read_so_far stage.Start = []
read_so_far (stage.Outcome o) = outcome_entries o
read_so_far (stage.Nothing o) = outcome_entries o ++ entry.Nothing ∷ []
read_so_far (stage.Ray o ray) = outcome_entries o ++ cert_entries (Ray ray.point ray.direction)
read_so_far (stage.Tree o missing nodes last) = outcome_entries o ++ cert_entries (Tree (nodes ++ last ∷ []))
read_so_far (stage.Whole proof) = entries proof.outcome proof.cert

abbrev pub HasWide : Outcome → Type 0
HasWide o = is_some o.wide ≡ (o.status == NUMERIC)

abbrev pub MayHaveWide : Outcome → Type 0
MayHaveWide o = is_some o.wide ≡ true → (o.status == NUMERIC) ≡ true

pub record IsTreeSoFar (missing : ℕ) (nodes : List CertNode) : Type 0 where
  pub stand : go_on 1 nodes ≡ true
  pub missing_is : left_behind 1 nodes ≡ missing
  pub lawful : list_all is_lawful_node nodes ≡ true

-- what holds of every stage that is reached
abbrev pub IsSound : Stage → Type 0
IsSound stage.Start = Unit {0}
IsSound (stage.Outcome o) = MayHaveWide o
IsSound (stage.Nothing o) = HasWide o
IsSound (stage.Ray o ray) = HasWide o
IsSound (stage.Tree o missing nodes last) = HasWide o × IsTreeSoFar missing (nodes ++ last ∷ [])
IsSound (stage.Whole proof) = IsWritable proof.outcome proof.cert

-- a step reads its entry, and the stage behind it is sound
pub record IsStep (s : Stage) (e : Entry) (t : Stage) : Type 0 where
  pub reads : read_so_far t ≡ read_so_far s ++ e ∷ []
  pub sound : IsSound t

-- ---- lists with one more item

pub more-map : {A B : Type 0} (f : A → B) (xs : List A) (x : A) → map f (xs ++ x ∷ []) ≡ map f xs ++ f x ∷ []
more-map f [] x = refl
more-map f (y ∷ xs) x = ap (λ ys. f y ∷ ys) (more-map f xs x)

more-all : {A : Type 0} (p : A → Bool) (xs : List A) (x : A) → list_all p xs ≡ true → p x ≡ true → list_all p (xs ++ x ∷ []) ≡ true
more-all p [] x h k = and_from (p x) true k refl
more-all p (y ∷ xs) x h k = let parts = and_parts (p y) (list_all p xs) h in and_from (p y) (list_all p (xs ++ x ∷ [])) parts.0 (more-all p xs x parts.1 k)

pub front-all : {A : Type 0} (p : A → Bool) (xs : List A) (x : A) → list_all p (xs ++ x ∷ []) ≡ true → (list_all p xs ≡ true) × (p x ≡ true)
front-all p [] x h = (refl, (and_parts (p x) true h).0)
front-all p (y ∷ xs) x h =
    let parts = and_parts (p y) (list_all p (xs ++ x ∷ [])) h in
    let rest = front-all p xs x parts.1 in
    (and_from (p y) (list_all p xs) parts.0 rest.0, rest.1)

left_behind-more : (missing : ℕ) (nodes : List CertNode) (node : CertNode) → left_behind missing (nodes ++ node ∷ []) ≡ missing_behind (left_behind missing nodes) node
unfolding left_behind
left_behind-more missing [] node = refl
left_behind-more missing (n ∷ nodes) node = left_behind-more (missing_behind missing n) nodes node

go_on-more : (missing : ℕ) (nodes : List CertNode) (node : CertNode) → go_on missing nodes ≡ true → 0 < left_behind missing nodes → go_on missing (nodes ++ node ∷ []) ≡ true
unfolding left_behind go_on
go_on-more zero [] node h some = absurd (omega (arith, some))
go_on-more (suc missing) [] node h some = refl
go_on-more zero (n ∷ nodes) node h some = absurd cc
go_on-more (suc missing) (n ∷ nodes) node h some = go_on-more (missing_behind (suc missing) n) nodes node h some

-- a tree is whole where its nodes stand and none is to come
pub are_whole-from : (missing : ℕ) (nodes : List CertNode) → go_on missing nodes ≡ true → left_behind missing nodes ≡ 0 → are_whole missing nodes ≡ true
unfolding left_behind go_on
are_whole-from zero [] h none = refl
are_whole-from (suc missing) [] h none = absurd (omega (arith, none))
are_whole-from zero (node ∷ nodes) h none = absurd cc
are_whole-from (suc missing) (Split var k ∷ nodes) h none =
    let two : suc missing + 1 ≡ suc (suc missing) = omega arith in
    are_whole-from (suc (suc missing)) nodes (subst (λ m. go_on m nodes ≡ true) two h) (subst (λ m. left_behind m nodes ≡ 0) two none)
are_whole-from (suc missing) (Bound ws ∷ nodes) h none =
    let one : suc missing - 1 ≡ missing = omega arith in
    are_whole-from missing nodes (subst (λ m. go_on m nodes ≡ true) one h) (subst (λ m. left_behind m nodes ≡ 0) one none)
are_whole-from (suc missing) (Farkas ws ∷ nodes) h none =
    let one : suc missing - 1 ≡ missing = omega arith in
    are_whole-from missing nodes (subst (λ m. go_on m nodes ≡ true) one h) (subst (λ m. left_behind m nodes ≡ 0) one none)

-- the last node is another one, of the same kind
left_behind-last : (missing : ℕ) (nodes : List CertNode) (a b : CertNode) → ((m : ℕ) → missing_behind m a ≡ missing_behind m b) → left_behind missing (nodes ++ b ∷ []) ≡ left_behind missing (nodes ++ a ∷ [])
unfolding left_behind
left_behind-last missing [] a b same = sym (same missing)
left_behind-last missing (n ∷ nodes) a b same = left_behind-last (missing_behind missing n) nodes a b same

go_on-last : (missing : ℕ) (nodes : List CertNode) (a b : CertNode) → go_on missing (nodes ++ a ∷ []) ≡ true → go_on missing (nodes ++ b ∷ []) ≡ true
unfolding go_on
go_on-last zero [] a b h = absurd cc
go_on-last (suc missing) [] a b h = refl
go_on-last zero (n ∷ nodes) a b h = absurd cc
go_on-last (suc missing) (n ∷ nodes) a b h = go_on-last (missing_behind (suc missing) n) nodes a b h

pub tree-more : (missing : ℕ) (nodes : List CertNode) (node : CertNode) → IsTreeSoFar missing nodes → 0 < missing → is_lawful_node node ≡ true → IsTreeSoFar (missing_behind missing node) (nodes ++ node ∷ [])
tree-more missing nodes node h some lawful = record {
  stand = go_on-more 1 nodes node h.stand (omega (arith, h.missing_is, some));
  missing_is = left_behind-more 1 nodes node ∙ ap (λ m. missing_behind m node) h.missing_is;
  lawful = more-all is_lawful_node nodes node h.lawful lawful;
}

pub tree-last : (missing : ℕ) (nodes : List CertNode) (a b : CertNode) → ((m : ℕ) → missing_behind m a ≡ missing_behind m b) → is_lawful_node b ≡ true → IsTreeSoFar missing (nodes ++ a ∷ []) → IsTreeSoFar missing (nodes ++ b ∷ [])
tree-last missing nodes a b same lawful h = record {
  stand = go_on-last 1 nodes a b h.stand;
  missing_is = left_behind-last 1 nodes a b same ∙ h.missing_is;
  lawful = more-all is_lawful_node nodes b (front-all is_lawful_node nodes a h.lawful).0 lawful;
}

-- ---- weights

last-more : (ws : List Weight) (w : Weight) → slice_get (ws ++ w ∷ []) (length ws) ≡ Some w
last-more [] w = refl
last-more (v ∷ ws) w = last-more ws w

pub last_place-more : (ws : List Weight) (w : Weight) → last_place (ws ++ w ∷ []) ≡ w.place
last_place-more ws w =
    let at : length (ws ++ w ∷ []) - 1 ≡ length ws = omega (arith, length-append ws (w ∷ [])) in
    rw (at, last-more ws w) refl

last_place-cons : (v w : Weight) (ws : List Weight) → last_place (v ∷ w ∷ ws) ≡ last_place (w ∷ ws)
last_place-cons v w ws =
    let at : length (v ∷ w ∷ ws) - 1 ≡ suc (length (w ∷ ws) - 1) = omega arith in
    rw at refl

-- the last number, from the given one on
from_last : ℕ → List Weight → ℕ
from_last number [] = number
from_last number (w ∷ ws) = from_last w.place ws

from_last-is : (number : ℕ) (w : Weight) (ws : List Weight) → from_last number (w ∷ ws) ≡ last_place (w ∷ ws)
unfolding from_last
from_last-is number w [] = refl
from_last-is number w (v ∷ ws) = from_last-is w.place v ws ∙ sym (last_place-cons w v ws)

rising-more : (number : ℕ) (ws : List Weight) (w : Weight) → are_rising number ws ≡ true → (nat_lt (from_last number ws) w.place && not (is_zero w.weight)) ≡ true → are_rising number (ws ++ w ∷ []) ≡ true
unfolding from_last
rising-more number [] w h k = and_from (nat_lt number w.place && not (is_zero w.weight)) true k refl
rising-more number (v ∷ ws) w h k =
    let first = nat_lt number v.place && not (is_zero v.weight) in
    let parts = and_parts first (are_rising v.place ws) h in
    and_from first (are_rising v.place (ws ++ w ∷ [])) parts.0 (rising-more v.place ws w parts.1 k)

may_follow-rising : (ws : List Weight) (w : Weight) → are_rising 0 ws ≡ true → may_follow ws w ≡ true → are_rising 0 (ws ++ w ∷ []) ≡ true
unfolding from_last
may_follow-rising [] w h k = rising-more 0 [] w h k
may_follow-rising (v ∷ ws) w h k = rising-more 0 (v ∷ ws) w h (ap (λ n. nat_lt n w.place && not (is_zero w.weight)) (from_last-is 0 v ws) ∙ k)

pub nothing_in : {A : Type 0} (xs : List A) → is_empty xs ≡ true → xs ≡ []
nothing_in [] h = refl
nothing_in (x ∷ xs) h = absurd cc

-- a weight that can stand there stands behind all others
pub record IsFurther (ws : Weights) (s : Side) (w : Weight) (vs : Weights) : Type 0 where
  pub reads : weight_entries vs ≡ weight_entries ws ++ entry.Weight s w ∷ []
  pub lawful : are_lawful vs ≡ true

rows-further : (ws : Weights) (w : Weight) → are_lawful ws ≡ true → (is_empty ws.lows && is_empty ws.ups && may_follow ws.rows w) ≡ true → IsFurther ws side.Row w (record ws { rows = ws.rows ++ w ∷ [] })
rows-further ws w lawful h =
    let parts = and_parts (is_empty ws.lows && is_empty ws.ups) (may_follow ws.rows w) h in
    let empty = and_parts (is_empty ws.lows) (is_empty ws.ups) parts.0 in
    let lows = nothing_in ws.lows empty.0 in
    let ups = nothing_in ws.ups empty.1 in
    let are = and_parts (are_rising 0 ws.rows && are_rising 0 ws.lows) (are_rising 0 ws.ups) lawful in
    let two = and_parts (are_rising 0 ws.rows) (are_rising 0 ws.lows) are.0 in
    record {
      reads = rw (lows, ups) (append-nil (map (entry.Weight side.Row) (ws.rows ++ w ∷ [])) ∙ (more-map (entry.Weight side.Row) ws.rows w ∙ ap (λ es. es ++ entry.Weight side.Row w ∷ []) (sym (append-nil (map (entry.Weight side.Row) ws.rows)))));
      lawful = and_from (are_rising 0 (ws.rows ++ w ∷ []) && are_rising 0 ws.lows) (are_rising 0 ws.ups) (and_from (are_rising 0 (ws.rows ++ w ∷ [])) (are_rising 0 ws.lows) (may_follow-rising ws.rows w two.0 parts.1) two.1) are.1;
    }

lows-further : (ws : Weights) (w : Weight) → are_lawful ws ≡ true → (is_empty ws.ups && may_follow ws.lows w) ≡ true → IsFurther ws side.Lower w (record ws { lows = ws.lows ++ w ∷ [] })
lows-further ws w lawful h =
    let parts = and_parts (is_empty ws.ups) (may_follow ws.lows w) h in
    let ups = nothing_in ws.ups parts.0 in
    let are = and_parts (are_rising 0 ws.rows && are_rising 0 ws.lows) (are_rising 0 ws.ups) lawful in
    let two = and_parts (are_rising 0 ws.rows) (are_rising 0 ws.lows) are.0 in
    let front = map (entry.Weight side.Row) ws.rows in
    let lows = map (entry.Weight side.Lower) ws.lows in
    record {
      reads = rw ups (ap (λ es. front ++ es) (append-nil (map (entry.Weight side.Lower) (ws.lows ++ w ∷ [])) ∙ more-map (entry.Weight side.Lower) ws.lows w) ∙ (sym (append_assoc front lows (entry.Weight side.Lower w ∷ [])) ∙ ap (λ es. (front ++ es) ++ entry.Weight side.Lower w ∷ []) (sym (append-nil lows))));
      lawful = and_from (are_rising 0 ws.rows && are_rising 0 (ws.lows ++ w ∷ [])) (are_rising 0 ws.ups) (and_from (are_rising 0 ws.rows) (are_rising 0 (ws.lows ++ w ∷ [])) two.0 (may_follow-rising ws.lows w two.1 parts.1)) are.1;
    }

ups-further : (ws : Weights) (w : Weight) → are_lawful ws ≡ true → may_follow ws.ups w ≡ true → IsFurther ws side.Upper w (record ws { ups = ws.ups ++ w ∷ [] })
ups-further ws w lawful h =
    let are = and_parts (are_rising 0 ws.rows && are_rising 0 ws.lows) (are_rising 0 ws.ups) lawful in
    let front = map (entry.Weight side.Row) ws.rows in
    let lows = map (entry.Weight side.Lower) ws.lows in
    let ups = map (entry.Weight side.Upper) ws.ups in
    let own = entry.Weight side.Upper w ∷ [] in
    record {
      reads = ap (λ es. front ++ (lows ++ es)) (more-map (entry.Weight side.Upper) ws.ups w) ∙ (ap (λ es. front ++ es) (sym (append_assoc lows ups own)) ∙ sym (append_assoc front (lows ++ ups) own));
      lawful = and_from (are_rising 0 ws.rows && are_rising 0 ws.lows) (are_rising 0 (ws.ups ++ w ∷ [])) are.0 (may_follow-rising ws.ups w are.1 h);
    }

further : (ws : Weights) (s : Side) (w : Weight) (vs : Weights) → are_lawful ws ≡ true → weights_with ws s w ≡ Some vs → IsFurther ws s w vs
further ws side.Row w vs lawful h =
    let is = chosen (is_empty ws.lows && is_empty ws.ups && may_follow ws.rows w) (record ws { rows = ws.rows ++ w ∷ [] }) vs h in
    subst (IsFurther ws side.Row w) is.1 (rows-further ws w lawful is.0)
further ws side.Lower w vs lawful h =
    let is = chosen (is_empty ws.ups && may_follow ws.lows w) (record ws { lows = ws.lows ++ w ∷ [] }) vs h in
    subst (IsFurther ws side.Lower w) is.1 (lows-further ws w lawful is.0)
further ws side.Upper w vs lawful h =
    let is = chosen (may_follow ws.ups w) (record ws { ups = ws.ups ++ w ∷ [] }) vs h in
    subst (IsFurther ws side.Upper w) is.1 (ups-further ws w lawful is.0)

-- the same of the node that has the weights
pub record IsNodeFurther (a : CertNode) (s : Side) (w : Weight) (b : CertNode) : Type 0 where
  pub reads : node_entries b ≡ node_entries a ++ entry.Weight s w ∷ []
  pub lawful : is_lawful_node b ≡ true
  pub same : (m : ℕ) → missing_behind m a ≡ missing_behind m b

pub node-further : (a : CertNode) (s : Side) (w : Weight) (b : CertNode) → is_lawful_node a ≡ true → with_weight a s w ≡ Some b → IsNodeFurther a s w b
node-further (Split var k) s w b lawful h = absurd cc
node-further (Bound ws) s w b lawful h =
    let made = mapped (weights_with ws s w) (λ vs. Bound vs) b h in
    let is = further ws s w made.0 lawful made.1 in
    subst (IsNodeFurther (Bound ws) s w) made.2 record { reads = ap (λ es. entry.Leaf claim.Bound ∷ es) is.reads; lawful = is.lawful; same = λ m. refl }
node-further (Farkas ws) s w b lawful h =
    let made = mapped (weights_with ws s w) (λ vs. Farkas vs) b h in
    let is = further ws s w made.0 lawful made.1 in
    subst (IsNodeFurther (Farkas ws) s w) made.2 record { reads = ap (λ es. entry.Leaf claim.Farkas ∷ es) is.reads; lawful = is.lawful; same = λ m. refl }
