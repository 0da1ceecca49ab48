-- The nodes as lines, which count what runs.
use Rattle.std.proofs.Common.{◌≡◌, refl, sym, ap, ap₂, ◌∙◌, ◌+◌, ◌-◌, ◌≤◌, ◌<◌, ℕ, Bool, true, false, List, [], ◌∷◌, Option, Some, None, arith, cond, length, subst, true≢false, suc, zero, get_or, is_some}
use Rattle.std.specs.List.{AllByRecursion}
use Rattle.std.specs.Prelude.{if◌then◌else◌, find, slice_set, nat_lt, nat_le}
use Rattle.std.proofs.lemmas.Bool.Decides.{nat_tests}
use Rattle.base_names.specs.declared.node.NodeLine.{NodeLine}
use Rattle.base_names.specs.declared.node.NodeNo.{NodeNo}
use Rattle.base_names.specs.declared.node.Placed.{Placed}
use Rattle.table_defs.specs.Lists.{changed}
use Rattle.cluster_defs.specs.Cluster.{Node}
use Rattle.cluster_defs.specs.Placement.{may_run, roomier}
use Rattle.cluster_defs.specs.Refusals.{has_node}
use Rattle.cluster_defs.specs.Waiters.{is_node}
use Rattle.node_sched.specs.Counts.{IsNumber, IsNumbered, nodes_of, unlisted}
use Rattle.node_sched.specs.Schedule.{best_of, line_of, lines_of, priority_in}

-- ---- numbers

pub node_is : (a b : NodeNo) → a.0 ≡ b.0 → is_node a b ≡ true
unfolding is_node
node_is a b same = grind (arith, nat_tests, same)

pub node_is_not : (a b : NodeNo) → (a.0 ≡ b.0 → ⊥) → is_node a b ≡ false
unfolding is_node
node_is_not a b other = grind (arith, nat_tests, other)

pub node_same : (a b : NodeNo) → is_node a b ≡ true → a.0 ≡ b.0
unfolding is_node
node_same a b same = grind (arith, nat_tests, same)

if_yes : {A : Type 0} (b : Bool) (x y : A) → b ≡ true → (if b then x else y) ≡ x
if_yes true x y is = refl
if_yes false x y is = absurd (cc)

if_no : {A : Type 0} (b : Bool) (x y : A) → b ≡ false → (if b then x else y) ≡ y
if_no true x y is = absurd (cc)
if_no false x y is = refl

-- the nodes behind are others
unchanged_behind : (f : NodeLine → NodeLine) (node : NodeNo) (k : ℕ) (ls : List NodeLine) → IsNumbered k ls → node.0 ≤ k → changed (λ l. is_node node l.node) f ls ≡ ls
unchanged_behind f node k [] numbered le = refl
unchanged_behind f node k (l ∷ ls) numbered le = ap₂ (λ (x : NodeLine) (xs : List NodeLine). x ∷ xs)
    (if_no (is_node node l.node) (f l) l (node_is_not node l.node (λ same. omega (arith, same, numbered.0, le))))
    (unchanged_behind f node (suc k) ls numbered.1 (omega (arith, le)))

-- the node of that number, and no other, is changed
pub changed_at : (f : NodeLine → NodeLine) (node : NodeNo) (k i : ℕ) (ls : List NodeLine) (d : NodeLine) → IsNumbered k ls → node.0 ≡ k + i + 1 → i < length ls → changed (λ l. is_node node l.node) f ls ≡ slice_set ls i (f (get_or ls i d))
changed_at f node k i [] d numbered at lt = absurd (omega (arith, lt))
changed_at f node k zero (l ∷ ls) d numbered at lt = ap₂ (λ (x : NodeLine) (xs : List NodeLine). x ∷ xs)
    (if_yes (is_node node l.node) (f l) l (node_is node l.node (omega (arith, at, numbered.0))))
    (unchanged_behind f node (suc k) ls numbered.1 (omega (arith, at)))
changed_at f node k (suc i) (l ∷ ls) d numbered at lt = ap₂ (λ (x : NodeLine) (xs : List NodeLine). x ∷ xs)
    (if_no (is_node node l.node) (f l) l (node_is_not node l.node (λ same. omega (arith, same, numbered.0, at))))
    (changed_at f node (suc k) i ls d numbered.1 (omega (arith, at)) (omega (arith, lt)))

pub all_at : (P : NodeLine → Type 0) (node : NodeNo) (k i : ℕ) (ls : List NodeLine) (d : NodeLine) → IsNumbered k ls → node.0 ≡ k + i + 1 → i < length ls → AllByRecursion (λ l. is_node node l.node ≡ true → P l) ls → P (get_or ls i d)
all_at P node k i [] d numbered at lt all = absurd (omega (arith, lt))
all_at P node k zero (l ∷ ls) d numbered at lt all = all.0 (node_is node l.node (omega (arith, at, numbered.0)))
all_at P node k (suc i) (l ∷ ls) d numbered at lt all = all_at P node (suc k) i ls d numbered.1 (omega (arith, at)) (omega (arith, lt)) all.1

pub set_is_changed : (f : NodeLine → NodeLine) (node : NodeNo) (ls : List NodeLine) (x d : NodeLine) → IsNumbered 0 ls → IsNumber (length ls) node → x ≡ get_or ls (node.0 - 1) d → slice_set ls (node.0 - 1) (f x) ≡ changed (λ l. is_node node l.node) f ls
set_is_changed f node ls x d numbered number is = ap (λ (y : NodeLine). slice_set ls (node.0 - 1) (f y)) is ∙ sym (changed_at f node 0 (node.0 - 1) ls d numbered (omega (arith, number.0)) (omega (arith, number.0, number.1)))

pub holds_at : (P : NodeLine → Type 0) (node : NodeNo) (ls : List NodeLine) (x d : NodeLine) → IsNumbered 0 ls → IsNumber (length ls) node → x ≡ get_or ls (node.0 - 1) d → AllByRecursion (λ l. is_node node l.node ≡ true → P l) ls → P x
holds_at P node ls x d numbered number is all = subst P (sym is) (all_at P node 0 (node.0 - 1) ls d numbered (omega (arith, number.0)) (omega (arith, number.0, number.1)) all)

-- ---- which nodes there are

found_or : (b : Bool) (n : Node) (rest : Option Node) → b ≡ true → is_some (cond b (Some n) rest) ≡ true
found_or true n rest is = refl
found_or false n rest is = absurd (cc)

found_behind : (b : Bool) (n : Node) (rest : Option Node) → is_some rest ≡ true → is_some (cond b (Some n) rest) ≡ true
found_behind true n rest is = refl
found_behind false n rest is = is

not_found : (b : Bool) (n : Node) (rest : Option Node) → b ≡ false → is_some rest ≡ false → is_some (cond b (Some n) rest) ≡ false
not_found true n rest is none = absurd (cc)
not_found false n rest is none = none

later_number : (k : ℕ) (node : NodeNo) (l : NodeLine) → l.node.0 ≡ suc k → is_node node l.node ≡ false → k < node.0 → suc k < node.0
later_number k node l at other lt = omega (arith, at, lt, λ (same : node.0 ≡ l.node.0). true≢false (sym (node_is node l.node same) ∙ other))

head_or_later : (b : Bool) (node : NodeNo) (l : NodeLine) (ls : List NodeLine) → is_node node l.node ≡ b → (b ≡ false → has_node node (nodes_of ls) ≡ true) → has_node node (nodes_of (l ∷ ls)) ≡ true
head_or_later true node l ls is later = found_or (is_node node l.node) (unlisted l) (find (λ (n : Node). is_node node n.node) (nodes_of ls)) is
head_or_later false node l ls is later = found_behind (is_node node l.node) (unlisted l) (find (λ (n : Node). is_node node n.node) (nodes_of ls)) (later refl)

pub has_number : (node : NodeNo) (k : ℕ) (ls : List NodeLine) → IsNumbered k ls → k < node.0 → node.0 ≤ k + length ls → has_node node (nodes_of ls) ≡ true
has_number node k [] numbered lt le = absurd (omega (arith, lt, le))
has_number node k (l ∷ ls) numbered lt le = head_or_later (is_node node l.node) node l ls refl
    (λ other. has_number node (suc k) ls numbered.1 (later_number k node l numbered.0 other lt) (omega (arith, le)))

pub lacks_number : (node : NodeNo) (k : ℕ) (ls : List NodeLine) → IsNumbered k ls → (k < node.0 → node.0 ≤ k + length ls → ⊥) → has_node node (nodes_of ls) ≡ false
lacks_number node k [] numbered not_there = refl
lacks_number node k (l ∷ ls) numbered not_there = not_found (is_node node l.node) (unlisted l) (find (λ (n : Node). is_node node n.node) (nodes_of ls))
    (node_is_not node l.node (λ same. not_there (omega (arith, same, numbered.0)) (omega (arith, same, numbered.0))))
    (lacks_number node (suc k) ls numbered.1 (λ lt le. not_there (omega (arith, lt)) (omega (arith, le))))

number_by : (node : NodeNo) (ls : List NodeLine) (a b : Bool) → nat_lt 0 node.0 ≡ a → nat_le node.0 (length ls) ≡ b → IsNumbered 0 ls → has_node node (nodes_of ls) ≡ true → IsNumber (length ls) node
number_by node ls true true p q numbered has = (grind (arith, nat_tests, p), grind (arith, nat_tests, q))
number_by node ls false b p q numbered has = absurd (true≢false (sym has ∙ lacks_number node 0 ls numbered (λ lt le. grind (arith, nat_tests, p, lt))))
number_by node ls true false p q numbered has = absurd (true≢false (sym has ∙ lacks_number node 0 ls numbered (λ lt le. grind (arith, nat_tests, q, le))))

pub number_of : (node : NodeNo) (ls : List NodeLine) (b : Bool) → IsNumbered 0 ls → has_node node (nodes_of ls) ≡ b → b ≡ true → IsNumber (length ls) node
number_of node ls b numbered is there = number_by node ls (nat_lt 0 node.0) (nat_le node.0 (length ls)) refl refl numbered (is ∙ there)

-- ---- the best node is one of them

roomier_here : (b : Bool) (k : ℕ) (l n m : NodeLine) (ls : List NodeLine) → l.node.0 ≡ suc k → Some (if b then m else l) ≡ Some n → (suc k < m.node.0) × (m.node.0 ≤ suc k + length ls) → (k < n.node.0) × (n.node.0 ≤ k + suc (length ls))
roomier_here true k l n m ls at is there = let e : m ≡ n = cc in let x : m.node.0 ≡ n.node.0 = ap (λ (y : NodeLine). y.node.0) e in (omega (arith, x, there.0), omega (arith, x, there.1))
roomier_here false k l n m ls at is there = let e : l ≡ n = cc in let x : l.node.0 ≡ n.node.0 = ap (λ (y : NodeLine). y.node.0) e in (omega (arith, x, at), omega (arith, x, at))

best_here : (b : Bool) (k : ℕ) (l n : NodeLine) (ls : List NodeLine) (rest : Option NodeLine) → l.node.0 ≡ suc k → (if b then Some (roomier l rest) else rest) ≡ Some n → ((m : NodeLine) → rest ≡ Some m → (suc k < m.node.0) × (m.node.0 ≤ suc k + length ls)) → (k < n.node.0) × (n.node.0 ≤ k + suc (length ls))
best_here false k l n ls rest at is later = let h = later n is in (omega (arith, h.0), omega (arith, h.1))
best_here true k l n ls None at is later = let e : l ≡ n = (let x : Some l ≡ Some n = is in cc) in let m : l.node.0 ≡ n.node.0 = ap (λ (y : NodeLine). y.node.0) e in (omega (arith, at, m), omega (arith, at, m))
best_here true k l n ls (Some m) at is later = roomier_here (nat_lt (l.limit + m.running) (m.limit + l.running)) k l n m ls at is (later m refl)

pub best_number : (u : Bool) (k : ℕ) (ls : List NodeLine) (n : NodeLine) → IsNumbered k ls → best_of u ls ≡ Some n → (k < n.node.0) × (n.node.0 ≤ k + length ls)
best_number u k [] n numbered is = absurd (cc)
best_number u k (l ∷ ls) n numbered is = best_here (may_run (priority_in u) l) k l n ls (best_of u ls) numbered.0 is (λ m. best_number u (suc k) ls m numbered.1)

-- ---- nodes and lines under a change

number_if : (b : Bool) (x l : NodeLine) (k : ℕ) → x.node ≡ l.node → l.node.0 ≡ suc k → (if b then x else l).node.0 ≡ suc k
number_if true x l k same at = ap (λ (n : NodeNo). n.0) same ∙ at
number_if false x l k same at = at

pub numbered_changed : (t : NodeLine → Bool) (f : NodeLine → NodeLine) → ((l : NodeLine) → (f l).node ≡ l.node) → (k : ℕ) (ls : List NodeLine) → IsNumbered k ls → IsNumbered k (changed t f ls)
numbered_changed t f stays k [] numbered = tt
numbered_changed t f stays k (l ∷ ls) numbered = (number_if (t l) (f l) l k (stays l) numbered.0, numbered_changed t f stays (suc k) ls numbered.1)

pub length_changed : {A : Type 0} (t : A → Bool) (f : A → A) (xs : List A) → length (changed t f xs) ≡ length xs
length_changed t f [] = refl
length_changed t f (x ∷ xs) = ap (λ n. suc n) (length_changed t f xs)

unlisted_if : (b : Bool) (l : NodeLine) (f : NodeLine → NodeLine) (g : Node → Node) → unlisted (f l) ≡ g (unlisted l) → unlisted (if b then f l else l) ≡ (if b then g (unlisted l) else unlisted l)
unlisted_if true l f g is = is
unlisted_if false l f g is = refl

pub nodes_of_changed : (t : NodeNo → Bool) (f : NodeLine → NodeLine) (g : Node → Node) → ((l : NodeLine) → unlisted (f l) ≡ g (unlisted l)) → (ls : List NodeLine) → nodes_of (changed (λ l. t l.node) f ls) ≡ changed (λ n. t n.node) g (nodes_of ls)
nodes_of_changed t f g is [] = refl
nodes_of_changed t f g is (l ∷ ls) = ap₂ (λ (x : Node) (xs : List Node). x ∷ xs) (unlisted_if (t l.node) l f g (is l)) (nodes_of_changed t f g is ls)

line_of_if : (b : Bool) (ps ps' : List Placed) (n : Node) (f : NodeLine → NodeLine) (g : Node → Node) → (b ≡ true → line_of ps' (g n) ≡ f (line_of ps n)) → (b ≡ false → line_of ps' n ≡ line_of ps n) → line_of ps' (if b then g n else n) ≡ (if b then f (line_of ps n) else line_of ps n)
line_of_if true ps ps' n f g here other = here refl
line_of_if false ps ps' n f g here other = other refl

pub lines_of_changed : (t : NodeNo → Bool) (f : NodeLine → NodeLine) (g : Node → Node) (ps ps' : List Placed) → ((n : Node) → t n.node ≡ true → line_of ps' (g n) ≡ f (line_of ps n)) → ((n : Node) → t n.node ≡ false → line_of ps' n ≡ line_of ps n)
    → (ns : List Node) → lines_of ps' (changed (λ n. t n.node) g ns) ≡ changed (λ l. t l.node) f (lines_of ps ns)
lines_of_changed t f g ps ps' here other [] = refl
lines_of_changed t f g ps ps' here other (n ∷ ns) = ap₂ (λ (x : NodeLine) (xs : List NodeLine). x ∷ xs) (line_of_if (t n.node) ps ps' n f g (here n) (other n)) (lines_of_changed t f g ps ps' here other ns)

pub counted_changed : (t : NodeNo → Bool) (f : NodeLine → NodeLine) (g : Node → Node) (ps ps' : List Placed) → ((l : NodeLine) → unlisted (f l) ≡ g (unlisted l)) → ((n : Node) → t n.node ≡ true → line_of ps' (g n) ≡ f (line_of ps n)) → ((n : Node) → t n.node ≡ false → line_of ps' n ≡ line_of ps n)
    → (ls : List NodeLine) → ls ≡ lines_of ps (nodes_of ls) → changed (λ l. t l.node) f ls ≡ lines_of ps' (nodes_of (changed (λ l. t l.node) f ls))
counted_changed t f g ps ps' is here other ls counted =
    ap (changed (λ (l : NodeLine). t l.node) f) counted
    ∙ sym (lines_of_changed t f g ps ps' here other (nodes_of ls))
    ∙ ap (lines_of ps') (sym (nodes_of_changed t f g is ls))

same_if : {A : Type 0} (b : Bool) (x : A) → (if b then x else x) ≡ x
same_if true x = refl
same_if false x = refl

pub changed_same : {A : Type 0} (t : A → Bool) (xs : List A) → changed t (λ x. x) xs ≡ xs
changed_same t [] = refl
changed_same t (x ∷ xs) = ap₂ (λ (y : _) (ys : List _). y ∷ ys) (same_if (t x) x) (changed_same t xs)
