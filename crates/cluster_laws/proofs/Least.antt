-- Of several nodes with as much room the one with the least number gets the job.
use Rattle.std.proofs.Common.{◌≡◌, ◌⊎◌, inl, inr, refl, sym, ap, ap₂, ◌∙◌, subst, ℕ, ◌+◌, ◌≤◌, ◌<◌, ℤ, Bool, true, false, List, [], ◌∷◌, ◌++◌, map, arith}
use Rattle.std.specs.Prelude.{if◌then◌else◌}
use Rattle.base_names.specs.declared.node.NodeLine.{NodeLine}
use Rattle.base_names.specs.declared.node.NodeNo.{NodeNo}
use Rattle.base_names.specs.declared.node.Placed.{Placed}
use Rattle.table_defs.specs.Outcomes.{IsRisingFrom}
use Rattle.cluster_defs.specs.Cluster.{Cluster, Node, line_of, lines, numbers_of}
use Rattle.cluster_defs.specs.Placement.{occupied}
use Rattle.cluster_defs.specs.Waiters.{is_node}
use Rattle.cluster_laws.specs.Places.{Every, HasLess, HasNoMore, IsBest, IsIn, MayRun, line_numbers, lines_behind}

-- ---- the nodes that are looked at have their numbers

numbers_in : (c : Cluster) (ns : List Node) → line_numbers (map (line_of c) ns) ≡ numbers_of ns
numbers_in c [] = refl
numbers_in c (n ∷ ns) = ap (λ (xs : List ℕ). n.node.0 ∷ xs) (numbers_in c ns)

one_line : (l : NodeLine) (b : Bool) → (if b then record l { running = l.running + 1 } else l).node.0 ≡ l.node.0
one_line l true = refl
one_line l false = refl

numbers_occupied : (node : NodeNo) (ls : List NodeLine) → line_numbers (occupied node ls) ≡ line_numbers ls
numbers_occupied node [] = refl
numbers_occupied node (l ∷ ls) = ap₂ (λ (x : ℕ) (xs : List ℕ). x ∷ xs) (one_line l (is_node node l.node)) (numbers_occupied node ls)

numbers_behind : (ps : List Placed) (ls : List NodeLine) → line_numbers (lines_behind ps ls) ≡ line_numbers ls
numbers_behind [] ls = refl
numbers_behind (p ∷ ps) ls = numbers_behind ps (occupied p.node ls) ∙ numbers_occupied p.node ls

pub placing_numbers : (c : Cluster) (ps : List Placed) → line_numbers (lines_behind ps (lines c)) ≡ numbers_of c.nodes
placing_numbers c ps = numbers_behind ps (lines c) ∙ numbers_in c c.nodes

-- ---- the first of them has the least number

in_every : (P : NodeLine → Type 0) (ls : List NodeLine) (x : NodeLine) → Every P ls → IsIn x ls → P x
in_every P [] x h i = absurd i
in_every P (l ∷ ls) x h (inl e) = subst P (sym e) h.0
in_every P (l ∷ ls) x h (inr i) = in_every P ls x h.1 i

in_parts : (before behind : List NodeLine) (n x : NodeLine) → IsIn x (before ++ n ∷ behind) → IsIn x before ⊎ ((x ≡ n) ⊎ IsIn x behind)
in_parts [] behind n x i = inr i
in_parts (l ∷ before) behind n x (inl e) = inl (inl e)
in_parts (l ∷ before) behind n x (inr i) = elim (in_parts before behind n x i) [ inl there ↦ inl (inr there) | inr later ↦ inr later ]

above : (m : ℕ) (ls : List NodeLine) (x : NodeLine) → IsRisingFrom m (line_numbers ls) → IsIn x ls → m < x.node.0
above m [] x rising i = absurd i
above m (l ∷ ls) x rising (inl e) = subst (λ (y : NodeLine). m < y.node.0) (sym e) rising.0
above m (l ∷ ls) x rising (inr i) = let h = above l.node.0 ls x rising.1 i in omega (arith, h, rising.0)

rising_behind : (m : ℕ) (before behind : List NodeLine) (n : NodeLine) → IsRisingFrom m (line_numbers (before ++ n ∷ behind)) → IsRisingFrom n.node.0 (line_numbers behind)
rising_behind m [] behind n rising = rising.1
rising_behind m (l ∷ before) behind n rising = rising_behind l.node.0 before behind n rising.1

same_number : (n x : NodeLine) → x ≡ n → n.node.0 ≤ x.node.0
same_number n x e = let h = ap (λ (y : NodeLine). y.node.0) e in omega (arith, h)

least_by : (priority : ℤ) (ns : List NodeLine) (n x : NodeLine) (best : IsBest priority ns n) → IsRisingFrom 0 (line_numbers (best.before ++ n ∷ best.behind)) → MayRun priority x → HasNoMore n x → IsIn x best.before ⊎ ((x ≡ n) ⊎ IsIn x best.behind) → n.node.0 ≤ x.node.0
least_by priority ns n x best rising may more (inl there) = let less = in_every (λ (other : NodeLine). MayRun priority other → HasLess other n) best.before x best.less there may in absurd (omega (arith, less, more))
least_by priority ns n x best rising may more (inr (inl same)) = same_number n x same
least_by priority ns n x best rising may more (inr (inr later)) = let h = above n.node.0 best.behind x (rising_behind 0 best.before best.behind n rising) later in omega (arith, h)

pub best_is_least : (priority : ℤ) (ns : List NodeLine) (n x : NodeLine) → IsBest priority ns n → IsRisingFrom 0 (line_numbers ns) → IsIn x ns → MayRun priority x → HasNoMore n x → n.node.0 ≤ x.node.0
best_is_least priority ns n x best rising i may more =
    least_by priority ns n x best (subst (λ (ls : List NodeLine). IsRisingFrom 0 (line_numbers ls)) best.whole rising) may more (in_parts best.before best.behind n x (subst (IsIn x) best.whole i))
