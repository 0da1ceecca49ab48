-- Trees that grow by one node.
use Rattle.std.proofs.Common.{◌≡◌, refl, sym, ◌∙◌, ap, subst, ℕ, suc, ℤ, pos, ◌+ℤ◌, Bool, true, false, IsTrue, List, [], ◌∷◌, ◌++◌, length, map, Option, Some, All, arith}
use Rattle.std.specs.List.{list_all, list_any}
use Rattle.std.proofs.lemmas.Bool.{and_from, and_parts, eqb-true, or_from, or_parts}
use Rattle.std.proofs.lemmas.List.Elements.{All-append, All-cons, All-nil}
use Rattle.frac128.specs.Fraction.{Fraction}
use Rattle.model_data.specs.declared.model.Model.{Model}
use Rattle.model_data.specs.declared.solution.CertNode.{CertNode}
use Rattle.model_data.specs.declared.solution.CertNode.TheVariants.{Split, Bound, Farkas}
use Rattle.model_data.specs.declared.solution.Point.{Point}
use Rattle.model_data.specs.declared.solution.Weights.{Weights}
use Rattle.solve_defs.specs.Certificates.{Subtree, above, are_weights_for, are_whole, bound_claim, cuts_of, entering_looks, farkas_claim, halves, is_bound, is_node_for, leaf_looks, pred_number, tree_looks, under, value_of}
use Rattle.solve_defs.specs.Looks.{Holds}
use Rattle.solve_defs.specs.declared.cut.Cut.{Cut}
use Rattle.solve_defs.proofs.LeafBounds.{All-left, All-right}
use Rattle.search_laws.specs.Searches.{IsKept, IsNoWorse, IsTreeTo}
use Rattle.search_laws.specs.Trees.{still_open}
use Rattle.solve_defs.specs.Bounds.{at_least_cut, at_most_cut}

-- ---- what is read behind the nodes so far

pub still_open-append : (later : List Subtree) (tree : List CertNode) (more : List Subtree) (nodes : List CertNode) → still_open later tree ≡ Some more
    → still_open later (tree ++ nodes) ≡ still_open more nodes
still_open-append later [] more nodes is = ap (λ l. still_open l nodes) (same later more is)
  where
    same : (a b : List Subtree) → ◌≡◌ {A = Option (List Subtree)} (Some a) (Some b) → a ≡ b
    same a b h = cc
still_open-append [] (node ∷ tree) more nodes is = absurd (cc)
still_open-append (own ∷ later) (Split var k ∷ tree) more nodes is = still_open-append (halves (cuts_of own) (pred_number var) k ++ later) tree more nodes is
still_open-append (own ∷ later) (Bound weights ∷ tree) more nodes is = still_open-append later tree more nodes is
still_open-append (own ∷ later) (Farkas weights ∷ tree) more nodes is = still_open-append later tree more nodes is

entering_holds : (own : Subtree) → All Holds (entering_looks own)
entering_holds (under cuts) = All-nil Holds
entering_holds (above cuts place k) = All-cons Holds _ [] refl (All-nil Holds)

pub looks-append : (m : Model) (value : Fraction) (leaf : ℕ) (later : List Subtree) (tree : List CertNode) (more : List Subtree) (nodes : List CertNode) → still_open later tree ≡ Some more
    → All Holds (tree_looks m value leaf later tree) → ((leaf : ℕ) → All Holds (tree_looks m value leaf more nodes)) → All Holds (tree_looks m value leaf later (tree ++ nodes))
looks-append m value leaf later [] more nodes is hold next = subst (λ l. All Holds (tree_looks m value leaf l nodes)) (same more later is) (next leaf)
  where
    same : (a b : List Subtree) → ◌≡◌ {A = Option (List Subtree)} (Some b) (Some a) → a ≡ b
    same a b h = cc
looks-append m value leaf [] (node ∷ tree) more nodes is hold next = absurd (cc)
looks-append m value leaf (own ∷ later) (Split var k ∷ tree) more nodes is hold next =
    let below = halves (cuts_of own) (pred_number var) k ++ later in
    All-append Holds (entering_looks own) (tree_looks m value leaf below (tree ++ nodes)) (entering_holds own)
    (looks-append m value leaf below tree more nodes is (All-right Holds (entering_looks own) (tree_looks m value leaf below tree) hold) next)
looks-append m value leaf (own ∷ later) (Bound weights ∷ tree) more nodes is hold next =
    let here = entering_looks own ++ leaf_looks m (cuts_of own) leaf (bound_claim m value) weights in
    All-append Holds here (tree_looks m value (suc leaf) later (tree ++ nodes)) (All-left Holds here (tree_looks m value (suc leaf) later tree) hold)
    (looks-append m value (suc leaf) later tree more nodes is (All-right Holds here (tree_looks m value (suc leaf) later tree) hold) next)
looks-append m value leaf (own ∷ later) (Farkas weights ∷ tree) more nodes is hold next =
    let here = entering_looks own ++ leaf_looks m (cuts_of own) leaf (farkas_claim m) weights in
    All-append Holds here (tree_looks m value (suc leaf) later (tree ++ nodes)) (All-left Holds here (tree_looks m value (suc leaf) later tree) hold)
    (looks-append m value (suc leaf) later tree more nodes is (All-right Holds here (tree_looks m value (suc leaf) later tree) hold) next)

-- Where nothing is to come any more, the tree is whole.
pub whole_tree : (later : List Subtree) (tree : List CertNode) → still_open later tree ≡ Some [] → IsTrue (are_whole (length later) tree)
whole_tree [] [] is = refl
whole_tree (own ∷ later) [] is = absurd (cc)
whole_tree [] (node ∷ tree) is = absurd (cc)
whole_tree (own ∷ later) (Split var k ∷ tree) is = whole_tree (halves (cuts_of own) (pred_number var) k ++ later) tree is
whole_tree (own ∷ later) (Bound weights ∷ tree) is = whole_tree later tree is
whole_tree (own ∷ later) (Farkas weights ∷ tree) is = whole_tree later tree is

-- Behind a whole tree nothing is to come.
pub none_to_come : (later : List Subtree) (tree : List CertNode) → IsTrue (are_whole (length later) tree) → still_open later tree ≡ Some []
none_to_come [] [] whole = refl
none_to_come (own ∷ later) [] whole = let e = eqb-true (length (own ∷ later)) 0 whole in absurd (omega (arith, e))
none_to_come [] (node ∷ tree) whole = absurd (cc)
none_to_come (own ∷ later) (Split var k ∷ tree) whole = none_to_come (halves (cuts_of own) (pred_number var) k ++ later) tree whole
none_to_come (own ∷ later) (Bound weights ∷ tree) whole = none_to_come later tree whole
none_to_come (own ∷ later) (Farkas weights ∷ tree) whole = none_to_come later tree whole

-- ---- tests of all nodes

all_more : {A : Type 0} (test : A → Bool) (xs : List A) (x : A) → IsTrue (list_all test xs) → IsTrue (test x) → IsTrue (list_all test (xs ++ x ∷ []))
all_more test [] x all own = and_from (test x) true own refl
all_more test (y ∷ xs) x all own = let parts = and_parts (test y) (list_all test xs) all in and_from (test y) (list_all test (xs ++ x ∷ [])) parts.0 (all_more test xs x parts.1 own)

none_more : {A : Type 0} (test : A → Bool) (xs : List A) (x : A) → list_any test xs ≡ false → test x ≡ false → list_any test (xs ++ x ∷ []) ≡ false
none_more test [] x none own = or_from (test x) false own refl
none_more test (y ∷ xs) x none own = let parts = or_parts (test y) (list_any test xs) none in or_from (test y) (list_any test (xs ++ x ∷ [])) parts.0 (none_more test xs x parts.1 own)

-- ---- the next subtree

-- the subtree that is read next, and those behind it
record Next (later : List Subtree) (cuts : List Cut) (waiting : List (List Cut)) : Type 0 where
  own : Subtree
  behind : List Subtree
  is_next : later ≡ own ∷ behind
  own_cuts : cuts_of own ≡ cuts
  waits : map cuts_of behind ≡ waiting

next_of : (later : List Subtree) (cuts : List Cut) (waiting : List (List Cut)) → map cuts_of later ≡ cuts ∷ waiting → Next later cuts waiting
next_of [] cuts waiting is = absurd (cc)
next_of (own ∷ behind) cuts waiting is = record { own = own; behind = behind; is_next = refl; own_cuts = cc; waits = cc }

-- ---- one node more

-- a leaf that is closed by a value
pub with_bound : (m : Model) (incumbent : Option Point) (point : Point) (tree : List CertNode) (cuts : List Cut) (waiting : List (List Cut)) (weights : Weights)
    → IsTreeTo m incumbent tree (cuts ∷ waiting) → IsKept m point → ((last : Option Point) → IsNoWorse m.direction (Some point) last → IsNoWorse m.direction incumbent last)
    → IsTrue (are_weights_for m weights)
    → ((last : Option Point) (leaf : ℕ) → IsNoWorse m.direction (Some point) last → All Holds (leaf_looks m cuts leaf (bound_claim m (value_of last)) weights))
    → IsTreeTo m (Some point) (tree ++ Bound weights ∷ []) waiting
with_bound m incumbent point tree cuts waiting weights t kept better fits looks =
    let n = next_of t.later cuts waiting t.waits in
    let is_open = t.is_open ∙ ap (λ l. Some l) n.is_next in
    record {
      later = n.behind;
      is_open = still_open-append (under [] ∷ []) tree (n.own ∷ n.behind) (Bound weights ∷ []) is_open;
      waits = n.waits;
      fits = all_more (is_node_for m) tree (Bound weights) t.fits fits;
      holds = λ last no_worse. looks-append m (value_of last) 1 (under [] ∷ []) tree (n.own ∷ n.behind) (Bound weights ∷ []) is_open (t.holds last (better last no_worse))
          (λ leaf. All-append Holds (entering_looks n.own ++ leaf_looks m (cuts_of n.own) leaf (bound_claim m (value_of last)) weights) []
          (All-append Holds (entering_looks n.own) (leaf_looks m (cuts_of n.own) leaf (bound_claim m (value_of last)) weights) (entering_holds n.own)
          (subst (λ c. All Holds (leaf_looks m c leaf (bound_claim m (value_of last)) weights)) (sym n.own_cuts) (looks last leaf no_worse))) (All-nil Holds));
      no_bounds = λ none. absurd (cc);
      kept = kept;
    }

-- a leaf without a point
pub with_farkas : (m : Model) (incumbent : Option Point) (tree : List CertNode) (cuts : List Cut) (waiting : List (List Cut)) (weights : Weights)
    → IsTreeTo m incumbent tree (cuts ∷ waiting) → IsTrue (are_weights_for m weights) → ((leaf : ℕ) → All Holds (leaf_looks m cuts leaf (farkas_claim m) weights))
    → IsTreeTo m incumbent (tree ++ Farkas weights ∷ []) waiting
with_farkas m incumbent tree cuts waiting weights t fits looks =
    let n = next_of t.later cuts waiting t.waits in
    let is_open = t.is_open ∙ ap (λ l. Some l) n.is_next in
    record {
      later = n.behind;
      is_open = still_open-append (under [] ∷ []) tree (n.own ∷ n.behind) (Farkas weights ∷ []) is_open;
      waits = n.waits;
      fits = all_more (is_node_for m) tree (Farkas weights) t.fits fits;
      holds = λ last no_worse. looks-append m (value_of last) 1 (under [] ∷ []) tree (n.own ∷ n.behind) (Farkas weights ∷ []) is_open (t.holds last no_worse)
          (λ leaf. All-append Holds (entering_looks n.own ++ leaf_looks m (cuts_of n.own) leaf (farkas_claim m) weights) []
          (All-append Holds (entering_looks n.own) (leaf_looks m (cuts_of n.own) leaf (farkas_claim m) weights) (entering_holds n.own)
          (subst (λ c. All Holds (leaf_looks m c leaf (farkas_claim m) weights)) (sym n.own_cuts) (looks leaf))) (All-nil Holds));
      no_bounds = λ none. none_more is_bound tree (Farkas weights) (t.no_bounds none) refl;
      kept = t.kept;
    }

-- a split, where the upper part begins one above the number
pub with_split : (m : Model) (incumbent : Option Point) (tree : List CertNode) (cuts : List Cut) (waiting : List (List Cut)) (place : ℕ) (k next : ℤ)
    → IsTreeTo m incumbent tree (cuts ∷ waiting) → IsTrue (is_node_for m (Split (suc place) k)) → next ≡ k +ℤ pos 1
    → IsTreeTo m incumbent (tree ++ Split (suc place) k ∷ []) ((cuts ++ at_most_cut place k ∷ []) ∷ (cuts ++ at_least_cut place next ∷ []) ∷ waiting)
with_split m incumbent tree cuts waiting place k next t fits is_next =
    let n = next_of t.later cuts waiting t.waits in
    let is_open = t.is_open ∙ ap (λ l. Some l) n.is_next in
    record {
      later = halves (cuts_of n.own) place k ++ n.behind;
      is_open = still_open-append (under [] ∷ []) tree (n.own ∷ n.behind) (Split (suc place) k ∷ []) is_open;
      waits = ap (λ c. (c ++ at_most_cut place k ∷ []) ∷ (c ++ at_least_cut place (k +ℤ pos 1) ∷ []) ∷ map cuts_of n.behind) n.own_cuts
          ∙ ap (λ j. (cuts ++ at_most_cut place k ∷ []) ∷ (cuts ++ at_least_cut place j ∷ []) ∷ map cuts_of n.behind) (sym is_next)
          ∙ ap (λ w. (cuts ++ at_most_cut place k ∷ []) ∷ (cuts ++ at_least_cut place next ∷ []) ∷ w) n.waits;
      fits = all_more (is_node_for m) tree (Split (suc place) k) t.fits fits;
      holds = λ last no_worse. looks-append m (value_of last) 1 (under [] ∷ []) tree (n.own ∷ n.behind) (Split (suc place) k ∷ []) is_open (t.holds last no_worse)
          (λ leaf. All-append Holds (entering_looks n.own) [] (entering_holds n.own) (All-nil Holds));
      no_bounds = λ none. none_more is_bound tree (Split (suc place) k) (t.no_bounds none) refl;
      kept = t.kept;
    }
