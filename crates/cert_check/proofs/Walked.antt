-- What a node of a tree leads to.
use Rattle.std.proofs.Common.{◌≡◌, ◌∙◌, refl, sym, ap, ap₂, subst, ℕ, zero, suc, ◌+◌, ◌-◌, ◌<◌, ◌≤◌, List, [], ◌∷◌, ◌++◌, append_assoc, length, map, replicate, drop, get_or, All, true, Option, Some, None, Result, Ok, Err, ℤ, arith}
use Rattle.std.specs.Result.{IsErr}
use Rattle.std.proofs.lemmas.List.{drop_more}
use Rattle.std.proofs.lemmas.List.Elements.{All-cons, All-head, All-nil, All-tail}
use Rattle.base_names.specs.declared.memory.OrMemory.{OrMemory}
use Rattle.base_names.specs.declared.memory.OrMemory.TheVariants.{Fault, NoMemory}
use Rattle.frac128.specs.Checked.{checked_sum, ◌>>=◌}
use Rattle.frac128.specs.Fraction.{Fraction, one_value}
use Rattle.frac128.specs.declared.operations.Wide.{Wide}
use Rattle.model_data.specs.declared.model.Model.{Model}
use Rattle.model_data.specs.declared.solution.CertNode.{CertNode}
use Rattle.model_data.specs.declared.solution.CertNode.TheVariants.{Bound, Farkas, Split}
use Rattle.model_data.specs.declared.solution.Weights.{Weights}
use Rattle.solve_defs.specs.Bounds.{Bounds, at_most_cut, effective_bounds}
use Rattle.solve_defs.specs.Certificates.{Claim, Subtree, above, bound_claim, cuts_of, entering_looks, farkas_claim, halves, leaf_looks, pred_number, tree_looks, under}
use Rattle.solve_defs.specs.Looks.{Look, after_look, plus, verdict_of}
use Rattle.solve_defs.specs.Values.{whole}
use Rattle.solve_defs.specs.declared.cut.Cut.{Cut}
use Rattle.solve_defs.specs.declared.verdict.Verdict.{Verdict}
use Rattle.solve_defs.specs.declared.verdict.Place.TheVariants.{Shape}
use Rattle.solve_defs.specs.declared.verdict.Verdict.TheVariants.{TooWide, Valid}
use Rattle.cert_check.specs.Open.{Begins, Open, Situation}
use Rattle.cert_check.specs.Found.{Finds, verdict_by}
use Rattle.cert_check.specs.Leaves.{looks_within}
use Rattle.cert_check.specs.Sums.{no_sum}
use Rattle.cert_check.specs.Walks.{Begun, CanEnter, Enters, GoesOn, IsToCome, Leads, ahead, at_node, node_looks, situation_of}
use Rattle.cert_check.specs.declared.cases.Entry.{Entry}
use Rattle.cert_check.specs.declared.failure.Failure.{Failure}
use Rattle.cert_check.specs.declared.tree.Walk.{Walk}
use Rattle.cert_check.proofs.CutBounds.{length-effective_bounds}
use Rattle.cert_check.proofs.Fitting.{SplitFits}
use Rattle.cert_check.proofs.Verdicts.{append_on, append_stops, not_valid}

-- ---- the looks of a node

tree_node : (m : Model) (value : Fraction) (leaf : ℕ) (own : Subtree) (later : List Subtree) (node : CertNode) (nodes : List CertNode)
    → tree_looks m value leaf (own ∷ later) (node ∷ nodes) ≡ entering_looks own ++ node_looks m value leaf (cuts_of own) later node nodes
tree_node m value leaf own later (Split var k) nodes = refl
tree_node m value leaf own later (Bound weights) nodes =
    append_assoc (entering_looks own) (leaf_looks m (cuts_of own) leaf (bound_claim m value) weights) (tree_looks m value (suc leaf) later nodes)
tree_node m value leaf own later (Farkas weights) nodes =
    append_assoc (entering_looks own) (leaf_looks m (cuts_of own) leaf (farkas_claim m) weights) (tree_looks m value (suc leaf) later nodes)

-- behind the last subtree nothing is looked at
nothing_left : (m : Model) (value : Fraction) (leaf : ℕ) (nodes : List CertNode) → tree_looks m value leaf [] nodes ≡ []
nothing_left m value leaf [] = refl
nothing_left m value leaf (node ∷ nodes) = refl

pub no_node_left : (m : Model) (walk : Walk) (subtrees : List Subtree) → ahead m walk subtrees [] ≡ Valid
no_node_left m walk [] = refl
no_node_left m walk (own ∷ later) = refl

-- ---- a case is entered

-- what a node leads to where the case is entered, and then the node is looked at
pub entered : (m : Model) (own : Subtree) (later : List Subtree) (node : CertNode) (old mid new : Walk) (found : Result Unit (OrMemory Failure)) → Begun m own old mid
    → Leads m (at_node m mid (cuts_of own) later node) mid new found → Leads m (λ nodes. ahead m old (own ∷ later) (node ∷ nodes)) old new found
entered m own later node old mid new found begun leads = by_answer found leads
  where
    value : mid.value ≡ old.value
    value = ap (λ (w : Walk). w.value) begun.begun

    leaves : mid.leaves ≡ old.leaves
    leaves = ap (λ (w : Walk). w.leaves) begun.begun

    left : (nodes : List CertNode) → ahead m old (own ∷ later) (node ∷ nodes) ≡ at_node m mid (cuts_of own) later node nodes
    left nodes =
        ap verdict_of (tree_node m old.value (suc old.leaves) own later node nodes)
        ∙ append_on (entering_looks own) (node_looks m old.value (suc old.leaves) (cuts_of own) later node nodes) begun.passes
        ∙ ap₂ (λ (v : Fraction) (n : ℕ). verdict_of (node_looks m v (suc n) (cuts_of own) later node nodes)) (sym value) (sym leaves)

    by_answer : (r : Result Unit (OrMemory Failure)) → Leads m (at_node m mid (cuts_of own) later node) mid new r → Leads m (λ nodes. ahead m old (own ∷ later) (node ∷ nodes)) old new r
    by_answer (Ok a) goes = record {
      later = goes.later;
      to_come = goes.to_come;
      value = goes.value ∙ value;
      leaves = subst (λ n. new.leaves ≤ suc n) leaves goes.leaves;
      same = λ nodes. left nodes ∙ goes.same nodes;
    }
    by_answer (Err (Fault failed)) ends = λ nodes. left nodes ∙ ends nodes
    by_answer (Err NoMemory) ends = tt

pub not_entered : (m : Model) (own : Subtree) (later : List Subtree) (node : CertNode) (old mid new : Walk) (found : Result Unit (OrMemory Failure)) → IsErr found → Enters m own old mid found
    → Leads m (λ nodes. ahead m old (own ∷ later) (node ∷ nodes)) old new found
not_entered m own later node old mid new (Ok a) is_err enters = absurd cc
not_entered m own later node old mid new (Err (Fault failed)) is_err enters = λ nodes.
    ap verdict_of (tree_node m old.value (suc old.leaves) own later node nodes)
    ∙ sym (append_stops (entering_looks own) (node_looks m old.value (suc old.leaves) (cuts_of own) later node nodes) (verdict_by {A = Unit {0}} (Err failed)) (not_valid failed) enters)
not_entered m own later node old mid new (Err NoMemory) is_err enters = tt

-- behind the entering the same is to come
pub still_to_come : (m : Model) (own : Subtree) (later : List Subtree) (old mid : Walk) → Begun m own old mid → IsToCome m later old → IsToCome m later mid
still_to_come m own later old mid begun to_come = record {
  later = ap (λ (w : Walk). w.cases.later) begun.begun ∙ to_come.later;
  enter = to_come.enter;
  sums = ap (λ (w : Walk). w.sums) begun.begun ∙ to_come.sums;
}

enters : (cuts : List Cut) (place : ℕ) (k : ℤ) (r : Result Fraction Wide) → checked_sum (whole k) one_value ≡ r
    → after_look (record { place = Shape; start = whole k; steps = plus one_value ∷ []; holds = λ _. true }) (r >>= λ next. Ok next) Valid ≡ verdict_of (entering_looks (above cuts place k))
enters cuts place k r is =
    ap (λ (found : Result Fraction Wide). after_look (record { place = Shape; start = whole k; steps = plus one_value ∷ []; holds = λ _. true }) (found >>= λ next. Ok next) Valid) (sym is)

pub entering_passes : (cuts : List Cut) (place : ℕ) (k : ℤ) (next : Fraction) → checked_sum (whole k) one_value ≡ Ok next → Valid ≡ verdict_of (entering_looks (above cuts place k))
entering_passes cuts place k next is = enters cuts place k (Ok next) is

pub entering_refused : (cuts : List Cut) (place : ℕ) (k : ℤ) (wide : Wide) → checked_sum (whole k) one_value ≡ Err wide → TooWide wide ≡ verdict_of (entering_looks (above cuts place k))
entering_refused cuts place k wide is = enters cuts place k (Err wide) is

-- ---- a split

pub place_of : (number : ℕ) → 1 ≤ number → number - 1 ≡ pred_number number
place_of zero some = absurd (omega (arith, some))
place_of (suc place) some = omega arith

pub split_leads : (m : Model) (cuts : List Cut) (later : List Subtree) (number : ℕ) (k : ℤ) (old new : Walk) → SplitFits m number k → IsToCome m later old
    → new.cases.later ≡ map (situation_of m) (halves cuts (number - 1) k) ++ old.cases.later → new ≡ record old { cases = new.cases }
    → GoesOn m (at_node m old cuts later (Split number k)) old new
split_leads m cuts later number k old new fits to_come waits same = record {
  later = halves cuts (pred_number number) k ++ later;
  to_come = record {
    later = waits ∙ ap₂ (λ (p : ℕ) (rest : List Situation). map (situation_of m) (halves cuts p k) ++ rest) place to_come.later;
    enter = enter;
    sums = ap (λ (w : Walk). w.sums) same ∙ to_come.sums;
  };
  value = ap (λ (w : Walk). w.value) same;
  leaves = few new.leaves (ap (λ (w : Walk). w.leaves) same);
  same = λ nodes. ap₂ (λ (v : Fraction) (n : ℕ). verdict_of (tree_looks m v (suc n) (halves cuts (pred_number number) k ++ later) nodes))
      (sym (ap (λ (w : Walk). w.value) same)) (sym (ap (λ (w : Walk). w.leaves) same));
}
  where
    place : number - 1 ≡ pred_number number
    place = place_of number fits.above_zero

    below : (p : ℕ) → number - 1 ≡ p → p < length m.vars
    below p is = let a = fits.above_zero in let b = fits.within in omega (arith, is, a, b)

    few : (n : ℕ) → n ≡ old.leaves → n ≤ suc old.leaves
    few n is = omega (arith, is)

    Enter : Subtree → Type 0
    Enter s = CanEnter (length m.vars) (situation_of m s).entry

    enter : All Enter (halves cuts (pred_number number) k ++ later)
    enter =
        All-cons Enter (under (cuts ++ at_most_cut (pred_number number) k ∷ [])) (above cuts (pred_number number) k ∷ later) tt
        (All-cons Enter (above cuts (pred_number number) k) later (below (pred_number number) place, fits.small) to_come.enter)

-- ---- a leaf

pub leaf_leads : (m : Model) (cuts : List Cut) (later : List Subtree) (claim : Claim) (weights : Weights) (was : List CertNode → Verdict) (old new : Walk)
    → ((nodes : List CertNode) → was nodes ≡ verdict_of (leaf_looks m cuts (suc old.leaves) claim weights ++ tree_looks m old.value (suc (suc old.leaves)) later nodes))
    → IsToCome m later old → Valid ≡ verdict_of (leaf_looks m cuts (suc old.leaves) claim weights) → new ≡ record old { leaves = suc old.leaves }
    → GoesOn m was old new
leaf_leads m cuts later claim weights was old new is to_come passes same = record {
  later = later;
  to_come = record {
    later = ap (λ (w : Walk). w.cases.later) same ∙ to_come.later;
    enter = to_come.enter;
    sums = ap (λ (w : Walk). w.sums) same ∙ to_come.sums;
  };
  value = ap (λ (w : Walk). w.value) same;
  leaves = few new.leaves (ap (λ (w : Walk). w.leaves) same);
  same = λ nodes.
      is nodes ∙ append_on (leaf_looks m cuts (suc old.leaves) claim weights) (tree_looks m old.value (suc (suc old.leaves)) later nodes) passes
      ∙ ap₂ (λ (v : Fraction) (n : ℕ). verdict_of (tree_looks m v (suc n) later nodes)) (sym (ap (λ (w : Walk). w.value) same)) (sym (ap (λ (w : Walk). w.leaves) same));
}
  where
    few : (n : ℕ) → n ≡ suc old.leaves → n ≤ suc old.leaves
    few n is = omega (arith, is)

pub leaf_ends : (m : Model) (cuts : List Cut) (later : List Subtree) (claim : Claim) (weights : Weights) (was : List CertNode → Verdict) (old : Walk) (failed : Failure)
    → ((nodes : List CertNode) → was nodes ≡ verdict_of (leaf_looks m cuts (suc old.leaves) claim weights ++ tree_looks m old.value (suc (suc old.leaves)) later nodes))
    → verdict_by {A = Unit {0}} (Err failed) ≡ verdict_of (leaf_looks m cuts (suc old.leaves) claim weights) → (nodes : List CertNode) → was nodes ≡ verdict_by {A = Unit {0}} (Err failed)
leaf_ends m cuts later claim weights was old failed is ends nodes =
    is nodes
    ∙ sym (append_stops (leaf_looks m cuts (suc old.leaves) claim weights) (tree_looks m old.value (suc (suc old.leaves)) later nodes) (verdict_by {A = Unit {0}} (Err failed)) (not_valid failed) ends)

-- ---- the next case

pub none_next : (m : Model) (node : CertNode) (subtrees : List Subtree) (old new : Walk) → IsToCome m subtrees old → Begins old.cases.later None new.cases
    → new ≡ record old { cases = new.cases } → GoesOn m (λ nodes. ahead m old subtrees (node ∷ nodes)) old new
none_next m node [] old new to_come begins same =
    let none : new.cases.later ≡ [] = subst (λ (l : List Situation). Begins l None new.cases) to_come.later begins in
    let sums : new.sums ≡ old.sums = ap (λ (w : Walk). w.sums) same in
    let few : (n : ℕ) → n ≡ old.leaves → n ≤ suc old.leaves = λ n is. omega (arith, is) in
    record {
      later = [];
      to_come = record { later = none; enter = All-nil (λ s. CanEnter (length m.vars) (situation_of m s).entry); sums = sums ∙ to_come.sums };
      value = ap (λ (w : Walk). w.value) same;
      leaves = few new.leaves (ap (λ (w : Walk). w.leaves) same);
      same = λ nodes. sym (ap verdict_of (nothing_left m new.value (suc new.leaves) nodes));
    }
none_next m node (own ∷ later) old new to_come begins same = absurd (subst (λ (l : List Situation). Begins l None new.cases) to_come.later begins)

-- The next subtree's case begins.
pub record NextBegun (m : Model) (subtrees : List Subtree) (old : Walk) (entry : Entry) (new : Open) : Type 0 where
  pub own : Subtree
  pub later : List Subtree
  pub are : subtrees ≡ own ∷ later
  pub here : situation_of m own ≡ record { bounds = new.bounds; entry = entry }
  pub waits : new.later ≡ map (situation_of m) later
  pub enter : CanEnter (length m.vars) entry
  pub others : All (λ s. CanEnter (length m.vars) (situation_of m s).entry) later

pub some_next : (m : Model) (subtrees : List Subtree) (old : Walk) (entry : Entry) (new : Open) → IsToCome m subtrees old → Begins old.cases.later (Some entry) new
    → NextBegun m subtrees old entry new
some_next m [] old entry new to_come begins = absurd (subst (λ (l : List Situation). Begins l (Some entry) new) to_come.later begins)
some_next m (own ∷ later) old entry new to_come begins =
    let next : Begins (situation_of m own ∷ map (situation_of m) later) (Some entry) new = subst (λ (l : List Situation). Begins l (Some entry) new) to_come.later begins in
    let bounds : (situation_of m own).bounds ≡ new.bounds = sym (ap (λ (o : Open). o.bounds) next.1) in
    let make : List Bounds → Entry → Situation = λ b e. record { bounds = b; entry = e } in
    record {
      own = own;
      later = later;
      are = refl;
      here = ap₂ make bounds (sym next.0);
      waits = ap (λ (o : Open). o.later) next.1;
      enter = subst (CanEnter (length m.vars)) (sym next.0) (All-head (λ s. CanEnter (length m.vars) (situation_of m s).entry) own later to_come.enter);
      others = All-tail (λ s. CanEnter (length m.vars) (situation_of m s).entry) own later to_come.enter;
    }

-- a case under way has as many bounds as there are variables
pub length_here : (m : Model) (own : Subtree) (bounds : List Bounds) (entry : Entry) → situation_of m own ≡ record { bounds = bounds; entry = entry } → length bounds ≡ length m.vars
length_here m (under cuts) bounds entry is = sym (ap (λ (s : Situation). length s.bounds) is) ∙ length-effective_bounds m cuts
length_here m (above cuts place k) bounds entry is = sym (ap (λ (s : Situation). length s.bounds) is) ∙ length-effective_bounds m cuts

-- what doesn't count the bounds under way doesn't depend on them
pub from_same : (m : Model) (was : List CertNode → Verdict) (mid old new : Walk) (found : Result Unit (OrMemory Failure)) → mid.value ≡ old.value → mid.leaves ≡ old.leaves
    → Leads m was mid new found → Leads m was old new found
from_same m was mid old new (Ok a) value leaves goes = record {
  later = goes.later;
  to_come = goes.to_come;
  value = goes.value ∙ value;
  leaves = subst (λ n. new.leaves ≤ suc n) leaves goes.leaves;
  same = goes.same;
}
from_same m was mid old new (Err (Fault failed)) value leaves ends = ends
from_same m was mid old new (Err NoMemory) value leaves ends = tt

-- ---- all nodes

-- So many nodes are done, and what is found is left to the others.
pub record Underway (m : Model) (value : Fraction) (nodes : List CertNode) (done : ℕ) (walk : Walk) : Type 0 where
  pub subtrees : List Subtree
  pub to_come : IsToCome m subtrees walk
  pub value_is : walk.value ≡ value
  pub leaves : walk.leaves ≤ done
  pub same : ahead m walk subtrees (drop done nodes) ≡ verdict_of (tree_looks m value 1 (under [] ∷ []) nodes)

pub begins_underway : (m : Model) (value : Fraction) (nodes : List CertNode) (walk : Walk) → walk.cases.later ≡ map (situation_of m) (under [] ∷ [])
    → walk.sums ≡ replicate (length m.vars) no_sum → walk.value ≡ value → walk.leaves ≡ 0 → Underway m value nodes 0 walk
begins_underway m value nodes walk waits sums value_is none = record {
  subtrees = under [] ∷ [];
  to_come = record { later = waits; enter = All-cons Enter (under []) [] tt (All-nil Enter); sums = sums };
  value_is = value_is;
  leaves = few none;
  same = ap₂ (λ (v : Fraction) (n : ℕ). verdict_of (tree_looks m v (suc n) (under [] ∷ []) nodes)) value_is none;
}
  where
    Enter : Subtree → Type 0
    Enter s = CanEnter (length m.vars) (situation_of m s).entry

    few : walk.leaves ≡ 0 → walk.leaves ≤ 0
    few is = omega (arith, is)

node_first : (m : Model) (value : Fraction) (nodes : List CertNode) (done : ℕ) (node : CertNode) (old : Walk) (subtrees : List Subtree) → done < length nodes → node ≡ get_or nodes done node
    → ahead m old subtrees (drop done nodes) ≡ ahead m old subtrees (node ∷ drop (done + 1) nodes)
node_first m value nodes done node old subtrees within is =
    ap (ahead m old subtrees) (drop_more nodes done node within) ∙ ap (λ (n : CertNode). ahead m old subtrees (n ∷ drop (done + 1) nodes)) (sym is)

pub goes_on_underway : (m : Model) (value : Fraction) (nodes : List CertNode) (done : ℕ) (node : CertNode) (old new : Walk) (here : Underway m value nodes done old) → done < length nodes
    → node ≡ get_or nodes done node → GoesOn m (λ rest. ahead m old here.subtrees (node ∷ rest)) old new → Underway m value nodes (done + 1) new
goes_on_underway m value nodes done node old new here within is goes = record {
  subtrees = goes.later;
  to_come = goes.to_come;
  value_is = goes.value ∙ here.value_is;
  leaves = few goes.leaves here.leaves;
  same = sym (goes.same (drop (done + 1) nodes)) ∙ sym (node_first m value nodes done node old here.subtrees within is) ∙ here.same;
}
  where
    few : new.leaves ≤ suc old.leaves → old.leaves ≤ done → new.leaves ≤ done + 1
    few a b = omega (arith, a, b)

pub ends_underway : (m : Model) (value : Fraction) (nodes : List CertNode) (done : ℕ) (node : CertNode) (old : Walk) (failed : Failure) (here : Underway m value nodes done old) → done < length nodes
    → node ≡ get_or nodes done node → ((rest : List CertNode) → ahead m old here.subtrees (node ∷ rest) ≡ verdict_by {A = Unit {0}} (Err failed))
    → verdict_of (tree_looks m value 1 (under [] ∷ []) nodes) ≡ verdict_by {A = Unit {0}} (Err failed)
ends_underway m value nodes done node old failed here within is ends =
    sym here.same ∙ node_first m value nodes done node old here.subtrees within is ∙ ends (drop (done + 1) nodes)

pub over_underway : (m : Model) (value : Fraction) (nodes : List CertNode) (done : ℕ) (walk : Walk) → Underway m value nodes done walk → drop done nodes ≡ []
    → verdict_of (tree_looks m value 1 (under [] ∷ []) nodes) ≡ Valid
over_underway m value nodes done walk here over = sym here.same ∙ ap (ahead m walk here.subtrees) over ∙ no_node_left m walk here.subtrees

pub found_underway : (m : Model) (value : Fraction) (nodes : List CertNode) (done : ℕ) (node : CertNode) (old new : Walk) (found : Result Unit (OrMemory Failure)) (here : Underway m value nodes done old) → IsErr found
    → done < length nodes → node ≡ get_or nodes done node → Leads m (λ rest. ahead m old here.subtrees (node ∷ rest)) old new found
    → Finds found (verdict_of (tree_looks m value 1 (under [] ∷ []) nodes))
found_underway m value nodes done node old new (Ok a) here is_err within is leads = absurd cc
found_underway m value nodes done node old new (Err (Fault failed)) here is_err within is leads = ends_underway m value nodes done node old failed here within is leads
found_underway m value nodes done node old new (Err NoMemory) here is_err within is leads = tt
