use Rattle.std.proofs.Common.{rules, ◌≡◌, ◌∙◌, sym, ap, subst, ◌-◌, ◌<◌, suc, List, ◌++◌, length, map, Err, IsTrue, arith}
use Rattle.base_names.specs.declared.memory.OrMemory.TheVariants.{Fault}
use Rattle.model_data.specs.declared.solution.CertNode.{CertNode}
use Rattle.model_data.specs.declared.solution.CertNode.TheVariants.{Split}
use Rattle.solve_defs.specs.Bounds.{Bounds}
use Rattle.solve_defs.specs.Certificates.{Claim, bound_claim, farkas_claim, halves, is_node_for, leaf_looks, tree_looks}
use Rattle.solve_defs.specs.Looks.{verdict_of}
use Rattle.solve_defs.specs.declared.verdict.Verdict.{Verdict}
use Rattle.solve_defs.specs.declared.verdict.Verdict.TheVariants.{Valid}
use Rattle.cert_check.specs.Found.{verdict_by}
use Rattle.cert_check.specs.Leaves.{looks_within}
use Rattle.cert_check.specs.Walks.{GoesOn, Leads, at_node, situation_of}
use Rattle.cert_check.specs.declared.tree.Walk.{Walk}
use Rattle.cert_check.proofs.Fitting.{SplitFits, split_fits}
use Rattle.cert_check.proofs.Walked.{leaf_ends, leaf_leads, split_leads}
use Rattle.cert_check.proofs.tree.Walk.visit.Goals as goal

pub split-requires-clause-place : goal.split-requires-clause-place
split-requires-clause-place c =
    let m = c.args.m.now in
    let fits : SplitFits m c.in-Split.var c.in-Split.k = split_fits m c.in-Split.var c.in-Split.k (subst (λ n. IsTrue (is_node_for m n)) c.in-Split.is c.requires.node) in
    let some = fits.above_zero in
    let within = fits.within in
    let sizes = c.requires.bounds in omega (arith, some, within, sizes)

pub returns-in_ok-split-in-Split : goal.returns-in_ok-split-in-Split
returns-in_ok-split-in-Split c = λ cuts later are to_come.
    let m = c.args.m.now in
    let old = c.args.self.now in
    let number = c.in-Split.var in
    let k = c.in-Split.k in
    let fits : SplitFits m number k = split_fits m number k (subst (λ n. IsTrue (is_node_for m n)) c.in-Split.is c.requires.node) in
    let waits : c.split.new.self.cases.later ≡ map (situation_of m) (halves cuts (number - 1) k) ++ old.cases.later = search rules in
    let same : c.split.new.self ≡ record old { cases = c.split.new.self.cases } = search rules in
    subst (λ n. GoesOn m (at_node m old cuts later n) old c.split.new.self) (sym c.in-Split.is)
    (split_leads m cuts later number k old c.split.new.self fits to_come waits same)

pub returns-in_err-leaf-in-Bound : goal.returns-in_err-leaf-in-Bound
returns-in_err-leaf-in-Bound c = λ cuts later are to_come.
    let m = c.args.m.now in
    let old = c.args.self.now in
    let weights = c.in-Bound.weights in
    let claim : Claim = bound_claim m old.value in
    let was : List CertNode → Verdict = at_node m old cuts later c.args.node.now in
    let is : (nodes : List CertNode) → was nodes ≡ verdict_of (leaf_looks m cuts (suc old.leaves) claim weights ++ tree_looks m old.value (suc (suc old.leaves)) later nodes) =
    λ nodes. ap (λ (n : CertNode). at_node m old cuts later n nodes) c.in-Bound.is in
    let looks : verdict_by c.leaf.result ≡ verdict_of (leaf_looks m cuts (suc old.leaves) claim weights) =
    c.leaf.ensures.looks ∙ ap (λ (bs : List Bounds). verdict_of (looks_within m bs (suc old.leaves) claim weights)) are in
    let failed = c.in_err-leaf-in-Bound.field-0.0 in
    let found = c.from_residual-in_err-leaf-in-Bound.result in
    let answer : found ≡ Err (Fault failed) = search rules in
    let ends : verdict_by {A = Unit {0}} (Err failed) ≡ verdict_of (leaf_looks m cuts (suc old.leaves) claim weights) = ap verdict_by (sym c.in_err-leaf-in-Bound.was) ∙ looks in
    subst (Leads m was old c.leaf.new.self) (sym answer) (leaf_ends m cuts later claim weights was old failed is ends)

pub returns-in_ok-leaf-in-Bound : goal.returns-in_ok-leaf-in-Bound
returns-in_ok-leaf-in-Bound c = λ cuts later are to_come.
    let m = c.args.m.now in
    let old = c.args.self.now in
    let weights = c.in-Bound.weights in
    let claim : Claim = bound_claim m old.value in
    let was : List CertNode → Verdict = at_node m old cuts later c.args.node.now in
    let is : (nodes : List CertNode) → was nodes ≡ verdict_of (leaf_looks m cuts (suc old.leaves) claim weights ++ tree_looks m old.value (suc (suc old.leaves)) later nodes) =
    λ nodes. ap (λ (n : CertNode). at_node m old cuts later n nodes) c.in-Bound.is in
    let looks : verdict_by c.leaf.result ≡ verdict_of (leaf_looks m cuts (suc old.leaves) claim weights) =
    c.leaf.ensures.looks ∙ ap (λ (bs : List Bounds). verdict_of (looks_within m bs (suc old.leaves) claim weights)) are in
    let passes : Valid ≡ verdict_of (leaf_looks m cuts (suc old.leaves) claim weights) = ap verdict_by (sym c.in_ok-leaf-in-Bound.was) ∙ looks in
    let same : c.leaf.new.self ≡ record old { leaves = suc old.leaves } = search rules in
    leaf_leads m cuts later claim weights was old c.leaf.new.self is to_come passes same

pub returns-in_err-leaf-in-Farkas : goal.returns-in_err-leaf-in-Farkas
returns-in_err-leaf-in-Farkas c = λ cuts later are to_come.
    let m = c.args.m.now in
    let old = c.args.self.now in
    let weights = c.in-Farkas.weights in
    let claim : Claim = farkas_claim m in
    let was : List CertNode → Verdict = at_node m old cuts later c.args.node.now in
    let is : (nodes : List CertNode) → was nodes ≡ verdict_of (leaf_looks m cuts (suc old.leaves) claim weights ++ tree_looks m old.value (suc (suc old.leaves)) later nodes) =
    λ nodes. ap (λ (n : CertNode). at_node m old cuts later n nodes) c.in-Farkas.is in
    let looks : verdict_by c.leaf-in-Farkas.result ≡ verdict_of (leaf_looks m cuts (suc old.leaves) claim weights) =
    c.leaf-in-Farkas.ensures.looks ∙ ap (λ (bs : List Bounds). verdict_of (looks_within m bs (suc old.leaves) claim weights)) are in
    let failed = c.in_err-leaf-in-Farkas.field-0.0 in
    let found = c.from_residual-in_err-leaf-in-Farkas.result in
    let answer : found ≡ Err (Fault failed) = search rules in
    let ends : verdict_by {A = Unit {0}} (Err failed) ≡ verdict_of (leaf_looks m cuts (suc old.leaves) claim weights) = ap verdict_by (sym c.in_err-leaf-in-Farkas.was) ∙ looks in
    subst (Leads m was old c.leaf-in-Farkas.new.self) (sym answer) (leaf_ends m cuts later claim weights was old failed is ends)

pub returns-in_ok-leaf-in-Farkas : goal.returns-in_ok-leaf-in-Farkas
returns-in_ok-leaf-in-Farkas c = λ cuts later are to_come.
    let m = c.args.m.now in
    let old = c.args.self.now in
    let weights = c.in-Farkas.weights in
    let claim : Claim = farkas_claim m in
    let was : List CertNode → Verdict = at_node m old cuts later c.args.node.now in
    let is : (nodes : List CertNode) → was nodes ≡ verdict_of (leaf_looks m cuts (suc old.leaves) claim weights ++ tree_looks m old.value (suc (suc old.leaves)) later nodes) =
    λ nodes. ap (λ (n : CertNode). at_node m old cuts later n nodes) c.in-Farkas.is in
    let looks : verdict_by c.leaf-in-Farkas.result ≡ verdict_of (leaf_looks m cuts (suc old.leaves) claim weights) =
    c.leaf-in-Farkas.ensures.looks ∙ ap (λ (bs : List Bounds). verdict_of (looks_within m bs (suc old.leaves) claim weights)) are in
    let passes : Valid ≡ verdict_of (leaf_looks m cuts (suc old.leaves) claim weights) = ap verdict_by (sym c.in_ok-leaf-in-Farkas.was) ∙ looks in
    let same : c.leaf-in-Farkas.new.self ≡ record old { leaves = suc old.leaves } = search rules in
    leaf_leads m cuts later claim weights was old c.leaf-in-Farkas.new.self is to_come passes same
