use Rattle.std.proofs.Common.{rules, ◌≡◌, ◌∙◌, sym, ap, suc, ◌+◌, ◌<◌, List, length, map, drop, get_or, Result, Ok, Err, arith}
use Rattle.frac128.specs.Fraction.{Fraction}
use Rattle.frac128.specs.declared.operations.Wide.{Wide}
use Rattle.solve_defs.specs.Looks.{Look, after_look}
use Rattle.solve_defs.specs.Values.{is_same}
use Rattle.solve_defs.specs.declared.verdict.Place.TheVariants.{LeafSum}
use Rattle.solve_defs.specs.declared.verdict.Verdict.TheVariants.{TooWide, Valid}
use Rattle.cert_check.specs.Found.{tested, verdict_by}
use Rattle.cert_check.specs.Leaves.{coef_by, compared, sum_look}
use Rattle.cert_check.specs.Sums.{Sum, sum_at}
use Rattle.cert_check.proofs.Compared.{sum_here, taken_next, test_fails, test_holds}
use Rattle.cert_check.proofs.leaf.sum_looks.Goals as goal

pub returns-in_err-sum-clause-looks : goal.returns-in_err-sum-clause-looks
returns-in_err-sum-clause-looks c =
    let m = c.args.m.now in
    let claim = c.args.claim.now in
    let leaf = c.args.leaf in
    let i = c.loop-place.place in
    let v = c.var-item.result in
    let sums = c.args.sums.now in
    let coefs : List Fraction = map (coef_by m claim) m.vars in
    let look : Look = sum_look leaf i (coef_by m claim v) in
    let later = compared leaf (i + 1) (drop (i + 1) sums) (drop (i + 1) coefs) in
    let within : i < length m.vars = search rules in
    let is : v ≡ get_or m.vars i v = search rules in
    let here = sum_here m claim leaf i v c.loop-place.sums sums within is c.requires.sizes c.loop-place.invariant.sums in
    let refused : verdict_by c.from_residual.result ≡ TooWide c.in_err-sum.field-0.0 = search rules in
    let sum : sum_at c.loop-place.sums i ≡ Err c.in_err-sum.field-0.0 = sym c.take.ensures.sum ∙ c.in_err-sum.was in
    refused ∙ sym (here ∙ ap (λ (s : Sum). after_look look s later) sum) ∙ c.loop-place.invariant.same

pub returns-in_err-look-clause-looks : goal.returns-in_err-look-clause-looks
returns-in_err-look-clause-looks c =
    let m = c.args.m.now in
    let claim = c.args.claim.now in
    let leaf = c.args.leaf in
    let i = c.loop-place.place in
    let v = c.var-item.result in
    let sums = c.args.sums.now in
    let coefs : List Fraction = map (coef_by m claim) m.vars in
    let look : Look = sum_look leaf i (coef_by m claim v) in
    let later = compared leaf (i + 1) (drop (i + 1) sums) (drop (i + 1) coefs) in
    let within : i < length m.vars = search rules in
    let is : v ≡ get_or m.vars i v = search rules in
    let here = sum_here m claim leaf i v c.loop-place.sums sums within is c.requires.sizes c.loop-place.invariant.sums in
    let next : i + 1 ≡ suc i = omega arith in
    let total = c.in_ok-sum.sum in
    let failed = c.in_err-look.field-0.0 in
    let found : verdict_by c.from_residual-in_err-look.result ≡ verdict_by {A = Unit {0}} (Err failed) = search rules in
    let test : verdict_by {A = Unit {0}} (Err failed) ≡ tested (is_same total (coef_by m claim v)) (LeafSum leaf (i + 1)) = search rules in
    let sum : sum_at c.loop-place.sums i ≡ Ok total = sym c.take.ensures.sum ∙ c.in_ok-sum.was in
    found
    ∙ test_fails look total later failed (test ∙ ap (λ k. tested (is_same total (coef_by m claim v)) (LeafSum leaf k)) next)
    ∙ sym (here ∙ ap (λ (s : Sum). after_look look s later) sum)
    ∙ c.loop-place.invariant.same

pub loop-place-preserved : goal.loop-place-preserved
loop-place-preserved c =
    let m = c.args.m.now in
    let claim = c.args.claim.now in
    let leaf = c.args.leaf in
    let i = c.loop-place.place in
    let v = c.var-item.result in
    let sums = c.args.sums.now in
    let coefs : List Fraction = map (coef_by m claim) m.vars in
    let look : Look = sum_look leaf i (coef_by m claim v) in
    let later = compared leaf (i + 1) (drop (i + 1) sums) (drop (i + 1) coefs) in
    let within : i < length m.vars = search rules in
    let is : v ≡ get_or m.vars i v = search rules in
    let here = sum_here m claim leaf i v c.loop-place.sums sums within is c.requires.sizes c.loop-place.invariant.sums in
    let next : i + 1 ≡ suc i = omega arith in
    let total = c.in_ok-sum.sum in
    let test : Valid ≡ tested (is_same total (coef_by m claim v)) (LeafSum leaf (i + 1)) = search rules in
    let sum : sum_at c.loop-place.sums i ≡ Ok total = sym c.take.ensures.sum ∙ c.in_ok-sum.was in
    let among : i < length sums = let sizes = c.requires.sizes in omega (arith, sizes, within) in
    record {
      sums = c.take.ensures.rest ∙ taken_next i c.loop-place.sums sums among c.loop-place.invariant.sums;
      same =
          sym (here ∙ ap (λ (s : Sum). after_look look s later) sum ∙ test_holds look total later (test ∙ ap (λ k. tested (is_same total (coef_by m claim v)) (LeafSum leaf k)) next))
          ∙ c.loop-place.invariant.same;
    }
