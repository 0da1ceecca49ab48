use Rattle.std.proofs.Common.{rules, ◌≡◌, ◌∙◌, ap, List, ◌++◌, ◌∷◌, [], pos, ◌+ℤ◌, None, Some, Ok, slice_index_or, slice_set}
use Rattle.frac128.specs.Checked.{checked_sum}
use Rattle.frac128.specs.Fraction.{Fraction, one_value}
use Rattle.solve_defs.specs.Bounds.{Bounds, at_least_cut, both, cut_bounds, effective_bounds}
use Rattle.solve_defs.specs.Values.{whole}
use Rattle.cert_check.specs.Open.{Open}
use Rattle.cert_check.specs.declared.tree.Walk.{Walk}
use Rattle.cert_check.proofs.CutBounds.{cut_begins}
use Rattle.cert_check.proofs.Walked.{entering_passes}
use Rattle.cert_check.proofs.Wholes.{next_is}
use Rattle.cert_check.proofs.tree.Walk.enter_above.Goals as goal

pub returns-clause-entered : goal.returns-clause-entered
returns-clause-entered c = λ m cuts are.
    let old = c.args.self.now in
    let place = c.args.place in
    let k = c.args.k in
    let least = c.in_ok-least.least in
    let cut = at_least_cut place (k +ℤ pos 1) in
    let sum : checked_sum (whole k) one_value ≡ Ok least = search rules in
    let b : c.of.result ≡ record { lower = Some least; upper = None } = search rules in
    let make : Fraction → Bounds = λ x. record { lower = Some x; upper = None } in
    let b_is : c.of.result ≡ cut_bounds cut = b ∙ ap make (next_is k least sum) in
    let now : c.cut.new.self ≡ record old.cases { bounds = slice_set old.cases.bounds place (both (slice_index_or old.cases.bounds place c.of.result) c.of.result) } = search rules in
    record {
      passes = entering_passes cuts place k least sum;
      begun =
          ap (λ (o : Open). record old { cases = o })
          (now ∙ ap (λ (bs : List Bounds). record old.cases { bounds = bs }) (cut_begins m cuts cut old.cases.bounds c.of.result are b_is c.requires.place));
    }
