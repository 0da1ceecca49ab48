use Rattle.std.proofs.Common.{rules, ◌≡◌, ◌∙◌, sym, ap, ap₂, List, ◌++◌, ◌∷◌, [], None, Some, slice_index_or, slice_set}
use Rattle.std.proofs.lemmas.Result.{on_ok_weaker}
use Rattle.solve_defs.specs.Bounds.{Bounds, at_most_cut, both, cut_bounds, effective_bounds}
use Rattle.solve_defs.specs.Values.{whole}
use Rattle.cert_check.specs.Open.{Open, Situation}
use Rattle.cert_check.specs.declared.cases.Entry.TheVariants.{Above, Here}
use Rattle.cert_check.proofs.CutBounds.{cut_begins}
use Rattle.cert_check.proofs.tree.Walk.split.Goals as goal

pub returns-clause-later : goal.returns-clause-later
returns-clause-later c =
    let old = c.args.self.now in
    let place = c.args.place in
    let k = c.args.k in
    let lower : Situation = record { bounds = c.cut.new.self.bounds; entry = Here } in
    let upper : Situation = record { bounds = old.cases.bounds; entry = Above place k } in
    let first : c.wait.new.self ≡ record old.cases { later = upper ∷ old.cases.later } = search rules in
    let b : c.of.result ≡ cut_bounds (at_most_cut place k) = search rules in
    let cut : c.cut.new.self ≡ record c.wait.new.self { bounds = slice_set c.wait.new.self.bounds place (both (slice_index_or c.wait.new.self.bounds place c.of.result) c.of.result) } = search rules in
    on_ok_weaker c.wait-2.result
    (λ (last : c.wait-2.new.self ≡ record c.cut.new.self { later = lower ∷ c.cut.new.self.later }) m cuts are.
    let bounds : c.cut.new.self.bounds ≡ effective_bounds m (cuts ++ at_most_cut place k ∷ []) =
    ap (λ (o : Open). o.bounds) cut
    ∙ ap (λ (o : Open). slice_set o.bounds place (both (slice_index_or o.bounds place c.of.result) c.of.result)) first
    ∙ cut_begins m cuts (at_most_cut place k) old.cases.bounds c.of.result are b c.requires.place in
    let later : c.cut.new.self.later ≡ upper ∷ old.cases.later = ap (λ (o : Open). o.later) cut ∙ ap (λ (o : Open). o.later) first in
    ap (λ (o : Open). o.later) last
    ∙ ap (λ (ss : List Situation). lower ∷ ss) later
    ∙ ap₂ (λ (bs us : List Bounds). record { bounds = bs; entry = Here } ∷ record { bounds = us; entry = Above place k } ∷ old.cases.later) bounds are)
    c.wait-2.ensures
