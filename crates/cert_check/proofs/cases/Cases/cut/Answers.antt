use Rattle.std.proofs.Common.{rules, ◌≡◌, ◌∙◌, ap, ap₂, List, [], ◌∷◌, ◌++◌, ◌<◌, length, reverse, slice_index_or, slice_set}
use Rattle.std.proofs.lemmas.List.{get_or_default}
use Rattle.solve_defs.specs.Bounds.{Bounds, both}
use Rattle.cert_check.specs.Open.{Open, Situation}
use Rattle.cert_check.specs.Stack.{waiting}
use Rattle.cert_check.specs.declared.cases.Kept.{Kept}
use Rattle.cert_check.specs.declared.cases.Kept.TheVariants.{Before}
use Rattle.cert_check.proofs.Stacks.{cut_waits}
use Rattle.cert_check.proofs.cases.Cases.cut.Goals as goal

pub returns : goal.returns
returns c =
    let i = c.self.inside in
    let place = c.args.place in
    let b = c.args.bounds.now in
    let own = c.index.result.now in
    let bounds : i.bounds.items ≡ c.args.self.now.bounds = ap (λ (o : Open). o.bounds) c.self.view_is in
    let later : waiting i.bounds.items (reverse i.kept.items) ≡ c.args.self.now.later = ap (λ (o : Open). o.later) c.self.view_is in
    let within : place < length i.bounds.items = search rules in
    let read : own ≡ slice_index_or i.bounds.items place own = search rules in
    let own_is : own ≡ slice_index_or i.bounds.items place b = read ∙ get_or_default i.bounds.items place own b within in
    let pushed : c.push.new.self.items ≡ i.kept.items ++ Before place own ∷ [] = search rules in
    let tighter : c.both.result ≡ both (slice_index_or i.bounds.items place b) b = c.both.ensures ∙ ap (λ (x : Bounds). both x b) own_is in
    let make : List Bounds → List Situation → Open = λ bs ss. record { bounds = bs; later = ss } in
    ap₂ make
    (ap (slice_set i.bounds.items place) tighter ∙ ap (λ (bs : List Bounds). slice_set bs place (both (slice_index_or bs place b) b)) bounds)
    (ap (λ (ks : List Kept). waiting (slice_set i.bounds.items place c.both.result) (reverse ks)) pushed
    ∙ cut_waits i.bounds.items i.kept.items place c.both.result b own own_is ∙ later)
