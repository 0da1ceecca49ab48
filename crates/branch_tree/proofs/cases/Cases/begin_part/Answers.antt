use Rattle.std.proofs.Common.{◌≡◌, ◌∙◌, sym, ap, ◌∷◌, [], ◌++◌, length, rules}
use Rattle.branch_tree.specs.Waits.{Open}
use Rattle.branch_tree.proofs.Stacked.{part_waits}
use Rattle.branch_tree.proofs.cases.Cases.begin_part.Goals as goal

pub returns-clause-ok : goal.returns-clause-ok
returns-clause-ok c =
    let i = c.self.inside in
    let now : c.push.new.self.items ≡ i.waiting.items ++ record { depth = length i.path.items; cut = c.args.other } ∷ [] = search rules in
    let is : c.args.cuts.items ≡ i.path.items ++ c.requires.0 ∷ [] = c.requires.1 ∙ ap (λ (o : Open). o.own ++ c.requires.0 ∷ []) (sym c.self.view_is) in
    ap (λ w. record { own = c.args.cuts.items; waiting = w }) (part_waits i.path.items c.args.cuts.items i.waiting.items c.push.new.self.items c.requires.0 c.args.other is c.self.invariant now)
    ∙ ap (λ (o : Open). record { own = c.args.cuts.items; waiting = (o.own ++ c.args.other ∷ []) ∷ o.waiting }) c.self.view_is
