use Rattle.std.proofs.Common.{◌≡◌, ◌∙◌, ap, [], ◌∷◌, ◌++◌, map, reverse, rules}
use Rattle.branch_tree.specs.Stack.{cuts_of}
use Rattle.branch_tree.specs.Waits.{Open}
use Rattle.branch_tree.proofs.Stacked.{begun_nested, begun_waits}
use Rattle.branch_tree.proofs.cases.Cases.begin_next.Goals as goal

pub invariant_of-self-2 : goal.invariant_of-self-2
invariant_of-self-2 c =
    let i = c.self.inside in
    let is : i.waiting.items ≡ c.pop.new.self.items ++ c.in-Some._begun ∷ [] = search rules in
    let view : map (cuts_of i.path.items) (reverse i.waiting.items) ≡ c.args.cuts.items ∷ c.requires.0 = ap (λ (o : Open). o.waiting) c.self.view_is ∙ c.requires.1 in
    begun_nested i.path.items c.args.cuts.items i.waiting.items c.pop.new.self.items c.in-Some._begun c.requires.0 view c.self.invariant is

pub returns : goal.returns
returns c = λ later h.
    let i = c.self.inside in
    let is : i.waiting.items ≡ c.pop.new.self.items ++ c.in-Some._begun ∷ [] = search rules in
    let view : map (cuts_of i.path.items) (reverse i.waiting.items) ≡ c.args.cuts.items ∷ later = ap (λ (o : Open). o.waiting) c.self.view_is ∙ h in
    ap (λ w. record { own = c.args.cuts.items; waiting = w })
    (begun_waits i.path.items c.args.cuts.items i.waiting.items c.pop.new.self.items c.in-Some._begun later view c.self.invariant is)
