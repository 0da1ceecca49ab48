use Rattle.std.proofs.Common.{◌≡◌, ◌∙◌, refl, sym, ap, subst, List, ◌∷◌, Option, Some, None}
use Rattle.model_data.specs.declared.solution.CertNode.{CertNode}
use Rattle.solve_defs.specs.Certificates.{Subtree}
use Rattle.cert_check.specs.Open.{Begins}
use Rattle.cert_check.specs.Walks.{IsToCome, Leads, ahead}
use Rattle.cert_check.specs.declared.cases.Entry.{Entry}
use Rattle.cert_check.specs.declared.tree.Walk.{Walk}
use Rattle.cert_check.proofs.Walked.{NextBegun, from_same, length_here, none_next, some_next}
use Rattle.cert_check.proofs.tree.Walk.node.Goals as goal

pub case-requires-clause-enter : goal.case-requires-clause-enter
case-requires-clause-enter c =
    let m = c.args.m.now in
    let old = c.args.self.now in
    let begins : Begins old.cases.later (Some c.in-Some.entry) c.next.new.self = subst (λ (o : Option Entry). Begins old.cases.later o c.next.new.self) c.in-Some.is c.next.ensures in
    (some_next m c.requires.to_come.0 old c.in-Some.entry c.next.new.self c.requires.to_come.1 begins).enter

pub case-requires-clause-bounds : goal.case-requires-clause-bounds
case-requires-clause-bounds c =
    let m = c.args.m.now in
    let old = c.args.self.now in
    let begins : Begins old.cases.later (Some c.in-Some.entry) c.next.new.self = subst (λ (o : Option Entry). Begins old.cases.later o c.next.new.self) c.in-Some.is c.next.ensures in
    let next : NextBegun m c.requires.to_come.0 old c.in-Some.entry c.next.new.self = some_next m c.requires.to_come.0 old c.in-Some.entry c.next.new.self c.requires.to_come.1 begins in
    length_here m next.own c.next.new.self.bounds c.in-Some.entry next.here

pub returns-in-Some : goal.returns-in-Some
returns-in-Some c = λ subtrees to_come.
    let m = c.args.m.now in
    let old = c.args.self.now in
    let begins : Begins old.cases.later (Some c.in-Some.entry) c.next.new.self = subst (λ (o : Option Entry). Begins old.cases.later o c.next.new.self) c.in-Some.is c.next.ensures in
    let node = c.args.node.now in
    let new = c.case.new.self in
    let mid : Walk = record old { cases = c.next.new.self } in
    let next : NextBegun m subtrees old c.in-Some.entry c.next.new.self = some_next m subtrees old c.in-Some.entry c.next.new.self to_come begins in
    let others : IsToCome m next.later mid = record { later = next.waits; enter = next.others; sums = to_come.sums } in
    let leads = c.case.ensures next.own next.later next.here others in
    subst (λ (ss : List Subtree). Leads m (λ nodes. ahead m old ss (node ∷ nodes)) old new c.case.result) (sym next.are)
    (from_same m (λ nodes. ahead m old (next.own ∷ next.later) (node ∷ nodes)) mid old new c.case.result refl refl leads)

pub returns-in-None : goal.returns-in-None
returns-in-None c = λ subtrees to_come.
    let m = c.args.m.now in
    let old = c.args.self.now in
    let begins : Begins old.cases.later None c.next.new.self = subst (λ (o : Option Entry). Begins old.cases.later o c.next.new.self) c.in-None.is c.next.ensures in
    none_next m c.args.node.now subtrees old (record old { cases = c.next.new.self }) to_come begins refl
