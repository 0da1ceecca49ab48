use Rattle.std.proofs.Common.{ap, refl}
use Rattle.model_data.specs.declared.model.Var.{Var}
use Rattle.lp_defs.specs.Draft.{with_kind}
use Rattle.lp_parse.proofs.Changed.{kept, written}
use Rattle.lp_parse.proofs.Known.{sound_set}
use Rattle.lp_parse.proofs.draft.Draft.set_kind.Goals as goal

pub invariant_of-self : goal.invariant_of-self
invariant_of-self c = sound_set c.self.invariant c.in-Some.place _ c.index_mut.result.now (ap (λ (v : Var). v.name) c.index_mut.ensures.value)

pub returns-in-Some : goal.returns-in-Some
returns-in-Some c =
    written c.self.inside c.self.invariant c.self.view_is c.args.name.now (with_kind c.args.kind)
    c.in-Some.ensures.place c.in-Some.ensures.found c.index_mut.ensures.value refl

pub returns-in_default : goal.returns-in_default
returns-in_default c = kept c.self.inside c.self.invariant c.self.view_is c.args.name.now (with_kind c.args.kind) c.in_default.ensures.found
