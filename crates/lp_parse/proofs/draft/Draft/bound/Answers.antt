use Rattle.std.proofs.Common.{◌≡◌, refl, ◌∙◌, ap}
use Rattle.model_data.specs.declared.model.Sense.{Sense}
use Rattle.model_data.specs.declared.model.Sense.TheVariants.{Equal, Greater, Less}
use Rattle.model_data.specs.declared.model.Var.{Var}
use Rattle.lp_defs.specs.Quantity.{Limit, with_bound}
use Rattle.lp_parse.specs.Meaning.{limit_of}
use Rattle.lp_parse.proofs.Changed.{kept, written}
use Rattle.lp_parse.proofs.Known.{sound_set}
use Rattle.lp_parse.proofs.draft.Draft.bound.Goals as goal

bound_keeps_name : (sense : Sense) (limit : Limit) (v : Var) → (with_bound sense limit v).name ≡ v.name
bound_keeps_name Less limit v = refl
bound_keeps_name Greater limit v = refl
bound_keeps_name Equal limit v = refl

pub invariant_of-self : goal.invariant_of-self
invariant_of-self c =
    sound_set c.self.invariant c.in-Some.place _ c.index_mut.result.now
    (ap (λ (v : Var). v.name) c.set_bound.ensures ∙ bound_keeps_name c.args.sense (limit_of c.args.limit c.args.number.now) _
    ∙ ap (λ (v : Var). v.name) c.index_mut.ensures.value)

pub returns-in-Some : goal.returns-in-Some
returns-in-Some c =
    written c.self.inside c.self.invariant c.self.view_is c.args.name.now (with_bound c.args.sense (limit_of c.args.limit c.args.number.now))
    c.in-Some.ensures.place c.in-Some.ensures.found c.index_mut.ensures.value c.set_bound.ensures

pub returns-in_default : goal.returns-in_default
returns-in_default c =
    kept c.self.inside c.self.invariant c.self.view_is c.args.name.now (with_bound c.args.sense (limit_of c.args.limit c.args.number.now)) c.in_default.ensures.found
