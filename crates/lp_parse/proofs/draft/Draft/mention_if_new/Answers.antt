use Rattle.std.proofs.Common.{rules, ◌≡◌, ap, sym, ◌∙◌, ℕ, false, List, [], ◌∷◌, ◌++◌, bytes_eq}
use Rattle.std.specs.List.{list_any}
use Rattle.model_data.specs.declared.model.Var.{Var}
use Rattle.lp_parse.specs.Draft.{with_name}
use Rattle.lp_parse.proofs.Grown.{sound_var}
use Rattle.lp_defs.specs.Draft.{knows_var}
use Rattle.lp_parse.proofs.Known.{knows_var_shown}
use Rattle.lp_parse.proofs.draft.Draft.mention_if_new.Goals as goal

pub returns-then-is_known-clause-model : goal.returns-then-is_known-clause-model
returns-then-is_known-clause-model c =
    let known : knows_var c.args.name.now c.args.self.now.model ≡ c.args.is_known =
    sym c.requires in
    search rules

pub returns-then-len-ge-MAX_VARS-clause-model : goal.returns-then-len-ge-MAX_VARS-clause-model
returns-then-len-ge-MAX_VARS-clause-model c =
    let known : knows_var c.args.name.now c.args.self.now.model ≡ c.args.is_known =
    sym c.requires in
    search rules

pub returns-clause-model : goal.returns-clause-model
returns-clause-model c =
    let known : knows_var c.args.name.now c.args.self.now.model ≡ c.args.is_known =
    sym c.requires in
    search rules

pub invariant_of-self-2 : goal.invariant_of-self-2
invariant_of-self-2 c =
    let v = c.in_ok-var.var in
    let text = c.args.name.now in
    let named : v.name ≡ text = ap (λ (w : Var). w.name) c.in_ok-var.ensures in
    let new : list_any (bytes_eq text) c.self.inside.var_names ≡ false = sym (c.requires ∙ knows_var_shown c.self.inside c.self.invariant c.self.view_is text) ∙ c.if-is_known.false in
    sound_var c.self.invariant v c.push_reserved.new.self.items c.add.new.self
    (c.push_reserved.ensures.items ∙ ap (λ (l : List Var). l ++ v ∷ []) c.reserve.ensures.items)
    (c.in_ok-add.ensures.ok ∙ ap (with_name c.self.inside.var_names) (sym named))
    (ap (λ (t : List ℕ). list_any (bytes_eq t) c.self.inside.var_names) named ∙ new)
    (search rules)
