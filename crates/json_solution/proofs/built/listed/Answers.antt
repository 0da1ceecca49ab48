use Rattle.std.proofs.Common.{◌≡◌, ◌++◌, ℕ, List, ◌∷◌, [], ap, sym, ◌∙◌, map, length, take, rules, arith}
use Rattle.std.specs.Prelude.{zip, min}
use Rattle.frac128.specs.Fraction.{Fraction}
use Rattle.model_data.specs.declared.model.Var.{Var}
use Rattle.std.specs.List.{filter_map}
use Rattle.serde_json.specs.Data.{Data}
use Rattle.json_solution.specs.Solution.{listed_var}
use Rattle.json_solution.specs.Built.{var_data}
use Rattle.json_solution.proofs.Lists.{listed_more, listed_whole}
use Rattle.json_solution.proofs.built.listed.Goals as goal

pub loop-place-preserved : goal.loop-place-preserved
loop-place-preserved c =
    c.in_ok-add_var.ensures
    ∙ (ap (λ (front : List Data). front ++ map var_data (filter_map (listed_var c.args.detail) ((c.index-vars-place.result, c.index-xs-place.result) ∷ []))) c.loop-place.invariant
    ∙ sym (listed_more c.args.detail c.args.vars.now c.args.xs.now c.loop-place.place c.index-vars-place.result c.index-xs-place.result (search rules) (search rules) c.index-vars-place.is c.index-xs-place.is))

pub returns : goal.returns
returns c =
    let all : c.loop-place.place ≡ min (length c.args.vars.now) (length c.args.xs.now) = omega arith in
    c.loop-place.invariant
    ∙ (ap (λ (n : ℕ). map var_data (filter_map (listed_var c.args.detail) (take n (zip c.args.vars.now c.args.xs.now)))) all
    ∙ ap (λ (ps : List (Var × Fraction)). map var_data (filter_map (listed_var c.args.detail) ps)) (listed_whole c.args.vars.now c.args.xs.now))
