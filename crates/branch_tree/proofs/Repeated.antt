-- Any number of turns of a solve are the plain solver's.
use Rattle.std.proofs.Common.{◌≡◌, ◌∙◌, refl, sym, ap, subst, suc, List, [], ◌∷◌, ◌++◌, length}
use Rattle.model_data.specs.declared.model.Model.{Model}
use Rattle.model_data.specs.declared.params.Params.{Params}
use Rattle.solve_defs.specs.Plain.{Run, behind, cut_off, going, plain_cut, run, start, turn}
use Rattle.solve_defs.specs.declared.solving.Events.{Events}
use Rattle.search_laws.proofs.Runs.{run-going, run-none}
use Rattle.branch_tree.specs.ManyTurns.{Advances, Turned}
use Rattle.branch_tree.specs.Solves.{Solve}

pub turn_more : (first before after : Solve) (events : List Events) (own : Events) → Turned first events before → Advances own before after
    → Turned first (events ++ own ∷ []) after
turn_more first before after [] own turned h = let is : before ≡ first = turned in (after, subst (λ (b : Solve). Advances own b after) is h, refl)
turn_more first before after (e ∷ events) own turned h = (turned.0, turned.1, turn_more turned.0 before after events own turned.2 h)

-- the same from any solve
runs : (first last : Solve) (events : List Events) → Turned first events last
    → run first.model first.params (length events) first.progress ≡ record { turns = events; progress = last.progress }
runs first last [] turned = run-none first.model first.params first.progress ∙ ap (λ (x : Solve). record { turns = []; progress = x.progress }) (sym turned)
runs first last (own ∷ events) turned =
    let next = turned.0 in
    let h = turned.1.tells in
    let s = turned.1.search in
    let t = turn first.model first.params s in
    let k = length events in
    let behind_it : run first.model first.params k t.progress ≡ record { turns = events; progress = last.progress } =
    ap (run first.model first.params k) (sym h.progress)
    ∙ ap (λ (m : Model). run m first.params k next.progress) (sym h.model)
    ∙ ap (λ (p : Params). run next.model p k next.progress) (sym h.params)
    ∙ runs next last events turned.2 in
    ap (run first.model first.params (suc k)) turned.1.goes_on
    ∙ run-going first.model first.params k s
    ∙ ap (behind t.events) behind_it
    ∙ ap (λ e. record { turns = e ∷ events; progress = last.progress }) (sym h.events ∙ turned.1.events_are)

pub turns_run : (first last : Solve) (events : List Events) → first.progress ≡ going start → Turned first events last
    → run first.model first.params (length events) (going start) ≡ record { turns = events; progress = last.progress }
turns_run first last events at turned = ap (run first.model first.params (length events)) (sym at) ∙ runs first last events turned

pub turns_cut : (first last : Solve) (events : List Events) → first.progress ≡ going start → Turned first events last
    → cut_off last.progress ≡ plain_cut first.model first.params (length events)
turns_cut first last events at turned = ap (λ (r : Run). cut_off r.progress) (sym (turns_run first last events at turned))
