-- A solve that has come from its start keeps the bounds of its model.
use Rattle.std.proofs.Common.{◌≡◌, ◌∙◌, sym, ap, subst, ℕ, ◌+◌}
use Rattle.model_data.specs.declared.model.Model.{Model}
use Rattle.model_data.specs.declared.params.Params.{Params}
use Rattle.model_data.specs.declared.sound_model.SoundModel.{SoundModel}
use Rattle.node_laws.specs.Bounds.{KeepsBounds}
use Rattle.node_laws.proofs.Suffice.{bounds_kept}
use Rattle.search_laws.proofs.Runs.{run-going, run-more, run-none}
use Rattle.solve_defs.specs.Plain.{Progress, Run, Search, cut_off, going, plain_cut, run, start, turn}
use Rattle.branch_tree.specs.Bounded.{IsBounded}
use Rattle.branch_tree.specs.Solves.{Solve, Tells}
use Rattle.branch_tree.specs.declared.solving.Turn.{Turn}

-- behind so many turns of the plain solver
bounded_behind : (m : SoundModel) (s : Solve) (k : ℕ) → s.model ≡ m.model → (run s.model s.params k (going start)).progress ≡ s.progress → IsBounded s
bounded_behind m s k is led = record {
  turns = k;
  progress = led;
  bounds = subst (λ (at : Progress). KeepsBounds s.model s.params (cut_off at).outcome) led
      (subst (λ (own : Model). KeepsBounds own s.params (plain_cut own s.params k).outcome) (sym is) (bounds_kept m.model s.params k m.lawful m.kept));
}

pub bounded_at_start : (m : SoundModel) (s : Solve) → s.model ≡ m.model → s.progress ≡ going start → IsBounded s
bounded_at_start m s is at = bounded_behind m s 0 is (ap (λ (r : Run). r.progress) (run-none s.model s.params (going start)) ∙ sym at)

-- one turn more
turn_more : (m : Model) (p : Params) (k : ℕ) (s : Search) → (run m p k (going start)).progress ≡ going s → (run m p (k + 1) (going start)).progress ≡ (turn m p s).progress
turn_more m p k s led =
    ap (λ (r : Run). r.progress) (run-more m p k 1 (going start)) ∙ ap (λ at. (run m p 1 at).progress) led ∙ ap (λ (r : Run). r.progress) (run-going m p 0 s)
    ∙ ap (λ (r : Run). r.progress) (run-none m p (turn m p s).progress)

pub bounded_by_turn : (m : SoundModel) (old new : Solve) (told : Turn) (s : Search) → old.model ≡ m.model → old.progress ≡ going s
    → Tells (turn old.model old.params s) told old new → IsBounded old → IsBounded new
bounded_by_turn m old new told s is at tells before =
    bounded_behind m new (before.turns + 1) (tells.model ∙ is)
    (ap (λ (own : Model). (run own new.params (before.turns + 1) (going start)).progress) tells.model
    ∙ ap (λ (own : Params). (run old.model own (before.turns + 1) (going start)).progress) tells.params
    ∙ turn_more old.model old.params before.turns s (before.progress ∙ at) ∙ sym tells.progress)
