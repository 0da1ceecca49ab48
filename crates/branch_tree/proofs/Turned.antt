-- A turn of the plain solver by the node at which it is made.
use Rattle.std.proofs.Common.{◌≡◌, ◌∙◌, refl, sym, ap, Option, Some, None, Ok, Err, [], ◌∷◌, is_some, false}
use Rattle.dictionary.specs.Dictionary.{Dictionary}
use Rattle.model_data.specs.declared.model.Model.{Model}
use Rattle.model_data.specs.declared.params.Params.{Params}
use Rattle.solve_defs.specs.Path.{coming}
use Rattle.solve_defs.specs.Plain.{Node, Search, Turn, begun, going, node_turn, rooted, silent, turn, turn_at, turn_on}
use Rattle.branch_tree.specs.Counted.{stopped_by}
use Rattle.branch_tree.specs.Stage.{Makes, Stage, begun_as, progress_of}
use Rattle.branch_tree.specs.declared.counts.Stop.{Stop}
use Rattle.branch_tree.specs.declared.done.Done.{Done}
use Rattle.branch_tree.specs.declared.step.Step.{Step}

pub turn_here : (m : Model) (p : Params) (s : Search) (node : Node) → s.node ≡ Some node → node_turn m p s node (coming node.dictionary) ≡ turn m p s
unfolding turn
turn_here m p s node is = ap (turn_at m p s) (sym is) ∙ ap (λ o. turn_on m p (rooted m p s o)) (sym is)

pub turn_rooted : (m : Model) (p : Params) (s : Search) → s.node ≡ None → s.waiting ≡ [] ∷ [] → turn_on m p (begun m p s ([] ∷ [])) ≡ turn m p s
unfolding turn
turn_rooted m p s none waits = ap (λ w. turn_on m p (begun m p s w)) (sym waits) ∙ ap (λ o. turn_on m p (rooted m p s o)) (sym none)

-- The root begins, and the turn is the one there.
pub turn_at_root : (m : Model) (p : Params) (s : Search) (run : Dictionary) → s.node ≡ None → s.waiting ≡ [] ∷ []
    → begun_as s [] [] (Ok run) ≡ begun m p s ([] ∷ [])
    → node_turn m p (record s { waiting = []; node = Some record { cuts = []; dictionary = run } }) (record { cuts = []; dictionary = run }) (coming run) ≡ turn m p s
turn_at_root m p s run none waits is = ap (turn_on m p) is ∙ turn_rooted m p s none waits

-- The solve ends before the root.
pub turn_before_root : (m : Model) (p : Params) (s : Search) (stop : Stop) → s.node ≡ None → s.waiting ≡ [] ∷ []
    → begun_as s [] [] (Err stop) ≡ begun m p s ([] ∷ []) → silent (stopped_by stop s) ≡ turn m p s
turn_before_root m p s stop none waits is = ap (turn_on m p) is ∙ turn_rooted m p s none waits

-- The same turn from a stage with the same model and the same limits.
pub makes_from : (t t' : Turn) (step : Step) (mid old new : Stage) → Makes t step mid new → mid.model ≡ old.model → mid.params ≡ old.params → t ≡ t' → Makes t' step old new
makes_from t t' step mid old new h model params same = record { turn = h.turn ∙ same; model = h.model ∙ model; params = h.params ∙ params }

-- Where nothing is over, the solve goes on.
pub goes_on : (done : Option Done) (s : Search) → is_some done ≡ false → (t : Search) × (progress_of done s ≡ going t)
goes_on None s h = (s, refl)
goes_on (Some d) s h = absurd cc
