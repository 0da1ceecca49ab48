use Rattle.std.proofs.Common.{refl, sym, ◌∙◌, ap, ap₂, List}
use Rattle.model_data.specs.declared.model.Model.{Model}
use Rattle.model_core.specs.One.{fold}
use Rattle.model_core.specs.declared.change.Change.{Change}
use Rattle.lazy_model.specs.Lazy.{Lazy}
use Rattle.lazy_model.proofs.Logs.{drop-all, drop-push, fold-parts, take-all, take-push}
use Rattle.lazy_model.proofs.laws.an_update_moves_the_mark.Goals as goal

lazy_of : Model → List Change → Lazy
lazy_of applied queued = record { applied = applied; queued = queued }

pub returns : goal.returns
unfolding lazy_of
returns c = record {
  loaded = λ base. refl;
  queued = λ base changes mark d le. ap₂ lazy_of (ap (fold base) (take-push changes d mark le)) (drop-push changes d mark le);
  updated = λ base changes mark le. ap₂ lazy_of (ap (fold base) (take-all changes) ∙ sym (fold-parts base changes mark)) (drop-all changes);
  judged = λ base changes mark. fold-parts base changes mark;
}
