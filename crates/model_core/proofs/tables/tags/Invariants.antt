use Rattle.std.proofs.Common.{◌≡◌, bytes_eq, List, ℕ, take}
use Rattle.std.specs.List.{list_any}
use Rattle.model_core.specs.Named.{has_tag}
use Rattle.model_core.proofs.tables.tags.Given as goal

abbrev pub invariant-loop-var : goal.invariant-loop-var
invariant-loop-var l = (tag : List ℕ) → list_any (bytes_eq tag) l.tags.texts ≡ list_any (has_tag tag) (take l.var-index l.vars)
