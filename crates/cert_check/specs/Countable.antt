-- Certificates whose leaves can be numbered.
use Rattle.std.specs.Prelude.{◌<◌, ◌^◌, length}
use Rattle.model_data.specs.declared.solution.Cert.{Cert}
use Rattle.model_data.specs.declared.solution.Cert.TheVariants.{Nothing, Ray, Tree}

-- a tree has fewer than 2 ^ 32 nodes
abbrev pub IsCountable : Cert → Type 0
IsCountable Nothing = Unit
IsCountable (Ray point ray) = Unit
IsCountable (Tree nodes) = length nodes < 2 ^ 32
