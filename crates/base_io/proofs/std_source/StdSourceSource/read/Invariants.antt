use Rattle.std.proofs.Common.{◌≡◌}
use Rattle.std.specs.Io.KnownBytes.{Keeps}
use Rattle.base_io.proofs.std_source.StdSourceSource.read.Given as goal

-- an interruption takes nothing and isn't counted
abbrev pub invariant-loop : goal.invariant-loop
invariant-loop g l = record {
  failed : l.self.failed ≡ l.fn.self.failed;
  kept : Keeps (g.X.Read.remaining l.fn.self.inner) (g.X.Read.remaining l.self.inner);
}
