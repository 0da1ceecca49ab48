use Rattle.std.proofs.Common.{◌≡◌}
use Rattle.std.specs.Io.KnownBytes.{Keeps}
use Rattle.base_io.proofs.std_sink.StdSinkSink.write.Given as goal

-- an interruption adds nothing and isn't counted
abbrev pub invariant-loop : goal.invariant-loop
invariant-loop g l = record {
  failed : l.self.failed ≡ l.fn.self.failed;
  kept : Keeps (g.X.Write.contents l.fn.self.inner) (g.X.Write.contents l.self.inner);
}
