use Rattle.std.proofs.Common.{◌≡◌, ◌++◌, length}
use Rattle.journal.specs.Records.{bodies_from, AtGate, opened, AreShort}
use Rattle.journal.proofs.scanning.scan.Given as goal

abbrev pub invariant-loop-body : goal.invariant-loop-body
invariant-loop-body l = record {
  read : l.bytes ≡ opened l.all.items ++ l.rest;
  told : bodies_from AtGate l.bytes ≡ l.all.items ++ bodies_from AtGate l.rest;
  short : AreShort l.all.items;
}

abbrev pub decreases-loop-body : goal.decreases-loop-body
decreases-loop-body l = length l.rest
