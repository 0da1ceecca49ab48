-- What is read can be written.
use Rattle.std.proofs.Common.{ℕ, List, Result, Ok, Err}
use Rattle.std.specs.Result.{IfOk}
use Rattle.base_names.specs.declared.memory.OrMemory.{OrMemory}
use Rattle.cert_text.specs.Spelling.{Answers, IsWritable}
use Rattle.cert_text.specs.declared.proof.CertFault.{CertFault}
use Rattle.cert_text.specs.declared.proof.Proof.{Proof}

pub can_be_written : (text : List ℕ) (r : Result Proof (OrMemory CertFault)) → Answers text r → IfOk r (λ p. IsWritable p.outcome p.cert)
can_be_written text (Ok p) h = h.writable
can_be_written text (Err e) h = tt
