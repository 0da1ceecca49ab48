use Rattle.std.proofs.Common.{rules, ◌↔◌, IsTrue}
use Rattle.frac_text.proofs.Runs.{EachDigit, AreDigits-from_All, All-from_AreDigits}
use Rattle.frac_text.proofs.digits.are_digits.Goals as goal

pub returns : goal.returns
returns c =
    let h : IsTrue c.all.result ↔ EachDigit c.args.bytes.now = search rules in
    (λ t. AreDigits-from_All c.args.bytes.now (h.0 t), λ d. h.1 (All-from_AreDigits c.args.bytes.now d))
