use Rattle.std.proofs.Common.{◌≡◌, Some, sym, ◌∙◌}
use Rattle.frac_text.proofs.Scanning.{number_of-spelled}
use Rattle.frac_text.proofs.laws.parts_are_unique.Goals as goal

pub returns : goal.returns
returns c = λ text m n s t.
    let same : Some m ≡ Some n = sym (number_of-spelled text m s) ∙ number_of-spelled text n t in
    cc
