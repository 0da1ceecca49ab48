use Rattle.cert_check.proofs.FirstFailure.{all_valid, first_invalid, first_too_wide, invalid_first, too_wide_first, valid_all}
use Rattle.cert_check.proofs.verdict_laws.a_verdict_tells_the_first_failure.Goals as goal

pub returns-clause-valid : goal.returns-clause-valid
returns-clause-valid c looks = (valid_all looks, all_valid looks)

pub returns-clause-invalid : goal.returns-clause-invalid
returns-clause-invalid c looks place = (invalid_first looks place, first_invalid place looks)

pub returns-clause-too_wide : goal.returns-clause-too_wide
returns-clause-too_wide c looks wide = (too_wide_first looks wide, first_too_wide wide looks)
