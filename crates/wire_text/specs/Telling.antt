-- What the readers of single words answer.
use Rattle.std.specs.Prelude.{◌≡◌, false, Result, Ok, Err}
use Rattle.frac128.specs.Checked.{◌>>=◌}
use Rattle.base_names.specs.declared.refusal.Refusal.{Refusal}
use Rattle.base_names.specs.declared.refusal.Refusal.TheVariants.{LINE}
use Rattle.wire_text.specs.Commands.{is_line}
use Rattle.wire_text.specs.Kinds as kinds
use Rattle.wire_text.specs.declared.telling.Bound.{Bound}
use Rattle.wire_text.specs.declared.telling.Bound.TheVariants.{Finite, Infinite}

-- LINE is answered at once; whatever else a word tells is the answer's value.
abbrev pub Tells : {A : Type 0} → Result A Refusal → Result (Result A Refusal) Refusal → Type 0
Tells told (Ok found) = (told ≡ found) × (is_line told ≡ false)
Tells told (Err refusal) = (refusal ≡ LINE) × (told ≡ Err LINE)

abbrev pub bound_seen : Bound → kinds.Bound
bound_seen (Finite x) = kinds.finite x
bound_seen (Infinite below) = kinds.infinite below

abbrev pub TellsBound : Result kinds.Bound Refusal → Result (Result Bound Refusal) Refusal → Type 0
TellsBound told (Ok found) = (told ≡ (found >>= (λ bound. Ok (bound_seen bound)))) × (is_line told ≡ false)
TellsBound told (Err refusal) = (refusal ≡ LINE) × (told ≡ Err LINE)
