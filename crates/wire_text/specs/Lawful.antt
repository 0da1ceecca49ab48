-- What holds of every command that is read.
use Rattle.std.specs.Prelude.{◌≤◌, IfSome}
use Rattle.model_core.specs.Asked.{IsLawfulChange}
use Rattle.wire_text.specs.declared.command.Command.{Command}
use Rattle.wire_text.specs.declared.command.Command.TheVariants.{Queue, Read}
use Rattle.wire_text.specs.declared.limits.TheConstants.{BLOCK_LIMIT}

-- A change may be queued, and a block isn't too long.
abbrev pub IsLawfulCommand : Command → Type 0
IsLawfulCommand (Read size) = IfSome size (λ k. k ≤ BLOCK_LIMIT)
IsLawfulCommand (Queue change) = IsLawfulChange change
IsLawfulCommand _ = Unit {0}
