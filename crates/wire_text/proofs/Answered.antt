-- What an answer that may want memory says of words.
use Rattle.std.proofs.Common.{◌≡◌, ◌⊎◌, inl, inr, Option, None, Result, Ok, Err, refl, sym, ◌∙◌, subst}
use Rattle.std.specs.Prelude.{IfErr, IfOk, ℕ}
use Rattle.std.specs.Result.{result_unwrap_or}
use Rattle.base_names.specs.declared.refusal.Refusal.{Refusal}
use Rattle.base_names.specs.declared.refusal.Refusal.TheVariants.{MEMORY}
use Rattle.wire_text.specs.Commands.{block_len_of}
use Rattle.wire_text.specs.Reading.{Reads, given}
use Rattle.wire_text.specs.declared.command.Command.{Command}
use Rattle.wire_text.specs.declared.command.Command.TheVariants.{Read}

pub IfOk-Reads : (said whole answer : Result Command Refusal) → said ≡ whole → Reads said answer → IfOk answer (λ command. whole ≡ Ok command)
IfOk-Reads said whole (Ok command) same reads = sym same ∙ reads
IfOk-Reads said whole (Err refusal) same reads = tt

pub IfErr-Reads : (said whole answer : Result Command Refusal) → said ≡ whole → Reads said answer → IfErr answer (λ refusal. (refusal ≡ MEMORY) ⊎ (whole ≡ Err refusal))
IfErr-Reads said whole (Ok command) same reads = tt
IfErr-Reads said whole (Err refusal) same (inl memory) = inl memory
IfErr-Reads said whole (Err refusal) same (inr reads) = inr (sym same ∙ reads)

-- the length of a block that was told
pub unwrap_or-given : (size : Result (Option ℕ) Refusal) → result_unwrap_or size None ≡ block_len_of (given (λ k. Read k) size)
unwrap_or-given (Ok k) = refl
unwrap_or-given (Err refusal) = refl

-- what holds of the command that words say holds of the one that was read
pub lawful-Reads : (P : Command → Type 0) (said answer : Result Command Refusal) → Reads said answer → IfOk said P → IfOk answer P
lawful-Reads P said (Ok command) reads holds = subst (λ whole. IfOk whole P) reads holds
lawful-Reads P said (Err refusal) reads holds = tt
