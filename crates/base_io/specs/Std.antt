-- What the forms over std do with the answers of the reader or writer in them, and to its bytes, in the words of std.
use Rattle.std.specs.Prelude.{ℕ, ◌<◌, ◌≡◌, ◌≢◌, List, length, Option, None, Some, Result, Ok, Err}
use Rattle.std.specs.Io.KnownBytes.{Appends, Consumes, IsAtEnd}
use Rattle.std.specs.IoError.{error_kind}
use Rattle.std.specs.declared.io.Error.{Error}
use Rattle.std.specs.declared.io.ErrorKind.TheVariants.{Interrupted}
use Rattle.base_io.specs.Source.{bytes_got}
use Rattle.base_io.specs.Sink.{bytes_took}
use Rattle.base_io.specs.declared.source.Got.{Got}
use Rattle.base_io.specs.declared.source.Got.TheVariants.{Bytes as Gave, Failed as GaveNone}
use Rattle.base_io.specs.declared.sink.Took.{Took}
use Rattle.base_io.specs.declared.sink.Took.TheVariants.{Bytes as Kept, Failed as KeptNone}

-- Of an interrupted call nothing comes, and it is made again; of any other error comes `failed`.
abbrev pub OfError : {A : Type 0} → (failed : A) → Error → Option A → Type 0
OfError failed error answer = (error_kind error ≡ Interrupted → answer ≡ None) × (error_kind error ≢ Interrupted → answer ≡ Some failed)

-- What a reader of std answered is passed on.
abbrev pub IsAnswerOfRead : Result ℕ Error → Option Got → Type 0
IsAnswerOfRead (Ok n) answer = answer ≡ Some (Gave n)
IsAnswerOfRead (Err error) answer = OfError GaveNone error answer

-- What a writer of std answered is passed on, but one that took nothing failed.
abbrev pub IsAnswerOfWrite : Result ℕ Error → Option Took → Type 0
IsAnswerOfWrite (Ok n) answer = (n ≡ 0 → answer ≡ Some KeptNone) × (0 < n → answer ≡ Some (Kept n))
IsAnswerOfWrite (Err error) answer = OfError KeptNone error answer

-- A read took from the reader in it the bytes that it put into the buffer, and those alone. It gave none only at that
-- reader's end.
abbrev pub ReadsInner : (old new : Option (List ℕ)) → Got → (buffer : List ℕ) → Type 0
ReadsInner old new got buffer = Consumes old new (bytes_got got buffer) × (got ≡ Gave 0 → 0 < length buffer → IsAtEnd new)

-- A write put onto the writer in it the bytes that it took, and those alone.
abbrev pub WritesInner : (old new : Option (List ℕ)) → Took → (piece : List ℕ) → Type 0
WritesInner old new took piece = Appends old new (bytes_took took piece)
