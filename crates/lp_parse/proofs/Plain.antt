-- Bytes that a token may have are ASCII.
use Rattle.std.proofs.Common.{◌≡◌, refl, arith, ℕ, zero, suc, ◌-◌, ◌<◌, Bool, true, false, IsTrue, ◌&&◌, List, [], ◌∷◌, length, take}
use Rattle.std.specs.Str.{IsAscii, IsUtf8}
use Rattle.std.proofs.lemmas.Bool.Decides.{nat_tests}
use Rattle.std.proofs.lemmas.Grind.{common_steps}
use Rattle.std.proofs.lemmas.Str.{IsUtf8-from_ascii}
use Rattle.lp_defs.specs.Kinds.{front_of}
use Rattle.lp_defs.specs.Tokens.{is_plain, is_plain_byte}

ascii_byte : (byte : ℕ) → is_plain_byte byte ≡ true → byte < 128
ascii_byte byte h = grind (arith, nat_tests, common_steps)

first_plain : (a b : Bool) → IsTrue (a && b) → a ≡ true
first_plain true b h = refl
first_plain false b h = absurd cc

more_plain : (a b : Bool) → IsTrue (a && b) → IsTrue b
more_plain true b h = h
more_plain false b h = absurd cc

ascii : (bytes : List ℕ) → IsTrue (is_plain bytes) → IsAscii bytes
ascii [] h i = omega arith
ascii (byte ∷ bytes) h zero = ascii_byte byte (first_plain (is_plain_byte byte) (is_plain bytes) h)
ascii (byte ∷ bytes) h (suc i) = ascii bytes (more_plain (is_plain_byte byte) (is_plain bytes) h) i

pub plain_text : (bytes : List ℕ) → IsTrue (is_plain bytes) → IsUtf8 bytes
plain_text bytes h = IsUtf8-from_ascii bytes (ascii bytes h)

both : (a b : Bool) → a ≡ true → IsTrue b → IsTrue (a && b)
both true b e h = h
both false b e h = absurd cc

plain_take : (n : ℕ) (bytes : List ℕ) → IsTrue (is_plain bytes) → IsTrue (is_plain (take n bytes))
plain_take zero bytes h = refl
plain_take (suc n) [] h = refl
plain_take (suc n) (byte ∷ bytes) h =
    both (is_plain_byte byte) (is_plain (take n bytes)) (first_plain (is_plain_byte byte) (is_plain bytes) h)
    (plain_take n bytes (more_plain (is_plain_byte byte) (is_plain bytes) h))

pub plain_front : (bytes : List ℕ) → IsTrue (is_plain bytes) → IsTrue (is_plain (front_of bytes))
plain_front bytes h = plain_take (length bytes - 1) bytes h
