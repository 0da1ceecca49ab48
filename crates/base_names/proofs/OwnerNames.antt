-- An owner's name in its array.
use Rattle.std.proofs.Common.{◌||◌, ◌&&◌, ◌==◌, leb, nat_le, ◌≡◌, ℕ, zero, suc, ◌<◌, inl, inr, true, List, [], ◌∷◌, ◌++◌, length, take, drop, replicate, ap, ◌∙◌, arith}
use Rattle.std.specs.Char.{is_ascii_digit, is_ascii_lowercase}
use Rattle.std.specs.List.{list_all}
use Rattle.std.specs.Str.{IsAscii, IsUtf8}
use Rattle.std.proofs.lemmas.Bool.{and_parts, or_cases, leb-true, eqb-true}
use Rattle.std.proofs.lemmas.Str.{IsUtf8-from_ascii}
use Rattle.std.proofs.lemmas.List.{drop-replicate}
use Rattle.std.proofs.Math.Seq.{take-append_seam}
use Rattle.base_names.specs.OwnerName.{most_bytes, is_owner_byte, IsOwnerName, IsKept}

pub kept : (text bytes : List ℕ) → IsOwnerName text → bytes ≡ text ++ drop (length text) (replicate 32 0) → IsKept bytes (length text)
kept text bytes name is =
    let front : take (length text) bytes ≡ text = ap (take (length text)) is ∙ take-append_seam text (drop (length text) (replicate 32 0)) in
    record {
      whole = ap length front;
      name = rw front name;
      filled = rw front (is ∙ ap (λ (zeros : List ℕ). text ++ zeros) (drop-replicate (length text) 32 0));
    }

-- an owner's byte is ASCII
ascii_byte : (byte : ℕ) → is_owner_byte byte ≡ true → byte < 128
ascii_byte byte h =
    elim (or_cases (is_ascii_lowercase byte || is_ascii_digit byte) (byte == 95) h) [
      | inl other ↦ elim (or_cases (is_ascii_lowercase byte) (is_ascii_digit byte) other) [
        | inl letter ↦ omega (arith, leb-true byte 122 (and_parts (leb 97 byte) (leb byte 122) letter).1)
        | inr digit ↦ omega (arith, leb-true byte 57 (and_parts (leb 48 byte) (leb byte 57) digit).1)
      ]
      | inr line ↦ omega (arith, eqb-true byte 95 line)
    ]

ascii : (text : List ℕ) → list_all is_owner_byte text ≡ true → IsAscii text
ascii [] h i = omega arith
ascii (x ∷ xs) h zero = ascii_byte x (and_parts (is_owner_byte x) (list_all is_owner_byte xs) h).0
ascii (x ∷ xs) h (suc i) = ascii xs (and_parts (is_owner_byte x) (list_all is_owner_byte xs) h).1 i

pub name_utf8 : (text : List ℕ) → IsOwnerName text → IsUtf8 text
name_utf8 text h = IsUtf8-from_ascii text (ascii text (and_parts (nat_le 1 (length text) && nat_le (length text) most_bytes) (list_all is_owner_byte text) h).1)
