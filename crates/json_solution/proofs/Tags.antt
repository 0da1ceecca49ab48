-- A tag is text.
use Rattle.std.proofs.Common.{◌≡◌, ℕ, zero, suc, ◌<◌, ◌≤◌, Bool, true, false, ◌&&◌, List, [], ◌∷◌, length, slice_index, refl, arith}
use Rattle.std.specs.Prelude.{nat_le, nat_lt}
use Rattle.std.specs.List.{list_all}
use Rattle.std.specs.Str.{IsUtf8}
use Rattle.std.proofs.lemmas.Str.{IsUtf8-from_ascii}
use Rattle.std.proofs.lemmas.Bool.Decides.{nat_tests}
use Rattle.model_data.specs.Names.{is_tag, IsTag, is_visible}
use Rattle.model_data.specs.declared.limits.TheConstants.{MAX_TAG_LEN}

and_both : (x y : Bool) → (x && y) ≡ true → (x ≡ true) × (y ≡ true)
and_both true y h = (refl, h)
and_both false y h = absurd (cc)

small : (b : ℕ) → is_visible b ≡ true → b < 128
small b h = let both = and_both (nat_le 0x21 b) (nat_le b 0x7E) h in let top = both.1 in grind (arith, nat_tests)

ascii : (bs : List ℕ) → list_all is_visible bs ≡ true → (i : ℕ) → slice_index bs i < 128
ascii [] h i = omega arith
ascii (b ∷ bs) h zero = small b (and_both (is_visible b) (list_all is_visible bs) h).0
ascii (b ∷ bs) h (suc i) = ascii bs (and_both (is_visible b) (list_all is_visible bs) h).1 i

pub tag_is_text : (tag : List ℕ) → IsTag tag → IsUtf8 tag
unfolding is_tag
tag_is_text tag h =
    let outer = and_both (nat_lt 0 (length tag) && list_all is_visible tag) (nat_le (length tag) MAX_TAG_LEN) h in
    let inner = and_both (nat_lt 0 (length tag)) (list_all is_visible tag) outer.0 in
    IsUtf8-from_ascii tag (ascii tag inner.1)

-- no control byte
abbrev pub AreVisible : List ℕ → Type 0
AreVisible [] = Unit {0}
AreVisible (b ∷ bs) = (32 ≤ b) × AreVisible bs

shown : (b : ℕ) → is_visible b ≡ true → 32 ≤ b
shown b h = let both = and_both (nat_le 0x21 b) (nat_le b 0x7E) h in let low = both.0 in grind (arith, nat_tests)

are_shown : (bs : List ℕ) → list_all is_visible bs ≡ true → AreVisible bs
are_shown [] h = tt
are_shown (b ∷ bs) h = let both = and_both (is_visible b) (list_all is_visible bs) h in (shown b both.0, are_shown bs both.1)

pub tag_is_visible : (tag : List ℕ) → IsTag tag → AreVisible tag
unfolding is_tag
tag_is_visible tag h =
    let outer = and_both (nat_lt 0 (length tag) && list_all is_visible tag) (nat_le (length tag) MAX_TAG_LEN) h in
    let inner = and_both (nat_lt 0 (length tag)) (list_all is_visible tag) outer.0 in
    are_shown tag inner.1
