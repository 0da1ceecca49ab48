-- A written ID is read back, and a text that is read is what is written.
use Rattle.std.proofs.Common.{◌≡◌, ℕ, ◌+◌, ◌^◌, ◌<◌, true, false, ◌==◌, List, [], ◌∷◌, ◌++◌, length, get_or, take, drop, Option, Some, None, inl, inr, decimal, refl, ap, ap₂, subst, sym, ◌∙◌, arith, add-one, nat_lt}
use Rattle.std.specs.List.{list_all, position, position_or_len}
use Rattle.std.specs.Option.{IfSome, option_map}
use Rattle.std.proofs.lemmas.Bool.{and_parts, lt-ltb, ne_eqb, cases_Bool, cases_lt, eqb-true}
use Rattle.std.proofs.lemmas.List.{take-append-drop, length-append}
use Rattle.std.proofs.lemmas.Option.{IfSome_then}
use Rattle.std.proofs.lemmas.List.Quantifiers.{position-Some}
use Rattle.std.proofs.Math.Seq.{take-append_seam, drop-append-add, drop-cons}
use Rattle.base_names.specs.OwnerName.{is_owner_byte, is_owner_name}
use Rattle.base_names.specs.Decimal.{below, decimal_of}
use Rattle.base_names.specs.Id.{id_text, id_of, id_at, id_of_parts, IsId}
use Rattle.base_names.specs.declared.id.BatchId.{BatchId}
use Rattle.base_names.proofs.Decimals.{below_at, below_past, decimal-read, decimal-spelled}

no_point : (byte : ℕ) → is_owner_byte byte ≡ true → (byte == 46) ≡ false
no_point byte h = ne_eqb byte 46 (λ (e : byte ≡ 46). let P : ℕ → Type 0 = λ n. is_owner_byte n ≡ true in cc (subst P e h))

point_behind : (owner rest : List ℕ) → list_all is_owner_byte owner ≡ true → position_or_len (λ byte. byte == 46) (owner ++ 46 ∷ rest) ≡ length owner
point_behind [] rest h = refl
point_behind (x ∷ xs) rest h =
    let parts = and_parts _ _ h in
    rw (no_point x parts.0, point_behind xs rest parts.1) (omega arith)

-- an owner's name has no point in it
point_at : (owner rest : List ℕ) → list_all is_owner_byte owner ≡ true → position (λ byte. byte == 46) (owner ++ 46 ∷ rest) ≡ Some (length owner)
point_at owner rest h =
    let at = point_behind owner rest h in
    let inside : nat_lt (length owner) (length (owner ++ 46 ∷ rest)) ≡ true = lt-ltb _ _ (omega (arith, length-append owner (46 ∷ rest))) in
    rw (at, inside)

pub written-read : (id : BatchId) → IsId id → id_of (id_text id) ≡ Some id
written-read id h =
    let small : id.number < 2 ^ 64 = omega (arith, h.1) in
    let name : is_owner_name id.owner ≡ true = h.0 in
    let named : list_all is_owner_byte id.owner ≡ true = (and_parts _ _ name).1 in
    let digits : List ℕ = decimal id.number in
    let at : position (λ byte. byte == 46) (id.owner ++ 46 ∷ digits) ≡ Some (length id.owner) = point_at id.owner digits named in
    let front : take (length id.owner) (id.owner ++ 46 ∷ digits) ≡ id.owner = take-append_seam id.owner (46 ∷ digits) in
    let back : drop (length id.owner + 1) (id.owner ++ 46 ∷ digits) ≡ digits = drop-append-add id.owner (46 ∷ digits) 1 in
    let number : decimal_of digits ≡ Some id.number = decimal-read id.number small in
    rw (at, front, back, name, number, below_at (2 ^ 32) id.number h.1)

-- a text around its first point
whole : (text : List ℕ) (point : ℕ) → position (λ byte. byte == 46) text ≡ Some point → take point text ++ 46 ∷ drop (point + 1) text ≡ text
whole text point at =
    let found = position-Some (λ byte. byte == 46) text point 0 at in
    let byte : get_or text point 0 ≡ 46 = eqb-true (get_or text point 0) 46 found.1 in
    let rest : drop point text ≡ 46 ∷ drop (point + 1) text =
    drop-cons text point 0 found.0 ∙ ap₂ (λ (b : ℕ) (n : ℕ). b ∷ drop n text) byte (sym (add-one point)) in
    ap (λ (back : List ℕ). take point text ++ back) (sym rest) ∙ take-append-drop point text

number-spelled : (owner digits : List ℕ) (number : Option ℕ) → decimal_of digits ≡ number → IfSome (option_map (λ n. let id : BatchId = record { owner = owner; number = n } in id) (below (2 ^ 32) number)) (λ id. id_text id ≡ owner ++ 46 ∷ digits)
number-spelled owner digits None is = tt
number-spelled owner digits (Some n) is =
    elim (cases_lt n (2 ^ 32)) [
      | inl small ↦ rw (below_at (2 ^ 32) n small) (ap (λ (back : List ℕ). owner ++ 46 ∷ back) (decimal-spelled digits n is (omega (arith, small))))
      | inr large ↦ rw (below_past (2 ^ 32) n large) tt
    ]

parts-spelled : (owner digits : List ℕ) → IfSome (id_of_parts owner digits) (λ id. id_text id ≡ owner ++ 46 ∷ digits)
parts-spelled owner digits =
    elim (cases_Bool (is_owner_name owner)) [
      | inl named ↦ rw named (number-spelled owner digits (decimal_of digits) refl)
      | inr other ↦ rw other tt
    ]

spelled-at : (text : List ℕ) (point : Option ℕ) → position (λ byte. byte == 46) text ≡ point → IfSome (id_at text point) (λ id. id_text id ≡ text)
spelled-at text None at = tt
spelled-at text (Some point) at =
    let is : take point text ++ 46 ∷ drop (point + 1) text ≡ text = whole text point at in
    IfSome_then (id_of_parts (take point text) (drop (point + 1) text)) (parts-spelled (take point text) (drop (point + 1) text)) (λ id spelled. spelled ∙ is)

pub read-spelled : (text : List ℕ) → IfSome (id_of text) (λ id. id_text id ≡ text)
read-spelled text = spelled-at text (position (λ byte. byte == 46) text) refl

pub spelled-read : (text : List ℕ) (id : BatchId) → IsId id → id_text id ≡ text → id_of text ≡ Some id
spelled-read text id h spelled = rw (← spelled) (written-read id h)
