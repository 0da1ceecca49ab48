-- Entries that are written one by one.
use Rattle.std.proofs.Common.{◌≡◌, refl, sym, ◌∙◌, ap, subst, ℕ, ◌+◌, ◌<◌, List, [], ◌∷◌, ◌++◌, length, map, flat_map, take, get_or, append_assoc, Result}
use Rattle.std.specs.Result.{OnOk}
use Rattle.std.proofs.lemmas.Result.{on_ok_weaker}
use Rattle.std.proofs.lemmas.Grind.{flat_map-append}
use Rattle.std.proofs.lemmas.List.{append-nil, take_more}
use Rattle.cert_text.specs.Entries.{HaveNumbers, IsAdded, entry_text, line, text_of}
use Rattle.cert_text.specs.declared.entry.Entry.{Entry}

pub nothing_added : (out : List ℕ) → IsAdded out out []
nothing_added out = record { text = sym (append-nil out); numbers = tt }

numbers_both : (es fs : List Entry) → HaveNumbers es → HaveNumbers fs → HaveNumbers (es ++ fs)
numbers_both [] fs h k = k
numbers_both (e ∷ es) fs h k = (h.0, numbers_both es fs h.1 k)

pub both_added : (a b c : List ℕ) (es fs : List Entry) → IsAdded a b es → IsAdded b c fs → IsAdded a c (es ++ fs)
both_added a b c es fs h k = record {
  text = k.text ∙ (ap (λ t. t ++ text_of fs) h.text ∙ (append_assoc a (text_of es) (text_of fs) ∙ ap (λ t. a ++ t) (sym (flat_map-append (λ e. line (entry_text e)) es fs))));
  numbers = numbers_both es fs h.numbers k.numbers;
}

map-push : {A : Type 0} (f : A → Entry) (ys : List A) (y : A) → map f (ys ++ y ∷ []) ≡ map f ys ++ f y ∷ []
map-push f [] y = refl
map-push f (z ∷ ys) y = ap (λ es. f z ∷ es) (map-push f ys y)

-- one more of a list
pub map_added : {A : Type 0} (f : A → Entry) (xs : List A) (i : ℕ) (x : A) (a b c : List ℕ) → i < length xs → get_or xs i x ≡ x → IsAdded a b (map f (take i xs)) → IsAdded b c (f x ∷ []) → IsAdded a c (map f (take (i + 1) xs))
map_added f xs i x a b c inside is h k =
    let more = take_more xs i x inside ∙ ap (λ y. take i xs ++ y ∷ []) is in
    subst (IsAdded a c) (sym (ap (map f) more ∙ map-push f (take i xs) x)) (both_added a b c (map f (take i xs)) (f x ∷ []) h k)

pub flat_map_added : {A : Type 0} (f : A → List Entry) (xs : List A) (i : ℕ) (x : A) (a b c : List ℕ) → i < length xs → get_or xs i x ≡ x → IsAdded a b (flat_map f (take i xs)) → IsAdded b c (f x) → IsAdded a c (flat_map f (take (i + 1) xs))
flat_map_added f xs i x a b c inside is h k =
    let more = take_more xs i x inside ∙ ap (λ y. take i xs ++ y ∷ []) is in
    let all = ap (flat_map f) more ∙ (flat_map-append f (take i xs) (x ∷ []) ∙ ap (λ es. flat_map f (take i xs) ++ es) (append-nil (f x))) in
    subst (IsAdded a c) (sym all) (both_added a b c (flat_map f (take i xs)) (f x) h k)

-- a last call adds what is still wanting
pub last_added : {E : Type 0} (r : Result (Unit {0}) E) (a b c : List ℕ) (es fs whole : List Entry) → IsAdded a b es → es ++ fs ≡ whole → OnOk r (IsAdded b c fs) → OnOk r (IsAdded a c whole)
last_added r a b c es fs whole h is k = on_ok_weaker r (λ (last : IsAdded b c fs). subst (IsAdded a c) is (both_added a b c es fs h last)) k
