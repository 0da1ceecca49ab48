-- Whether a call is listed, as the forms in memory find it out.
use Rattle.std.proofs.Common.{◌≡◌, ℕ, ◌+◌, List, ◌++◌, Bool, ◌==◌, length, take, drop, ap, sym, ◌∙◌}
use Rattle.std.specs.List.{list_any}
use Rattle.std.proofs.lemmas.List.{take_at, drop-drop, take-append-drop}
use Rattle.base_names.specs.Outside.{one_more}
use Rattle.base_io.specs.Memory.{is_listed}

-- the number of the call was looked for in the list
pub listed_is : (found answer : Bool) (call calls : ℕ) (failing list : List ℕ) → found ≡ list_any (λ other. other == call) list → list ≡ failing → call ≡ one_more calls → found ≡ answer → is_listed (one_more calls) failing ≡ answer
listed_is found answer call calls failing list value same number is =
    ap (λ (n : ℕ). is_listed n failing) (sym number) ∙ (ap (is_listed call) (sym same) ∙ (sym value ∙ is))

-- what a read put into the buffer, and what is left behind it, is what was left
pub left_is : (bytes copied buffer : List ℕ) (at n : ℕ) → copied ≡ take n (drop at bytes) → length copied ≡ n → drop at bytes ≡ take n (copied ++ drop n buffer) ++ drop (at + n) bytes
left_is bytes copied buffer at n is len =
    let given : take n (copied ++ drop n buffer) ≡ take n (drop at bytes) = take_at copied (drop n buffer) n len ∙ is in
    let rest : drop (at + n) bytes ≡ drop n (drop at bytes) = sym (drop-drop n at bytes) in
    rw (given, rest) (sym (take-append-drop n (drop at bytes)))
