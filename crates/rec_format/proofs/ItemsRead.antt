-- Items taken one after the other.
use Rattle.std.proofs.Common.{◌≡◌, ℕ, zero, suc, ◌+◌, ◌-◌, ◌<◌, List, [], ◌∷◌, ◌++◌, Option, Some, None, refl, sym, ap, ◌∙◌, subst, arith, append_assoc}
use Rattle.std.specs.Prelude.{option_map, option_and_then, Result, Ok, Err}
use Rattle.base_names.specs.declared.memory.OrMemory.{OrMemory}
use Rattle.base_names.specs.declared.memory.OrMemory.TheVariants.{Fault, NoMemory}
use Rattle.rec_format.specs.Taking.{Took, TookSeen}
use Rattle.std.proofs.lemmas.List.{append-nil}
use Rattle.rec_format.specs.Format.{items_read, in_front}

abbrev pub Reads : Type 0 → Type 0
Reads A = List ℕ → Option (A × List ℕ)

-- the items that were taken, in front of those that are left
abbrev pub behind : {A : Type 0} → List A → Option (List A × List ℕ) → Option (List A × List ℕ)
behind xs = option_map (λ r. (xs ++ r.0, r.1))

behind_nil : {A : Type 0} (o : Option (List A × List ℕ)) → o ≡ behind [] o
behind_nil None = refl
behind_nil (Some r) = refl

behind_more : {A : Type 0} (xs : List A) (x : A) (o : Option (List A × List ℕ)) → behind xs (in_front x o) ≡ behind (xs ++ x ∷ []) o
behind_more xs x None = refl
behind_more {A = A} xs x (Some r) = ap (λ (ys : List A). Some (ys, r.1)) (sym (append_assoc xs (x ∷ []) r.0))

pub items_start : {A : Type 0} (read : Reads A) (k : ℕ) (bs : List ℕ) → items_read read k bs ≡ behind [] (items_read read (k - 0) bs)
items_start read k bs = let e : k - 0 ≡ k = omega arith in rw e (behind_nil (items_read read k bs))

pub items_step : {A : Type 0} (read : Reads A) (k i : ℕ) (bs0 bs new : List ℕ) (xs : List A) (x : A) → i < k
    → items_read read k bs0 ≡ behind xs (items_read read (k - i) bs) → read bs ≡ Some (x, new)
    → items_read read k bs0 ≡ behind (xs ++ x ∷ []) (items_read read (k - (i + 1)) new)
unfolding items_read
items_step {A = A} read k i bs0 bs new xs x lt inv took =
    let e : k - i ≡ suc (k - (i + 1)) = omega arith in
    inv ∙ (ap (λ (n : ℕ). behind xs (items_read read n bs)) e ∙ (ap (λ (o : Option (A × List ℕ)). behind xs (option_and_then (λ a. in_front a.0 (items_read read (k - (i + 1)) a.1)) o)) took
    ∙ behind_more xs x (items_read read (k - (i + 1)) new)))

pub items_stop : {A : Type 0} (read : Reads A) (k i : ℕ) (bs0 bs : List ℕ) (xs : List A) → i < k
    → items_read read k bs0 ≡ behind xs (items_read read (k - i) bs) → read bs ≡ None → items_read read k bs0 ≡ None
unfolding items_read
items_stop {A = A} read k i bs0 bs xs lt inv none =
    let e : k - i ≡ suc (k - (i + 1)) = omega arith in
    inv ∙ (ap (λ (n : ℕ). behind xs (items_read read n bs)) e ∙ ap (λ (o : Option (A × List ℕ)). behind xs (option_and_then (λ a. in_front a.0 (items_read read (k - (i + 1)) a.1)) o)) none)

pub items_end : {A : Type 0} (read : Reads A) (k : ℕ) (bs0 bs : List ℕ) (xs : List A)
    → items_read read k bs0 ≡ behind xs (items_read read (k - k) bs) → items_read read k bs0 ≡ Some (xs, bs)
unfolding items_read
items_end {A = A} read k bs0 bs xs inv =
    let e : k - k ≡ zero = omega arith in
    inv ∙ (ap (λ (n : ℕ). behind xs (items_read read n bs)) e ∙ ap (λ (ys : List A). Some (ys, bs)) (append-nil xs))

-- where no item could be read
pub items_fault : {A S B : Type 0} (read : Reads A) (seen : B → List A) (e : OrMemory S) (k i : ℕ) (bs0 bs new : List ℕ) (xs : List A) → i < k
    → items_read read k bs0 ≡ behind xs (items_read read (k - i) bs) → Took {A = A} {S = S} (read bs) (Err e) new → TookSeen {A = List A} {B = B} {S = S} seen (items_read read k bs0) (Err e) new
items_fault read seen (Fault s) k i bs0 bs new xs lt inv none = items_stop read k i bs0 bs xs lt inv none
items_fault read seen NoMemory k i bs0 bs new xs lt inv none = tt
