-- Which answer a change gets, by what is known of it.
use Rattle.std.proofs.Common.{◌≡◌, refl, ap, ap₂, ◌≤◌, Bool, true, false, ◌||◌, if◌then◌else◌, length, Ok, Err}
use Rattle.std.proofs.lemmas.Bool.{le-ltb}
use Rattle.base_names.specs.declared.refusal.Refusal.TheVariants.{DUPLICATE, NAME, SIZE}
use Rattle.model_data.specs.Lawful.{term_count}
use Rattle.model_data.specs.declared.limits.TheConstants.{MAX_ROWS, MAX_TERMS, MAX_VARS}
use Rattle.model_data.specs.declared.model.Model.{Model}
use Rattle.model_core.specs.One.{answer, is_too_large}

pub answer-name : (n d : Bool) (next : Model) → n ≡ false → answer n d next ≡ Err NAME
answer-name false d next h = refl
answer-name true d next h = absurd cc

pub answer-duplicate : (n d : Bool) (next : Model) → n ≡ true → d ≡ true → answer n d next ≡ Err DUPLICATE
answer-duplicate false d next h k = absurd cc
answer-duplicate true false next h k = absurd cc
answer-duplicate true true next h k = refl

pub answer-size : (n d : Bool) (next : Model) → n ≡ true → d ≡ false → is_too_large next ≡ true → answer n d next ≡ Err SIZE
answer-size false d next h k large = absurd cc
answer-size true true next h k large = absurd cc
answer-size true false next h k large = ap (λ b. if b then Err SIZE else Ok next) large

pub answer-ok : (n d : Bool) (next : Model) → n ≡ true → d ≡ false → is_too_large next ≡ false → answer n d next ≡ Ok next
answer-ok false d next h k small = absurd cc
answer-ok true true next h k small = absurd cc
answer-ok true false next h k small = ap (λ b. if b then Err SIZE else Ok next) small

pub within : (m : Model) → length m.vars ≤ MAX_VARS → length m.rows ≤ MAX_ROWS → term_count m ≤ MAX_TERMS → is_too_large m ≡ false
within m vars rows terms =
    ap₂ (λ a b. a || b) (ap₂ (λ a b. a || b) (le-ltb MAX_VARS (length m.vars) vars) (le-ltb MAX_ROWS (length m.rows) rows)) (le-ltb MAX_TERMS (term_count m) terms)
