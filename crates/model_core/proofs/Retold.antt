-- What a call says of one change, said of another one that is answered the same.
use Rattle.std.proofs.Common.{◌≡◌, sym, ◌∙◌, Result, Ok, Err, IfErr, OnOk, ◌⊎◌, inl, inr}
use Rattle.base_names.specs.declared.refusal.Refusal.{Refusal}
use Rattle.base_names.specs.declared.refusal.Refusal.TheVariants.{MEMORY}
use Rattle.model_data.specs.declared.model.Model.{Model}

module _ {A : Type 0} where
  pub ok_as : (r : Result A Refusal) (x y z : Result Model Refusal) → x ≡ y → OnOk r (x ≡ z) → OnOk r (y ≡ z)
  ok_as (Ok a) x y z s h = sym s ∙ h
  ok_as (Err e) x y z s h = h

  pub refused_as : (r : Result A Refusal) (x y : Result Model Refusal) → x ≡ y → IfErr r (λ e. x ≡ Err e) → IfErr r (λ e. (e ≡ MEMORY) ⊎ (y ≡ Err e))
  refused_as (Ok a) x y s h = h
  refused_as (Err e) x y s h = inr (sym s ∙ h)

  pub refused_or_as : (r : Result A Refusal) (x y : Result Model Refusal) → x ≡ y → IfErr r (λ e. (e ≡ MEMORY) ⊎ (x ≡ Err e)) → IfErr r (λ e. (e ≡ MEMORY) ⊎ (y ≡ Err e))
  refused_or_as (Ok a) x y s h = h
  refused_or_as (Err e) x y s (inl memory) = inl memory
  refused_or_as (Err e) x y s (inr h) = inr (sym s ∙ h)
