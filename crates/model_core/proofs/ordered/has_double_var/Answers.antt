use Rattle.std.proofs.Common.{◌≡◌, refl, sym, ◌∙◌, ap, arith, ℕ, suc, ◌-◌, nat_lt, get_or}
use Rattle.std.proofs.lemmas.List.{get_or_default}
use Rattle.model_data.specs.declared.model.Term.{Term}
use Rattle.model_core.proofs.InOrder.{adjacent_rising, double_at, rising_single}
use Rattle.model_core.proofs.Spots.{by_order}
use Rattle.model_core.proofs.ordered.has_double_var.Goals as goal

pub returns-then-terms-place : goal.returns-then-terms-place
returns-then-terms-place c =
    let terms = c.args.terms.now in
    let place = c.loop-place.place in
    let d = c.index-terms-place.result in
    let within = c.loop-place-test.true in
    let from = c.loop-place.auto.place in
    sym (double_at terms (place - 1) place d (omega (arith, from)) within
    (c.if-terms-place.true ∙ ap (λ (t : Term). t.var) (get_or_default terms place c.index-terms-place-in-loop-place.result d within)))

pub loop-place-preserved : goal.loop-place-preserved
loop-place-preserved c =
    let terms = c.args.terms.now in
    let place = c.loop-place.place in
    let within = c.loop-place-test.true in
    let from = c.loop-place.auto.place in
    λ k d lt. by_order (suc k) place (nat_lt (suc k) place) refl (λ less. c.loop-place.invariant k d less)
    (λ more.
    let first : k ≡ place - 1 = omega (arith, lt, more, from) in
    let second : suc k ≡ place = omega (arith, lt, more) in
    let le = c.requires k (suc k) d (omega arith) (omega (arith, second, within)) in
    by_order (get_or terms k d).var (get_or terms (suc k) d).var (nat_lt (get_or terms k d).var (get_or terms (suc k) d).var) refl (λ h. h)
    (λ ge.
    let same : (get_or terms k d).var ≡ (get_or terms (suc k) d).var = omega (arith, le, ge) in
    absurd (c.if-terms-place.false
    (ap (λ (t : Term). t.var) (get_or_default terms (place - 1) c.index-terms-place.result d (omega (arith, from, within)))
    ∙ ap (λ (n : ℕ). (get_or terms n d).var) (sym first) ∙ same ∙ ap (λ (n : ℕ). (get_or terms n d).var) second
    ∙ ap (λ (t : Term). t.var) (get_or_default terms place d c.index-terms-place-in-loop-place.result within)))))

pub returns : goal.returns
returns c =
    let past = c.loop-place-test.false in
    sym (rising_single c.args.terms.now (adjacent_rising c.args.terms.now c.requires
    (λ k d lt. c.loop-place.invariant k d (omega (arith, lt, past)))))
