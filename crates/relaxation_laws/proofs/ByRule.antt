-- What comes next, and that a pivot that comes is one by the rule.
use Rattle.std.specs.Prelude.{◌≤ℤ◌, ◌*ℤ◌, is_some, is_none, ◌&&◌, not, ◌==◌}
use Rattle.std.specs.List.{list_any}
use Rattle.std.proofs.Common.{◌≡◌, ◌≢◌, ◌∙◌, refl, sym, ap, ap₂, subst, ℕ, Bool, true, false, true≢false, cond, List, length, slice_index, slice_index_or, All, Option, Some, None, unwrap_or, Ok, ℤ, pos, negsuc, arith, ◌<◌, eq-eqb, ne_eqb}
use Rattle.std.proofs.lemmas.Int.{ints}
use Rattle.std.proofs.lemmas.List.Folds.{list_any_at, list_any_none}
use Rattle.frac128.specs.Fraction.{Fraction, den, zero_value}
use Rattle.frac128.specs.Numbers.{is_below_zero}
use Rattle.frac128.specs.Order.{IsAtMost, IsBelow}
use Rattle.frac128.proofs.Ordered.{IsBelow-not}
use Rattle.frac128.proofs.Chains.{same_ok, through}
use Rattle.dictionary.specs.Dictionary.{Dictionary, end_phase_one, entry, is_negative, pivot}
use Rattle.dictionary.specs.Rule.{Ratio, entering_column, is_positive, leaving_row, ratios}
use Rattle.dictionary.specs.Solutions.{HasFeasibleConstants, IsLawful, PivotsByRule}
use Rattle.dictionary.proofs.Points.Chosen.{at_most_from_not_positive, leaving-none, not_positive_from_at_most}
use Rattle.solve_defs.specs.Path.{Entering, a_pivot, an_end, artificial, awaits_artificial, by_rule, coming, coming_by_rule, is_basic, is_bounded, is_phase_one, next, pivoted, settled}
use Rattle.solve_defs.specs.declared.solving.LpEnd.TheVariants.{Best, NoPoint, Unbounded}

-- ---- tests and what they tell

pub not_negative : (x : Fraction) → IsAtMost zero_value x → is_negative x ≡ false
not_negative x h = by_sign x.num (den x) h.at_most
  where
    by_sign : (n : ℤ) (d : ℕ) → (pos 0 *ℤ pos d) ≤ℤ (n *ℤ pos 1) → is_below_zero n ≡ false
    by_sign (pos n) d most = refl
    by_sign (negsuc n) d most = absurd (omega (arith, ints, most))

pub positive_from_above : (x : Fraction) → IsBelow zero_value x → is_positive x ≡ true
positive_from_above x above = by_test (is_positive x) refl
  where
    by_test : (b : Bool) → is_positive x ≡ b → b ≡ true
    by_test true e = refl
    by_test false e = absurd (IsBelow-not zero_value x above (at_most_from_not_positive x e))

pub no_negative_constant : (d : Dictionary) → HasFeasibleConstants d → list_any (λ row. is_negative (entry row 0)) d.rows ≡ false
no_negative_constant d constants = list_any_none (λ row. is_negative (entry row 0)) d.rows (λ k e within. not_negative (entry (slice_index_or d.rows k e) 0) (constants k e within))

and_false : (a b : Bool) → b ≡ false → (a && b) ≡ false
and_false true b e = e
and_false false b e = refl

pub awaits_none : (d : Dictionary) → HasFeasibleConstants d → awaits_artificial d ≡ false
awaits_none d constants = and_false (is_phase_one d) _ (no_negative_constant d constants)

pub is_basic-from : (d : Dictionary) (v k : ℕ) → k < length d.basic → slice_index d.basic k ≡ v → is_basic v d ≡ true
is_basic-from d v k within is = list_any_at (λ u. u == v) d.basic k 0 within (eq-eqb (slice_index d.basic k) v is)

pub is_basic-none : (d : Dictionary) (v : ℕ) → All (λ u. u ≢ v) d.basic → is_basic v d ≡ false
is_basic-none d v others = list_any_none (λ u. u == v) d.basic (λ k e within. ne_eqb (slice_index_or d.basic k e) v (others k e within))

-- ---- what comes

pub record ComesByRule (d : Dictionary) (entering : Entering) : Type 0 where
  pub column : ℕ
  pub is_column : entering ≡ by_rule column
  pub enters : entering_column d ≡ Some column
  pub bounded : is_bounded d column ≡ true

pub comes_by_rule : (d : Dictionary) (entering : Entering) → awaits_artificial d ≡ false → coming d ≡ a_pivot entering → ComesByRule d entering
unfolding coming
comes_by_rule d entering awaits comes = of_column (entering_column d) refl (subst (λ b. cond b (a_pivot artificial) (coming_by_rule d (entering_column d)) ≡ a_pivot entering) awaits comes)
  where
    of_column : (o : Option ℕ) → entering_column d ≡ o → coming_by_rule d o ≡ a_pivot entering → ComesByRule d entering
    of_column None e h = absurd (of_phase (is_phase_one d) h)
      where
        of_phase : (b : Bool) → cond b (an_end NoPoint) (an_end Best) ≡ a_pivot entering → ⊥
        of_phase true f = cc
        of_phase false f = cc
    of_column (Some c) e h = of_bounded (is_bounded d c) refl h
      where
        of_bounded : (b : Bool) → is_bounded d c ≡ b → cond b (a_pivot (by_rule c)) (an_end Unbounded) ≡ a_pivot entering → ComesByRule d entering
        of_bounded true f g = record { column = c; is_column = let same : by_rule c ≡ entering = cc in sym same; enters = e; bounded = f }
        of_bounded false f g = absurd cc

pub comes_artificial : (d : Dictionary) (entering : Entering) → awaits_artificial d ≡ true → coming d ≡ a_pivot entering → entering ≡ artificial
unfolding coming
comes_artificial d entering awaits comes =
    let h : a_pivot artificial ≡ a_pivot entering = subst (λ b. cond b (a_pivot artificial) (coming_by_rule d (entering_column d)) ≡ a_pivot entering) awaits comes in cc

-- ---- the pivot

-- some row bounds, so that some row leaves
some_leaves : (d : Dictionary) (c : ℕ) (rs : List Ratio) → IsLawful d → is_bounded d c ≡ true → ratios d c ≡ Ok rs → leaving_row rs ≢ None
some_leaves d c rs lawful bounded are_ratios none =
    let low = leaving-none d c rs lawful.shape are_ratios none in
    absurd (true≢false (sym bounded ∙ list_any_none (λ row. is_positive (entry row c)) d.rows (λ k e within. not_positive_from_at_most (entry (slice_index_or d.rows k e) c) (low k e within))))

pub record MadeByRule (c : ℕ) (d f : Dictionary) : Type 0 where
  pub pivoted : Dictionary
  pub row : ℕ
  pub rule : PivotsByRule row c d pivoted
  pub is_settled : settled pivoted ≡ f

pub made_by_rule : (c : ℕ) (d f : Dictionary) → IsLawful d → entering_column d ≡ Some c → is_bounded d c ≡ true → next (by_rule c) d ≡ Ok f → MadeByRule c d f
unfolding next
made_by_rule c d f lawful enters bounded h =
    let made = through (pivoted (by_rule c) d) _ f h in
    let formed = through (ratios d c) _ made.value made.first in
    of_row formed.value made.value (leaving_row formed.value) refl formed.first formed.rest (same_ok _ _ made.rest)
  where
    of_row : (rs : List Ratio) (e : Dictionary) (o : Option ℕ) → leaving_row rs ≡ o → ratios d c ≡ Ok rs → pivot (unwrap_or (leaving_row rs) 0) c d ≡ Ok e → settled e ≡ f → MadeByRule c d f
    of_row rs e None is are_ratios is_pivot is_settled = absurd (some_leaves d c rs lawful bounded are_ratios is)
    of_row rs e (Some r) is are_ratios is_pivot is_settled = record {
      pivoted = e;
      row = r;
      rule = record { enters = enters; compared = rs; are_ratios = are_ratios; leaves = is; is_pivot = subst (λ o. pivot (unwrap_or o 0) c d ≡ Ok e) is is_pivot };
      is_settled = is_settled;
    }

-- ---- the end of phase one

pub settled_two : (d : Dictionary) → d.auxiliary ≡ None → settled d ≡ d
unfolding settled
settled_two d none = ap (λ o. cond (is_some o && not (awaits_artificial d) && is_none (entering_column d) && not (is_basic 0 d)) (end_phase_one d) d) none

pub settled_one : (d : Dictionary) → is_basic 0 d ≡ true → settled d ≡ d
unfolding settled
settled_one d basic = ap (λ b. cond b (end_phase_one d) d) (and_false _ (not (is_basic 0 d)) (ap not basic))

pub settled_over : (d : Dictionary) → is_phase_one d ≡ true → awaits_artificial d ≡ false → entering_column d ≡ None → is_basic 0 d ≡ false → settled d ≡ end_phase_one d
unfolding settled
settled_over d phase awaits none basic =
    ap (λ b. cond b (end_phase_one d) d) (all_true (is_phase_one d) (awaits_artificial d) (is_none (entering_column d)) (is_basic 0 d) phase awaits (ap is_none none) basic)
  where
    all_true : (p q r s : Bool) → p ≡ true → q ≡ false → r ≡ true → s ≡ false → (p && not q && r && not s) ≡ true
    all_true p q r s a b c e = ap₂ (λ x y. x && not y && r && not s) a b ∙ ap₂ (λ x y. x && not y) c e
