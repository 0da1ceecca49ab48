-- What holds of a dictionary on which a relaxation ends.
use Rattle.std.proofs.Common.{◌≡◌, refl, ℕ, Bool, true, false, cond, Option, Some, None}
use Rattle.std.specs.Option.{is_some}
use Rattle.dictionary.specs.Dictionary.{Dictionary}
use Rattle.dictionary.specs.Rule.{entering_column}
use Rattle.solve_defs.specs.Path.{a_pivot, an_end, artificial, awaits_artificial, by_rule, coming, coming_by_rule, is_bounded, is_phase_one}
use Rattle.solve_defs.specs.declared.solving.LpEnd.TheVariants.{Best, NoPoint, Unbounded}

-- without a point it is in phase one
pub without_point : (d : Dictionary) → coming d ≡ an_end NoPoint → is_phase_one d ≡ true
unfolding coming
without_point d ended = by_parts (awaits_artificial d) (entering_column d) ended
  where
    by_bound : (b : Bool) (c : ℕ) → cond b (a_pivot (by_rule c)) (an_end Unbounded) ≡ an_end NoPoint → is_phase_one d ≡ true
    by_bound true c h = absurd cc
    by_bound false c h = absurd cc

    by_phase : (b : Bool) → cond b (an_end NoPoint) (an_end Best) ≡ an_end NoPoint → b ≡ true
    by_phase true h = refl
    by_phase false h = absurd cc

    by_parts : (b : Bool) (o : Option ℕ) → cond b (a_pivot artificial) (coming_by_rule d o) ≡ an_end NoPoint → is_phase_one d ≡ true
    by_parts true o h = absurd cc
    by_parts false None h = by_phase (is_phase_one d) h
    by_parts false (Some c) h = by_bound (is_bounded d c) c h

-- unbounded, some variable is to enter
pub some_enters : (d : Dictionary) → coming d ≡ an_end Unbounded → is_some (entering_column d) ≡ true
unfolding coming
some_enters d ended = by_parts (awaits_artificial d) (entering_column d) ended
  where
    by_phase : (b : Bool) → cond b (an_end NoPoint) (an_end Best) ≡ an_end Unbounded → false ≡ true
    by_phase true h = absurd cc
    by_phase false h = absurd cc

    by_parts : (b : Bool) (o : Option ℕ) → cond b (a_pivot artificial) (coming_by_rule d o) ≡ an_end Unbounded → is_some o ≡ true
    by_parts true o h = absurd cc
    by_parts false None h = by_phase (is_phase_one d) h
    by_parts false (Some c) h = refl
