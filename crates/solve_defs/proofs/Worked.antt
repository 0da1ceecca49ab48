-- What the plain solver makes of worked models: the events of each turn, the outcome, and the certificate.
use Rattle.std.proofs.Common.{◌≡◌, refl, ℕ, [], ◌∷◌, Some, None, pos}
use Rattle.frac128.specs.Fits.{product_fits, sum_fits}
use Rattle.frac128.specs.Fraction.{Fraction, exact_product, exact_sum, inverse, lowest, one_value, zero_value}
use Rattle.frac128.specs.Numbers.{gcd, gcd_within}
use Rattle.frac128.specs.declared.operations.Op.TheVariants.{Add, Div, Mul, Sub}
use Rattle.model_data.specs.Params.{usual_params}
use Rattle.model_data.specs.declared.model.Model.{Model}
use Rattle.model_data.specs.declared.model.VarKind.TheVariants.{Continuous, Integer}
use Rattle.model_data.specs.declared.params.Params.{Params}
use Rattle.model_data.specs.declared.solution.Cert.TheVariants.{Nothing, Ray, Tree}
use Rattle.model_data.specs.declared.solution.CertNode.TheVariants.{Split, Bound, Farkas}
use Rattle.model_data.specs.declared.solution.Weight.{Weight}
use Rattle.dictionary.specs.Dictionary.{eliminated_basic, eliminated_entries, eliminated_objective, end_phase_one, opening, pivot, pivoted_rows, solved_row, with_artificial, without_artificial}
use Rattle.dictionary.specs.Rule.{entering_column, least_row, leaving_row, ratios}
use Rattle.solve_defs.specs.Ends.{dual_of, farkas_of, point_of, ray_of}
use Rattle.solve_defs.specs.Path.{coming, next, settled}
use Rattle.solve_defs.specs.Plain.{Ended, Run, no_events, over, pivot_events, plain_cut, plain_run, run, turn}
use Rattle.solve_defs.specs.StandardForm.{point_back, ray_back, standard_form, weights_back}
use Rattle.solve_defs.specs.declared.solving.Events.{Events}
use Rattle.solve_defs.proofs.Models.{at_least_one, beale, blend, far, flat, free_one, half_binary, minus, narrow, number, part, rising, shipping, steep, too_little, two_by_two, two_by_two_whole, upper_alone}

-- the whole solve, with every definition open that it is made of
unfoldable pub solved : Model → Params → Run
unfolding run turn standard_form point_back ray_back weights_back coming next settled dual_of farkas_of point_of ray_of opening with_artificial without_artificial pivot pivoted_rows solved_row eliminated_basic eliminated_objective eliminated_entries end_phase_one entering_column ratios leaving_row least_row exact_sum exact_product inverse lowest gcd gcd_within sum_fits product_fits
solved m p = plain_run m p

-- the solve, cut after so many turns
ended_by : Model → ℕ → Ended
unfolding solved
ended_by m k = plain_cut m usual_params k

abbrev pub weight : ℕ → Fraction → Weight
weight place x = record { place = place; weight = x }

abbrev quiet : Events
quiet = no_events

abbrev finished_node : ℕ → ℕ → Events
finished_node nodes pivots = record no_events { node = Some record { nodes = nodes; pivots = pivots } }

abbrev better_point : Fraction → ℕ → ℕ → Events
better_point value nodes pivots = record {
  simplex = None;
  sol = Some record { value = value; nodes = nodes; pivots = pivots };
  node = Some record { nodes = nodes; pivots = pivots };
}

-- One bound from below: phase one, then the best point at once.
at_least_one_solved : solved at_least_one usual_params ≡ record {
  turns = quiet ∷ quiet ∷ quiet ∷ [];
  progress = over
      (record { status = 2; pivots = 2; nodes = 1; work = 18; point = Some record { xs = one_value ∷ []; value = one_value }; wide = None })
      (Tree (
      Bound (record { rows = weight 1 (minus one_value) ∷ []; lows = []; ups = [] })
      ∷ []));
}
unfolding solved
at_least_one_solved = refl

two_by_two_solved : solved two_by_two usual_params ≡ record {
  turns = quiet ∷ quiet ∷ quiet ∷ [];
  progress = over
      (record { status = 2; pivots = 2; nodes = 1; work = 18; point = Some record { xs = part 6 5 ∷ part 8 5 ∷ []; value = part 14 5 }; wide = None })
      (Tree (
      Bound (record { rows = weight 1 (part 2 5) ∷ weight 2 (part 1 5) ∷ []; lows = []; ups = [] })
      ∷ []));
}
unfolding solved
two_by_two_solved = refl

-- A tree: the points (0, 2) and (2, 0) are no better than (1, 1).
two_by_two_whole_solved : solved two_by_two_whole usual_params ≡ record {
  turns = quiet ∷ quiet ∷ finished_node 1 2 ∷ quiet ∷ quiet ∷ finished_node 2 4 ∷ quiet ∷ quiet ∷ better_point (number 2) 3 6 ∷ quiet ∷ finished_node 4 7 ∷ quiet ∷ quiet ∷ finished_node 5 9 ∷ [];
  progress = over
      (record { status = 2; pivots = 9; nodes = 5; work = 102; point = Some record { xs = one_value ∷ one_value ∷ []; value = number 2 }; wide = None })
      (Tree (
      Split 1 (pos 1)
      ∷ Split 2 (pos 1)
      ∷ Bound (record { rows = []; lows = []; ups = weight 1 one_value ∷ weight 2 one_value ∷ [] })
      ∷ Bound (record { rows = weight 2 one_value ∷ []; lows = weight 2 (number 2) ∷ []; ups = [] })
      ∷ Bound (record { rows = weight 1 one_value ∷ []; lows = weight 1 one_value ∷ []; ups = [] })
      ∷ []));
}
unfolding solved
two_by_two_whole_solved = refl

-- No whole number is a half.
half_binary_solved : solved half_binary usual_params ≡ record {
  turns = quiet ∷ quiet ∷ finished_node 1 2 ∷ quiet ∷ quiet ∷ finished_node 2 4 ∷ quiet ∷ finished_node 3 5 ∷ [];
  progress = over
      (record { status = 3; pivots = 5; nodes = 3; work = 75; point = None; wide = None })
      (Tree (
      Split 1 (pos 0)
      ∷ Farkas (record { rows = weight 1 (minus (part 1 3)) ∷ []; lows = []; ups = weight 1 (part 2 3) ∷ [] })
      ∷ Farkas (record { rows = weight 1 one_value ∷ []; lows = weight 1 (number 2) ∷ []; ups = [] })
      ∷ []));
}
unfolding solved
half_binary_solved = refl

-- No point: the weights add up to a side below 0.
too_little_solved : solved too_little usual_params ≡ record {
  turns = quiet ∷ quiet ∷ quiet ∷ quiet ∷ [];
  progress = over
      (record { status = 3; pivots = 3; nodes = 1; work = 60; point = None; wide = None })
      (Tree (
      Farkas (record { rows = weight 1 (minus (part 1 3)) ∷ []; lows = []; ups = weight 1 (part 1 3) ∷ weight 2 (part 1 3) ∷ [] })
      ∷ []));
}
unfolding solved
too_little_solved = refl

-- No bound.
rising_solved : solved (rising Continuous) usual_params ≡ record {
  turns = quiet ∷ [];
  progress = over
      (record { status = 5; pivots = 0; nodes = 1; work = 0; point = None; wide = None })
      (Ray (zero_value ∷ []) (one_value ∷ []));
}
unfolding solved
rising_solved = refl

-- No bound without the demand for whole numbers: nothing is claimed.
rising_whole_solved : solved (rising Integer) usual_params ≡ record {
  turns = finished_node 1 0 ∷ [];
  progress = over
      (record { status = 4; pivots = 0; nodes = 1; work = 0; point = None; wide = None })
      (Nothing);
}
unfolding solved
rising_whole_solved = refl

-- The rule goes in no circle.
beale_solved : solved beale usual_params ≡ record {
  turns = quiet ∷ quiet ∷ quiet ∷ quiet ∷ quiet ∷ quiet ∷ quiet ∷ [];
  progress = over
      (record { status = 2; pivots = 6; nodes = 1; work = 120; point = Some record { xs = one_value ∷ zero_value ∷ one_value ∷ zero_value ∷ []; value = minus (part 5 4) }; wide = None })
      (Tree (
      Bound (record { rows = weight 2 (part 3 2) ∷ weight 3 (part 5 4) ∷ []; lows = weight 2 (number 2) ∷ weight 4 (part 21 2) ∷ []; ups = [] })
      ∷ []));
}
unfolding solved
beale_solved = refl

-- The first pivot forms a difference that does not fit.
steep_solved : solved steep usual_params ≡ record {
  turns = quiet ∷ [];
  progress = over
      (record { status = 12; pivots = 0; nodes = 0; work = 0; point = None; wide = Some record { at = 1; wide = record { op = Sub; left = number 1000000000000000000000000000000; right = part 1 1000000000000000000000000000000 } } })
      (Nothing);
}
unfolding solved
steep_solved = refl

-- The limit on nodes is met when the fourth is to begin.
whole_within_three_nodes : solved two_by_two_whole (record usual_params { nodes = 3 }) ≡ record {
  turns = quiet ∷ quiet ∷ finished_node 1 2 ∷ quiet ∷ quiet ∷ finished_node 2 4 ∷ quiet ∷ quiet ∷ better_point (number 2) 3 6 ∷ [];
  progress = over
      (record { status = 8; pivots = 6; nodes = 3; work = 72; point = Some record { xs = one_value ∷ one_value ∷ []; value = number 2 }; wide = None })
      (Nothing);
}
unfolding solved
whole_within_three_nodes = refl

whole_without_pivots : solved two_by_two_whole (record usual_params { iterations = 0 }) ≡ record {
  turns = quiet ∷ [];
  progress = over
      (record { status = 7; pivots = 0; nodes = 0; work = 0; point = None; wide = None })
      (Nothing);
}
unfolding solved
whole_without_pivots = refl

whole_without_nodes : solved two_by_two_whole (record usual_params { nodes = 0 }) ≡ record {
  turns = quiet ∷ [];
  progress = over
      (record { status = 8; pivots = 0; nodes = 0; work = 0; point = None; wide = None })
      (Nothing);
}
unfolding solved
whole_without_nodes = refl

-- The second pivot would pass the limit on work.
whole_within_little_work : solved two_by_two_whole (record usual_params { work = 17 }) ≡ record {
  turns = quiet ∷ quiet ∷ [];
  progress = over
      (record { status = 16; pivots = 1; nodes = 0; work = 9; point = None; wide = None })
      (Nothing);
}
unfolding solved
whole_within_little_work = refl

-- The sum that carries the point of the ray back does not fit.
narrow_solved : solved (narrow Continuous) usual_params ≡ record {
  turns = quiet ∷ quiet ∷ quiet ∷ [];
  progress = over
      (record { status = 12; pivots = 2; nodes = 0; work = 40; point = None; wide = Some record { at = 2; wide = record { op = Add; left = part 1 18446744073709551616; right = part 1 36472996377170786403 } } })
      (Nothing);
}
unfolding solved
narrow_solved = refl

-- The same with an integer variable: nothing is carried back.
narrow_whole_solved : solved (narrow Integer) usual_params ≡ record {
  turns = quiet ∷ quiet ∷ finished_node 1 2 ∷ [];
  progress = over
      (record { status = 4; pivots = 2; nodes = 1; work = 40; point = None; wide = None })
      (Nothing);
}
unfolding solved
narrow_whole_solved = refl

-- A product of the standard form does not fit.
far_solved : solved far usual_params ≡ record {
  turns = quiet ∷ [];
  progress = over
      (record { status = 12; pivots = 0; nodes = 0; work = 0; point = None; wide = Some record { at = 0; wide = record { op = Mul; left = number 1000000000000000000000000000000; right = number 10000000000000000000 } } })
      (Nothing);
}
unfolding solved
far_solved = refl

-- A ratio does not fit: its pivot has begun.
flat_solved : solved flat usual_params ≡ record {
  turns = quiet ∷ [];
  progress = over
      (record { status = 12; pivots = 0; nodes = 0; work = 0; point = None; wide = Some record { at = 1; wide = record { op = Div; left = number 1000000000000000000000000000000; right = part 1 100000000000000000000 } } })
      (Nothing);
}
unfolding solved
flat_solved = refl

-- The model that is carried through by hand.
blend_solved : solved blend usual_params ≡ record {
  turns = quiet ∷ quiet ∷ quiet ∷ quiet ∷ [];
  progress = over
      (record { status = 2; pivots = 3; nodes = 1; work = 48; point = Some record { xs = number 3 ∷ one_value ∷ []; value = number 9 }; wide = None })
      (Tree (
      Bound (record { rows = weight 1 (minus (number 3)) ∷ []; lows = []; ups = weight 1 one_value ∷ [] })
      ∷ []));
}
unfolding solved
blend_solved = refl

-- A plan of usual size.
shipping_solved : solved shipping usual_params ≡ record {
  turns = quiet ∷ quiet ∷ quiet ∷ quiet ∷ quiet ∷ quiet ∷ quiet ∷ quiet ∷ quiet ∷ quiet ∷ quiet ∷ quiet ∷ quiet ∷ quiet ∷ quiet ∷ quiet ∷ quiet ∷ quiet ∷ quiet ∷ quiet ∷ quiet ∷ quiet ∷ [];
  progress = over
      (record { status = 2; pivots = 21; nodes = 1; work = 6048; point = Some record { xs = part 61 2 ∷ zero_value ∷ zero_value ∷ zero_value ∷ zero_value ∷ zero_value ∷ part 169 4 ∷ zero_value ∷ zero_value ∷ zero_value ∷ zero_value ∷ zero_value ∷ number 25 ∷ number 60 ∷ zero_value ∷ zero_value ∷ zero_value ∷ zero_value ∷ zero_value ∷ part 75 4 ∷ []; value = part 4595 16 }; wide = None })
      (Tree (
      Bound (record { rows = weight 5 (minus (part 5 4)) ∷ weight 6 (minus (part 7 4)) ∷ weight 7 (minus (part 3 2)) ∷ weight 8 (minus (part 39 20)) ∷ weight 9 (minus (part 11 10)) ∷ []; lows = weight 2 (part 27 20) ∷ weight 3 (part 9 10) ∷ weight 4 (part 21 10) ∷ weight 5 (part 37 20) ∷ weight 6 (part 19 20) ∷ weight 8 (part 11 10) ∷ weight 9 (part 37 20) ∷ weight 10 (part 41 20) ∷ weight 11 (part 11 5) ∷ weight 12 (part 23 20) ∷ weight 15 (part 7 4) ∷ weight 16 (part 3 2) ∷ weight 17 (part 31 20) ∷ weight 18 (part 13 20) ∷ weight 19 (part 13 20) ∷ []; ups = [] })
      ∷ []));
}
unfolding solved
shipping_solved = refl

-- A variable with an upper bound alone, and one that is fixed.
with_upper_bound_alone : solved upper_alone usual_params ≡ record {
  turns = quiet ∷ quiet ∷ quiet ∷ better_point (number 11) 1 3 ∷ [];
  progress = over
      (record { status = 2; pivots = 3; nodes = 1; work = 52; point = Some record { xs = zero_value ∷ number 4 ∷ one_value ∷ []; value = number 11 }; wide = None })
      (Tree (
      Bound (record { rows = weight 1 (number 2) ∷ []; lows = weight 1 one_value ∷ []; ups = weight 3 (number 3) ∷ [] })
      ∷ []));
}
unfolding solved
with_upper_bound_alone = refl

-- A free variable, an equation, a constant, and a tree below an upper bound.
with_free_variable : solved free_one usual_params ≡ record {
  turns = quiet ∷ quiet ∷ quiet ∷ quiet ∷ quiet ∷ better_point (minus (part 7 2)) 1 5 ∷ [];
  progress = over
      (record { status = 2; pivots = 5; nodes = 1; work = 147; point = Some record { xs = minus (number 4) ∷ one_value ∷ number 3 ∷ []; value = minus (part 7 2) }; wide = None })
      (Tree (
      Bound (record { rows = weight 1 (minus one_value) ∷ weight 2 (minus one_value) ∷ []; lows = []; ups = weight 3 one_value ∷ [] })
      ∷ []));
}
unfolding solved
with_free_variable = refl

-- every hundredth pivot
hundreds : (pivot_events 1 ≡ quiet) × (pivot_events 99 ≡ quiet) × (pivot_events 100 ≡ record no_events { simplex = Some 100 }) × (pivot_events 150 ≡ quiet) × (pivot_events 300 ≡ record no_events { simplex = Some 300 })
hundreds = (refl, refl, refl, refl, refl)

-- A cut by no turns has nothing, one after the turns of a solve changes nothing, and one between keeps the point so far.
cuts :
    (ended_by two_by_two_whole 0 ≡ record { outcome = record { status = 11; pivots = 0; nodes = 0; work = 0; point = None; wide = None }; cert = Nothing })
    × (ended_by two_by_two_whole 10 ≡ record { outcome = record { status = 11; pivots = 7; nodes = 3; work = 84; point = Some record { xs = one_value ∷ one_value ∷ []; value = number 2 }; wide = None }; cert = Nothing })
    × (ended_by two_by_two_whole 14 ≡ ended_by two_by_two_whole 15)
unfolding ended_by
cuts = (refl, refl, refl)
