-- Where each integer variable has both bounds, each split divides the product of their ranges.
use Rattle.std.proofs.Common.{◌≡◌, refl, sym, subst, ℕ, suc, ◌+◌, ◌<◌, ◌==◌, ℤ, pos, ◌+ℤ◌, true, true≢false, IsTrue, ◌&&◌, not, List, [], ◌∷◌, ◌++◌, Option, is_some, Some, None, IfSome, Ok, All, if◌then◌else◌, arith}
use Rattle.std.specs.List.{AllZip}
use Rattle.std.proofs.lemmas.Bool.{and_parts, cond_both}
use Rattle.std.proofs.lemmas.List.Elements.{All-cons, All-head, All-nil, All-tail}
use Rattle.frac128.specs.Checked.{◌>>=◌}
use Rattle.frac128.specs.Fraction.{Fraction, negation}
use Rattle.frac128.proofs.Field.{apart_of-sum}
use Rattle.frac128.specs.Lowest.{IsInLowestTerms}
use Rattle.model_data.specs.Size.{is_integer}
use Rattle.model_data.specs.declared.model.Model.{Model}
use Rattle.model_data.specs.declared.model.Var.{Var}
use Rattle.model_data.specs.declared.params.Params.{Params}
use Rattle.solve_defs.specs.Bounds.{Bounds, at_least_cut, at_most_cut, both, bounds_from, cut_bounds, greater_bound, lesser_bound, own_bounds, with_cuts}
use Rattle.solve_defs.specs.Plain.{Placed, first_fractional, plain_cut}
use Rattle.solve_defs.specs.Points.{AtMost, HasValues, IsWithin, SameValue, quotient, ratio, relaxation}
use Rattle.solve_defs.specs.StandardForm.{Shape, free, mirrored, point_back, point_value, shapes_of, shifted, values_from, width}
use Rattle.solve_defs.specs.Values.{floor_of, is_whole, value_at}
use Rattle.solve_defs.specs.declared.cut.Cut.{Cut}
use Rattle.solve_defs.proofs.Domains.{feasible_within}
use Rattle.solve_defs.proofs.Relaxed.{effective_bounds-relaxation}
use Rattle.frac128.proofs.Chains.{difference_is, same_ok, sum_is, through}
use Rattle.search_laws.specs.Counts.{CountsNodes, IsClosed, IsDivided, nodes_below, ranges_from, splits_within}
use Rattle.solve_defs.specs.Relaxations.{RelaxationLaw}
use Rattle.search_laws.proofs.Counting.{plain_counts}
use Rattle.solve_defs.proofs.KeptPoints.{same_low}
use Rattle.search_laws.proofs.KeptHere.{at_most_from}
use Rattle.search_laws.proofs.Ranges.{Inside, InsideAt, floor_next, one_less, ranges_some, ranges_split}
use Rattle.search_laws.proofs.SplitSides.{left_out}
use Rattle.search_laws.proofs.Splits.{next_is}

-- ---- values that are carried back

low_value : (shape : Shape) (x y z : Fraction) → point_value shape x y ≡ Ok z → IsInLowestTerms z
low_value (shifted lower upper) x y z h = subst IsInLowestTerms (sym (sum_is lower x z h)) (apart_of-sum lower x)
low_value (mirrored upper) x y z h = subst IsInLowestTerms (sym (difference_is upper x z h)) (apart_of-sum upper (negation x))
low_value (free) x y z h = subst IsInLowestTerms (sym (difference_is x y z h)) (apart_of-sum x (negation y))

low_values : (column : ℕ) (shapes : List Shape) (xs ys : List Fraction) → values_from point_value column shapes xs ≡ Ok ys → All IsInLowestTerms ys
low_values column [] xs ys h = subst (All IsInLowestTerms) (same_ok [] ys h) (All-nil IsInLowestTerms)
low_values column (shape ∷ shapes) xs ys h =
    let own = through (point_value shape (value_at xs column) (value_at xs (suc column))) (λ own. values_from point_value (column + width shape) shapes xs >>= (λ others. Ok (own ∷ others))) ys h in
    let others = through (values_from point_value (column + width shape) shapes xs) (λ others. Ok (own.value ∷ others)) ys own.rest in
    subst (All IsInLowestTerms) (same_ok (own.value ∷ others.value) ys others.rest)
    (All-cons IsInLowestTerms own.value others.value (low_value shape (value_at xs column) (value_at xs (suc column)) own.value own.first) (low_values (column + width shape) shapes xs others.value others.first))

low_point : (shapes : List Shape) (xs ys : List Fraction) → point_back shapes xs ≡ Ok ys → All IsInLowestTerms ys
unfolding point_back
low_point shapes xs ys h = low_values 0 shapes xs ys h

-- ---- bounds that are there

lower_stays : (a b : Option Fraction) → IsTrue (is_some a) → IsTrue (is_some (greater_bound a b))
lower_stays None b h = absurd (true≢false (sym h))
lower_stays (Some x) None h = refl
lower_stays (Some x) (Some y) h = refl

upper_stays : (a b : Option Fraction) → IsTrue (is_some a) → IsTrue (is_some (lesser_bound a b))
upper_stays None b h = absurd (true≢false (sym h))
upper_stays (Some x) None h = refl
upper_stays (Some x) (Some y) h = refl

record AreThere (b : Bounds) : Type 0 where
  lower : IsTrue (is_some b.lower)
  upper : IsTrue (is_some b.upper)

stay : (place : ℕ) (b : Bounds) (cuts : List Cut) → AreThere b → AreThere (with_cuts place b cuts)
stay place b [] there = there
stay place b (cut ∷ cuts) there =
    stay place (if cut.var == place then both b (cut_bounds cut) else b) cuts
    (cond_both {A = Bounds} (cut.var == place) (both b (cut_bounds cut)) b AreThere
    (λ _. record { lower = lower_stays b.lower (cut_bounds cut).lower there.lower; upper = upper_stays b.upper (cut_bounds cut).upper there.upper }) (λ _. there))

record Given (o : Option Fraction) : Type 0 where
  value : Fraction
  is_value : o ≡ Some value

given : (o : Option Fraction) → IsTrue (is_some o) → Given o
given None h = absurd (true≢false (sym h))
given (Some x) h = record { value = x; is_value = refl }

-- ---- the variable that is split

record Found (first : ℕ) (vars : List Var) (cuts : List Cut) (at : Placed) : Type 0 where
  behind : ℕ
  is_place : at.place ≡ first + behind
  inside : InsideAt first vars cuts behind at.value
  low : IsInLowestTerms at.value
  fraction : IsTrue (not (is_whole at.value))

none_some : (v : Placed) → ◌≡◌ {A = Option Placed} None (Some v) → ⊥
none_some v h = absurd (cc)

some_same : (v w : Placed) → ◌≡◌ {A = Option Placed} (Some v) (Some w) → v ≡ w
some_same v w h = cc

abbrev Closed : Var → Type 0
Closed v = is_integer v.kind ≡ true → IsTrue (is_some (own_bounds v).lower && is_some (own_bounds v).upper)

inside_bounds : (v : Var) (b : Bounds) (n : ℤ) (d : ℕ) (x : Fraction) → 0 < d → SameValue (quotient n d) (ratio x) → IsWithin b (quotient n d) → is_integer v.kind ≡ true → AreThere b → Inside v b x
inside_bounds v b n d x some same within integer there =
    let l = given b.lower there.lower in
    let u = given b.upper there.upper in
    record {
      integer = integer;
      low = l.value;
      up = u.value;
      lower = l.is_value;
      upper = u.is_value;
      above = at_most_from (ratio l.value) (quotient n d) l.value x (omega arith) some refl (same_low n d x some same)
          (subst (λ o. IfSome o (λ m. AtMost (ratio m) (quotient n d))) l.is_value within.lower);
      below = at_most_from (quotient n d) (ratio u.value) x u.value some (omega arith) (same_low n d x some same) refl
          (subst (λ o. IfSome o (λ m. AtMost (quotient n d) (ratio m))) u.is_value within.upper);
    }

found : (first : ℕ) (vars : List Var) (cuts : List Cut) (X : List ℤ) (d : ℕ) (xs : List Fraction) (at : Placed) → 0 < d → first_fractional first vars xs ≡ Some at
    → AllZip (λ b n. IsWithin b (quotient n d)) (bounds_from first vars cuts) X → HasValues X d xs → All IsInLowestTerms xs → All Closed vars → Found first vars cuts at
found first [] cuts X d xs at some is each same low closed = absurd (none_some at is)
found first (v ∷ vars) cuts X d [] at some is each same low closed = absurd (none_some at is)
found first (v ∷ vars) cuts [] d (x ∷ xs) at some is each same low closed = absurd same
found first (v ∷ vars) cuts (n ∷ X) d (x ∷ xs) at some is each same low closed =
    let test = is_integer v.kind && not (is_whole x) in
    let b = with_cuts first (own_bounds v) cuts in
    cond_both {A = Option Placed} test (Some record { place = first; value = x }) (first_fractional (suc first) vars xs) (λ o. o ≡ Some at → Found first (v ∷ vars) cuts at)
    (λ shown h.
    let parts = and_parts (is_integer v.kind) (not (is_whole x)) shown in
    let both_there = and_parts (is_some (own_bounds v).lower) (is_some (own_bounds v).upper) (All-head Closed v vars closed parts.0) in
    subst (Found first (v ∷ vars) cuts) (some_same record { place = first; value = x } at h) record {
      behind = 0;
      is_place = omega arith;
      inside = inside_bounds v b n d x some same.0 each.0 parts.0 (stay first (own_bounds v) cuts record { lower = both_there.0; upper = both_there.1 });
      low = All-head IsInLowestTerms x xs low;
      fraction = parts.1;
    })
    (λ _ h.
    let rest = found (suc first) vars cuts X d xs at some h each.1 same.1 (All-tail IsInLowestTerms x xs low) (All-tail Closed v vars closed) in
    let place = rest.is_place in
    record { behind = suc rest.behind; is_place = omega (arith, place); inside = rest.inside; low = rest.low; fraction = rest.fraction })
    is

-- ---- each split

pub divided : (m : Model) → RelaxationLaw m → IsClosed m → IsDivided m (splits_within m)
divided m law closed cuts d xs at next reached comes is_point is_first sum =
    let best = law.point cuts d xs reached comes is_point in
    let f = found 0 m.vars cuts best.X best.d xs at best.best.feasible.above_zero is_first
    (subst (λ bounds. AllZip (λ b n. IsWithin b (quotient n best.d)) bounds best.X) (effective_bounds-relaxation m cuts) (feasible_within (relaxation m cuts) best.X best.d best.best.feasible)) best.values
    (low_point (shapes_of m cuts) _ xs is_point) closed in
    let k = floor_of at.value in
    let strict = left_out at.value next f.low f.fraction sum in
    let low = cuts ++ at_most_cut at.place k ∷ [] in
    let parts = ranges_split 0 f.behind at.place m.vars cuts at.value k f.is_place f.inside record { below = strict.0 } (floor_next at.value) in
    subst (λ n. splits_within m low + splits_within m (cuts ++ at_least_cut at.place n ∷ []) < splits_within m cuts) (sym (next_is k next sum))
    (one_less (ranges_from 0 m.vars low) (ranges_from 0 m.vars (cuts ++ at_least_cut at.place (k +ℤ pos 1) ∷ [])) (ranges_from 0 m.vars cuts)
    (ranges_some 0 m.vars low) (ranges_some 0 m.vars (cuts ++ at_least_cut at.place (k +ℤ pos 1) ∷ [])) parts)

pub closed_counts : (m : Model) (p : Params) (k : ℕ) → RelaxationLaw m → IsClosed m → CountsNodes p (nodes_below (splits_within m) []) (plain_cut m p k).outcome
closed_counts m p k law closed = plain_counts m p (splits_within m) k (divided m law closed)
