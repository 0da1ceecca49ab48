-- A product is above a limit where one of its factors is, and the others aren't 0.
use Rattle.std.proofs.Common.{◌≡◌, sym, ◌∙◌, subst, Option, None, drop, ℕ, ◌+◌, ◌*◌, ◌<◌, ◌≤◌, [], arith}
use Rattle.std.proofs.Math.Nat.{le-mul_of_pos_right}
use Rattle.model_data.specs.declared.limits.TheConstants.{MAX_ITERATIONS, MAX_NODES}
use Rattle.model_data.specs.declared.model.Model.{Model}
use Rattle.search_laws.specs.Counts.{ranges_from}
use Rattle.search_laws.proofs.Ranges.{ranges_some}
use Rattle.limit_defs.specs.Counts.{choose}
use Rattle.limit_defs.specs.Limits.{iterations_of, nodes_of, pivots_of, root_columns, root_rows}
use Rattle.enough_limits.specs.declared.nodes.TheConstants.{MOST_LEAVES}
use Rattle.enough_limits.proofs.Choose.{choose_rises}
use Rattle.enough_limits.proofs.Leaves.{Leaves}
use Rattle.enough_limits.proofs.Limited.{limited_above}

pub nodes_some : (m : Model) → 1 ≤ nodes_of m
nodes_some m = let some = ranges_some 0 m.vars [] in omega (arith, some)

pub product_above : (most a b : ℕ) → most < a → 1 ≤ b → most < a * b
product_above most a b above some =
    let at_least = le-mul_of_pos_right {m = b} a some in omega (arith, above, at_least)

pub pivots_some : (m : Model) → 1 ≤ pivots_of m
unfolding choose
pivots_some m =
    let columns = root_columns m in
    let rows = root_rows m in
    let rises : choose (columns + 1 + 0) 0 ≤ choose (columns + 1 + (0 + rows)) (0 + rows) = choose_rises (columns + 1) 0 rows in
    let none : 0 + rows ≡ rows = omega arith in
    let all : columns + 1 + rows ≡ columns + rows + 1 = omega arith in
    let some : 1 ≤ choose (columns + rows + 1) rows =
    subst (λ n. 1 ≤ choose n rows) all (subst (λ n. 1 ≤ choose (columns + 1 + n) n) none rises) in
    omega (arith, some)

-- where the nodes are over their limit, the pivots of all of them are over theirs
pub over_as_well : (m : Model) → MAX_NODES < nodes_of m → MAX_ITERATIONS < iterations_of m
over_as_well m above = swapped (pivots_of m) (nodes_of m) (product_above MAX_NODES (nodes_of m) (pivots_of m) above (pivots_some m))
  where
    swapped : (a b : ℕ) → MAX_NODES < b * a → MAX_ITERATIONS < a * b
    swapped a b h = omega (arith, h)

-- where the product so far is above its limit
pub nodes_above : (m : Model) (place : ℕ) (leaves : Option ℕ) → Leaves m place leaves → leaves ≡ None → MAX_NODES < nodes_of m
nodes_above m place leaves h none =
    let so_far : MOST_LEAVES < h.so_far = limited_above MOST_LEAVES h.so_far (sym h.told ∙ none) in
    let whole = product_above MOST_LEAVES h.so_far (ranges_from place (drop place m.vars) []) so_far (ranges_some place (drop place m.vars) []) in
    let is = h.with_rest in
    omega (arith, whole, is)
