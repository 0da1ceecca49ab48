-- The product of the ranges so far, with the variables that are left.
use Rattle.std.proofs.Common.{◌≡◌, refl, sym, ◌∙◌, ap, Bool, true, false, ℕ, suc, ◌+◌, ◌*◌, ◌<◌, ◌≤◌, [], ◌∷◌, Option, Some, None, cond, drop, length, arith}
use Rattle.std.specs.Prelude.{◌||◌, slice_index_or}
use Rattle.std.specs.List.{list_any}
use Rattle.std.proofs.Math.Nat.{mul_assoc, mul-pos}
use Rattle.std.proofs.lemmas.List.{drop_more}
use Rattle.std.proofs.lemmas.Option.{none-some}
use Rattle.model_data.specs.declared.model.Model.{Model}
use Rattle.model_data.specs.declared.model.Var.{Var}
use Rattle.search_laws.specs.Counts.{range_of, ranges_from}
use Rattle.search_laws.proofs.Ranges.{ranges_some}
use Rattle.solve_defs.specs.Bounds.{own_bounds}
use Rattle.limit_defs.specs.Limits.{has_open, is_open, leaves_of}
use Rattle.enough_limits.specs.Bounds.{closed_range, limited}
use Rattle.enough_limits.specs.declared.nodes.TheConstants.{MOST_LEAVES}

-- No variable before this place is open, and the product of their ranges is told.
pub record Leaves (m : Model) (place : ℕ) (leaves : Option ℕ) : Type 0 where
  pub none_open : list_any is_open (drop place m.vars) ≡ has_open m
  pub so_far : ℕ
  pub some : 1 ≤ so_far
  pub told : leaves ≡ limited MOST_LEAVES so_far
  pub with_rest : so_far * ranges_from place (drop place m.vars) [] ≡ leaves_of m

-- the range of a variable that isn't open
pub record HasRange (v : Var) (range : ℕ) : Type 0 where
  pub closed : is_open v ≡ false
  pub is : range_of v (own_bounds v) ≡ range

pub range_told : (v : Var) (range : ℕ) → closed_range v ≡ Some range → HasRange v range
range_told v range = by_test (is_open v) refl
  where
    by_test : (b : Bool) → is_open v ≡ b → cond {A = Option ℕ} b None (Some (range_of v (own_bounds v))) ≡ Some range → HasRange v range
    by_test true open_one h = absurd (none-some range h)
    by_test false closed h = record { closed = closed; is = cc }

pub leaves_next : (m : Model) (place : ℕ) (v : Var) (leaves leaves' : Option ℕ) (range : ℕ) → Leaves m place leaves → place < length m.vars
    → v ≡ slice_index_or m.vars place v → HasRange v range
    → ((x : ℕ) → 1 ≤ x → 1 ≤ range → leaves ≡ limited MOST_LEAVES x → leaves' ≡ limited MOST_LEAVES (x * range))
    → Leaves m (place + 1) leaves'
leaves_next m place v leaves leaves' range before within at has times =
    let rest = drop (place + 1) m.vars in
    let here : drop place m.vars ≡ v ∷ rest = drop_more m.vars place v within ∙ ap (λ w. w ∷ rest) (sym at) in
    let some : 1 ≤ range = let own = ranges_some 0 (v ∷ []) [] in let is = has.is in omega (arith, own, is) in
    let next : place + 1 ≡ suc place = omega arith in
    record {
      none_open = sym (ap (λ vars. list_any is_open vars) here ∙ ap (λ b. b || list_any is_open rest) has.closed) ∙ before.none_open;
      so_far = before.so_far * range;
      some = mul-pos before.some some;
      told = times before.so_far before.some some before.told;
      with_rest =
          mul_assoc before.so_far range (ranges_from (place + 1) rest [])
          ∙ ap (λ r. before.so_far * (r * ranges_from (place + 1) rest [])) (sym has.is)
          ∙ ap (λ n. before.so_far * (range_of v (own_bounds v) * ranges_from n rest [])) next
          ∙ ap (λ vars. before.so_far * ranges_from place vars []) (sym here)
          ∙ before.with_rest;
    }
