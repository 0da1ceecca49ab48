-- The text of a model's limits, by what bounds its nodes and its pivots.
use Rattle.std.proofs.Common.{◌≡◌, refl, sym, ap, Bool, true, false, ℕ, ◌<◌, List, Option, Some, None, cond, codes}
use Rattle.std.specs.Prelude.{decimal, nat_le}
use Rattle.std.proofs.lemmas.Bool.{cond-false, lt-leb}
use Rattle.std.proofs.lemmas.Option.{none-some}
use Rattle.model_data.specs.declared.limits.TheConstants.{MAX_ITERATIONS, MAX_NODES}
use Rattle.model_data.specs.declared.model.Model.{Model}
use Rattle.limit_defs.specs.Limits.{has_open, iterations_of, nodes_of}
use Rattle.limit_defs.specs.Text.{limit_text, limits_text, lines_of}
use Rattle.enough_limits.specs.Bounds.{limited, node_bound}
use Rattle.enough_limits.specs.declared.nodes.Nodes.{Nodes}
use Rattle.enough_limits.specs.declared.nodes.Nodes.TheVariants.{Bound, Over, Open}

pub limit_told : (most n limit : ℕ) → Some limit ≡ limited most n → limit_text most n ≡ decimal limit
limit_told most n limit = by_test (nat_le n most)
  where
    by_test : (b : Bool) → Some limit ≡ cond {A = Option ℕ} b (Some n) None → cond {A = List ℕ} b (decimal n) (codes "OVER") ≡ decimal limit
    by_test true is = let same : n ≡ limit = cc in ap decimal same
    by_test false is = absurd (none-some limit (sym is))

pub none_told : (most n : ℕ) → None ≡ limited most n → limit_text most n ≡ codes "OVER"
none_told most n = by_test (nat_le n most)
  where
    by_test : (b : Bool) → None ≡ cond {A = Option ℕ} b (Some n) None → cond {A = List ℕ} b (decimal n) (codes "OVER") ≡ codes "OVER"
    by_test true is = absurd (none-some n is)
    by_test false is = refl

-- what bounds the nodes, and the text, by whether a variable is open and whether the number is within the limit
abbrev bound_by : Bool → Bool → ℕ → Nodes
bound_by open_one within n = cond open_one Open (cond within (Bound n) Over)

abbrev text_by : Bool → Bool → Model → List ℕ
text_by open_one within m =
    cond open_one (lines_of (codes "OPEN") (codes "OPEN"))
    (lines_of (limit_text MAX_ITERATIONS (iterations_of m)) (cond within (decimal (nodes_of m)) (codes "OVER")))

pub open_text : (m : Model) → node_bound m ≡ Open → limits_text m ≡ codes "ITERATIONS OPEN\nNODES OPEN\n"
unfolding limits_text
open_text m = by_tests (has_open m) (nat_le (nodes_of m) MAX_NODES)
  where
    by_tests : (open_one within : Bool) → bound_by open_one within (nodes_of m) ≡ Open → text_by open_one within m ≡ codes "ITERATIONS OPEN\nNODES OPEN\n"
    by_tests true within is = refl
    by_tests false true is = absurd cc
    by_tests false false is = absurd cc

pub bound_text : (m : Model) (n : ℕ) → node_bound m ≡ Bound n → limits_text m ≡ lines_of (limit_text MAX_ITERATIONS (iterations_of m)) (decimal n)
unfolding limits_text
bound_text m n = by_tests (has_open m) (nat_le (nodes_of m) MAX_NODES)
  where
    by_tests : (open_one within : Bool) → bound_by open_one within (nodes_of m) ≡ Bound n
        → text_by open_one within m ≡ lines_of (limit_text MAX_ITERATIONS (iterations_of m)) (decimal n)
    by_tests true within is = absurd cc
    by_tests false true is = let same : nodes_of m ≡ n = cc in ap (λ k. lines_of (limit_text MAX_ITERATIONS (iterations_of m)) (decimal k)) same
    by_tests false false is = absurd cc

pub over_text : (m : Model) → node_bound m ≡ Over → MAX_ITERATIONS < iterations_of m → limits_text m ≡ codes "ITERATIONS OVER\nNODES OVER\n"
unfolding limits_text
over_text m is above = by_tests (has_open m) (nat_le (nodes_of m) MAX_NODES) is
  where
    over : limit_text MAX_ITERATIONS (iterations_of m) ≡ codes "OVER"
    over = cond-false {A = List ℕ} (nat_le (iterations_of m) MAX_ITERATIONS) (decimal (iterations_of m)) (codes "OVER") (lt-leb (iterations_of m) MAX_ITERATIONS above)

    by_tests : (open_one within : Bool) → bound_by open_one within (nodes_of m) ≡ Over → text_by open_one within m ≡ codes "ITERATIONS OVER\nNODES OVER\n"
    by_tests true within is = absurd cc
    by_tests false true is = absurd cc
    by_tests false false is = ap (λ text. lines_of text (codes "OVER")) over
