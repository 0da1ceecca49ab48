-- Blocks of simple bytes, passed one by one.
use Rattle.std.proofs.Common.{◌≡◌, ◌∙◌, ap, arith, ℕ, suc, ◌+◌, ◌-◌, ◌≤◌, Bool, true, false, cond, ◌&&◌, List, [], ◌∷◌, ◌++◌, length, take, drop, slice_range}
use Rattle.std.specs.List.{list_all, prefix_len}
use Rattle.std.proofs.lemmas.List.{length-drop, length-take-le}
use Rattle.std.proofs.lemmas.List.Folds.{drop_split}
use Rattle.std.proofs.lemmas.Slice.{between_is}
use Rattle.lp_lex.specs.Runs.{IsPassed, is_simple_byte}

first_step : (simple all : Bool) (whole len rest : ℕ) → (simple && all) ≡ true → (all ≡ true → whole ≡ len + rest) → cond simple (1 + whole) 0 ≡ suc len + rest
first_step true all whole len rest h k = let e = k h in omega (arith, e)
first_step false all whole len rest h k = absurd cc

-- the bytes behind simple ones
behind_all : (front more : List ℕ) → list_all is_simple_byte front ≡ true → prefix_len is_simple_byte (front ++ more) ≡ length front + prefix_len is_simple_byte more
behind_all [] more h = omega arith
behind_all (byte ∷ front) more h =
    first_step (is_simple_byte byte) (list_all is_simple_byte front) (prefix_len is_simple_byte (front ++ more)) (length front) (prefix_len is_simple_byte more) h
    (behind_all front more)

-- one more block of simple bytes
pub passed_block : (bytes : List ℕ) (len n : ℕ) → IsPassed bytes len → n ≤ length bytes - len → list_all is_simple_byte (slice_range bytes len (len + n)) ≡ true
    → IsPassed bytes (len + n)
passed_block bytes len n passed room all =
    let block = slice_range bytes len (len + n) in
    let more = drop (len + n) bytes in
    let within = passed.within in
    let front = length-take-le (len + n) bytes (omega (arith, within, room)) in
    let size : length block ≡ n = ap length (between_is bytes len (len + n)) ∙ (length-drop len (take (len + n) bytes) ∙ omega (arith, front)) in
    let split = ap (prefix_len is_simple_byte) (drop_split bytes len (len + n) (omega arith)) ∙ behind_all block more all in
    record {
      within = omega (arith, within, room);
      simple = passed.simple ∙ (ap (λ (k : ℕ). len + k) split ∙ omega (arith, size));
    }
