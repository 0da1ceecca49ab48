-- The dense representation of the dictionary that a standard form opens with.
use Rattle.std.proofs.Common.{◌≡◌, ◌∙◌, refl, ap, ap₂, subst, ℕ, zero, suc, ◌+◌, List, [], ◌∷◌, ◌++◌, length, map, replicate, Option, Some, None, add-one, append-nil, length-append, arith}
use Rattle.std.specs.Option.{ForSome}
use Rattle.frac128.specs.Fraction.{Fraction, negation, one_value, zero_value}
use Rattle.dictionary.specs.declared.standard.Std.{Std}
use Rattle.dictionary.specs.declared.standard.StdRow.{StdRow}
use Rattle.dictionary.specs.Cells.{opening_row, rows_of}
use Rattle.dictionary.specs.Dictionary.{Dictionary, numbers_from, with_artificial, without_artificial}

pub length-numbers_from : (first count : ℕ) → length (numbers_from first count) ≡ count
length-numbers_from first zero = refl
length-numbers_from first (suc count) = ap suc (length-numbers_from (suc first) count)

rows_without : (rows : List StdRow) → map (opening_row None) rows ≡ map (λ row. row.rhs ∷ row.coefs) rows
rows_without [] = refl
rows_without (row ∷ rows) = ap₂ (λ xs rest. (row.rhs ∷ xs) ∷ rest) (append-nil row.coefs) (rows_without rows)

rows_with : (x : Fraction) (rows : List StdRow) → map (opening_row (Some x)) rows ≡ map (λ row. row ++ x ∷ []) (map (λ row. row.rhs ∷ row.coefs) rows)
rows_with x [] = refl
rows_with x (row ∷ rows) = ap (λ rest. ((row.rhs ∷ row.coefs) ++ x ∷ []) ∷ rest) (rows_with x rows)

-- one dictionary from the same parts
pub same_dictionary : (b b' n n' : List ℕ) (r r' : List (List Fraction)) (o o' : List Fraction) (a a' : Option (List Fraction)) → b ≡ b' → n ≡ n' → r ≡ r' → o ≡ o' → a ≡ a'
    → let left : Dictionary = record { basic = b; nonbasic = n; rows = r; objective = o; auxiliary = a } in left ≡ record { basic = b'; nonbasic = n'; rows = r'; objective = o'; auxiliary = a' }
same_dictionary b b' n n' r r' o o' a a' p q s t u = cc

pub opened_without : (s : Std) (basic nonbasic : List ℕ) (cells objective : List Fraction)
    → basic ≡ numbers_from (length s.obj + 1) (length s.rows) → nonbasic ≡ numbers_from 1 (length s.obj)
    → rows_of (length s.obj + 1) (length s.rows) cells ≡ map (opening_row None) s.rows
    → objective ≡ s.constant ∷ (s.obj ++ [])
    → let made : Dictionary = record { basic = basic; nonbasic = nonbasic; rows = rows_of (suc (length nonbasic)) (length basic) cells; objective = objective; auxiliary = None } in made ≡ without_artificial s
unfolding without_artificial
opened_without s basic nonbasic cells objective b n r o =
    let columns : length nonbasic ≡ length s.obj = ap length n ∙ length-numbers_from 1 (length s.obj) in
    let width : suc (length nonbasic) ≡ length s.obj + 1 = omega arith in
    let rows : length basic ≡ length s.rows = ap length b ∙ length-numbers_from (length s.obj + 1) (length s.rows) in
    same_dictionary _ _ _ _ _ _ _ _ _ _ (b ∙ ap (λ k. numbers_from k (length s.rows)) (add-one (length s.obj))) n
    (ap₂ (λ w m. rows_of w m cells) width rows ∙ r ∙ rows_without s.rows)
    (o ∙ ap (λ xs. s.constant ∷ xs) (append-nil s.obj)) refl

pub with_last : (s : Std) (nonbasic : List ℕ) → nonbasic ≡ numbers_from 1 (length s.obj) ++ 0 ∷ [] → length nonbasic ≡ length s.obj + 1
with_last s nonbasic n = ap length n ∙ length-append (numbers_from 1 (length s.obj)) (0 ∷ []) ∙ ap (λ k. k + 1) (length-numbers_from 1 (length s.obj))

pub opened_with : (s : Std) (basic nonbasic : List ℕ) (cells objective auxiliary : List Fraction)
    → basic ≡ numbers_from (length s.obj + 1) (length s.rows) → nonbasic ≡ numbers_from 1 (length s.obj) ++ 0 ∷ []
    → rows_of (length s.obj + 2) (length s.rows) cells ≡ map (opening_row (Some (negation one_value))) s.rows
    → objective ≡ s.constant ∷ (s.obj ++ zero_value ∷ [])
    → auxiliary ≡ replicate (length s.obj + 1) zero_value ++ negation one_value ∷ []
    → let made : Dictionary = record { basic = basic; nonbasic = nonbasic; rows = rows_of (suc (length nonbasic)) (length basic) cells; objective = objective; auxiliary = Some auxiliary } in made ≡ with_artificial (without_artificial s)
unfolding with_artificial without_artificial
opened_with s basic nonbasic cells objective auxiliary b n r o a =
    let columns : length nonbasic ≡ length s.obj + 1 = with_last s nonbasic n in
    let width : suc (length nonbasic) ≡ length s.obj + 2 = omega arith in
    let rows : length basic ≡ length s.rows = ap length b ∙ length-numbers_from (length s.obj + 1) (length s.rows) in
    same_dictionary _ _ _ _ _ _ _ _ _ _ (b ∙ ap (λ k. numbers_from k (length s.rows)) (add-one (length s.obj))) n
    (ap₂ (λ w m. rows_of w m cells) width rows ∙ r ∙ rows_with (negation one_value) s.rows)
    o (ap Some (a ∙ ap (λ k. replicate k zero_value ++ negation one_value ∷ []) (add-one (length s.obj))))

-- what holds of the one value
pub for_some : {A : Type 0} (P : A → Type 0) (a : A) → P a → ForSome (Some a) P
for_some {A} P a p x h = let same : a ≡ x = cc in subst P same p
