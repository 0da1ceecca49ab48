-- Sets of numbers below n with m members, counted: each has a rank below the number of ways to choose m of n, and two with one rank are one.
use Rattle.std.proofs.Common.{◌≡◌, ◌≢◌, ⊎_elim, ◌∙◌, refl, sym, ap, subst, ℕ, zero, suc, ◌+◌, ◌<◌, ◌≤◌, ◌==◌, Bool, true, false, cond, List, [], ◌∷◌, length, slice_index, arith, eq-eqb, ne_eqb}
use Rattle.std.specs.Prelude.{◌||◌}
use Rattle.std.proofs.lemmas.Bool.{cases_eq, eqb-false, eqb-true}
use Rattle.limit_defs.specs.Counts.{choose}

-- how many numbers below n the flag is set for
unfoldable pub members : (ℕ → Bool) → ℕ → ℕ
members f zero = 0
members f (suc n) = cond (f n) (suc (members f n)) (members f n)

-- the place of the set among those with as many members
unfoldable pub rank : (ℕ → Bool) → ℕ → ℕ
rank f zero = 0
rank f (suc n) = cond (f n) (choose n (suc (members f n)) + rank f n) (rank f n)

more_to_choose : (n m : ℕ) → choose n m ≤ choose (suc n) m
unfolding choose
more_to_choose n zero = omega arith
more_to_choose n (suc m) = omega arith

with_last : (n m r : ℕ) → r < choose n m → choose n (suc m) + r < choose (suc n) (suc m)
unfolding choose
with_last n m r less = omega arith

pub rank_below : (f : ℕ → Bool) (n : ℕ) → rank f n < choose n (members f n)
unfolding rank members choose
rank_below f zero = omega arith
rank_below f (suc n) = by_flag (rank_below f n) (f n)
  where
    by_flag : rank f n < choose n (members f n) → (b : Bool) → cond b (choose n (suc (members f n)) + rank f n) (rank f n) < choose (suc n) (cond b (suc (members f n)) (members f n))
    by_flag less true = with_last n (members f n) (rank f n) less
    by_flag less false = let more = more_to_choose n (members f n) in omega (arith, less, more)

-- Two sets with as many members and one rank have the same members.
pub one_rank : (f g : ℕ → Bool) (n : ℕ) → members f n ≡ members g n → rank f n ≡ rank g n → (u : ℕ) → u < n → f u ≡ g u
unfolding rank members
one_rank f g zero same_count same_rank u within = absurd (omega (arith, within))
one_rank f g (suc n) same_count same_rank u within =
    by_flags (λ p q. one_rank f g n p q) (rank_below f n) (rank_below g n) (f n) (g n) refl refl same_count same_rank
  where
    before : ((v : ℕ) → v < n → f v ≡ g v) → f n ≡ g n → f u ≡ g u
    before others last = ⊎_elim (λ is. subst (λ v. f v ≡ g v) (sym is) last) (λ other. others u (omega (arith, within, other))) (cases_eq u n)

    by_flags : (members f n ≡ members g n → rank f n ≡ rank g n → (v : ℕ) → v < n → f v ≡ g v) → rank f n < choose n (members f n) → rank g n < choose n (members g n) → (a b : Bool) → f n ≡ a → g n ≡ b
        → cond a (suc (members f n)) (members f n) ≡ cond b (suc (members g n)) (members g n)
        → cond a (choose n (suc (members f n)) + rank f n) (rank f n) ≡ cond b (choose n (suc (members g n)) + rank g n) (rank g n) → f u ≡ g u
    by_flags others f_low g_low true true p q counts ranks =
        let count : members f n ≡ members g n = omega (arith, counts) in
        let chosen = ap (λ m. choose n (suc m)) count in
        before (others count (omega (arith, ranks, chosen))) (p ∙ sym q)
    by_flags others f_low g_low true false p q counts ranks =
        let chosen = ap (choose n) counts in
        absurd (omega (arith, ranks, chosen, g_low))
    by_flags others f_low g_low false true p q counts ranks =
        let chosen = ap (choose n) counts in
        absurd (omega (arith, ranks, chosen, f_low))
    by_flags others f_low g_low false false p q counts ranks = before (others counts ranks) (p ∙ sym q)

-- numbers that differ, each below c
pub few : (c n : ℕ) (f : ℕ → ℕ) → ((i : ℕ) → i < n → f i < c) → ((i j : ℕ) → i < j → j < n → f i ≢ f j) → n ≤ c
few zero zero f low differ = omega arith
few zero (suc n) f low differ = absurd (let less = low 0 (omega arith) in omega (arith, less))
few (suc c) zero f low differ = omega arith
few (suc c) (suc n) f low differ =
    let g : ℕ → ℕ = λ i. cond (f i == c) (f n) (f i) in
    let rest = few c n g (λ i within. below i within (f i == c) refl) (λ i j less within. apart i j less within (f i == c) (f j == c) refl refl) in
    omega (arith, rest)
  where
    below : (i : ℕ) → i < n → (b : Bool) → f i == c ≡ b → cond b (f n) (f i) < c
    below i within true is =
        let most = low n (omega arith) in
        let apart = differ i n within (omega arith) in
        let same = eqb-true (f i) c is in
        omega (arith, most, apart, same)
    below i within false is = let most = low i (omega (arith, within)) in let other = eqb-false (f i) c is in omega (arith, most, other)

    apart : (i j : ℕ) → i < j → j < n → (a b : Bool) → f i == c ≡ a → f j == c ≡ b → cond a (f n) (f i) ≢ cond b (f n) (f j)
    apart i j less within true true p q e = differ i j less (omega (arith, within)) (eqb-true (f i) c p ∙ sym (eqb-true (f j) c q))
    apart i j less within true false p q e = differ j n within (omega arith) (sym e)
    apart i j less within false true p q e = differ i n (omega (arith, less, within)) (omega arith) e
    apart i j less within false false p q e = differ i j less (omega (arith, within)) e

-- ---- the members of a list

none_added : (f : ℕ → Bool) (x n : ℕ) → f x ≡ false → n ≤ x → members (λ u. (x == u) || f u) n ≡ members f n
unfolding members
none_added f x zero none within = refl
none_added f x (suc n) none within =
    ap (λ b. cond (b || f n) (suc (members (λ u. (x == u) || f u) n)) (members (λ u. (x == u) || f u) n)) (ne_eqb x n (omega (arith, within)))
    ∙ ap (λ m. cond (f n) (suc m) m) (none_added f x n none (omega (arith, within)))

one_added : (f : ℕ → Bool) (x n : ℕ) → f x ≡ false → x < n → members (λ u. (x == u) || f u) n ≡ suc (members f n)
unfolding members
one_added f x zero none within = absurd (omega (arith, within))
one_added f x (suc n) none within =
    ⊎_elim
    (λ (last : x ≡ n).
    ap (λ b. cond (b || f n) (suc (members (λ u. (x == u) || f u) n)) (members (λ u. (x == u) || f u) n)) (eq-eqb x n last)
    ∙ ap suc (none_added f x n none (omega (arith, last)))
    ∙ ap (λ b. suc (cond b (suc (members f n)) (members f n))) (sym none ∙ ap f last))
    (λ other.
    ap (λ b. cond (b || f n) (suc (members (λ u. (x == u) || f u) n)) (members (λ u. (x == u) || f u) n)) (ne_eqb x n other)
    ∙ ap (λ m. cond (f n) (suc m) m) (one_added f x n none (omega (arith, within, other))) ∙ by_flag (f n) (members f n))
    (cases_eq x n)
  where
    by_flag : (b : Bool) (m : ℕ) → cond b (suc (suc m)) (suc m) ≡ suc (cond b (suc m) m)
    by_flag true m = refl
    by_flag false m = refl

-- whether a number is in the list
unfoldable pub stands_in : List ℕ → ℕ → Bool
stands_in [] u = false
stands_in (x ∷ xs) u = (x == u) || stands_in xs u

pub stands_in-false : (xs : List ℕ) (u : ℕ) → ((k : ℕ) → k < length xs → slice_index xs k ≢ u) → stands_in xs u ≡ false
unfolding stands_in
stands_in-false [] u none = refl
stands_in-false (x ∷ xs) u none =
    ap (λ b. b || stands_in xs u) (ne_eqb x u (none 0 (omega arith))) ∙ stands_in-false xs u (λ k within. none (suc k) (omega (arith, within)))

pub stands_in-true : (xs : List ℕ) (u k : ℕ) → k < length xs → slice_index xs k ≡ u → stands_in xs u ≡ true
unfolding stands_in
stands_in-true [] u k within is = absurd (omega (arith, within))
stands_in-true (x ∷ xs) u zero within is = ap (λ b. b || stands_in xs u) (eq-eqb x u is)
stands_in-true (x ∷ xs) u (suc k) within is = ap (λ b. (x == u) || b) (stands_in-true xs u k (omega (arith, within)) is) ∙ or_true (x == u)
  where
    or_true : (b : Bool) → (b || true) ≡ true
    or_true true = refl
    or_true false = refl

no_members : (n : ℕ) → members (λ u. false) n ≡ 0
unfolding members
no_members zero = refl
no_members (suc n) = no_members n

pub members_of_list : (xs : List ℕ) (n : ℕ) → ((k : ℕ) → k < length xs → slice_index xs k < n) → ((i j : ℕ) → i < j → j < length xs → slice_index xs i ≢ slice_index xs j) → members (stands_in xs) n ≡ length xs
unfolding stands_in
members_of_list [] n low distinct = no_members n
members_of_list (x ∷ xs) n low distinct =
    one_added (stands_in xs) x n (stands_in-false xs x (λ k within same. distinct 0 (suc k) (omega arith) (omega (arith, within)) (sym same))) (low 0 (omega arith))
    ∙ ap suc (members_of_list xs n (λ k within. low (suc k) (omega (arith, within))) (λ i j less within. distinct (suc i) (suc j) (omega (arith, less)) (omega (arith, within))))

pub same_members : (f g : ℕ → Bool) (n : ℕ) → ((u : ℕ) → f u ≡ g u) → members f n ≡ members g n
same_members f g n same = ap (λ h. members h n) (λ t u. same u t)
