-- Different rising lists of m numbers below n are at most as many as there are ways to choose m of n.
use Rattle.std.proofs.Common.{◌≡◌, ◌≢◌, ⊎_elim, ◌∙◌, refl, sym, ap, ap₂, subst, ℕ, suc, ◌<◌, ◌≤◌, ◌==◌, Bool, true, false, true≢false, List, [], ◌∷◌, length, slice_index_or, All, AllPairs, arith, eq-eqb, ne_eqb}
use Rattle.std.specs.Prelude.{◌||◌}
use Rattle.std.proofs.lemmas.Bool.{cases_eq, cases_lt}
use Rattle.std.proofs.lemmas.List.Elements.{All-get_or}
use Rattle.limit_defs.specs.Counts.{choose}
use Rattle.pivot_laws.specs.Choices.{IsChoice}
use Rattle.pivot_laws.proofs.Flags.{few, members, members_of_list, one_rank, rank, rank_below, stands_in, stands_in-false}

-- the first stands before the others
above_first : (x : ℕ) (xs : List ℕ) (u : ℕ) → AllPairs (λ a b. a < b) (x ∷ xs) → stands_in xs u ≡ true → x < u
above_first x xs u rising there = ⊎_elim (λ less. less) (λ most. absurd (true≢false (sym there ∙ stands_in-false xs u (λ k within same. let less = rising 0 (suc k) 0 (omega arith) (omega (arith, within)) in omega (arith, less, same, most))))) (cases_lt x u)

rest_rising : (x : ℕ) (xs : List ℕ) → AllPairs (λ a b. a < b) (x ∷ xs) → AllPairs (λ a b. a < b) xs
rest_rising x xs rising i j d less within = rising (suc i) (suc j) d (omega (arith, less)) (omega (arith, within))

-- Rising lists with the same members are the same.
one_list : (xs ys : List ℕ) → length xs ≡ length ys → AllPairs (λ a b. a < b) xs → AllPairs (λ a b. a < b) ys → ((u : ℕ) → stands_in xs u ≡ stands_in ys u) → xs ≡ ys
unfolding stands_in
one_list [] [] long p q same = refl
one_list [] (y ∷ ys) long p q same = absurd (omega (arith, long))
one_list (x ∷ xs) [] long p q same = absurd (omega (arith, long))
one_list (x ∷ xs) (y ∷ ys) long p q same =
    let first = first_is (least x y xs ys q same) (least y x ys xs p (λ u. sym (same u))) in
    ap₂ (λ a others. a ∷ others) first (one_list xs ys (omega (arith, long)) (rest_rising x xs p) (rest_rising y ys q) (rest first))
  where
    or_case : (a b : Bool) → (a || b) ≡ true → (a ≡ false) → b ≡ true
    or_case true b e f = absurd (true≢false f)
    or_case false b e f = e

    -- the other list's first is at most this one's
    least : (a b : ℕ) (others bs : List ℕ) → AllPairs (λ c d. c < d) (b ∷ bs) → ((u : ℕ) → ((a == u) || stands_in others u) ≡ ((b == u) || stands_in bs u)) → b ≤ a
    least a b others bs rising same =
        let there : ((b == a) || stands_in bs a) ≡ true = sym (same a) ∙ ap (λ t. t || stands_in others a) (eq-eqb a a refl) in
        ⊎_elim
        (λ is. omega (arith, is))
        (λ other. let less = above_first b bs a rising (or_case (b == a) (stands_in bs a) there (ne_eqb b a other)) in omega (arith, less))
        (cases_eq b a)

    first_is : y ≤ x → x ≤ y → x ≡ y
    first_is a b = omega (arith, a, b)

    not_again : (a : ℕ) (others : List ℕ) → AllPairs (λ c d. c < d) (a ∷ others) → stands_in others a ≡ false
    not_again a others rising = stands_in-false others a (λ k within is. let less = rising 0 (suc k) 0 (omega arith) (omega (arith, within)) in omega (arith, less, is))

    rest : x ≡ y → (u : ℕ) → stands_in xs u ≡ stands_in ys u
    rest first u =
        ⊎_elim
        (λ is. subst (λ w. stands_in xs w ≡ stands_in ys w) is (not_again x xs p ∙ sym (subst (λ w. stands_in ys w ≡ false) (sym first) (not_again y ys q))))
        (λ other.
        ap (λ b. b || stands_in xs u) (sym (ne_eqb x u other)) ∙ same u ∙ ap (λ b. b || stands_in ys u) (ne_eqb y u (λ is. other (first ∙ is))))
        (cases_eq x u)

members_are : (n m : ℕ) (xs : List ℕ) → IsChoice n m xs → members (stands_in xs) n ≡ m
members_are n m xs h =
    members_of_list xs n (λ k within. All-get_or (λ x. x < n) xs k 0 within h.low)
    (λ i j less within same. let more = h.rising i j 0 less within in omega (arith, more, same)) ∙ h.count

nowhere : (n m : ℕ) (xs : List ℕ) (u : ℕ) → IsChoice n m xs → n ≤ u → stands_in xs u ≡ false
nowhere n m xs u h past = stands_in-false xs u (λ k within same. let less = All-get_or (λ x. x < n) xs k 0 within h.low in omega (arith, less, same, past))

pub few_choices : (n m : ℕ) (lists : List (List ℕ)) → All (IsChoice n m) lists → AllPairs (λ xs ys. xs ≢ ys) lists → length lists ≤ choose n m
few_choices n m lists all differ =
    few (choose n m) (length lists) (λ i. rank (stands_in (slice_index_or lists i [])) n)
    (λ i within.
    let h = all i [] within in
    subst (λ k. rank (stands_in (slice_index_or lists i [])) n < choose n k) (members_are n m (slice_index_or lists i []) h) (rank_below (stands_in (slice_index_or lists i [])) n))
    (λ i j less within same.
    let xs = slice_index_or lists i [] in
    let ys = slice_index_or lists j [] in
    let h = all i [] (omega (arith, less, within)) in
    let k = all j [] within in
    differ i j [] less within
    (one_list xs ys (h.count ∙ sym k.count) h.rising k.rising
    (λ u. ⊎_elim
    (λ (inside : u < n). one_rank (stands_in xs) (stands_in ys) n (members_are n m xs h ∙ sym (members_are n m ys k)) same u inside)
    (λ past. nowhere n m xs u h past ∙ sym (nowhere n m ys u k past))
    (cases_lt u n))))
