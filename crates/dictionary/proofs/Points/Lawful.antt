-- Lawful dictionaries, row by row, and that pivots keep them.
use Rattle.std.proofs.Common.{◌≡◌, ◌≢◌, ⊎_elim, ◌∙◌, refl, sym, ap, ap₂, subst, ℕ, zero, suc, ◌+◌, ◌-◌, ◌<◌, ◌≤◌, ◌^◌, ◌↔◌, All, AllPairs, List, [], ◌∷◌, ◌++◌, length, length-append, length-set, length-take-le, length-drop, map, take, drop, get_or, get_or-set_other, get_or-set_same, get_or-append-add, slice_index, slice_index_or, slice_set, Option, Some, None, option_map, IfSome, Ok, pos, arith}
use Rattle.std.proofs.Math.Seq.{set-append_left}
use Rattle.std.proofs.lemmas.Bool.{cases_eq, cases_order}
use Rattle.std.proofs.lemmas.List.{get_or-map, get_or_append_left, get_or_default, length-map, set-append_right}
use Rattle.std.proofs.lemmas.List.Elements.{All-append, All-cons, All-drop, All-get_or, All-head, All-map, All-nil, All-tail, All-take, All-weaker}
use Rattle.frac128.specs.Fraction.{Fraction, exact_quotient, inverse, one_value, zero_value}
use Rattle.dictionary.specs.Dictionary.{Dictionary, IsInShape, entry, solved_row}
use Rattle.dictionary.specs.Solutions.{HasReducedEntries, IsLawful, Pivots, Point}
use Rattle.frac128.specs.Lowest.{IsInLowestTerms}
use Rattle.dictionary.proofs.Points.ExactPivot.{exact_pivot, exact_solved, less_one, other_entries, other_objective, other_row, solved_entries, turned}
use Rattle.dictionary.proofs.Points.Turned.{told, told-solved}
use Rattle.dictionary.proofs.Points.Sums.{length-less_products, less_products}
use Rattle.frac128.proofs.Sums.{minus, minus-product, ◌⊕◌, ◌⊗◌}
use Rattle.frac128.proofs.Field.{apart_of-product, apart_of-sum}

-- ---- parts of lists

pub All-left : {A : Type 0} (P : A → Type 0) (xs ys : List A) → All P (xs ++ ys) → All P xs
All-left P xs ys all = λ k d within. subst P (get_or_append_left xs ys d k within) (all k d (omega (arith, length-append xs ys, within)))

pub All-right : {A : Type 0} (P : A → Type 0) (xs ys : List A) → All P (xs ++ ys) → All P ys
All-right P xs ys all = λ k d within. subst P (get_or-append-add xs ys k d) (all (length xs + k) d (omega (arith, length-append xs ys, within)))

-- what is made of the others where one is put into its place
pub replaced-other : {A B : Type 0} (g : A → B) (s e : B) (d : A) (i k : ℕ) (xs : List A) → k < length xs → (k ≡ i → ⊥) → get_or (map g (take i xs) ++ s ∷ map g (drop (suc i) xs)) k e ≡ g (get_or xs k d)
replaced-other g s e d i k [] within other = absurd (omega (arith, within))
replaced-other g s e d zero zero (x ∷ xs) within other = absurd (other refl)
replaced-other g s e d zero (suc k) (x ∷ xs) within other = get_or-map g xs k d e (omega (arith, within))
replaced-other g s e d (suc i) zero (x ∷ xs) within other = refl
replaced-other g s e d (suc i) (suc k) (x ∷ xs) within other = replaced-other g s e d i k xs (omega (arith, within)) (λ same. other (ap suc same))

-- ---- lines

-- P holds of the rows of the basic variables, of z and, in phase one, of w
pub record AllLines (P : List Fraction → Type 0) (d : Dictionary) : Type 0 where
  pub rows : All P d.rows
  pub objective : P d.objective
  pub auxiliary : IfSome d.auxiliary P

-- what holds of each line after a pivot
lines_turned : (P Q : List Fraction → Type 0) (i j : ℕ) (solved : List Fraction) (d : Dictionary)
    → ((row : List Fraction) → P row → Q (other_row j solved row)) → ((row : List Fraction) → P row → Q (other_objective j solved row)) → Q solved → AllLines P d → AllLines Q (turned i j solved d)
lines_turned P Q i j solved d of_row of_objective here all =
    let made = λ (xs : List (List Fraction)) (h : All P xs). All-map Q (other_row j solved) xs (All-weaker P (λ row. Q (other_row j solved row)) of_row xs h) in
    record {
      rows = All-append Q (map (other_row j solved) (take i d.rows)) (solved ∷ map (other_row j solved) (drop (suc i) d.rows))
          (made (take i d.rows) (All-take P i d.rows all.rows))
          (All-cons Q solved (map (other_row j solved) (drop (suc i) d.rows)) here (made (drop (suc i) d.rows) (All-drop P (suc i) d.rows all.rows)));
      objective = of_objective d.objective all.objective;
      auxiliary = of_option d.auxiliary all.auxiliary;
    }
  where
    of_option : (o : Option (List Fraction)) → IfSome o P → IfSome (option_map (other_objective j solved) o) Q
    of_option None h = h
    of_option (Some row) h = of_objective row h

-- ---- widths

-- a row with so many columns
abbrev pub IsWide : ℕ → List Fraction → Type 0
IsWide n row = length row ≡ suc n

pub wide_entries : (n : ℕ) (row : List Fraction) → IsWide n row → length (drop 1 row) ≡ n
wide_entries n [] wide = absurd (omega (arith, wide))
wide_entries n (k ∷ entries) wide = omega (arith, wide)

pub replaced_length : {A : Type 0} (j : ℕ) (front behind : List A) (a : A) (n : ℕ) → j < n → length front ≡ j → length behind ≡ n - suc j → length (front ++ a ∷ behind) ≡ n
replaced_length j front behind a n within p q = length-append front (a ∷ behind) ∙ omega (arith, within, p, q)

length-other : (j n : ℕ) (f : Fraction) (solved entries : List Fraction) → j < n → length solved ≡ n → length entries ≡ n → length (other_entries j f solved entries) ≡ n
length-other j n f solved entries within same_solved same =
    replaced_length j (less_products f (take j entries) (take j solved)) (less_products f (drop (suc j) entries) (drop (suc j) solved)) (minus (f ⊗ entry solved j)) n within
    (length-less_products f (take j entries) (take j solved) (length-take-le j solved (omega arith) ∙ sym (length-take-le j entries (omega arith))) ∙ length-take-le j entries (omega arith))
    (length-less_products f (drop (suc j) entries) (drop (suc j) solved) (length-drop (suc j) solved ∙ ap (λ m. m - suc j) (same_solved ∙ sym same) ∙ sym (length-drop (suc j) entries)) ∙ length-drop (suc j) entries ∙ ap (λ m. m - suc j) same)

pub length-solved : (j n : ℕ) (q : Fraction) (entries : List Fraction) → j < n → length entries ≡ n → length (solved_entries j q entries) ≡ n
length-solved j n q entries within same =
    replaced_length j (map (λ a. a ⊗ q) (take j entries)) (map (λ a. a ⊗ q) (drop (suc j) entries)) (one_value ⊗ q) n within
    (length-map (take j entries) (λ a. a ⊗ q) ∙ length-take-le j entries (omega arith))
    (length-map (drop (suc j) entries) (λ a. a ⊗ q) ∙ length-drop (suc j) entries ∙ ap (λ m. m - suc j) same)

-- ---- lowest terms

pub apart_of-minus_product : (f b : Fraction) → IsInLowestTerms (minus (f ⊗ b))
apart_of-minus_product f b = subst IsInLowestTerms (minus-product f b) (apart_of-product (minus f) b)

All-less_products : (f : Fraction) (coefs others : List Fraction) → All IsInLowestTerms (less_products f coefs others)
All-less_products f [] others = All-nil IsInLowestTerms
All-less_products f (a ∷ coefs) [] = All-nil IsInLowestTerms
All-less_products f (a ∷ coefs) (b ∷ others) = All-cons IsInLowestTerms (a ⊕ minus (f ⊗ b)) (less_products f coefs others) (apart_of-sum a (minus (f ⊗ b))) (All-less_products f coefs others)

All-replaced : (front behind : List Fraction) (a : Fraction) → All IsInLowestTerms front → IsInLowestTerms a → All IsInLowestTerms behind → All IsInLowestTerms (front ++ a ∷ behind)
All-replaced front behind a p q r = All-append IsInLowestTerms front (a ∷ behind) p (All-cons IsInLowestTerms a behind q r)

All-other : (j : ℕ) (f : Fraction) (solved entries : List Fraction) → All IsInLowestTerms (other_entries j f solved entries)
All-other j f solved entries =
    All-replaced (less_products f (take j entries) (take j solved)) (less_products f (drop (suc j) entries) (drop (suc j) solved)) (minus (f ⊗ entry solved j))
    (All-less_products f (take j entries) (take j solved)) (apart_of-minus_product f (entry solved j)) (All-less_products f (drop (suc j) entries) (drop (suc j) solved))

All-scaled : (q : Fraction) (coefs : List Fraction) → All IsInLowestTerms (map (λ a. a ⊗ q) coefs)
All-scaled q [] = All-nil IsInLowestTerms
All-scaled q (a ∷ coefs) = All-cons IsInLowestTerms (a ⊗ q) (map (λ b. b ⊗ q) coefs) (apart_of-product a q) (All-scaled q coefs)

pub All-solved : (j : ℕ) (q : Fraction) (entries : List Fraction) → All IsInLowestTerms (solved_entries j q entries)
All-solved j q entries =
    All-replaced (map (λ a. a ⊗ q) (take j entries)) (map (λ a. a ⊗ q) (drop (suc j) entries)) (one_value ⊗ q) (All-scaled q (take j entries)) (apart_of-product one_value q) (All-scaled q (drop (suc j) entries))

-- ---- distinct variables

-- where a place of a list stands in it once two have changed their places
record Moved (xs ys : List ℕ) (a b k d : ℕ) : Type 0 where
  place : ℕ
  within : place < length xs
  is : get_or ys k d ≡ get_or xs place d
  at_second : k ≡ b → place ≡ a
  at_first : (k ≢ b) → k ≡ a → place ≡ b
  at_others : (k ≢ b) → (k ≢ a) → place ≡ k

abbrev exchanged : List ℕ → ℕ → ℕ → List ℕ
exchanged xs a b = slice_set (slice_set xs a (slice_index xs b)) b (slice_index xs a)

moved : (xs : List ℕ) (a b k d : ℕ) → a < length xs → b < length xs → k < length xs → Moved xs (exchanged xs a b) a b k d
moved xs a b k d a_in b_in k_in =
    ⊎_elim (λ same. record {
      place = a;
      within = a_in;
      is = ap (λ n. get_or (exchanged xs a b) n d) same ∙ get_or-set_same (slice_set xs a (slice_index xs b)) b (slice_index xs a) d (omega (arith, length-set xs a (slice_index xs b))) ∙ get_or_default xs a 0 d a_in;
      at_second = λ e. refl;
      at_first = λ other e. absurd (other same);
      at_others = λ other e. absurd (other same);
    })
    (λ not_b. ⊎_elim (λ same. record {
      place = b;
      within = b_in;
      is = get_or-set_other (slice_set xs a (slice_index xs b)) b k (slice_index xs a) d not_b ∙ ap (λ n. get_or (slice_set xs a (slice_index xs b)) n d) same ∙ get_or-set_same xs a (slice_index xs b) d a_in ∙ get_or_default xs b 0 d b_in;
      at_second = λ e. absurd (not_b e);
      at_first = λ other e. refl;
      at_others = λ other e. absurd (e same);
    })
    (λ not_a. record {
      place = k;
      within = k_in;
      is = get_or-set_other (slice_set xs a (slice_index xs b)) b k (slice_index xs a) d not_b ∙ get_or-set_other xs a k (slice_index xs b) d not_a;
      at_second = λ e. absurd (not_b e);
      at_first = λ other e. absurd (not_a e);
      at_others = λ other e. refl;
    }) (cases_eq k a)) (cases_eq k b)

apart : (a b p q i j : ℕ) → p < q → (p ≡ b → i ≡ a) → (p ≢ b → p ≡ a → i ≡ b) → (p ≢ b → p ≢ a → i ≡ p) → (q ≡ b → j ≡ a) → (q ≢ b → q ≡ a → j ≡ b) → (q ≢ b → q ≢ a → j ≡ q) → i ≡ j → ⊥
apart a b p q i j below p1 p2 p3 q1 q2 q3 same = grind arith

by_order : (m n : ℕ) → (m ≡ n → ⊥) → (m < n → ⊥) → (n < m → ⊥) → ⊥
by_order m n same less more = ⊎_elim same (λ order. ⊎_elim less more order) (cases_order m n)

distinct_exchanged : (xs : List ℕ) (a b : ℕ) → a < length xs → b < length xs → AllPairs (λ v w. v ≢ w) xs → AllPairs (λ v w. v ≢ w) (exchanged xs a b)
distinct_exchanged xs a b a_in b_in distinct p q d below within same =
    let long : q < length xs = omega (arith, within, length-set (slice_set xs a (slice_index xs b)) b (slice_index xs a), length-set xs a (slice_index xs b)) in
    let one = moved xs a b p d a_in b_in (omega (arith, below, long)) in
    let other = moved xs a b q d a_in b_in long in
    let equal : get_or xs one.place d ≡ get_or xs other.place d = sym one.is ∙ same ∙ other.is in
    by_order one.place other.place
    (λ e. apart a b p q one.place other.place below one.at_second one.at_first one.at_others other.at_second other.at_first other.at_others e)
    (λ less. distinct one.place other.place d less other.within equal)
    (λ less. distinct other.place one.place d less one.within (sym equal))

-- ---- a pivot

-- what is known of the solved row
pub record SolvedRow (j n : ℕ) (row solved : List Fraction) : Type 0 where
  pub wide : IsWide n solved
  pub reduced : All IsInLowestTerms solved
  pub constant : entry solved 0 ≡ exact_quotient (entry row 0) (entry row (suc j))
  pub truth : (x : Point) (u : ℕ) (vs : List ℕ) → ((v : ℕ) → IsInLowestTerms (x v)) → length vs ≡ n → (x u ≡ told x vs row) ↔ (x (slice_index vs j) ≡ told x (slice_set vs j u) solved)

pub solved_known : (j n : ℕ) (row solved : List Fraction) → j < n → IsWide n row → All IsInLowestTerms row → (entry row (suc j)).num ≢ pos 0 → solved_row (suc j) row ≡ Ok solved → SolvedRow j n row solved
solved_known j n [] solved within wide low some is_solved = absurd (omega (arith, wide))
solved_known j n (k ∷ entries) solved within wide low some is_solved =
    let same : length entries ≡ n = omega (arith, wide) in
    let q = inverse (entry entries j) in
    subst (SolvedRow j n (k ∷ entries)) (sym (exact_solved j k entries solved is_solved)) record {
      wide = ap suc (length-solved j n q entries within same);
      reduced = All-cons IsInLowestTerms (k ⊗ q) (solved_entries j q entries) (apart_of-product k q) (All-solved j q entries);
      constant = refl;
      truth = λ x u vs low_x long. told-solved x j u vs k entries low_x (All-head IsInLowestTerms k entries low) (All-get_or IsInLowestTerms entries j zero_value (omega arith) (All-tail IsInLowestTerms k entries low)) some (omega (arith, within, long)) (same ∙ sym long);
    }

-- a pivot on places from 0 on, with the row that is solved
pub record Turns (i j : ℕ) (d e : Dictionary) : Type 0 where
  pub row_within : i < length d.basic
  pub column_within : j < length d.nonbasic
  pub solved : List Fraction
  pub known : SolvedRow j (length d.nonbasic) (slice_index_or d.rows i []) solved
  pub is_made : e ≡ turned i j solved d

pub turn : (i j : ℕ) (d e : Dictionary) → IsLawful d → Pivots (suc i) (suc j) d e → Turns i j d e
turn i j d e lawful h =
    let same = lawful.shape.rows in
    let row_within : i < length d.basic = omega (arith, h.row_within) in
    let column_within : j < length d.nonbasic = omega (arith, h.column_within) in
    let made = exact_pivot i j d e same row_within h.is_pivot in
    let row = slice_index_or d.rows i [] in
    let in_rows : i < length d.rows = omega (arith, same, row_within) in
    record {
      row_within = row_within;
      column_within = column_within;
      solved = made.solved;
      known = solved_known j (length d.nonbasic) row made.solved column_within
          (All-get_or (IsWide (length d.nonbasic)) d.rows i [] in_rows lawful.shape.row_entries)
          (All-get_or (All IsInLowestTerms) d.rows i [] in_rows lawful.reduced.rows)
          (subst (λ place. (entry (slice_index_or d.rows place []) (suc j)).num ≢ pos 0) (less_one i) h.not_zero)
          made.is_solved;
      is_made = made.is_made;
    }

pub turns : (r c : ℕ) (d e : Dictionary) → IsLawful d → Pivots r c d e → (i : ℕ) × (j : ℕ) × Turns i j d e × (r ≡ suc i) × (c ≡ suc j)
turns zero c d e lawful h = absurd (omega (arith, h.row_above))
turns (suc i) zero d e lawful h = absurd (omega (arith, h.column_above))
turns (suc i) (suc j) d e lawful h = (i, j, turn i j d e lawful h, refl, refl)

exchanged_variables : (i j : ℕ) (basic nonbasic : List ℕ) → i < length basic → j < length nonbasic
    → exchanged (basic ++ nonbasic) i (length basic + j) ≡ slice_set basic i (slice_index nonbasic j) ++ slice_set nonbasic j (slice_index basic i)
exchanged_variables i j basic nonbasic within column_within =
    ap₂ (λ v u. slice_set (slice_set (basic ++ nonbasic) i v) (length basic + j) u) (get_or-append-add basic nonbasic j 0) (get_or_append_left basic nonbasic 0 i within)
    ∙ ap (λ l. slice_set l (length basic + j) (slice_index basic i)) (set-append_left basic nonbasic i (slice_index nonbasic j) within)
    ∙ set-append_right (slice_set basic i (slice_index nonbasic j)) nonbasic (length basic) (length basic + j) (slice_index basic i) (length-set basic i (slice_index nonbasic j)) (omega arith)
    ∙ ap (λ place. slice_set basic i (slice_index nonbasic j) ++ slice_set nonbasic place (slice_index basic i)) (behind (length basic) j)
  where
    behind : (m k : ℕ) → m + k - m ≡ k
    behind m k = omega arith

shape-turned : (i j : ℕ) (d e : Dictionary) → IsInShape d → (h : Turns i j d e) → IsInShape (turned i j h.solved d)
shape-turned i j d e shape h =
    let solved = h.solved in
    let n = length d.nonbasic in
    let same = shape.rows in
    let row_within = h.row_within in
    let basic_length = length-set d.basic i (slice_index d.nonbasic j) in
    let nonbasic_length = length-set d.nonbasic j (slice_index d.basic i) in
    let step = λ (row : List Fraction) (wide : IsWide n row). ap suc (length-other j n (entry row (suc j)) (drop 1 solved) (drop 1 row) h.column_within (wide_entries n solved h.known.wide) (wide_entries n row wide)) in
    let entries = subst (λ m. AllLines (IsWide m) (turned i j solved d)) (sym nonbasic_length)
    (lines_turned (IsWide n) (IsWide n) i j solved d step step h.known.wide record { rows = shape.row_entries; objective = shape.objective_entries; auxiliary = shape.auxiliary_entries }) in
    record {
      rows = replaced_length i (map (other_row j solved) (take i d.rows)) (map (other_row j solved) (drop (suc i) d.rows)) solved (length d.basic) row_within
          (length-map (take i d.rows) (other_row j solved) ∙ length-take-le i d.rows (omega (arith, same, row_within)))
          (length-map (drop (suc i) d.rows) (other_row j solved) ∙ length-drop (suc i) d.rows ∙ ap (λ m. m - suc i) same) ∙ sym basic_length;
      row_entries = entries.rows;
      objective_entries = entries.objective;
      auxiliary_entries = entries.auxiliary;
      row_limit = subst (λ m. m < 2 ^ 31) (sym basic_length) shape.row_limit;
      column_limit = subst (λ m. m ≤ 2 ^ 31) (sym nonbasic_length) shape.column_limit;
    }

reduced-turned : (i j : ℕ) (d e : Dictionary) → HasReducedEntries d → (h : Turns i j d e) → HasReducedEntries (turned i j h.solved d)
reduced-turned i j d e low h =
    let solved = h.solved in
    let made = λ (row : List Fraction) (k : Fraction) (k_low : IsInLowestTerms k). All-cons IsInLowestTerms k (other_entries j (entry row (suc j)) (drop 1 solved) (drop 1 row)) k_low (All-other j (entry row (suc j)) (drop 1 solved) (drop 1 row)) in
    let entries = lines_turned (All IsInLowestTerms) (All IsInLowestTerms) i j solved d
    (λ row all. made row (entry row 0 ⊕ minus (entry row (suc j) ⊗ entry solved 0)) (apart_of-sum _ _))
    (λ row all. made row (entry row 0 ⊕ entry row (suc j) ⊗ entry solved 0) (apart_of-sum _ _))
    h.known.reduced record { rows = low.rows; objective = low.objective; auxiliary = low.auxiliary } in
    record { rows = entries.rows; objective = entries.objective; auxiliary = entries.auxiliary }

pub IsLawful-turned : (i j : ℕ) (d e : Dictionary) → IsLawful d → Turns i j d e → IsLawful e
IsLawful-turned i j d e lawful h =
    let row_within = h.row_within in
    let column_within = h.column_within in
    subst IsLawful (sym h.is_made) record {
      shape = shape-turned i j d e lawful.shape h;
      reduced = reduced-turned i j d e lawful.reduced h;
      distinct = subst (AllPairs (λ v w. v ≢ w)) (exchanged_variables i j d.basic d.nonbasic row_within column_within)
          (distinct_exchanged (d.basic ++ d.nonbasic) i (length d.basic + j) (omega (arith, row_within, length-append d.basic d.nonbasic)) (omega (arith, column_within, length-append d.basic d.nonbasic)) lawful.distinct);
    }
