-- A pivot keeps the solutions of a lawful dictionary, and the objectives at each of them.
use Rattle.std.proofs.Common.{◌≡◌, ◌↔◌, ⊎_elim, ◌∙◌, refl, sym, ap, subst, ℕ, suc, ◌-◌, ◌<◌, List, [], length, length-set, length-take-le, map, take, drop, get_or-set_other, get_or-set_same, slice_index, slice_index_or, slice_set, Option, Some, None, option_map, IfSome, arith}
use Rattle.std.proofs.lemmas.Bool.{cases_eq}
use Rattle.std.proofs.lemmas.List.{get_or_at, length-map}
use Rattle.std.proofs.lemmas.List.Elements.{All-get_or}
use Rattle.frac128.specs.Fraction.{Fraction}
use Rattle.dictionary.specs.Dictionary.{Dictionary, entry}
use Rattle.dictionary.specs.Solutions.{IsLawful, Pivots, Point, Solves, auxiliary_at, columns_at, objective_at}
use Rattle.frac128.specs.Lowest.{IsInLowestTerms}
use Rattle.dictionary.proofs.Points.Lawful.{IsWide, Turns, replaced-other, turns, wide_entries}
use Rattle.dictionary.proofs.Points.ExactPivot.{less_one, other_objective, other_row, turned, turned_rows}
use Rattle.frac128.proofs.Sums.{minus_is, ◌⊕◌}
use Rattle.dictionary.proofs.Points.Turned.{told, told-other, total, total-other}

-- the rows by their places, from 0 on
abbrev pub AreTrue : Point → Dictionary → Type 0
AreTrue x d = (i : ℕ) → i < length d.basic → x (slice_index d.basic i) ≡ told x d.nonbasic (slice_index_or d.rows i [])

pub true_from_solves : (d : Dictionary) (x : Point) → Solves d x → AreTrue x d
true_from_solves d x h i within =
    subst (λ place. x (slice_index d.basic place) ≡ told x d.nonbasic (slice_index_or d.rows place [])) (less_one i)
    (h.rows (suc i) (omega arith) (omega (arith, within)) ∙ ap (λ s. entry (slice_index_or d.rows (suc i - 1) []) 0 ⊕ s) (sym (minus_is (columns_at d x (slice_index_or d.rows (suc i - 1) [])))))

pub solves_from_true : (d : Dictionary) (x : Point) → ((v : ℕ) → IsInLowestTerms (x v)) → AreTrue x d → Solves d x
solves_from_true d x low h = record {
  reduced = low;
  rows = λ r above within. h (r - 1) (omega (arith, above, within)) ∙ ap (λ s. entry (slice_index_or d.rows (r - 1) []) 0 ⊕ s) (minus_is (columns_at d x (slice_index_or d.rows (r - 1) [])));
}

-- ---- one pivot

pub row_wide : (d : Dictionary) (k : ℕ) → IsLawful d → k < length d.basic → IsWide (length d.nonbasic) (slice_index_or d.rows k [])
row_wide d k lawful within =
    let same = lawful.shape.rows in
    All-get_or (IsWide (length d.nonbasic)) d.rows k [] (omega (arith, same, within)) lawful.shape.row_entries

row_turned : (i j : ℕ) (d e : Dictionary) → IsLawful d → Turns i j d e → (solved : List Fraction) → slice_index_or (turned_rows i j solved d.rows) i [] ≡ solved
row_turned i j d e lawful h solved =
    let same = lawful.shape.rows in
    let within = h.row_within in
    get_or_at (map (other_row j solved) (take i d.rows)) solved (map (other_row j solved) (drop (suc i) d.rows)) [] i (length-map (take i d.rows) (other_row j solved) ∙ length-take-le i d.rows (omega (arith, same, within)))

-- the row that is solved says of a point what it said before
own_row : (i j : ℕ) (d e : Dictionary) (x : Point) → ((v : ℕ) → IsInLowestTerms (x v)) → (h : Turns i j d e)
    → (x (slice_index d.basic i) ≡ told x d.nonbasic (slice_index_or d.rows i [])) ↔ (x (slice_index d.nonbasic j) ≡ told x (slice_set d.nonbasic j (slice_index d.basic i)) h.solved)
own_row i j d e x low h = h.known.truth x (slice_index d.basic i) d.nonbasic low refl

-- and so does each other row, where the solved one is true
other_rows : (i j k : ℕ) (d e : Dictionary) (x : Point) → IsLawful d → (h : Turns i j d e) → x (slice_index d.nonbasic j) ≡ told x (slice_set d.nonbasic j (slice_index d.basic i)) h.solved
    → k < length d.basic → (k ≡ i → ⊥) → told x (slice_set d.nonbasic j (slice_index d.basic i)) (slice_index_or (turned_rows i j h.solved d.rows) k []) ≡ told x d.nonbasic (slice_index_or d.rows k [])
other_rows i j k d e x lawful h is_true within other =
    let same = lawful.shape.rows in
    ap (told x (slice_set d.nonbasic j (slice_index d.basic i))) (replaced-other (other_row j h.solved) h.solved [] [] i k d.rows (omega (arith, same, within)) other)
    ∙ told-other x j (slice_index d.basic i) d.nonbasic h.solved (slice_index_or d.rows k []) h.column_within
    (wide_entries (length d.nonbasic) h.solved h.known.wide) (wide_entries (length d.nonbasic) (slice_index_or d.rows k []) (row_wide d k lawful within)) is_true

pub true_turned : (i j : ℕ) (d e : Dictionary) (x : Point) → IsLawful d → ((v : ℕ) → IsInLowestTerms (x v)) → (h : Turns i j d e) → AreTrue x d → AreTrue x (turned i j h.solved d)
true_turned i j d e x lawful low h all k within =
    let v = slice_index d.nonbasic j in
    let vs = slice_set d.nonbasic j (slice_index d.basic i) in
    let solved = (own_row i j d e x low h).0 (all i h.row_within) in
    let long : k < length d.basic = omega (arith, within, length-set d.basic i v) in
    ⊎_elim
    (λ same. subst (λ place. x (slice_index (slice_set d.basic i v) place) ≡ told x vs (slice_index_or (turned_rows i j h.solved d.rows) place [])) (sym same)
    (ap x (get_or-set_same d.basic i v 0 h.row_within) ∙ solved ∙ ap (told x vs) (sym (row_turned i j d e lawful h h.solved))))
    (λ other. ap x (get_or-set_other d.basic i k v 0 other) ∙ all k long ∙ sym (other_rows i j k d e x lawful h solved long other))
    (cases_eq k i)

pub true_before : (i j : ℕ) (d e : Dictionary) (x : Point) → IsLawful d → ((v : ℕ) → IsInLowestTerms (x v)) → (h : Turns i j d e) → AreTrue x (turned i j h.solved d) → AreTrue x d
true_before i j d e x lawful low h all k within =
    let v = slice_index d.nonbasic j in
    let vs = slice_set d.nonbasic j (slice_index d.basic i) in
    let long = length-set d.basic i v in
    let row_within = h.row_within in
    let solved : x v ≡ told x vs h.solved =
    sym (ap x (get_or-set_same d.basic i v 0 h.row_within)) ∙ all i (omega (arith, long, row_within)) ∙ ap (told x vs) (row_turned i j d e lawful h h.solved) in
    ⊎_elim
    (λ same. subst (λ place. x (slice_index d.basic place) ≡ told x d.nonbasic (slice_index_or d.rows place [])) (sym same) ((own_row i j d e x low h).1 solved))
    (λ other. sym (ap x (get_or-set_other d.basic i k v 0 other)) ∙ all k (omega (arith, long, within)) ∙ other_rows i j k d e x lawful h solved within other)
    (cases_eq k i)

-- ---- the laws

pub solutions_kept : (r c : ℕ) (d e : Dictionary) (x : Point) → IsLawful d → Pivots r c d e → Solves d x ↔ Solves e x
solutions_kept r c d e x lawful h =
    let made = turns r c d e lawful h in
    let turn = made.2 in (
      λ s. subst (λ f. Solves f x) (sym turn.is_made) (solves_from_true (turned made.0 made.1 turn.solved d) x s.reduced (true_turned made.0 made.1 d e x lawful s.reduced turn (true_from_solves d x s))),
      λ s. solves_from_true d x s.reduced (true_before made.0 made.1 d e x lawful s.reduced turn (subst (AreTrue x) turn.is_made (true_from_solves e x s))),
    )

-- an objective of d says of a solution what it says after the pivot
pub objective_turned : (i j : ℕ) (d e : Dictionary) (x : Point) (row : List Fraction) → (h : Turns i j d e) → Solves d x → IsWide (length d.nonbasic) row
    → total x (slice_set d.nonbasic j (slice_index d.basic i)) (other_objective j h.solved row) ≡ total x d.nonbasic row
objective_turned i j d e x row h s wide =
    total-other x j (slice_index d.basic i) d.nonbasic h.solved row h.column_within (wide_entries (length d.nonbasic) h.solved h.known.wide) (wide_entries (length d.nonbasic) row wide)
    ((own_row i j d e x s.reduced h).0 (true_from_solves d x s i h.row_within))

pub objective_kept : (r c : ℕ) (d e : Dictionary) (x : Point) → IsLawful d → Pivots r c d e → Solves d x → objective_at d x ≡ objective_at e x
objective_kept r c d e x lawful h s =
    let made = turns r c d e lawful h in
    let turn = made.2 in
    sym (ap (λ f. objective_at f x) turn.is_made ∙ objective_turned made.0 made.1 d e x d.objective turn s lawful.shape.objective_entries)

pub auxiliary_kept : (r c : ℕ) (d e : Dictionary) (x : Point) → IsLawful d → Pivots r c d e → Solves d x → auxiliary_at d x ≡ auxiliary_at e x
auxiliary_kept r c d e x lawful h s =
    let made = turns r c d e lawful h in
    let turn = made.2 in
    sym (ap (λ f. auxiliary_at f x) turn.is_made ∙ of_option made.0 made.1 turn d.auxiliary lawful.shape.auxiliary_entries)
  where
    of_option : (i j : ℕ) (turn : Turns i j d e) (o : Option (List Fraction)) → IfSome o (IsWide (length d.nonbasic))
        → option_map (total x (slice_set d.nonbasic j (slice_index d.basic i))) (option_map (other_objective j turn.solved) o) ≡ option_map (total x d.nonbasic) o
    of_option i j turn None wide = refl
    of_option i j turn (Some row) wide = ap Some (objective_turned i j d e x row turn s wide)
