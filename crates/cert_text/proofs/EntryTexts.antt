-- A line is read as the entry whose text it is, and as no other.
use Rattle.std.proofs.Common.{◌≡◌, ◌↔◌, refl, sym, ◌∙◌, ap, ap₂, subst, lit≤, ℕ, ◌^◌, ◌<◌, List, ◌∷◌, ◌++◌, Option, Some, None, decimal, codes, arith, ℤ}
use Rattle.std.specs.Prelude.{bytes_eq, option_map}
use Rattle.std.specs.Fmt.{signed_decimal}
use Rattle.frac128.specs.Text.{canonical_text, op_word, wide_text}
use Rattle.frac128.specs.declared.operations.Op.{Op}
use Rattle.frac128.specs.declared.operations.Op.TheVariants.{Add, Sub, Mul, Div}
use Rattle.model_data.specs.declared.solution.Weight.{Weight}
use Rattle.model_data.specs.declared.solution.WideAt.{WideAt}
use Rattle.cert_text.specs.Entries.{HasNumbers, claim_word, entry_text, side_word, vector_word}
use Rattle.cert_text.specs.Reading.{◌>>=◌, count_of, cut, entry_in, entry_of, entry_with, fraction_of, head_mark_of, head_marks, lone_entry, mark_of, mark_or, mark_word, op_of, ops, outcome_of, split_of, tree_mark_of, tree_marks, weight_of, whole_of, wide_of}
use Rattle.cert_text.specs.declared.entry.Claim.TheVariants as claim
use Rattle.cert_text.specs.declared.entry.Entry.{Entry}
use Rattle.cert_text.specs.declared.entry.Entry.TheVariants as entry
use Rattle.cert_text.specs.declared.entry.Side.{Side}
use Rattle.cert_text.specs.declared.entry.Side.TheVariants as side
use Rattle.cert_text.specs.declared.entry.Vector.{Vector}
use Rattle.cert_text.specs.declared.entry.Vector.TheVariants as vector
use Rattle.cert_text.specs.declared.mark.Mark.{Mark}
use Rattle.cert_text.specs.declared.mark.Mark.TheVariants as mark
use Rattle.cert_text.proofs.Basics.{bound, bound_then, found, mapped, same_bytes}
use Rattle.cert_text.proofs.NumberTexts.{count_of-written, counted, measured, fraction_of-spelled, fraction_of-written, range_size, whole_of-spelled, whole_of-written}
use Rattle.cert_text.proofs.Words.{AreInk, IsLine, canonical_ink, cut_at, cut_is, decimal_ink, ink_line, line-append, op_ink, parted, signed_ink}

-- ---- what is written is read

-- a line that begins with the word of a mark and a space
begins : (m : Mark) (rest : List ℕ) → AreInk (mark_word m) → mark_of (mark_word m) ≡ Some m → entry_of (mark_word m ++ 32 ∷ rest) ≡ entry_with m rest
begins m rest ink is = ap (entry_in (mark_word m ++ 32 ∷ rest)) (cut_at (mark_word m) rest ink) ∙ ap (λ o. o >>= λ k. entry_with k rest) is

weight-written : (w : Weight) → w.place < 2 ^ 32 → fraction_of (canonical_text w.weight) ≡ Some w.weight → weight_of (decimal w.place ++ 32 ∷ canonical_text w.weight) ≡ Some w
weight-written w small value =
    let parts = cut_at (decimal w.place) (canonical_text w.weight) (decimal_ink w.place (omega arith)) in
    let place : count_of 32 (decimal w.place) ≡ Some w.place = count_of-written 32 w.place small (omega arith) in
    rw (parts, place, value) refl

split-written : (var : ℕ) (k : ℤ) → HasNumbers (entry.Split var k) → split_of (decimal var ++ 32 ∷ signed_decimal k) ≡ Some (entry.Split var k)
split-written var k h =
    let parts = cut_at (decimal var) (signed_decimal k) (decimal_ink var (omega (arith, h.0))) in
    let number : count_of 32 (decimal var) ≡ Some var = count_of-written 32 var h.0 (omega (arith, h.0)) in
    rw (parts, number, whole_of-written k (h.1, h.2)) refl

outcome-written : (status pivots nodes work : ℕ) → HasNumbers (entry.Outcome status pivots nodes work)
    → outcome_of (decimal status ++ 32 ∷ (decimal pivots ++ 32 ∷ (decimal nodes ++ 32 ∷ decimal work))) ≡ Some (entry.Outcome status pivots nodes work)
outcome-written status pivots nodes work h =
    let third = cut_at (decimal nodes) (decimal work) (decimal_ink nodes (omega (arith, h.2))) in
    let second = cut_at (decimal pivots) (decimal nodes ++ 32 ∷ decimal work) (decimal_ink pivots (omega (arith, h.1))) in
    let first = cut_at (decimal status) (decimal pivots ++ 32 ∷ (decimal nodes ++ 32 ∷ decimal work)) (decimal_ink status (omega (arith, h.0))) in
    rw (first, second, third, count_of-written 8 status h.0 (omega (arith, h.0)), count_of-written 64 pivots h.1 h.1, count_of-written 64 nodes h.2 h.2, count_of-written 64 work h.3 h.3) refl

op-written : (op : Op) → op_of (op_word op) ≡ Some op
op-written Add = refl
op-written Sub = refl
op-written Mul = refl
op-written Div = refl

wide-written : (w : WideAt) → HasNumbers (entry.Wide w) → wide_of (decimal w.at ++ 32 ∷ wide_text w.wide) ≡ Some w
wide-written w h =
    let left = canonical_text w.wide.left in
    let right = canonical_text w.wide.right in
    let third = cut_at left right (canonical_ink w.wide.left h.1) in
    let second = cut_at (op_word w.wide.op) (left ++ 32 ∷ right) (op_ink w.wide.op) in
    let first = cut_at (decimal w.at) (wide_text w.wide) (decimal_ink w.at (omega (arith, h.0))) in
    rw (first, second, third, count_of-written 64 w.at h.0 h.0, op-written w.wide.op, fraction_of-written w.wide.left h.1, fraction_of-written w.wide.right h.2) refl

lone-written : (m : Mark) → cut (mark_word m) ≡ None → mark_of (mark_word m) ≡ Some m → entry_of (mark_word m) ≡ lone_entry m
lone-written m none is = ap (entry_in (mark_word m)) none ∙ ap (λ o. o >>= lone_entry) is

vector_ink : (v : Vector) → (AreInk (vector_word v)) × (mark_of (vector_word v) ≡ Some (mark.Component v))
vector_ink vector.X = (refl, refl)
vector_ink vector.P = (refl, refl)
vector_ink vector.D = (refl, refl)

side_ink : (s : Side) → (AreInk (side_word s)) × (mark_of (side_word s) ≡ Some (mark.Weight s))
side_ink side.Row = (refl, refl)
side_ink side.Lower = (refl, refl)
side_ink side.Upper = (refl, refl)

pub entry_of-written : (e : Entry) → HasNumbers e → entry_of (entry_text e) ≡ Some e
unfolding cut
entry_of-written (entry.Outcome status pivots nodes work) h = begins mark.Outcome (decimal status ++ 32 ∷ (decimal pivots ++ 32 ∷ (decimal nodes ++ 32 ∷ decimal work))) refl refl ∙ outcome-written status pivots nodes work h
entry_of-written (entry.Value x) h = begins mark.Value _ refl refl ∙ ap (option_map (λ y. entry.Value y)) (fraction_of-written x h)
entry_of-written (entry.Component v x) h = begins (mark.Component v) _ (vector_ink v).0 (vector_ink v).1 ∙ ap (option_map (λ y. entry.Component v y)) (fraction_of-written x h)
entry_of-written (entry.Wide w) h = begins mark.Wide (decimal w.at ++ 32 ∷ wide_text w.wide) refl refl ∙ ap (option_map (λ y. entry.Wide y)) (wide-written w h)
entry_of-written entry.Nothing h = lone-written mark.Nothing refl refl
entry_of-written entry.Ray h = lone-written mark.Ray refl refl
entry_of-written (entry.Split var k) h = begins mark.Split (decimal var ++ 32 ∷ signed_decimal k) refl refl ∙ split-written var k h
entry_of-written (entry.Leaf claim.Bound) h = lone-written (mark.Leaf claim.Bound) refl refl
entry_of-written (entry.Leaf claim.Farkas) h = lone-written (mark.Leaf claim.Farkas) refl refl
entry_of-written (entry.Weight s w) h = begins (mark.Weight s) _ (side_ink s).0 (side_ink s).1 ∙ ap (option_map (λ y. entry.Weight s y)) (weight-written w h.0 (fraction_of-written w.weight h.1))
entry_of-written entry.End h = lone-written mark.End refl refl

-- ---- what is read is written so

mark-spelled : (word : List ℕ) (m : Mark) → mark_of word ≡ Some m → mark_word m ≡ word
mark-spelled word m h = by_head (head_mark_of word) refl h
  where
    by_head : (o : Option Mark) → head_mark_of word ≡ o → mark_or o (tree_mark_of word) ≡ Some m → mark_word m ≡ word
    by_head (Some k) e h = let is : head_mark_of word ≡ Some m = cc in sym (same_bytes word (mark_word m) (found (λ n. bytes_eq word (mark_word n)) head_marks m is))
    by_head None e h = sym (same_bytes word (mark_word m) (found (λ n. bytes_eq word (mark_word n)) tree_marks m h))

op-spelled : (word : List ℕ) (op : Op) → op_of word ≡ Some op → op_word op ≡ word
op-spelled word op h = sym (same_bytes word (op_word op) (found (λ o. bytes_eq word (op_word o)) ops op h))

abbrev IsSpelled : Entry → List ℕ → Type 0
IsSpelled e text = HasNumbers e × (entry_text e ≡ text)

lone-spelled : (m : Mark) (e : Entry) → lone_entry m ≡ Some e → IsSpelled e (mark_word m)
lone-spelled mark.Nothing e h = let is : entry.Nothing ≡ e = cc in subst (λ (x : Entry). IsSpelled x (codes "NONE")) is (tt, refl)
lone-spelled mark.Ray e h = let is : entry.Ray ≡ e = cc in subst (λ (x : Entry). IsSpelled x (codes "RAY")) is (tt, refl)
lone-spelled (mark.Leaf c) e h = let is : entry.Leaf c ≡ e = cc in subst (λ (x : Entry). IsSpelled x (claim_word c)) is (tt, refl)
lone-spelled mark.End e h = let is : entry.End ≡ e = cc in subst (λ (x : Entry). IsSpelled x (codes "END")) is (tt, refl)
lone-spelled _ e h = absurd cc

weight-spelled : (rest : List ℕ) (w : Weight) → weight_of rest ≡ Some w → HasNumbers (entry.Weight side.Row w) × (decimal w.place ++ 32 ∷ canonical_text w.weight ≡ rest)
weight-spelled rest w h =
    parted rest _ w h (λ a b cuts h1.
    counted 32 a _ w (lit≤ tt) h1 (λ n small place h2.
    measured b _ w h2 (λ x kept value h3.
    let is : record { place = n; weight = x } ≡ w = cc in
    subst (λ (v : Weight). HasNumbers (entry.Weight side.Row v) × (decimal v.place ++ 32 ∷ canonical_text v.weight ≡ rest)) is
    ((small, kept), ap₂ (λ (c d : List ℕ). c ++ 32 ∷ d) place value ∙ cuts))))

split-spelled : (rest : List ℕ) (e : Entry) → split_of rest ≡ Some e → IsSpelled e (codes "SPLIT " ++ rest)
split-spelled rest e h =
    parted rest _ e h (λ a b cuts h1.
    counted 32 a _ e (lit≤ tt) h1 (λ n small number h2.
    bound_then (whole_of b) _ e h2 (λ k read h3.
    let is : entry.Split n k ≡ e = cc in
    let whole = whole_of-spelled b k read in
    subst (λ (x : Entry). IsSpelled x (codes "SPLIT " ++ rest)) is
    ((small, whole.0.0, whole.0.1), ap (λ (t : List ℕ). codes "SPLIT " ++ t) (ap₂ (λ (c d : List ℕ). c ++ 32 ∷ d) number whole.1 ∙ cuts)))))

outcome-spelled : (rest : List ℕ) (e : Entry) → outcome_of rest ≡ Some e → IsSpelled e (codes "OUTCOME " ++ rest)
outcome-spelled rest e h =
    parted rest _ e h (λ a rest1 cuts h1.
    parted rest1 _ e h1 (λ b rest2 cuts1 h2.
    parted rest2 _ e h2 (λ c d cuts2 h3.
    counted 8 a _ e (lit≤ tt) h3 (λ status s_small s_is h4.
    counted 64 b _ e (lit≤ tt) h4 (λ pivots p_small p_is h5.
    counted 64 c _ e (lit≤ tt) h5 (λ nodes n_small n_is h6.
    counted 64 d _ e (lit≤ tt) h6 (λ work w_small w_is h7.
    let is : entry.Outcome status pivots nodes work ≡ e = cc in
    let join : List ℕ → List ℕ → List ℕ = λ x y. x ++ 32 ∷ y in
    let last = ap₂ join n_is w_is ∙ cuts2 in
    let middle = ap₂ join p_is last ∙ cuts1 in
    let all = ap₂ join s_is middle ∙ cuts in
    subst (λ (x : Entry). IsSpelled x (codes "OUTCOME " ++ rest)) is
    ((s_small, p_small, n_small, w_small), ap (λ (t : List ℕ). codes "OUTCOME " ++ t) all))))))))

wide-spelled : (rest : List ℕ) (w : WideAt) → wide_of rest ≡ Some w → IsSpelled (entry.Wide w) (codes "WIDE " ++ rest)
wide-spelled rest w h =
    parted rest _ w h (λ a rest1 cuts h1.
    parted rest1 _ w h1 (λ b rest2 cuts1 h2.
    parted rest2 _ w h2 (λ c d cuts2 h3.
    counted 64 a _ w (lit≤ tt) h3 (λ at small at_is h4.
    bound_then (op_of b) _ w h4 (λ op op_is h5.
    measured c _ w h5 (λ left left_kept left_is h6.
    measured d _ w h6 (λ right right_kept right_is h7.
    let is : record { at = at; wide = record { op = op; left = left; right = right } } ≡ w = cc in
    let join : List ℕ → List ℕ → List ℕ = λ x y. x ++ 32 ∷ y in
    let last = ap₂ join left_is right_is ∙ cuts2 in
    let middle = ap₂ join (op-spelled b op op_is) last ∙ cuts1 in
    let all = ap₂ join at_is middle ∙ cuts in
    subst (λ (x : WideAt). IsSpelled (entry.Wide x) (codes "WIDE " ++ rest)) is
    ((small, left_kept, right_kept), ap (λ (t : List ℕ). codes "WIDE " ++ t) all))))))))

with-spelled : (m : Mark) (rest : List ℕ) (e : Entry) → entry_with m rest ≡ Some e → IsSpelled e (mark_word m ++ 32 ∷ rest)
with-spelled mark.Outcome rest e h = outcome-spelled rest e h
with-spelled mark.Value rest e h =
    let made = mapped (fraction_of rest) (λ x. entry.Value x) e h in
    let is = fraction_of-spelled rest made.0 made.1 in
    subst (λ (x : Entry). IsSpelled x (codes "VALUE " ++ rest)) made.2 (is.0, ap (λ (t : List ℕ). codes "VALUE " ++ t) is.1)
with-spelled (mark.Component v) rest e h =
    let made = mapped (fraction_of rest) (λ x. entry.Component v x) e h in
    let is = fraction_of-spelled rest made.0 made.1 in
    subst (λ (x : Entry). IsSpelled x (vector_word v ++ 32 ∷ rest)) made.2 (is.0, ap (λ (t : List ℕ). vector_word v ++ 32 ∷ t) is.1)
with-spelled mark.Wide rest e h =
    let made = mapped (wide_of rest) (λ x. entry.Wide x) e h in
    subst (λ (x : Entry). IsSpelled x (codes "WIDE " ++ rest)) made.2 (wide-spelled rest made.0 made.1)
with-spelled mark.Split rest e h = split-spelled rest e h
with-spelled (mark.Weight s) rest e h =
    let made = mapped (weight_of rest) (λ x. entry.Weight s x) e h in
    let is = weight-spelled rest made.0 made.1 in
    subst (λ (x : Entry). IsSpelled x (side_word s ++ 32 ∷ rest)) made.2 (is.0, ap (λ (t : List ℕ). side_word s ++ 32 ∷ t) is.1)
with-spelled _ rest e h = absurd cc

pub entry_of-spelled : (line : List ℕ) (e : Entry) → entry_of line ≡ Some e → HasNumbers e × (entry_text e ≡ line)
entry_of-spelled line e h = by_cut (cut line) refl h
  where
    by_cut : (o : Option (List ℕ × List ℕ)) → cut line ≡ o → entry_in line o ≡ Some e → IsSpelled e line
    by_cut None none h =
        let made = bound (mark_of line) lone_entry e h in
        let is = lone-spelled made.0 e made.2 in
        (is.0, is.1 ∙ mark-spelled line made.0 made.1)
    by_cut (Some (word, rest)) some h =
        let made = bound (mark_of word) (λ m. entry_with m rest) e h in
        let is = with-spelled made.0 rest e made.2 in
        (is.0, is.1 ∙ (ap (λ (w : List ℕ). w ++ 32 ∷ rest) (mark-spelled word made.0 made.1) ∙ cut_is line word rest some))

pub line_says : (line : List ℕ) (e : Entry) → (entry_of line ≡ Some e) ↔ (HasNumbers e × (entry_text e ≡ line))
line_says line e = (entry_of-spelled line e, λ h. ap entry_of (sym h.1) ∙ entry_of-written e h.0)

-- ---- the text of an entry is one line

spaced_line : (word rest : List ℕ) → AreInk word → IsLine rest → IsLine (word ++ 32 ∷ rest)
spaced_line word rest h k = line-append word (32 ∷ rest) (ink_line word h) k

mark_line : (m : List ℕ) (rest : List ℕ) → AreInk m → AreInk rest → IsLine (m ++ 32 ∷ rest)
mark_line m rest h k = spaced_line m rest h (ink_line rest k)

pub text_is_line : (e : Entry) → HasNumbers e → IsLine (entry_text e)
text_is_line (entry.Outcome status pivots nodes work) h =
    spaced_line (codes "OUTCOME") (decimal status ++ 32 ∷ (decimal pivots ++ 32 ∷ (decimal nodes ++ 32 ∷ decimal work))) refl
    (spaced_line (decimal status) (decimal pivots ++ 32 ∷ (decimal nodes ++ 32 ∷ decimal work)) (decimal_ink status (omega (arith, h.0)))
    (spaced_line (decimal pivots) (decimal nodes ++ 32 ∷ decimal work) (decimal_ink pivots (omega (arith, h.1)))
    (mark_line (decimal nodes) (decimal work) (decimal_ink nodes (omega (arith, h.2))) (decimal_ink work (omega (arith, h.3))))))
text_is_line (entry.Value x) h = mark_line (codes "VALUE") (canonical_text x) refl (canonical_ink x h)
text_is_line (entry.Component v x) h = mark_line (vector_word v) (canonical_text x) (vector_ink v).0 (canonical_ink x h)
text_is_line (entry.Wide w) h =
    spaced_line (codes "WIDE") (decimal w.at ++ 32 ∷ wide_text w.wide) refl
    (spaced_line (decimal w.at) (wide_text w.wide) (decimal_ink w.at (omega (arith, h.0)))
    (spaced_line (op_word w.wide.op) (canonical_text w.wide.left ++ 32 ∷ canonical_text w.wide.right) (op_ink w.wide.op)
    (mark_line (canonical_text w.wide.left) (canonical_text w.wide.right) (canonical_ink w.wide.left h.1) (canonical_ink w.wide.right h.2))))
text_is_line entry.Nothing h = refl
text_is_line entry.Ray h = refl
text_is_line (entry.Split var k) h =
    spaced_line (codes "SPLIT") (decimal var ++ 32 ∷ signed_decimal k) refl
    (mark_line (decimal var) (signed_decimal k) (decimal_ink var (omega (arith, h.0))) (signed_ink k (range_size k (h.1, h.2))))
text_is_line (entry.Leaf claim.Bound) h = refl
text_is_line (entry.Leaf claim.Farkas) h = refl
text_is_line (entry.Weight s w) h =
    spaced_line (side_word s) (decimal w.place ++ 32 ∷ canonical_text w.weight) (side_ink s).0
    (mark_line (decimal w.place) (canonical_text w.weight) (decimal_ink w.place (omega (arith, h.0))) (canonical_ink w.weight h.1))
text_is_line entry.End h = refl
