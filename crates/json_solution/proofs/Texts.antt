-- The value's text is the solution's.
use Rattle.std.proofs.Common.{◌≡◌, subst, ℕ, true, false, List, [], ◌∷◌, ◌++◌, map, Option, Some, None, codes, decimal, refl, sym, ap, ap₂, ◌∙◌, append_assoc}
use Rattle.std.proofs.lemmas.List.{append-nil}
use Rattle.std.proofs.lemmas.List.Elements.{All-head, All-tail}
use Rattle.std.specs.Fmt.{digits}
use Rattle.std.specs.Prelude.{zip, All, IfSome}
use Rattle.std.specs.List.{filter_map}
use Rattle.json.specs.Print.{escape}
use Rattle.frac128.specs.Fraction.{Fraction}
use Rattle.frac128.specs.Text.{canonical_text}
use Rattle.serde_json.specs.Written.{compact_text, items_text, has_float, items_have_float}
use Rattle.serde_json.specs.View.{items_of}
use Rattle.serde_json.proofs.OnLiterals.{serde_json_on_literals}
use Rattle.model_data.specs.Names.{IsTag}
use Rattle.model_data.specs.declared.model.Model.{Model}
use Rattle.model_data.specs.declared.model.Var.{Var}
use Rattle.model_data.specs.declared.solution.Outcome.{Outcome}
use Rattle.model_data.specs.declared.solution.Point.{Point}
use Rattle.json_solution.specs.Solution.{Listed, listed, listed_var, listed_tag, escaped_byte, with_commas, var_text, kept_text, info_text, solution_text}
use Rattle.json_solution.specs.Built.{var_data, info_data, info_with, solution_data}
use Rattle.json_solution.proofs.Tags.{tag_is_visible}
use Rattle.std.specs.Prelude.{◌==◌, ◌&&◌, pos}
use Rattle.std.specs.Ordering.{int_eq}
use Rattle.json_solution.proofs.Escapes.{cases, escaped_all, number_escape}
use Rattle.std.specs.Prelude.{flat_map, option_map}
use Rattle.serde_json.specs.Data.{Data, object, member, no_members, array}

abbrev pub AreTagged : List Listed → Type 0
AreTagged [] = Unit {0}
AreTagged (t ∷ ts) = IsTag t.0 × AreTagged ts

-- the text as it is printed, of what stands in its quotes
abbrev pub var_printed : List ℕ → List ℕ → List ℕ
var_printed tag number = codes "{\"VTag\":[\"" ++ (((tag ++ 34 ∷ []) ++ 93 ∷ []) ++ (codes ",\"X\":\"" ++ ((number ++ 34 ∷ []) ++ 125 ∷ [])))

var_is : (t : Listed) → compact_text (var_data t) ≡ var_printed (escape t.0) (escape (canonical_text t.1))
unfolding serde_json_on_literals
var_is t = refl

var_shape : (tag number : List ℕ) → var_printed tag number ≡ codes "{\"VTag\":[" ++ ((34 ∷ (tag ++ 34 ∷ [])) ++ (codes "],\"X\":\"" ++ (number ++ codes "\"}")))
var_shape tag number =
    ap (λ (x : List ℕ). codes "{\"VTag\":[\"" ++ (((tag ++ 34 ∷ []) ++ 93 ∷ []) ++ (codes ",\"X\":\"" ++ x))) (append_assoc number (34 ∷ []) (125 ∷ []))
    ∙ ap (λ (x : List ℕ). codes "{\"VTag\":[\"" ++ x) (append_assoc (tag ++ 34 ∷ []) (93 ∷ []) (codes ",\"X\":\"" ++ (number ++ 34 ∷ 125 ∷ [])))

var_print : (t : Listed) → IsTag t.0 → compact_text (var_data t) ≡ var_text t
var_print t h =
    var_is t ∙ (ap₂ var_printed (escaped_all t.0 (tag_is_visible t.0 h)) (number_escape t.1) ∙ var_shape (flat_map escaped_byte t.0) (canonical_text t.1))

-- what stands behind one that is told
commas_after : List Listed → List ℕ
commas_after [] = []
commas_after (t ∷ ts) = 44 ∷ with_commas (map var_text (t ∷ ts))

first_commas : (t : Listed) (ts : List Listed) → with_commas (map var_text (t ∷ ts)) ≡ var_text t ++ commas_after ts
unfolding commas_after
first_commas t [] = sym (append-nil (var_text t))
first_commas t (n ∷ ts) = refl

items_after : (ts : List Listed) → AreTagged ts → items_text true (items_of (map var_data ts)) ≡ commas_after ts ++ 93 ∷ []
unfolding commas_after
items_after [] h = refl
items_after (t ∷ ts) h =
    ap₂ (λ (x y : List ℕ). 44 ∷ (x ++ y)) (var_print t h.0) (items_after ts h.1)
    ∙ (ap (λ (x : List ℕ). 44 ∷ x) (sym (append_assoc (var_text t) (commas_after ts) (93 ∷ [])))
    ∙ ap (λ (x : List ℕ). 44 ∷ (x ++ 93 ∷ [])) (sym (first_commas t ts)))

items_print : (ts : List Listed) → AreTagged ts → items_text false (items_of (map var_data ts)) ≡ with_commas (map var_text ts) ++ 93 ∷ []
items_print [] h = refl
items_print (t ∷ ts) h =
    ap₂ (λ (x y : List ℕ). x ++ y) (var_print t h.0) (items_after ts h.1)
    ∙ (sym (append_assoc (var_text t) (commas_after ts) (93 ∷ [])) ∙ ap (λ (x : List ℕ). x ++ 93 ∷ []) (sym (first_commas t ts)))

abbrev pub ending : Outcome → List ℕ
ending o = codes ",\"Status\":" ++ (decimal o.status ++ (codes ",\"Work\":" ++ (decimal o.work ++ codes "}")))

abbrev pub info_printed : Outcome → List ℕ → List ℕ
info_printed o middle = codes "{\"IterCount\":" ++ (decimal o.pivots ++ (codes ",\"NodeCount\":" ++ (decimal o.nodes ++ middle)))

alone_is : (o : Outcome) → compact_text (info_with o None) ≡ info_printed o (kept_text None ++ ending o)
unfolding serde_json_on_literals digits
alone_is o = refl

with_is : (o : Outcome) (x : Fraction) → compact_text (info_with o (Some x)) ≡ info_printed o (codes ",\"ObjVal\":\"" ++ ((escape (canonical_text x) ++ 34 ∷ []) ++ (codes ",\"SolCount\":1" ++ ending o)))
unfolding serde_json_on_literals digits
with_is o x = refl

info_as : (o : Outcome) (point : Option Point) → compact_text (info_with o (option_map (λ p. p.value) point)) ≡ info_printed o (kept_text point ++ ending o)
info_as o None = alone_is o
info_as o (Some p) =
    with_is o p.value
    ∙ (ap (λ (v : List ℕ). info_printed o (codes ",\"ObjVal\":\"" ++ ((v ++ 34 ∷ []) ++ (codes ",\"SolCount\":1" ++ ending o)))) (number_escape p.value)
    ∙ (ap (λ (x : List ℕ). info_printed o (codes ",\"ObjVal\":\"" ++ x)) (append_assoc (canonical_text p.value) (34 ∷ []) (codes ",\"SolCount\":1" ++ ending o))
    ∙ ap (λ (x : List ℕ). info_printed o (codes ",\"ObjVal\":\"" ++ x)) (sym (append_assoc (canonical_text p.value) (codes "\",\"SolCount\":1") (ending o)))))

info_print : (o : Outcome) → compact_text (info_data o) ≡ info_text o
info_print o = info_as o o.point

tagged_one : (detail : ℕ) (v : Var) (x : Fraction) (tag : Option (List ℕ)) (told : Option Listed) → told ≡ listed_tag detail x tag → IfSome tag IsTag → IfSome told (λ t. IsTag t.0)
tagged_one detail v x tag None is h = tt
tagged_one detail v x None (Some t) is h = absurd (cc)
tagged_one detail v x (Some tag) (Some t) is h = cases ((detail == 0) && int_eq x.num (pos 0))
    (λ e. absurd (let bad : Some t ≡ None = is ∙ rw e refl in cc))
    (λ e. let same : Some t ≡ Some (tag, x) = is ∙ rw e refl in let pair : t ≡ (tag, x) = cc in subst (λ (u : Listed). IsTag u.0) (sym pair) h)

tagged_more : (f : Var × Fraction → Option Listed) (p : Var × Fraction) (ps : List (Var × Fraction)) (o : Option Listed) → f p ≡ o → IfSome o (λ t. IsTag t.0) → AreTagged (filter_map f ps) → AreTagged (filter_map f (p ∷ ps))
tagged_more f p ps None is h rest = rw is rest
tagged_more f p ps (Some t) is h rest = rw is (h, rest)

tagged : (detail : ℕ) (vars : List Var) (xs : List Fraction) → All (λ v. IfSome v.tag IsTag) vars → AreTagged (filter_map (listed_var detail) (zip vars xs))
tagged detail [] xs h = tt
tagged detail (v ∷ vars) [] h = tt
tagged detail (v ∷ vars) (x ∷ xs) h =
    tagged_more (listed_var detail) (v, x) (zip vars xs) (listed_var detail (v, x)) refl
    (tagged_one detail v x v.tag (listed_var detail (v, x)) refl (All-head (λ (w : Var). IfSome w.tag IsTag) v vars h)) (tagged detail vars xs (All-tail (λ (w : Var). IfSome w.tag IsTag) v vars h))

tagged_at : (detail : ℕ) (m : Model) (point : Option Point) → All (λ v. IfSome v.tag IsTag) m.vars → AreTagged (listed detail m point)
tagged_at detail m None h = tt
tagged_at detail m (Some p) h = tagged detail m.vars p.xs h

abbrev pub whole_printed : List ℕ → List ℕ → List ℕ
whole_printed info items = codes "{\"SolutionInfo\":" ++ (info ++ (codes ",\"Vars\":[" ++ (items ++ 125 ∷ [])))

whole_is : (info : Data) (ts : List Listed)
    → compact_text (object (member (codes "SolutionInfo") info (member (codes "Vars") (array (items_of (map var_data ts))) no_members)))
    ≡ whole_printed (compact_text info) (items_text false (items_of (map var_data ts)))
unfolding serde_json_on_literals
whole_is info ts = refl

solution_prints : (info : Data) (ts : List Listed) (text : List ℕ) → compact_text info ≡ text → AreTagged ts
    → compact_text (object (member (codes "SolutionInfo") info (member (codes "Vars") (array (items_of (map var_data ts))) no_members)))
    ≡ codes "{\"SolutionInfo\":" ++ (text ++ (codes ",\"Vars\":[" ++ (with_commas (map var_text ts) ++ codes "]}")))
solution_prints info ts text is h =
    whole_is info ts ∙ (ap₂ whole_printed is (items_print ts h)
    ∙ ap (λ (x : List ℕ). codes "{\"SolutionInfo\":" ++ (text ++ (codes ",\"Vars\":[" ++ x))) (append_assoc (with_commas (map var_text ts)) (93 ∷ []) (125 ∷ [])))

no_float : (ts : List Listed) → items_have_float (items_of (map var_data ts)) ≡ false
no_float [] = refl
no_float (t ∷ ts) = no_float ts

info_no_float : (o : Outcome) (value : Option Fraction) → has_float (info_with o value) ≡ false
info_no_float o None = refl
info_no_float o (Some x) = refl

pub solution_no_float : (m : Model) (o : Outcome) (detail : ℕ) → has_float (solution_data m o detail) ≡ false
solution_no_float m o detail = rw (info_no_float o (option_map (λ p. p.value) o.point)) (rw (no_float (listed detail m o.point)) refl)

pub solution_print : (m : Model) (o : Outcome) (detail : ℕ) → All (λ v. IfSome v.tag IsTag) m.vars → compact_text (solution_data m o detail) ≡ solution_text m o detail
solution_print m o detail h = solution_prints (info_data o) (listed detail m o.point) (info_text o) (info_print o) (tagged_at detail m o.point h)
