-- Lines and words, written one by one.
use Rattle.std.proofs.Common.{◌≡◌, refl, sym, ◌∙◌, ap, ℕ, true, false, ◌||◌, List, [], ◌∷◌, ◌++◌, map, codes, append_assoc, Result}
use Rattle.std.specs.List.{flat_map, list_any}
use Rattle.std.specs.Result.{OnOk}
use Rattle.std.proofs.lemmas.List.{append-nil}
use Rattle.std.proofs.lemmas.Result.{on_ok_weaker}
use Rattle.std.proofs.lemmas.Grind.{flat_map-append}
use Rattle.std.proofs.lemmas.List.Folds.{flat_map-map}
use Rattle.frac_text.specs.Writing.{canonical_text as number_text}
use Rattle.lp_defs.specs.Canonical.{canonical_text, constant_terms, direction_text, joined, kind_lines, bounds_of, line, line_feed, lines, name_at, objective_line, objective_terms, row_line, section, sense_text, space, spaced, spaced_word, term_text}
use Rattle.model_data.specs.declared.model.Model.{Model}
use Rattle.model_data.specs.declared.model.Row.{Row}
use Rattle.model_data.specs.declared.model.Term.{Term}
use Rattle.model_data.specs.declared.model.Var.{Var}
use Rattle.model_data.specs.declared.model.VarKind.TheVariants.{Integer, Binary}
use Rattle.lp_print.specs.Listed.{is_listed}

-- what a last call has reached, under another name
pub on_ok_reached : {E : Type 0} (r : Result (Unit {0}) E) (new reached whole : List ℕ) → reached ≡ whole → OnOk r (new ≡ reached) → OnOk r (new ≡ whole)
on_ok_reached r new reached whole e h = on_ok_weaker r (λ (f : new ≡ reached). f ∙ e) h

-- the lines of all, as each adds its own
lines-flat_map : {X : Type 0} (f : X → List (List ℕ)) (xs : List X) → lines (flat_map f xs) ≡ flat_map (λ x. lines (f x)) xs
lines-flat_map f [] = refl
lines-flat_map f (x ∷ xs) = flat_map-append line (f x) (flat_map f xs) ∙ ap (λ bytes. lines (f x) ++ bytes) (lines-flat_map f xs)

-- the lines of a section with something under its heading
lines-section : (heading : List ℕ) (texts : List (List ℕ)) → is_listed texts ≡ true → lines (section heading texts) ≡ line heading ++ lines texts
lines-section heading [] h = absurd cc
lines-section heading (text ∷ texts) h = refl

lines-section-none : (heading : List ℕ) (texts : List (List ℕ)) → is_listed texts ≡ false → lines (section heading texts) ≡ []
lines-section-none heading [] h = refl
lines-section-none heading (text ∷ texts) h = absurd cc

is_listed-append : (texts more : List (List ℕ)) → is_listed (texts ++ more) ≡ (is_listed texts || is_listed more)
is_listed-append [] more = refl
is_listed-append (text ∷ texts) more = refl

-- something stands in the whole where something stands in one
is_listed-flat_map : {X : Type 0} (f : X → List (List ℕ)) (xs : List X) → is_listed (flat_map f xs) ≡ list_any (λ x. is_listed (f x)) xs
is_listed-flat_map f [] = refl
is_listed-flat_map f (x ∷ xs) = is_listed-append (f x) (flat_map f xs) ∙ ap (λ b. is_listed (f x) || b) (is_listed-flat_map f xs)

-- a section with something under its heading, as it is written
section_written : {X : Type 0} (heading : List ℕ) (f : X → List (List ℕ)) (xs : List X) → list_any (λ x. is_listed (f x)) xs ≡ true → lines (section heading (flat_map f xs)) ≡ line heading ++ flat_map (λ x. lines (f x)) xs
section_written heading f xs h = lines-section heading (flat_map f xs) (is_listed-flat_map f xs ∙ h) ∙ ap (λ bytes. line heading ++ bytes) (lines-flat_map f xs)

-- a section with nothing under its heading isn't written
section_left_out : {X : Type 0} (heading : List ℕ) (f : X → List (List ℕ)) (xs : List X) → list_any (λ x. is_listed (f x)) xs ≡ false → lines (section heading (flat_map f xs)) ≡ []
section_left_out heading f xs h = lines-section-none heading (flat_map f xs) (is_listed-flat_map f xs ∙ h)

-- a section, added behind its heading
pub section_added : {X : Type 0} (heading : List ℕ) (f : X → List (List ℕ)) (xs : List X) (out mid new : List ℕ) → list_any (λ x. is_listed (f x)) xs ≡ true → mid ≡ out ++ line heading → new ≡ mid ++ flat_map (λ x. lines (f x)) xs → new ≡ out ++ lines (section heading (flat_map f xs))
section_added heading f xs out mid new h head rest =
    let entries = flat_map (λ x. lines (f x)) xs in
    rest ∙ (ap (λ bytes. bytes ++ entries) head ∙ (append_assoc out (line heading) entries ∙ ap (λ bytes. out ++ bytes) (sym (section_written heading f xs h))))

-- a section that adds nothing
pub section_not_added : {X : Type 0} (heading : List ℕ) (f : X → List (List ℕ)) (xs : List X) (out : List ℕ) → list_any (λ x. is_listed (f x)) xs ≡ false → out ≡ out ++ lines (section heading (flat_map f xs))
section_not_added heading f xs out h = sym (ap (λ bytes. out ++ bytes) (section_left_out heading f xs h) ∙ append-nil out)

-- words joined by spaces, behind a space
joined-some : (words : List (List ℕ)) → is_listed words ≡ true → space ∷ joined words ≡ spaced words
joined-some [] h = absurd cc
joined-some (word ∷ words) h = refl

-- the objective's terms, as each adds its own
spaced-objective_terms : (m : Model) → spaced (objective_terms m) ≡ flat_map (λ v. spaced_word (term_text v.obj v.name)) m.vars ++ spaced (constant_terms m.constant)
spaced-objective_terms m =
    let term : Var → List ℕ = λ v. term_text v.obj v.name in
    flat_map-append spaced_word (map term m.vars) (constant_terms m.constant)
    ∙ ap (λ bytes. bytes ++ spaced (constant_terms m.constant)) (flat_map-map spaced_word term m.vars)

pub objective_written : (m : Model) (out : List ℕ) → is_listed (objective_terms m) ≡ true → (out ++ flat_map (λ v. spaced_word (term_text v.obj v.name)) m.vars) ++ spaced (constant_terms m.constant) ≡ out ++ space ∷ joined (objective_terms m)
objective_written m out h =
    append_assoc out (flat_map (λ v. spaced_word (term_text v.obj v.name)) m.vars) (spaced (constant_terms m.constant))
    ∙ ap (λ bytes. out ++ bytes) (sym (joined-some (objective_terms m) h ∙ spaced-objective_terms m))

-- a row, written from its label on
row_words : (words : List (List ℕ)) (sense number : List ℕ) → spaced (words ++ sense ∷ number ∷ []) ≡ spaced words ++ (spaced_word sense ++ spaced_word number)
row_words words sense number = flat_map-append spaced_word words (sense ∷ number ∷ []) ∙ ap (λ bytes. spaced words ++ (spaced_word sense ++ bytes)) (append-nil (spaced_word number))

row_bytes : (out label colon terms sense number end : List ℕ) → (((((out ++ label) ++ colon) ++ terms) ++ sense) ++ number) ++ end ≡ out ++ (((label ++ colon) ++ (terms ++ (sense ++ number))) ++ end)
row_bytes out label colon terms sense number end = simp append_assoc refl

words_written : (out name sense number : List ℕ) (words : List (List ℕ)) → (((((out ++ spaced_word name) ++ codes ":") ++ spaced words) ++ spaced_word sense) ++ spaced_word number) ++ line_feed ∷ [] ≡ out ++ line (space ∷ joined ((name ++ codes ":") ∷ (words ++ sense ∷ number ∷ [])))
words_written out name sense number words =
    row_bytes out (spaced_word name) (codes ":") (spaced words) (spaced_word sense) (spaced_word number) (line_feed ∷ [])
    ∙ ap (λ bytes. out ++ line (space ∷ ((name ++ codes ":") ++ bytes))) (sym (row_words words sense number))

pub row_written : (vars : List Var) (row : Row) (out : List ℕ) → (((((out ++ spaced_word row.name) ++ codes ":") ++ flat_map (λ t. spaced_word (term_text t.coef (name_at vars t.var))) row.terms) ++ spaced_word (sense_text row.sense)) ++ spaced_word (number_text row.rhs)) ++ line_feed ∷ [] ≡ out ++ line (row_line vars row)
row_written vars row out =
    let term : Term → List ℕ = λ t. term_text t.coef (name_at vars t.var) in
    let front = (out ++ spaced_word row.name) ++ codes ":" in
    ap (λ bytes. (((front ++ bytes) ++ spaced_word (sense_text row.sense)) ++ spaced_word (number_text row.rhs)) ++ line_feed ∷ []) (sym (flat_map-map spaced_word term row.terms))
    ∙ words_written out row.name (sense_text row.sense) (number_text row.rhs) (map term row.terms)

-- a range, written from its lower bound on
range_bytes : (out lower less before name between upper end : List ℕ) → ((out ++ lower) ++ less) ++ ((((before ++ name) ++ between) ++ upper) ++ end) ≡ out ++ (((((lower ++ (less ++ before)) ++ name) ++ between) ++ upper) ++ end)
range_bytes out lower less before name between upper end = simp append_assoc refl

pub range_written : (out lower name upper : List ℕ) → ((out ++ spaced_word lower) ++ codes " <=") ++ line (codes " " ++ name ++ codes " <= " ++ upper) ≡ out ++ line (codes " " ++ lower ++ codes " <= " ++ name ++ codes " <= " ++ upper)
range_written out lower name upper = range_bytes out (spaced_word lower) (codes " <=") (codes " ") name (codes " <= ") upper (line_feed ∷ [])

all_lines : (a b c d e : List (List ℕ)) (last : List ℕ) → lines (a ++ b ++ c ++ d ++ e ++ last ∷ []) ≡ ((((lines a ++ lines b) ++ lines c) ++ lines d) ++ lines e) ++ line last
all_lines a b c d e last =
    rw (flat_map-append line (a ++ b ++ c ++ d ++ e) (last ∷ []))
    (rw (flat_map-append line (a ++ b ++ c ++ d) e)
    (rw (flat_map-append line (a ++ b ++ c) d)
    (rw (flat_map-append line (a ++ b) c)
    (rw (flat_map-append line a b)
    (ap (λ bytes. ((((lines a ++ lines b) ++ lines c) ++ lines d) ++ lines e) ++ bytes) (append-nil (line last)))))))

top_lines : (first second third : List ℕ) → lines (first ∷ second ∷ third ∷ []) ≡ (line first ++ line second) ++ line third
top_lines first second third = ap (λ bytes. line first ++ (line second ++ bytes)) (append-nil (line third)) ∙ sym (append_assoc (line first) (line second) (line third))

-- the whole text, written line by line
pub canonical_text-written : (m : Model) → canonical_text m ≡ ((((((line (direction_text m.direction) ++ line (objective_line m)) ++ line (codes "Subject To")) ++ flat_map (λ r. line (row_line m.vars r)) m.rows) ++ lines (section (codes "Bounds") (flat_map bounds_of m.vars))) ++ lines (section (codes "Generals") (flat_map (kind_lines Integer) m.vars))) ++ lines (section (codes "Binaries") (flat_map (kind_lines Binary) m.vars))) ++ line (codes "End")
canonical_text-written m =
    let top = direction_text m.direction ∷ objective_line m ∷ codes "Subject To" ∷ [] in
    let rows = map (row_line m.vars) m.rows in
    let bounds = section (codes "Bounds") (flat_map bounds_of m.vars) in
    let generals = section (codes "Generals") (flat_map (kind_lines Integer) m.vars) in
    let binaries = section (codes "Binaries") (flat_map (kind_lines Binary) m.vars) in
    all_lines top rows bounds generals binaries (codes "End")
    ∙ (ap (λ bytes. ((((lines top ++ bytes) ++ lines bounds) ++ lines generals) ++ lines binaries) ++ line (codes "End")) (flat_map-map line (row_line m.vars) m.rows)
    ∙ ap (λ bytes. ((((bytes ++ flat_map (λ r. line (row_line m.vars r)) m.rows) ++ lines bounds) ++ lines generals) ++ lines binaries) ++ line (codes "End")) (top_lines (direction_text m.direction) (objective_line m) (codes "Subject To")))
