-- The tags of a model's variables, and the table of them.
use Rattle.std.proofs.Common.{◌≡◌, ◌≢◌, refl, sym, ◌∙◌, ap, ap₂, arith, ℕ, zero, suc, ◌<◌, Bool, true, false, not, ◌&&◌, ◌||◌}
use Rattle.std.proofs.Common.{List, [], ◌∷◌, ◌++◌, length, filter_map, get_or, position, bytes_eq, Option, Some, None, All}
use Rattle.std.specs.List.{cons_option, list_any, remove}
use Rattle.std.specs.Option.{option_map_or}
use Rattle.std.proofs.lemmas.Bool.{false_from_ne_true, false≢true}
use Rattle.std.proofs.lemmas.List.Folds.{list_any-append, list_any_at}
use Rattle.std.proofs.lemmas.Slice.Eq.{bytes_eq-Decides}
use Rattle.model_data.specs.Lawful.{AreDistinct, IsLawful}
use Rattle.model_data.specs.declared.model.Model.{Model}
use Rattle.model_data.specs.declared.model.Var.{Var}
use Rattle.model_core.specs.Field.{at_place, with_tag}
use Rattle.model_core.specs.Indexed.{IsIndexOf}
use Rattle.model_core.specs.Named.{has_tag, is_var, knows_tag, knows_var}
use Rattle.model_core.specs.declared.tables.Tables.{Tables}
use Rattle.model_core.proofs.AtPlace.{any-and_not, any-filter_not, any-remove, any-set, at_place-set}
use Rattle.model_core.proofs.ByName.{named_at, pairs_head, pairs_tail, removed_at}

apart_step : (tag : List ℕ) (o : Option (List ℕ)) (more : List (List ℕ)) (any : Bool)
    → All (λ (t : List ℕ). tag ≢ t) (cons_option o more) → (All (λ (t : List ℕ). tag ≢ t) more → any ≡ false) → (option_map_or (bytes_eq tag) o false || any) ≡ false
apart_step tag None more any h k = k h
apart_step tag (Some t) more any h k =
    let other : bytes_eq tag t ≡ false = false_from_ne_true (bytes_eq tag t) (λ e. h 0 t (omega arith) ((bytes_eq-Decides tag t).0 e)) in
    ap (λ b. b || any) other ∙ k (λ i d within. h (suc i) d (omega (arith, within)))

-- a text that is none of the tags is no variable's
none_has : (tag : List ℕ) (vars : List Var) → All (λ (t : List ℕ). tag ≢ t) (filter_map (λ (v : Var). v.tag) vars) → list_any (has_tag tag) vars ≡ false
none_has tag [] h = refl
none_has tag (v ∷ vars) h = apart_step tag v.tag (filter_map (λ (v : Var). v.tag) vars) (list_any (has_tag tag) vars) h (none_has tag vars)

and_false : (b : Bool) → (b && false) ≡ false
and_false true = refl
and_false false = refl

and_true : (b : Bool) → (b && true) ≡ b
and_true true = refl
and_true false = refl

distinct_rest : (o : Option (List ℕ)) (more : List (List ℕ)) → AreDistinct (cons_option o more) → AreDistinct more
distinct_rest None more h = h
distinct_rest (Some t) more h = pairs_tail (λ (x y : List ℕ). x ≢ y) t more h

-- the tag of the first variable is that of no other
first_apart : (tag : List ℕ) (o : Option (List ℕ)) (more : List (List ℕ)) → AreDistinct (cons_option o more) → option_map_or (bytes_eq tag) o false ≡ true
    → All (λ (t : List ℕ). tag ≢ t) more
first_apart tag None more h e = absurd cc
first_apart tag (Some t) more h e = λ k d within same.
    pairs_head (λ (x y : List ℕ). x ≢ y) t more h k d within (sym ((bytes_eq-Decides tag t).0 e) ∙ same)

behind_step : (tag : List ℕ) (v : Var) (vars : List Var) (i : ℕ) (d : Var) → AreDistinct (cons_option v.tag (filter_map (λ (w : Var). w.tag) vars))
    → i < length vars → has_tag tag (get_or vars i d) ≡ true → has_tag tag v ≡ false
behind_step tag v vars i d distinct within has = false_from_ne_true (has_tag tag v) (λ e.
    false≢true (sym (none_has tag vars (first_apart tag v.tag (filter_map (λ (w : Var). w.tag) vars) distinct e))
    ∙ list_any_at (has_tag tag) vars i d within has))

-- no variable has the tag of another one
pub tags_apart : (tag : List ℕ) (vars : List Var) (i : ℕ) (d : Var) → AreDistinct (filter_map (λ (v : Var). v.tag) vars) → i < length vars
    → has_tag tag (get_or vars i d) ≡ true → list_any (has_tag tag) (remove vars i) ≡ false
tags_apart tag [] i d distinct within has = absurd (omega (arith, within))
tags_apart tag (v ∷ vars) zero d distinct within has =
    none_has tag vars (first_apart tag v.tag (filter_map (λ (w : Var). w.tag) vars) distinct has)
tags_apart tag (v ∷ vars) (suc i) d distinct within has =
    ap (λ b. b || list_any (has_tag tag) (remove vars i)) (behind_step tag v vars i d distinct (omega (arith, within)) has)
    ∙ tags_apart tag vars i d (distinct_rest v.tag (filter_map (λ (w : Var). w.tag) vars) distinct) (omega (arith, within)) has

module _ {tables : Tables} {m : Model} (index : IsIndexOf tables m) (lawful : IsLawful m) (place : ℕ) (v : Var) (within : place < length m.vars)
    (read : v ≡ get_or m.vars place v) where
  known_elsewhere : (tag : List ℕ) → knows_tag tag m ≡ (has_tag tag v || list_any (has_tag tag) (remove m.vars place))
  known_elsewhere tag =
      any-remove (has_tag tag) m.vars place v within
      ∙ ap (λ (w : Var). has_tag tag w || list_any (has_tag tag) (remove m.vars place)) (sym read)

  own_tag : (tag : List ℕ) → has_tag tag v ≡ true → list_any (has_tag tag) (remove m.vars place) ≡ false
  own_tag tag has = tags_apart tag m.vars place v lawful.tags within (ap (has_tag tag) (sym read) ∙ has)

  -- a table without the variable's tag has the tags of the others
  pub forgotten : (texts : List (List ℕ)) → ((tag : List ℕ) → has_tag tag v ≡ true → list_any (bytes_eq tag) texts ≡ false)
      → ((tag : List ℕ) → has_tag tag v ≡ false → list_any (bytes_eq tag) texts ≡ list_any (bytes_eq tag) tables.tags.texts)
      → (tag : List ℕ) → list_any (bytes_eq tag) texts ≡ list_any (has_tag tag) (remove m.vars place)
  forgotten texts gone others tag = by_own (has_tag tag v) refl where
    by_own : (b : Bool) → has_tag tag v ≡ b → list_any (bytes_eq tag) texts ≡ list_any (has_tag tag) (remove m.vars place)
    by_own true e = gone tag e ∙ sym (own_tag tag e)
    by_own false e = others tag e ∙ index.tags tag ∙ known_elsewhere tag ∙ ap (λ b. b || list_any (has_tag tag) (remove m.vars place)) e

  -- whether another variable has the tag
  pub taken : (name tag : List ℕ) → position (is_var name) m.vars ≡ Some place → knows_var name m ≡ true
      → list_any (λ w. has_tag tag w && not (is_var name w)) m.vars ≡ (list_any (bytes_eq tag) tables.tags.texts && not (has_tag tag v))
  taken name tag found known =
      let others = remove m.vars place in
      let named = named_at (λ (w : Var). w.name) name m.vars place v found known in
      let unnamed : list_any (is_var name) others ≡ false =
      ap (list_any (is_var name)) (removed_at (λ (w : Var). w.name) name m.vars place lawful.var_names found known)
      ∙ any-filter_not (is_var name) m.vars in
      any-remove (λ w. has_tag tag w && not (is_var name w)) m.vars place v within
      ∙ ap₂ (λ a b. a || b) (not_itself (has_tag tag (get_or m.vars place v)) (is_var name (get_or m.vars place v)) named)
      (any-and_not (has_tag tag) (is_var name) others unnamed)
      ∙ by_own (has_tag tag v) refl where
        not_itself : (a b : Bool) → b ≡ true → (a && not b) ≡ false
        not_itself a true e = and_false a
        not_itself a false e = absurd cc

        by_own : (b : Bool) → has_tag tag v ≡ b
            → list_any (has_tag tag) (remove m.vars place) ≡ (list_any (bytes_eq tag) tables.tags.texts && not (has_tag tag v))
        by_own true e = own_tag tag e ∙ sym (ap (λ b. list_any (bytes_eq tag) tables.tags.texts && not b) e ∙ and_false (list_any (bytes_eq tag) tables.tags.texts))
        by_own false e =
            sym (ap₂ (λ a b. a && not b) (index.tags tag ∙ known_elsewhere tag ∙ ap (λ b. b || list_any (has_tag tag) (remove m.vars place)) e) e
            ∙ and_true (list_any (has_tag tag) (remove m.vars place)))

  -- the table with the variable's new tag
  pub retagged : (texts : List (List ℕ)) (new : List ℕ) → ((tag : List ℕ) → list_any (bytes_eq tag) texts ≡ list_any (has_tag tag) (remove m.vars place))
      → (tag : List ℕ) → list_any (bytes_eq tag) (texts ++ new ∷ []) ≡ list_any (has_tag tag) (at_place place (with_tag new) m.vars)
  retagged texts new others tag =
      list_any-append (bytes_eq tag) texts (new ∷ [])
      ∙ or_swap (list_any (bytes_eq tag) texts) (bytes_eq tag new)
      ∙ ap (λ b. bytes_eq tag new || b) (others tag)
      ∙ sym (ap (list_any (has_tag tag)) (at_place-set (with_tag new) m.vars place v within)
      ∙ any-set (has_tag tag) m.vars place (with_tag new (get_or m.vars place v)) within) where
        or_swap : (a b : Bool) → (a || (b || false)) ≡ (b || a)
        or_swap true true = refl
        or_swap true false = refl
        or_swap false true = refl
        or_swap false false = refl
