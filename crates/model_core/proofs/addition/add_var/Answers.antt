use Rattle.std.proofs.Common.{rules, ◌≡◌, refl, sym, ◌∙◌, ap, ap₂, arith, ℕ, ◌||◌, Bool, true, false, List, [], ◌∷◌, ◌++◌, bytes_eq, Option, Some, None, Ok, inr, option_map, Vec, Global}
use Rattle.std.specs.List.{list_any}
use Rattle.std.specs.Option.{option_map_or}
use Rattle.std.proofs.lemmas.List.{map_push}
use Rattle.model_data.specs.Names.{is_name}
use Rattle.model_data.specs.declared.model.Var.{Var}
use Rattle.model_core.proofs.Added.{tags_with, var_doubled, var_fits, var_too_many, with_var}
use Rattle.model_core.proofs.Judged.{answer-duplicate, answer-ok, answer-size}
use Rattle.model_core.proofs.addition.add_var.Goals as goal

-- the text of a tag, and the tag
told_tag : (o : Option (Vec ℕ Global)) (t : Option (List ℕ)) → option_map (λ v. v.items) o ≡ t → (text : List ℕ)
    → option_map_or (λ v. bytes_eq text v.items) o false ≡ option_map_or (bytes_eq text) t false
told_tag (Some v) (Some tag) e text = ap (λ (o : Option (List ℕ)). option_map_or (bytes_eq text) o false) e
told_tag (Some v) None e text = absurd cc
told_tag None (Some tag) e text = absurd cc
told_tag None None e text = refl

new_tag : (o : Option (Vec ℕ Global)) (t : Option (List ℕ)) (texts : List (List ℕ)) → option_map (λ v. v.items) o ≡ t
    → option_map_or (λ tag. list_any (bytes_eq tag) texts) t false ≡ false → option_map_or (λ v. list_any (bytes_eq v.items) texts) o false ≡ false
new_tag (Some v) t texts e h = ap (λ (o : Option (List ℕ)). option_map_or (λ tag. list_any (bytes_eq tag) texts) o false) e ∙ h
new_tag None t texts e h = refl

or_right : (a b : Bool) → (a || b) ≡ false → b ≡ false
or_right true b e = absurd cc
or_right false b e = e

or_left : (a b : Bool) → (a || b) ≡ false → a ≡ false
or_left true b e = absurd cc
or_left false b e = refl

pub returns-then-is_doubled-clause-refused : goal.returns-then-is_doubled-clause-refused
returns-then-is_doubled-clause-refused c =
    let v = c.args.var.now in
    let named = ap is_name (sym c.as_bytes-name.ensures) ∙ sym c.is_name.ensures ∙ c.if-not-is_name.false in
    inr (answer-duplicate (is_name v.name) _ (with_var c.args.model.now v) named (var_doubled c.requires.index v ∙ sym c.is_doubled.ensures ∙ c.if-is_doubled.true))

pub returns-then-len-ge-MAX_VARS-clause-refused : goal.returns-then-len-ge-MAX_VARS-clause-refused
returns-then-len-ge-MAX_VARS-clause-refused c =
    let v = c.args.var.now in
    let named = ap is_name (sym c.as_bytes-name.ensures) ∙ sym c.is_name.ensures ∙ c.if-not-is_name.false in
    let len = c.len.ensures in
    let full = c.if-len-ge-MAX_VARS.true in
    inr (answer-size (is_name v.name) _ (with_var c.args.model.now v) named (var_doubled c.requires.index v ∙ sym c.is_doubled.ensures ∙ c.if-is_doubled.false)
    (var_too_many c.args.model.now v (omega (arith, len, full))))

pub add_reserved-requires-clause-new : goal.add_reserved-requires-clause-new
add_reserved-requires-clause-new c =
    let v = c.args.var.now in
    let texts = c.args.tables.now.vars.texts in
    let free = or_left (list_any (bytes_eq v.name) texts) _ (sym c.is_doubled.ensures ∙ c.if-is_doubled.false) in
    let text : c.in_ok-text.text.items ≡ v.name = search rules in
    let same : c.reserve.new.self.texts ≡ texts = search rules in
    ap₂ (λ (t : List ℕ) (l : List (List ℕ)). list_any (bytes_eq t) l) text same ∙ free

pub add_tag-requires-clause-new : goal.add_tag-requires-clause-new
add_tag-requires-clause-new c =
    let v = c.args.var.now in
    let texts = c.args.tables.now.tags.texts in
    let free = or_right (list_any (bytes_eq v.name) c.args.tables.now.vars.texts) _ (sym c.is_doubled.ensures ∙ c.if-is_doubled.false) in
    let same : c.reserve-2.new.self.texts ≡ texts = search rules in
    ap (λ (l : List (List ℕ)). option_map_or (λ t. list_any (bytes_eq t.items) l) c.in_ok-tag.tag false) same
    ∙ new_tag c.in_ok-tag.tag v.tag texts c.in_ok-tag.ensures free

pub returns-clause-ok : goal.returns-clause-ok
returns-clause-ok c =
    let v = c.args.var.now in
    let m = c.args.model.now in
    let named = ap is_name (sym c.as_bytes-name.ensures) ∙ sym c.is_name.ensures ∙ c.if-not-is_name.false in
    let len = c.len.ensures in
    let room = c.if-len-ge-MAX_VARS.false in
    answer-ok (is_name v.name) _ (with_var m v) named (var_doubled c.requires.index v ∙ sym c.is_doubled.ensures ∙ c.if-is_doubled.false)
    (var_fits m v c.requires.lawful (omega (arith, len, room)))
    ∙ ap Ok (sym (c.in_ok-push_var.ensures.ok ∙ ap (with_var m) c.in_ok-copy.ensures))

pub returns-clause-index : goal.returns-clause-index
returns-clause-index c =
    let v = c.args.var.now in
    let m = c.args.model.now in
    let text : c.in_ok-text.text.items ≡ v.name = search rules in
    let names : c.reserve.new.self.texts ≡ c.args.tables.now.vars.texts = search rules in
    let tags : c.reserve-2.new.self.texts ≡ c.args.tables.now.tags.texts = search rules in
    rw (c.in_ok-push_var.ensures.ok ∙ ap (with_var m) c.in_ok-copy.ensures) (record {
      vars = c.add_reserved.ensures ∙ ap₂ (λ (l : List (List ℕ)) (t : List ℕ). l ++ t ∷ []) (names ∙ c.requires.index.vars) text
          ∙ sym (map_push (λ (w : Var). w.name) m.vars v);
      rows = c.requires.index.rows;
      tags = λ tag. c.add_tag.ensures tag
          ∙ ap₂ (λ (a b : Bool). a || b) (ap (list_any (bytes_eq tag)) tags ∙ c.requires.index.tags tag)
          (told_tag c.in_ok-tag.tag v.tag c.in_ok-tag.ensures tag)
          ∙ sym (tags_with m v tag);
      terms = c.requires.index.terms;
    })
