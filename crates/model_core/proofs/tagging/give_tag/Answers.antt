use Rattle.std.proofs.Common.{rules, ◌≡◌, refl, sym, ◌∙◌, ap, ℕ, ◌<◌, ◌&&◌, Bool, false, not, List, [], ◌∷◌, ◌++◌, length, bytes_eq, Ok, inr, get_or}
use Rattle.std.specs.List.{list_any}
use Rattle.model_data.specs.declared.model.Model.{Model}
use Rattle.model_data.specs.declared.model.Var.{Var}
use Rattle.model_core.specs.Effect.{on_var}
use Rattle.model_core.specs.Field.{at_place, with_tag}
use Rattle.model_core.specs.Named.{has_tag, is_var, knows_var}
use Rattle.model_core.proofs.ByName.{map-changed}
use Rattle.model_core.proofs.Judged.{answer-duplicate, answer-name, answer-ok}
use Rattle.model_core.proofs.Known.{known_var, place_of_var, var_within, var_written}
use Rattle.model_core.proofs.OneField.{on_var-within}
use Rattle.model_core.proofs.Tags.{forgotten, retagged, taken}
use Rattle.model_core.proofs.tagging.give_tag.Goals as goal

abbrev doubled : Model → (name tag : List ℕ) → Bool
doubled m name tag = list_any (λ v. has_tag tag v && not (is_var name v)) m.vars

pub returns-in_default-clause-refused : goal.returns-in_default-clause-refused
returns-in_default-clause-refused c =
    let m = c.args.model.now in
    inr (answer-name (knows_var c.args.name.now m) (doubled m c.args.name.now c.args.tag.now) (on_var c.args.name.now (with_tag c.args.tag.now) m)
    (known_var c.requires.index c.args.name.now ∙ sym c.in_default.ensures.found))

pub returns-then-is_taken-clause-refused : goal.returns-then-is_taken-clause-refused
returns-then-is_taken-clause-refused c =
    let m = c.args.model.now in
    let inside : c.in-Some.place < length m.vars = var_within c.requires.index c.args.name.now c.in-Some.ensures.within in
    let known = known_var c.requires.index c.args.name.now ∙ sym c.in-Some.ensures.found in
    let found = place_of_var c.requires.index c.args.name.now ∙ sym c.in-Some.ensures.place in
    inr (answer-duplicate (knows_var c.args.name.now m) (doubled m c.args.name.now c.args.tag.now) (on_var c.args.name.now (with_tag c.args.tag.now) m) known
    (taken c.requires.index c.requires.lawful c.in-Some.place c.index-as_slice-place.result inside (c.index-as_slice-place.is ∙ ap (λ (vars : List Var). get_or vars c.in-Some.place c.index-as_slice-place.result) c.as_slice.ensures) c.args.name.now c.args.tag.now found known
    ∙ sym c.is_taken.ensures ∙ c.if-is_taken.true))

pub returns-clause-ok : goal.returns-clause-ok
returns-clause-ok c =
    let m = c.args.model.now in
    let inside : c.in-Some.place < length m.vars = var_within c.requires.index c.args.name.now c.in-Some.ensures.within in
    let known = known_var c.requires.index c.args.name.now ∙ sym c.in-Some.ensures.found in
    let found = place_of_var c.requires.index c.args.name.now ∙ sym c.in-Some.ensures.place in
    let free = taken c.requires.index c.requires.lawful c.in-Some.place c.index-as_slice-place.result inside (c.index-as_slice-place.is ∙ ap (λ (vars : List Var). get_or vars c.in-Some.place c.index-as_slice-place.result) c.as_slice.ensures) c.args.name.now c.args.tag.now found known
    ∙ sym c.is_taken.ensures ∙ c.if-is_taken.false in
    let is = var_written c.requires.index c.args.name.now c.requires.lawful c.in-Some.ensures.place c.in-Some.ensures.found (with_tag c.args.tag.now) in
    answer-ok (knows_var c.args.name.now m) (doubled m c.args.name.now c.args.tag.now) (on_var c.args.name.now (with_tag c.args.tag.now) m) known free
    (on_var-within c.args.name.now (with_tag c.args.tag.now) m c.requires.lawful)
    ∙ ap Ok (sym (c.put_tag.ensures
    ∙ ap (λ (tag : List ℕ). record m { vars = at_place c.in-Some.place (with_tag tag) m.vars }) c.in_ok-copy.ensures ∙ is))

pub returns-clause-index : goal.returns-clause-index
returns-clause-index c =
    let m = c.args.model.now in
    let place = c.in-Some.place in
    let inside : place < length m.vars = var_within c.requires.index c.args.name.now c.in-Some.ensures.within in
    let is = var_written c.requires.index c.args.name.now c.requires.lawful c.in-Some.ensures.place c.in-Some.ensures.found (with_tag c.args.tag.now) in
    let v = c.index-as_slice-place-2.result in
    let read : v ≡ get_or m.vars place v = c.index-as_slice-place-2.is ∙ ap (λ (vars : List Var). get_or vars place v) c.as_slice-2.ensures in
    let text : c.in_ok-text.text.items ≡ c.args.tag.now = search rules in
    let tags : c.reserve.new.self.texts ≡ c.args.tables.now.tags.texts = search rules in
    let gone = λ (tag : List ℕ). c.forget_tag.ensures.gone tag in
    let others = λ (tag : List ℕ) (h : has_tag tag v ≡ false). c.forget_tag.ensures.others tag h ∙ ap (list_any (bytes_eq tag)) tags in
    let kept = forgotten c.requires.index c.requires.lawful place v inside read c.forget_tag.new.tags.texts gone others in
    rw (c.put_tag.ensures ∙ ap (λ (tag : List ℕ). record m { vars = at_place place (with_tag tag) m.vars }) c.in_ok-copy.ensures ∙ is) (record {
      vars = c.requires.index.vars ∙ sym (map-changed (λ (w : Var). w.name) (is_var c.args.name.now) (with_tag c.args.tag.now) m.vars (λ w. refl));
      rows = c.requires.index.rows;
      tags = λ tag. ap (list_any (bytes_eq tag)) (c.add_reserved.ensures ∙ ap (λ (t : List ℕ). c.forget_tag.new.tags.texts ++ t ∷ []) text)
          ∙ retagged c.requires.index c.requires.lawful place v inside read c.forget_tag.new.tags.texts c.args.tag.now kept tag
          ∙ ap (λ (n : Model). list_any (has_tag tag) n.vars) is;
      terms = c.requires.index.terms;
    })
