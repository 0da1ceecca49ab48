use Rattle.std.proofs.Common.{◌≡◌, ap, sym, ◌∙◌, bytes_eq, List, ℕ, true, false, Vec, Global}
use Rattle.std.specs.List.{list_any}
use Rattle.std.specs.Set.{KeepsOthers}
use Rattle.std.proofs.lemmas.Bool.{false_from_ne_true, false≢true}
use Rattle.std.proofs.lemmas.Slice.Eq.{bytes_eq-Decides}
use Rattle.model_core.specs.Texts.{Table}
use Rattle.model_core.proofs.Mapped.{any-map}
use Rattle.model_core.proofs.texts.Texts.take_out.Goals as goal

items : Vec ℕ Global → List ℕ
items text = text.items

-- what a text is equal to is equal to what the text is
same_test : (other x y : List ℕ) → bytes_eq other x ≡ true → bytes_eq other y ≡ bytes_eq x y
same_test other x y e = ap (λ (t : List ℕ). bytes_eq t y) ((bytes_eq-Decides other x).0 e)

apart : (text other x : List ℕ) → bytes_eq text other ≡ false → bytes_eq text x ≡ true → bytes_eq other x ≡ false
apart text other x differ e = false_from_ne_true (bytes_eq other x) (λ same.
    false≢true (sym differ ∙ (bytes_eq-Decides text other).1 ((bytes_eq-Decides text x).0 e ∙ sym ((bytes_eq-Decides other x).0 same))))

pub returns-clause-gone : goal.returns-clause-gone
unfolding items
returns-clause-gone c =
    any-map items (bytes_eq c.args.text.now) c.swap_remove.new.self.keys ∙ c.swap_remove.ensures.updates.1

pub returns-clause-others : goal.returns-clause-others
unfolding items KeepsOthers
returns-clause-others c = λ other differ.
    any-map items (bytes_eq other) c.swap_remove.new.self.keys
    ∙ c.swap_remove.ensures.updates.3 (λ k. bytes_eq other k.items)
    (λ x y e. same_test other x.items y.items e)
    (λ k e. apart c.args.text.now other k.items differ e)
    ∙ sym (any-map items (bytes_eq other) c.self.inside.table.keys)
    ∙ ap (λ (t : Table). list_any (bytes_eq other) t.texts) c.self.view_is
