use Rattle.std.proofs.Common.{◌≡◌, ◌<◌, ◌==◌, ◌-◌, ◌+◌, ◌∙◌, ℕ, sym, ap, subst, subst₂, map, length, Some, rules}
use Rattle.std.specs.Prelude.{Contains, position, remove}
use Rattle.dictionary.specs.Cells.{rows_of}
use Rattle.dictionary.specs.Dense.{width_of}
use Rattle.dictionary.specs.Dictionary.{Dictionary, end_phase_one}
use Rattle.dictionary.proofs.Ended.{ended, place_is, place_there, place_within}
use Rattle.dictionary.proofs.dense.DictTableau.end_phase_one.Goals as goal

pub unwrap-place-requires : goal.unwrap-place-requires
unwrap-place-requires c =
    let artificial : Contains c.self.inside.nonbasic.items 0 = subst (λ (d : Dictionary). Contains d.nonbasic 0) (sym c.self.view_is) c.requires.artificial in
    rw (c.place_of_artificial.ensures, c.as_slice.ensures.value) (place_there c.self.inside.nonbasic.items artificial)

pub returns : goal.returns
returns c =
    let artificial : Contains c.self.inside.nonbasic.items 0 = subst (λ (d : Dictionary). Contains d.nonbasic 0) (sym c.self.view_is) c.requires.artificial in
    let found : position (λ index. index == 0) c.self.inside.nonbasic.items ≡ Some c.unwrap-place.result =
    ap (position (λ index. index == 0)) (sym c.as_slice.ensures.value) ∙ sym c.place_of_artificial.ensures ∙ (search rules) in
    let place = place_is c.self.inside.nonbasic.items c.unwrap-place.result found in
    let within : c.unwrap-place.result < length c.self.inside.nonbasic.items = subst (λ (n : ℕ). n < length c.self.inside.nonbasic.items) (sym place) (place_within c.self.inside.nonbasic.items artificial) in
    let width : c.len-width.result + 1 ≡ width_of c.self.inside = search rules in
    let count : c.len.result ≡ length c.self.inside.basic.items = search rules in
    ended c.self.inside c.unwrap-place.result c.remove-2.new.self.items c.remove_column.new.cells.items c.remove.new.self.items place within (search rules) (search rules)
    (subst₂ (λ (w m : ℕ). rows_of (w - 1) m c.remove_column.new.cells.items ≡ map (λ row. remove row (c.unwrap-place.result + 1)) (rows_of w m c.self.inside.cells.items)) width count c.remove_column.ensures.rows)
    ∙ ap end_phase_one c.self.view_is
