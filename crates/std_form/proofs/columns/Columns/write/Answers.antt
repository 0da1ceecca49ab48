use Rattle.std.proofs.Common.{◌≡◌, ◌∙◌, sym, ap, ap₂, ℕ, length, ◌<◌, get_or, rules, arith}
use Rattle.solve_defs.specs.StandardForm.{Shape, entries, free}
use Rattle.std_form.specs.Shapes.{shape_of, with_entries}
use Rattle.std_form.proofs.Entries.{entries-set}
use Rattle.std_form.proofs.Places.{Stands, stands}
use Rattle.std_form.proofs.columns.Columns.write.Goals as goal

pub write-requires : goal.write-requires
write-requires c =
    let own : c.in-Some.placed.now ≡ get_or c.self.inside.placed.items c.args.place c.in-Some.placed.now = search rules in
    let within : c.args.place < length c.self.inside.placed.items = search rules in
    let here : Stands c.args.self.now c.args.place c.in-Some.placed.now = stands _ _ _ c.args.place _ c.self.view_is c.self.invariant within own in
    omega (arith, here.ends, c.requires)

pub returns-in-Some : goal.returns-in-Some
returns-in-Some c xs sizes are =
    let own : c.in-Some.placed.now ≡ get_or c.self.inside.placed.items c.args.place c.in-Some.placed.now = search rules in
    let within : c.args.place < length c.self.inside.placed.items = search rules in
    let here : Stands c.args.self.now c.args.place c.in-Some.placed.now = stands _ _ _ c.args.place _ c.self.view_is c.self.invariant within own in
    c.write.ensures
    ∙ ap (with_entries c.in-Some.placed.now.column (shape_of c.in-Some.placed.now.shape) c.args.coef.now) are
    ∙ ap₂ (λ (n : ℕ) (shape : Shape). with_entries n shape c.args.coef.now (entries c.args.self.now xs)) here.column (sym (here.shape free))
    ∙ sym (entries-set c.args.self.now xs c.args.place c.args.coef.now free sizes here.within)
