use Rattle.std.proofs.Common.{ℕ, List, [], Option, ap, sym, ◌∙◌, subst}
use Rattle.base_io.specs.Held.{Held}
use Rattle.base_io.specs.Reader.{Moves, IsPartOfLine}
use Rattle.base_io.proofs.Giving.{GivesLine-after}
use Rattle.base_io.proofs.reader.LineReader.line.Goals as goal

pub returns-in-At-clause-line : goal.returns-in-At-clause-line
returns-in-At-clause-line g c = λ none.
    let waits = ap (λ (h : Held). h.waiting) c.self.view_is ∙ (none ∙ sym c.take.ensures.after) in
    let same = ap (λ (w : Option (List ℕ)). let h : Held = record { bytes = c.self.inside.buffer.held; ended = c.self.inside.ended; given = c.self.inside.given; waiting = w } in h) (sym waits) ∙ c.self.view_is in
    let found = rw c.in-At.is at c.in_ok-place.ensures.found in
    let P : Held → Type 0 = λ h. Moves IsPartOfLine h c.find_line_end.new.self (g.S.Source.left c.args.source.now) (g.S.Source.left c.find_line_end.new.source) [] in
    GivesLine-after c.ended_line.result c.args.self.now c.find_line_end.new.self c.ended_line.new.self _ _ (subst P same found.0) (c.ended_line.ensures.line (g.S.Source.left c.find_line_end.new.source))

pub returns-in-Input-clause-line : goal.returns-in-Input-clause-line
returns-in-Input-clause-line g c = λ none.
    let waits = ap (λ (h : Held). h.waiting) c.self.view_is ∙ (none ∙ sym c.take.ensures.after) in
    let same = ap (λ (w : Option (List ℕ)). let h : Held = record { bytes = c.self.inside.buffer.held; ended = c.self.inside.ended; given = c.self.inside.given; waiting = w } in h) (sym waits) ∙ c.self.view_is in
    let found = rw c.in-Input.is at c.in_ok-place.ensures.found in
    let P : Held → Type 0 = λ h. Moves IsPartOfLine h c.find_line_end.new.self (g.S.Source.left c.args.source.now) (g.S.Source.left c.find_line_end.new.source) [] in
    GivesLine-after c.last_line.result c.args.self.now c.find_line_end.new.self c.last_line.new.self _ _ (subst P same found.0) (c.last_line.ensures.line (g.S.Source.left c.find_line_end.new.source))
