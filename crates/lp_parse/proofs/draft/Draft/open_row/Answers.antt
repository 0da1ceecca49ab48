use Rattle.std.proofs.Common.{rules, ◌≡◌, sym, ◌∙◌}
use Rattle.lp_defs.specs.Draft.{knows_row}
use Rattle.lp_parse.proofs.Known.{knows_row_shown}
use Rattle.lp_parse.proofs.draft.Draft.open_row.Goals as goal

pub returns-then-is_some : goal.returns-then-is_some
returns-then-is_some c =
    let known : knows_row c.args.title.now c.args.self.now.model ≡ c.is_some.result =
    knows_row_shown c.self.inside c.self.invariant c.self.view_is c.args.title.now ∙ sym c.place.ensures.found ∙ sym c.is_some.ensures in
    search rules

pub returns-then-len-ge-MAX_ROWS : goal.returns-then-len-ge-MAX_ROWS
returns-then-len-ge-MAX_ROWS c =
    let known : knows_row c.args.title.now c.args.self.now.model ≡ c.is_some.result =
    knows_row_shown c.self.inside c.self.invariant c.self.view_is c.args.title.now ∙ sym c.place.ensures.found ∙ sym c.is_some.ensures in
    search rules

pub returns : goal.returns
returns c =
    let known : knows_row c.args.title.now c.args.self.now.model ≡ c.is_some.result =
    knows_row_shown c.self.inside c.self.invariant c.self.view_is c.args.title.now ∙ sym c.place.ensures.found ∙ sym c.is_some.ensures in
    search rules
