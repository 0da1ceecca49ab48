use Rattle.std.proofs.Common.{◌∙◌, sym}
use Rattle.lp_parse.proofs.Known.{knows_var_shown}
use Rattle.lp_parse.proofs.draft.Draft.mention.Goals as goal

pub mention_if_new-requires : goal.mention_if_new-requires
mention_if_new-requires c =
    c.is_some-is_known.ensures ∙ c.place.ensures.found ∙ sym (knows_var_shown c.self.inside c.self.invariant c.self.view_is c.args.name.now)
