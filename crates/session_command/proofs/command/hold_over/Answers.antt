use Rattle.session_command.proofs.Holding.{held_over}
use Rattle.session_command.proofs.command.hold_over.Goals as goal

pub returns-clause-held : goal.returns-clause-held
returns-clause-held g c =
    held_over c.args.hub c.into_hub.result c.new-desk.result c.talk_over-end.new.desk c.into_disk.result c.talk_over-end.result c.args.owner c.args.role _ _ _ _
    c.new-desk.ensures c.talk_over-end.ensures.same_desk c.talk_over-end.ensures.converses c.into_hub.ensures.hub c.into_hub.ensures.stands c.into_disk.ensures
