use Rattle.base_io.proofs.BufferParts.{skip_range}
use Rattle.base_io.proofs.buffer.Buffer.skip.Goals as goal

pub returns : goal.returns
returns c = rw (← c.self.view_is) (skip_range c.self.inside.bytes.items c.self.inside.start c.args.n c.self.inside.end)
